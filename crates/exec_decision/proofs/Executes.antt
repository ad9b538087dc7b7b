-- EXEC is its decision applied. Assumes nothing.
use Prim.Native.Nat.{ℕ}
use native.Mathlib.Omega.{arith}
use mathlib.Core.Path.{◌≡◌, refl, sym, ap, ◌∙◌}
use mathlib.Core.Bool.{Bool, true, false, cond}
use mathlib.Core.List.{List, []}
use mathlib.Core.Logic.{◌⊎◌, inl, inr}
use Rattle.std.specs.Prelude.{Option, None, Some, Err}
use lib.Dec.{leb, eqb}
use lib.ListN.{length}
use borrow.Author.Tests.{eq-eqb, eqb-true}
use Rattle.base_key.specs.Bytes.{Bytes}
use Rattle.resp_spec.specs.Reply.{Reply, NilArray, array, encode}
use Rattle.store_memtable.specs.Table.{Write}
use Rattle.store_memtable.specs.Versions.{Store, commit}
use Rattle.store_memtable.proofs.VersionLaws.{commit_last}
use Rattle.group_spec.specs.declared.Verdict.{Verdict}
use Rattle.group_spec.specs.declared.Verdict.TheVariants.{Accepted, Conflict, NoRoom, NoSequence, NotTaken}
use Rattle.group_spec.specs.Group.{plain, conflicts, has_room, has_sequences, judge, verdict_byte, verdict_alone}
use Rattle.command_spec.specs.Names.{Args}
use Rattle.command_spec.specs.Command.{Ran}
use Rattle.command_spec.specs.Session.{Session, clear, says, Decision, exec_abort, any_moved, verdict_exec, decided, decide, apply, execute}
use Rattle.command_spec.specs.declared.CallError.{CallError}
use Rattle.command_spec.specs.declared.CallError.TheVariants as error
use Rattle.command_spec.specs.Numbers.{error_number}
use Rattle.exec_decision.specs.Numbers.{preview_numbers}
use Rattle.command_spec.proofs.SessionLaws.{ran_by, writes_by}
use Rattle.command_spec.specs.Finish.{silent, fitted, finish_by, finish}
use Rattle.exec_decision.specs.Decided.{Decided, stopped, decided_reply, decided_by, decide_queue, decide_by, decide_exec, applied, refused_preview, preview_decided}

module _ (room used : ℕ) (st : Store) (s : Session) where
  -- a reply, with what it writes
  reply_applied : (v : Verdict) (r : Reply) (ws : List Write) → finish room used (says r (commit ws st) clear) st s ≡ applied used (decided_reply room v (encode r) ws) st s
  unfolding finish finish_by fitted decided_reply applied
  reply_applied v r ws = go (leb (length (encode r)) room)
    where
      go : (b : Bool) → cond b (record { number = 0; used = used; reply = encode r; store = commit ws st; session = clear }) (silent 3 0 st s)
          ≡ applied used (cond b (record { number = 0; verdict = verdict_byte v; reply = encode r; writes = ws }) (stopped 3)) st s
      go true = refl
      go false = refl

  by_verdict : (v : Verdict) (d : Decision) → finish room used (apply v d st s) st s ≡ applied used (decided_by v room d) st s
  unfolding apply decided_by
  by_verdict Accepted d = reply_applied Accepted d.answer d.writes
  by_verdict Conflict d = unfold commit in reply_applied Conflict d.answer []
  by_verdict NoRoom d = unfold finish finish_by applied in refl
  by_verdict NoSequence d = unfold finish finish_by applied in refl
  by_verdict NotTaken d = unfold commit in reply_applied NotTaken d.answer []

  -- EXEC of a queue
  pub executes : (q : List Args) → finish room used (execute q st s) st s ≡ applied used (decide_queue room q st s) st s
  unfolding execute decide_queue
  executes q = by_verdict (decide q st s).verdict (decide q st s)

-- WHAT IS APPLIED, without a number and with one
module _ (used : ℕ) (f : Decided) (st : Store) (s : Session) where
  pub applied_zero : f.number ≡ 0 → applied used f st s ≡ record { number = 0; used = used; reply = f.reply; store = commit f.writes st; session = clear }
  unfolding applied
  applied_zero e = rw (eq-eqb f.number 0 e)

  pub applied_number : (f.number ≡ 0 → ⊥) → applied used f st s ≡ silent f.number 0 st s
  unfolding applied
  applied_number e = go (eqb f.number 0) refl
    where
      go : (t : Bool) → eqb f.number 0 ≡ t
          → cond t (record { number = 0; used = used; reply = f.reply; store = commit f.writes st; session = clear }) (silent f.number 0 st s) ≡ silent f.number 0 st s
      go true p = absurd (e (eqb-true f.number 0 p))
      go false p = refl

  -- the last sequence that a preview gives is the one that is left
  pub preview_last : f.number ≡ 0 → (preview_decided st.last f).last ≡ (applied used f st s).store.last
  unfolding preview_decided applied
  preview_last e = rw (eq-eqb f.number 0 e) (sym (commit_last f.writes st))

-- AN ERROR has a number
pub error_numbered : (e : CallError) → error_number e ≡ 0 → ⊥
error_numbered error.NoSession z = absurd (omega arith)
error_numbered error.TooManyArguments z = absurd (omega arith)
error_numbered error.ReplyTooLong z = absurd (omega arith)
error_numbered error.QueueFull z = absurd (omega arith)
error_numbered error.WatchFull z = absurd (omega arith)
error_numbered error.NoRoom z = absurd (omega arith)
error_numbered error.NoSequence z = absurd (omega arith)
error_numbered error.GroupUnfit z = absurd (omega arith)
error_numbered error.MemoryUnfit z = absurd (omega arith)

-- A PREVIEW that is an error tells its number alone
pub preview_refused : (e : CallError) → preview_numbers (Err e) ≡ refused_preview (error_number e)
preview_refused e = refl

-- A NUMBER comes without reply
abbrev pub Silent : Decided → Type 0
Silent f = (f.number ≡ 0 → ⊥) → f.reply ≡ []

reply_silent : (room : ℕ) (v : Verdict) (b : Bytes) (ws : List Write) → Silent (decided_reply room v b ws)
unfolding decided_reply
reply_silent room v b ws = go (leb (length b) room)
  where
    go : (t : Bool) → Silent (cond t (record { number = 0; verdict = verdict_byte v; reply = b; writes = ws }) (stopped 3))
    go true n = absurd (n refl)
    go false n = refl

by_silent : (v : Verdict) (room : ℕ) (d : Decision) → Silent (decided_by v room d)
unfolding decided_by
by_silent Accepted room d = reply_silent room _ _ _
by_silent Conflict room d = reply_silent room _ _ _
by_silent NoRoom room d = λ _. refl
by_silent NoSequence room d = λ _. refl
by_silent NotTaken room d = reply_silent room _ _ _

pub queue_silent : (room : ℕ) (q : List Args) (st : Store) (s : Session) → Silent (decide_queue room q st s)
unfolding decide_queue
queue_silent room q st s = by_silent (decide q st s).verdict room (decide q st s)

option_silent : (q : Option (List Args)) (room : ℕ) (st : Store) (s : Session) → Silent (decide_by q room st s)
unfolding decide_by
option_silent None room st s = reply_silent room _ _ _
option_silent (Some q) room st s = queue_silent room q st s

pub exec_silent : (room : ℕ) (st : Store) (s : Session) → Silent (decide_exec room st s)
unfolding decide_exec
exec_silent room st s = option_silent s.queue room st s

-- THE NUMBERS OF EXEC: 6, 7 and 3
abbrev pub ExecNumber : ℕ → Type 0
ExecNumber n = (n ≡ 0) ⊎ ((n ≡ 6) ⊎ ((n ≡ 7) ⊎ (n ≡ 3)))

reply_number : (room : ℕ) (v : Verdict) (b : Bytes) (ws : List Write) → ExecNumber (decided_reply room v b ws).number
unfolding decided_reply
reply_number room v b ws = go (leb (length b) room)
  where
    go : (t : Bool) → ExecNumber (cond t (record { number = 0; verdict = verdict_byte v; reply = b; writes = ws }) (stopped 3)).number
    go true = inl refl
    go false = inr (inr (inr refl))

by_number : (v : Verdict) (room : ℕ) (d : Decision) → ExecNumber (decided_by v room d).number
unfolding decided_by
by_number Accepted room d = reply_number room _ _ _
by_number Conflict room d = reply_number room _ _ _
by_number NoRoom room d = inr (inl refl)
by_number NoSequence room d = inr (inr (inl refl))
by_number NotTaken room d = reply_number room _ _ _

option_number : (q : Option (List Args)) (room : ℕ) (st : Store) (s : Session) → ExecNumber (decide_by q room st s).number
unfolding decide_by decide_queue
option_number None room st s = reply_number room _ _ _
option_number (Some q) room st s = by_number (decide q st s).verdict room (decide q st s)

pub exec_number : (room : ℕ) (st : Store) (s : Session) → ExecNumber (decide_exec room st s).number
unfolding decide_exec
exec_number room st s = option_number s.queue room st s

-- WHAT IS DECIDED, by the mark, the watched keys, and the queue run: after the queue 6 and 7 come before 3
unfoldable pub judged_to : ℕ → Bytes → Store → List Write → Decided
judged_to room b st ws = cond (has_room st ws) (cond (has_sequences st ws) (decided_reply room Accepted b ws) (stopped 7)) (stopped 6)

module _ (q : List Args) (st : Store) (s : Session) where
  pub decide_failed : s.failed ≡ true → decide q st s ≡ record { verdict = NotTaken; answer = exec_abort; writes = [] }
  unfolding decide
  decide_failed e = rw (e, decide)

  pub decide_runs : s.failed ≡ false → decide q st s ≡ decided (verdict_exec (writes_by q st) st s.watch) (ran_by q st) (writes_by q st)
  unfolding decide ran_by writes_by
  decide_runs f = rw (f, decide)

module _ (room : ℕ) (q : List Args) (st : Store) (s : Session) where
  pub queue_failed : s.failed ≡ true → decide_queue room q st s ≡ decided_reply room NotTaken (encode exec_abort) []
  unfolding decide_queue decided_by
  queue_failed e = ap (λ (d : Decision). decided_by d.verdict room d) (decide_failed q st s e)

  module _ (f : s.failed ≡ false) where
    by_decided : decide_queue room q st s
        ≡ decided_by (decided (verdict_exec (writes_by q st) st s.watch) (ran_by q st) (writes_by q st)).verdict room (decided (verdict_exec (writes_by q st) st s.watch) (ran_by q st) (writes_by q st))
    unfolding decide_queue
    by_decided = ap (λ (d : Decision). decided_by d.verdict room d) (decide_runs q st s f)

    -- conflict comes before 6 and 7
    pub queue_conflict : any_moved st.versions s.watch ≡ true → decide_queue room q st s ≡ decided_reply room Conflict (encode NilArray) []
    unfolding verdict_exec decided_by decided
    queue_conflict m =
        by_decided
        ∙ ap (λ (b : Bool). decided_by (decided (cond b Conflict (verdict_alone st (plain (writes_by q st)))) (ran_by q st) (writes_by q st)).verdict room (decided (cond b Conflict (verdict_alone st (plain (writes_by q st)))) (ran_by q st) (writes_by q st))) m

    verdict_is : any_moved st.versions s.watch ≡ false
        → verdict_exec (writes_by q st) st s.watch ≡ cond (has_room st (writes_by q st)) (cond (has_sequences st (writes_by q st)) Accepted NoSequence) NoRoom
    unfolding verdict_exec verdict_alone judge conflicts
    verdict_is m = rw m

    pub queue_judged : any_moved st.versions s.watch ≡ false → decide_queue room q st s ≡ judged_to room (encode (array (ran_by q st).replies)) st (writes_by q st)
    unfolding judged_to decided_by decided
    queue_judged m =
        by_decided ∙ ap (λ (v : Verdict). decided_by (decided v (ran_by q st) (writes_by q st)).verdict room (decided v (ran_by q st) (writes_by q st))) (verdict_is m)
        ∙ go (has_room st (writes_by q st)) (has_sequences st (writes_by q st)) (ran_by q st) (writes_by q st)
      where
        go : (r n : Bool) (x : Ran) (ws : List Write) → decided_by (decided (cond r (cond n Accepted NoSequence) NoRoom) x ws).verdict room (decided (cond r (cond n Accepted NoSequence) NoRoom) x ws)
            ≡ cond r (cond n (decided_reply room Accepted (encode (array x.replies)) ws) (stopped 7)) (stopped 6)
        go true true x ws = refl
        go true false x ws = refl
        go false n x ws = refl
