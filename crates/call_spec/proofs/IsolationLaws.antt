-- What one session has queued or watched alters no answer to another.
use Prim.Native.Nat.{ℕ, ◌<◌}
use mathlib.Core.Bool.{Bool, true, false, cond, false≢true}
use mathlib.Core.List.{List, [], ◌∷◌, map}
use Rattle.std.specs.Prelude.{Option, None}
use mathlib.Core.Path.{◌≡◌, refl, sym, ap, ◌∙◌}
use lib.Dec.{leb, ltb}
use lib.ListN.{length}
use borrow.Author.Tests.{ltb-true}
use Rattle.base_key.specs.Bytes.{Bytes}
use Rattle.resp_spec.specs.Request.{Reading, waits, faulty, too_many, whole, read_request, spanned}
use Rattle.resp_spec.specs.Reply.{Reply, encode}
use Rattle.store_memtable.specs.Versions.{Store, read_at}
use Rattle.group_spec.specs.declared.Verdict.{Verdict}
use Rattle.group_spec.specs.declared.Verdict.TheVariants.{Accepted, Conflict, NoRoom, NoSequence, NotTaken}
use Rattle.group_spec.specs.Group.{plain, verdict_alone}
use Rattle.command_spec.specs.Names.{Args, row_of, name_word, Control, MULTI, EXEC, DISCARD, WATCH, UNWATCH, QUIT, other, control_of}
use Rattle.command_spec.specs.Command.{Executed, runs, lists, Effect, executed_of, run}
use Rattle.command_spec.specs.Session.{Session, Result, number, reply, Done, committed, direct, outside_multi, respond_by, respond}
use Rattle.command_spec.specs.Finish.{Served, silent, fitted, finish_by, finish}
use Rattle.call_spec.specs.Serve.{serve_reading, serve, answered, exec_previewed}
use Rattle.call_spec.specs.Calls.{Lent, valid, session_of, Called, leave_served, request_call, preview_call}
use Rattle.call_spec.specs.Posting.{asked_by}
use Rattle.call_spec.specs.Demand3.{SameFor, Isolated, is_command, asks_command}
use Rattle.call_spec.proofs.CallLaws.{preview_no_session, preview_valid}
use Rattle.call_spec.proofs.LentLaws.{served_by, request_served, request_refused, request_leaves}

module _ (i : ℕ) (s : Bytes) (places room : ℕ) where
  -- a request is served by the store and its own session alone
  same_served : (l m : Lent) → SameFor i l m → served_by i s places room l ≡ served_by i s places room m
  same_served l m h = λ z. serve places room s (h.store z) (h.session z)

  same_answer : (l m : Lent) → valid l ≡ true → valid m ≡ true → SameFor i l m → (request_call i s places room l).outcome ≡ (request_call i s places room m).outcome
  same_answer l m p q h = go (ltb i 16) refl
    where
      go : (b : Bool) → ltb i 16 ≡ b → (request_call i s places room l).outcome ≡ (request_call i s places room m).outcome
      go true e =
          let k = ltb-true i 16 e in
          ap (λ (x : Called). x.outcome) (request_served i s places room l k p) ∙ ap answered (same_served l m h)
          ∙ sym (ap (λ (x : Called). x.outcome) (request_served i s places room m k q))
      go false e = ap (λ (x : Called). x.outcome) (request_refused i s places room l e) ∙ sym (ap (λ (x : Called). x.outcome) (request_refused i s places room m e))

  -- what a request leaves, in both ranges of the session's number
  left : (l : Lent) → i < 16 → valid l ≡ true → (request_call i s places room l).lent ≡ leave_served i (served_by i s places room l) l
  left l k p = ap (λ (x : Called). x.lent) (request_served i s places room l k p)

  unserved : (l : Lent) → ltb i 16 ≡ false → (request_call i s places room l).lent ≡ l
  unserved l e = ap (λ (x : Called). x.lent) (request_refused i s places room l e)

  same_left : (l m : Lent) → valid l ≡ true → valid m ≡ true → SameFor i l m → SameFor i (request_call i s places room l).lent (request_call i s places room m).lent
  same_left l m p q h = go (ltb i 16) refl
    where
      go : (b : Bool) → ltb i 16 ≡ b → SameFor i (request_call i s places room l).lent (request_call i s places room m).lent
      go true e =
          let k = ltb-true i 16 e in
          let a = request_leaves i s places room l k p in
          let b = request_leaves i s places room m k q in
          let d = same_served l m h in
          rw (left l k p, left m k q) (record {
            store = a.store ∙ ap (λ (x : Served). x.store) d ∙ sym b.store;
            session = a.own ∙ ap (λ (x : Served). x.session) d ∙ sym b.own;
          })
      go false e = rw (unserved l e, unserved m e) h

  others_left : (j : ℕ) (l : Lent) → valid l ≡ true → j < 16 → (j ≡ i → ⊥) → session_of j (request_call i s places room l).lent ≡ session_of j l
  others_left j l p k n = go (ltb i 16) refl
    where
      go : (b : Bool) → ltb i 16 ≡ b → session_of j (request_call i s places room l).lent ≡ session_of j l
      go true e = ap (session_of j) (left l (ltb-true i 16 e) p) ∙ (request_leaves i s places room l (ltb-true i 16 e) p).others j k n
      go false e = ap (session_of j) (unserved l e)

-- a preview on two such states
module _ (i room : ℕ) (l m : Lent) (p : valid l ≡ true) (q : valid m ≡ true) (h : SameFor i l m) where
  same_preview : (preview_call i room l).outcome ≡ (preview_call i room m).outcome
  same_preview = go (ltb i 16) refl
    where
      go : (b : Bool) → ltb i 16 ≡ b → (preview_call i room l).outcome ≡ (preview_call i room m).outcome
      go false e = rw (preview_no_session i room l e, preview_no_session i room m e)
      go true e = rw (preview_valid i room l e p, preview_valid i room m e q) (λ z. exec_previewed room (h.store z) (h.session z))

pub isolated : Isolated
isolated = record {
  answers = λ i s places room l m p q h. same_answer i s places room l m p q h;
  leaves = λ i s places room l m p q h. same_left i s places room l m p q h;
  others = λ i j s places room l p k n. others_left i s places room j l p k n;
  previews = same_preview;
}

-- A COMMAND OUTSIDE MULTI is served by the store alone, and leaves its session.
abbrev done_for : Session → Done → Done
done_for s d = record { result = d.result; store = d.store; session = s }

abbrev pub served_for : Session → Served → Served
served_for s v = record { number = v.number; used = v.used; reply = v.reply; store = v.store; session = s }

is_command_lem : (c : Control) → is_command c ≡ true → c ≡ other
is_command_lem MULTI e = absurd (false≢true e)
is_command_lem EXEC e = absurd (false≢true e)
is_command_lem DISCARD e = absurd (false≢true e)
is_command_lem WATCH e = absurd (false≢true e)
is_command_lem UNWATCH e = absurd (false≢true e)
is_command_lem QUIT e = absurd (false≢true e)
is_command_lem other e = refl

command_direct : (a : Args) (st : Store) (s : Session) → is_command (control_of (row_of (name_word a)).name) ≡ true → s.queue ≡ None → respond a st s ≡ direct (executed_of a) st s
unfolding respond
command_direct a st s e n =
    let r = row_of (name_word a) in
    let outside : respond_by None r a st s ≡ outside_multi (control_of r.name) r a st s = unfold respond_by in refl in
    let directly : outside_multi other r a st s ≡ direct (executed_of a) st s = unfold outside_multi in refl in
    ap (λ (q : Option (List Args)). respond_by q r a st s) n ∙ outside ∙ ap (λ (c : Control). outside_multi c r a st s) (is_command_lem (control_of r.name) e) ∙ directly

module _ (st : Store) (s t : Session) where
  direct_alike : (x : Executed) → direct x st s ≡ done_for s (direct x st t)
  unfolding direct committed
  direct_alike (lists l) = refl
  direct_alike (runs c) = let e = run (read_at st.last st.versions) c in go e (verdict_alone st (plain e.1))
    where
      go : (e : Effect) (v : Verdict) → committed v e st s ≡ done_for s (committed v e st t)
      go e Accepted = refl
      go e Conflict = refl
      go e NoRoom = refl
      go e NoSequence = refl
      go e NotTaken = refl

  finish_alike : (room used : ℕ) (d : Done) → finish room used (done_for s d) st s ≡ served_for s (finish room used d st t)
  unfolding finish
  finish_alike room used d = go d.result
    where
      fits : (r : Reply) (b : Bool)
          → cond {A = Served} b (record { number = 0; used = used; reply = encode r; store = d.store; session = s }) (silent 3 0 st s)
          ≡ served_for s (cond b (record { number = 0; used = used; reply = encode r; store = d.store; session = d.session }) (silent 3 0 st t))
      fits r true = refl
      fits r false = refl

      go : (r : Result) → finish_by r room used (done_for s d) st s ≡ served_for s (finish_by r room used d st t)
      go (number n) = unfold finish_by in refl
      go (reply r) = unfold finish_by fitted in fits r (leb (length (encode r)) room)

  reading_alike : (room : ℕ) (input : Bytes) (x : Reading) → asks_command (asked_by input x) ≡ true → s.queue ≡ None → t.queue ≡ None
      → serve_reading room input x st s ≡ served_for s (serve_reading room input x st t)
  unfolding serve_reading asked_by
  reading_alike room input waits e n m = absurd (false≢true e)
  reading_alike room input too_many e n m = absurd (false≢true e)
  reading_alike room input (faulty f) e n m = absurd (false≢true e)
  reading_alike room input (whole [] used) e n m = absurd (false≢true e)
  reading_alike room input (whole (p ∷ ps) used) e n m =
      let a = map (spanned input) (p ∷ ps) in
      let alike : respond a st s ≡ done_for s (respond a st t) =
      command_direct a st s e n ∙ direct_alike (executed_of a) ∙ ap (done_for s) (sym (command_direct a st t e m)) in
      ap (λ (d : Done). finish room used d st s) alike ∙ finish_alike room used (respond a st t)

  pub serve_alike : (places room : ℕ) (input : Bytes) → asks_command (asked_by input (read_request places input)) ≡ true → s.queue ≡ None → t.queue ≡ None
      → serve places room input st s ≡ served_for s (serve places room input st t)
  unfolding serve
  serve_alike places room input = reading_alike room input (read_request places input)
