-- EXEC agrees with its preview, and a preview changes nothing. Assumes nothing.
use Prim.Native.Nat.{ℕ, ◌+◌}
use native.Mathlib.Omega.{arith}
use mathlib.Core.Path.{◌≡◌, refl, sym, ap, ◌∙◌, subst}
use mathlib.Core.Bool.{Bool, true, false, cond, false≢true}
use mathlib.Core.List.{List, [], ◌∷◌, ◌++◌, map}
use mathlib.Core.Logic.{inl, inr}
use Rattle.std.specs.Prelude.{Option, None, Some}
use lib.Dec.{leb, ltb}
use lib.ListN.{length}
use borrow.Author.Tests.{ltb-true, ne_eqb}
use Rattle.base_key.specs.Bytes.{Bytes, bytes, ◌and◌, same_bytes}
use Rattle.resp_spec.specs.Request.{Reading, waits, faulty, too_many, whole, read_request, spanned}
use Rattle.resp_spec.specs.Reply.{Reply, Error, NilArray, array, encode, err}
use Rattle.store_memtable.specs.Table.{Write}
use Rattle.store_memtable.specs.Versions.{Store, commit}
use Rattle.store_memtable.proofs.VersionLaws.{commit_last}
use Rattle.group_spec.specs.declared.Verdict.{Verdict}
use Rattle.group_spec.specs.declared.Verdict.TheVariants.{Accepted, Conflict, NoRoom, NoSequence, NotTaken}
use Rattle.group_spec.specs.Group.{conflicts, has_room, has_sequences, judge, verdict_byte, verdict_alone}
use Rattle.command_spec.specs.Names.{Args, Row, row_of, name_word, EXEC, control_of}
use Rattle.command_spec.specs.Command.{Ran}
use Rattle.command_spec.specs.Session.{Session, clear, says, outside_multi, Decision, exec_abort, any_moved, verdict_exec, decided, decide, apply, inside_multi, respond_by, respond, execute}
use Rattle.command_spec.proofs.SessionLaws.{ran_by, writes_by}
use Rattle.command_spec.specs.Numbers.{AnswerNumbers}
use Rattle.command_spec.specs.Finish.{Served, silent, fitted, finish_by, finish, reply_buffer}
use Rattle.exec_decision.specs.Numbers.{PreviewNumbers}
use Rattle.exec_decision.specs.Decided.{stopped, decided_reply, decided_by, decide_queue, decide_by, decide_exec}
use Rattle.exec_decision.proofs.Executes.{decide_failed, decide_runs, ExecNumber, exec_number}
use Rattle.call_spec.specs.Serve.{serve_reading, serve, Outcome, refused, previewed, exec_previewed}
use Rattle.call_spec.specs.Calls.{Lent, valid, store_of, session_of, Called, refuses, request_call, preview_call, verdict_in, Call, request, grouped, preview, call, outcomes, final}
use Rattle.call_spec.specs.Posting.{asked_by, is_reply, Event, told, events}
use Rattle.call_spec.specs.Verdicts.{is_exec, asks_exec}
use Rattle.call_spec.specs.Demand3.{SameFor}
use Rattle.call_spec.specs.Captures.{answers_to}
use Rattle.call_spec.specs.Previews.{answer_verdict, ExecAgrees, PreviewClaim, MadePreviewClaim, is_preview, without_previews, not_previewed, PreviewsHold}
use Rattle.call_spec.proofs.CallLaws.{no_session, not_valid, preview_no_session, preview_not_valid, preview_valid}
use Rattle.call_spec.proofs.LentLaws.{served_by, request_served, request_leaves}
use Rattle.call_spec.proofs.ReplyLaws.{error_no_array, nil_array_told, nil_array_no_array, array_told}
use Rattle.call_spec.proofs.Refusals.{leave_other}
use Rattle.call_spec.proofs.PreviewLaws.{previewed_number}
use Rattle.call_spec.proofs.StateLaws.{preview_is_lem}
use Rattle.call_spec.proofs.WatchLaws.{is_exec_lem}

-- WHAT IS SERVED, against the preview
record Agrees (p : Outcome) (d : Served) : Type 0 where
  number : d.number ≡ p.number
  reply : d.reply ≡ p.reply
  verdict : answer_verdict d.number d.reply ≡ verdict_in p
  last : p.number ≡ 0 → d.store.last ≡ p.last
  refused : (p.number ≡ 0 → ⊥) → p.last ≡ 0

-- THE VERDICT, by the bytes of the answer
error_not_nil : (text : Bytes) → is_reply NilArray (encode (Error text)) ≡ false
unfolding encode same_bytes ◌and◌
error_not_nil text = refl

abort_verdict : (text : Bytes) → answer_verdict 0 (encode (Error text)) ≡ 255
unfolding answer_verdict
abort_verdict text = rw (error_no_array text, error_not_nil text)

conflict_verdict : answer_verdict 0 (encode NilArray) ≡ 1
unfolding answer_verdict
conflict_verdict = rw (nil_array_no_array, nil_array_told)

accepted_verdict : (rs : List Reply) → answer_verdict 0 (encode (array rs)) ≡ 0
unfolding answer_verdict
accepted_verdict rs = rw (array_told rs)

-- EXEC of a session, on the store and session of the preview
module _ (room used : ℕ) (st : Store) (s : Session) where
  reply_agrees : (v : Verdict) (r : Reply) (ws : List Write) (st' : Store) (s' : Session) → answer_verdict 0 (encode r) ≡ verdict_byte v → st'.last ≡ st.last + length ws
      → Agrees (previewed st.last (decided_reply room v (encode r) ws)) (finish room used (says r st' s') st s)
  unfolding previewed decided_reply finish finish_by fitted answer_verdict
  reply_agrees v r ws st' s' e h = go (leb (length (encode r)) room)
    where
      go : (b : Bool) → Agrees (previewed st.last (cond b (record { number = 0; verdict = verdict_byte v; reply = encode r; writes = ws }) (stopped 3)))
          (cond b (record { number = 0; used = used; reply = encode r; store = st'; session = s' }) (silent 3 0 st s))
      go true = record { number = refl; reply = refl; verdict = e; last = λ _. h; refused = λ n. absurd (n refl) }
      go false = record { number = refl; reply = refl; verdict = refl; last = λ z. absurd (omega arith); refused = λ n. refl }

  -- what is decided, and applied
  abbrev AgreesOn : Decision → Type 0
  AgreesOn d = Agrees (previewed st.last (decided_by d.verdict room d)) (finish room used (apply d.verdict d st s) st s)

  verdict_agrees : (c h n : Bool) (ran : Ran) (ws : List Write) → AgreesOn (decided (cond c Conflict (cond h (cond n Accepted NoSequence) NoRoom)) ran ws)
  unfolding decided decided_by apply
  verdict_agrees true h n ran ws = reply_agrees Conflict NilArray [] st clear conflict_verdict (omega arith)
  verdict_agrees false true true ran ws = reply_agrees Accepted (array ran.replies) ws (commit ws st) clear (accepted_verdict ran.replies) (commit_last ws st)
  verdict_agrees false true false ran ws = unfold previewed finish finish_by answer_verdict in record { number = refl; reply = refl; verdict = refl; last = λ z. absurd (omega arith); refused = λ n. refl }
  verdict_agrees false false n ran ws = unfold previewed finish finish_by answer_verdict in record { number = refl; reply = refl; verdict = refl; last = λ z. absurd (omega arith); refused = λ n. refl }

  queue_agrees : (q : List Args) → Agrees (previewed st.last (decide_queue room q st s)) (finish room used (execute q st s) st s)
  unfolding decide_queue execute verdict_exec verdict_alone judge conflicts
  queue_agrees q = go s.failed refl
    where
      go : (f : Bool) → s.failed ≡ f → AgreesOn (decide q st s)
      go true e = subst AgreesOn (sym (decide_failed q st s e)) (unfold decided_by apply in reply_agrees NotTaken exec_abort [] st clear (abort_verdict _) (omega arith))
      go false e = subst AgreesOn (sym (decide_runs q st s e))
          (verdict_agrees (any_moved st.versions s.watch) (has_room st (writes_by q st)) (has_sequences st (writes_by q st)) (ran_by q st) (writes_by q st))

  option_agrees : (q : Option (List Args)) (r : Row) (a : Args) → control_of r.name ≡ EXEC → Agrees (previewed st.last (decide_by q room st s)) (finish room used (respond_by q r a st s) st s)
  unfolding decide_by respond_by
  option_agrees None r a e = rw e (unfold outside_multi in reply_agrees NotTaken (err (bytes "EXEC without MULTI")) [] st s (abort_verdict _) (omega arith))
  option_agrees (Some q) r a e = rw e (unfold inside_multi in queue_agrees q)

  respond_agrees : (a : Args) → is_exec (control_of (row_of (name_word a)).name) ≡ true → Agrees (exec_previewed room st s) (finish room used (respond a st s) st s)
  unfolding respond decide_exec
  respond_agrees a e = option_agrees s.queue (row_of (name_word a)) a (is_exec_lem _ e)

-- EXEC, read from its bytes
reading_agrees : (room : ℕ) (input : Bytes) (st : Store) (s : Session) (x : Reading) → asks_exec (asked_by input x) ≡ true
    → Agrees (exec_previewed room st s) (serve_reading room input x st s)
unfolding serve_reading asked_by
reading_agrees room input st s waits e = absurd (false≢true e)
reading_agrees room input st s too_many e = absurd (false≢true e)
reading_agrees room input st s (faulty f) e = absurd (false≢true e)
reading_agrees room input st s (whole [] used) e = absurd (false≢true e)
reading_agrees room input st s (whole (p ∷ ps) used) e = respond_agrees room used st s (map (spanned input) (p ∷ ps)) e

serve_agrees : (places room : ℕ) (input : Bytes) (st : Store) (s : Session) → asks_exec (asked_by input (read_request places input)) ≡ true
    → Agrees (exec_previewed room st s) (serve places room input st s)
unfolding serve
serve_agrees places room input st s e = reading_agrees room input st s (read_request places input) e

-- a number of EXEC is not 4, so it leaves all
not_four : (n : ℕ) → ExecNumber n → n ≡ 4 → ⊥
not_four n (inl e) z = omega arith
not_four n (inr (inl e)) z = omega arith
not_four n (inr (inr (inl e))) z = omega arith
not_four n (inr (inr (inr e))) z = omega arith

-- THE CLAIM. Both calls on lent memory that is not fit return the same number
both_refused : (n : ℕ) (m : Lent) → (n ≡ 0 → ⊥) → ExecAgrees (refused n) m (refuses n m)
unfolding answer_verdict
both_refused n m nz = record {
  number = refl;
  reply = refl;
  verdict = rw (ne_eqb n 0 nz);
  last = λ z. absurd (nz z);
  refused = λ _. (refl, refl);
}

module _ (i room : ℕ) (m : Lent) (input : Bytes) (places : ℕ) (x : asks_exec (asked_by input (read_request places input)) ≡ true) where
  -- on valid lent memory
  both_served : ltb i 16 ≡ true → valid m ≡ true → ExecAgrees (exec_previewed room (store_of m) (session_of i m)) m (request_call i input places room m)
  both_served p q =
      let g = serve_agrees places room input (store_of m) (session_of i m) x in
      let k = request_leaves i input places room m (ltb-true i 16 p) q in
      let n = previewed_number (store_of m).last (decide_exec room (store_of m) (session_of i m)) in
      let four = not_four _ (exec_number room (store_of m) (session_of i m)) in
      subst (ExecAgrees (exec_previewed room (store_of m) (session_of i m)) m) (sym (request_served i input places room m (ltb-true i 16 p) q))
      (record {
        number = g.number;
        reply = g.reply;
        verdict = g.verdict;
        last = λ z. ap (λ (st : Store). st.last) k.store ∙ g.last z;
        refused = λ z. (leave_other i (served_by i input places room m) m (λ y. z (sym g.number ∙ y)) (λ y. four (sym n ∙ sym g.number ∙ y)), g.refused z);
      })

pub exec_agrees : PreviewClaim
exec_agrees i room l m c input places x = go (ltb i 16) (valid l) refl refl
  where
    both : {o : Outcome} {d : Called} → (preview_call i room l).outcome ≡ o → request_call i input places room m ≡ d → ExecAgrees o m d
        → ExecAgrees (preview_call i room l).outcome m (request_call i input places room m)
    both {o} {d} e f k = subst (λ (y : Outcome). ExecAgrees y m (request_call i input places room m)) (sym e) (subst (ExecAgrees o m) (sym f) k)

    same : (s : SameFor i l m) → exec_previewed room (store_of l) (session_of i l) ≡ exec_previewed room (store_of m) (session_of i m)
    same s = λ z. exec_previewed room (s.store z) (s.session z)

    go : (t v : Bool) → ltb i 16 ≡ t → valid l ≡ v → ExecAgrees (preview_call i room l).outcome m (request_call i input places room m)
    go false v p q = both (ap (λ (y : Called). y.outcome) (preview_no_session i room l p)) (no_session i input places room m p) (both_refused 1 m (λ z. omega arith))
    go true false p q = both (ap (λ (y : Called). y.outcome) (preview_not_valid i room l p q)) (not_valid i input places room m p (sym c.fit ∙ q)) (both_refused 9 m (λ z. omega arith))
    go true true p q =
        both (ap (λ (y : Called). y.outcome) (preview_valid i room l p q) ∙ same (c.same q)) refl (both_served i room m input places x p (sym c.fit ∙ q))

-- THE SAME OF THE CALLS MADE
made_agrees : MadePreviewClaim
made_agrees i buffer l r buffer' l' p input places out m a out' m' q copy long x =
    let o : Outcome = (preview_call i (length buffer) l).outcome in
    let c : Called = request_call i input places (length out) m in
    let k : ExecAgrees o m c = subst (λ (n : ℕ). ExecAgrees o m (request_call i input places n m)) (sym long) (exec_agrees i (length buffer) l m copy input places x) in
    let number : r.number ≡ o.number = ap (λ (y : PreviewNumbers). y.number) p.preview in
    let last : r.last ≡ o.last = ap (λ (y : PreviewNumbers). y.last) p.preview in
    record {
      number = ap (λ (y : AnswerNumbers). y.number) q.answer ∙ k.number ∙ sym number;
      reply = ap (λ (y : AnswerNumbers). y.reply) q.answer ∙ ap length k.reply ∙ sym (ap (λ (y : PreviewNumbers). y.reply) p.preview);
      buffer = q.reply ∙ (λ z. reply_buffer (long z) (k.reply z)) ∙ sym p.reply;
      last = λ z. ap (λ (y : Lent). (store_of y).last) q.lent ∙ k.last (sym number ∙ z) ∙ sym last;
      refused = λ z. let y = k.refused (λ e. z (number ∙ e)) in (q.lent ∙ y.0, last ∙ y.1);
    }

-- A PREVIEW LEAVES ALL
preview_leaves : (i room : ℕ) (l : Lent) → (call (preview i room) l).lent ≡ l
preview_leaves i room l = ap (λ (y : Called). y.lent) (preview_is_lem i room l) ∙ go (ltb i 16) (valid l) refl refl
  where
    go : (t v : Bool) → ltb i 16 ≡ t → valid l ≡ v → (preview_call i room l).lent ≡ l
    go false v p q = ap (λ (y : Called). y.lent) (preview_no_session i room l p)
    go true false p q = ap (λ (y : Called). y.lent) (preview_not_valid i room l p q)
    go true true p q = ap (λ (y : Called). y.lent) (preview_valid i room l p q)

-- so a list of calls may leave them out
leaves_all : (c : Call) (l : Lent) → is_preview c ≡ true → (call c l).lent ≡ l
leaves_all (request i s places room) l e = absurd (false≢true e)
leaves_all (grouped ms parts d v) l e = absurd (false≢true e)
leaves_all (preview i room) l e = preview_leaves i room l

tells_nothing : (c : Call) (o : Outcome) → is_preview c ≡ true → told c o ≡ []
unfolding told
tells_nothing (request i s places room) o e = absurd (false≢true e)
tells_nothing (grouped ms parts d v) o e = absurd (false≢true e)
tells_nothing (preview i room) o e = refl

answers_alike : (cs : List Call) (l : Lent) → not_previewed cs (outcomes cs l) ≡ outcomes (without_previews cs) l
unfolding not_previewed without_previews outcomes
answers_alike [] l = refl
answers_alike (c ∷ cs) l = go (is_preview c) refl (answers_alike cs (call c l).lent)
  where
    go : (b : Bool) → is_preview c ≡ b → not_previewed cs (outcomes cs (call c l).lent) ≡ outcomes (without_previews cs) (call c l).lent
        → cond b (not_previewed cs (outcomes cs (call c l).lent)) ((call c l).outcome ∷ not_previewed cs (outcomes cs (call c l).lent))
        ≡ outcomes (cond b (without_previews cs) (c ∷ without_previews cs)) l
    go true e h = h ∙ ap (outcomes (without_previews cs)) (leaves_all c l e)
    go false e h = ap (λ (os : List Outcome). (call c l).outcome ∷ os) h

posts_alike : (cs : List Call) (l : Lent) → events cs (outcomes cs l) ≡ events (without_previews cs) (outcomes (without_previews cs) l)
unfolding without_previews outcomes events
posts_alike [] l = refl
posts_alike (c ∷ cs) l = go (is_preview c) refl (posts_alike cs (call c l).lent)
  where
    go : (b : Bool) → is_preview c ≡ b → events cs (outcomes cs (call c l).lent) ≡ events (without_previews cs) (outcomes (without_previews cs) (call c l).lent)
        → told c (call c l).outcome ++ events cs (outcomes cs (call c l).lent)
        ≡ events (cond b (without_previews cs) (c ∷ without_previews cs)) (outcomes (cond b (without_previews cs) (c ∷ without_previews cs)) l)
    go true e h =
        ap (λ (es : List Event). es ++ events cs (outcomes cs (call c l).lent)) (tells_nothing c (call c l).outcome e) ∙ h
        ∙ ap (λ (m : Lent). events (without_previews cs) (outcomes (without_previews cs) m)) (leaves_all c l e)
    go false e h = ap (λ (es : List Event). told c (call c l).outcome ++ es) h

left_alike : (cs : List Call) (l : Lent) → final cs l ≡ final (without_previews cs) l
unfolding without_previews final
left_alike [] l = refl
left_alike (c ∷ cs) l = go (is_preview c) refl (left_alike cs (call c l).lent)
  where
    go : (b : Bool) → is_preview c ≡ b → final cs (call c l).lent ≡ final (without_previews cs) (call c l).lent
        → final cs (call c l).lent ≡ final (cond b (without_previews cs) (c ∷ without_previews cs)) l
    go true e h = h ∙ ap (final (without_previews cs)) (leaves_all c l e)
    go false e h = h

pub previews_hold : PreviewsHold
previews_hold = record {
  exec = exec_agrees;
  made = made_agrees;
  leaves = preview_leaves;
  answers = answers_alike;
  posts = posts_alike;
  replies = λ i cs l. ap (answers_to i) (posts_alike cs l);
  left = left_alike;
}
