-- Demand 1 holds of the definitions: a returned number comes with no bytes used, no reply, and all left, save the mark of a full queue.
use Prim.Native.Nat.{ℕ, ◌+◌, ◌-◌, ◌≤◌}
use mathlib.Core.Bool.{Bool, true, false, cond}
use mathlib.Core.List.{List, [], ◌∷◌, map}
use Rattle.std.specs.Prelude.{Option, None, Some}
use mathlib.Core.Path.{◌≡◌, refl, ap, ◌∙◌}
use lib.Dec.{leb, ltb, eqb}
use lib.ListN.{length, replicate}
use mathlib.Core.Logic.{◌⊎◌, inl, inr}
use native.Mathlib.Omega.{arith}
use borrow.Author.Tests.{ne_eqb}
use Rattle.base_key.specs.Bytes.{Bytes, over_front}
use Rattle.resp_spec.specs.Request.{Reading, waits, faulty, too_many, whole, read_request, spanned}
use Rattle.resp_spec.specs.Reply.{encode}
use Rattle.store_memtable.specs.Versions.{Store, read_at}
use Rattle.store_memtable.specs.Layout.{buffers_hold, valid_store}
use Rattle.group_spec.specs.declared.Member.{Member}
use Rattle.group_spec.specs.declared.Verdict.{Verdict}
use Rattle.group_spec.specs.declared.Verdict.TheVariants.{Accepted, Conflict, NoRoom, NoSequence, NotTaken}
use Rattle.group_spec.specs.Group.{plain, conflicts, has_room, has_sequences, held_keys, judge, verdict_alone}
use Rattle.group_spec.specs.Members.{group_fits}
use Rattle.command_spec.specs.Names.{Args, Row, row_of, name_word, arguments, count_right, with_options, operation_of, Control, MULTI, EXEC, DISCARD, WATCH, UNWATCH, QUIT, other, control_of}
use Rattle.command_spec.specs.Command.{Executed, runs, lists, Effect, executed_of, run}
use Rattle.command_spec.specs.Session.{watched_keys, Session, Result, number, reply, Done, Decision, returns, marked, committed, direct, watching, watch_fits, add_keys, outside_multi, enqueue, queue_up, queue_fits, decide, apply, execute, inside_multi, respond_by, respond}
use Rattle.command_spec.specs.Finish.{Served, silent, fitted, finish_by, finish, reply_buffer}
use Rattle.exec_decision.specs.Decided.{Decided, decide_exec}
use Rattle.exec_decision.proofs.Executes.{ExecNumber, exec_number}
use Rattle.call_spec.specs.Serve.{serve_reading, serve, Outcome, refused, outcome_of, answered, previewed}
use Rattle.call_spec.specs.Calls.{Lent, valid, store_of, session_of, leave_session, leave_served, refuses, refuses_store, open_call, request_call, preview_call, group_call, verdict_buffer}
use Rattle.call_spec.proofs.CallLaws.{tested, no_session, not_valid, served, preview_no_session, preview_not_valid, preview_valid, not_valid_store, not_fit, is_judged}
use Rattle.call_spec.specs.Demand1.{Refusal, RequestRefused, PreviewRefused, StoreRefused, Refusals}

-- what a number of a session's request promises
abbrev FitBy : Result → Session → Session → Type 0
FitBy (number n) after s = (n ≤ 7) × (n ≡ 4 → after ≡ marked s)
FitBy (reply r) after s = Unit {0}

abbrev Fit : Done → Session → Type 0
Fit d s = FitBy d.result d.session s

committed_fit : (a b c : Bool) (e : Effect) (st : Store) (s : Session) → Fit (committed (cond a Conflict (cond b (cond c Accepted NoSequence) NoRoom)) e st s) s
unfolding committed
committed_fit true b c e st s = (omega arith, λ h. absurd (omega arith))
committed_fit false true true e st s = tt
committed_fit false true false e st s = (omega arith, λ h. absurd (omega arith))
committed_fit false false c e st s = (omega arith, λ h. absurd (omega arith))

direct_fit : (x : Executed) (st : Store) (s : Session) → Fit (direct x st s) s
unfolding direct verdict_alone judge
direct_fit (runs c) st s =
    let e : Effect = run (read_at st.last st.versions) c in
    committed_fit (conflicts None [] st.versions (held_keys (plain e.1))) (has_room st e.1) (has_sequences st e.1) e st s
direct_fit (lists l) st s = tt

either : (b : Bool) (d e : Done) (s : Session) → Fit d s → Fit e s → Fit (cond b d e) s
either true d e s p q = p
either false d e s p q = q

watching_fit : (ks : List Bytes) (st : Store) (s : Session) → Fit (watching ks st s) s
unfolding watching
watching_fit ks st s = either (watch_fits (watched_keys (add_keys st.last ks s.watch))) _ (returns 5 st s) s tt (omega arith, λ h. absurd (omega arith))

outside_fit : (c : Control) (r : Row) (a : Args) (st : Store) (s : Session) → Fit (outside_multi c r a st s) s
unfolding outside_multi
outside_fit MULTI r a st s = tt
outside_fit EXEC r a st s = tt
outside_fit DISCARD r a st s = tt
outside_fit WATCH r a st s = either (count_right r (length (arguments a))) (watching (arguments a) st s) _ s (watching_fit (arguments a) st s) tt
outside_fit UNWATCH r a st s = tt
outside_fit QUIT r a st s = tt
outside_fit other r a st s = direct_fit (executed_of a) st s

enqueue_fit : (q : List Args) (a : Args) (st : Store) (s : Session) → Fit (enqueue q a st s) s
unfolding enqueue
enqueue_fit q a st s = either (queue_fits _) _ (returns 4 st (marked s)) s tt (omega arith, λ h. refl)

queue_up_fit : (q : List Args) (r : Row) (a : Args) (st : Store) (s : Session) → Fit (queue_up q r a st s) s
unfolding queue_up
queue_up_fit q r a st s =
    either (count_right r (length (arguments a))) _ _ s (either (with_options (operation_of r.name) (length (arguments a))) _ (enqueue q a st s) s tt (enqueue_fit q a st s)) tt

apply_fit : (v : Verdict) (d : Decision) (st : Store) (s : Session) → Fit (apply v d st s) s
unfolding apply
apply_fit Accepted d st s = tt
apply_fit Conflict d st s = tt
apply_fit NoRoom d st s = (omega arith, λ h. absurd (omega arith))
apply_fit NoSequence d st s = (omega arith, λ h. absurd (omega arith))
apply_fit NotTaken d st s = tt

inside_fit : (c : Control) (q : List Args) (r : Row) (a : Args) (st : Store) (s : Session) → Fit (inside_multi c q r a st s) s
unfolding inside_multi execute
inside_fit MULTI q r a st s = tt
inside_fit EXEC q r a st s = apply_fit (decide q st s).verdict (decide q st s) st s
inside_fit DISCARD q r a st s = tt
inside_fit WATCH q r a st s = tt
inside_fit UNWATCH q r a st s = tt
inside_fit QUIT q r a st s = tt
inside_fit other q r a st s = either r.queueable (queue_up q r a st s) _ s (queue_up_fit q r a st s) tt

respond_by_fit : (q : Option (List Args)) (r : Row) (a : Args) (st : Store) (s : Session) → Fit (respond_by q r a st s) s
unfolding respond_by
respond_by_fit None r a st s = outside_fit (control_of r.name) r a st s
respond_by_fit (Some q) r a st s = inside_fit (control_of r.name) q r a st s

respond_fit : (a : Args) (st : Store) (s : Session) → Fit (respond a st s) s
unfolding respond
respond_fit a st s = respond_by_fit s.queue (row_of (name_word a)) a st s

-- what a number of a whole request promises
record Refused (d : Served) (s : Session) : Type 0 where
  used : d.used ≡ 0
  reply : d.reply ≡ []
  seven : d.number ≤ 7
  mark : d.number ≡ 4 → d.session ≡ marked s

abbrev Good : Served → Session → Type 0
Good d s = (d.number ≡ 0 → ⊥) → Refused d s

silent_good : (n : ℕ) (st : Store) (after s : Session) → n ≤ 7 → (n ≡ 4 → after ≡ marked s) → Good (silent n 0 st after) s
silent_good n st after s h m = λ _. record { used = refl; reply = refl; seven = h; mark = m }

fitted_by_good : (b : Bool) (d e : Served) (s : Session) → d.number ≡ 0 → Good e s → Good (cond b d e) s
fitted_by_good true d e s z p = λ h. absurd (h z)
fitted_by_good false d e s z p = p

finish_by_good : (r : Result) (room used : ℕ) (d : Done) (st : Store) (s : Session) → FitBy r d.session s → Good (finish_by r room used d st s) s
unfolding finish_by fitted
finish_by_good (number n) room used d st s f = silent_good n d.store d.session s f.0 f.1
finish_by_good (reply r) room used d st s f =
    fitted_by_good (leb (length (encode r)) room) _ (silent 3 0 st s) s refl (silent_good 3 st s s (omega arith) (λ h. absurd (omega arith)))

reading_good : (room : ℕ) (input : Bytes) (r : Reading) (st : Store) (s : Session) → Good (serve_reading room input r st s) s
unfolding serve_reading finish
reading_good room input waits st s = λ h. absurd (h refl)
reading_good room input too_many st s = silent_good 2 st s s (omega arith) (λ h. absurd (omega arith))
reading_good room input (faulty f) st s = finish_by_good _ room (length input) _ st s tt
reading_good room input (whole [] used) st s = λ h. absurd (h refl)
reading_good room input (whole (p ∷ ps) used) st s =
    let d : Done = respond (map (spanned input) (p ∷ ps)) st s in
    finish_by_good d.result room used d st s (respond_fit (map (spanned input) (p ∷ ps)) st s)

serve_good : (places room : ℕ) (input : Bytes) (st : Store) (s : Session) → Good (serve places room input st s) s
unfolding serve
serve_good places room input st s = reading_good room input (read_request places input) st s

-- THE CALLS.
refusal_of : (o : Outcome) → (o.number ≡ 0 → ⊥) → o.number ≤ 9 → o.used ≡ 0 → o.reply ≡ [] → o.verdicts ≡ [] → o.last ≡ 0 → Refusal o
unfolding reply_buffer verdict_buffer over_front
refusal_of o z n u r v t = record {
  one = omega arith;
  nine = n;
  used = u;
  reply = r;
  buffer = λ room. let e : room - 0 ≡ room = omega arith in rw r (ap (λ (n : ℕ). replicate n 0) e);
  verdicts = v;
  verdict_bytes = λ b. rw v;
  last = t;
}

pub leave_other : (i : ℕ) (d : Served) (l : Lent) → (d.number ≡ 0 → ⊥) → (d.number ≡ 4 → ⊥) → leave_served i d l ≡ l
unfolding leave_served
leave_other i d l h k = simp (ne_eqb d.number 0 h, ne_eqb d.number 4 k)

leave_mark : (i : ℕ) (d : Served) (l : Lent) → d.number ≡ 4 → leave_served i d l ≡ leave_session i d.session l
unfolding leave_served
leave_mark i d l k = rw k

served_refused : (i : ℕ) (l : Lent) (d : Served) → Good d (session_of i l) → (d.number ≡ 0 → ⊥) →
    RequestRefused i l (record { outcome = answered d; lent = leave_served i d l })
served_refused i l d g h =
    let r : Refused d (session_of i l) = g h in
    record {
      refusal = refusal_of (answered d) h (omega (arith, r.seven)) r.used r.reply refl refl;
      number = λ k. omega (arith, r.seven);
      left = λ k. leave_other i d l h k;
      mark = λ k. leave_mark i d l k ∙ ap (λ x. leave_session i x l) (r.mark k);
    }

number_refused : (i n : ℕ) (l : Lent) → (n ≡ 0 → ⊥) → n ≤ 9 → (n ≡ 8 → ⊥) → (n ≡ 4 → ⊥) → RequestRefused i l (refuses n l)
number_refused i n l z h e k = record {
  refusal = refusal_of (refused n) z h refl refl refl refl;
  number = e;
  left = λ _. refl;
  mark = λ e. absurd (k e);
}

module _ (i : ℕ) (s : Bytes) (places room : ℕ) (l : Lent) where
  request_refused : (ltb i 16 ≡ true) ⊎ (ltb i 16 ≡ false) → (valid l ≡ true) ⊎ (valid l ≡ false) →
      ((request_call i s places room l).outcome.number ≡ 0 → ⊥) → RequestRefused i l (request_call i s places room l)
  request_refused (inr e) v h =
      rw (no_session i s places room l e) (number_refused i 1 l (λ k. omega arith) (omega arith) (λ k. omega arith) (λ k. omega arith))
  request_refused (inl e) (inr v) h =
      rw (not_valid i s places room l e v) (number_refused i 9 l (λ k. omega arith) (omega arith) (λ k. omega arith) (λ k. omega arith))
  request_refused (inl e) (inl v) h =
      rw (served i s places room l e v)
      (served_refused i l (serve places room s (store_of l) (session_of i l)) (serve_good places room s (store_of l) (session_of i l)) (rw (served i s places room l e v) at h))

-- a preview
abbrev PreviewNumber : ℕ → Type 0
PreviewNumber n = (n ≡ 1) ⊎ ((n ≡ 9) ⊎ ((n ≡ 6) ⊎ ((n ≡ 7) ⊎ (n ≡ 3))))

preview_by : (n : ℕ) (l : Lent) → PreviewNumber n → PreviewRefused l (refuses n l)
preview_by n l k = record { refusal = refusal_of (refused n) (above k) (below k) refl refl refl refl; number = k; verdict = refl; left = refl }
  where
    above : PreviewNumber n → n ≡ 0 → ⊥
    above (inl e) z = omega arith
    above (inr (inl e)) z = omega arith
    above (inr (inr (inl e))) z = omega arith
    above (inr (inr (inr (inl e)))) z = omega arith
    above (inr (inr (inr (inr e)))) z = omega arith

    below : PreviewNumber n → n ≤ 9
    below (inl e) = omega arith
    below (inr (inl e)) = omega arith
    below (inr (inr (inl e))) = omega arith
    below (inr (inr (inr (inl e)))) = omega arith
    below (inr (inr (inr (inr e)))) = omega arith

previewed_by : (last : ℕ) (d : Decided) (l : Lent) → ExecNumber d.number → ((previewed last d).number ≡ 0 → ⊥) → PreviewRefused l (record { outcome = previewed last d; lent = l })
unfolding previewed
previewed_by last d l k h = go (eqb d.number 0) h k
  where
    go : (b : Bool) → ((cond b (outcome_of 0 0 d.reply (d.verdict ∷ []) (last + length d.writes)) (refused d.number)).number ≡ 0 → ⊥) → ExecNumber d.number
        → PreviewRefused l (record { outcome = cond b (outcome_of 0 0 d.reply (d.verdict ∷ []) (last + length d.writes)) (refused d.number); lent = l })
    go true h k = absurd (h refl)
    go false h (inl e) = absurd (h e)
    go false h (inr k) = preview_by d.number l (inr (inr k))

module _ (i room : ℕ) (l : Lent) where
  preview_refused : (ltb i 16 ≡ true) ⊎ (ltb i 16 ≡ false) → (valid l ≡ true) ⊎ (valid l ≡ false) → ((preview_call i room l).outcome.number ≡ 0 → ⊥) → PreviewRefused l (preview_call i room l)
  preview_refused (inr e) v h = rw (preview_no_session i room l e) (preview_by 1 l (inl refl))
  preview_refused (inl e) (inr v) h = rw (preview_not_valid i room l e v) (preview_by 9 l (inr (inl refl)))
  preview_refused (inl e) (inl v) h =
      rw (preview_valid i room l e v)
      (previewed_by (store_of l).last (decide_exec room (store_of l) (session_of i l)) l (exec_number room (store_of l) (session_of i l)) (rw (preview_valid i room l e v) at h))

store_refused : (n : ℕ) (w : List ℕ) (b : Bytes) → (n ≡ 0 → ⊥) → n ≤ 9 → StoreRefused w b (refuses_store n w b)
store_refused n w b z h = record { refusal = refusal_of (refused n) z h refl refl refl refl; words = refl; bytes = refl }

module _ (last versions size : ℕ) (w : List ℕ) (b : Bytes) where
  opening_refused : (t : Bool) → buffers_hold w b versions size ≡ t → ((open_call last versions size w b).outcome.number ≡ 0 → ⊥) →
      StoreRefused w b (open_call last versions size w b) × ((open_call last versions size w b).outcome.number ≡ 9)
  unfolding open_call
  opening_refused true e h = absurd ((rw e at h) refl)
  opening_refused false e h = rw e (store_refused 9 w b (λ k. omega arith) (omega arith), refl)

module _ (ms : List Member) (parts : List ℕ) (d v : Bytes) (w : List ℕ) (b : Bytes) where
  group_refused : (valid_store w b ≡ true) ⊎ (valid_store w b ≡ false) → (group_fits parts d ms v ≡ true) ⊎ (group_fits parts d ms v ≡ false) →
      ((group_call ms parts d v w b).outcome.number ≡ 0 → ⊥) →
      StoreRefused w b (group_call ms parts d v w b)
      × (((group_call ms parts d v w b).outcome.number ≡ 8) ⊎ ((group_call ms parts d v w b).outcome.number ≡ 9))
  group_refused (inr e) f h = rw (not_valid_store ms parts d v w b e) (store_refused 9 w b (λ k. omega arith) (omega arith), inr refl)
  group_refused (inl e) (inr f) h = rw (not_fit ms parts d v w b e f) (store_refused 8 w b (λ k. omega arith) (omega arith), inl refl)
  group_refused (inl e) (inl f) h = absurd ((rw (is_judged ms parts d v w b e f) at h) refl)

pub refusals : Refusals
refusals = record {
  opens = λ last versions size w b h. opening_refused last versions size w b (buffers_hold w b versions size) refl h;
  requests = λ i s places room l h. request_refused i s places room l (tested (ltb i 16)) (tested (valid l)) h;
  groups = λ ms parts d v w b h. group_refused ms parts d v w b (tested (valid_store w b)) (tested (group_fits parts d ms v)) h;
  previews = λ i room l h. preview_refused i room l (tested (ltb i 16)) (tested (valid l)) h;
}
