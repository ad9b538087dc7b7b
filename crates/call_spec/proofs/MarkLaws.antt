-- The mark of a session after a request is what posting makes of the answer, if the session was unmarked outside MULTI.
use Prim.Native.Nat.{ℕ}
use native.Mathlib.Omega.{arith}
use mathlib.Core.List.{List, [], ◌∷◌, ◌++◌, map}
use mathlib.Core.Bool.{Bool, true, false, cond, not, ◌||◌, ◌&&◌, and-false, or-true, or-false}
use Rattle.std.specs.Prelude.{Option, None, Some}
use mathlib.Core.Path.{◌≡◌, refl, sym}
use lib.Dec.{leb, eqb}
use lib.ListN.{length}
use borrow.Author.Tests.{ne_eqb}
use Rattle.base_key.specs.Bytes.{Bytes}
use Rattle.base_key.specs.Keys.{Key}
use Rattle.resp_spec.specs.Request.{Reading, waits, faulty, too_many, whole, read_request, spanned}
use Rattle.resp_spec.specs.Reply.{Reply, ok, encode}
use Rattle.store_memtable.specs.Versions.{Store, read_at, commit}
use Rattle.store_memtable.proofs.VersionLaws.{Sound}
use Rattle.group_spec.specs.declared.Verdict.{Verdict}
use Rattle.group_spec.specs.declared.Verdict.TheVariants.{Accepted, Conflict, NoRoom, NoSequence, NotTaken}
use Rattle.group_spec.specs.Group.{plain, verdict_byte, is_accepted, verdict_alone}
use Rattle.command_spec.specs.Names.{Args, Row, row_of, name_word, arguments, count_right, with_options, operation_of, arity, Control, MULTI, EXEC, DISCARD, WATCH, UNWATCH, QUIT, other, control_of}
use Rattle.command_spec.specs.Command.{Executed, runs, lists, Effect, set_options, executed_of, run}
use Rattle.command_spec.specs.Session.{Watching, watched_keys, Session, clear, Result, number, reply, Done, says, returns, committed, direct, add_keys, watch_fits, watching, outside_multi, queue_fits, queued_reply, marked, enqueue, queue_up, not_queueable, execute, inside_multi, respond_by, respond}
use Rattle.command_spec.proofs.SessionLaws.{SessionSound, Refuses, Kept, respond_kept, ran_by, writes_by, ends, execute_failed, execute_ends}
use Rattle.command_spec.specs.Finish.{Served, silent, fitted, finish_by, finish}
use Rattle.call_spec.specs.Serve.{protocol_error, serve_reading, serve}
use Rattle.call_spec.specs.Posting.{broken, asks, asked_by, is_reply}
use Rattle.call_spec.specs.Verdicts.{queues, is_open, marks_by, marked_after}
use Rattle.call_spec.proofs.ReplyLaws.{queued_told, error_not_queued}

module _ (st : Store) (s : Session) (sound : Sound st) (good : SessionSound st.last s) (free : s.queue ≡ None → s.failed ≡ false) where
  abbrev pub MarkedAs : Session → Bool → Type 0
  MarkedAs t b = t.failed ≡ marked_after t.queue (s.failed || b)

  -- by what a session answers
  abbrev told : Control → Result → Bool
  told c (number n) = eqb n 4
  told c (reply r) = queues c && not (is_reply queued_reply (encode r))

  abbrev Marked : Control → Bool → Done → Type 0
  Marked c inside x = MarkedAs x.session (inside && told c x.result)

  -- a session that stays
  pub stays : (t : Session) → t.queue ≡ s.queue → t.failed ≡ s.failed → (b : Bool) → b ≡ false → MarkedAs t b
  unfolding marked_after
  stays t p f b e = rw (p, f, e) (go s.queue refl)
    where
      go : (q : Option (List Args)) → s.queue ≡ q → s.failed ≡ marked_after q (s.failed || false)
      go None n = free n
      go (Some q) n = sym (or-false s.failed)

  watching_marks : (ks : List Key) → MarkedAs (watching ks st s).session false
  unfolding watching
  watching_marks ks = go (watch_fits (watched_keys w))
    where
      w : Watching
      w = add_keys st.last ks s.watch

      after : Session
      after = record { queue = s.queue; failed = s.failed; watch = w }

      go : (b : Bool) → MarkedAs (cond {A = Done} b (says ok st after) (returns 5 st s)).session false
      go true = stays after refl refl false refl
      go false = stays s refl refl false refl

  direct_marks : (x : Executed) → MarkedAs (direct x st s).session false
  unfolding direct committed
  direct_marks (runs c) = let e = run (read_at st.last st.versions) c in go e (is_accepted (verdict_alone st (plain e.1))) (verdict_byte (verdict_alone st (plain e.1)))
    where
      go : (e : Effect) (b : Bool) (n : ℕ) → MarkedAs (cond {A = Done} b (says e.0 (commit e.1 st) s) (returns n st s)).session false
      go e true n = stays s refl refl false refl
      go e false n = stays s refl refl false refl
  direct_marks (lists l) = stays s refl refl false refl

  outside_marks : (a : Args) (c : Control) (r : Row) → s.queue ≡ None → Marked c false (outside_multi c r a st s)
  unfolding outside_multi marked_after
  outside_marks a MULTI r n = rw (free n) refl
  outside_marks a EXEC r n = stays s refl refl false refl
  outside_marks a DISCARD r n = stays s refl refl false refl
  outside_marks a WATCH r n = go (count_right r (length (arguments a)))
    where
      go : (b : Bool) → MarkedAs (cond {A = Done} b (watching (arguments a) st s) (says (arity r) st s)).session false
      go true = watching_marks (arguments a)
      go false = stays s refl refl false refl
  outside_marks a UNWATCH r n = stays (record { queue = s.queue; failed = s.failed; watch = [] }) refl refl false refl
  outside_marks a QUIT r n = refl
  outside_marks a other r n = direct_marks (executed_of a)

  -- INSIDE MULTI
  execute_marks : (q : List Args) (n : s.queue ≡ Some q) → Marked EXEC true (execute q st s)
  unfolding marked_after
  execute_marks q n = go s.failed refl
    where
      by : (v : Verdict) → Marked EXEC true (ends v (ran_by q st) (writes_by q st) st s)
      by Accepted = unfold ends in refl
      by Conflict = unfold ends in refl
      by NoRoom = unfold ends in stays s refl refl false refl
      by NoSequence = unfold ends in stays s refl refl false refl
      by NotTaken = unfold ends in refl

      go : (f : Bool) → s.failed ≡ f → Marked EXEC true (execute q st s)
      go true p = rw (execute_failed q st s p) refl
      go false p = rw (execute_ends q st s p) (by _)

  -- a request that marks
  marks_it : (q : List Args) → s.queue ≡ Some q → (b : Bool) → b ≡ true → MarkedAs (marked s) b
  unfolding marked_after
  marks_it q n b e = rw (n, e) (sym (or-true s.failed))

  enqueue_marks : (q : List Args) (a : Args) → s.queue ≡ Some q → Marked other true (enqueue q a st s)
  unfolding enqueue marked_after
  enqueue_marks q a n = go (queue_fits (q ++ a ∷ []))
    where
      after : Done
      after = says queued_reply st (record { queue = Some (q ++ a ∷ []); failed = s.failed; watch = s.watch })

      go : (b : Bool) → Marked other true (cond b after (returns 4 st (marked s)))
      go true = rw queued_told (sym (or-false s.failed))
      go false = marks_it q n true refl

  queue_up_marks : (q : List Args) (r : Row) (a : Args) → s.queue ≡ Some q → Marked other true (queue_up q r a st s)
  unfolding queue_up
  queue_up_marks q r a n = go (count_right r (length (arguments a))) (with_options (operation_of r.name) (length (arguments a)))
    where
      go : (b c : Bool) → Marked other true (cond b (cond c (says set_options st (marked s)) (enqueue q a st s)) (says (arity r) st (marked s)))
      go true true = marks_it q n _ (rw (error_not_queued _))
      go true false = enqueue_marks q a n
      go false c = unfold arity in marks_it q n _ (rw (error_not_queued _))

  inside_marks : (a : Args) (q : List Args) (c : Control) (r : Row) → s.queue ≡ Some q → Marked c true (inside_multi c q r a st s)
  unfolding inside_multi marked_after
  inside_marks a q EXEC r n = execute_marks q n
  inside_marks a q DISCARD r n = refl
  inside_marks a q MULTI r n = stays s refl refl false refl
  inside_marks a q WATCH r n = stays s refl refl false refl
  inside_marks a q QUIT r n = refl
  inside_marks a q UNWATCH r n = unfold not_queueable in marks_it q n _ (rw (error_not_queued _))
  inside_marks a q other r n = go r.queueable
    where
      go : (b : Bool) → Marked other true (cond b (queue_up q r a st s) (says (not_queueable (name_word a)) st (marked s)))
      go true = queue_up_marks q r a n
      go false = unfold not_queueable in marks_it q n _ (rw (error_not_queued _))

  respond_marks : (a : Args) → Marked (control_of (row_of (name_word a)).name) (is_open s.queue) (respond a st s)
  unfolding respond respond_by
  respond_marks a = go s.queue refl
    where
      go : (q : Option (List Args)) → s.queue ≡ q → Marked (control_of (row_of (name_word a)).name) (is_open q) (respond_by q (row_of (name_word a)) a st s)
      go None n = outside_marks a (control_of (row_of (name_word a)).name) (row_of (name_word a)) n
      go (Some q) n = inside_marks a q (control_of (row_of (name_word a)).name) (row_of (name_word a)) n

  finish_marks : (a : Args) (room used : ℕ) (x : Done) → Kept st s x → Marked (control_of (row_of (name_word a)).name) (is_open s.queue) x
      → MarkedAs (finish room used x st s).session (marks_by s.queue (asks a) (finish room used x st s).number (finish room used x st s).reply)
  unfolding finish
  finish_marks a room used x k h = go x.result h k.numbers
    where
      ServedMarks : Served → Type 0
      ServedMarks v = MarkedAs v.session (marks_by s.queue (asks a) v.number v.reply)

      fits : (r : Reply) → MarkedAs x.session (is_open s.queue && told (control_of (row_of (name_word a)).name) (reply r)) → (t : Bool)
          → ServedMarks (cond t (record { number = 0; used = used; reply = encode r; store = x.store; session = x.session }) (silent 3 0 st s))
      fits r g true = g
      fits r g false = stays s refl refl _ (and-false (is_open s.queue))

      go : (r : Result) → MarkedAs x.session (is_open s.queue && told (control_of (row_of (name_word a)).name) r) → Refuses st s x r
          → ServedMarks (finish_by r room used x st s)
      go (number n) g m = unfold finish_by in (rw (ne_eqb n 0 (λ z. omega (arith, m.0, z)), or-false (eqb n 4)) g)
      go (reply r) g m = unfold finish_by fitted in fits r g (leb (length (encode r)) room)

  broken_marks : (room used : ℕ) (r : Reply) → MarkedAs (finish room used (says r st clear) st s).session (marks_by s.queue broken (finish room used (says r st clear) st s).number (finish room used (says r st clear) st s).reply)
  unfolding finish finish_by fitted marked_after
  broken_marks room used r = go (leb (length (encode r)) room)
    where
      v : Bool → Served
      v t = cond t (record { number = 0; used = used; reply = encode r; store = st; session = clear }) (silent 3 0 st s)

      go : (t : Bool) → MarkedAs (v t).session (marks_by s.queue broken (v t).number (v t).reply)
      go true = refl
      go false = stays s refl refl _ (and-false (is_open s.queue))

  reading_marks : (room : ℕ) (input : Bytes) (x : Reading)
      → MarkedAs (serve_reading room input x st s).session (marks_by s.queue (asked_by input x) (serve_reading room input x st s).number (serve_reading room input x st s).reply)
  unfolding serve_reading asked_by
  reading_marks room input waits = stays s refl refl _ (and-false (is_open s.queue))
  reading_marks room input too_many = stays s refl refl _ (and-false (is_open s.queue))
  reading_marks room input (faulty f) = broken_marks room (length input) (protocol_error input f)
  reading_marks room input (whole [] used) = stays s refl refl _ (and-false (is_open s.queue))
  reading_marks room input (whole (p ∷ ps) used) =
      finish_marks (map (spanned input) (p ∷ ps)) room used _ (respond_kept st s sound good (spanned input p) (map (spanned input) ps)) (respond_marks (map (spanned input) (p ∷ ps)))

  pub serve_marks : (places room : ℕ) (input : Bytes)
      → MarkedAs (serve places room input st s).session (marks_by s.queue (asked_by input (read_request places input)) (serve places room input st s).number (serve places room input st s).reply)
  unfolding serve
  serve_marks places room input = reading_marks room input (read_request places input)
