-- From a reply that was put, or a number, to what the request answers and leaves. Assumes nothing.
use Prim.Native.Nat.{ℕ, ◌<◌}
use mathlib.Core.Path.{◌≡◌, refl, sym, ap, ◌∙◌, subst}
use mathlib.Core.List.{List}
use lib.ListN.{length}
use Rattle.base_key.specs.Bytes.{Bytes}
use Rattle.base_writing.specs.Puts.{Puts}
use Rattle.resp_spec.specs.Reply as reply
use Rattle.resp_spec.specs.Reply.{encode}
use Rattle.store_memtable.specs.Versions.{Store}
use Rattle.command_spec.specs.Numbers.{AnswerNumbers, answer_numbers, error_number}
use Rattle.command_spec.specs.declared.Answer.{Answer}
use Rattle.command_spec.specs.declared.CallError.{CallError}
use Rattle.command_spec.specs.declared.CallError.TheVariants.{NoSession, TooManyArguments, ReplyTooLong, QueueFull, WatchFull, NoRoom, NoSequence, GroupUnfit, MemoryUnfit}
use native.Mathlib.Omega.{arith}
use Rattle.command_spec.specs.Session.{Session, Done, says, returns, marked}
use Rattle.command_spec.specs.Sessions.{session_from, session_words, session_bytes}
use Rattle.command_spec.specs.Finish.{Served, silent, finish_by, finish, Says, SessionLeft}
use Rattle.command_spec.specs.Held.{Held, Left}
use Rattle.session_memory.proofs.Kept.{words_kept, bytes_kept, bytes_cleared, bytes_marked, bytes_opened, bytes_unwatched}
use Rattle.command_answer.specs.Answers.{refusal, put_answer}
use Rattle.command_spec.specs.declared.Fixed.{Fixed}
use Rattle.command_spec.specs.Errors.{fixed_reply}
use Rattle.session_route.specs.declared.routes.Step.{Step}
use Rattle.session_route.specs.declared.routes.Step.TheVariants.{Open, Unwatch, Clear, Reply}
use Rattle.session_route.specs.Routes.{reply_of, change_of, step_done}
use Rattle.session_route.specs.Answers.{changing, same, Answered, Steered, Marks, Unchanged}
use Rattle.command_answer.proofs.Finish.{Cleared, replied, finish_wrote, finish_full, says_wrote, full_cleared, says_number}
use Rattle.std.specs.Prelude.{Option, None, Some, Result, Ok, Err, IsErrAnd}

-- WHAT WAS PUT, by the answer to it
abbrev pub replied_with : Answer → AnswerNumbers
replied_with a = record { number = 0; used = a.used; reply = a.reply }

pub record Wrote (put : Option ℕ) (used : ℕ) (a : Answer) : Type 0 where
  pub put_is : put ≡ Some a.reply
  pub used_is : a.used ≡ used

pub record Full (put : Option ℕ) (r : Result Answer CallError) : Type 0 where
  pub put_is : put ≡ None
  pub answer : answer_numbers r ≡ refusal 3

pub put_wrote : {put : Option ℕ} {used : ℕ} (a : Answer) → replied_with a ≡ put_answer put used → Wrote put used a
unfolding put_answer
put_wrote {put = None} a e = let z : ◌≡◌ {A = ℕ} 0 3 = ap (λ (x : AnswerNumbers). x.number) e in absurd (omega arith)
put_wrote {put = Some n} a e = record { put_is = ap Some (sym (ap (λ (x : AnswerNumbers). x.reply) e)); used_is = ap (λ (x : AnswerNumbers). x.used) e }

pub error_above : (e : CallError) → 0 < error_number e
error_above NoSession = omega arith
error_above TooManyArguments = omega arith
error_above ReplyTooLong = omega arith
error_above QueueFull = omega arith
error_above WatchFull = omega arith
error_above NoRoom = omega arith
error_above NoSequence = omega arith
error_above GroupUnfit = omega arith
error_above MemoryUnfit = omega arith

pub error_passed : (r : Result Answer CallError) (e : CallError) → IsErrAnd r (λ y. y ≡ e) → answer_numbers r ≡ refusal (error_number e)
error_passed (Ok a) e h = absurd h
error_passed (Err x) e h = ap (λ (y : CallError). refusal (error_number y)) h

pub put_full : {put : Option ℕ} (used : ℕ) (e : CallError) (r : Result Answer CallError) → refusal (error_number e) ≡ put_answer put used → IsErrAnd r (λ y. y ≡ e) → Full put r
unfolding put_answer
put_full {put = None} used x r e r-is = record { put_is = refl; answer = error_passed r x r-is ∙ e }
put_full {put = Some n} used x r e r-is = let z : error_number x ≡ 0 = ap (λ (y : AnswerNumbers). y.number) e in absurd (omega (arith, error_above x))

-- two ways to say what is done
pub answered_same : {w w' : List ℕ} {b b' : Bytes} {used : ℕ} {out out' : Bytes} {r : AnswerNumbers} (one two : Store → Session → Done) → ((st : Store) (s : Session) → two st s ≡ one st s)
    → Answered one w w' b b' used out r out' → Answered two w w' b b' used out r out'
answered_same {w} {w'} {b} {b'} {used} {out} {out'} {r} one two e a = record {
  says = λ st. subst (λ (d : Done). Says (finish (length out) used d st (session_from w b)) out r out') (sym (e st (session_from w b))) (a.says st);
  left = λ st. subst (λ (d : Done). SessionLeft (finish (length out) used d st (session_from w b)) w b w' b') (sym (e st (session_from w b))) (a.left st);
}

module _ {w : List ℕ} {b : Bytes} (h : Held w b) (done : Store → Session → Done) (used : ℕ) {out : Bytes} (z : Cleared out) where
  abbrev s : Session
  s = session_from w b

  abbrev served : Store → Served
  served st = finish (length out) used (done st s) st s

  -- from what `finish` gives
  answered_as : (r : AnswerNumbers) (out' : Bytes) (w' : List ℕ) (b' : Bytes) (d : Store → Served) → ((st : Store) → served st ≡ d st) → ((st : Store) → Says (d st) out r out')
      → ((st : Store) → SessionLeft (d st) w b w' b') → Answered done w w' b b' used out r out'
  answered_as r out' w' b' d e says_so left_so = record {
    says = λ st. subst (λ (x : Served). Says x out r out') (sym (e st)) (says_so st);
    left = λ st. subst (λ (x : Served). SessionLeft x w b w' b') (sym (e st)) (left_so st);
  }

  -- a reply that fits
  module _ (r : reply.Reply) (s' : Session) (is : (st : Store) → done st s ≡ says r st s') {put : Option ℕ} {out' : Bytes} (p : Puts (encode r) out put out') where
    pub answered_wrote : {a : Answer} → Wrote put used a → {w' : List ℕ} {b' : Bytes} → w' ≡ session_words s' w b → b' ≡ session_bytes s' b
        → Answered done w w' b b' used out (replied_with a) out'
    answered_wrote {a} d {w'} {b'} f g =
        subst (λ (n : ℕ). Answered done w w' b b' used out (record { number = 0; used = n; reply = a.reply }) out') (sym d.used_is)
        (answered_as (record { number = 0; used = used; reply = a.reply }) out' w' b' (λ st. replied used (encode r) st s')
        (λ st. ap (λ (x : Done). finish (length out) used x st s) (is st) ∙ finish_wrote r p used st st s s' d.put_is) (λ st. says_wrote r p used st st s s' d.put_is z) (λ st. record { words = f; bytes = g }))

    pub answered_full : {a : Result Answer CallError} → Full put a → Answered done w w b b used out (answer_numbers a) out'
    answered_full {a} d =
        subst (λ (x : AnswerNumbers). Answered done w w b b used out x out') (sym d.answer)
        (answered_as (refusal 3) out' w b (λ st. silent 3 0 st s) (λ st. ap (λ (x : Done). finish (length out) used x st s) (is st) ∙ finish_full r p used st st s s' d.put_is)
        (λ st. says_number 3 st s out out' (full_cleared r p used st st s s' d.put_is)) (λ st. record { words = sym (words_kept h); bytes = sym (bytes_kept h) }))

  -- an error
  number_given : (n : ℕ) (s' : Session) (st : Store) → finish (length out) used (returns n st s') st s ≡ silent n 0 st s'
  unfolding finish finish_by
  number_given n s' st = refl

  pub answered_number : (n : ℕ) (s' : Session) → ((st : Store) → done st s ≡ returns n st s') → {w' : List ℕ} {b' : Bytes} → w' ≡ session_words s' w b → b' ≡ session_bytes s' b
      → Answered done w w' b b' used out (refusal n) out
  answered_number n s' is {w'} {b'} f g =
      answered_as (refusal n) out w' b' (λ st. silent n 0 st s') (λ st. ap (λ (d : Done). finish (length out) used d st s) (is st) ∙ number_given n s' st)
      (λ st. says_number n st s' out out z) (λ st. record { words = f; bytes = g })

-- A REPLY AND A CHANGE OF THE HEAD
module _ {used : ℕ} {w out out' : Bytes} {put : Option ℕ} (change : Session → Session) (r : reply.Reply) (z : Cleared out) (p : Puts (encode r) out put out') where
  changed_wrote : {w' : List ℕ} {a : Answer} → ((b : Bytes) → Held w b → session_bytes (change (session_from w b)) b ≡ b) → Wrote put used a → Left change w w' → Steered (changing r change) w w' used out (replied_with a) out'
  unfolding changing
  changed_wrote {a = a} stays d l = record {
    is = λ b h. answered_wrote h (changing r change) used z r (change (session_from w b)) (λ st. refl) p d (l.is b h) (sym (stays b h));
  }

  changed_full : {a : Result Answer CallError} → Full put a → Steered (changing r change) w w used out (answer_numbers a) out'
  unfolding changing
  changed_full d = record {
    is = λ b h. answered_full h (changing r change) used z r (change (session_from w b)) (λ st. refl) p d;
  }

-- A STEP
step_bytes : (step : Step) {w : List ℕ} {b : Bytes} → Held w b → session_bytes (change_of step (session_from w b)) b ≡ b
step_bytes Open h = bytes_opened h
step_bytes Unwatch h = bytes_unwatched h
step_bytes Clear h = bytes_cleared h
step_bytes (Reply f) h = bytes_kept h

pub reply_leaves : {step : Step} {f : Fixed} (w : List ℕ) → step ≡ Reply f → Left (change_of step) w w
reply_leaves w e = rw e (record { is = λ b h. sym (words_kept h) })

step_done_is : (step : Step) → step_done step ≡ changing (fixed_reply (reply_of step)) (change_of step)
unfolding step_done
step_done_is Open = refl
step_done_is Unwatch = refl
step_done_is Clear = refl
step_done_is (Reply f) = refl

as_done : (step : Step) {which : Fixed} → which ≡ reply_of step → step_done step ≡ changing (fixed_reply which) (change_of step)
as_done step e = step_done_is step ∙ ap (λ (f : Fixed). changing (fixed_reply f) (change_of step)) (sym e)

module _ (step : Step) {which : Fixed} {used : ℕ} {w out out' : Bytes} {put : Option ℕ} (e : which ≡ reply_of step) (z : Cleared out) (p : Puts (encode (fixed_reply which)) out put out') where
  pub step_wrote : {w' : List ℕ} {a : Answer} → Wrote put used a → Left (change_of step) w w' → Steered (step_done step) w w' used out (replied_with a) out'
  step_wrote f l = rw (as_done step e) (changed_wrote (change_of step) (fixed_reply which) z p (λ b h. step_bytes step h) f l)

  pub step_full : {a : Result Answer CallError} → Full put a → Steered (step_done step) w w used out (answer_numbers a) out'
  step_full f = rw (as_done step e) (changed_full (change_of step) (fixed_reply which) z p f)

-- AN ERROR THAT MARKS
module _ {used : ℕ} {put : Option ℕ} {w : List ℕ} where
  pub marks_wrote : {w' : List ℕ} {a : Answer} → Wrote put used a → Left marked w w' → Marks put used w w' (replied_with a)
  marks_wrote d l = record { steered = λ x out out' z p. changed_wrote marked x z p (λ b h. bytes_marked h) d l }

  pub marks_full : {r : Result Answer CallError} → Full put r → Marks put used w w (answer_numbers r)
  marks_full d = record { steered = λ x out out' z p. changed_full marked x z p d }

-- A REPLY ALONE
pub only_replied : {used : ℕ} {out out' : Bytes} {put : Option ℕ} (a : Result Answer CallError) (r : reply.Reply) → Cleared out → Puts (encode r) out put out' → answer_numbers a ≡ put_answer put used
    → Unchanged (changing r same) used out (answer_numbers a) out'
unfolding changing
only_replied {used = used} (Ok a) r z p told =
    let d = put_wrote a told in
    record { is = λ w b h. answered_wrote h (changing r same) used z r (session_from w b) (λ st. refl) p d (sym (words_kept h)) (sym (bytes_kept h)) }
only_replied {used = used} {put = put} (Err e) r z p told =
    let d : Full put (Err e) = put_full used e (Err e) told refl in
    record { is = λ w b h. answered_full h (changing r same) used z r (session_from w b) (λ st. refl) p d }
