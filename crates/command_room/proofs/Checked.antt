-- What a check and the reply that was put give, by the numbers of the errors. Assumes nothing.
use Prim.Native.Nat.{ℕ}
use native.Mathlib.Omega.{arith}
use mathlib.Core.Path.{◌≡◌, refl, sym, ap, ◌∙◌}
use lib.ListN.{length, replicate}
use Rattle.base_key.specs.Bytes.{Bytes}
use Rattle.group_spec.specs.declared.Verdict.{Verdict}
use Rattle.group_spec.specs.Group.{verdict_byte}
use Rattle.command_spec.specs.declared.Answer.{Answer}
use Rattle.command_spec.specs.declared.CallError.{CallError}
use Rattle.command_spec.specs.declared.CallError.TheVariants.{NoSession, TooManyArguments, ReplyTooLong, QueueFull, WatchFull, GroupUnfit, MemoryUnfit}
use Rattle.command_spec.specs.declared.CallError.TheVariants as error
use Rattle.command_spec.specs.Numbers.{AnswerNumbers, answer_numbers, answer_with, error_number, number_with}
use Rattle.command_answer.specs.Answers.{put_answer, refusal}
use Rattle.command_room.specs.Writes.{verdict_answer}
use Rattle.command_room.specs.Served.{buffer_after}
use Rattle.command_room.proofs.Served.{answer_put, answer_refused, buffer_put, buffer_refused, error_some}
use Rattle.std.specs.Prelude.{Option, None, Some, Result, Ok, Err, IfErr, IfNone, IfSome, IsErrAnd, OnErr, OnOk}

error_three : (e : CallError) → error_number e ≡ 3 → e ≡ ReplyTooLong
error_three NoSession z = absurd (omega arith)
error_three TooManyArguments z = absurd (omega arith)
error_three ReplyTooLong z = refl
error_three QueueFull z = absurd (omega arith)
error_three WatchFull z = absurd (omega arith)
error_three error.NoRoom z = absurd (omega arith)
error_three error.NoSequence z = absurd (omega arith)
error_three GroupUnfit z = absurd (omega arith)
error_three MemoryUnfit z = absurd (omega arith)

-- THE REPLY THAT WAS PUT, by what `put_answer` gives
on_ok : {A E P : Type 0} (checked : Result A E) → P → OnOk checked P
on_ok (Ok a) p = p
on_ok (Err e) p = tt

module _ {A E : Type 0} (checked : Result A E) (put : Option ℕ) (used : ℕ) where
  module _ (e : CallError) (is : answer_numbers (Err e) ≡ put_answer put used) where
    no_reply : put ≡ None
    unfolding put_answer
    no_reply = go put is
      where
        go : (o : Option ℕ) → answer_numbers (Err e) ≡ put_answer o used → o ≡ None
        go (Some n) i = absurd (error_some e (ap (λ (x : AnswerNumbers). x.number) i))
        go None i = refl

    long_is : e ≡ ReplyTooLong
    unfolding put_answer
    long_is = error_three e (ap (λ (x : AnswerNumbers). x.number) (is ∙ ap (λ (o : Option ℕ). put_answer o used) no_reply))

    pub not_answered : (P : ℕ → Type 0) → OnOk checked (IfSome put P)
    not_answered P = on_ok checked (rw no_reply tt)

    pub long_error : (r : Result Answer E) (gives : CallError → E → Type 0) → IsErrAnd r (gives e) → OnOk checked (IfNone put (IsErrAnd r (gives ReplyTooLong)))
    long_error r gives h = on_ok checked (rw (no_reply, sym long_is) h)

  module _ (a : Answer) (is : answer_numbers (Ok a) ≡ put_answer put used) where
    answer_is : {R : Type 0} (of : Answer → R) → IfSome put (λ n. of a ≡ of (record { used = used; reply = n }))
    unfolding put_answer
    answer_is of = go put is
      where
        go : (o : Option ℕ) → answer_numbers (Ok a) ≡ put_answer o used → IfSome o (λ n. of a ≡ of (record { used = used; reply = n }))
        go (Some n) i = ap (λ (x : AnswerNumbers). of (record { used = x.used; reply = x.reply })) i
        go None i = tt

    no_refusal : IfNone put ⊥
    unfolding put_answer
    no_refusal = go put is
      where
        go : (o : Option ℕ) → answer_numbers (Ok a) ≡ put_answer o used → IfNone o ⊥
        go (Some n) i = tt
        go None i = let z = ap (λ (x : AnswerNumbers). x.number) i in omega arith

    pub answered_is : OnOk checked (IfSome put (λ n. ◌≡◌ {A = Result Answer E} (Ok a) (Ok (record { used = used; reply = n }))))
    answered_is = on_ok checked (answer_is (λ (x : Answer). Ok x))

    pub not_long : OnOk checked (IfNone put ⊥)
    not_long = on_ok checked no_refusal

-- THE ANSWER by the numbers of any type of errors: for each verdict with the number of the check, where an error of the check has another number than 0,
-- and a reply that is too long has 3
module _ {A E : Type 0} (number : E → ℕ) (gives : E → Type 0) (long : (e : E) → gives e → number e ≡ 3)
    (checked : Result A E) (some : (e : E) → checked ≡ Err e → number e ≡ 0 → ⊥) (put : Option ℕ) (used : ℕ) where
  put_numbers : (r : Result Answer E) (o : Option ℕ) → IfSome o (λ n. r ≡ Ok (record { used = used; reply = n })) → IfNone o (IsErrAnd r gives)
      → answer_with number r ≡ put_answer o used
  unfolding put_answer
  put_numbers r (Some n) h l = ap (answer_with number) h
  put_numbers r None h l = go r l
    where
      go : (x : Result Answer E) → IsErrAnd x gives → answer_with number x ≡ put_answer None used
      go (Ok a) g = absurd g
      go (Err e) g = ap refusal (long e g)

  pub numbers_answered : (r : Result Answer E) → IfErr checked (λ e. r ≡ Err e) → OnOk checked (IfSome put (λ n. r ≡ Ok (record { used = used; reply = n })))
      → OnOk checked (IfNone put (IsErrAnd r gives)) → (v : Verdict) → number_with number checked ≡ verdict_byte v → answer_with number r ≡ verdict_answer v put used
  numbers_answered r refused answered too_long v is = go checked refl refused answered too_long
    where
      go : (c : Result A E) → checked ≡ c → IfErr c (λ e. r ≡ Err e) → OnOk c (IfSome put (λ n. r ≡ Ok (record { used = used; reply = n })))
          → OnOk c (IfNone put (IsErrAnd r gives)) → answer_with number r ≡ verdict_answer v put used
      go (Ok a) c_is e h l = answer_put number c_is v is put used (put_numbers r put h l)
      go (Err d) c_is e h l = ap (answer_with number) e ∙ answer_refused number (some d c_is) c_is v is put used

  pub buffer_left : (out mid : Bytes) → OnErr checked (out ≡ replicate (length mid) 0) → OnOk checked (out ≡ mid)
      → (v : Verdict) → number_with number checked ≡ verdict_byte v → out ≡ buffer_after v mid
  buffer_left out mid cleared kept v is = go checked refl cleared kept
    where
      go : (c : Result A E) → checked ≡ c → OnErr c (out ≡ replicate (length mid) 0) → OnOk c (out ≡ mid) → out ≡ buffer_after v mid
      go (Ok a) c_is h k = k ∙ buffer_put number c_is v is mid
      go (Err d) c_is h k = buffer_refused number (some d c_is) c_is v is mid h
