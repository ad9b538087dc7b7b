-- What a call gives, as the numbers that it returns.
use Rattle.std.specs.Prelude.{ℕ, Result, Ok, Err}
use Rattle.command_spec.specs.declared.Answer.{Answer}
use Rattle.command_spec.specs.declared.CallError.{CallError}
use Rattle.command_spec.specs.declared.CallError.TheVariants.{NoSession, TooManyArguments, ReplyTooLong, QueueFull, WatchFull, NoRoom, NoSequence, GroupUnfit, MemoryUnfit}

-- the number of an error
abbrev pub error_number : CallError → ℕ
error_number NoSession = 1
error_number TooManyArguments = 2
error_number ReplyTooLong = 3
error_number QueueFull = 4
error_number WatchFull = 5
error_number NoRoom = 6
error_number NoSequence = 7
error_number GroupUnfit = 8
error_number MemoryUnfit = 9

-- 0, or the number of the error
abbrev pub number_of : {A : Type 0} → Result A CallError → ℕ
number_of (Ok a) = 0
number_of (Err e) = error_number e

-- the same with any error, by its number
abbrev pub number_with : {A E : Type 0} → (E → ℕ) → Result A E → ℕ
number_with number (Ok a) = 0
number_with number (Err e) = number e

-- 0 or a number, the bytes used, and the length of the reply
pub record AnswerNumbers : Type 0 where
  pub number : ℕ
  pub used : ℕ
  pub reply : ℕ

-- an answer, or an error: no bytes are used, and there is no reply
abbrev pub answer_numbers : Result Answer CallError → AnswerNumbers
answer_numbers (Ok a) = record { number = 0; used = a.used; reply = a.reply }
answer_numbers (Err e) = record { number = error_number e; used = 0; reply = 0 }

-- the same with any error, by its number
abbrev pub answer_with : {E : Type 0} → (E → ℕ) → Result Answer E → AnswerNumbers
answer_with number (Ok a) = record { number = 0; used = a.used; reply = a.reply }
answer_with number (Err e) = record { number = number e; used = 0; reply = 0 }
