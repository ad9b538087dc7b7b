-- The struct that a request returns, from the reply that was put.
use Rattle.std.specs.Prelude.{ℕ}
use Rattle.command_spec.specs.Numbers.{AnswerNumbers}
use Rattle.std.specs.Prelude.{Option, None, Some}

-- an answer without reply
abbrev pub refusal : ℕ → AnswerNumbers
refusal n = record { number = n; used = 0; reply = 0 }

-- a reply that was put: its answer, or 3
unfoldable pub put_answer : Option ℕ → ℕ → AnswerNumbers
put_answer (Some n) used = record { number = 0; used = used; reply = n }
put_answer None used = refusal 3
