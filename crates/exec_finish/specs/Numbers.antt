-- What is prepared, as numbers.
use Rattle.std.specs.Prelude.{ℕ, Result, Ok, Err}
use Rattle.group_spec.specs.declared.Verdict.{Verdict}
use Rattle.group_spec.specs.Group.{verdict_byte}
use Rattle.command_spec.specs.declared.CallError.{CallError}
use Rattle.command_spec.specs.Numbers.{error_number}
use Rattle.exec_finish.specs.declared.Prepared.{Prepared}

-- 0 or a number, the verdict byte (255: none is reached), the length of the reply, the rows of the own writes, and the end of their data
pub record PreparedNumbers : Type 0 where
  pub number : ℕ
  pub verdict : ℕ
  pub reply : ℕ
  pub rows : ℕ
  pub end : ℕ

-- with any verdict and any error, by the numbers of these; with an error: no verdict, no reply, no writes
abbrev pub prepared_with : {V E : Type 0} → (V → ℕ) → (E → ℕ) → Result (Prepared V) E → PreparedNumbers
prepared_with byte number (Ok p) = record { number = 0; verdict = byte p.verdict; reply = p.reply; rows = p.rows; end = p.end }
prepared_with byte number (Err e) = record { number = number e; verdict = 255; reply = 0; rows = 0; end = 0 }

-- with a verdict
abbrev pub prepared_numbers : Result (Prepared Verdict) CallError → PreparedNumbers
prepared_numbers = prepared_with verdict_byte error_number

-- with a word for the verdict
abbrev pub prepared_words : Result (Prepared ℕ) CallError → PreparedNumbers
prepared_words = prepared_with (λ n. n) error_number
