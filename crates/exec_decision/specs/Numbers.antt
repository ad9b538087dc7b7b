-- What a preview gives, as the numbers that it returns.
use Rattle.std.specs.Prelude.{ℕ, Result, Ok, Err}
use Rattle.group_spec.specs.Group.{verdict_byte}
use Rattle.command_spec.specs.declared.CallError.{CallError}
use Rattle.command_spec.specs.Numbers.{error_number}
use Rattle.exec_decision.specs.declared.Preview.{Preview}

-- 0 or a number, the verdict byte (255: none is reached), the length of the reply, and the last sequence that EXEC would leave
pub record PreviewNumbers : Type 0 where
  pub number : ℕ
  pub verdict : ℕ
  pub reply : ℕ
  pub last : ℕ

-- with an error: verdict 255 and last sequence 0
abbrev pub preview_numbers : Result Preview CallError → PreviewNumbers
preview_numbers (Ok p) = record { number = 0; verdict = verdict_byte p.verdict; reply = p.reply; last = p.last }
preview_numbers (Err e) = record { number = error_number e; verdict = 255; reply = 0; last = 0 }
