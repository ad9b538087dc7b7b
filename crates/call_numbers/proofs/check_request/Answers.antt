-- `call_numbers::check_request` meets its contract. Assumes nothing.
use Rattle.call_numbers.proofs.NumberLaws.{number_one, store_nine, sessions_nine, number_zero, valid_words}
use native.Mathlib.Omega.{arith}
use Rattle.call_numbers.proofs.check_request.Goals as goal
use Rattle.call_numbers.proofs.check_request.Goals.{then-not-validate-via-then-not-validate, then-not-validate-via-else-not-validate+then-not-sessions_ok}

pub returns-then-session-gt15 : goal.returns-then-session-gt15
returns-then-session-gt15 c = number_one _ _ _ _ _ (omega (arith, c.if-session-gt15.true))

pub bounds-lent-2 : goal.bounds-lent-2
bounds-lent-2 c = search valid_words

pub returns-then-not-validate : goal.returns-then-not-validate
returns-then-not-validate c =
    elim c.then-not-validate.branch [
      | then-not-validate-via-then-not-validate w ↦ search store_nine
      | then-not-validate-via-else-not-validate+then-not-sessions_ok w ↦ search sessions_nine
    ]

pub returns : goal.returns
returns c = search number_zero
