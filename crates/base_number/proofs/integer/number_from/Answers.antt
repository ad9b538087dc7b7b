-- `base_number::integer::number_from` meets its contract. Assumes nothing.
use Rattle.std.proofs.Common.{◌≡◌, ℕ, ap, ◌∙◌, pos, ◌-ℤ◌, neg_ℤ, arith, rules}
use Rattle.std.proofs.lemmas.Int.{ints}
use Rattle.base_number.specs.Number.{number_of, signed, number_in}
use Rattle.base_number.proofs.Signed.{number_is, number_ok}
use Rattle.base_number.proofs.integer.number_from.Goals as goal

below_zero : (n : ℕ) → pos 0 -ℤ pos n ≡ neg_ℤ (pos n)
below_zero n = omega (arith, ints)

pub returns-in_err-value : goal.returns-in_err-value
unfolding signed number_in
returns-in_err-value c = search rules

pub returns-then-negative : goal.returns-then-negative
unfolding signed number_in
returns-then-negative c = rw (c.in_ok-value.was, c.if-negative.true) (number_is _ _ c.checked_sub_unsigned.ensures ∙ ap number_of (below_zero _))

pub returns : goal.returns
unfolding signed number_in
returns c = rw (c.in_ok-value.was, c.if-negative.false) (c.ok.ensures.value ∙ number_ok _ _ c.try_from.ensures)
