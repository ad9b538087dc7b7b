-- `base_decimal::digits::digit_count` meets its contract. Assumes nothing.
use Rattle.std.proofs.Common.{◌∙◌, ap, ◌+◌}
use Rattle.base_number.proofs.Decimals.{digits_counted}
use Rattle.base_decimal.proofs.digits.digit_count.Goals as goal

pub returns : goal.returns
returns c =
    let log = c.checked_ilog10.ensures in
    ap (λ n. n + 1) (c.from.ensures ∙ c.unwrap_or.ensures) ∙ digits_counted _ _ log.none log.power_le log.next_power_gt
