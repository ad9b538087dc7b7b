-- Laws of counters: the number that a key holds, and what it is raised to. Assumes nothing.
use mathlib.Core.Path.{◌≡◌, sym, ap, ◌∙◌}
use mathlib.Core.List.{[], ◌∷◌}
use Rattle.std.specs.Prelude.{Some}
use lib.IntN.{ℤ, ◌+ℤ◌}
use Rattle.base_key.specs.Keys.{Key}
use Rattle.base_number.specs.Decimal.{decimal}
use Rattle.base_number.specs.Number.{number_of}
use Rattle.resp_spec.specs.Reply.{Integer}
use Rattle.command_spec.specs.Command.{not_integer, overflow, raised, summed}
use Rattle.std.specs.Prelude.{Option, None}

-- WHAT A COUNTER IS RAISED TO, by the number read and the checked sum
module _ (k : Key) (by : ℤ) {h : Option ℤ} where
  pub raised_bad : h ≡ None → raised k by h ≡ (not_integer, [])
  unfolding raised
  raised_bad e = ap (raised k by) e

  -- a and c are n and `by` as the sum reads them
  module _ {n a c : ℤ} {sum : Option ℤ} (is : h ≡ Some n) (a-is : a ≡ n) (c-is : c ≡ by) (sum_is_lem : sum ≡ number_of (a +ℤ c)) where
    raised_is : {o : Option ℤ} → sum ≡ o → raised k by h ≡ summed k o
    unfolding raised
    raised_is e = ap (raised k by) is ∙ ap (summed k) (sym (sum_is_lem ∙ (λ z. number_of (a-is z +ℤ c-is z))) ∙ e)

    pub raised_over : sum ≡ None → raised k by h ≡ (overflow, [])
    unfolding summed
    raised_over e = raised_is e

    pub raised_to : {m : ℤ} → sum ≡ Some m → raised k by h ≡ (Integer m, (k, Some (decimal m)) ∷ [])
    unfolding summed
    raised_to e = raised_is e
