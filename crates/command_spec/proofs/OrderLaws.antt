-- The order of two keys, from how they compare. Assumes nothing.
use mathlib.Core.Path.{◌≡◌}
use mathlib.Core.Bool.{true, false}
use Rattle.base_key.specs.Keys.{Key, compare_keys, key_below}
use Rattle.std.specs.declared.cmp.Ordering.TheVariants.{Less, Equal, Greater}
use Rattle.std.specs.declared.cmp.Ordering.{Ordering}

module _ {o : Ordering} (a b : Key) (is : o ≡ compare_keys a b) where
  pub below_less : o ≡ Less → true ≡ key_below a b
  unfolding key_below
  below_less e = simp (← is, e)

  pub below_equal : o ≡ Equal → false ≡ key_below a b
  unfolding key_below
  below_equal e = simp (← is, e)

  pub below_greater : o ≡ Greater → false ≡ key_below a b
  unfolding key_below
  below_greater e = simp (← is, e)
