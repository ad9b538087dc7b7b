-- Laws of walks over the arguments of a command: how many of them are live keys. Assumes nothing.
use Prim.Native.Nat.{ℕ, suc, ◌+◌, ◌-◌, ◌≤◌, ◌<◌}
use native.Mathlib.Omega.{arith}
use mathlib.Core.Path.{◌≡◌, refl, sym, ap, ◌∙◌}
use mathlib.Core.Bool.{Bool, true, false}
use mathlib.Core.List.{List, [], ◌∷◌}
use Rattle.std.specs.Prelude.{Option, None, Some}
use lib.ListN.{length}
use Rattle.base_key.specs.Bytes.{Bytes}
use Rattle.base_key.specs.Keys.{Key}
use Rattle.store_memtable.specs.Table.{Value, Reader}
use Rattle.store_memtable.specs.Walk.{is_live}
use Rattle.command_spec.specs.Command.{argument, live_one, live}
use Rattle.command_spec.specs.Places.{arguments_at}
use Rattle.command_spec.proofs.PlaceLaws.{argument_is, arguments_count, arguments_next, arguments_end}
use Rattle.std.specs.Int.{from_bool}

-- no more keys are live than there are
pub live_few : (r : Reader) (ks : List Key) → live r ks ≤ length ks
unfolding live
live_few r [] = omega arith
live_few r (k ∷ ks) = go (r k) (live_few r ks)
  where
    go : (x : Option Value) → live r ks ≤ length ks → live_one x + live r ks ≤ suc (length ks)
    go None h = omega arith
    go (Some v) h = omega arith

pub live_within : (r : Reader) (from n : ℕ) (places : List ℕ) (input : Bytes) → live r (arguments_at from n places input) ≤ n
live_within r from n places input = omega (arith, live_few r (arguments_at from n places input), arguments_count from n places input)

one_live : (x : Option Value) → from_bool (is_live x) ≡ live_one x
one_live None = refl
one_live (Some v) = refl

one_small : (t : Bool) → from_bool t ≤ 1
one_small true = omega arith
one_small false = omega arith

-- `count` of the keys from place `from` up to i are live
pub record Counting (r : Reader) (places : List ℕ) (input : Bytes) (from to i count : ℕ) : Type 0 where
  pub begun : from ≤ i
  pub within : i ≤ to
  pub few : count ≤ i - from
  pub rest : live r (arguments_at from (to - from) places input) ≡ count + live r (arguments_at i (to - i) places input)

module _ {r : Reader} {places : List ℕ} {input : Bytes} {from to i count : ℕ} (g : Counting r places input from to i count) where
  pub counting_more : {t : Bool} {one : ℕ} (k : Key) → i < to → k ≡ argument i (arguments_at 0 to places input) → t ≡ is_live (r k) → one ≡ from_bool t → Counting r places input from to (i + 1) (count + one)
  unfolding live
  counting_more {t} k h k-is t-is one-is =
      let next : live r (arguments_at i (to - i) places input) ≡ from_bool t + live r (arguments_at (i + 1) (to - (i + 1)) places input) =
      ap (live r) (arguments_next places input h)
      ∙ ap (λ (m : ℕ). m + live r (arguments_at (i + 1) (to - (i + 1)) places input))
      (sym (ap from_bool t-is ∙ one_live (r k) ∙ ap (λ (x : Key). live_one (r x)) (k-is ∙ sym (argument_is places input to i h refl)))) in
      record {
        begun = omega (arith, g.begun);
        within = omega arith;
        few = omega (arith, g.begun, g.few, one-is, one_small t);
        rest = omega (arith, g.rest, one-is, next);
      }

  pub counting_all : to ≤ i → count ≡ live r (arguments_at from (to - from) places input)
  unfolding live
  counting_all h = let e : live r (arguments_at i (to - i) places input) ≡ 0 = ap (live r) (arguments_end places input h) in omega (arith, g.rest, e)
