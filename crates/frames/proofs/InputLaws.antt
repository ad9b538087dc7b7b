-- The part of the input that is read: a line ends at the first LF. Assumes nothing.
use Prim.Native.Nat.{ℕ, suc, ◌+◌, ◌-◌, ◌≤◌}
use native.Mathlib.Omega.{arith}
use mathlib.Core.Path.{◌≡◌, refl, sym, ap, ◌∙◌}
use mathlib.Core.Bool.{Bool, true, false, not, cond}
use lib.Dec.{eqb, ltb}
use lib.ListN.{length, take, drop, length-drop}
use lib.Seq.{length-take-le}
use borrow.Author.Tests.{ltb-false}
use Rattle.std.proofs.Common.{Option, Some, None}
use Rattle.std.proofs.lemmas.List.Recursion.{is_position_or_len}
use Rattle.std.proofs.lemmas.List.Sums.{prefix_len-le-length}
use Rattle.std.specs.List.{position_or_len}
use Rattle.std.specs.Option.{unwrap_or}
use Rattle.base_key.specs.Bytes.{Bytes}
use Rattle.frames.specs.Input.{line_length}

first_is : (l : Bytes) → line_length l ≡ position_or_len (λ b. eqb b 10) l
unfolding line_length
first_is l = is_position_or_len line_length (λ b. eqb b 10) refl (λ b s. let e : suc (line_length s) ≡ 1 + line_length s = omega arith in ap (cond (eqb b 10) 0) e) l

found_is : (l : Bytes) {r : Option ℕ} → r ≡ cond (ltb (position_or_len (λ b. eqb b 10) l) (length l)) (Some (position_or_len (λ b. eqb b 10) l)) None → unwrap_or r (length l) ≡ line_length l
found_is l {r} e = go (ltb (position_or_len (λ b. eqb b 10) l) (length l)) refl
  where
    go : (v : Bool) → ltb (position_or_len (λ b. eqb b 10) l) (length l) ≡ v → unwrap_or r (length l) ≡ line_length l
    go true f = rw (e, f, first_is l)
    go false f = rw (e, f, first_is l) (omega (arith, ltb-false (position_or_len (λ b. eqb b 10) l) (length l) f, prefix_len-le-length (λ b. not (eqb b 10)) l))

-- the line in the part from `from` to `got`, or all of it
pub line_found : (part : Bytes) (from got : ℕ) {r : Option ℕ} → from ≤ got → got ≤ length part
    → r ≡ cond (ltb (position_or_len (λ b. eqb b 10) (take (got - from) (drop from part))) (length (take (got - from) (drop from part)))) (Some (position_or_len (λ b. eqb b 10) (take (got - from) (drop from part)))) None
    → unwrap_or r (got - from) ≡ line_length (take (got - from) (drop from part))
line_found part from got {r} h k e =
    let n : length (take (got - from) (drop from part)) ≡ got - from = length-take-le (got - from) (drop from part) (omega (arith, length-drop from part)) in
    ap (unwrap_or r) (sym n) ∙ found_is (take (got - from) (drop from part)) e
