-- The rest of a slice, as a call is lent it. Assumes nothing.
use mathlib.Core.Path.{◌≡◌, refl, ap, ◌∙◌}
use mathlib.Core.List.{List, ◌++◌, append-nil}
use Prim.Native.Nat.{ℕ, ◌-◌}
use native.Mathlib.Omega.{arith}
use lib.ListN.{length, take, drop, length-drop, drop_of_length-le}
use lib.Seq.{take_all}
use borrow.Rule.Slice.PartMut.{mid_of, put_mid}

-- The part of `whole` from n on, as a callee is lent it by `&mut whole[n..]`, and `whole` with what the callee left in its place.
abbrev pub rest : ℕ → List ℕ → List ℕ
rest n whole = mid_of n (length whole - n) whole

abbrev pub with_rest : ℕ → List ℕ → List ℕ → List ℕ
with_rest n whole part = put_mid n (length whole - n) whole part

pub rest_is : (n : ℕ) (whole : List ℕ) → rest n whole ≡ drop n whole
rest_is n whole = take_all (length whole - n) (drop n whole) (simp length-drop (omega arith))

pub with_rest_is : (n : ℕ) (whole part : List ℕ) → with_rest n whole part ≡ take n whole ++ part
with_rest_is n whole part =
    ap (λ (l : List ℕ). take n whole ++ (part ++ l)) (drop_of_length-le (drop n whole) {i = length whole - n} (simp length-drop (omega arith))) ∙ rw append-nil refl
