-- Signed numbers by their two cases, `pos n` and `negsuc n`: what the code's tests, sums and casts say of the sizes, which `omega` reads.
-- The machine reads a signed number back from its bits, `to_z w64 (of_z w64 z)`, which is z where z fits. Assumes nothing.
use mathlib.Core.Path.{◌≡◌, refl, sym, ap, ap₂, ◌∙◌, subst, subst⁻¹}
use mathlib.Core.Bool.{Bool, true, false}
use mathlib.Core.List.{List, [], ◌∷◌, ◌++◌}
use Prim.Native.Nat.{ℕ, zero, suc, ◌-◌, ◌^◌, ◌≤◌, ◌<◌}
use native.Mathlib.Omega.{arith}
use lib.Dec.{ltb}
use lib.IntN.{ℤ, pos, negsuc, neg_ℤ, nat_abs, sub_ℕ, ◌+ℤ◌, ◌-ℤ◌}
use lib.Signed.{mag, lt_z}
use mir.Syntax.{w64}
use mir.Val.{SFits, to_z, of_z}
use mir.ValLaws.{to_z-of_z}
use borrow.Author.Tests.{lt-ltb, le-ltb, ltb-true, ltb-false}
use Rattle.base_writing.specs.Puts.{Puts, Adds}
use Rattle.base_writing.proofs.Puts.{then_puts, same_text}
use Rattle.std.specs.Prelude.{SomeIff, OkIff, Result, Ok, Err}
use Rattle.std.specs.Result.{result_ok}
use Rattle.base_number.specs.Decimal.{digits, decimal}
use Rattle.base_number.specs.Number.{number_of}
use Rattle.std.specs.Prelude.{Option, None, Some}

-- what is to be shown of a number read back from its bits is shown of the number
pub at_bits : {z : ℤ} → SFits w64 z → (P : ℤ → Type 0) → P z → P (to_z w64 (of_z w64 z))
at_bits {z} h P p = subst⁻¹ P (to_z-of_z w64 z h) p

-- a difference of two sizes is one of two cases
pub sub_cases : (P : ℤ → Type 0) (a b : ℕ) → (a < b → P (negsuc (b - suc a))) → (b ≤ a → P (pos (a - b))) → P (sub_ℕ a b)
sub_cases P a b below above = go (ltb a b) refl
  where
    go : (t : Bool) → ltb a b ≡ t → P (sub_ℕ a b)
    go true e = subst⁻¹ (λ (u : Bool). P (mathlib.Core.Bool.cond u (negsuc (b - suc a)) (pos (a - b)))) e (below (ltb-true a b e))
    go false e = subst⁻¹ (λ (u : Bool). P (mathlib.Core.Bool.cond u (negsuc (b - suc a)) (pos (a - b)))) e (above (ltb-false a b e))

-- -1 less a number below zero
pub less_minus_one : (k : ℕ) → negsuc 0 -ℤ negsuc k ≡ pos k
less_minus_one k = sub_cases (λ (z : ℤ). z ≡ pos k) (suc k) 1 (λ h. absurd (omega arith)) (λ h. ap pos (omega arith))

-- a number below zero, as the code mirrors it at -1
pub record Below (z : ℤ) : Type 0 where
  pub size : ℕ
  pub is : z ≡ negsuc size
  pub small : size < 2 ^ 63
  pub fits : SFits w64 (negsuc 0 -ℤ to_z w64 (of_z w64 z))
  pub mirror : to_z w64 (of_z w64 (negsuc 0 -ℤ to_z w64 (of_z w64 z))) ≡ pos size

pub below_zero : (z : ℤ) → SFits w64 z → lt_z (to_z w64 (of_z w64 z)) (pos 0) ≡ true → Below z
below_zero z h test = go z h (subst (λ (x : ℤ). lt_z x (pos 0) ≡ true) (to_z-of_z w64 z h) test)
  where
    go : (z : ℤ) → SFits w64 z → lt_z z (pos 0) ≡ true → Below z
    go (pos n) h t = let z : n < 0 = ltb-true n 0 t in absurd (omega arith)
    go (negsuc k) h t =
        let back : negsuc 0 -ℤ to_z w64 (of_z w64 (negsuc k)) ≡ pos k = ap (λ (x : ℤ). negsuc 0 -ℤ x) (to_z-of_z w64 (negsuc k) h) ∙ less_minus_one k in
        let small : SFits w64 (pos k) = record { sfits = h.sfits } in
        record {
          size = k;
          is = refl;
          small = h.sfits;
          fits = subst⁻¹ (SFits w64) back small;
          mirror = ap (λ (x : ℤ). to_z w64 (of_z w64 x)) back ∙ to_z-of_z w64 (pos k) small;
        }

-- a number that is not below zero
pub not_below : (z : ℤ) → SFits w64 z → lt_z (to_z w64 (of_z w64 z)) (pos 0) ≡ false → (z ≡ pos (nat_abs z)) × (nat_abs z < 2 ^ 63)
not_below z h test = go z h (subst (λ (x : ℤ). lt_z x (pos 0) ≡ false) (to_z-of_z w64 z h) test)
  where
    go : (z : ℤ) → SFits w64 z → lt_z z (pos 0) ≡ false → (z ≡ pos (nat_abs z)) × (nat_abs z < 2 ^ 63)
    go (pos n) h t = (refl, h.sfits)
    go (negsuc k) h t = let z : ◌≡◌ {A = ℕ} 0 1 = cc in absurd (omega arith)

-- an integer within 64 bits, and one that is not
pub number_fits : (z : ℤ) → mag z < 2 ^ 63 → number_of z ≡ Some z
unfolding number_of
number_fits z h = rw (lt-ltb (mag z) (2 ^ 63) h) refl

pub number_over : (z : ℤ) → 2 ^ 63 ≤ mag z → number_of z ≡ None
unfolding number_of
number_over z h = rw (le-ltb (mag z) (2 ^ 63) h) refl

pub negative_over : (v : ℕ) → 2 ^ 63 < v → number_of (neg_ℤ (pos v)) ≡ None
negative_over zero h = absurd (omega arith)
negative_over (suc k) h = number_over (negsuc k) (omega arith)

-- what the code makes of an integer that the library found within 64 bits, and of one that it did not
abbrev pub bits : ℤ → ℤ
bits z = to_z w64 (of_z w64 z)

pub number_some : {z n : ℤ} → SFits w64 z × (n ≡ z) → Some (bits n) ≡ number_of z
number_some {z} h = ap (λ (x : ℤ). Some (bits x)) h.1 ∙ ap Some (to_z-of_z w64 z h.0) ∙ sym (number_fits z h.0.sfits)

pub number_none : {z : ℤ} → ¬ (SFits w64 z) → None ≡ number_of z
number_none {z} h = let over : ¬ (mag z < 2 ^ 63) = λ (k : mag z < 2 ^ 63). h (record { sfits = k }) in sym (number_over z (omega arith))

-- what a checked operation and a checked conversion of the library answer
pub number_is : (r : Option ℤ) (z : ℤ) → SomeIff r (SFits w64 z) z → r ≡ number_of z
number_is (Some n) z h = ap Some h.1 ∙ sym (number_fits z h.0.sfits)
number_is None z h = number_none h

pub number_ok : {E : Type 0} (r : Result ℤ E) (z : ℤ) → OkIff r (SFits w64 z) z → result_ok r ≡ number_of z
number_ok (Ok n) z h = ap Some h.1 ∙ sym (number_fits z h.0.sfits)
number_ok (Err e) z h = number_none h

-- the sum of two numbers, which the machine reads back from their bits
pub sum_bits : {a b : ℤ} → SFits w64 a → SFits w64 b → bits a +ℤ bits b ≡ a +ℤ b
sum_bits {a} {b} ha hb = ap₂ ◌+ℤ◌ (to_z-of_z w64 a ha) (to_z-of_z w64 b hb)

-- the text of a number, by its sign and the size that the code found
module _ (z : ℤ) {size : ℕ} (fits : SFits w64 z) (is : size ≡ nat_abs (bits z)) where
  size_is : size ≡ nat_abs z
  size_is = is ∙ ap nat_abs (to_z-of_z w64 z fits)

  pub write_below : {entry mid exit : List ℕ} {put after : Option ℕ} → lt_z (bits z) (pos 0) ≡ true → Puts (45 ∷ []) entry put mid → Adds (digits size) put mid after exit → Puts (decimal z) entry after exit
  unfolding decimal
  write_below below p a =
      let text : decimal z ≡ (45 ∷ []) ++ digits (nat_abs z) = rw (below_zero z fits below).is refl in
      same_text (text ∙ ap (λ (n : ℕ). (45 ∷ []) ++ digits n) (sym size_is)) (then_puts p a)

  pub write_above : {entry exit : List ℕ} {after : Option ℕ} → lt_z (bits z) (pos 0) ≡ false → Puts (digits size) entry after exit → Puts (decimal z) entry after exit
  unfolding decimal
  write_above above p = same_text (ap decimal (not_below z fits above).0 ∙ ap digits (sym size_is)) p
