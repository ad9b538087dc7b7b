-- The number of a call, test by test. Assumes nothing.
use Prim.Native.Nat.{ℕ, ◌≤◌, ◌<◌}
use native.Mathlib.Omega.{arith}
use mathlib.Core.Path.{◌≡◌, refl, sym, ◌∙◌, ap}
use mathlib.Core.Bool.{Bool, true, false, cond, not}
use mathlib.Core.List.{List}
use lib.Dec.{ltb, leb}
use lib.ListN.{length}
use borrow.Author.Tests.{lt-ltb, ltb-true, le-leb, lt-leb}
use Rattle.base_key.specs.Bytes.{Bytes, ◌and◌}
use Rattle.store_memtable.specs.Layout.{last_word, store_in, valid_store}
use Rattle.store_memtable.proofs.Validity.{validated}
use Rattle.command_spec.specs.Sessions.{valid_sessions}
use Rattle.call_spec.specs.Calls.{lent_of, valid}
use Rattle.call_numbers.specs.Numbers.{request_number, group_number}

-- a test that the code asks by its opposite
passed : (t : Bool) → not t ≡ false → t ≡ true
passed true e = refl
passed false e = let z : ◌≡◌ {A = ℕ} 0 1 = cc in absurd (omega arith)

failed : (t : Bool) → not t ≡ true → t ≡ false
failed true e = let z : ◌≡◌ {A = ℕ} 0 1 = cc in absurd (omega arith)
failed false e = refl

-- of a request
module _ (i : ℕ) (w : List ℕ) (b : Bytes) (sw : List ℕ) (sb : Bytes) where
  pub number_one : 15 < i → 1 ≡ request_number i (lent_of w b sw sb)
  unfolding request_number
  number_one h =
      let e : ltb i 16 ≡ false = above (ltb i 16) refl in
      sym (ap (λ (x : Bool). cond x (cond (valid (lent_of w b sw sb)) 0 9) 1) e)
    where
      above : (t : Bool) → ltb i 16 ≡ t → ltb i 16 ≡ false
      above true e = absurd (omega (arith, ltb-true i 16 e))
      above false e = e

  module _ (h : i ≤ 15) {t : Bool} (is : t ≡ valid_store w b) where
    number_by : {v : Bool} → valid (lent_of w b sw sb) ≡ v → cond v 0 9 ≡ request_number i (lent_of w b sw sb)
    unfolding request_number
    number_by p = sym (λ z. cond (lt-ltb i 16 (omega arith) z) (cond (p z) 0 9) 1)

    pub store_nine : not t ≡ true → 9 ≡ request_number i (lent_of w b sw sb)
    unfolding valid ◌and◌
    store_nine e = number_by (ap (λ (x : Bool). x and valid_sessions (store_in w b).last sw sb) (sym is ∙ failed t e))

    module _ {u : Bool} (us : u ≡ valid_sessions (last_word w) sw sb) (e : not t ≡ false) where
      pub sessions_nine : u ≡ false → 9 ≡ request_number i (lent_of w b sw sb)
      unfolding valid ◌and◌ store_in
      sessions_nine f = number_by (λ z. (sym is ∙ passed t e) z and (sym us ∙ f) z)

      pub number_zero : u ≡ true → 0 ≡ request_number i (lent_of w b sw sb)
      unfolding valid ◌and◌ store_in
      number_zero f = number_by (λ z. (sym is ∙ passed t e) z and (sym us ∙ f) z)

pub valid_words : (w : List ℕ) (b : Bytes) {t : Bool} → t ≡ valid_store w b → not t ≡ false → 2 < length w
valid_words w b {t} is e = omega (arith, (validated w b is (passed t e)).words_hold)

-- of a group
module _ (inside : Bool) (n v : ℕ) (w b : List ℕ) {t : Bool} (is : t ≡ valid_store w b) where
  number_is : {f : Bool} → t ≡ true → leb n 64 and leb n v and inside ≡ f → cond f 0 8 ≡ group_number inside n v w b
  unfolding group_number
  number_is e p = sym (λ z. cond ((sym is ∙ e) z) (cond (p z) 0 8) 9)

  pub number_nine : t ≡ false → 9 ≡ group_number inside n v w b
  unfolding group_number
  number_nine e = sym (ap (λ (x : Bool). cond x (cond (leb n 64 and leb n v and inside) 0 8) 9) (sym is ∙ e))

  pub number_many : t ≡ true → 64 < n → 8 ≡ group_number inside n v w b
  unfolding ◌and◌
  number_many e h = number_is e (ap (λ (x : Bool). x and (leb n v and inside)) (lt-leb n 64 h))

  pub number_few : t ≡ true → n ≤ 64 → v < n → 8 ≡ group_number inside n v w b
  unfolding ◌and◌
  number_few e h k = number_is e (λ z. le-leb n 64 h z and (lt-leb n v k z and inside))

  pub number_inside : t ≡ true → n ≤ 64 → n ≤ v → inside ≡ true → 0 ≡ group_number inside n v w b
  unfolding ◌and◌
  number_inside e h k y = number_is e (λ z. le-leb n 64 h z and (le-leb n v k z and y z))

  pub number_outside : t ≡ true → n ≤ 64 → n ≤ v → inside ≡ false → 8 ≡ group_number inside n v w b
  unfolding ◌and◌
  number_outside e h k y = number_is e (λ z. le-leb n 64 h z and (le-leb n v k z and y z))
