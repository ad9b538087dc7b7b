-- The laws of reading a whole number by its first byte. Assumes nothing.
use mathlib.Core.Path.{◌≡◌, refl, sym, ap, ◌∙◌}
use mathlib.Core.Bool.{Bool, true, false, cond, false≢true}
use mathlib.Core.List.{List, [], ◌∷◌}
use mathlib.Core.Logic.{◌≢◌}
use Rattle.std.specs.Prelude.{Option, None, Some}
use Prim.Native.Nat.{ℕ, ◌^◌, ◌≤◌, ◌<◌}
use native.Mathlib.Omega.{arith}
use lib.Dec.{leb, ltb, eqb}
use lib.IntN.{pos}
use lib.ListN.{drop}
use Rattle.std.specs.List.{starts_with}
use Rattle.std.proofs.lemmas.Bool.Decides.{Decides-eqb}
use Rattle.std.proofs.lemmas.Slice.Eq.{starts_is}
use borrow.Author.Tests.{le-leb, lt-leb, leb-true, leb-false, ltb-false, ne_eqb}
use Rattle.base_key.specs.Bytes.{◌and◌, bytes, same_bytes}
use Rattle.base_number.specs.Number.{value_from, value_of, size_of, signed, whole_of, number_of, number_in, int_arg, length_within}
use Rattle.base_number.specs.Sizes.{Positive}
use Rattle.base_key.proofs.Keys.{same_bytes_lem, other_list}
use Rattle.base_number.proofs.Signed.{negative_over, number_over}
use Rattle.base_number.proofs.RoundTrip.{sized_text}
use Rattle.std.specs.Prelude.{ℤ}

-- a value beyond 64 bits is beyond every number
sized : (negative : Bool) (value : Option ℕ) → number_in (signed negative (length_within value)) ≡ number_in (signed negative value)
unfolding length_within signed number_in
sized true None = refl
sized false None = refl
sized negative (Some v) = go negative (ltb v (2 ^ 64)) refl
  where
    go : (n t : Bool) → ltb v (2 ^ 64) ≡ t → number_in (signed n (cond t (Some v) None)) ≡ number_in (signed n (Some v))
    go n true e = refl
    go true false e = let h : 2 ^ 64 ≤ v = ltb-false _ _ e in sym (negative_over v (omega arith))
    go false false e = let h : 2 ^ 64 ≤ v = ltb-false _ _ e in sym (number_over (pos v) (omega arith))

-- digits that do not begin with 0 begin with 1 to 9
not_zero : (b : ℕ) (text : List ℕ) → (b ≡ 48 → ⊥) → size_of (b ∷ text) ≡ value_of (b ∷ text)
unfolding size_of value_of value_from
not_zero b text other = go (leb 49 b) (leb b 57) refl refl
  where
    go : (low high : Bool) → leb 49 b ≡ low → leb b 57 ≡ high → size_of (b ∷ text) ≡ value_of (b ∷ text)
    go true true l u = rw (l, u) refl
    go true false l u = let digit : 48 ≤ b = omega (arith, leb-true 49 b l) in rw (l, u, le-leb 48 b digit) refl
    go false high l u = let under : b < 48 = omega (arith, leb-false 49 b l, other) in rw (l, lt-leb 48 b under) refl

pub size_zero : (text : List ℕ) → true ≡ starts_with eqb text (48 ∷ []) → None ≡ length_within (size_of text)
unfolding size_of length_within
size_zero text e =
    let begins : text ≡ 48 ∷ drop 1 text = (starts_is Decides-eqb text (48 ∷ []) true e).0 refl in
    sym (ap (λ (t : List ℕ). length_within (size_of t)) begins)

pub size_digits : (text : List ℕ) {l : Option ℕ} → false ≡ starts_with eqb text (48 ∷ []) → l ≡ length_within (value_of text) → l ≡ length_within (size_of text)
unfolding value_of size_of
size_digits [] e size = size
size_digits (b ∷ text) e size =
    let other : b ≡ 48 → ⊥ = λ (f : b ≡ 48). false≢true ((starts_is Decides-eqb (b ∷ text) (48 ∷ []) false e).1 text (λ z. f z ∷ text)) in
    size ∙ ap length_within (sym (not_zero b text other))

-- their value is not 0
sized_positive : {l : Option ℕ} (text : List ℕ) (n : ℕ) → l ≡ length_within (size_of text) → l ≡ Some n → 1 ≤ n
unfolding length_within
sized_positive text n size e = go (size_of text) refl (sym size ∙ e)
  where
    go : (s : Option ℕ) → size_of text ≡ s → length_within s ≡ Some n → 1 ≤ n
    go None is h = let z : ◌≡◌ {A = ℕ} 0 1 = cc in absurd (omega arith)
    go (Some m) is h = within (ltb m (2 ^ 64)) h
      where
        within : (t : Bool) → cond t (Some m) None ≡ Some n → 1 ≤ n
        within true v = let same : m ≡ n = cc in omega (arith, (sized_text text m is).positive)
        within false v = let z : ◌≡◌ {A = ℕ} 0 1 = cc in absurd (omega arith)

pub size_positive : {l : Option ℕ} (text : List ℕ) → l ≡ length_within (size_of text) → Positive l
size_positive text size = record { positive = λ n e. sized_positive text n size e }

-- `n` is what the code makes of a sign and the size `l` that it read
pub with_minus : {text digits : List ℕ} {n : Option ℤ} {l : Option ℕ} → text ≡ 45 ∷ digits → l ≡ length_within (size_of digits) → n ≡ number_in (signed true l) → n ≡ int_arg text
unfolding int_arg whole_of same_bytes ◌and◌
with_minus {digits = digits} e size made = made ∙ ap (λ (l : Option ℕ). number_in (signed true l)) size ∙ sized true (size_of digits) ∙ ap int_arg (sym e)

pub zero_read : {text : List ℕ} → text ≡ 48 ∷ [] → Some (pos 0) ≡ int_arg text
unfolding int_arg whole_of number_of number_in same_bytes ◌and◌
zero_read e = ap int_arg (sym e)

-- any other text without `-`
pub no_sign : (text : List ℕ) {n : Option ℤ} {l : Option ℕ} → ((digits : List ℕ) → text ≢ 45 ∷ digits) → text ≢ 48 ∷ [] → l ≡ length_within (size_of text) → n ≡ number_in (signed false l) → n ≡ int_arg text
unfolding int_arg whole_of signed size_of
no_sign [] m z size made = made ∙ rw size (sized false (size_of []))
no_sign (b ∷ text) m z size made =
    let plain : b ≡ 45 → ⊥ = λ (e : b ≡ 45). m text (λ i. e i ∷ text) in
    let other : same_bytes (b ∷ text) (bytes "0") ≡ false = same_bytes_lem (b ∷ text) (bytes "0") ∙ sym (other_list (b ∷ text) (bytes "0") z) in
    made ∙ rw (size, other, ne_eqb b 45 plain) (sized false (size_of (b ∷ text)))
