-- The laws of reading a header's length: each turn of the loop moves one digit from the text that is left into the value. Assumes nothing.
use mathlib.Core.Path.{◌≡◌, refl, sym, ap, ◌∙◌}
use mathlib.Core.Bool.{Bool, true, false, cond, ◌&&◌}
use mathlib.Core.Logic.{◌⊎◌, inl, inr, ◌≢◌}
use mathlib.Core.List.{List, [], ◌∷◌}
use Rattle.std.specs.Prelude.{None}
use Prim.Native.Nat.{ℕ, ◌+◌, ◌*◌, ◌-◌, ◌^◌, ◌≤◌, ◌<◌}
use native.Mathlib.Numerals.{add-one}
use native.Mathlib.Omega.{arith}
use lib.Dec.{leb}
use lib.ListN.{length, drop, get_or, drop_of_length-le}
use lib.Seq.{drop-cons}
use borrow.Author.Tests.{le-leb, lt-leb, lt-ltb, le-ltb, ne_eqb}
use Rattle.base_number.specs.Number.{value_from, value_of, length_within, length_of}
use Rattle.std.specs.Prelude.{Option, Some}

-- the answer to the text from i on, behind digits of value v
abbrev pub rest : List ℕ → ℕ → ℕ → Option ℕ
rest text i v = length_within (value_from v (drop i text))

-- the loop at i: the digits before it have the value v, and the answer is that to the rest
pub record Digits (text : List ℕ) (i v : ℕ) : Type 0 where
  pub within : v < 2 ^ 64
  pub same : length_within (value_of text) ≡ rest text i v

pub digits_begin : (text : List ℕ) → (length text ≡ 0 → ⊥) → Digits text 0 0
unfolding value_of
digits_begin [] h = absurd (h refl)
digits_begin (b ∷ text) h = record { within = omega arith; same = refl }

pub digits_none : (text : List ℕ) → length text ≡ 0 → None ≡ length_within (value_of text)
unfolding value_of length_within
digits_none [] h = refl
digits_none (b ∷ text) h = absurd (omega arith)

-- a value that is too great stays too great
over : (text : List ℕ) (v : ℕ) → 2 ^ 64 ≤ v → length_within (value_from v text) ≡ None
unfolding value_from length_within
over [] v h = rw (le-ltb v (2 ^ 64) h) refl
over (b ∷ text) v h = go (leb 48 b && leb b 57) (over text (v * 10 + (b - 48)) (omega arith))
  where
    go : (t : Bool) → length_within (value_from (v * 10 + (b - 48)) text) ≡ None → length_within (cond t (value_from (v * 10 + (b - 48)) text) None) ≡ None
    go true e = e
    go false e = refl

module _ {text : List ℕ} {i v : ℕ} (d : Digits text i v) (h : i < length text) where
  turn : 48 ≤ get_or text i 0 → get_or text i 0 ≤ 57 → rest text i v ≡ rest text (i + 1) (v * 10 + (get_or text i 0 - 48))
  unfolding value_from
  turn low high = rw (drop-cons text i 0 h, le-leb 48 (get_or text i 0) low, le-leb (get_or text i 0) 57 high, add-one i) refl

  pub no_digit : (get_or text i 0 < 48) ⊎ (57 < get_or text i 0) → None ≡ length_within (value_of text)
  unfolding value_from length_within
  no_digit (inl low) = sym (d.same ∙ rw (drop-cons text i 0 h, lt-leb 48 (get_or text i 0) low) refl)
  no_digit (inr high) =
      let low : 48 ≤ get_or text i 0 = omega arith in
      sym (d.same ∙ rw (drop-cons text i 0 h, le-leb 48 (get_or text i 0) low, lt-leb (get_or text i 0) 57 high) refl)

  module _ (low : 48 ≤ get_or text i 0) (high : get_or text i 0 ≤ 57) where
    too_great : 2 ^ 64 ≤ v * 10 + (get_or text i 0 - 48) → None ≡ length_within (value_of text)
    too_great great = sym (d.same ∙ turn low high ∙ over (drop (i + 1) text) (v * 10 + (get_or text i 0 - 48)) great)

    -- one more digit is too much, or this digit is
    pub tens_over : ¬ (v * 10 < 2 ^ 64) → None ≡ length_within (value_of text)
    tens_over great = too_great (omega arith)

    pub digit_over : {tens : ℕ} → tens ≡ v * 10 → ¬ (tens + (get_or text i 0 - 48) < 2 ^ 64) → None ≡ length_within (value_of text)
    digit_over e great = too_great (omega arith)

    pub digit_turn : {tens next : ℕ} → tens ≡ v * 10 → tens + (get_or text i 0 - 48) < 2 ^ 64 → next ≡ tens + (get_or text i 0 - 48) → Digits text (i + 1) next
    digit_turn e fits n = record { within = omega arith; same = rw (n, e) (d.same ∙ turn low high) }

pub digits_end : {text : List ℕ} {i v : ℕ} → Digits text i v → length text ≤ i → Some v ≡ length_within (value_of text)
unfolding value_from length_within
digits_end {text} {i} {v} d h = sym (d.same ∙ rw (drop_of_length-le text {i = i} h, lt-ltb v (2 ^ 64) d.within) refl)

-- the header's text with a sign, and without one
pub header_plus : {text digits : List ℕ} → text ≡ 43 ∷ digits → length_within (value_of digits) ≡ length_of text
unfolding length_of
header_plus e = ap length_of (sym e)

pub header_digits : (text : List ℕ) → ((digits : List ℕ) → text ≢ 43 ∷ digits) → length_within (value_of text) ≡ length_of text
unfolding value_of length_within length_of
header_digits [] m = refl
header_digits (b ∷ text) m = rw (ne_eqb b 43 (λ (e : b ≡ 43). m text (λ i. e i ∷ text))) refl
