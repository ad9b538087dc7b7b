-- What replies are in bytes, pinned apart from their definition. Assumes nothing.
use mathlib.Core.Path.{◌≡◌, refl, ap, ap₂, ◌∙◌}
use mathlib.Core.Bool.{Bool, true, false}
use mathlib.Core.List.{[], ◌∷◌, ◌++◌, map, map-append, append_assoc}
use Prim.Native.Nat.{ℕ, zero, suc, ◌+◌, ◌/◌, ◌%◌}
use native.Mathlib.Omega.{arith}
use borrow.Author.Tests.{ne_eqb}
use lib.Dec.{ltb}
use lib.IntN.{ℤ, pos, negsuc}
use Rattle.base_key.specs.Bytes.{Bytes}
use Rattle.base_number.specs.Decimal.{digits_step, digits_within, digits, decimal}
use Rattle.resp_spec.specs.Reply.{Error, Nil, NilArray, Array, no_more, item, clean, encode, depth}

-- CR and LF in an error are spaces: it is one line
pub error_text : encode (Error (65 ∷ 13 ∷ 10 ∷ 66 ∷ [])) ≡ 45 ∷ 65 ∷ 32 ∷ 32 ∷ 66 ∷ 13 ∷ 10 ∷ []
unfolding encode
error_text = refl

-- no value, and no array
pub nil_text : encode Nil ≡ 36 ∷ 45 ∷ 49 ∷ 13 ∷ 10 ∷ []
unfolding encode
nil_text = refl

pub nil_array_text : encode NilArray ≡ 42 ∷ 45 ∷ 49 ∷ 13 ∷ 10 ∷ []
unfolding encode
nil_array_text = refl

-- `*-1` is no array that nests, an empty one is; the deepest item counts, wherever it stands
pub no_array : depth NilArray ≡ 0
unfolding depth
no_array = refl

pub outermost : depth (Array no_more) ≡ 1
unfolding depth
outermost = refl

pub deepest : depth (Array (item Nil (item (Array no_more) (item Nil no_more)))) ≡ 2
unfolding depth
deepest = refl

-- a text quoted between two that hold no line end
pub clean_quote : (a x c : Bytes) → map clean a ≡ a → map clean c ≡ c → map clean (a ++ (x ++ c)) ≡ (a ++ map clean x) ++ c
clean_quote a x c pa pc = simp (map-append, append_assoc, pa, pc)

-- NUMBERS hold no line end
digit_clean : (n : ℕ) → clean (48 + n % 10) ≡ 48 + n % 10
digit_clean n = rw (ne_eqb (48 + n % 10) 13 (λ e. omega arith), ne_eqb (48 + n % 10) 10 (λ e. omega arith)) refl

digits_within_clean : (room n : ℕ) → map clean (digits_within room n) ≡ digits_within room n
unfolding digits_within
digits_within_clean zero n = refl
digits_within_clean (suc room) n = go (ltb n 10) (digits_within_clean room (n / 10))
  where
    last : map clean ((48 + n % 10) ∷ []) ≡ (48 + n % 10) ∷ []
    last = ap (λ (d : ℕ). d ∷ []) (digit_clean n)

    go : (t : Bool) → map clean (digits_within room (n / 10)) ≡ digits_within room (n / 10) → map clean (digits_step t n (digits_within room (n / 10))) ≡ digits_step t n (digits_within room (n / 10))
    go true e = last
    go false e = map-append clean (digits_within room (n / 10)) ((48 + n % 10) ∷ []) ∙ ap₂ ◌++◌ e last

pub digits_clean : (n : ℕ) → map clean (digits n) ≡ digits n
unfolding digits
digits_clean n = digits_within_clean (suc n) n

pub decimal_clean : (z : ℤ) → map clean (decimal z) ≡ decimal z
unfolding decimal
decimal_clean (pos n) = digits_clean n
decimal_clean (negsuc n) = ap (λ (l : Bytes). 45 ∷ l) (digits_clean (suc n))
