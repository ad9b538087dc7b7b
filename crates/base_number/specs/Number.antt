-- Whole numbers (document 02, R-1) and the lengths of headers (document 01, section 3), read from text. Both read digits, each by its own rule.
use Rattle.std.specs.Prelude.{Bool, true, false, cond, ◌&&◌, [], ◌∷◌, ℕ, ◌+◌, ◌*◌, ◌-◌, ◌^◌, leb, ltb, eqb, ℤ, pos, neg_ℤ}
use Rattle.std.specs.Prelude.{Option, None, Some}
use Rattle.std.specs.Int.Signed.{mag}
use Rattle.base_key.specs.Bytes.{Bytes, bytes, same_bytes}

-- DIGITS, which whole numbers and lengths share
-- the value of a text of digits behind digits of value v
unfoldable pub value_from : ℕ → Bytes → Option ℕ
value_from v [] = Some v
value_from v (b ∷ text) = let value = value_from (v * 10 + (b - 48)) text in cond (leb 48 b && leb b 57) value None

-- one digit at least
unfoldable pub value_of : Bytes → Option ℕ
value_of [] = None
value_of (b ∷ text) = value_from 0 (b ∷ text)

-- WHOLE NUMBERS
-- digits that begin with 1 (49) to 9 (57)
unfoldable pub size_of : Bytes → Option ℕ
size_of [] = None
size_of (b ∷ text) = cond (leb 49 b && leb b 57) (value_of (b ∷ text)) None

-- a size with its sign
unfoldable pub signed : Bool → Option ℕ → Option ℤ
signed negative None = None
signed true (Some n) = Some (neg_ℤ (pos n))
signed false (Some n) = Some (pos n)

-- `0`, or an optional `-` (45) and digits that begin with 1 to 9, of any size
unfoldable pub whole_of : Bytes → Option ℤ
whole_of [] = None
whole_of (b ∷ text) =
    cond (same_bytes (b ∷ text) (bytes "0")) (Some (pos 0)) (cond (eqb b 45) (signed true (size_of text)) (signed false (size_of (b ∷ text))))

-- an integer, where 64 bits hold it
unfoldable pub number_of : ℤ → Option ℤ
number_of z = cond (ltb (mag z) (2 ^ 63)) (Some z) None

-- the same of what was read
unfoldable pub number_in : Option ℤ → Option ℤ
number_in None = None
number_in (Some z) = number_of z

-- a whole number within i64
unfoldable pub int_arg : Bytes → Option ℤ
int_arg text = number_in (whole_of text)

-- LENGTHS
-- a value that 64 bits without a sign hold
unfoldable pub length_within : Option ℕ → Option ℕ
length_within None = None
length_within (Some v) = cond (ltb v (2 ^ 64)) (Some v) None

-- a header's length: an optional `+` (43), then digits, within 64 bits
unfoldable pub length_of : Bytes → Option ℕ
length_of [] = None
length_of (b ∷ text) = cond (eqb b 43) (length_within (value_of text)) (length_within (value_of (b ∷ text)))
