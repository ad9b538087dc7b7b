-- UTF-8 (RFC 3629; Unicode Standard, chapter 3, table 3-7), and the replacement of what is not.
use Rattle.std.specs.Prelude.{ℕ, zero, suc, Bool, true, false, cond, not, ◌&&◌, [], ◌∷◌, ◌++◌, leb, eqb}
use Rattle.base_key.specs.Bytes.{Bytes}

-- between two characters, or within one: its bytes so far, how many must follow behind the next, and the bounds of the next
pub data Place : Type 0 where
  between : Place
  within : Bytes → ℕ → ℕ → ℕ → Place

-- what a byte does: the bytes given out, whether something ill-formed ended, and the next place
pub record Decoded : Type 0 where
  pub out : Bytes
  pub ill : Bool
  pub next : Place

-- U+FFFD
abbrev pub replacement : Bytes
replacement = 239 ∷ 191 ∷ 189 ∷ []

-- a byte within bounds
abbrev pub byte_in : ℕ → ℕ → ℕ → Bool
byte_in low high b = leb low b && leb b high

-- the first byte of a character
unfoldable pub leads : ℕ → Decoded
leads b =
    cond (leb b 127) (record { out = b ∷ []; ill = false; next = between })
    (cond (byte_in 194 223 b) (record { out = []; ill = false; next = within (b ∷ []) 0 128 191 })
    (cond (eqb b 224) (record { out = []; ill = false; next = within (b ∷ []) 1 160 191 })
    (cond (eqb b 237) (record { out = []; ill = false; next = within (b ∷ []) 1 128 159 })
    (cond (byte_in 225 239 b) (record { out = []; ill = false; next = within (b ∷ []) 1 128 191 })
    (cond (eqb b 240) (record { out = []; ill = false; next = within (b ∷ []) 2 144 191 })
    (cond (byte_in 241 243 b) (record { out = []; ill = false; next = within (b ∷ []) 2 128 191 })
    (cond (eqb b 244) (record { out = []; ill = false; next = within (b ∷ []) 2 128 143 })
    (record { out = replacement; ill = true; next = between }))))))))

-- a byte that goes on with a character
unfoldable pub continues : Bytes → ℕ → ℕ → Decoded
continues p zero b = record { out = p ++ b ∷ []; ill = false; next = between }
continues p (suc n) b = record { out = []; ill = false; next = within (p ++ b ∷ []) n 128 191 }

-- a byte that cannot: the bytes so far are a maximal subpart, and the byte leads
unfoldable pub breaks : Decoded → Decoded
breaks d = record { out = replacement ++ d.out; ill = true; next = d.next }

-- what a byte does at a place
unfoldable pub decode_byte : Place → ℕ → Decoded
decode_byte between b = leads b
decode_byte (within p n low high) b = cond (byte_in low high b) (continues p n b) (breaks (leads b))

-- each maximal subpart of what is ill-formed as one U+FFFD
unfoldable pub lossy_from : Place → Bytes → Bytes
lossy_from between [] = []
lossy_from (within p n low high) [] = replacement
lossy_from between (b ∷ s) = let d = decode_byte between b in d.out ++ lossy_from d.next s
lossy_from (within p n low high) (b ∷ s) = let d = decode_byte (within p n low high) b in d.out ++ lossy_from d.next s

-- as `from_utf8_lossy`
unfoldable pub lossy : Bytes → Bytes
lossy s = lossy_from between s

-- well-formed from a place on
unfoldable pub utf8_from : Place → Bytes → Bool
utf8_from between [] = true
utf8_from (within p n low high) [] = false
utf8_from between (b ∷ s) = let d = decode_byte between b in not d.ill && utf8_from d.next s
utf8_from (within p n low high) (b ∷ s) = let d = decode_byte (within p n low high) b in not d.ill && utf8_from d.next s

-- UTF-8 text
unfoldable pub is_utf8 : Bytes → Bool
is_utf8 s = utf8_from between s
