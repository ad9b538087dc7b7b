-- One character, or one maximal subpart of what is ill-formed, at the front of a text: what the code reads at a time.
use Rattle.std.specs.Prelude.{◌≡◌, true, false, cond, [], ◌∷◌, ℕ, suc, ◌≤◌, ◌<◌, length, take, drop}
use Rattle.base_key.specs.Bytes.{Bytes}
use Rattle.resp_utf8.specs.declared.Lead.{Lead}
use Rattle.resp_utf8.specs.declared.Lead.TheVariants.{Single, Several, Ill}
use Rattle.resp_spec.specs.Utf8.{Place, Decoded, between, within, replacement, decode_byte}
use Rattle.std.specs.Prelude.{Result, Ok, Err}

-- what a first byte does, by what the code says of it
unfoldable pub lead_of : ℕ → Lead → Decoded
lead_of b Single = record { out = b ∷ []; ill = false; next = between }
lead_of b (Several more low high) = record { out = []; ill = false; next = within (b ∷ []) more low high }
lead_of b Ill = record { out = replacement; ill = true; next = between }

-- the piece whose first n bytes lead to a place, with what follows them
unfoldable pub piece_from : ℕ → Place → Bytes → Result ℕ ℕ
piece_from n between [] = Ok n
piece_from n (within p more low high) [] = Err n
piece_from n between (b ∷ s) = Ok n
piece_from n (within p more low high) (b ∷ s) =
    let d = decode_byte (within p more low high) b in cond d.ill (Err n) (piece_from (suc n) d.next s)

-- the piece at the front of a text that begins with such a byte
abbrev pub piece_by : Decoded → Bytes → Result ℕ ℕ
piece_by d s = cond d.ill (Err 1) (piece_from 1 d.next s)

-- THE PIECE AT THE FRONT of a text
unfoldable pub piece_of : Bytes → Result ℕ ℕ
piece_of [] = Err 0
piece_of (b ∷ s) = piece_by (decode_byte between b) s

-- the first n bytes begin a character: the next must lie within bounds, and `more` must follow it
pub record Begun (text : Bytes) (n more low high : ℕ) : Type 0 where
  pub inside : n ≤ length text
  pub piece_is : piece_of text ≡ piece_from n (within (take n text) more low high) (drop n text)

pub record NotEmpty (text : Bytes) : Type 0 where
  pub not_empty : 0 < length text
