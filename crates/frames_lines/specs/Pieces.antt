-- The pieces of an output line, and how they follow each other.
use Rattle.std.specs.Prelude.{ℕ, ◌+◌, ◌/◌, ◌%◌, ◌^◌, ◌<◌, Bool, true, false, List, [], ◌∷◌, ◌++◌, map}
use Rattle.base_key.specs.Bytes.{Bytes, bytes, concat}
use Rattle.base_number.specs.Decimal.{digits}
use Rattle.call_spec.specs.Frames.{hex}
use Rattle.frames_lines.specs.declared.pieces.Mark.{Mark}
use Rattle.frames_lines.specs.declared.pieces.Mark.TheVariants.{NoMark, Number, Dropped}

-- two digits of session and a space
unfoldable pub head_text : ℕ → Bytes
head_text i = (48 + i / 10) ∷ (48 + i % 10) ∷ 32 ∷ []

-- `!` and a number in decimal
unfoldable pub number_text : ℕ → Bytes
number_text n = bytes "!" ++ digits n

-- the mark of a frame
unfoldable pub mark_text : Mark → Bytes
mark_text NoMark = []
mark_text (Number n) = number_text n
mark_text Dropped = bytes "!"

-- a mark whose number is one of 64 bits
unfoldable pub MarkFits : Mark → Type 0
MarkFits NoMark = Unit {0}
MarkFits (Number n) = n < 2 ^ 64
MarkFits Dropped = Unit {0}

-- the mark, or `-` where nothing stands in front of it and there is none
unfoldable pub mark_or_dash : Bool → Mark → Bytes
mark_or_dash true NoMark = []
mark_or_dash false NoMark = bytes "-"
mark_or_dash replied (Number n) = number_text n
mark_or_dash replied Dropped = bytes "!"

-- the same, and the end of the line
unfoldable pub end_text : Bool → Mark → Bytes
end_text replied m = mark_or_dash replied m ++ 10 ∷ []

-- the answer to a line of another form
unfoldable pub malformed_text : Bytes
malformed_text = 63 ∷ 10 ∷ []

-- some byte is there
abbrev pub some? : Bytes → Bool
some? [] = false
some? (b ∷ s) = true

-- THE PIECES of an output line: the session, the hexadecimal of each reply, and the end
unfoldable pub pieces : ℕ → List Bytes → Mark → List Bytes
pieces i replies m = head_text i ∷ (map hex replies ++ end_text (some? (concat replies)) m ∷ [])
