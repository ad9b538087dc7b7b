-- The part of the input that is read, and the line at hand in it.
use Rattle.std.specs.Prelude.{ℕ, suc, ◌+◌, ◌-◌, ◌*◌, cond, [], ◌∷◌, eqb}
use Rattle.base_key.specs.Bytes.{Bytes}
use Rattle.frames.specs.declared.cursor.Cursor.{Cursor}

-- falls with each line and each read
abbrev pub input_left : Cursor → ℕ
input_left at = at.reads * 65537 + (at.got - at.from)

-- how many bytes stand in front of the first LF
unfoldable pub line_length : Bytes → ℕ
line_length [] = 0
line_length (b ∷ l) = cond (eqb b 10) 0 (suc (line_length l))
