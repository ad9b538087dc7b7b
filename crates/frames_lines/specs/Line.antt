-- What the code says of an input line, in terms of `given` of `call_spec`.
use Rattle.std.specs.Prelude.{ℕ, ◌+◌, ◌-◌, ◌*◌, ◌≤◌, [], ◌∷◌, ◌++◌, cond, ◌&&◌, ◌≡◌, leb, eqb, length, take}
use Rattle.std.specs.Prelude.{Option, None, Some}
use Rattle.base_key.specs.Bytes.{Bytes}
use Rattle.call_spec.specs.Frames as F

-- the byte of two digits
unfoldable pub pair_of : Option ℕ → Option ℕ → Option ℕ
pair_of None l = None
pair_of (Some h) None = None
pair_of (Some h) (Some l) = Some (h * 16 + l)

-- the count of decoded bytes
abbrev pub count_of : Option Bytes → Option ℕ
count_of None = None
count_of (Some s) = Some (length s)

-- the decoded bytes, or none
abbrev pub or_nothing : Option Bytes → Bytes
or_nothing None = []
or_nothing (Some s) = s

-- what decoding answers, and the front of the buffer afterwards
pub record Decodes (text entry : Bytes) (r : Option ℕ) (exit : Bytes) : Type 0 where
  pub answer : r ≡ count_of (F.unhex text)
  pub front : take (length (or_nothing (F.unhex text))) exit ≡ or_nothing (F.unhex text)
  pub size : length exit ≡ length entry

-- the session of a line whose first three bytes and whose length have the form
unfoldable pub head_of : Bytes → Option ℕ
head_of [] = None
head_of (a ∷ []) = None
head_of (a ∷ b ∷ []) = None
head_of (a ∷ b ∷ c ∷ s) =
    cond (F.is_digit a && F.is_digit b && eqb c 32 && leb 2 (length s) && leb (length s) 8192) (Some ((a - 48) * 10 + (b - 48))) None

-- what is lent: 4,096 bytes at least behind the `at` bytes that are held
pub record Room (at : ℕ) (held : Bytes) : Type 0 where
  pub behind : at + 4096 ≤ length held

-- the answer to a line
abbrev pub given_as : Option F.Given → Option (ℕ × ℕ)
given_as None = None
given_as (Some g) = Some (g.session, (length g.input))

-- the bytes that a line brings
abbrev pub input_of : Option F.Given → Bytes
input_of None = []
input_of (Some g) = g.input

-- THE CONTRACT of reading a line: the answer, and the bytes that the session holds afterwards; what lies behind them is working space
pub record LineRead (line : Bytes) (at : ℕ) (entry : Bytes) (r : Option (ℕ × ℕ)) (exit : Bytes) : Type 0 where
  pub answer : r ≡ given_as (F.given line)
  pub held : take (at + length (input_of (F.given line))) exit ≡ take at entry ++ input_of (F.given line)
  pub size : length exit ≡ length entry
