-- The rest that a session keeps.
use Rattle.std.specs.Prelude.{ℕ, ◌-◌, ◌≤◌, cond, [], ◌++◌, ◌≡◌, leb, length, take, drop}
use Rattle.base_key.specs.Bytes.{Bytes, part}
use Rattle.std.specs.Prelude.{Option, None, Some}

-- the places of a rest in what is lent
pub record Within (from to : ℕ) (held : Bytes) : Type 0 where
  pub order : from ≤ to
  pub size : to ≤ length held

-- the bytes from `from` to `to`, moved to the front
unfoldable pub moved : ℕ → ℕ → Bytes → Bytes
moved from to l = part from (to - from) l ++ drop (to - from) l

-- a rest above 4,096 bytes is dropped
unfoldable pub kept_of : ℕ → Option ℕ
kept_of n = cond (leb n 4096) (Some n) None

-- how many bytes are held afterwards
abbrev pub held_of : Option ℕ → ℕ
held_of (Some n) = n
held_of None = 0

-- a rest that is short enough, or nothing
unfoldable pub rest_of : Bytes → Bytes
rest_of s = cond (leb (length s) 4096) s []

-- THE CONTRACT of keeping a rest: the answer, and the bytes that the session holds afterwards
pub record Keeps (from to : ℕ) (entry : Bytes) (r : Option ℕ) (exit : Bytes) : Type 0 where
  pub answer : r ≡ kept_of (to - from)
  pub held : take (held_of r) exit ≡ rest_of (part from (to - from) entry)
  pub size : length exit ≡ length entry
