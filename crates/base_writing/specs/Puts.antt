-- What a writer does to the buffer that it is lent.
use Rattle.std.specs.Prelude.{◌≡◌, cond, List, ◌++◌, ℕ, ◌+◌, ◌≤◌, min, leb, length, take, drop, replicate}
use Rattle.std.specs.Prelude.{Option, None, Some}

-- the answer to writing `text` into `out`
unfoldable pub answered : List ℕ → List ℕ → Option ℕ
answered text out = cond (leb (length text) (length out)) (Some (length text)) None

-- the buffer afterwards: the text in front of what was there, or all zero where the text does not fit
unfoldable pub placed : List ℕ → List ℕ → List ℕ
placed text out =
    cond (leb (length text) (length out)) (text ++ drop (length text) out) (replicate (length out) 0)

-- the contract of every writer: `text` is written into `entry`, with the answer `put`, and leaves `exit`
pub record Puts (text entry : List ℕ) (put : Option ℕ) (exit : List ℕ) : Type 0 where
  pub answer : put ≡ answered text entry
  pub buffer : exit ≡ placed text entry

-- where the next text starts in a buffer of `len` bytes
abbrev pub place_of : Option ℕ → ℕ → ℕ
place_of (Some n) len = min n len
place_of None len = len

pub record Place (put : Option ℕ) (len at : ℕ) : Type 0 where
  pub start : at ≡ place_of put len
  pub within : at ≤ len

-- the answer to a text and the one behind it in a buffer of `len` bytes, from the answers to both
abbrev pub sum_of : Option ℕ → Option ℕ → ℕ → Option ℕ
sum_of (Some n) (Some m) len = cond (leb (n + m) len) (Some (n + m)) None
sum_of (Some n) None len = None
sum_of None next len = None

-- the buffer after that answer: a refusal clears it
abbrev pub settled : Option ℕ → List ℕ → List ℕ
settled (Some n) entry = entry
settled None entry = replicate (length entry) 0

pub record Joined (put next : Option ℕ) (entry : List ℕ) (after : Option ℕ) (exit : List ℕ) : Type 0 where
  pub answer : after ≡ sum_of put next (length entry)
  pub buffer : exit ≡ settled after entry

-- the answer to writing `text` behind what was put, and the buffer afterwards
unfoldable pub answered_behind : List ℕ → Option ℕ → List ℕ → Option ℕ
answered_behind text (Some n) out = cond (leb (n + length text) (length out)) (Some (n + length text)) None
answered_behind text None out = None

unfoldable pub placed_behind : List ℕ → Option ℕ → List ℕ → List ℕ
placed_behind text (Some n) out =
    cond (leb (n + length text) (length out)) (take n out ++ (text ++ drop (n + length text) out)) (replicate (length out) 0)
placed_behind text None out = replicate (length out) 0

-- the contract of every writer that writes behind what was put
pub record Adds (text : List ℕ) (put : Option ℕ) (entry : List ℕ) (after : Option ℕ) (exit : List ℕ) : Type 0 where
  pub answer : after ≡ answered_behind text put entry
  pub buffer : exit ≡ placed_behind text put entry
