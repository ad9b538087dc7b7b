-- A page of output: its first bytes are in use, and each writer puts its text behind them.
use Rattle.std.specs.Prelude.{ℕ, ◌+◌, ◌*◌, ◌≤◌, ◌++◌, ◌≡◌, length, take, drop, replicate}
use Rattle.base_key.specs.Bytes.{Bytes}
use Rattle.call_spec.specs.Frames.{hex}

-- THE CONTRACT of a writer: `text` stands behind the `filled` bytes that were in use, and `filled'` are in use afterwards
pub record Added (text : Bytes) (filled : ℕ) (page : Bytes) (filled' : ℕ) (page' : Bytes) : Type 0 where
  pub front : take filled' page' ≡ take filled page ++ text
  pub count : filled' ≡ filled + length text
  pub within : filled' ≤ length page
  pub size : length page' ≡ length page

-- a reply whose hexadecimal fits behind the bytes in use
pub record ReplyFits (count : ℕ) (reply : Bytes) (filled : ℕ) (page : Bytes) : Type 0 where
  pub there : count ≤ length reply
  pub room : filled + count * 2 ≤ length page

-- the first `count` bytes of a reply, moved to the page as hexadecimal: zeros take their place
pub record Moved (count : ℕ) (reply : Bytes) (filled : ℕ) (page : Bytes) (filled' : ℕ) (reply' page' : Bytes) : Type 0 where
  pub added : Added (hex (take count reply)) filled page filled' page'
  pub cleared : reply' ≡ replicate count 0 ++ drop count reply

-- n bytes of the page are free
pub record Free (n filled : ℕ) (page : Bytes) : Type 0 where
  pub room : filled + n ≤ length page
