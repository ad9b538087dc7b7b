-- The steps in which two keys are compared: blocks of eight bytes, then byte by byte.
use Rattle.std.specs.Prelude.{ℕ, ◌+◌, ◌*◌, ◌≤◌, ◌<◌, ◌≡◌, Bool, length, drop, get_or}
use Rattle.base_key.specs.Bytes.{Bytes, part, same_bytes}
use Rattle.base_key.specs.Keys.{compare_keys}

-- the keys compare as what is left of them from i on
pub record Alike (a b : Bytes) (i : ℕ) : Type 0 where
  pub in_a : i ≤ length a
  pub in_b : i ≤ length b
  pub rest : compare_keys a b ≡ compare_keys (drop i a) (drop i b)

-- a byte as a number
pub record ByteIs (byte r : ℕ) : Type 0 where
  pub is : r ≡ byte
  pub small : r < 256

-- the four bytes from i on as one number, the first one lowest
pub record FourAt (s : Bytes) (i r : ℕ) : Type 0 where
  pub is : r ≡ get_or s i 0 + 256 * (get_or s (i + 1) 0 + 256 * (get_or s (i + 2) 0 + 256 * get_or s (i + 3) 0))
  pub first : get_or s i 0 < 256
  pub second : get_or s (i + 1) 0 < 256
  pub third : get_or s (i + 2) 0 < 256
  pub fourth : get_or s (i + 3) 0 < 256

-- the eight bytes from i on as one number
pub record EightAt (s : Bytes) (i r : ℕ) : Type 0 where
  pub lower : ℕ
  pub upper : ℕ
  pub is : r ≡ lower + 4294967296 * upper
  pub first : FourAt s i lower
  pub second : FourAt s (i + 4) upper

-- the eight bytes from i on are the same
unfoldable pub same_block : Bytes → Bytes → ℕ → Bool
same_block a b i = same_bytes (part i 8 a) (part i 8 b)
