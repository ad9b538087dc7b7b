-- What the code asks of one session's lent words and bytes, in numbers.
use Rattle.std.specs.Prelude.{ℕ, ◌+◌, ◌≤◌, ◌≡◌, Bool, true, cond, List, [], leb, length}
use Rattle.base_key.specs.Bytes.{Bytes, ◌and◌, part, total}
use Rattle.command_spec.specs.Sessions.{queued_word, argument_counts, argument_lengths, all_positive}

-- a number, or one more than the limit if it is above
unfoldable pub capped : ℕ → ℕ → ℕ
capped limit n = cond (leb n limit) n (limit + 1)

-- the part of `queue_ok` that speaks of sizes alone
unfoldable pub queue_sizes_ok : List ℕ → Bool
queue_sizes_ok w =
    leb (queued_word w []) 64 and leb (total (argument_counts w [])) 512 and leb (total (argument_lengths w [])) 8192 and all_positive (argument_counts w [])

pub record OneSession (w : List ℕ) (b : Bytes) : Type 0 where
  pub words : length w ≡ 644
  pub bytes : length b ≡ 10240

-- the watched keys lie in their places
pub record KeysIn (w : List ℕ) (b : Bytes) (count : ℕ) : Type 0 where
  pub words : length w ≡ 644
  pub bytes : length b ≡ 10240
  pub few : count ≤ 32
  pub room : total (part 4 count w) ≤ 2048

-- the queued commands lie in their places, and each has a name
pub record QueueIn (w : List ℕ) (b : Bytes) (count : ℕ) : Type 0 where
  pub words : length w ≡ 644
  pub bytes : length b ≡ 10240
  pub few : count ≤ 64
  pub arguments : total (part 68 count w) ≤ 512
  pub room : total (part 132 (total (part 68 count w)) w) ≤ 8192
  pub named : all_positive (part 68 count w) ≡ true
