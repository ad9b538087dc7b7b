-- Arguments that are given as parts of lent bytes: argument k has its start in word 2 k of a table and its length in word 2 k + 1.
use Rattle.std.specs.Prelude.{ℕ, zero, suc, ◌+◌, ◌*◌, ◌<◌, ◌≤◌, ◌≡◌, Bool, List, [], ◌∷◌, ◌++◌, map, length, get_or}
use Rattle.std.specs.Prelude.{Some}
use Rattle.base_key.specs.Bytes.{Bytes, part, total}
use Rattle.store_memtable.specs.Table.{Write}
use Rattle.command_spec.specs.Names.{Args}
use Rattle.command_spec.specs.Command.{tombstone, put, pairs_of}
use Rattle.command_spec.specs.Session.{Session, queue_fits}
use Rattle.command_spec.specs.Sessions.{queue_in, argument_counts, argument_lengths, session_from, session_words, session_bytes}
use Rattle.command_spec.specs.Held.{Held}

-- argument k
abbrev pub argument_at : ℕ → List ℕ → Bytes → Bytes
argument_at k places input = part (get_or places (2 * k) 0) (get_or places (2 * k + 1) 0) input

-- the n arguments from place k on, and their lengths
unfoldable pub arguments_at : ℕ → ℕ → List ℕ → Bytes → Args
arguments_at k zero places input = []
arguments_at k (suc n) places input = argument_at k places input ∷ arguments_at (suc k) n places input

unfoldable pub lengths_at : ℕ → ℕ → List ℕ → List ℕ
lengths_at k zero places = []
lengths_at k (suc n) places = get_or places (2 * k + 1) 0 ∷ lengths_at (suc k) n places

-- a tombstone for each of the arguments
unfoldable pub tombstones_at : ℕ → ℕ → List ℕ → Bytes → List Write
tombstones_at k n places input = map tombstone (arguments_at k n places input)

-- a write for each pair of a key and a value among the arguments
unfoldable pub pairs_at : ℕ → ℕ → List ℕ → Bytes → List Write
pairs_at k n places input = map put (pairs_of (arguments_at k n places input))

-- `count` arguments lie in the bytes
pub record PartsIn (places : List ℕ) (input : Bytes) (count : ℕ) : Type 0 where
  pub table : 2 * count ≤ length places
  pub inside : (k : ℕ) → k < count → get_or places (2 * k) 0 + get_or places (2 * k + 1) 0 ≤ length input

-- the sizes of a queue within its limits
pub record QueueSizes (w : List ℕ) : Type 0 where
  pub words : length w ≡ 644
  pub few_commands : get_or w 3 0 ≤ 64
  pub few_arguments : total (argument_counts w []) ≤ 512
  pub room : total (argument_lengths w []) ≤ 8192

-- whether the queue takes the command: whatever valid session the words are, and whatever bytes the places are in
pub record Takes (w places : List ℕ) (count : ℕ) (r : Bool) : Type 0 where
  pub is : (b input : Bytes) → Held w b → PartsIn places input count → r ≡ queue_fits (queue_in w b ++ arguments_at 0 count places input ∷ [])

-- a session with the command behind its queue
abbrev pub queuing : List Args → Session → Session
queuing q s = record { queue = Some q; failed = s.failed; watch = s.watch }

-- the command has room behind the queue
pub record HasRoom (w places : List ℕ) (count : ℕ) : Type 0 where
  pub inside : get_or w 0 0 ≡ 0 → ⊥
  pub command : get_or w 3 0 < 64
  pub arguments : total (argument_counts w []) + count ≤ 512
  pub bytes : total (argument_lengths w []) + total (lengths_at 0 count places) ≤ 8192

-- what appending leaves
pub record Appended (w w' : List ℕ) (b b' : Bytes) (a : Args) : Type 0 where
  pub words : w' ≡ session_words (queuing (queue_in w b ++ a ∷ []) (session_from w b)) w b
  pub bytes : b' ≡ session_bytes (queuing (queue_in w b ++ a ∷ []) (session_from w b)) b

-- the places of parts of these lengths, one behind the other from `start` on
unfoldable pub places_of : ℕ → List ℕ → List ℕ
places_of start [] = []
places_of start (n ∷ ns) = start ∷ n ∷ places_of (start + n) ns

-- the first `count` queued arguments lie in their place, and the table has room for their places
pub record Expandable (w places : List ℕ) (count : ℕ) : Type 0 where
  pub words : length w ≡ 644
  pub few : count ≤ 512
  pub room : total (part 132 count w) ≤ 8192
  pub table : 2 * count ≤ length places
