-- What the walks of a listing read: the entries of the table from a place of the store on.
use Rattle.std.specs.Prelude.{ℕ, ◌+◌, ◌-◌, ◌<◌, ◌≡◌, Bool, true, false, List, [], ◌∷◌, map, length, take, drop, Option, None, Some}
use Rattle.std.specs.Borrow.{Bor}
use Rattle.base_key.specs.Bytes.{Bytes}
use Rattle.base_key.specs.Keys.{Key, key_below}
use Rattle.resp_spec.specs.Reply.{Reply, array}
use Rattle.store_memtable.specs.declared.store.Store.{Store}
use Rattle.store_memtable.specs.Table.{Table}
use Rattle.store_memtable.specs.Layout.{count_word, version_at}
use Rattle.store_memtable.specs.Walk.{live_from, entry_at}
use Rattle.command_spec.specs.Command.{keep, key_reply, pair_replies}
use Rattle.command_spec.specs.Glob.{glob}

-- the entries from place i on
unfoldable pub rest : List ℕ → Bytes → ℕ → Table
rest w b i = live_from w b i (count_word w - i)

-- the entries of a lent store from place i on
abbrev pub rest_of : Store → ℕ → Table
rest_of s i = rest s.words.now s.bytes.now i

-- those whose key matches
unfoldable pub matching : Bytes → Table → Table
matching pattern t = keep (glob pattern) t

-- 1 for one that passes
unfoldable pub one_if : Bool → ℕ
one_if true = 1
one_if false = 0

-- the array of the keys
unfoldable pub keys_reply : Table → Reply
keys_reply t = array (map key_reply t)

-- a walk from place `from` on over at most `most` entries: how many match, and where it stops
pub record SeenFrom (w : List ℕ) (b pattern : Bytes) (from most matched next : ℕ) : Type 0 where
  pub count : matched ≡ length (matching pattern (take most (rest w b from)))
  pub stop : rest w b next ≡ drop most (rest w b from)

-- the first matching key from place `from` on is this one
pub record MatchAt (w : List ℕ) (b pattern : Bytes) (from place : ℕ) (name : Bytes) : Type 0 where
  pub below : place < count_word w
  pub named : name ≡ (version_at w b place).key
  pub first : matching pattern (rest w b from) ≡ entry_at w b place ∷ matching pattern (rest w b (place + 1))

-- its place and its name, or none
abbrev pub MatchFrom : List ℕ → Bytes → Bytes → ℕ → Option (ℕ × Bor Bytes) → Type 0
MatchFrom w b pattern from None = matching pattern (rest w b from) ≡ []
MatchFrom w b pattern from (Some found) = MatchAt w b pattern from found.0 found.1.now

-- SCAN's cursor before these entries: 0 where there are none
unfoldable pub cursor_before : Table → ℕ → ℕ
cursor_before [] end = 0
cursor_before (e ∷ t) end = end

-- the entries whose key is below `end`
unfoldable pub below : Key → Table → Table
below end t = keep (λ (k : Key). key_below k end) t

-- the array of keys and values in turn
unfoldable pub pairs_reply : Table → Reply
pairs_reply t = array (pair_replies t)
