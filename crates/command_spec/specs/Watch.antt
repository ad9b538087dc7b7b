-- Keys in tables of lengths and sequences and the bytes they lie in, one behind the other, and what adding keys to them answers.
use Rattle.std.specs.Prelude.{ℕ, ◌≤◌, ◌≡◌, true, List, [], ◌∷◌, ◌++◌, map, length, take, drop, set}
use Rattle.base_key.specs.Bytes.{Bytes, over_front, concat, total, put_at}
use Rattle.base_key.specs.Keys.{Key}
use Rattle.command_spec.specs.Session.{Watching, watched_keys, watched_sequences, Session, add_key, add_keys, watch_fits}
use Rattle.command_spec.specs.Sessions.{split_by, paired, session_from, session_words, session_bytes}
use Rattle.std.specs.Prelude.{Option, None, Some}

-- the first `count` lengths, and the keys
unfoldable pub keys_of : List ℕ → Bytes → ℕ → List Key
keys_of lens text count = split_by (take count lens) text

pub record KeysAt (lens : List ℕ) (text : Bytes) (count : ℕ) : Type 0 where
  pub table : count ≤ length lens
  pub room : total (take count lens) ≤ length text

-- `x` put between, at place i
unfoldable pub inserted_at : {A : Type 0} → ℕ → List A → List A → List A
inserted_at i x l = take i l ++ (x ++ drop i l)

-- the place of a key that is not there, whatever the sequences: before key i, whose bytes start at `start`
pub record SpotAt (lens : List ℕ) (text : Bytes) (count : ℕ) (name : Key) (i start : ℕ) : Type 0 where
  pub within : i ≤ count
  pub start_is : start ≡ total (take i lens)
  pub is : (n : ℕ) (ns : List ℕ) → add_key n name (paired (keys_of lens text count) ns) ≡ inserted_at i ((name, n) ∷ []) (paired (keys_of lens text count) ns)

-- a key that is there stays as it is
pub record ThereAt (lens : List ℕ) (text : Bytes) (count : ℕ) (name : Key) : Type 0 where
  pub is : (n : ℕ) (ns : List ℕ) → add_key n name (paired (keys_of lens text count) ns) ≡ paired (keys_of lens text count) ns

abbrev pub Spotted : List ℕ → Bytes → ℕ → Key → Option (ℕ × ℕ) → Type 0
Spotted lens text count name None = ThereAt lens text count name
Spotted lens text count name (Some (i, start)) = SpotAt lens text count name i start

-- these keys in the tables and the bytes, in front of what was there; n of them, u bytes
pub record Holding (js : Watching) (lens lens' seqs seqs' : List ℕ) (text text' : Bytes) (n u : ℕ) : Type 0 where
  pub few : length js ≤ 32
  pub short : total (map length (watched_keys js)) ≤ 2048
  pub count_is : n ≡ length js
  pub used_is : u ≡ total (map length (watched_keys js))
  pub table : lens' ≡ over_front (map length (watched_keys js)) lens
  pub sequences : seqs' ≡ over_front (watched_sequences js) seqs
  pub bytes : text' ≡ over_front (concat (watched_keys js)) text

-- what adding asks: room for 32 lengths, 32 sequences and 2,048 bytes, and the keys in it
pub record WatchTable (lens seqs : List ℕ) (text : Bytes) (count used : ℕ) : Type 0 where
  pub table : length lens ≡ 32
  pub sequences : length seqs ≡ 32
  pub bytes : length text ≡ 2048
  pub few : count ≤ 32
  pub used_is : used ≡ total (take count lens)
  pub room : used ≤ 2048

-- the first `count` keys with their sequences
unfoldable pub watch_of : List ℕ → List ℕ → Bytes → ℕ → Watching
watch_of lens seqs text count = paired (keys_of lens text count) (take count seqs)

-- WATCH: the session that holds these keys too
abbrev pub watching_with : List Key → ℕ → Session → Session
watching_with ks last s = record { queue = s.queue; failed = s.failed; watch = add_keys last ks s.watch }

-- all keys are watched
pub record AllWatched (ks : List Key) (last : ℕ) (w w' : List ℕ) (b b' : Bytes) : Type 0 where
  pub fits : watch_fits (watched_keys (add_keys last ks (session_from w b).watch)) ≡ true
  pub words : w' ≡ session_words (watching_with ks last (session_from w b)) w b
  pub bytes : b' ≡ session_bytes (watching_with ks last (session_from w b)) b

-- the tables and `count` keys in their places
pub record WatchPut (lens seqs : List ℕ) (text : Bytes) (count : ℕ) (w w' : List ℕ) (b b' : Bytes) : Type 0 where
  pub words : w' ≡ set (put_at 36 seqs (put_at 4 lens w)) 2 count
  pub bytes : b' ≡ put_at 0 text b
