-- How sixteen sessions lie in lent words and bytes: 644 words and 10,240 bytes for each. Keys and arguments
-- have lengths alone: each starts where the one before it ends.
--   words 0 in MULTI, 1 marked failed, 2 count of watched keys, 3 count of queued commands,
--         4..36 lengths of the watched keys, 36..68 their sequences, 68..132 argument counts of the queued commands,
--         132..644 lengths of their arguments
--   bytes 0..2048 the watched keys, 2048..10240 the queued arguments
use Rattle.std.specs.Prelude.{ℕ, zero, suc, ◌*◌, Bool, true, false, cond, List, [], ◌∷◌, ◌++◌, map, leb, eqb, length, get_or, take, drop}
use Rattle.std.specs.Prelude.{Option, None, Some}
use Rattle.base_key.specs.Bytes.{Bytes, ◌and◌, part, over_front, concat, total}
use Rattle.base_key.specs.Keys.{Key, key_below}
use Rattle.command_spec.specs.Names.{Args, request_queueable}
use Rattle.command_spec.specs.Session.{Session, Watching, watched_keys, watched_sequences}

-- sessions 0 to 15
abbrev pub session_count : ℕ
session_count = 16

-- words of a session
abbrev pub session_span : ℕ
session_span = 644

-- bytes of a session
abbrev pub session_bytes_span : ℕ
session_bytes_span = 10240

-- the list cut into pieces of these lengths
unfoldable pub split_by : {A : Type 0} → List ℕ → List A → List (List A)
split_by [] l = []
split_by (n ∷ ns) l = take n l ∷ split_by ns (drop n l)

-- ONE SESSION, by its own words and bytes.
module _ (w : List ℕ) (b : Bytes) where
  -- in MULTI
  abbrev pub multi_word : ℕ
  multi_word = get_or w 0 0

  -- marked failed
  abbrev pub failed_word : ℕ
  failed_word = get_or w 1 0

  -- count of watched keys
  abbrev pub watched_word : ℕ
  watched_word = get_or w 2 0

  -- count of queued commands
  abbrev pub queued_word : ℕ
  queued_word = get_or w 3 0

  -- lengths of the watched keys
  abbrev pub key_lengths : List ℕ
  key_lengths = part 4 watched_word w

  -- their sequences
  abbrev pub key_sequences : List ℕ
  key_sequences = part 36 watched_word w

  -- argument counts of the queued commands
  abbrev pub argument_counts : List ℕ
  argument_counts = part 68 queued_word w

  -- lengths of their arguments
  abbrev pub argument_lengths : List ℕ
  argument_lengths = part 132 (total argument_counts) w

  -- the watched keys
  unfoldable pub keys_in : List Key
  keys_in = split_by key_lengths (part 0 2048 b)

  -- the queued commands
  unfoldable pub queue_in : List Args
  queue_in = split_by argument_counts (split_by argument_lengths (part 2048 8192 b))

-- 0 is no, anything else yes
abbrev pub yes? : ℕ → Bool
yes? zero = false
yes? (suc n) = true

-- keys with their sequences, in turn; a key without one has 0
unfoldable pub paired : List Key → List ℕ → Watching
paired [] ns = []
paired (k ∷ ks) [] = (k, 0) ∷ paired ks []
paired (k ∷ ks) (n ∷ ns) = (k, n) ∷ paired ks ns

-- the session that the words and bytes hold
unfoldable pub session_from : List ℕ → Bytes → Session
session_from w b = record {
  queue = cond (yes? (multi_word w b)) (Some (queue_in w b)) None;
  failed = yes? (failed_word w b);
  watch = paired (keys_in w b) (key_sequences w b);
}

-- VALID, or 9.
unfoldable pub ascending_after : Key → List Key → Bool
ascending_after k [] = true
ascending_after k (j ∷ js) = key_below k j and ascending_after j js

-- in order and without repeats
abbrev pub ascending : List Key → Bool
ascending [] = true
ascending (k ∷ ks) = ascending_after k ks

-- each as it may be queued
unfoldable pub all_queueable : List Args → Bool
all_queueable [] = true
all_queueable (a ∷ as') = request_queueable a and all_queueable as'

-- none of them 0
unfoldable pub all_positive : List ℕ → Bool
all_positive [] = true
all_positive (n ∷ ns) = yes? n and all_positive ns

-- none above the limit
unfoldable pub none_above : ℕ → List ℕ → Bool
none_above limit [] = true
none_above limit (n ∷ ns) = leb n limit and none_above limit ns

-- counts within limits, parts within their buffers, keys ascending; no sequence of a watched key is above the last
unfoldable pub watch_ok : ℕ → List ℕ → Bytes → Bool
watch_ok last w b =
    leb (watched_word w b) 32 and leb (total (key_lengths w b)) 2048 and ascending (keys_in w b) and none_above last (key_sequences w b)

-- a queue only inside MULTI, and each command not empty and as it may be queued
unfoldable pub queue_ok : List ℕ → Bytes → Bool
queue_ok w b =
    leb (queued_word w b) 64 and leb (total (argument_counts w b)) 512 and leb (total (argument_lengths w b)) 8192
    and all_positive (argument_counts w b) and all_queueable (queue_in w b)
    and (cond (yes? (multi_word w b)) true (eqb (queued_word w b) 0))

-- a session that gives no 9
unfoldable pub session_ok : ℕ → List ℕ → Bytes → Bool
session_ok last w b = watch_ok last w b and queue_ok w b

-- WRITTEN BACK. A flag that is set stays as it is, and one that is newly set is 1.
unfoldable pub flag_word : Bool → ℕ → ℕ
flag_word false old = 0
flag_word true zero = 1
flag_word true (suc n) = suc n

-- in MULTI
abbrev pub multi_of : Option (List Args) → Bool
multi_of None = false
multi_of (Some q) = true

-- the queue, empty outside MULTI
abbrev pub queue_of : Option (List Args) → List Args
queue_of None = []
queue_of (Some q) = q

-- the parts in front of their places; what lies behind stays
unfoldable pub session_words : Session → List ℕ → Bytes → List ℕ
session_words s w b =
    let ks = watched_keys s.watch in
    let q = queue_of s.queue in
    flag_word (multi_of s.queue) (multi_word w b) ∷ flag_word s.failed (failed_word w b) ∷ length ks ∷ length q
    ∷ (over_front (map length ks) (part 4 32 w) ++ over_front (watched_sequences s.watch) (part 36 32 w) ++ over_front (map length q) (part 68 64 w)
    ++ over_front (map length (concat q)) (part 132 512 w))

-- the bytes of a session after a call
unfoldable pub session_bytes : Session → Bytes → Bytes
session_bytes s b = over_front (concat (watched_keys s.watch)) (part 0 2048 b) ++ over_front (concat (concat (queue_of s.queue))) (part 2048 8192 b)

-- ALL SESSIONS.
unfoldable pub words_of_session : ℕ → List ℕ → List ℕ
words_of_session i w = part (i * session_span) session_span w

-- the bytes of session i
unfoldable pub bytes_of_session : ℕ → Bytes → Bytes
bytes_of_session i b = part (i * session_bytes_span) session_bytes_span b

-- session i
unfoldable pub session_at : ℕ → List ℕ → Bytes → Session
session_at i w b = session_from (words_of_session i w) (bytes_of_session i b)

-- the first n sessions of what is left, and the same for all sixteen
unfoldable pub sessions_ok_in : ℕ → ℕ → List ℕ → Bytes → Bool
sessions_ok_in last zero w b = true
sessions_ok_in last (suc n) w b = elim (session_ok last (take session_span w) (take session_bytes_span b)) [
  | true ↦ sessions_ok_in last n (drop session_span w) (drop session_bytes_span b)
  | false ↦ false
]

-- sixteen sessions that give no 9
unfoldable pub valid_sessions : ℕ → List ℕ → Bytes → Bool
valid_sessions last w b =
    leb (session_count * session_span) (length w) and leb (session_count * session_bytes_span) (length b) and sessions_ok_in last session_count w b

-- session i written back; the others stay
unfoldable pub leave_session_words : ℕ → Session → List ℕ → Bytes → List ℕ
leave_session_words i s w b =
    take (i * session_span) w ++ (session_words s (words_of_session i w) (bytes_of_session i b) ++ drop (suc i * session_span) w)

-- the bytes of all sessions after a call of session i
unfoldable pub leave_session_bytes : ℕ → Session → Bytes → Bytes
leave_session_bytes i s b =
    take (i * session_bytes_span) b ++ (session_bytes s (bytes_of_session i b) ++ drop (suc i * session_bytes_span) b)
