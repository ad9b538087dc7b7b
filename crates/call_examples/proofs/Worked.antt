-- Worked calls, computed: what posting makes of eight of them, and answers that no refusal, fixed reply or invented count gives.
use Prim.Native.Nat.{ℕ, ◌-◌}
use Prim.Native.String.{String}
use mathlib.Core.List.{List, [], ◌∷◌, ◌++◌, map}
use mathlib.Core.Bool.{Bool, not, ◌&&◌}
use lib.Dec.{T, eqb}
use lib.IntN.{pos, negsuc}
use lib.ListN.{length, get_or, replicate}
use Rattle.base_key.specs.Bytes.{Bytes, bytes, same_bytes, concat}
use Rattle.base_number.specs.Number.{int_arg}
use Rattle.command_spec.specs.Sessions.{session_ok}
use Rattle.call_spec.specs.Calls.{Lent, open_call, request_call, preview_call, verdict_in, Call, request, grouped, preview}
use Rattle.call_spec.specs.Posting.{Item, alone, listed, exec, member}
use Rattle.call_spec.specs.Demand3.{items_of}
use Rattle.call_spec.specs.Opens.{call_spec_opens}
use Rattle.call_examples.specs.Readings.{opened, is_number, is_none, Line, line, after, answer_to, first, gives, replies, every}

abbrev kind_of : Item → ℕ
kind_of (alone c b) = 1
kind_of (listed l b) = 2
kind_of (exec q b) = 3
kind_of (member ws) = 4

-- one write of the key `g`, without a read sequence
abbrev group_of_g : Call
group_of_g =
    grouped
    (record { has_read = 0; read = 0; first_write = 0; writes = 1; first_check = 0; checks = 0 } ∷ [])
    (0 ∷ 1 ∷ 1 ∷ 2 ∷ []) (bytes "gx") (255 ∷ [])

unfoldable worked : List Call
worked =
    request 0 (bytes "WATCH f\r\n") 8 256
    ∷ request 0 (bytes "MULTI\r\n") 8 256
    ∷ request 0 (bytes "INCR n\r\n") 8 256
    -- in between: a command of another session, and a session that is none (1)
    ∷ request 1 (bytes "SET k 5\r\n") 8 256
    ∷ request 16 (bytes "SET k 6\r\n") 8 256
    -- and a preview
    ∷ preview 0 256
    ∷ request 0 (bytes "EXEC\r\n") 8 256
    ∷ group_of_g
    ∷ []

-- the items posted: the SET of session 1, the EXEC of session 0, the member; and nothing of the other calls
worked_history : T (same_bytes (map kind_of (items_of worked opened)) (1 ∷ 3 ∷ 4 ∷ []))
unfolding call_spec_opens worked
worked_history = tt

-- `k` live
unfoldable k_set : Lent
k_set = after (line 0 "SET k 1" ∷ []) opened

-- SET k 2 and GET k queued
unfoldable queued : Lent
queued = after (line 0 "MULTI" ∷ line 0 "SET k 2" ∷ line 0 "GET k" ∷ []) opened

unfoldable answers : List Bool
answers =
    -- a request uses its own bytes, and leaves those behind it
    gives (first "PING\r\nPING\r\n") 6 "+PONG\r\n"
    -- a wait
    ∷ gives (first "*1\r\n$4\r\nPI") 0 ""
    -- an empty store has room
    ∷ replies (answer_to (line 0 "SET k 1") opened) "+OK\r\n"
    -- an absent key is not counted
    ∷ replies (answer_to (line 0 "DEL k a") k_set) ":1\r\n"
    -- an accepted EXEC
    ∷ replies (answer_to (line 0 "EXEC") queued) "*2\r\n+OK\r\n$1\r\n2\r\n"
    ∷ []

worked_answers : T (every answers)
unfolding call_spec_opens answers every after k_set queued
worked_answers = tt

-- A WATCH FOR EACH KEY (document 02, R-7). What EXEC of session 0 answers after these lines
abbrev exec_after : List Line → String → Bool
exec_after lines = replies (answer_to (line 0 "EXEC") (after lines opened))

-- a store with room for one version
abbrev narrow : Lent
narrow =
    let o = open_call 0 1 200 (replicate 9 0) (replicate 200 0) in
    record { words = o.words; bytes = o.bytes; session_words = opened.session_words; session_bytes = opened.session_bytes }

-- b queued after a, which is watched or not, took the one version
abbrev spent_after : List Line → Lent
spent_after before = after (before ++ line 1 "SET a 1" ∷ line 0 "MULTI" ∷ line 0 "SET b 1" ∷ []) narrow

-- WATCH a with 4 reply bytes, which returns 3
abbrev watch_cut : Lent
watch_cut = (request_call 0 (bytes "WATCH a\r\n") 8 4 opened).lent

-- a lent session whose first `count` keys are watched, the key `a` from this sequence on, in a store whose last is 5
abbrev watches_from : ℕ → ℕ → Bool
watches_from count seq =
    session_ok 5 (0 ∷ 0 ∷ count ∷ 0 ∷ (1 ∷ replicate 31 0) ++ (seq ∷ replicate 31 0) ++ replicate 576 0) (bytes "a" ++ replicate 10239 0)

-- from when a key is watched
unfoldable watched : List Bool
watched =
    -- a key watched again keeps its first sequence
    exec_after (line 0 "WATCH a" ∷ line 1 "SET a 1" ∷ line 0 "WATCH a" ∷ line 0 "MULTI" ∷ []) "*-1\r\n"
    -- a key watched later counts from then; EXEC reads it in the table as it stands
    ∷ exec_after (line 0 "WATCH a" ∷ line 1 "SET b 1" ∷ line 0 "WATCH b" ∷ line 0 "MULTI" ∷ line 0 "GET b" ∷ []) "*1\r\n$1\r\n1\r\n"
    -- so does one of a key that is not watched
    ∷ exec_after (line 0 "WATCH a" ∷ line 1 "SET b 1" ∷ line 0 "MULTI" ∷ line 0 "GET b" ∷ []) "*1\r\n$1\r\n1\r\n"
    -- the sequence is the last at the WATCH, whatever the key
    ∷ eqb (get_or (after (line 1 "SET b 1" ∷ line 0 "WATCH a" ∷ []) opened).session_words 36 0) 1
    -- a dropped watch is none
    ∷ exec_after (line 0 "WATCH a" ∷ line 1 "SET a 1" ∷ line 0 "UNWATCH" ∷ line 0 "WATCH a" ∷ line 0 "MULTI" ∷ []) "*0\r\n"
    -- so is one whose reply does not fit
    ∷ replies (answer_to (line 0 "EXEC") (after (line 1 "SET a 1" ∷ line 0 "MULTI" ∷ []) watch_cut)) "*0\r\n"
    ∷ []

watched_holds : T (every watched)
unfolding call_spec_opens watched every after
watched_holds = tt

-- what moves a watched key
unfoldable moving : List Bool
moving =
    -- one's own write outside EXEC; EXEC without MULTI drops nothing
    exec_after (line 0 "WATCH a" ∷ line 0 "EXEC" ∷ line 0 "SET a 1" ∷ line 0 "MULTI" ∷ []) "*-1\r\n"
    -- none inside it
    ∷ exec_after (line 0 "WATCH a" ∷ line 0 "MULTI" ∷ line 0 "SET a 1" ∷ line 0 "SET a 2" ∷ []) "*2\r\n+OK\r\n+OK\r\n"
    -- the same value again, and a tombstone for an absent key
    ∷ exec_after (line 0 "SET a 1" ∷ line 0 "WATCH a" ∷ line 1 "SET a 1" ∷ line 0 "MULTI" ∷ []) "*-1\r\n"
    ∷ exec_after (line 0 "WATCH a" ∷ line 1 "DEL a" ∷ line 0 "MULTI" ∷ []) "*-1\r\n"
    ∷ []

moving_holds : T (every moving)
unfolding call_spec_opens moving every after
moving_holds = tt

-- what does not, and what comes before
unfoldable refusing : List Bool
refusing =
    -- a key merely written, counted or read causes no conflict
    exec_after (line 0 "WATCH a" ∷ line 0 "MULTI" ∷ line 0 "INCR n" ∷ line 0 "EXISTS n" ∷ line 1 "INCR n" ∷ []) "*2\r\n:2\r\n:1\r\n"
    -- conflict comes before 6
    ∷ replies (answer_to (line 0 "EXEC") (spent_after (line 0 "WATCH a" ∷ []))) "*-1\r\n"
    ∷ eqb (answer_to (line 0 "EXEC") (spent_after [])).number 6
    -- 9: the sequence of a watched key above the last; one behind the watched keys is none
    ∷ not (watches_from 1 6)
    ∷ watches_from 1 5
    ∷ watches_from 0 6
    ∷ []

refusing_holds : T (every refusing)
unfolding call_spec_opens refusing every after
refusing_holds = tt

-- A LOOK BEFORE EXEC (document 02, R-6). Number, verdict, reply and last sequence of a preview of session 0, with so many reply bytes
abbrev preview_is : Lent → ℕ → ℕ → ℕ → String → ℕ → Bool
preview_is l room number verdict text last =
    let o = (preview_call 0 room l).outcome in
    eqb o.number number && eqb (verdict_in o) verdict && same_bytes o.reply (bytes text) && eqb o.last last

-- a store whose sequences are used up
abbrev spent_sequences : Lent
spent_sequences =
    let o = open_call 18446744073709551615 20 200 (replicate 85 0) (replicate 200 0) in
    record { words = o.words; bytes = o.bytes; session_words = opened.session_words; session_bytes = opened.session_bytes }

unfoldable looking : List Bool
looking =
    -- outside MULTI no verdict is reached, and the last sequence is told
    preview_is (after (line 0 "SET a 1" ∷ []) opened) 256 0 255 "-ERR EXEC without MULTI\r\n" 1
    -- nor of a failed session
    ∷ preview_is (after (line 0 "MULTI" ∷ line 0 "FOO" ∷ []) opened) 256 0 255 "-EXECABORT Transaction discarded because of previous errors.\r\n" 0
    -- conflict: nothing would be written
    ∷ preview_is (after (line 0 "WATCH a" ∷ line 0 "SET a 1" ∷ line 0 "MULTI" ∷ line 0 "SET b 1" ∷ []) opened) 256 0 1 "*-1\r\n" 1
    -- accepted: one sequence for each key
    ∷ preview_is (after (line 0 "MULTI" ∷ line 0 "SET a 1" ∷ line 0 "SET a 2" ∷ line 0 "SET b 1" ∷ []) opened) 256 0 0 "*3\r\n+OK\r\n+OK\r\n+OK\r\n" 2
    -- the numbers 3, 6, 7 and 1 come with verdict 255 and last sequence 0
    ∷ preview_is (after (line 0 "MULTI" ∷ []) opened) 3 3 255 "" 0
    ∷ preview_is (after (line 0 "MULTI" ∷ []) opened) 4 0 0 "*0\r\n" 0
    ∷ preview_is (spent_after []) 256 6 255 "" 0
    ∷ preview_is (after (line 0 "MULTI" ∷ line 0 "SET a 1" ∷ []) spent_sequences) 256 7 255 "" 0
    ∷ eqb (preview_call 16 256 opened).outcome.number 1
    ∷ []

looking_holds : T (every looking)
unfolding call_spec_opens looking every after
looking_holds = tt

-- A WRONG ARGUMENT COUNT (document 02, R-8). SET a 1 queued
unfoldable begun : Lent
begun = after (line 0 "MULTI" ∷ line 0 "SET a 1" ∷ []) opened

-- what EXEC answers after one more line
abbrev exec_then : String → String → Bool
exec_then text = replies (answer_to (line 0 "EXEC") (after (line 0 text ∷ []) begun))

-- a lent session inside MULTI, `failed` its mark, with one queued command of these arguments
abbrev lent_words : ℕ → List Bytes → List ℕ
lent_words failed args = 1 ∷ failed ∷ 0 ∷ 1 ∷ (replicate 64 0 ++ length args ∷ (replicate 63 0 ++ (map length args ++ replicate (512 - length args) 0)))

abbrev lent_bytes : List Bytes → Bytes
lent_bytes args = replicate 2048 0 ++ (concat args ++ replicate (8192 - length (concat args)) 0)

abbrev lent_ok : ℕ → List Bytes → Bool
lent_ok failed args = session_ok 0 (lent_words failed args) (lent_bytes args)

-- the first of sixteen
abbrev lent_queue : List Bytes → Lent
lent_queue args = record {
  words = opened.words;
  bytes = opened.bytes;
  session_words = lent_words 0 args ++ replicate 9660 0;
  session_bytes = lent_bytes args ++ replicate 153600 0;
}

unfoldable queueing : List Bool
queueing =
    -- a wrong argument count marks, and queues nothing: one command is queued behind it as before
    replies (answer_to (line 0 "SET a") begun) "-ERR wrong number of arguments for 'set' command\r\n"
    ∷ eqb (get_or (after (line 0 "SET a" ∷ []) begun).session_words 3 0) 1
    ∷ exec_then "SET a" "-EXECABORT Transaction discarded because of previous errors.\r\n"
    -- so does SET with options
    ∷ replies (answer_to (line 0 "SET a 1 EX 5") begun) "-ERR SET options (EX, NX, ...) are not supported\r\n"
    ∷ exec_then "SET a 1 EX 5" "-EXECABORT Transaction discarded because of previous errors.\r\n"
    -- a name that cannot be queued keeps its text; WATCH and MULTI mark nothing
    ∷ replies (answer_to (line 0 "SCAN") begun) "-ERR 'SCAN' can't be used inside MULTI\r\n"
    ∷ exec_then "WATCH" "*1\r\n+OK\r\n"
    ∷ exec_then "MULTI" "*1\r\n+OK\r\n"
    -- an amount that is no number is queued
    ∷ exec_then "INCRBY n x" "*2\r\n+OK\r\n-ERR value is not an integer or out of range\r\n"
    -- an error that does not fit marks nothing
    ∷ replies (answer_to (line 0 "EXEC") (request_call 0 (bytes "GET\r\n") 8 4 begun).lent) "*1\r\n+OK\r\n"
    -- nothing is queued outside MULTI
    ∷ exec_after (line 0 "SET a" ∷ line 0 "MULTI" ∷ []) "*0\r\n"
    -- lent queues: 9, marked or not
    ∷ eqb (answer_to (line 1 "PING") (lent_queue (bytes "GET" ∷ []))).number 9
    ∷ not (lent_ok 0 (bytes "GET" ∷ []))
    ∷ not (lent_ok 1 (bytes "GET" ∷ []))
    ∷ not (lent_ok 0 (bytes "SET" ∷ bytes "a" ∷ []))
    ∷ not (lent_ok 0 (bytes "SET" ∷ bytes "a" ∷ bytes "1" ∷ bytes "EX" ∷ bytes "5" ∷ []))
    ∷ not (lent_ok 0 (bytes "MSET" ∷ bytes "a" ∷ bytes "1" ∷ bytes "b" ∷ []))
    ∷ not (lent_ok 0 (bytes "KEYS" ∷ bytes "*" ∷ []))
    ∷ lent_ok 0 (bytes "INCRBY" ∷ bytes "a" ∷ bytes "x" ∷ [])
    ∷ lent_ok 0 (bytes "GET" ∷ bytes "a" ∷ [])
    ∷ []

queueing_holds : T (every queueing)
unfolding call_spec_opens queueing every after begun
queueing_holds = tt

-- WHOLE NUMBERS (document 02, R-1). Texts that are numbers, and texts that are none
unfoldable number_texts : List Bool
number_texts =
    is_number (int_arg (bytes "0")) (pos 0)
    ∷ is_number (int_arg (bytes "10")) (pos 10)
    ∷ is_number (int_arg (bytes "-1")) (negsuc 0)
    ∷ is_number (int_arg (bytes "9223372036854775807")) (pos 9223372036854775807)
    ∷ is_number (int_arg (bytes "-9223372036854775808")) (negsuc 9223372036854775807)
    ∷ is_none (int_arg (bytes "9223372036854775808"))
    ∷ is_none (int_arg (bytes "-9223372036854775809"))
    ∷ is_none (int_arg [])
    ∷ is_none (int_arg (bytes "-"))
    ∷ is_none (int_arg (bytes "-0"))
    ∷ is_none (int_arg (bytes "+1"))
    ∷ is_none (int_arg (bytes "01"))
    ∷ is_none (int_arg (bytes "-01"))
    ∷ []

number_texts_hold : T (every number_texts)
unfolding call_spec_opens number_texts every
number_texts_hold = tt

-- where they are read, each with its own error text; lengths keep their rule
unfoldable number_places : List Bool
number_places =
    -- the text that a key holds
    replies (answer_to (line 0 "INCR n") (after (line 0 "SET n +007" ∷ []) opened)) "-ERR value is not an integer or out of range\r\n"
    ∷ replies (answer_to (line 0 "DECR n") (after (line 0 "SET n -0" ∷ []) opened)) "-ERR value is not an integer or out of range\r\n"
    ∷ replies (answer_to (line 0 "INCRBY n 1") (after (line 0 "SET n 01" ∷ []) opened)) "-ERR value is not an integer or out of range\r\n"
    -- the amount
    ∷ replies (answer_to (line 0 "INCRBY n -0") opened) "-ERR value is not an integer or out of range\r\n"
    ∷ replies (answer_to (line 0 "SCAN 00") k_set) "-ERR invalid cursor\r\n"
    ∷ replies (answer_to (line 0 "SCAN 0 COUNT 01") k_set) "-ERR value is not an integer or out of range\r\n"
    ∷ replies (answer_to (line 0 "RANGE a z LIMIT +1") k_set) "-ERR LIMIT must be a non-negative integer\r\n"
    ∷ gives (first "*+1\r\n$04\r\nPING\r\n") 16 "+PONG\r\n"
    ∷ []

number_places_hold : T (every number_places)
unfolding call_spec_opens number_places k_set every after
number_places_hold = tt
