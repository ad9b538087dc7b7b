-- The readings of document 01 that are marked P, on the published calls or on their definitions, as one list with one fact that antt computes.
use Rattle.std.specs.Prelude.{ℕ, ◌+◌, Bool, true, false, ◌&&◌, List, [], ◌∷◌, ◌++◌, map, T, eqb, ℤ, pos, negsuc, get_or, replicate}
use Prim.Native.String.{String}
use Rattle.std.specs.Prelude.{Some}
use Rattle.base_key.specs.Bytes.{Bytes, bytes, same_bytes}
use Rattle.base_number.specs.Number.{int_arg}
use Rattle.store_memtable.specs.Versions.{Store}
use Rattle.group_spec.specs.Group.{verdict_byte, taken, group}
use Rattle.command_spec.specs.Glob.{glob}
use Rattle.call_spec.specs.Serve.{Outcome}
use Rattle.call_spec.specs.Calls.{Lent, open_call, request_call}
use Rattle.call_spec.specs.Opens.{call_spec_opens}
use Rattle.std.specs.Prelude.{Option, None}

-- an empty store just opened, and sixteen clear sessions
abbrev pub opened : Lent
opened =
    let o = open_call 0 20 200 (replicate 85 0) (replicate 200 0) in
    record { words = o.words; bytes = o.bytes; session_words = replicate 10304 0; session_bytes = replicate 163840 0 }

-- a line that a session sends
pub record Line : Type 0 where
  pub session : ℕ
  pub text : Bytes

abbrev pub line : ℕ → String → Line
line i text = record { session = i; text = bytes text ++ bytes "\r\n" }

-- what the lines leave, and the answer to one more, with 8 argument places and 256 reply bytes
unfoldable pub after : List Line → Lent → Lent
after [] l = l
after (x ∷ xs) l = after xs (request_call x.session x.text 8 256 l).lent

abbrev pub answer_to : Line → Lent → Outcome
answer_to x l = (request_call x.session x.text 8 256 l).outcome

abbrev pub first : String → Outcome
first text = (request_call 0 (bytes text) 8 256 opened).outcome

-- no number, these bytes used, this reply
abbrev pub gives : Outcome → ℕ → String → Bool
gives o used text = eqb o.number 0 && eqb o.used used && same_bytes o.reply (bytes text)

abbrev pub replies : Outcome → String → Bool
replies o text = eqb o.number 0 && same_bytes o.reply (bytes text)

abbrev pub is_number : Option ℤ → ℤ → Bool
is_number (Some (pos n)) (pos m) = eqb n m
is_number (Some (negsuc n)) (negsuc m) = eqb n m
is_number (Some (pos n)) (negsuc m) = false
is_number (Some (negsuc n)) (pos m) = false
is_number None z = false

abbrev pub is_none : Option ℤ → Bool
is_none (Some z) = false
is_none None = true

-- the counts of versions and the last sequence in the lent words
abbrev pub version_count : Lent → ℕ
version_count l = get_or l.words 0 0

abbrev pub last_sequence : Lent → ℕ
last_sequence l = get_or l.words 2 0

unfoldable pub counter_full : Lent
counter_full = after (line 0 "SET n 9223372036854775807" ∷ []) opened

unfoldable pub k_live : Lent
k_live = after (line 0 "SET k 1" ∷ []) opened

-- WATCH f and MULTI by 0, what 0 queues, SET f by 1
unfoldable pub f_moved : List Line → Lent
f_moved queued = after (line 0 "WATCH f" ∷ line 0 "MULTI" ∷ (queued ++ line 1 "SET f 1" ∷ [])) opened

-- a store whose key a has its newest version at 5
abbrev pub a_at5 : Store
a_at5 = record { versions = record { key = bytes "a"; seq = 5; value = Some (bytes "x") } ∷ []; last = 5; most_versions = 9; most_bytes = 99 }

unfoldable pub every : List Bool → Bool
every [] = true
every (b ∷ bs) = b && every bs

unfoldable pub readings : List Bool
readings =
    -- `*1\r\n$4\r\nPING\r\n` uses 14 bytes, `+PONG`
    gives (first "*1\r\n$4\r\nPING\r\n") 14 "+PONG\r\n"
    -- `*+1` counts 1
    ∷ gives (first "*+1\r\n$4\r\nPING\r\n") 15 "+PONG\r\n"
    -- `*-1\r\n`: `-ERR Protocol error: invalid multibulk length '-1'`
    ∷ gives (first "*-1\r\n") 5 "-ERR Protocol error: invalid multibulk length '-1'\r\n"
    -- `\r\n` uses 2, no reply
    ∷ gives (first "\r\n") 2 ""
    -- `-9223372036854775808` is a number; `9223372036854775808` and `+` are none
    ∷ is_number (int_arg (bytes "-9223372036854775808")) (negsuc 9223372036854775807)
    ∷ is_none (int_arg (bytes "9223372036854775808"))
    ∷ is_none (int_arg (bytes "+"))
    -- INCR on 9223372036854775807: overflow error, no version
    ∷ replies (answer_to (line 0 "INCR n") counter_full) "-ERR increment or decrement would overflow\r\n"
    ∷ eqb (version_count (after (line 0 "INCR n" ∷ []) counter_full)) (version_count counter_full)
    -- `DEL k k`, k live: `:2`, last sequence up by 2
    ∷ replies (answer_to (line 0 "DEL k k") k_live) ":2\r\n"
    ∷ eqb (last_sequence (after (line 0 "DEL k k" ∷ []) k_live)) (last_sequence k_live + 2)
    -- MULTI, EXEC: `*0`
    ∷ replies (answer_to (line 0 "EXEC") (after (line 0 "MULTI" ∷ []) opened)) "*0\r\n"
    -- WATCH f and MULTI by 0, SET f by 1, EXEC by 0: `*-1`, with SET or nothing queued
    ∷ replies (answer_to (line 0 "EXEC") (f_moved (line 0 "SET f 2" ∷ []))) "*-1\r\n"
    ∷ replies (answer_to (line 0 "EXEC") (f_moved [])) "*-1\r\n"
    -- sizes 1,048,576 then 0: both taken; 1,048,577 then 0: one; 1 then 1,048,576: one
    ∷ eqb (taken (1048576 ∷ 0 ∷ [])) 2
    ∷ eqb (taken (1048577 ∷ 0 ∷ [])) 1
    ∷ eqb (taken (1 ∷ 1048576 ∷ [])) 1
    -- read 5 writes a, read 5 checks only a, a's newest at 5: accepted, conflict
    ∷ same_bytes
    (map verdict_byte
    (group
    (record { read_seq = Some 5; writes = (bytes "a", Some (bytes "y")) ∷ []; also_check = [] }
    ∷ record { read_seq = Some 5; writes = []; also_check = bytes "a" ∷ [] } ∷ [])
    a_at5).verdicts)
    (0 ∷ 1 ∷ [])
    -- `a*b?` matches `axbbc`
    ∷ glob (bytes "a*b?") (bytes "axbbc")
    ∷ []

pub readings_hold : T (every readings)
unfolding call_spec_opens readings every after counter_full k_live f_moved
readings_hold = tt
