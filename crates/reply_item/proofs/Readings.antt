-- Examples of reading a reply, computed from the definitions, as one list with one fact. Assumes nothing.
use Prim.Native.Nat.{ℕ, zero, suc, ◌-◌, ◌^◌}
use Prim.Native.String.{String}
use mathlib.Core.Bool.{Bool, true, false, ◌&&◌}
use mathlib.Core.List.{List, [], ◌∷◌, ◌++◌}
use lib.Dec.{T, eqb}
use Rattle.base_key.specs.Bytes.{Bytes, bytes, same_bytes}
use Rattle.reply_item.specs.Replies.{refusal_number, ReplyReading, waits, faulty, returns, whole, words_of, read_reply}
use Rattle.reply_item.specs.Opens.{reply_item_opens}

-- the reading of a text, with places for so many items
abbrev pub read : ℕ → String → ReplyReading
read places text = read_reply places (bytes text)

-- whole: the bytes used, and the words of the items
abbrev pub gives : ReplyReading → ℕ → List ℕ → Bool
gives waits used words = false
gives (faulty at) used words = false
gives (returns k) used words = false
gives (whole is end) used words = eqb end used && same_bytes (words_of is) words

abbrev pub is_wait : ReplyReading → Bool
is_wait waits = true
is_wait (faulty at) = false
is_wait (returns k) = false
is_wait (whole is end) = false

abbrev pub is_fault : ReplyReading → ℕ → Bool
is_fault waits offset = false
is_fault (faulty at) offset = eqb at offset
is_fault (returns k) offset = false
is_fault (whole is end) offset = false

abbrev pub is_number : ReplyReading → ℕ → Bool
is_number waits number = false
is_number (faulty at) number = false
is_number (returns k) number = eqb (refusal_number k) number
is_number (whole is end) number = false

-- so many arrays of one item, each in the one before, and `inner` in the last
unfoldable pub nest : ℕ → Bytes → Bytes
nest zero inner = inner
nest (suc n) inner = bytes "*1\r\n" ++ nest n inner

-- the words of so many such arrays
unfoldable pub nest_words : ℕ → List ℕ → List ℕ
nest_words zero inner = inner
nest_words (suc n) inner = 7 ∷ 0 ∷ 0 ∷ 1 ∷ nest_words n inner

unfoldable pub every : List Bool → Bool
every [] = true
every (b ∷ bs) = b && every bs

unfoldable pub readings : List Bool
readings =
    -- each kind; bytes behind a reply are left
    gives (read 1 "+OK\r\n") 5 (1 ∷ 1 ∷ 2 ∷ 0 ∷ [])
    ∷ gives (read 1 "+\r\n+OK\r\n") 3 (1 ∷ 1 ∷ 0 ∷ 0 ∷ [])
    ∷ gives (read 1 "-ERR no\r\n") 9 (2 ∷ 1 ∷ 6 ∷ 0 ∷ [])
    ∷ gives (read 1 ":0\r\n") 4 (3 ∷ 0 ∷ 0 ∷ 0 ∷ [])
    ∷ gives (read 1 ":-1\r\n") 5 (3 ∷ 0 ∷ 0 ∷ (2 ^ 64 - 1) ∷ [])
    ∷ gives (read 1 ":9223372036854775807\r\n") 22 (3 ∷ 0 ∷ 0 ∷ (2 ^ 63 - 1) ∷ [])
    ∷ gives (read 1 ":-9223372036854775808\r\n") 23 (3 ∷ 0 ∷ 0 ∷ (2 ^ 63) ∷ [])
    ∷ gives (read 1 "$3\r\na\r\n\r\n") 9 (4 ∷ 4 ∷ 3 ∷ 0 ∷ [])
    ∷ gives (read 1 "$0\r\n\r\n") 6 (4 ∷ 4 ∷ 0 ∷ 0 ∷ [])
    ∷ gives (read 1 "$-1\r\n") 5 (5 ∷ 0 ∷ 0 ∷ 0 ∷ [])
    ∷ gives (read 1 "*-1\r\n") 5 (6 ∷ 0 ∷ 0 ∷ 0 ∷ [])
    ∷ gives (read 1 "*0\r\n") 4 (7 ∷ 0 ∷ 0 ∷ 0 ∷ [])
    -- an array in an array: items in the order of their first bytes
    ∷ gives (read 5 "*3\r\n:1\r\n*1\r\n$1\r\na\r\n+b\r\n") 23 (7 ∷ 0 ∷ 0 ∷ 3 ∷ 3 ∷ 0 ∷ 0 ∷ 1 ∷ 7 ∷ 0 ∷ 0 ∷ 1 ∷ 4 ∷ 16 ∷ 1 ∷ 0 ∷ 1 ∷ 20 ∷ 1 ∷ 0 ∷ [])
    -- lines as in a request: LF alone ends one; lengths may begin with zeros
    ∷ gives (read 1 "+OK\n") 4 (1 ∷ 1 ∷ 2 ∷ 0 ∷ [])
    ∷ gives (read 1 "$003\r\nabc\r\n") 11 (4 ∷ 6 ∷ 3 ∷ 0 ∷ [])
    -- a text that is no UTF-8 is its bytes, and a CR inside it stays
    ∷ gives (read 1 "+a\rb\r\n") 6 (1 ∷ 1 ∷ 3 ∷ 0 ∷ [])
    ∷ gives (read_reply 1 (43 ∷ 255 ∷ 13 ∷ 10 ∷ [])) 4 (1 ∷ 1 ∷ 1 ∷ 0 ∷ [])
    -- waits: no line yet, not all bytes of a bulk, even where a wrong byte shows, not all items
    ∷ is_wait (read 1 "")
    ∷ is_wait (read 1 "+OK\r")
    ∷ is_wait (read 1 "?")
    ∷ is_wait (read 1 "$3\r\nabcd")
    ∷ is_wait (read 9 "*2\r\n:1\r\n")
    -- faults, at the offset of their item
    ∷ is_fault (read 1 "?\r\n") 0
    ∷ is_fault (read 1 "\r\n") 0
    ∷ is_fault (read 1 ":+1\r\n") 0
    ∷ is_fault (read 1 ":007\r\n") 0
    ∷ is_fault (read 1 ":-0\r\n") 0
    ∷ is_fault (read 1 ":\r\n") 0
    ∷ is_fault (read 1 ":9223372036854775808\r\n") 0
    ∷ is_fault (read 1 "$+1\r\na\r\n") 0
    ∷ is_fault (read 1 "*+1\r\n:1\r\n") 0
    ∷ is_fault (read 1 "$\r\n") 0
    ∷ is_fault (read 1 "*\r\n") 0
    ∷ is_fault (read 1 "$-2\r\n") 0
    ∷ is_fault (read 1 "*-2\r\n") 0
    ∷ is_fault (read 1 "$-01\r\n") 0
    ∷ is_fault (read 1 "$67108865\r\n") 0
    ∷ is_fault (read 1 "*1048577\r\n") 0
    ∷ is_fault (read 9 "*2\r\n$1\r\nabcd") 4
    ∷ is_fault (read 9 "*2\r\n:1\r\n*1\r\n:x\r\n") 12
    -- limits that pass
    ∷ is_wait (read 1 "$67108864\r\n")
    ∷ is_wait (read 9 "*1048576\r\n")
    -- eight arrays deep, and `*-1` in the eighth; nine are 12
    ∷ gives (read_reply 9 (nest 8 (bytes ":1\r\n"))) 36 (nest_words 8 (3 ∷ 0 ∷ 0 ∷ 1 ∷ []))
    ∷ gives (read_reply 9 (nest 8 (bytes "*-1\r\n"))) 37 (nest_words 8 (6 ∷ 0 ∷ 0 ∷ 0 ∷ []))
    ∷ is_number (read_reply 99 (nest 9 (bytes ":1\r\n"))) 12
    ∷ is_number (read_reply 99 (nest 8 (bytes "*0\r\n"))) 12
    -- a fault in the line comes before 12; 12 before 11; 11 before what follows the line
    ∷ is_fault (read_reply 99 (nest 8 (bytes "*+0\r\n"))) 32
    ∷ is_wait (read_reply 99 (nest 8 (bytes "*0")))
    ∷ is_number (read_reply 8 (nest 8 (bytes "*0\r\n"))) 12
    ∷ is_number (read_reply 8 (nest 8 (bytes ":1\r\n"))) 11
    ∷ is_number (read_reply 7 (nest 8 (bytes "*0\r\n"))) 11
    ∷ is_wait (read 0 "")
    ∷ is_number (read 0 "+OK\r\n") 11
    ∷ is_number (read 0 "*0\r\n") 11
    ∷ is_fault (read 0 ":x\r\n") 0
    ∷ is_wait (read 0 "+OK")
    ∷ is_number (read 0 "$3\r\nab") 11
    ∷ is_number (read 0 "$1\r\naxx") 11
    ∷ is_number (read 2 "*3\r\n:1\r\n:2\r\n?\r\n") 11
    ∷ is_fault (read 2 "*3\r\n:1\r\n?\r\n:2\r\n") 8
    ∷ is_wait (read 2 "*3\r\n:1\r\n:2")
    ∷ []

pub readings_hold : T (every readings)
unfolding reply_item_opens readings every nest nest_words
readings_hold = tt
