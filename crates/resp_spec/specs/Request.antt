-- Reading a request (document 01, section 3; the RESP2 specification).
use Rattle.std.specs.Prelude.{ℕ, zero, suc, ◌+◌, ◌-◌, Bool, true, false, cond, ◌&&◌, ◌||◌, List, [], ◌∷◌, ◌++◌, leb, eqb, length, take, drop, Result, Ok, Err}
use Rattle.std.specs.Prelude.{Option, None, Some, option_map}
use Rattle.base_key.specs.Bytes.{Bytes, bytes, part}
use Rattle.base_number.specs.Decimal.{digits}
use Rattle.base_number.specs.Number.{length_of}
use Rattle.resp_spec.specs.declared.Span.{Span}
use Rattle.resp_spec.specs.declared.Header.{Header}
use Rattle.resp_spec.specs.declared.Header.TheVariants.{Multibulk, Bulk}
use Rattle.resp_spec.specs.declared.Fault.{Fault}
use Rattle.resp_spec.specs.declared.Fault.TheVariants.{LineTooLong, NotText, NotNumber, OverLimit, NoDollar, NoLineEnd}
use Rattle.resp_spec.specs.declared.Read.{Read}
use Rattle.resp_spec.specs.declared.Read.TheVariants.{Wait, Faulty, TooMany, Whole}
use Rattle.resp_spec.specs.Utf8.{lossy, is_utf8}

-- a start and a length
abbrev pub span : ℕ → ℕ → Span
span start len = record { start = start; len = len }

-- the bytes of a part of the request
abbrev pub spanned : Bytes → Span → Bytes
spanned s p = part p.start p.len s

-- LINES. A line: its text, and the bytes it takes with its end.
pub data Line : Type 0 where
  line : Bytes → ℕ → Line
  unfinished : Line
  too_long : Line

-- the longest line: the LF stands at most this far from the line's start
abbrev pub most_line : ℕ
most_line = 65536

-- the offset of the first LF (10)
unfoldable pub feed_at : Bytes → Option ℕ
feed_at [] = None
feed_at (b ∷ s) = elim (eqb b 10) [ true ↦ Some 0 | false ↦ option_map suc (feed_at s) ]

-- one CR (13) at the end is dropped
unfoldable pub without_cr : Bytes → Bytes
without_cr [] = []
without_cr (b ∷ []) = cond (eqb b 13) [] (b ∷ [])
without_cr (b ∷ c ∷ s) = b ∷ without_cr (c ∷ s)

-- a line by the offset of its LF
unfoldable pub line_at : Option ℕ → Bytes → Line
line_at None s = cond (leb (length s) most_line) unfinished too_long
line_at (Some n) s = cond (leb n most_line) (line (without_cr (take n s)) (suc n)) too_long

-- the line in front
unfoldable pub line_of : Bytes → Line
line_of s = line_at (feed_at s) s

-- LENGTHS. The limits: 1,048,576 arguments, and 67,108,864 bytes of one.
abbrev pub limit_of : Header → ℕ
limit_of Multibulk = 1048576
limit_of Bulk = 67108864

-- a length within its limit
unfoldable pub header_within : Header → Span → Option ℕ → Result ℕ Fault
header_within h p None = Err (NotNumber h p)
header_within h p (Some n) = cond (leb n (limit_of h)) (Ok n) (Err (OverLimit h n))

-- the text of a header, which starts at `start`
unfoldable pub header_of : Header → ℕ → Bytes → Result ℕ Fault
header_of h start text = cond (is_utf8 text) (header_within h (span start (length text)) (length_of text)) (Err (NotText h))

-- REQUESTS. No whole request yet; a protocol error; more arguments than places; the arguments and the bytes used.
pub data Reading : Type 0 where
  waits : Reading
  faulty : Fault → Reading
  too_many : Reading
  whole : List Span → ℕ → Reading

-- an argument in front of those that follow
unfoldable pub with_span : Span → Reading → Reading
with_span p waits = waits
with_span p (faulty f) = faulty f
with_span p too_many = too_many
with_span p (whole ps used) = whole (p ∷ ps) used

-- CR LF stands in front
unfoldable pub begins_cr_lf : Bytes → Bool
begins_cr_lf [] = false
begins_cr_lf (b ∷ []) = false
begins_cr_lf (b ∷ c ∷ s) = eqb b 13 && eqb c 10

-- the bytes of an argument, which stand at `at` in front of `s`; then CR LF must follow
unfoldable pub bulk_body : (ℕ → Bytes → Reading) → ℕ → Bytes → Result ℕ Fault → Reading
bulk_body next at s (Err f) = faulty f
bulk_body next at s (Ok n) = elim (leb (n + 2) (length s)) [
  | false ↦ waits
  | true ↦ elim (begins_cr_lf (drop n s)) [
    | true ↦ with_span (span at n) (next (at + n + 2) (drop (n + 2) s))
    | false ↦ faulty NoLineEnd
  ]
]

-- an argument's line must begin with `$` (36)
unfoldable pub argument_line : (ℕ → Bytes → Reading) → ℕ → Bytes → Line → Reading
argument_line next at s unfinished = waits
argument_line next at s too_long = faulty LineTooLong
argument_line next at s (line [] used) = faulty (NoDollar (span at 0))
argument_line next at s (line (c ∷ text) used) = elim (eqb c 36) [
  | true ↦ bulk_body next (at + used) (drop used s) (header_of Bulk (at + 1) text)
  | false ↦ faulty (NoDollar (span at 1))
]

-- n arguments from `at` on, where `s` stands
unfoldable pub read_arguments : ℕ → ℕ → Bytes → Reading
read_arguments zero at s = whole [] at
read_arguments (suc n) at s = argument_line (read_arguments n) at s (line_of s)

-- 2 follows an accepted count, and so precedes what the arguments hold
unfoldable pub array_of : ℕ → ℕ → Bytes → Result ℕ Fault → Reading
array_of places used s (Err f) = faulty f
array_of places used s (Ok n) = elim (leb n places) [ true ↦ read_arguments n used (drop used s) | false ↦ too_many ]

-- an array, by its first line
unfoldable pub read_array : ℕ → Bytes → Line → Reading
read_array places s unfinished = waits
read_array places s too_long = faulty LineTooLong
read_array places s (line text used) = array_of places used s (header_of Multibulk 1 (drop 1 text))

-- space, tab, LF, FF, CR
abbrev pub is_space : ℕ → Bool
is_space b = eqb b 32 || eqb b 9 || eqb b 10 || eqb b 12 || eqb b 13

-- the words of an inline line, from offset `at` on; `some a`: within a word that starts at a
unfoldable pub words_from : ℕ → Option ℕ → Bytes → List Span
words_from at None [] = []
words_from at (Some a) [] = span a (at - a) ∷ []
words_from at None (b ∷ s) = elim (is_space b) [ true ↦ words_from (suc at) None s | false ↦ words_from (suc at) (Some at) s ]
words_from at (Some a) (b ∷ s) = elim (is_space b) [ true ↦ span a (at - a) ∷ words_from (suc at) None s | false ↦ words_from (suc at) (Some a) s ]

-- an inline line split at spaces, without quoting
unfoldable pub read_inline : ℕ → Line → Reading
read_inline places unfinished = waits
read_inline places too_long = faulty LineTooLong
read_inline places (line text used) = let ps = words_from 0 None text in cond (leb (length ps) places) (whole ps used) too_many

-- first byte `*` (42): an array; anything else: an inline line; no byte: wait
unfoldable pub read_request : ℕ → Bytes → Reading
read_request places [] = waits
read_request places (b ∷ s) = cond (eqb b 42) (read_array places (b ∷ s) (line_of (b ∷ s))) (read_inline places (line_of (b ∷ s)))

-- what the reader answers; the arguments' parts stand in the lent table
abbrev pub read_answer : Reading → Read
read_answer waits = Wait
read_answer (faulty f) = Faulty f
read_answer too_many = TooMany
read_answer (whole ps used) = Whole (length ps) used

-- FAULTS. The reply's text, behind `ERR Protocol error: `.
abbrev pub header_name : Header → Bytes
header_name Multibulk = bytes "multibulk length"
header_name Bulk = bytes "bulk length"

-- between quotes
abbrev pub quoted : Bytes → Bytes
quoted s = bytes "'" ++ s ++ bytes "'"

-- the text of each fault
unfoldable pub fault_text : Bytes → Fault → Bytes
fault_text s LineTooLong = bytes "line too long"
fault_text s (NotText h) = bytes "invalid " ++ header_name h
fault_text s (NotNumber h p) = bytes "invalid " ++ header_name h ++ bytes " " ++ quoted (spanned s p)
fault_text s (OverLimit h n) = header_name h ++ bytes " " ++ digits n ++ bytes " is over the limit of " ++ digits (limit_of h)
fault_text s (NoDollar p) = bytes "expected '$', got " ++ quoted (lossy (spanned s p))
fault_text s NoLineEnd = bytes "bulk string not followed by CRLF"
