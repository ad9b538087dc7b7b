-- What the steps of the reader answer: each code answer is turned into what the definitions of Request.antt say.
use Rattle.std.specs.Prelude.{◌≡◌, false, cond, List, [], ◌∷◌, ℕ, suc, ◌+◌, ◌-◌, ◌*◌, ◌/◌, ◌≤◌, ◌<◌, leb, length, take, drop, get_or, set}
use Rattle.std.specs.Prelude.{None}
use Rattle.base_key.specs.Bytes.{Bytes}
use Rattle.resp_spec.specs.declared.line.Feed.{Feed}
use Rattle.resp_spec.specs.declared.line.Feed.TheVariants.{At, NotYet, TooFar}
use Rattle.resp_spec.specs.declared.line.Line.{Line as LineAnswer}
use Rattle.resp_spec.specs.declared.line.Line.TheVariants.{Text, Unfinished, TooLong}
use Rattle.resp_spec.specs.declared.Span.{Span}
use Rattle.resp_spec.specs.declared.Read.{Read}
use Rattle.resp_spec.specs.Request.{Line, line, unfinished, too_long, line_of, without_cr, Reading, waits, faulty, span, too_many, whole, read_answer, is_space, words_from}

-- LINES
-- the line of an LF that was found
abbrev pub line_of_feed : Bytes → Feed → Line
line_of_feed s (At n) = line (without_cr (take n s)) (suc n)
line_of_feed s NotYet = unfinished
line_of_feed s TooFar = too_long

-- the bytes with that LF
abbrev pub with_feed : Feed → ℕ
with_feed (At n) = suc n
with_feed NotYet = 0
with_feed TooFar = 0

pub record FeedIs (s : Bytes) (r : Feed) : Type 0 where
  pub same : line_of_feed s r ≡ line_of s
  pub inside : with_feed r ≤ length s

-- an LF at n stands in the bytes
pub record FeedIn (s : Bytes) (n : ℕ) : Type 0 where
  pub inside : n < length s

-- the text in front of an LF at n has r bytes
pub record TextLen (s : Bytes) (n r : ℕ) : Type 0 where
  pub same : take r s ≡ without_cr (take n s)
  pub inside : r ≤ n
  pub feed : n < length s

abbrev pub line_of_answer : Bytes → LineAnswer → Line
line_of_answer s (Text len used) = line (take len s) used
line_of_answer s Unfinished = unfinished
line_of_answer s TooLong = too_long

-- a text of `len` bytes in a line of `used` lies in the bytes
pub record LineIn (s : Bytes) (len used : ℕ) : Type 0 where
  pub text : len < used
  pub inside : used ≤ length s

-- what a line answers holds of the bytes
pub record LineIs (s : Bytes) (r : LineAnswer) : Type 0 where
  pub same : line_of_answer s r ≡ line_of s
  pub inside : (len used : ℕ) → r ≡ Text len used → LineIn s len used

-- ARGUMENTS
-- how the reading goes on behind an argument
abbrev pub Next : Type 0
Next = ℕ → Bytes → Reading

-- a place in the bytes
pub record Inside (input : Bytes) (at : ℕ) : Type 0 where
  pub inside : at ≤ length input

-- THE LENT TABLE. Argument i stands in the words 2 i and 2 i + 1: its start and its length.
unfoldable pub span_words : List Span → List ℕ
span_words [] = []
span_words (p ∷ ps) = p.start ∷ p.len ∷ span_words ps

-- the words that a reading leaves in front; everything else of the table is working memory
unfoldable pub argument_words : Reading → List ℕ
argument_words waits = []
argument_words (faulty f) = []
argument_words too_many = []
argument_words (whole ps used) = span_words ps

-- the reader's contract: its answer is that of `reading`, and the arguments' parts stand in front of the table
pub record ReadIs (reading : Reading) (r : Read) (table : List ℕ) : Type 0 where
  pub answer : r ≡ read_answer reading
  pub front : take (length (argument_words reading)) table ≡ argument_words reading

-- the table has a place for argument i
pub record PlaceIn (table : List ℕ) (i : ℕ) : Type 0 where
  pub inside : i < length table / 2

-- the table with a part at place i
unfoldable pub with_place : ℕ → ℕ → ℕ → List ℕ → List ℕ
with_place i start len table = set (set table (2 * i) start) (2 * i + 1) len

-- INLINE WORDS
-- the next word from `from` on starts at r, or none does and r is the end
pub record WordStart (text : Bytes) (from r : ℕ) : Type 0 where
  pub same : words_from from None (drop from text) ≡ words_from r None (drop r text)
  pub onward : from ≤ r
  pub inside : r ≤ length text
  pub starts : r < length text → is_space (get_or text r 0) ≡ false

-- a word starts at `start`
pub record StartsWord (text : Bytes) (start : ℕ) : Type 0 where
  pub inside : start < length text
  pub starts : is_space (get_or text start 0) ≡ false

-- the word that starts at `start` ends before r
pub record WordEnd (text : Bytes) (start r : ℕ) : Type 0 where
  pub same : words_from start None (drop start text) ≡ span start (r - start) ∷ words_from r None (drop r text)
  pub some_byte : start < r
  pub inside : r ≤ length text

-- the words of an inline line, where `places` hold them
abbrev pub reading_of_words : ℕ → List Span → ℕ → Reading
reading_of_words places ps used = cond (leb (length ps) places) (whole ps used) too_many
