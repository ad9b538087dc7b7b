-- Reading a reply (document 02, R-10, with the number form of R-1; the RESP2 specification).
use Rattle.std.specs.Prelude.{ℕ, zero, suc, ◌+◌, ◌-◌, ◌*◌, ◌^◌, cond, List, [], ◌∷◌, ◌++◌, leb, ltb, eqb, ℤ, pos, negsuc, length, drop, replicate}
use Rattle.base_key.specs.Bytes.{Bytes, bytes, same_bytes}
use Rattle.base_number.specs.Number.{int_arg}
use Rattle.resp_spec.specs.declared.Header.{Header}
use Rattle.resp_spec.specs.declared.Header.TheVariants.{Multibulk, Bulk}
use Rattle.resp_spec.specs.Request.{Line, line, unfinished, too_long, line_of, header_of, begins_cr_lf}
use Rattle.resp_spec.specs.declared.Fault.{Fault as RequestFault}
use Rattle.reply_item.specs.declared.Item.{Item}
use Rattle.reply_item.specs.declared.Item.TheVariants.{SimpleText, ErrorText, WholeNumber, BulkText, NoBulk, NoArray, ArrayOf}
use Rattle.reply_item.specs.declared.Size.{Size}
use Rattle.reply_item.specs.declared.Size.TheVariants.{Of, Absent, NoSize}
use Rattle.reply_item.specs.declared.ItemLine.{ItemLine}
use Rattle.reply_item.specs.declared.ItemLine.TheVariants.{Complete, BulkFollows, ItemsFollow, Wrong}
use Rattle.reply_item.specs.declared.Refusal.{Refusal}
use Rattle.reply_item.specs.declared.Refusal.TheVariants.{NoPlace, TooDeep}
use Rattle.reply_item.specs.declared.ReplyRead.{ReplyRead}
use Rattle.reply_item.specs.declared.ReplyRead.TheVariants.{Wait, Whole, Fault, Refused}
use Rattle.std.specs.Prelude.{Option, None, Some}
use Rattle.std.specs.Prelude.{Err, Ok, Result}

-- WHOLE NUMBERS, of the form that a counter's text has. A number as a word of 64 bits: two's complement
unfoldable pub word_of : ℤ → ℕ
word_of (pos n) = n
word_of (negsuc n) = 2 ^ 64 - 1 - n

-- LENGTHS AND COUNTS. What the request reader takes, within its limits.
unfoldable pub counted_size : Result ℕ RequestFault → Size
counted_size (Ok n) = Of n
counted_size (Err f) = NoSize

-- `-1` says that there is no bulk, or no array; a `+` (43) is no length
unfoldable pub reply_size : Header → Bytes → Size
reply_size h [] = NoSize
reply_size h (b ∷ text) =
    cond (same_bytes (b ∷ text) (bytes "-1")) Absent (cond (eqb b 43) NoSize (counted_size (header_of h 0 (b ∷ text))))

-- THE LINE OF AN ITEM says an item that is complete with it, or what follows.
unfoldable pub number_line : Option ℤ → ItemLine
number_line None = Wrong
number_line (Some z) = Complete (WholeNumber (word_of z))

unfoldable pub bulk_line : Size → ItemLine
bulk_line NoSize = Wrong
bulk_line Absent = Complete NoBulk
bulk_line (Of n) = BulkFollows n

unfoldable pub array_line : Size → ItemLine
array_line NoSize = Wrong
array_line Absent = Complete NoArray
array_line (Of n) = ItemsFollow n

-- by its first byte: `+` (43), `-` (45), `:` (58), `$` (36) or `*` (42); what stands behind that byte starts at `from`
unfoldable pub item_line_of : ℕ → Bytes → ItemLine
item_line_of from [] = Wrong
item_line_of from (b ∷ text) =
    cond (eqb b 43) (Complete (SimpleText from (length text)))
    (cond (eqb b 45) (Complete (ErrorText from (length text)))
    (cond (eqb b 58) (number_line (int_arg text))
    (cond (eqb b 36) (bulk_line (reply_size Bulk text))
    (cond (eqb b 42) (array_line (reply_size Multibulk text)) Wrong))))

-- THE NUMBER that a refusal is for C
unfoldable pub refusal_number : Refusal → ℕ
refusal_number NoPlace = 11
refusal_number TooDeep = 12

-- READING. Not all bytes are there yet; a fault, with the offset of its item; a refusal, whose number is returned; the items and the offset behind them.
pub data ReplyReading : Type 0 where
  waits : ReplyReading
  faulty : ℕ → ReplyReading
  returns : Refusal → ReplyReading
  whole : List Item → ℕ → ReplyReading

-- items in front of those of a reading
unfoldable pub with_items : List Item → ReplyReading → ReplyReading
with_items is waits = waits
with_items is (faulty at) = faulty at
with_items is (returns k) = returns k
with_items is (whole js end) = whole (is ++ js) end

-- refused, by 11, where the table has no place for item n
unfoldable pub placed : ℕ → ℕ → ReplyReading → ReplyReading
placed places n r = cond (ltb n places) r (returns NoPlace)

-- the bytes of a bulk that `at` begins: `size` bytes from `start` on, where `s` stands, and then CR LF
unfoldable pub body_of : ℕ → ℕ → ℕ → Bytes → ReplyReading
body_of at start size s =
    cond (leb (size + 2) (length s)) (cond (begins_cr_lf (drop size s)) (whole (BulkText start size ∷ []) (start + size + 2)) (faulty at)) waits

-- how an array goes on: by its count, its place among the items and the offset behind its line
abbrev pub Inner : Type 0
Inner = ℕ → ℕ → ℕ → ReplyReading

-- item n, which begins at `at` with a line that is parsed and ends at `end`
unfoldable pub item_of : Inner → ℕ → Bytes → ℕ → ℕ → ℕ → ItemLine → ReplyReading
item_of inner places input n at end Wrong = faulty at
item_of inner places input n at end (Complete i) = placed places n (whole (i ∷ []) end)
item_of inner places input n at end (BulkFollows size) = placed places n (body_of at end size (drop end input))
item_of inner places input n at end (ItemsFollow count) = inner count n end

-- by its line
unfoldable pub item_by_line : Inner → ℕ → Bytes → ℕ → ℕ → Line → ReplyReading
item_by_line inner places input n at unfinished = waits
item_by_line inner places input n at too_long = faulty at
item_by_line inner places input n at (line text used) = item_of inner places input n at (at + used) (item_line_of (at + 1) text)

-- what follows a reading that is whole, from the number of its items and its end on
unfoldable pub followed : ReplyReading → (ℕ → ℕ → ReplyReading) → ReplyReading
followed waits next = waits
followed (faulty at) next = faulty at
followed (returns k) next = returns k
followed (whole is end) next = with_items is (next (length is) end)

-- `count` items, one behind the other, the first being item n and beginning at `at`
unfoldable pub read_items : (ℕ → ℕ → ReplyReading) → ℕ → ℕ → ℕ → ReplyReading
read_items one zero n at = whole [] at
read_items one (suc count) n at = followed (one n at) (λ many end. read_items one count (n + many) end)

-- an array takes a place, and its items follow
unfoldable pub nested : (ℕ → ℕ → ReplyReading) → ℕ → Inner
nested one places count n end = placed places n (with_items (ArrayOf count ∷ []) (read_items one count (suc n) end))

-- an array too deep is refused, by 12
unfoldable pub too_deep : Inner
too_deep count n end = returns TooDeep

-- item n, which begins at `at`; arrays may nest `depth` deep
unfoldable pub read_item : ℕ → ℕ → Bytes → ℕ → ℕ → ReplyReading
read_item zero places input n at = item_by_line too_deep places input n at (line_of (drop at input))
read_item (suc depth) places input n at = item_by_line (nested (read_item depth places input) places) places input n at (line_of (drop at input))

-- how deep arrays may nest
abbrev pub most_depth : ℕ
most_depth = 8

-- THE REPLY in front of the bytes, with places for so many items
unfoldable pub read_reply : ℕ → Bytes → ReplyReading
read_reply places input = read_item most_depth places input 0 0

-- what the reader answers; the items stand in the lent table
unfoldable pub answer_of : ReplyReading → ReplyRead
answer_of waits = Wait
answer_of (faulty at) = Fault at
answer_of (returns k) = Refused k
answer_of (whole is used) = Whole used (length is)

-- THE LENT TABLE. Four words for an item: its kind; the start and the length of its bytes; its number or count. Zero where it has none.
unfoldable pub item_words : Item → List ℕ
item_words (SimpleText start len) = 1 ∷ start ∷ len ∷ 0 ∷ []
item_words (ErrorText start len) = 2 ∷ start ∷ len ∷ 0 ∷ []
item_words (WholeNumber word) = 3 ∷ 0 ∷ 0 ∷ word ∷ []
item_words (BulkText start len) = 4 ∷ start ∷ len ∷ 0 ∷ []
item_words NoBulk = 5 ∷ 0 ∷ 0 ∷ 0 ∷ []
item_words NoArray = 6 ∷ 0 ∷ 0 ∷ 0 ∷ []
item_words (ArrayOf count) = 7 ∷ 0 ∷ 0 ∷ count ∷ []

unfoldable pub words_of : List Item → List ℕ
words_of [] = []
words_of (i ∷ is) = item_words i ++ words_of is

-- a table of `size` words: the items in front, and zeros behind them; without a whole reply all zero
unfoldable pub table_of : ℕ → ReplyReading → List ℕ
table_of size waits = replicate size 0
table_of size (faulty at) = replicate size 0
table_of size (returns k) = replicate size 0
table_of size (whole is used) = words_of is ++ replicate (size - 4 * length is) 0
