-- What a reply of the encoder is to the reader: its limits, and its items.
use Rattle.std.specs.Prelude.{ℕ, zero, suc, ◌+◌, ◌-◌, ◌*◌, ◌^◌, ◌≤◌, ◌<◌, cond, ◌≡◌, List, [], ◌∷◌, ◌++◌, ltb, eqb, ℤ, pos, negsuc, length, drop, get_or, replicate}
use Rattle.std.specs.Int.Signed.{mag}
use Rattle.base_key.specs.Bytes.{Bytes, part}
use Rattle.resp_spec.specs.Reply.{Reply, Items, Simple, Error, Integer, BulkString, Nil, NilArray, Array, no_more, item, head, count_items, encode, written, depth}
use Rattle.resp_spec.specs.declared.Header.TheVariants.{Multibulk, Bulk}
use Rattle.resp_spec.specs.Request.{most_line, limit_of}
use Rattle.reply_item.specs.declared.Item.{Item}
use Rattle.reply_item.specs.declared.Item.TheVariants.{SimpleText, ErrorText, WholeNumber, BulkText, NoBulk, NoArray, ArrayOf}
use Rattle.reply_item.specs.declared.ReplyRead.{ReplyRead}
use Rattle.reply_item.specs.declared.ReplyRead.TheVariants.{Whole}
use Rattle.reply_item.specs.Replies.{word_of, most_depth, words_of}

-- LIMITS. Simple and error texts have at most `longest` bytes; bulks, counts and numbers are within the limits of the request reader and i64.
unfoldable mutual
  pub Limited : ℕ → Reply → Type 0
  Limited longest (Simple text) = length text ≤ longest
  Limited longest (Error text) = length text ≤ longest
  Limited longest (Integer z) = mag z < 2 ^ 63
  Limited longest (BulkString text) = length text ≤ limit_of Bulk
  Limited longest Nil = Unit {0}
  Limited longest NilArray = Unit {0}
  Limited longest (Array is) = (count_items is ≤ limit_of Multibulk) × AllLimited longest is

  pub AllLimited : ℕ → Items → Type 0
  AllLimited longest no_more = Unit {0}
  AllLimited longest (item r is) = Limited longest r × AllLimited longest is

-- the longest text in a line: one byte stands in front of it, and LF may stand behind it at once
abbrev pub longest_read : ℕ
longest_read = most_line - 1

-- the longest text that the encoder may write, with CR before the LF
abbrev pub longest_written : ℕ
longest_written = most_line - 2

-- what is read back: within the limits, and arrays nest at most eight deep
pub record Within (r : Reply) : Type 0 where
  pub limits : Limited longest_written r
  pub nesting : depth r ≤ most_depth

-- ITEMS. Those of a reply whose bytes begin at `at`, in the order of their first bytes.
unfoldable mutual
  pub items_of : ℕ → Reply → List Item
  items_of at (Simple text) = SimpleText (at + 1) (length text) ∷ []
  items_of at (Error text) = ErrorText (at + 1) (length text) ∷ []
  items_of at (Integer z) = WholeNumber (word_of z) ∷ []
  items_of at (BulkString text) = BulkText (at + length (head 36 (length text))) (length text) ∷ []
  items_of at Nil = NoBulk ∷ []
  items_of at NilArray = NoArray ∷ []
  items_of at (Array is) = ArrayOf (count_items is) ∷ items_of_all (at + length (head 42 (count_items is))) is

  pub items_of_all : ℕ → Items → List Item
  items_of_all at no_more = []
  items_of_all at (item r is) = items_of at r ++ items_of_all (at + length (encode r)) is

-- THE ITEMS THAT THE WORDS OF A TABLE TELL. An item by its four words: kind, start and length, number or count; 5 is no bulk
unfoldable pub item_told : ℕ → ℕ → ℕ → ℕ → Item
item_told kind start len value =
    cond (eqb kind 1) (SimpleText start len)
    (cond (eqb kind 2) (ErrorText start len)
    (cond (eqb kind 3) (WholeNumber value)
    (cond (eqb kind 4) (BulkText start len)
    (cond (eqb kind 6) NoArray
    (cond (eqb kind 7) (ArrayOf value) NoBulk)))))

-- so many items from the front of the words
unfoldable pub items_told : ℕ → List ℕ → List Item
items_told zero words = []
items_told (suc n) words = item_told (get_or words 0 0) (get_or words 1 0) (get_or words 2 0) (get_or words 3 0) ∷ items_told n (drop 4 words)

-- THE REPLY AGAIN, from its items. The number of a word of 64 bits
unfoldable pub integer_of : ℕ → ℤ
integer_of word = cond (ltb word (2 ^ 63)) (pos word) (negsuc (2 ^ 64 - 1 - word))

-- a reply, or the items of an array, and the items of the table behind them; or none
pub data Rebuilt : Type 0 where
  reply : Reply → List Item → Rebuilt
  broken : Rebuilt

pub data RebuiltItems : Type 0 where
  replies : Items → List Item → RebuiltItems
  broken_items : RebuiltItems

unfoldable pub as_array : RebuiltItems → Rebuilt
as_array broken_items = broken
as_array (replies is more) = reply (Array is) more

unfoldable pub in_front : Reply → RebuiltItems → RebuiltItems
in_front r broken_items = broken_items
in_front r (replies is more) = replies (item r is) more

unfoldable pub and_then : Rebuilt → (List Item → RebuiltItems) → RebuiltItems
and_then broken next = broken_items
and_then (reply r more) next = in_front r (next more)

unfoldable pub rebuild_all : (List Item → Rebuilt) → ℕ → List Item → RebuiltItems
rebuild_all one zero items = replies no_more items
rebuild_all one (suc count) items = and_then (one items) (rebuild_all one count)

-- what the items in a table tell, with the bytes that they were read from; an array is told by `array`, from its count and what follows
unfoldable pub rebuild_by : (ℕ → List Item → Rebuilt) → Bytes → List Item → Rebuilt
rebuild_by array input [] = broken
rebuild_by array input (SimpleText start len ∷ more) = reply (Simple (part start len input)) more
rebuild_by array input (ErrorText start len ∷ more) = reply (Error (part start len input)) more
rebuild_by array input (WholeNumber word ∷ more) = reply (Integer (integer_of word)) more
rebuild_by array input (BulkText start len ∷ more) = reply (BulkString (part start len input)) more
rebuild_by array input (NoBulk ∷ more) = reply Nil more
rebuild_by array input (NoArray ∷ more) = reply NilArray more
rebuild_by array input (ArrayOf count ∷ more) = array count more

-- arrays nest at most `depth` deep
unfoldable pub rebuild : ℕ → Bytes → List Item → Rebuilt
rebuild zero input items = rebuild_by (λ count more. broken) input items
rebuild (suc depth) input items = rebuild_by (λ count more. as_array (rebuild_all (rebuild depth input) count more)) input items

-- READ-BACK: of the bytes of a reply, whatever follows them, it answers the bytes used and the count of items, leaves the items in the
-- table, and the words of the table tell the reply again
pub record ReadBack (r : Reply) (input entry : List ℕ) (a : ReplyRead) (exit : List ℕ) : Type 0 where
  pub answer : a ≡ Whole (length (encode r)) (length (items_of 0 r))
  pub table : exit ≡ words_of (items_of 0 r) ++ replicate (length entry - 4 * length (items_of 0 r)) 0
  pub again : rebuild most_depth input (items_told (length (items_of 0 r)) exit) ≡ reply (written r) []

-- THE PARTS of the bytes that items tell: each begins behind `from`, ends at `to` at most, and the next begins behind its end
unfoldable pub PartsIn : ℕ → ℕ → List Item → Type 0
PartsIn from to [] = Unit {0}
PartsIn from to (SimpleText start len ∷ is) = (from < start) × (start + len ≤ to) × PartsIn (start + len) to is
PartsIn from to (ErrorText start len ∷ is) = (from < start) × (start + len ≤ to) × PartsIn (start + len) to is
PartsIn from to (WholeNumber word ∷ is) = PartsIn from to is
PartsIn from to (BulkText start len ∷ is) = (from < start) × (start + len ≤ to) × PartsIn (start + len) to is
PartsIn from to (NoBulk ∷ is) = PartsIn from to is
PartsIn from to (NoArray ∷ is) = PartsIn from to is
PartsIn from to (ArrayOf count ∷ is) = PartsIn from to is

-- THE CONVERSE: items, with the bytes, tell a reply and are used up; it nests at most eight deep, has so many items, and is within the limits;
-- their parts lie in the bytes used
pub record Told (places : ℕ) (input : Bytes) (used : ℕ) (is : List Item) : Type 0 where
  pub told : Reply
  pub again : rebuild most_depth input is ≡ reply told []
  pub nesting : depth told ≤ most_depth
  pub many : length (items_of 0 told) ≡ length is
  pub room : length is ≤ places
  pub limits : Limited longest_read told
  pub inside : used ≤ length input
  pub parts : PartsIn 0 used is
