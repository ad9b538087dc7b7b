-- What the steps of reading a reply leave in the lent table. The reply itself is defined in received/specs/Replies.antt.
use Rattle.std.specs.Prelude.{◌≡◌, List, ◌++◌, ◌⊎◌, ℕ, ◌+◌, ◌*◌, ◌/◌, ◌≤◌, ◌<◌, length, take, drop, replicate}
use Rattle.base_key.specs.Bytes.{Bytes}
use Rattle.reply_item.specs.declared.Item.{Item}
use Rattle.reply_item.specs.declared.ReplyRead.{ReplyRead}
use Rattle.reply_item.specs.declared.ReplyRead.TheVariants.{Wait, Whole, Fault, Refused}
use Rattle.reply_item.specs.Replies.{ReplyReading, waits, faulty, returns, whole, words_of, answer_of, table_of, read_reply}

-- the table has a place for item n
pub record PlaceIn (table : List ℕ) (n : ℕ) : Type 0 where
  pub inside : n < length table / 4

-- n items stand in the table, and `at` is a place in the bytes
pub record ItemsIn (input table : List ℕ) (n at : ℕ) : Type 0 where
  pub places : n ≤ length table / 4
  pub inside : at ≤ length input

-- the items stand from place n on; everything else of the table is as it was
pub record Standing (is : List Item) (n : ℕ) (entry exit : List ℕ) : Type 0 where
  pub room : n + length is ≤ length entry / 4
  pub same : exit ≡ take (4 * n) entry ++ (words_of is ++ drop (4 * (n + length is)) entry)

-- what is answered of items that follow n others
abbrev pub answer_from : ℕ → ReplyReading → ReplyRead
answer_from n waits = Wait
answer_from n (faulty at) = Fault at
answer_from n (returns k) = Refused k
answer_from n (whole is end) = Whole end (n + length is)

-- the count of items that stand in the table with an answer
unfoldable pub item_count : ReplyRead → ℕ
item_count Wait = 0
item_count (Fault at) = 0
item_count (Refused k) = 0
item_count (Whole end n) = n

-- the items of a reading that is whole
pub record WholeIn (input : Bytes) (is : List Item) (end n : ℕ) (entry exit : List ℕ) : Type 0 where
  pub standing : Standing is n entry exit
  pub inside : end ≤ length input

-- the answer is that of `reading`, whose items follow n others
pub record ItemsAre (reading : ReplyReading) (input : Bytes) (n : ℕ) (entry : List ℕ) (r : ReplyRead) (exit : List ℕ) : Type 0 where
  pub answer : r ≡ answer_from n reading
  pub items : (is : List Item) (end : ℕ) → reading ≡ whole is end → WholeIn input is end n entry exit

-- the reader's contract: its answer and the whole of the lent table are those of the definition
pub record ReplyIs (input entry : List ℕ) (r : ReplyRead) (exit : List ℕ) : Type 0 where
  pub answer : r ≡ answer_of (read_reply (length entry / 4) input)
  pub table : exit ≡ table_of (length entry) (read_reply (length entry / 4) input)

-- a number that is returned: no other than these, and the whole of the lent table is zero
pub record ReplyRefused (entry : List ℕ) (k : ℕ) (exit : List ℕ) : Type 0 where
  pub number : (k ≡ 11) ⊎ (k ≡ 12)
  pub zeros : exit ≡ replicate (length entry) 0
