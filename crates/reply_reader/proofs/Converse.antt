-- Whatever is read as whole tells a reply, by its items and the bytes. Assumes nothing.
use mathlib.Core.Path.{◌≡◌, refl, sym, ap, subst, ◌∙◌}
use mathlib.Core.Bool.{Bool, true, false, cond}
use mathlib.Core.List.{List, [], ◌∷◌, ◌++◌, append_assoc, append-nil}
use Rattle.std.specs.Prelude.{Option, None, Some}
use Prim.Native.Nat.{ℕ, zero, suc, ◌+◌, ◌-◌, ◌*◌, ◌/◌, ◌^◌, ◌≤◌, ◌<◌}
use native.Mathlib.Omega.{arith}
use lib.Dec.{eqb, leb, ltb}
use lib.ListN.{length, drop, replicate, length-append, length-take}
use lib.Signed.{mag}
use borrow.Author.Tests.{leb-true, ltb-true, ltb-false}
use Rattle.base_key.specs.Bytes.{Bytes, bytes, same_bytes, part}
use Rattle.base_number.specs.Number.{int_arg, length_of}
use Rattle.resp_spec.specs.declared.Header.{Header}
use Rattle.resp_spec.specs.declared.Header.TheVariants.{Multibulk, Bulk}
use Rattle.resp_spec.specs.declared.Fault.TheVariants.{NotText}
use Rattle.resp_spec.specs.Reply.{Reply, Items, Simple, Error, Integer, BulkString, Nil, NilArray, Array, no_more, item, head, count_items, encode, depth, depth_of}
use Rattle.resp_spec.specs.Request.{Line, line, unfinished, too_long, line_of, most_line, limit_of, span, header_within, header_of, begins_cr_lf}
use Rattle.resp_spec.specs.Utf8.{is_utf8}
use Rattle.reply_item.specs.declared.Item.{Item}
use Rattle.reply_item.specs.declared.Item.TheVariants.{SimpleText, ErrorText, WholeNumber, BulkText, NoBulk, NoArray, ArrayOf}
use Rattle.reply_item.specs.declared.Size.{Size}
use Rattle.reply_item.specs.declared.Size.TheVariants.{Of, Absent, NoSize}
use Rattle.reply_item.specs.declared.ItemLine.{ItemLine}
use Rattle.reply_item.specs.declared.ItemLine.TheVariants.{Complete, BulkFollows, ItemsFollow, Wrong}
use Rattle.reply_item.specs.declared.ReplyRead.TheVariants.{Whole}
use Rattle.reply_item.specs.Replies.{word_of, counted_size, reply_size, number_line, bulk_line, array_line, item_line_of, ReplyReading, waits, faulty, returns, whole, body_of, Inner, item_of, item_by_line, read_items, nested, too_deep, read_item, most_depth, read_reply, answer_of, words_of, table_of}
use Rattle.reply_reader.specs.Table.{ReplyIs}
use Rattle.reply_reader.specs.Written.{Limited, AllLimited, longest_read, Told, items_of, items_of_all, items_told, integer_of, Rebuilt, reply, broken, replies, as_array, in_front, and_then, rebuild_all, rebuild_by, rebuild}
use Rattle.reply_reader.proofs.Extending.{WhenWhole, of_wait, of_fault, of_number, of_whole, when_is, with_when, placed_when, followed_when, whole_inside}
use Rattle.reply_reader.proofs.InOrder.{LineFits, line_fits, whole_parts}
use Rattle.reply_reader.proofs.Tables.{items_told_lem, items_many}
use Rattle.std.specs.Prelude.{ℤ}
use Rattle.std.specs.Prelude.{Err}

-- AN ITEM that is no array tells a reply, at every depth
record Leaf (input : Bytes) (i : Item) : Type 0 where
  told : Reply
  again : (array : ℕ → List Item → Rebuilt) (more : List Item) → rebuild_by array input (i ∷ more) ≡ reply told more
  flat : depth told ≡ 0
  single : (at : ℕ) → length (items_of at told) ≡ 1
  limits : Limited longest_read told

part_short : (start len : ℕ) (input : Bytes) → length (part start len input) ≤ len
part_short start len input = omega (arith, length-take len (drop start input))

simple_leaf : (input : Bytes) (start len : ℕ) → len ≤ longest_read → Leaf input (SimpleText start len)
unfolding rebuild_by depth items_of Limited
simple_leaf input start len h = record { told = Simple (part start len input); again = λ array more. refl; flat = refl; single = λ at. refl; limits = omega (arith, part_short start len input) }

error_leaf : (input : Bytes) (start len : ℕ) → len ≤ longest_read → Leaf input (ErrorText start len)
unfolding rebuild_by depth items_of Limited
error_leaf input start len h = record { told = Error (part start len input); again = λ array more. refl; flat = refl; single = λ at. refl; limits = omega (arith, part_short start len input) }

bulk_leaf : (input : Bytes) (start len : ℕ) → len ≤ limit_of Bulk → Leaf input (BulkText start len)
unfolding rebuild_by depth items_of Limited
bulk_leaf input start len h = record { told = BulkString (part start len input); again = λ array more. refl; flat = refl; single = λ at. refl; limits = omega (arith, part_short start len input) }

number_short : (word : ℕ) → mag (integer_of word) < 2 ^ 63
unfolding integer_of
number_short word = go (ltb word (2 ^ 63)) refl
  where
    go : (b : Bool) → ltb word (2 ^ 63) ≡ b → mag (integer_of word) < 2 ^ 63
    go true e = rw e (ltb-true word (2 ^ 63) e)
    go false e = let high : 2 ^ 63 ≤ word = ltb-false word (2 ^ 63) e in rw e (omega arith)

number_leaf : (input : Bytes) (word : ℕ) → Leaf input (WholeNumber word)
unfolding rebuild_by depth items_of Limited
number_leaf input word = record { told = Integer (integer_of word); again = λ array more. refl; flat = refl; single = λ at. refl; limits = number_short word }

no_bulk_leaf : (input : Bytes) → Leaf input NoBulk
unfolding rebuild_by depth items_of Limited
no_bulk_leaf input = record { told = Nil; again = λ array more. refl; flat = refl; single = λ at. refl; limits = tt }

no_array_leaf : (input : Bytes) → Leaf input NoArray
unfolding rebuild_by depth items_of Limited
no_array_leaf input = record { told = NilArray; again = λ array more. refl; flat = refl; single = λ at. refl; limits = tt }

-- A LENGTH OR A COUNT is within its limit
data Sized (h : Header) : Size → Type 0 where
  sized_none : Sized h NoSize
  sized_absent : Sized h Absent
  sized_of : {n : ℕ} → n ≤ limit_of h → Sized h (Of n)

header_sized : (h : Header) (start : ℕ) (text : Bytes) → Sized h (counted_size (header_of h start text))
unfolding header_of header_within counted_size
header_sized h start text = go (is_utf8 text) (length_of text)
  where
    within : (n : ℕ) (b : Bool) → leb n (limit_of h) ≡ b → Sized h (counted_size (header_within h (span start (length text)) (Some n)))
    within n true e = rw e (sized_of (leb-true n (limit_of h) e))
    within n false e = rw e sized_none

    go : (b : Bool) (l : Option ℕ) → Sized h (counted_size (cond b (header_within h (span start (length text)) l) (Err (NotText h))))
    go false l = sized_none
    go true None = sized_none
    go true (Some n) = within n (leb n (limit_of h)) refl

reply_sized : (h : Header) (text : Bytes) → Sized h (reply_size h text)
unfolding reply_size
reply_sized h [] = sized_none
reply_sized h (b ∷ text) = go (same_bytes (b ∷ text) (bytes "-1")) (eqb b 43)
  where
    go : (absent plus : Bool) → Sized h (cond absent Absent (cond plus NoSize (counted_size (header_of h 0 (b ∷ text)))))
    go true plus = sized_absent
    go false true = sized_none
    go false false = header_sized h 0 (b ∷ text)

-- WHAT A LINE SAYS
data Says (input : Bytes) : ItemLine → Type 0 where
  says_wrong : Says input Wrong
  says_item : {i : Item} → Leaf input i → Says input (Complete i)
  says_bulk : {size : ℕ} → size ≤ limit_of Bulk → Says input (BulkFollows size)
  says_items : {count : ℕ} → count ≤ limit_of Multibulk → Says input (ItemsFollow count)

module _ (input : Bytes) where
  number_says : (n : Option ℤ) → Says input (number_line n)
  unfolding number_line
  number_says None = says_wrong
  number_says (Some z) = says_item (number_leaf input (word_of z))

  bulk_says : {n : Size} → Sized Bulk n → Says input (bulk_line n)
  unfolding bulk_line
  bulk_says sized_none = says_wrong
  bulk_says sized_absent = says_item (no_bulk_leaf input)
  bulk_says (sized_of h) = says_bulk h

  array_says : {n : Size} → Sized Multibulk n → Says input (array_line n)
  unfolding array_line
  array_says sized_none = says_wrong
  array_says sized_absent = says_item (no_array_leaf input)
  array_says (sized_of h) = says_items h

  line_says : (from : ℕ) (text : Bytes) → length text ≤ most_line → Says input (item_line_of from text)
  unfolding item_line_of
  line_says from [] h = says_wrong
  line_says from (b ∷ text) h = go (eqb b 43) (eqb b 45) (eqb b 58) (eqb b 36) (eqb b 42)
    where
      go : (plus minus colon dollar star : Bool) → Says input (cond plus (Complete (SimpleText from (length text))) (cond minus (Complete (ErrorText from (length text))) (cond colon (number_line (int_arg text)) (cond dollar (bulk_line (reply_size Bulk text)) (cond star (array_line (reply_size Multibulk text)) Wrong)))))
      go true minus colon dollar star = says_item (simple_leaf input from (length text) (omega arith))
      go false true colon dollar star = says_item (error_leaf input from (length text) (omega arith))
      go false false true dollar star = number_says (int_arg text)
      go false false false true star = bulk_says (reply_sized Bulk text)
      go false false false false true = array_says (reply_sized Multibulk text)
      go false false false false false = says_wrong

-- THE ITEMS OF A READING tell a reply, whatever stands behind them; n items stand before them
record Tells (d : ℕ) (input : Bytes) (places n : ℕ) (is : List Item) : Type 0 where
  told : Reply
  again : (more : List Item) → rebuild d input (is ++ more) ≡ reply told more
  deep : depth told ≤ d
  many : (at : ℕ) → length (items_of at told) ≡ length is
  room : n + length is ≤ places
  limits : Limited longest_read told

-- `count` replies
record TellsAll (d : ℕ) (input : Bytes) (places n count : ℕ) (is : List Item) : Type 0 where
  told : Items
  again : (more : List Item) → rebuild_all (rebuild d input) count (is ++ more) ≡ replies told more
  deep : depth_of told ≤ d
  many : (at : ℕ) → length (items_of_all at told) ≡ length is
  room : n + length is ≤ places
  counted : count_items told ≡ count
  limits : AllLimited longest_read told

leaf_again : (d : ℕ) (input : Bytes) {i : Item} (l : Leaf input i) (more : List Item) → rebuild d input (i ∷ more) ≡ reply l.told more
unfolding rebuild
leaf_again zero input l more = l.again (λ count rest. broken) more
leaf_again (suc d) input l more = l.again (λ count rest. as_array (rebuild_all (rebuild d input) count rest)) more

leaf_tells : (d : ℕ) (input : Bytes) (places n : ℕ) {i : Item} → Leaf input i → n < places → Tells d input places n (i ∷ [])
leaf_tells d input places n l h =
    record {
      told = l.told;
      again = leaf_again d input l;
      deep = omega (arith, l.flat);
      many = l.single;
      room = omega arith;
      limits = l.limits;
    }

array_tells : (d : ℕ) (input : Bytes) (places n count : ℕ) (is : List Item) → count ≤ limit_of Multibulk → TellsAll d input places (suc n) count is → Tells (suc d) input places n (ArrayOf count ∷ is)
unfolding rebuild rebuild_by as_array depth items_of Limited
array_tells d input places n count is h t =
    record {
      told = Array t.told;
      again = λ more. ap as_array (t.again more);
      deep = omega (arith, t.deep);
      many = λ at. ap suc (t.many (at + length (head 42 (count_items t.told))));
      room = omega (arith, t.room);
      limits = (omega (arith, t.counted), t.limits);
    }

none_tells : (d : ℕ) (input : Bytes) (places n : ℕ) → n ≤ places → TellsAll d input places n 0 []
unfolding rebuild_all depth_of items_of_all count_items AllLimited
none_tells d input places n h = record { told = no_more; again = λ more. refl; deep = omega arith; many = λ at. refl; room = omega arith; counted = refl; limits = tt }

more_tells : (d : ℕ) (input : Bytes) (places n count : ℕ) (is js : List Item) → Tells d input places n is → TellsAll d input places (n + length is) count js → TellsAll d input places n (suc count) (is ++ js)
unfolding rebuild_all and_then in_front depth_of items_of_all count_items AllLimited
more_tells d input places n count is js t u =
    record {
      told = item t.told u.told;
      again = λ more.
          ap (λ (l : List Item). and_then (rebuild d input l) (rebuild_all (rebuild d input) count)) (append_assoc is js more)
          ∙ ap (λ (x : Rebuilt). and_then x (rebuild_all (rebuild d input) count)) (t.again (js ++ more))
          ∙ ap (in_front t.told) (u.again more);
      deep = omega (arith, t.deep, u.deep);
      many = λ at.
          let mid : ℕ = at + length (encode t.told) in
          length-append (items_of at t.told) (items_of_all mid u.told) ∙ (λ z. t.many at z + u.many mid z) ∙ sym (length-append is js);
      room = omega (arith, u.room, length-append is js);
      counted = ap suc u.counted;
      limits = (t.limits, u.limits);
    }

-- EVERY READING
abbrev Telling : ℕ → Bytes → ℕ → ℕ → ReplyReading → Type 0
Telling d input places n r = WhenWhole (λ is end. Tells d input places n is) r

abbrev TellingAll : ℕ → Bytes → ℕ → ℕ → ℕ → ReplyReading → Type 0
TellingAll d input places n count r = WhenWhole (λ is end. TellsAll d input places n count is) r

body_tells : (d : ℕ) (input : Bytes) (places n at start size : ℕ) (s : Bytes) → size ≤ limit_of Bulk → n < places → Telling d input places n (body_of at start size s)
unfolding body_of
body_tells d input places n at start size s h room = go (leb (size + 2) (length s)) (begins_cr_lf (drop size s))
  where
    go : (long ends : Bool) → Telling d input places n (cond long (cond ends (whole (BulkText start size ∷ []) (start + size + 2)) (faulty at)) waits)
    go false ends = of_wait
    go true false = of_fault
    go true true = of_whole (leaf_tells d input places n (bulk_leaf input start size h) room)

-- an item, whose array goes on by f
module _ (d : ℕ) (f : Inner) (places : ℕ) (input : Bytes) (inner : (count n end : ℕ) → count ≤ limit_of Multibulk → Telling d input places n (f count n end)) (n at : ℕ) where
  item_of_tells : (end : ℕ) {l : ItemLine} → Says input l → Telling d input places n (item_of f places input n at end l)
  unfolding item_of
  item_of_tells end says_wrong = of_fault
  item_of_tells end (says_item l) = placed_when places n (λ room. of_whole (leaf_tells d input places n l room))
  item_of_tells end (says_bulk {size} h) = placed_when places n (body_tells d input places n at end size (drop end input) h)
  item_of_tells end (says_items {count} h) = inner count n end h

  item_by_line_tells : (l : Line) → LineFits l → Telling d input places n (item_by_line f places input n at l)
  unfolding item_by_line
  item_by_line_tells unfinished h = of_wait
  item_by_line_tells too_long h = of_fault
  item_by_line_tells (line text used) h = item_of_tells (at + used) (line_says input (at + 1) text h.short)

module _ (d : ℕ) (input : Bytes) (places : ℕ) (each : (n at : ℕ) → Telling d input places n (read_item d places input n at)) where
  items_tell : (count n at : ℕ) → n ≤ places → TellingAll d input places n count (read_items (read_item d places input) count n at)
  unfolding read_items
  items_tell zero n at h = of_whole (none_tells d input places n h)
  items_tell (suc count) n at h =
      followed_when (λ many end. read_items (read_item d places input) count (n + many) end) (each n at)
      (λ is end t. with_when is (λ js last u. more_tells d input places n count is js t u) (items_tell count (n + length is) end t.room))

  nested_tells : (count n end : ℕ) → count ≤ limit_of Multibulk → Telling (suc d) input places n (nested (read_item d places input) places count n end)
  unfolding nested
  nested_tells count n end h = placed_when places n (λ room. with_when (ArrayOf count ∷ []) (λ js last t. array_tells d input places n count js h t) (items_tell count (suc n) end room))

deep_tells : (input : Bytes) (places count n end : ℕ) → Telling 0 input places n (too_deep count n end)
unfolding too_deep
deep_tells input places count n end = of_number

item_tells : (d places : ℕ) (input : Bytes) (n at : ℕ) → Telling d input places n (read_item d places input n at)
unfolding read_item
item_tells zero places input n at = item_by_line_tells 0 too_deep places input (λ count n end h. deep_tells input places count n end) n at (line_of (drop at input)) (line_fits (drop at input))
item_tells (suc d) places input n at =
    item_by_line_tells (suc d) (nested (read_item d places input) places) places input (nested_tells d input places (item_tells d places input)) n at (line_of (drop at input)) (line_fits (drop at input))

pub whole_tells : (places : ℕ) (input : Bytes) {is : List Item} {used : ℕ} → read_reply places input ≡ whole is used → Told places input used is
unfolding read_reply
whole_tells places input {is} {used} e =
    let t : Tells most_depth input places 0 is = when_is (subst (Telling most_depth input places 0) e (item_tells most_depth places input 0 0)) in
    record {
      told = t.told;
      again = ap (rebuild most_depth input) (sym (append-nil is)) ∙ t.again [];
      nesting = t.deep;
      many = t.many 0;
      room = omega (arith, t.room);
      limits = t.limits;
      inside = whole_inside places input e;
      parts = whole_parts places input e;
    }

-- WHAT THE CODE LEAVES in the lent table: the words of its items, which tell a reply
module _ {input entry exit : List ℕ} {used n : ℕ} (is : ReplyIs input entry (Whole used n) exit) where
  items_read : read_reply (length entry / 4) input ≡ whole (items_told n exit) used
  unfolding answer_of table_of
  items_read = go (read_reply (length entry / 4) input) refl is.answer
    where
      go : (r : ReplyReading) → read_reply (length entry / 4) input ≡ r → Whole used n ≡ answer_of r → read_reply (length entry / 4) input ≡ whole (items_told n exit) used
      go waits e a = let z : ◌≡◌ {A = ℕ} 0 1 = cc in absurd (omega arith)
      go (faulty at) e a = let z : ◌≡◌ {A = ℕ} 0 1 = cc in absurd (omega arith)
      go (returns k) e a = let z : ◌≡◌ {A = ℕ} 0 1 = cc in absurd (omega arith)
      go (whole js end) e a =
          let ends : end ≡ used = cc in
          let many : n ≡ length js = cc in
          let words : exit ≡ words_of js ++ replicate (length entry - 4 * length js) 0 = is.table ∙ ap (table_of (length entry)) e in
          let told : items_told n exit ≡ js = (λ z. items_told (many z) (words z)) ∙ items_told_lem js (replicate (length entry - 4 * length js) 0) in
          e ∙ (λ z. whole (sym told z) (ends z))

  pub reader_tells : Told (length entry / 4) input used (items_told n exit)
  reader_tells = whole_tells (length entry / 4) input items_read

  -- and nothing else stands in the table
  pub table_tells : exit ≡ words_of (items_told n exit) ++ replicate (length entry - 4 * n) 0
  unfolding table_of
  table_tells = is.table ∙ ap (table_of (length entry)) items_read ∙ ap (λ (k : ℕ). words_of (items_told n exit) ++ replicate (length entry - 4 * k) 0) (items_many n exit)
