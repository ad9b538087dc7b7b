-- The parts of the bytes that the items of a reply tell lie in the bytes used, one behind the other. Assumes nothing.
use mathlib.Core.Path.{◌≡◌, refl, subst}
use mathlib.Core.Bool.{Bool, true, false, cond}
use mathlib.Core.List.{List, [], ◌∷◌, ◌++◌}
use Rattle.std.specs.Prelude.{Option, None, Some}
use Prim.Native.Nat.{ℕ, zero, suc, ◌+◌, ◌≤◌, ◌<◌}
use native.Mathlib.Omega.{arith}
use lib.Dec.{eqb, leb}
use lib.ListN.{length, take, drop, length-take}
use borrow.Author.Tests.{leb-true}
use Rattle.base_key.specs.Bytes.{Bytes}
use Rattle.base_number.specs.Number.{int_arg}
use Rattle.resp_spec.specs.declared.Header.TheVariants.{Multibulk, Bulk}
use Rattle.resp_spec.specs.Request.{Line, line, unfinished, too_long, feed_at, without_cr, line_at, line_of, most_line, begins_cr_lf}
use Rattle.reply_item.specs.declared.Item.{Item}
use Rattle.reply_item.specs.declared.Item.TheVariants.{SimpleText, ErrorText, WholeNumber, BulkText, NoBulk, NoArray, ArrayOf}
use Rattle.reply_item.specs.declared.Size.{Size}
use Rattle.reply_item.specs.declared.Size.TheVariants.{Of, Absent, NoSize}
use Rattle.reply_item.specs.declared.ItemLine.{ItemLine}
use Rattle.reply_item.specs.declared.ItemLine.TheVariants.{Complete, BulkFollows, ItemsFollow, Wrong}
use Rattle.reply_item.specs.Replies.{reply_size, number_line, bulk_line, array_line, item_line_of, ReplyReading, waits, faulty, whole, body_of, Inner, item_of, item_by_line, read_items, nested, too_deep, read_item, most_depth, read_reply}
use Rattle.reply_reader.specs.Written.{PartsIn}
use Rattle.reply_reader.proofs.Extending.{WhenWhole, of_wait, of_fault, of_number, of_whole, when_is, with_when, placed_when, followed_when}
use Rattle.std.specs.Prelude.{ℤ}

-- PARTS
parts_before : (is : List Item) (less from to : ℕ) → less ≤ from → PartsIn from to is → PartsIn less to is
unfolding PartsIn
parts_before [] less from to h p = tt
parts_before (SimpleText start len ∷ is) less from to h p = (omega (arith, p.0), p.1, p.2)
parts_before (ErrorText start len ∷ is) less from to h p = (omega (arith, p.0), p.1, p.2)
parts_before (WholeNumber word ∷ is) less from to h p = parts_before is less from to h p
parts_before (BulkText start len ∷ is) less from to h p = (omega (arith, p.0), p.1, p.2)
parts_before (NoBulk ∷ is) less from to h p = parts_before is less from to h p
parts_before (NoArray ∷ is) less from to h p = parts_before is less from to h p
parts_before (ArrayOf count ∷ is) less from to h p = parts_before is less from to h p

parts_append : (is js : List Item) (from mid to : ℕ) → from ≤ mid → mid ≤ to → PartsIn from mid is → PartsIn mid to js → PartsIn from to (is ++ js)
unfolding PartsIn
parts_append [] js from mid to h k p q = parts_before js from mid to h q
parts_append (SimpleText start len ∷ is) js from mid to h k p q = (p.0, omega (arith, p.1), parts_append is js (start + len) mid to p.1 k p.2 q)
parts_append (ErrorText start len ∷ is) js from mid to h k p q = (p.0, omega (arith, p.1), parts_append is js (start + len) mid to p.1 k p.2 q)
parts_append (WholeNumber word ∷ is) js from mid to h k p q = parts_append is js from mid to h k p q
parts_append (BulkText start len ∷ is) js from mid to h k p q = (p.0, omega (arith, p.1), parts_append is js (start + len) mid to p.1 k p.2 q)
parts_append (NoBulk ∷ is) js from mid to h k p q = parts_append is js from mid to h k p q
parts_append (NoArray ∷ is) js from mid to h k p q = parts_append is js from mid to h k p q
parts_append (ArrayOf count ∷ is) js from mid to h k p q = parts_append is js from mid to h k p q

-- A LINE has its text, which is at most as long as a line may be, in front of its LF
cr_shorter : (s : Bytes) → length (without_cr s) ≤ length s
unfolding without_cr
cr_shorter [] = omega arith
cr_shorter (b ∷ []) = go (eqb b 13)
  where
    go : (t : Bool) → length (cond t [] (b ∷ [])) ≤ 1
    go true = omega arith
    go false = omega arith
cr_shorter (b ∷ c ∷ s) = omega (arith, cr_shorter (c ∷ s))

pub record TextFits (text : Bytes) (used : ℕ) : Type 0 where
  pub inside : length text < used
  pub short : length text ≤ most_line

abbrev pub LineFits : Line → Type 0
LineFits unfinished = Unit {0}
LineFits too_long = Unit {0}
LineFits (line text used) = TextFits text used

pub line_fits : (s : Bytes) → LineFits (line_of s)
unfolding line_of line_at
line_fits s = go (feed_at s)
  where
    ending : (b : Bool) → LineFits (cond b unfinished too_long)
    ending true = tt
    ending false = tt

    found : (n : ℕ) (b : Bool) → leb n most_line ≡ b → LineFits (cond b (line (without_cr (take n s)) (suc n)) too_long)
    found n true e = record { inside = omega (arith, cr_shorter (take n s), length-take n s); short = omega (arith, leb-true n most_line e, cr_shorter (take n s), length-take n s) }
    found n false e = tt

    go : (o : Option ℕ) → LineFits (line_at o s)
    go None = ending (leb (length s) most_line)
    go (Some n) = found n (leb n most_line) refl

-- the part of an item that is complete with its line
abbrev LinePart : ℕ → ℕ → ItemLine → Type 0
LinePart at end Wrong = Unit {0}
LinePart at end (Complete i) = PartsIn at end (i ∷ [])
LinePart at end (BulkFollows size) = Unit {0}
LinePart at end (ItemsFollow count) = Unit {0}

module _ (at end : ℕ) where
  number_part : (n : Option ℤ) → LinePart at end (number_line n)
  unfolding number_line PartsIn
  number_part None = tt
  number_part (Some z) = tt

  bulk_part : (n : Size) → LinePart at end (bulk_line n)
  unfolding bulk_line PartsIn
  bulk_part NoSize = tt
  bulk_part Absent = tt
  bulk_part (Of n) = tt

  array_part : (n : Size) → LinePart at end (array_line n)
  unfolding array_line PartsIn
  array_part NoSize = tt
  array_part Absent = tt
  array_part (Of n) = tt

  line_part : (text : Bytes) → at + length text ≤ end → LinePart at end (item_line_of (at + 1) text)
  unfolding item_line_of PartsIn
  line_part [] h = tt
  line_part (b ∷ text) h = go (eqb b 43) (eqb b 45) (eqb b 58) (eqb b 36) (eqb b 42)
    where
      go : (plus minus colon dollar star : Bool) → LinePart at end (cond plus (Complete (SimpleText (at + 1) (length text))) (cond minus (Complete (ErrorText (at + 1) (length text))) (cond colon (number_line (int_arg text)) (cond dollar (bulk_line (reply_size Bulk text)) (cond star (array_line (reply_size Multibulk text)) Wrong)))))
      go true minus colon dollar star = (omega arith, omega arith, tt)
      go false true colon dollar star = (omega arith, omega arith, tt)
      go false false true dollar star = number_part (int_arg text)
      go false false false true star = bulk_part (reply_size Bulk text)
      go false false false false true = array_part (reply_size Multibulk text)
      go false false false false false = tt

-- EVERY READING: its parts lie behind `from` and before its end
record Lying (from end : ℕ) (is : List Item) : Type 0 where
  onward : from ≤ end
  parts : PartsIn from end is

abbrev Ordered : ℕ → ReplyReading → Type 0
Ordered from r = WhenWhole (λ is end. Lying from end is) r

ordered_before : {from : ℕ} {r : ReplyReading} (less : ℕ) → less ≤ from → Ordered from r → Ordered less r
ordered_before less h of_wait = of_wait
ordered_before less h of_fault = of_fault
ordered_before less h of_number = of_number
ordered_before {from} less h (of_whole {is} {end} o) = of_whole {is = is} {end = end} (record { onward = omega (arith, o.onward); parts = parts_before is less from end h o.parts })

body_ordered : (at start size : ℕ) (s : Bytes) → at < start → Ordered at (body_of at start size s)
unfolding body_of PartsIn
body_ordered at start size s h = go (leb (size + 2) (length s)) (begins_cr_lf (drop size s))
  where
    go : (long ends : Bool) → Ordered at (cond long (cond ends (whole (BulkText start size ∷ []) (start + size + 2)) (faulty at)) waits)
    go false ends = of_wait
    go true false = of_fault
    go true true = of_whole {is = BulkText start size ∷ []} {end = start + size + 2} (record { onward = omega arith; parts = (h, omega arith, tt) })

-- an item, whose array goes on by f
module _ (f : Inner) (places : ℕ) (input : Bytes) (inner : (count n end : ℕ) → Ordered end (f count n end)) (n at : ℕ) where
  item_of_ordered : (end : ℕ) → at < end → (l : ItemLine) → LinePart at end l → Ordered at (item_of f places input n at end l)
  unfolding item_of
  item_of_ordered end h Wrong p = of_fault
  item_of_ordered end h (Complete i) p = placed_when places n (λ room. of_whole {is = i ∷ []} {end = end} (record { onward = omega arith; parts = p }))
  item_of_ordered end h (BulkFollows size) p = placed_when places n (λ room. body_ordered at end size (drop end input) h)
  item_of_ordered end h (ItemsFollow count) p = ordered_before at (omega arith) (inner count n end)

  item_by_line_ordered : (l : Line) → LineFits l → Ordered at (item_by_line f places input n at l)
  unfolding item_by_line
  item_by_line_ordered unfinished h = of_wait
  item_by_line_ordered too_long h = of_fault
  item_by_line_ordered (line text used) h = item_of_ordered (at + used) (omega (arith, h)) (item_line_of (at + 1) text) (line_part at (at + used) text (omega (arith, h)))

module _ (one : ℕ → ℕ → ReplyReading) (each : (n at : ℕ) → Ordered at (one n at)) where
  items_ordered : (count n at : ℕ) → Ordered at (read_items one count n at)
  unfolding read_items PartsIn
  items_ordered zero n at = of_whole {is = []} {end = at} (record { onward = omega arith; parts = tt })
  items_ordered (suc count) n at =
      followed_when (λ many end. read_items one count (n + many) end) (each n at)
      (λ is end o. with_when is (λ js last u. record { onward = omega (arith, o.onward, u.onward); parts = parts_append is js at end last o.onward u.onward o.parts u.parts }) (items_ordered count (n + length is) end))

  nested_ordered : (places count n end : ℕ) → Ordered end (nested one places count n end)
  unfolding nested PartsIn
  nested_ordered places count n end = placed_when places n (λ room. with_when (ArrayOf count ∷ []) (λ js last o. record { onward = o.onward; parts = o.parts }) (items_ordered count (suc n) end))

deep_ordered : (count n end : ℕ) → Ordered end (too_deep count n end)
unfolding too_deep
deep_ordered count n end = of_number

item_ordered : (depth places : ℕ) (input : Bytes) (n at : ℕ) → Ordered at (read_item depth places input n at)
unfolding read_item
item_ordered zero places input n at = item_by_line_ordered too_deep places input deep_ordered n at (line_of (drop at input)) (line_fits (drop at input))
item_ordered (suc depth) places input n at =
    item_by_line_ordered (nested (read_item depth places input) places) places input (nested_ordered (read_item depth places input) (item_ordered depth places input) places) n at (line_of (drop at input)) (line_fits (drop at input))

-- THE THEOREM: the parts of a whole reply lie in the bytes used, one behind the other
pub whole_parts : (places : ℕ) (s : Bytes) {is : List Item} {used : ℕ} → read_reply places s ≡ whole is used → PartsIn 0 used is
unfolding read_reply
whole_parts places s {is} {used} e = let o : Lying 0 used is = when_is (subst (Ordered 0) e (item_ordered most_depth places s 0 0)) in o.parts
