-- The laws of what the line of an item says: its lengths and counts, and its first byte. Assumes nothing.
use mathlib.Core.Path.{◌≡◌, refl, sym, ap, ◌∙◌}
use mathlib.Core.Bool.{Bool, true, false, ◌&&◌}
use mathlib.Core.List.{[], ◌∷◌}
use Prim.Native.Nat.{ℕ, ◌-◌, ◌≤◌, ◌<◌}
use native.Mathlib.Omega.{arith}
use lib.Dec.{eqb}
use Rattle.std.specs.Cmp.Lexicographic.{pointwise}
use Rattle.std.proofs.lemmas.List.{take_rest}
use lib.Seq.{drop-cons}
use lib.ListN.{length, take, drop, get_or}
use borrow.Author.Tests.{eq-eqb, ne_eqb}
use Rattle.base_key.specs.Bytes.{Bytes, same_bytes, ◌and◌}
use Rattle.base_number.specs.Number.{int_arg}
use Rattle.resp_spec.specs.declared.Header.{Header}
use Rattle.resp_spec.specs.declared.Header.TheVariants.{Multibulk, Bulk}
use Rattle.resp_spec.specs.declared.Fault.{Fault}
use Rattle.resp_spec.specs.Request.{header_of}
use Rattle.reply_item.specs.declared.Item.TheVariants.{SimpleText, ErrorText, NoBulk, NoArray}
use Rattle.reply_item.specs.declared.Size.{Size}
use Rattle.reply_item.specs.declared.Size.TheVariants.{Of, Absent, NoSize}
use Rattle.reply_item.specs.declared.ItemLine.{ItemLine}
use Rattle.reply_item.specs.declared.ItemLine.TheVariants.{Complete, BulkFollows, ItemsFollow, Wrong}
use Rattle.reply_item.specs.Replies.{number_line, counted_size, reply_size, bulk_line, array_line, item_line_of}
use Rattle.std.specs.Prelude.{Result, Ok, Err}

-- `==` compares as the definitions do
same_pointwise : (s t : Bytes) → pointwise eqb s t ≡ same_bytes s t
unfolding same_bytes ◌and◌
same_pointwise [] [] = refl
same_pointwise [] (y ∷ t) = refl
same_pointwise (x ∷ s) [] = refl
same_pointwise (x ∷ s) (y ∷ t) = go (eqb x y) (same_pointwise s t)
  where
    go : (b : Bool) → pointwise eqb s t ≡ same_bytes s t → (b && pointwise eqb s t) ≡ (b and same_bytes s t)
    go true e = e
    go false e = refl

-- A LENGTH OR A COUNT
module _ (kind : Header) (text : Bytes) {u : Bool} {minus : Bytes} (is : u ≡ pointwise eqb text minus) (word : minus ≡ 45 ∷ 49 ∷ []) where
  minus_one : same_bytes text (45 ∷ 49 ∷ []) ≡ u
  minus_one = sym (is ∙ same_pointwise text minus ∙ ap (same_bytes text) word)

  absent : (text : Bytes) → same_bytes text (45 ∷ 49 ∷ []) ≡ true → Absent ≡ reply_size kind text
  unfolding reply_size same_bytes
  absent [] e = let z : ◌≡◌ {A = ℕ} 0 1 = cc in absurd (omega arith)
  absent (b ∷ t) e = rw e refl

  plus : (text : Bytes) → same_bytes text (45 ∷ 49 ∷ []) ≡ false → get_or text 0 0 ≡ 43 → NoSize ≡ reply_size kind text
  unfolding reply_size
  plus [] e p = refl
  plus (b ∷ t) e p = rw (e, eq-eqb b 43 p) refl

  header : (text : Bytes) → 1 ≤ length text → same_bytes text (45 ∷ 49 ∷ []) ≡ false → (get_or text 0 0 ≡ 43 → ⊥) → counted_size (header_of kind 0 text) ≡ reply_size kind text
  unfolding reply_size
  header [] n e p = absurd (omega arith)
  header (b ∷ t) n e p = rw (e, ne_eqb b 43 p) refl

  none : (text : Bytes) → length text < 1 → NoSize ≡ reply_size kind text
  unfolding reply_size
  none [] h = refl
  none (b ∷ text) h = absurd (omega arith)

  pub size_absent : u ≡ true → Absent ≡ reply_size kind text
  size_absent e = absent text (minus_one ∙ e)

  pub size_none : length text < 1 → NoSize ≡ reply_size kind text
  size_none h = none text h

  module _ (e : u ≡ false) where
    pub size_plus : get_or text 0 0 ≡ 43 → NoSize ≡ reply_size kind text
    size_plus p = plus text (minus_one ∙ e) p

    module _ (some_byte : 1 ≤ length text) (other : get_or text 0 0 ≡ 43 → ⊥) {r : Result ℕ Fault} (h : r ≡ header_of kind 0 text) where
      pub size_counts : {n : ℕ} → r ≡ Ok n → Of n ≡ reply_size kind text
      unfolding counted_size
      size_counts c = sym (sym (header text some_byte (minus_one ∙ e) other) ∙ rw (← h, c) refl)

      pub size_wrong : {f : Fault} → r ≡ Err f → NoSize ≡ reply_size kind text
      unfolding counted_size
      size_wrong c = sym (sym (header text some_byte (minus_one ∙ e) other) ∙ rw (← h, c) refl)

-- BEHIND A `$` OR A `*`
module _ (text : Bytes) {s : Size} where
  pub bulk_of : {n : ℕ} → s ≡ reply_size Bulk text → s ≡ Of n → BulkFollows n ≡ bulk_line (reply_size Bulk text)
  unfolding bulk_line
  bulk_of is e = rw (← is, e) refl

  pub bulk_absent : s ≡ reply_size Bulk text → s ≡ Absent → Complete NoBulk ≡ bulk_line (reply_size Bulk text)
  unfolding bulk_line
  bulk_absent is e = rw (← is, e) refl

  pub bulk_wrong : s ≡ reply_size Bulk text → s ≡ NoSize → Wrong ≡ bulk_line (reply_size Bulk text)
  unfolding bulk_line
  bulk_wrong is e = rw (← is, e) refl

  pub array_of : {n : ℕ} → s ≡ reply_size Multibulk text → s ≡ Of n → ItemsFollow n ≡ array_line (reply_size Multibulk text)
  unfolding array_line
  array_of is e = rw (← is, e) refl

  pub array_absent : s ≡ reply_size Multibulk text → s ≡ Absent → Complete NoArray ≡ array_line (reply_size Multibulk text)
  unfolding array_line
  array_absent is e = rw (← is, e) refl

  pub array_wrong : s ≡ reply_size Multibulk text → s ≡ NoSize → Wrong ≡ array_line (reply_size Multibulk text)
  unfolding array_line
  array_wrong is e = rw (← is, e) refl

-- BY THE FIRST BYTE
module _ (from : ℕ) where
  other : (text : Bytes) → (get_or text 0 0 ≡ 43 → ⊥) → (get_or text 0 0 ≡ 45 → ⊥) → (get_or text 0 0 ≡ 58 → ⊥) → (get_or text 0 0 ≡ 36 → ⊥) → (get_or text 0 0 ≡ 42 → ⊥) → Wrong ≡ item_line_of from text
  unfolding item_line_of
  other [] p m c d a = refl
  other (b ∷ t) p m c d a = rw (ne_eqb b 43 p, ne_eqb b 45 m, ne_eqb b 58 c, ne_eqb b 36 d, ne_eqb b 42 a) refl

  pub first_none : (text : Bytes) → length text < 1 → Wrong ≡ item_line_of from text
  unfolding item_line_of
  first_none [] h = refl
  first_none (b ∷ text) h = absurd (omega arith)

  module _ (text : Bytes) (some_byte : 1 ≤ length text) where
    abbrev behind : Bytes
    behind = take (length text - 1) (drop 1 text)

    split : text ≡ get_or text 0 0 ∷ behind
    split = drop-cons text 0 0 some_byte ∙ rw take_rest refl

    pub first_simple : get_or text 0 0 ≡ 43 → Complete (SimpleText from (length behind)) ≡ item_line_of from text
    unfolding item_line_of
    first_simple e = sym (ap (item_line_of from) split ∙ rw e refl)

    pub first_error : get_or text 0 0 ≡ 45 → Complete (ErrorText from (length behind)) ≡ item_line_of from text
    unfolding item_line_of
    first_error e = sym (ap (item_line_of from) split ∙ rw e refl)

    module _ {r : ItemLine} where
      pub first_number_lem : get_or text 0 0 ≡ 58 → r ≡ number_line (int_arg behind) → r ≡ item_line_of from text
      unfolding item_line_of
      first_number_lem e is = is ∙ sym (ap (item_line_of from) split ∙ rw e refl)

      pub first_bulk : get_or text 0 0 ≡ 36 → r ≡ bulk_line (reply_size Bulk behind) → r ≡ item_line_of from text
      unfolding item_line_of
      first_bulk e is = is ∙ sym (ap (item_line_of from) split ∙ rw e refl)

      pub first_array : get_or text 0 0 ≡ 42 → r ≡ array_line (reply_size Multibulk behind) → r ≡ item_line_of from text
      unfolding item_line_of
      first_array e is = is ∙ sym (ap (item_line_of from) split ∙ rw e refl)

    pub first_other : (get_or text 0 0 ≡ 43 → ⊥) → (get_or text 0 0 ≡ 45 → ⊥) → (get_or text 0 0 ≡ 58 → ⊥) → (get_or text 0 0 ≡ 36 → ⊥) → (get_or text 0 0 ≡ 42 → ⊥) → Wrong ≡ item_line_of from text
    first_other p m c d a = other text p m c d a
