-- READING BACK. What the encoder wrote within the limits, the nesting and the item table is read back as the reply's items, and uses
-- the bytes that it wrote. Assumes nothing.
use mathlib.Core.Path.{◌≡◌, refl, sym, ap, ◌∙◌}
use mathlib.Core.List.{List, [], ◌∷◌, ◌++◌, map, append_assoc}
use Prim.Native.Nat.{ℕ, zero, suc, ◌+◌, ◌^◌, ◌≤◌, ◌<◌}
use native.Mathlib.Nat.{le-max_left, le-max_right}
use native.Mathlib.Omega.{arith}
use lib.IntN.{ℤ}
use lib.ListN.{length, drop, length-append, length-map}
use lib.Seq.{drop_at, drop-drop}
use lib.Signed.{mag}
use borrow.Author.Tests.{le-leb}
use Rattle.base_key.specs.Bytes.{Bytes, same_bytes, ◌and◌}
use Rattle.base_number.specs.Decimal.{digits, decimal}
use Rattle.base_number.proofs.Decimals.{digits_few, decimal_few}
use Rattle.base_number.proofs.RoundTrip.{read_back}
use Rattle.resp_spec.specs.declared.Header.TheVariants.{Multibulk, Bulk}
use Rattle.resp_spec.specs.Reply.{Reply, Items, Simple, Error, Integer, BulkString, Nil, NilArray, Array, no_more, item, clean, crlf, head, count_items, encode, encode_all, depth, depth_of}
use Rattle.resp_spec.specs.Request.{most_line, limit_of, line_of, begins_cr_lf}
use Rattle.reply_item.specs.declared.Item.{Item}
use Rattle.reply_item.specs.declared.Item.TheVariants.{SimpleText, ErrorText, WholeNumber, BulkText, NoBulk, NoArray, ArrayOf}
use Rattle.reply_item.specs.declared.ItemLine.{ItemLine}
use Rattle.reply_item.specs.declared.ItemLine.TheVariants.{Complete, BulkFollows, ItemsFollow}
use Rattle.reply_item.specs.Replies.{word_of, number_line, bulk_line, array_line, item_line_of, ReplyReading, whole, with_items, body_of, Inner, item_of, item_by_line, followed, read_items, nested, too_deep, read_item, read_reply, most_depth, reply_size}
use Rattle.reply_item.proofs.Standing.{has_place}
use Rattle.reply_reader.specs.Written.{Limited, AllLimited, longest_written, Within, items_of, items_of_all}
use Rattle.reply_reader.proofs.Texts.{Free, free_none, free_more, line_of_lem, free_clean, digital_digits, free_digital, free_decimal, size_back}

-- A LINE of the encoder
-- the item of a line `b text CR LF` is read by what its text says
line_item : (inner : Inner) (places : ℕ) (input : Bytes) (n at b : ℕ) (text rest : Bytes) → (b ≡ 10 → ⊥) → Free text → length text + 2 ≤ most_line → drop at input ≡ b ∷ text ++ 13 ∷ 10 ∷ rest → item_by_line inner places input n at (line_of (drop at input)) ≡ item_of inner places input n at (at + (length text + 3)) (item_line_of (at + 1) (b ∷ text))
unfolding item_by_line
line_item inner places input n at b text rest kind free h is =
    let used : suc (length text) + 2 ≡ length text + 3 = omega arith in
    let near : length (b ∷ text) + 1 ≤ most_line = omega arith in
    ap (λ (s : Bytes). item_by_line inner places input n at (line_of s)) is
    ∙ ap (item_by_line inner places input n at) (line_of_lem (b ∷ text) rest (free_more kind free) near)
    ∙ ap (λ (k : ℕ). item_of inner places input n at (at + k) (item_line_of (at + 1) (b ∷ text))) used

-- an item that is complete with its line
complete_item : (inner : Inner) (places : ℕ) (input : Bytes) (n at b : ℕ) (text rest : Bytes) (i : Item) → (b ≡ 10 → ⊥) → Free text → length text + 2 ≤ most_line → drop at input ≡ b ∷ text ++ 13 ∷ 10 ∷ rest → n < places → item_line_of (at + 1) (b ∷ text) ≡ Complete i → item_by_line inner places input n at (line_of (drop at input)) ≡ whole (i ∷ []) (at + (length text + 3))
unfolding item_of
complete_item inner places input n at b text rest i kind free h is room parsed =
    line_item inner places input n at b text rest kind free h is ∙ ap (item_of inner places input n at (at + (length text + 3))) parsed ∙ has_place (whole (i ∷ []) (at + (length text + 3))) room

-- what stands behind the front of the bytes at a place
pub behind : (input : Bytes) (at : ℕ) (front rest : Bytes) (k : ℕ) → length front ≡ k → drop at input ≡ front ++ rest → drop (at + k) input ≡ rest
behind input at front rest k size is = sym (drop-drop k at input) ∙ ap (drop k) is ∙ drop_at front rest k size

-- a line of the encoder, of the kind b, that is an item at every depth
line_back : (depth places : ℕ) (input : Bytes) (n at b : ℕ) (text rest : Bytes) (i : Item) → (b ≡ 10 → ⊥) → Free text → length text + 2 ≤ most_line → drop at input ≡ (b ∷ text ++ crlf) ++ rest → n < places → item_line_of (at + 1) (b ∷ text) ≡ Complete i → read_item depth places input n at ≡ whole (i ∷ []) (at + length (b ∷ text ++ crlf))
unfolding read_item
line_back depth places input n at b text rest i kind free h is room parsed =
    let here : drop at input ≡ b ∷ text ++ 13 ∷ 10 ∷ rest = is ∙ ap (λ (l : Bytes). b ∷ l) (append_assoc text crlf rest) in
    let size : at + (length text + 3) ≡ at + length (b ∷ text ++ crlf) = ap (λ (k : ℕ). at + k) (omega (arith, length-append text crlf)) in
    go depth (λ inner. complete_item inner places input n at b text rest i kind free h here room parsed ∙ ap (whole (i ∷ [])) size)
  where
    go : (d : ℕ) → ((inner : Inner) → item_by_line inner places input n at (line_of (drop at input)) ≡ whole (i ∷ []) (at + length (b ∷ text ++ crlf))) → read_item d places input n at ≡ whole (i ∷ []) (at + length (b ∷ text ++ crlf))
    go zero any = any too_deep
    go (suc d) any = any (nested (read_item d places input) places)

-- THE BYTES OF A BULK
body_back : (at start : ℕ) (text rest : Bytes) → body_of at start (length text) (text ++ 13 ∷ 10 ∷ rest) ≡ whole (BulkText start (length text) ∷ []) (start + length text + 2)
unfolding body_of begins_cr_lf
body_back at start text rest =
    let long : length text + 2 ≤ length (text ++ 13 ∷ 10 ∷ rest) = omega (arith, length-append text (13 ∷ 10 ∷ rest)) in
    rw (le-leb (length text + 2) (length (text ++ 13 ∷ 10 ∷ rest)) long, drop_at text (13 ∷ 10 ∷ rest) (length text) refl) refl

few : (n : ℕ) → n < 10 ^ 9 → length (digits n) + 2 ≤ most_line
few n h = let f = digits_few 8 n h in omega arith

bulk_line_lem : (from n : ℕ) → n ≤ limit_of Bulk → item_line_of from (36 ∷ digits n) ≡ BulkFollows n
unfolding item_line_of bulk_line
bulk_line_lem from n h = rw (size_back Bulk n h (omega arith)) refl

array_line_lem : (from n : ℕ) → n ≤ limit_of Multibulk → item_line_of from (42 ∷ digits n) ≡ ItemsFollow n
unfolding item_line_of array_line
array_line_lem from n h = rw (size_back Multibulk n h (omega arith)) refl

number_line_lem : (from : ℕ) (z : ℤ) → mag z < 2 ^ 63 → item_line_of from (58 ∷ decimal z) ≡ Complete (WholeNumber (word_of z))
unfolding item_line_of number_line
number_line_lem from z h = rw (read_back z h) refl

-- the line in front of a bulk or an array
head_item : (inner : Inner) (places : ℕ) (input : Bytes) (n at b count : ℕ) (rest : Bytes) (parsed : ItemLine) → (b ≡ 10 → ⊥) → count < 10 ^ 9 → drop at input ≡ head b count ++ rest → item_line_of (at + 1) (b ∷ digits count) ≡ parsed → item_by_line inner places input n at (line_of (drop at input)) ≡ item_of inner places input n at (at + length (head b count)) parsed
unfolding head
head_item inner places input n at b count rest parsed kind small is say =
    let here : drop at input ≡ b ∷ digits count ++ 13 ∷ 10 ∷ rest = is ∙ ap (λ (l : Bytes). b ∷ l) (append_assoc (digits count) crlf rest) in
    let size : at + (length (digits count) + 3) ≡ at + length (b ∷ digits count ++ crlf) = ap (λ (k : ℕ). at + k) (omega (arith, length-append (digits count) crlf)) in
    line_item inner places input n at b (digits count) rest kind (free_digital (digital_digits count)) (few count small) here
    ∙ (λ z. item_of inner places input n at (size z) (say z))

bulk_back : (depth places : ℕ) (input : Bytes) (n at : ℕ) (text rest : Bytes) → length text ≤ limit_of Bulk → drop at input ≡ (head 36 (length text) ++ text ++ crlf) ++ rest → n < places → read_item depth places input n at ≡ whole (BulkText (at + length (head 36 (length text))) (length text) ∷ []) (at + length (head 36 (length text) ++ text ++ crlf))
unfolding read_item item_of
bulk_back depth places input n at text rest h is room =
    let start : ℕ = at + length (head 36 (length text)) in
    let here : drop at input ≡ head 36 (length text) ++ (text ++ 13 ∷ 10 ∷ rest) = is ∙ simp append_assoc in
    let there : drop start input ≡ text ++ 13 ∷ 10 ∷ rest = behind input at (head 36 (length text)) (text ++ 13 ∷ 10 ∷ rest) (length (head 36 (length text))) refl here in
    let size : start + length text + 2 ≡ at + length (head 36 (length text) ++ text ++ crlf) = omega (arith, length-append (head 36 (length text) ++ text) crlf, length-append (head 36 (length text)) text) in
    go depth (λ inner.
    head_item inner places input n at 36 (length text) (text ++ 13 ∷ 10 ∷ rest) (BulkFollows (length text)) (λ e. omega (arith, e)) (omega arith) here (bulk_line_lem (at + 1) (length text) h)
    ∙ has_place (body_of at start (length text) (drop start input)) room
    ∙ ap (body_of at start (length text)) there
    ∙ body_back at start text rest
    ∙ ap (whole (BulkText start (length text) ∷ [])) size)
  where
    go : (d : ℕ) {q : ReplyReading} → ((inner : Inner) → item_by_line inner places input n at (line_of (drop at input)) ≡ q) → read_item d places input n at ≡ q
    go zero any = any too_deep
    go (suc d) any = any (nested (read_item d places input) places)

-- AN ARRAY
array_back : (depth places : ℕ) (input : Bytes) (n at count : ℕ) (rest : Bytes) (js : List Item) (end : ℕ) → count ≤ limit_of Multibulk → drop at input ≡ head 42 count ++ rest → n < places → read_items (read_item depth places input) count (suc n) (at + length (head 42 count)) ≡ whole js end → read_item (suc depth) places input n at ≡ whole (ArrayOf count ∷ js) end
unfolding read_item item_of nested with_items
array_back depth places input n at count rest js end h is room all =
    head_item (nested (read_item depth places input) places) places input n at 42 count rest (ItemsFollow count) (λ e. omega (arith, e)) (omega arith) is (array_line_lem (at + 1) count h)
    ∙ has_place (with_items (ArrayOf count ∷ []) (read_items (read_item depth places input) count (suc n) (at + length (head 42 count)))) room
    ∙ ap (with_items (ArrayOf count ∷ [])) all

more_back : (one : ℕ → ℕ → ReplyReading) (count n at : ℕ) (is js : List Item) (mid end : ℕ) → one n at ≡ whole is mid → read_items one count (n + length is) mid ≡ whole js end → read_items one (suc count) n at ≡ whole (is ++ js) end
unfolding read_items followed with_items
more_back one count n at is js mid end first all = rw first (ap (with_items is) all)

-- EVERY REPLY
mutual
  unfolding encode items_of Limited depth item_line_of count_items bulk_line array_line reply_size same_bytes ◌and◌ read_items

  pub item_back : (d : ℕ) (r : Reply) (places : ℕ) (input : Bytes) (n at : ℕ) (rest : Bytes) → Limited longest_written r → depth r ≤ d → drop at input ≡ encode r ++ rest → n + length (items_of at r) ≤ places → read_item d places input n at ≡ whole (items_of at r) (at + length (encode r))
  item_back d (Simple text) places input n at rest w deep is room =
      line_back d places input n at 43 (map clean text) rest (SimpleText (at + 1) (length text)) (λ e. omega (arith, e)) (free_clean text) (omega (arith, w, length-map text clean)) is (omega arith) (ap (λ (k : ℕ). Complete (SimpleText (at + 1) k)) (length-map text clean))
  item_back d (Error text) places input n at rest w deep is room =
      line_back d places input n at 45 (map clean text) rest (ErrorText (at + 1) (length text)) (λ e. omega (arith, e)) (free_clean text) (omega (arith, w, length-map text clean)) is (omega arith) (ap (λ (k : ℕ). Complete (ErrorText (at + 1) k)) (length-map text clean))
  item_back d (Integer z) places input n at rest w deep is room =
      line_back d places input n at 58 (decimal z) rest (WholeNumber (word_of z)) (λ e. omega (arith, e)) (free_decimal z) (omega (arith, decimal_few z w)) is (omega arith) (number_line_lem (at + 1) z w)
  item_back d (BulkString text) places input n at rest w deep is room = bulk_back d places input n at text rest w is (omega arith)
  item_back d Nil places input n at rest w deep is room =
      line_back d places input n at 36 (45 ∷ 49 ∷ []) rest NoBulk (λ e. omega (arith, e)) (free_more (λ e. omega (arith, e)) (free_more (λ e. omega (arith, e)) free_none)) (omega arith) is (omega arith) refl
  item_back d NilArray places input n at rest w deep is room =
      line_back d places input n at 42 (45 ∷ 49 ∷ []) rest NoArray (λ e. omega (arith, e)) (free_more (λ e. omega (arith, e)) (free_more (λ e. omega (arith, e)) free_none)) (omega arith) is (omega arith) refl
  item_back zero (Array is) places input n at rest w deep e room = absurd (omega arith)
  item_back (suc d) (Array is) places input n at rest w deep e room =
      let start : ℕ = at + length (head 42 (count_items is)) in
      let here : drop at input ≡ head 42 (count_items is) ++ (encode_all is ++ rest) = e ∙ append_assoc (head 42 (count_items is)) (encode_all is) rest in
      let there : drop start input ≡ encode_all is ++ rest = behind input at (head 42 (count_items is)) (encode_all is ++ rest) (length (head 42 (count_items is))) refl here in
      let size : start + length (encode_all is) ≡ at + length (head 42 (count_items is) ++ encode_all is) = omega (arith, length-append (head 42 (count_items is)) (encode_all is)) in
      array_back d places input n at (count_items is) (encode_all is ++ rest) (items_of_all start is) (at + length (head 42 (count_items is) ++ encode_all is)) w.0 here (omega arith)
      (items_back d is places input (suc n) start rest w.1 (omega arith) there (omega arith) ∙ ap (whole (items_of_all start is)) size)

  pub items_back : (d : ℕ) (is : Items) (places : ℕ) (input : Bytes) (n at : ℕ) (rest : Bytes) → AllLimited longest_written is → depth_of is ≤ d → drop at input ≡ encode_all is ++ rest → n + length (items_of_all at is) ≤ places → read_items (read_item d places input) (count_items is) n at ≡ whole (items_of_all at is) (at + length (encode_all is))
  items_back d no_more places input n at rest w deep is room = ap (whole []) (omega arith)
  items_back d (item r is) places input n at rest w deep e room =
      let left = le-max_left (depth r) (depth_of is) in
      let right = le-max_right (depth r) (depth_of is) in
      let mid : ℕ = at + length (encode r) in
      let many : length (items_of at r ++ items_of_all mid is) ≡ length (items_of at r) + length (items_of_all mid is) = length-append (items_of at r) (items_of_all mid is) in
      let here : drop at input ≡ encode r ++ (encode_all is ++ rest) = e ∙ append_assoc (encode r) (encode_all is) rest in
      let there : drop mid input ≡ encode_all is ++ rest = behind input at (encode r) (encode_all is ++ rest) (length (encode r)) refl here in
      let size : mid + length (encode_all is) ≡ at + length (encode r ++ encode_all is) = omega (arith, length-append (encode r) (encode_all is)) in
      more_back (read_item d places input) (count_items is) n at (items_of at r) (items_of_all mid is) mid (at + length (encode r ++ encode_all is))
      (item_back d r places input n at (encode_all is ++ rest) w.0 (omega arith) here (omega arith))
      (items_back d is places input (n + length (items_of at r)) mid rest w.1 (omega arith) there (omega arith) ∙ ap (whole (items_of_all mid is)) size)

-- THE THEOREM: a reply within the limits and nesting up to 8, whatever follows it, is read back from a table with a place for each item
pub reply_back : (r : Reply) (rest : Bytes) (places : ℕ) → Within r → length (items_of 0 r) ≤ places → read_reply places (encode r ++ rest) ≡ whole (items_of 0 r) (length (encode r))
unfolding read_reply
reply_back r rest places w room = item_back most_depth r places (encode r ++ rest) 0 0 rest w.limits w.nesting refl (omega arith) ∙ ap (whole (items_of 0 r)) (omega arith)
