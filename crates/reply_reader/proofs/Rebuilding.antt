-- The items of a reply, with its bytes, tell the reply again; and what that says of the reader. Assumes nothing.
use mathlib.Core.Path.{◌≡◌, refl, sym, ap, ◌∙◌}
use mathlib.Core.List.{List, [], ◌∷◌, ◌++◌, map, append_assoc, append-nil}
use Prim.Native.Nat.{ℕ, zero, suc, ◌+◌, ◌*◌, ◌-◌, ◌/◌, ◌^◌, ◌≤◌, ◌<◌}
use native.Mathlib.Nat.{le-max_left, le-max_right}
use native.Mathlib.Omega.{arith}
use lib.IntN.{ℤ, pos, negsuc}
use lib.ListN.{length, take, drop, replicate, length-map}
use lib.Seq.{take_at}
use lib.Signed.{mag}
use borrow.Author.Tests.{lt-ltb, le-ltb}
use Rattle.base_key.specs.Bytes.{Bytes, part}
use Rattle.resp_spec.specs.Reply.{Reply, Items, Simple, Error, Integer, BulkString, Nil, NilArray, Array, no_more, item, clean, crlf, head, count_items, encode, encode_all, written, written_items, depth, depth_of}
use Rattle.reply_item.specs.declared.Item.{Item}
use Rattle.reply_item.specs.declared.ReplyRead.{ReplyRead}
use Rattle.reply_item.specs.Replies.{word_of, most_depth, whole, answer_of, words_of, table_of, read_reply}
use Rattle.reply_reader.specs.Table.{ReplyIs}
use Rattle.reply_reader.specs.Written.{Limited, AllLimited, longest_written, Within, ReadBack, items_of, items_of_all, items_told, integer_of, Rebuilt, reply, broken, replies, as_array, in_front, and_then, rebuild_all, rebuild_by, rebuild}
use Rattle.reply_reader.proofs.ReadBack.{behind, reply_back}
use Rattle.reply_reader.proofs.Tables.{items_told_lem}

-- a number by its word
number_again : (z : ℤ) → mag z < 2 ^ 63 → integer_of (word_of z) ≡ z
unfolding integer_of word_of
number_again (pos n) h = rw (lt-ltb n (2 ^ 63) h) refl
number_again (negsuc n) h =
    let high : 2 ^ 63 ≤ 2 ^ 64 - 1 - n = omega arith in
    let back : 2 ^ 64 - 1 - (2 ^ 64 - 1 - n) ≡ n = omega arith in
    rw (le-ltb (2 ^ 64 - 1 - n) (2 ^ 63) high) (ap negsuc back)

-- a text by its start and length
text_again : (input : Bytes) (start : ℕ) (text rest : Bytes) (len : ℕ) → length text ≡ len → drop start input ≡ text ++ rest → part start len input ≡ text
text_again input start text rest len size is = ap (take len) is ∙ take_at text rest len size

-- the same behind a line of one byte, and behind a head
line_again : (input : Bytes) (at b : ℕ) (text rest : Bytes) (len : ℕ) → length text ≡ len → drop at input ≡ (b ∷ text ++ crlf) ++ rest → part (at + 1) len input ≡ text
line_again input at b text rest len size is =
    let here : drop at input ≡ (b ∷ []) ++ (text ++ (crlf ++ rest)) = is ∙ ap (λ (l : Bytes). b ∷ l) (append_assoc text crlf rest) in
    text_again input (at + 1) text (crlf ++ rest) len size (behind input at (b ∷ []) (text ++ (crlf ++ rest)) 1 refl here)

bulk_again : (input : Bytes) (at : ℕ) (text rest : Bytes) → drop at input ≡ (head 36 (length text) ++ text ++ crlf) ++ rest → part (at + length (head 36 (length text))) (length text) input ≡ text
bulk_again input at text rest is =
    let front : Bytes = head 36 (length text) in
    let here : drop at input ≡ front ++ (text ++ (crlf ++ rest)) = is ∙ simp append_assoc in
    text_again input (at + length front) text (crlf ++ rest) (length text) refl (behind input at front (text ++ (crlf ++ rest)) (length front) refl here)

-- what is no array is told alike at every depth
at_depth : (depth : ℕ) (input : Bytes) (items : List Item) {q : Rebuilt} → ((array : ℕ → List Item → Rebuilt) → rebuild_by array input items ≡ q) → rebuild depth input items ≡ q
unfolding rebuild
at_depth zero input items any = any (λ count more. broken)
at_depth (suc depth) input items any = any (λ count more. as_array (rebuild_all (rebuild depth input) count more))

mutual
  unfolding encode items_of Limited depth count_items written rebuild_by rebuild rebuild_all as_array in_front and_then

  pub item_again : (d : ℕ) (r : Reply) (input : Bytes) (at : ℕ) (rest : Bytes) (more : List Item) → Limited longest_written r → depth r ≤ d → drop at input ≡ encode r ++ rest → rebuild d input (items_of at r ++ more) ≡ reply (written r) more
  item_again d (Simple text) input at rest more w deep is = at_depth d input (items_of at (Simple text) ++ more) (λ array. ap (λ (t : Bytes). reply (Simple t) more) (line_again input at 43 (map clean text) rest (length text) (length-map text clean) is))
  item_again d (Error text) input at rest more w deep is = at_depth d input (items_of at (Error text) ++ more) (λ array. ap (λ (t : Bytes). reply (Error t) more) (line_again input at 45 (map clean text) rest (length text) (length-map text clean) is))
  item_again d (Integer z) input at rest more w deep is = at_depth d input (items_of at (Integer z) ++ more) (λ array. ap (λ (i : ℤ). reply (Integer i) more) (number_again z w))
  item_again d (BulkString text) input at rest more w deep is = at_depth d input (items_of at (BulkString text) ++ more) (λ array. ap (λ (t : Bytes). reply (BulkString t) more) (bulk_again input at text rest is))
  item_again d Nil input at rest more w deep is = at_depth d input (items_of at Nil ++ more) (λ array. refl)
  item_again d NilArray input at rest more w deep is = at_depth d input (items_of at NilArray ++ more) (λ array. refl)
  item_again zero (Array is) input at rest more w deep e = absurd (omega arith)
  item_again (suc d) (Array is) input at rest more w deep e =
      let here : drop at input ≡ head 42 (count_items is) ++ (encode_all is ++ rest) = e ∙ append_assoc (head 42 (count_items is)) (encode_all is) rest in
      ap as_array (items_again d is input (at + length (head 42 (count_items is))) rest more w.1 (omega arith) (behind input at (head 42 (count_items is)) (encode_all is ++ rest) (length (head 42 (count_items is))) refl here))

  pub items_again : (d : ℕ) (is : Items) (input : Bytes) (at : ℕ) (rest : Bytes) (more : List Item) → AllLimited longest_written is → depth_of is ≤ d → drop at input ≡ encode_all is ++ rest → rebuild_all (rebuild d input) (count_items is) (items_of_all at is ++ more) ≡ replies (written_items is) more
  items_again d no_more input at rest more w deep e = refl
  items_again d (item r is) input at rest more w deep e =
      let left = le-max_left (depth r) (depth_of is) in
      let right = le-max_right (depth r) (depth_of is) in
      let mid : ℕ = at + length (encode r) in
      let here : drop at input ≡ encode r ++ (encode_all is ++ rest) = e ∙ append_assoc (encode r) (encode_all is) rest in
      let there : drop mid input ≡ encode_all is ++ rest = behind input at (encode r) (encode_all is ++ rest) (length (encode r)) refl here in
      ap (λ (l : List Item). and_then (rebuild d input l) (rebuild_all (rebuild d input) (count_items is))) (append_assoc (items_of at r) (items_of_all mid is) more)
      ∙ ap (λ (x : Rebuilt). and_then x (rebuild_all (rebuild d input) (count_items is))) (item_again d r input at (encode_all is ++ rest) (items_of_all mid is ++ more) w.0 (omega arith) here)
      ∙ ap (in_front (written r)) (items_again d is input mid rest more w.1 (omega arith) there)

pub reader_back : (r : Reply) (rest entry : List ℕ) {a : ReplyRead} {exit : List ℕ} → Within r → 4 * length (items_of 0 r) ≤ length entry → ReplyIs (encode r ++ rest) entry a exit → ReadBack r (encode r ++ rest) entry a exit
unfolding answer_of table_of
reader_back r rest entry {exit = exit} w room is =
    let reads : read_reply (length entry / 4) (encode r ++ rest) ≡ whole (items_of 0 r) (length (encode r)) = reply_back r rest (length entry / 4) w (omega arith) in
    let words : exit ≡ words_of (items_of 0 r) ++ replicate (length entry - 4 * length (items_of 0 r)) 0 = is.table ∙ ap (table_of (length entry)) reads in
    let told : items_told (length (items_of 0 r)) exit ≡ items_of 0 r = ap (items_told (length (items_of 0 r))) words ∙ items_told_lem (items_of 0 r) (replicate (length entry - 4 * length (items_of 0 r)) 0) in
    record {
      answer = is.answer ∙ ap answer_of reads;
      table = words;
      again = ap (rebuild most_depth (encode r ++ rest)) (told ∙ sym (append-nil (items_of 0 r))) ∙ item_again most_depth r (encode r ++ rest) 0 rest [] w.limits w.nesting refl;
    }
