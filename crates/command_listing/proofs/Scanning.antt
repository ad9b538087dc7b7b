-- The laws of SCAN: skipping entries, the next cursor, the reply. Assumes nothing.
use mathlib.Core.Path.{◌≡◌, sym, ap, ◌∙◌}
use mathlib.Core.Bool.{cond}
use mathlib.Core.List.{List, [], ◌++◌, map, append_assoc, append-nil}
use Prim.Native.Nat.{ℕ, suc, ◌+◌, ◌-◌, ◌≤◌, ◌<◌}
use native.Mathlib.Decide.{dec_le}
use native.Mathlib.Omega.{arith}
use lib.Dec.{ltb}
use lib.ListN.{length, take, drop, length-drop, drop_of_length-le}
use lib.Seq.{drop-nil, drop-cons, drop-drop}
use borrow.Author.Tests.{lt-ltb, le-ltb}
use Rattle.base_key.specs.Bytes.{Bytes}
use Rattle.base_number.specs.Decimal.{digits}
use Rattle.base_writing.specs.Puts.{Puts, Adds}
use Rattle.base_writing.proofs.Puts.{then_puts, full_longer, same_text}
use Rattle.resp_spec.specs.Reply.{BulkString, array, items, count_items, head, encode, encode_all}
use Rattle.store_memtable.specs.Table.{Table}
use Rattle.store_memtable.specs.Versions.{table}
use Rattle.store_memtable.specs.Layout.{count_word}
use Rattle.store_memtable.specs.Rows.{versions_in, Valid}
use Rattle.store_memtable.specs.Walk.{entry_at, next_live}
use Rattle.command_spec.specs.Command.{SCAN, keep, key_reply, scanned, answer_listing}
use Rattle.command_spec.specs.Glob.{glob}
use Rattle.command_listing.specs.Rest.{rest, matching, keys_reply, SeenFrom, cursor_before}
use Rattle.command_listing.proofs.Matching.{seen_keys}
use Rattle.command_listing.proofs.Rests.{rest_all, rest_few, rest_none, rest_some, drop_first}
use Rattle.std.specs.Prelude.{Option, None, Some}

-- the walk at place i, with `left` of `count` entries still to be skipped
pub record Skipping (w b : List ℕ) (count i left : ℕ) : Type 0 where
  pub stop : drop left (rest w b i) ≡ drop count (rest w b 0)

module _ {w b : List ℕ} {count i left : ℕ} (k : Skipping w b count i left) where
  module _ {o : Option ℕ} (is : o ≡ next_live w b i (count_word w - i)) where
    pub skipping_more : {j left' : ℕ} → o ≡ Some j → 0 < left → left - 1 ≡ left' → Skipping w b count (j + 1) left'
    skipping_more {j} e h l = record {
      stop = ap (λ (n : ℕ). drop n (rest w b (j + 1))) (sym l) ∙ sym (drop_first h (entry_at w b j) (rest w b (j + 1))) ∙ ap (drop left) (sym (rest_some w b i is e)) ∙ k.stop;
    }

    pub skipping_over : o ≡ None → rest w b i ≡ drop count (rest w b 0)
    skipping_over e =
        let none = rest_none w b i is e in
        none ∙ sym (drop-nil left) ∙ ap (drop left) (sym none) ∙ k.stop

-- the next cursor, from what the walk finds
module _ (w b : List ℕ) (i end : ℕ) {o : Option ℕ} (is : o ≡ next_live w b i (count_word w - i)) where
  pub cursor_none : o ≡ None → 0 ≡ cursor_before (rest w b i) end
  unfolding cursor_before
  cursor_none e = ap (λ (t : Table). cursor_before t end) (sym (rest_none w b i is e))

  pub cursor_more : {j : ℕ} → o ≡ Some j → end ≡ cursor_before (rest w b i) end
  unfolding cursor_before
  cursor_more e = ap (λ (t : Table). cursor_before t end) (sym (rest_some w b i is e))

-- where an entry follows, the sum is below the number of entries
pub cursor_fits : (w b : List ℕ) (i from most : ℕ) {o : Option ℕ} {j : ℕ} → o ≡ next_live w b i (count_word w - i) → o ≡ Some j → rest w b i ≡ drop most (drop from (rest w b 0)) → from + most < count_word w
cursor_fits w b i from most {j = j} is e stop =
    let there : length (drop (from + most) (rest w b 0)) ≡ suc (length (rest w b (j + 1))) =
    ap length (sym (drop-drop most from (rest w b 0)) ∙ sym stop ∙ rest_some w b i is e) in
    omega (arith, there, length-drop (from + most) (rest w b 0), rest_few w b 0)

-- by how many entries there are
cursor_is : (n end : ℕ) (t : Table) → cursor_before (drop n t) end ≡ cond (ltb n (length t)) end 0
unfolding cursor_before
cursor_is n end t = go (dec_le (length t) n)
  where
    go : Dec (length t ≤ n) → cursor_before (drop n t) end ≡ cond (ltb n (length t)) end 0
    go (yes h) = rw (le-ltb n (length t) h, drop_of_length-le t {i = n} h)
    go (no h) = let l : n < length t = omega arith in rw (lt-ltb n (length t) l, drop-cons t n ([], []) l)

-- SCAN
module _ (w b p : List ℕ) (from most : ℕ) {at matched next follows : ℕ} (v : Valid w b)
    (skipped : rest w b at ≡ drop from (rest w b 0)) (seen : SeenFrom w b p at most matched next)
    (cursor : follows ≡ cursor_before (rest w b next) (from + most)) where
  follows_is : follows ≡ cond (ltb (from + most) (length (table (versions_in w b)))) (from + most) 0
  follows_is =
      cursor
      ∙ ap (λ (t : Table). cursor_before t (from + most)) (seen.stop ∙ ap (drop most) (skipped ∙ ap (drop from) (rest_all w b v)) ∙ drop-drop most from (table (versions_in w b)))
      ∙ cursor_is (from + most) (from + most) (table (versions_in w b))

  listed_is : take matched (matching p (rest w b at)) ≡ keep (glob p) (take most (drop from (table (versions_in w b))))
  unfolding matching
  listed_is = seen_keys seen ∙ ap (λ (t : Table). keep (glob p) (take most t)) (skipped ∙ ap (drop from) (rest_all w b v))

  text_is : encode (answer_listing (table (versions_in w b)) (SCAN from p most))
      ≡ (head 42 2 ++ encode (BulkString (digits follows))) ++ encode (keys_reply (take matched (matching p (rest w b at))))
  unfolding answer_listing scanned encode encode_all items count_items keys_reply
  text_is =
      (λ i. head 42 2 ++ (encode (BulkString (digits (sym follows_is i))) ++ (encode (array (map key_reply (sym listed_is i))) ++ [])))
      ∙ ap (λ (l : Bytes). head 42 2 ++ (encode (BulkString (digits follows)) ++ l)) (append-nil (encode (array (map key_reply (take matched (matching p (rest w b at)))))))
      ∙ sym (append_assoc (head 42 2) (encode (BulkString (digits follows))) (encode (array (map key_reply (take matched (matching p (rest w b at)))))))

  module _ {l0 l1 l2 : Bytes} {u1 u2 : Option ℕ} (x : Puts (head 42 2) l0 u1 l1) (y : Adds (encode (BulkString (digits follows))) u1 l1 u2 l2) where
    pub scan_full : u2 ≡ None → Puts (encode (answer_listing (table (versions_in w b)) (SCAN from p most))) l0 None l2
    scan_full told = full_longer (encode (keys_reply (take matched (matching p (rest w b at))))) text_is (then_puts x y) told

    pub scan_answer : {l3 : Bytes} {u3 : Option ℕ} → Adds (encode (keys_reply (take matched (matching p (rest w b at))))) u2 l2 u3 l3
        → Puts (encode (answer_listing (table (versions_in w b)) (SCAN from p most))) l0 u3 l3
    scan_answer z = same_text text_is (then_puts (then_puts x y) z)
