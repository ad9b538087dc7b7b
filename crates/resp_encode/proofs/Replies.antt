-- The laws of `resp_encode`: each reply is written part by part, and an array item by item. Assumes nothing.
use mathlib.Core.Path.{◌≡◌, refl, sym, ap, ◌∙◌}
use mathlib.Core.List.{List, [], ◌∷◌, ◌++◌, append_assoc, append-nil}
use Prim.Native.Nat.{ℕ, suc}
use lib.ListN.{length}
use Rattle.base_key.specs.Bytes.{Bytes}
use lib.IntN.{ℤ}
use mir.Syntax.{w64}
use mir.Val.{SFits, to_z, of_z}
use mir.ValLaws.{to_z-of_z}
use Rattle.base_number.specs.Decimal.{digits, decimal}
use Rattle.base_writing.specs.Puts.{Puts, Adds}
use Rattle.base_writing.proofs.Puts.{then_puts, full_longer, same_text, same_added, Follows, follows_none, follows_more, then_follows, length_kept}
use Rattle.resp_spec.specs.Reply.{Reply, Integer, BulkString, crlf, head, count_items, items, array, encode, encode_all}
use Rattle.std.specs.Prelude.{Option, None}

-- A LINE: its mark, its body, its end
module _ {l0 l1 l2 l3 : Bytes} {u1 u2 u3 : Option ℕ} where
  -- the number as the machine reads it back from its bits
  pub write_int : (z : ℤ) → SFits w64 z → Puts (58 ∷ []) l0 u1 l1 → Adds (decimal (to_z w64 (of_z w64 z))) u1 l1 u2 l2 → Adds crlf u2 l2 u3 l3 → Puts (encode (Integer z)) l0 u3 l3
  unfolding encode
  write_int z fits a b c = then_puts (then_puts a (same_added (ap decimal (sym (to_z-of_z w64 z fits))) b)) c

  pub write_head : {kind : ℕ} (count : ℕ) → Puts (kind ∷ []) l0 u1 l1 → Adds (digits count) u1 l1 u2 l2 → Adds crlf u2 l2 u3 l3 → Puts (head kind count) l0 u3 l3
  unfolding head
  write_head count a b c = then_puts (then_puts a b) c

  pub write_bulk : (text : Bytes) → Puts (head 36 (length text)) l0 u1 l1 → Adds text u1 l1 u2 l2 → Adds crlf u2 l2 u3 l3 → Puts (encode (BulkString text)) l0 u3 l3
  unfolding encode
  write_bulk text a b c = then_puts (then_puts a b) c

  pub write_bulk_digits : (n : ℕ) {count : ℕ} → count ≡ length (digits n) → Puts (head 36 count) l0 u1 l1 → Adds (digits n) u1 l1 u2 l2 → Adds crlf u2 l2 u3 l3 → Puts (encode (BulkString (digits n))) l0 u3 l3
  write_bulk_digits n e a b c = write_bulk (digits n) (rw (← e) a) b c

-- AN ARRAY, whose items are written by a loop: `put` and `entry` are as the loop found them, behind the array's head, and the replies
-- `rest` are still to be written
pub record Listed (whole rest : List Reply) (put : Option ℕ) (entry : Bytes) (after : Option ℕ) (out : Bytes) : Type 0 where
  pub written : Bytes
  pub left : encode_all (items whole) ≡ written ++ encode_all (items rest)
  pub follows : Follows written put entry after out

pub listed_none : (whole : List Reply) (put : Option ℕ) (entry : Bytes) → Listed whole whole put entry put entry
listed_none whole put entry = record { written = []; left = refl; follows = follows_none put entry }

-- one more item
pub listed_more : {whole rest : List Reply} (r : Reply) {entry out exit : Bytes} {put next after : Option ℕ} → Listed whole (r ∷ rest) put entry next out → Adds (encode r) next out after exit → Listed whole rest put entry after exit
unfolding encode_all items
listed_more {rest = rest} r g a = record {
  written = g.written ++ encode r;
  left = g.left ∙ sym (append_assoc g.written (encode r) (encode_all (items rest)));
  follows = follows_more g.follows a refl;
}

-- and the buffer is as long as it was
pub listed_length : {whole rest : List Reply} {text start entry out : Bytes} {put after : Option ℕ} → Puts text start put entry → Listed whole rest put entry after out → length out ≡ length start
listed_length p g = length_kept (then_follows p g.follows)

counted : (rs : List Reply) → count_items (items rs) ≡ length rs
unfolding count_items items
counted [] = refl
counted (r ∷ rs) = ap suc (counted rs)

array_text : (whole : List Reply) {n : ℕ} → n ≡ length whole → encode (array whole) ≡ head 42 n ++ encode_all (items whole)
unfolding encode
array_text whole count = ap (λ (k : ℕ). head 42 k ++ encode_all (items whole)) (counted whole ∙ sym count)

-- behind a head that counts the items: those so far do not fit, or all are written
module _ (whole : List Reply) {n : ℕ} {start entry : Bytes} {put : Option ℕ} (count : n ≡ length whole) (p : Puts (head 42 n) start put entry) where
  pub listed_full : {out : Bytes} {after : Option ℕ} (rest : List Reply) → Listed whole rest put entry after out → after ≡ None → Puts (encode (array whole)) start None out
  listed_full rest g told =
      full_longer
      (encode_all (items rest))
      (array_text whole count ∙ ap (λ (l : Bytes). head 42 n ++ l) g.left ∙ sym (append_assoc (head 42 n) g.written (encode_all (items rest))))
      (then_follows p g.follows)
      told

  pub listed_all : {out : Bytes} {after : Option ℕ} → Listed whole [] put entry after out → Puts (encode (array whole)) start after out
  unfolding encode_all items
  listed_all g = same_text (array_text whole count ∙ ap (λ (l : Bytes). head 42 n ++ l) (g.left ∙ append-nil g.written)) (then_follows p g.follows)
