-- What `encode` writes can be read back: a reader without limits, which gives any written reply with its texts as they were written. Assumes nothing.
use mathlib.Core.Path.{◌≡◌, refl, sym, ap, ◌∙◌}
use mathlib.Core.Bool.{Bool, true, false, cond, ◌||◌}
use mathlib.Core.List.{[], ◌∷◌, ◌++◌, map, append_assoc}
use Rattle.std.specs.Prelude.{Option, None, Some}
use Prim.Native.Nat.{ℕ, zero, suc, ◌+◌, ◌≤◌}
use native.Mathlib.Nat.{le-max_left, le-max_right}
use native.Mathlib.Omega.{arith}
use lib.Dec.{eqb}
use lib.IntN.{ℤ, pos, negsuc}
use lib.ListN.{length, take, drop}
use lib.Seq.{take-append_seam, drop-append-add}
use Rattle.base_key.specs.Bytes.{Bytes}
use Rattle.base_number.specs.Decimal.{digits, decimal}
use Rattle.base_number.specs.Number.{value_from, value_of}
use Rattle.base_number.proofs.RoundTrip.{value_back}
use Rattle.resp_spec.specs.Reply.{Reply, Simple, Error, Integer, BulkString, Nil, NilArray, Array, Items, no_more, item, clean, crlf, head, count_items, encode, encode_all, depth, depth_of, written, written_items}
use Rattle.resp_spec.proofs.ReplyTexts.{digits_clean, decimal_clean}

-- LINES
-- the bytes in front of the first CR (13), and those behind the byte that follows it
unfoldable cut : Bytes → Bytes × Bytes
cut [] = ([], [])
cut (b ∷ s) = elim (eqb b 13) [ true ↦ ([], drop 1 s) | false ↦ (b ∷ (cut s).0, (cut s).1) ]

clean_no_cr : (b : ℕ) → eqb (clean b) 13 ≡ false
clean_no_cr b = go (eqb b 13) (eqb b 10) refl
  where
    go : (cr lf : Bool) → eqb b 13 ≡ cr → eqb (cond (cr || lf) 32 b) 13 ≡ false
    go true lf e = refl
    go false true e = refl
    go false false e = e

-- a line is cut off, as it is written
cut_clean : (text x : Bytes) → cut (map clean text ++ crlf ++ x) ≡ (map clean text, x)
unfolding cut
cut_clean [] x = refl
cut_clean (b ∷ text) x = rw (clean_no_cr b, cut) (ap (λ (r : Bytes × Bytes). (clean b ∷ r.0, r.1)) (cut_clean text x))

cut_line : (text x : Bytes) → map clean text ≡ text → cut (text ++ crlf ++ x) ≡ (text, x)
cut_line text x e = rw e at (cut_clean text x)

-- NUMBERS, of any size
-- by the value of the text, or of what follows `-`
unfoldable any_integer : Option ℕ → Option ℕ → ℤ
any_integer (Some n) below = pos n
any_integer None None = pos 0
any_integer None (Some zero) = pos 0
any_integer None (Some (suc n)) = negsuc n

integer_back : (z : ℤ) → any_integer (value_of (decimal z)) (value_of (drop 1 (decimal z))) ≡ z
unfolding decimal any_integer value_of value_from
integer_back (pos n) = ap (λ (v : Option ℕ). any_integer v (value_of (drop 1 (digits n)))) (value_back n)
integer_back (negsuc n) = ap (any_integer None) (value_back (suc n))

-- REPLIES, by the length or the count, which `-1` is not
unfoldable any_bulk : Option ℕ → Bytes → Reply × Bytes
any_bulk None s = (Nil, s)
any_bulk (Some n) s = (BulkString (take n s), drop (n + 2) s)

unfoldable any_items : (Bytes → Reply × Bytes) → ℕ → Bytes → Items × Bytes
any_items read zero s = (no_more, s)
any_items read (suc n) s = let r = read s in let rs = any_items read n r.1 in (item r.0 rs.0, rs.1)

unfoldable any_array : (Bytes → Reply × Bytes) → Option ℕ → Bytes → Reply × Bytes
any_array read None s = (NilArray, s)
any_array read (Some n) s = let rs = any_items read n s in (Array rs.0, rs.1)

-- by the first byte, and its line
unfoldable any_of_kind : (Bytes → Reply × Bytes) → ℕ → Bytes × Bytes → Reply × Bytes
any_of_kind read kind l =
    cond (eqb kind 43) (Simple l.0, l.1)
    (cond (eqb kind 45) (Error l.0, l.1)
    (cond (eqb kind 58) (Integer (any_integer (value_of l.0) (value_of (drop 1 l.0))), l.1)
    (cond (eqb kind 36) (any_bulk (value_of l.0) l.1) (any_array read (value_of l.0) l.1))))

-- a reply whose arrays nest less deep than the first argument says; of other bytes it says anything
unfoldable read_any : ℕ → Bytes → Reply × Bytes
read_any zero s = (Nil, s)
read_any (suc d) [] = (Nil, [])
read_any (suc d) (b ∷ s) = any_of_kind (read_any d) b (cut s)

-- READING BACK
-- a line with a length or a count
count_line : (n : ℕ) (x : Bytes) → cut (digits n ++ crlf ++ x) ≡ (digits n, x)
count_line n x = cut_line (digits n) x (digits_clean n)

bulk_back : (text x : Bytes) → any_bulk (Some (length text)) (text ++ (crlf ++ x)) ≡ (BulkString text, x)
unfolding any_bulk
bulk_back text x = λ i. (BulkString (take-append_seam text (crlf ++ x) i), drop-append-add text (crlf ++ x) 2 i)

mutual
  unfolding encode head count_items depth written read_any any_of_kind any_bulk any_array any_items cut value_of value_from

  -- a reply, whatever follows it
  read_back : (p : Reply) (d : ℕ) → depth p ≤ d → (x : Bytes) → read_any (suc d) (encode p ++ x) ≡ (written p, x)
  read_back (Simple text) d h x = ap (any_of_kind (read_any d) 43) (cut_clean text x)
  read_back (Error text) d h x = ap (any_of_kind (read_any d) 45) (cut_clean text x)
  read_back (Integer z) d h x = ap (any_of_kind (read_any d) 58) (cut_line (decimal z) x (decimal_clean z)) ∙ ap (λ (w : ℤ). (Integer w, x)) (integer_back z)
  read_back (BulkString text) d h x =
      let n = length text in
      let rest = text ++ (crlf ++ x) in
      let parts : digits n ++ crlf ++ text ++ crlf ++ x ≡ digits n ++ crlf ++ rest = simp append_assoc in
      ap (any_of_kind (read_any d) 36) (ap cut parts ∙ count_line n rest) ∙ ap (λ (v : Option ℕ). any_bulk v rest) (value_back n) ∙ bulk_back text x
  read_back Nil d h x = refl
  read_back NilArray d h x = refl
  read_back (Array is) zero h x = absurd (omega arith)
  read_back (Array is) (suc d) h x =
      let n = count_items is in
      let rest = encode_all is ++ x in
      let parts : digits n ++ crlf ++ encode_all is ++ x ≡ digits n ++ crlf ++ rest = append_assoc (digits n ++ crlf) (encode_all is) x in
      ap (any_of_kind (read_any (suc d)) 42) (ap cut parts ∙ count_line n rest) ∙ ap (λ (v : Option ℕ). any_array (read_any (suc d)) v rest) (value_back n)
      ∙ ap (λ (r : Items × Bytes). (Array r.0, r.1)) (items_back is d (omega arith) x)

  items_back : (is : Items) (d : ℕ) → depth_of is ≤ d → (x : Bytes) → any_items (read_any (suc d)) (count_items is) (encode_all is ++ x) ≡ (written_items is, x)
  items_back no_more d h x = refl
  items_back (item r is) d h x =
      let left = le-max_left (depth r) (depth_of is) in
      let right = le-max_right (depth r) (depth_of is) in
      ap (any_items (read_any (suc d)) (suc (count_items is))) (append_assoc (encode r) (encode_all is) x)
      ∙ ap (λ (t : Reply × Bytes). let rs = any_items (read_any (suc d)) (count_items is) t.1 in (item t.0 rs.0, rs.1)) (read_back r d (omega arith) (encode_all is ++ x))
      ∙ ap (λ (t : Items × Bytes). (item (written r) t.0, t.1)) (items_back is d (omega arith) x)

-- so the bytes tell the first reply, as it is written, from what follows it
pub one_split : (p q : Reply) (x y : Bytes) → encode p ++ x ≡ encode q ++ y → (written p ≡ written q) × (x ≡ y)
one_split p q x y e =
    let d = depth p + depth q in
    let same : ◌≡◌ {A = Reply × Bytes} (written p, x) (written q, y) = sym (read_back p d (omega arith) x) ∙ ap (read_any (suc d)) e ∙ read_back q d (omega arith) y in
    (ap (λ r. r.0) same, ap (λ r. r.1) same)
