-- A valid store is the encoding of its versions. Assumes nothing.
use mathlib.Core.Path.{◌≡◌, refl, sym, ap, ◌∙◌}
use mathlib.Core.Bool.{true}
use mathlib.Core.List.{List, [], ◌∷◌, ◌++◌, append_assoc}
use Prim.Native.Nat.{ℕ, zero, suc, ◌+◌, ◌-◌, ◌*◌, ◌≤◌, ◌<◌}
use native.Mathlib.Nat.{add-zero, zero-add}
use native.Mathlib.Numerals.{add-one, add-two, add-three, add-four}
use native.Mathlib.Omega.{arith}
use lib.ListN.{length, get_or, take, drop, length-append, length-drop, take-append-drop}
use lib.Seq.{drop-cons, drop-drop, take_at, get_or_at, get_or-drop, length-take-le}
use borrow.Author.Tests.{eqb-true}
use Rattle.base_key.specs.Bytes.{over_front}
use Rattle.store_memtable.specs.Versions.{Version, Store, bytes_of, versions_size}
use Rattle.store_memtable.specs.Layout.{count_word, used_word, start_word, key_word, value_word, seq_word, end_word, value_of_word, version_at, versions_from, chain_ok, valid_store, word_of_value, row_words, version_bytes, store_words, leave_words}
use Rattle.store_memtable.specs.Rows.{versions_in}
use Rattle.store_memtable.specs.Moves.{shift_rows}
use Rattle.store_memtable.proofs.Rows.{length_versions}
use Rattle.store_memtable.proofs.Validity.{RowFacts, chain_row, chain_rest, valid_header, valid_chain}

drop_four : (f : ℕ) (l : List ℕ) → f + 4 ≤ length l → drop f l ≡ get_or l f 0 ∷ get_or l (f + 1) 0 ∷ get_or l (f + 2) 0 ∷ get_or l (f + 3) 0 ∷ drop (f + 4) l
drop_four f l h = rw (add-one, add-two, add-three, add-four)
    (drop-cons l f 0 (omega arith)
    ∙ ap (λ (x : List ℕ). get_or l f 0 ∷ x) (drop-cons l (suc f) 0 (omega arith))
    ∙ ap (λ (x : List ℕ). get_or l f 0 ∷ get_or l (suc f) 0 ∷ x) (drop-cons l (suc (suc f)) 0 (omega arith))
    ∙ ap (λ (x : List ℕ). get_or l f 0 ∷ get_or l (suc f) 0 ∷ get_or l (suc (suc f)) 0 ∷ x) (drop-cons l (suc (suc (suc f))) 0 (omega arith)))

-- a version's lengths are what its words say
word_of : (x : ℕ) (l : List ℕ) → length l ≡ x - 1 → word_of_value (value_of_word x l) ≡ x
word_of zero l e = refl
word_of (suc x) l e = omega arith

bytes_of_lem : (x : ℕ) (l : List ℕ) → length l ≡ x - 1 → bytes_of (value_of_word x l) ≡ l
bytes_of_lem zero [] e = refl
bytes_of_lem zero (a ∷ l) e = absurd (omega arith)
bytes_of_lem (suc x) l e = refl

module _ (w b : List ℕ) (i pos : ℕ) (f : RowFacts w i pos) (fits : used_word w ≤ length b) where
  key_long : length (version_at w b i).key ≡ key_word w i
  unfolding version_at
  key_long = length-take-le _ _ (rw length-drop (omega arith))

  val_long : length (take (value_word w i - 1) (drop (start_word w i + key_word w i) b)) ≡ value_word w i - 1
  val_long = length-take-le _ _ (rw length-drop (omega arith))

  word_is : word_of_value (version_at w b i).value ≡ value_word w i
  unfolding version_at
  word_is = word_of (value_word w i) _ val_long

  val_is : bytes_of (version_at w b i).value ≡ take (value_word w i - 1) (drop (start_word w i + key_word w i) b)
  unfolding version_at
  val_is = bytes_of_lem (value_word w i) _ val_long

  seq_is : (version_at w b i).seq ≡ seq_word w i
  unfolding version_at
  seq_is = refl

  -- the words and the bytes of the version, and what follows
  row_words_lem : 5 + 4 * i + 4 ≤ length w → (vs : List Version) → row_words pos (version_at w b i ∷ vs)
      ≡ get_or w (5 + 4 * i) 0 ∷ get_or w (5 + 4 * i + 1) 0 ∷ get_or w (5 + 4 * i + 2) 0 ∷ get_or w (5 + 4 * i + 3) 0 ∷ row_words (end_word w i) vs
  unfolding row_words
  row_words_lem h vs =
      let size : length (bytes_of (version_at w b i).value) ≡ value_word w i - 1 = ap length val_is ∙ val_long in
      λ z. sym f.at z ∷ key_long z ∷ word_is z ∷ seq_is z ∷ row_words (sym f.at z + key_long z + size z) vs

  row_bytes : drop pos b ≡ (version_at w b i).key ++ (bytes_of (version_at w b i).value ++ drop (end_word w i) b)
  unfolding version_at
  row_bytes =
      let x : ℕ = start_word w i in
      let y : ℕ = start_word w i + key_word w i in
      ap (λ (n : ℕ). drop n b) (sym f.at)
      ∙ sym (take-append-drop (key_word w i) (drop x b))
      ∙ ap (λ (r : List ℕ). take (key_word w i) (drop x b) ++ r)
      (drop-drop (key_word w i) x b ∙ sym (take-append-drop (value_word w i - 1) (drop y b)) ∙ (λ z. sym val_is z ++ drop-drop (value_word w i - 1) y b z))

module _ (w b : List ℕ) (fits : used_word w ≤ length b) where
  words_from_lem : (i n pos : ℕ) → chain_ok w i n pos ≡ true → 5 + 4 * (i + n) ≤ length w
      → drop (5 + 4 * i) w ≡ row_words pos (versions_from w b i n) ++ drop (5 + 4 * (i + n)) w
  unfolding versions_from row_words
  words_from_lem i zero pos e h = rw add-zero
  words_from_lem i (suc n) pos e h =
      let f = chain_row w i n pos e in
      let q : ℕ = end_word w i in
      let vs : List Version = versions_from w b (suc i) n in
      let a : 5 + 4 * i + 4 ≡ 5 + 4 * suc i = omega arith in
      let z : suc i + n ≡ i + suc n = omega arith in
      drop_four (5 + 4 * i) w (omega arith)
      ∙ ap (λ (r : List ℕ). get_or w (5 + 4 * i) 0 ∷ get_or w (5 + 4 * i + 1) 0 ∷ get_or w (5 + 4 * i + 2) 0 ∷ get_or w (5 + 4 * i + 3) 0 ∷ r)
      (ap (λ (k : ℕ). drop k w) a ∙ words_from_lem (suc i) n q (chain_rest w i n pos e) (omega arith) ∙ ap (λ (k : ℕ). row_words q vs ++ drop (5 + 4 * k) w) z)
      ∙ ap (λ (r : List ℕ). r ++ drop (5 + 4 * (i + suc n)) w) (sym (row_words_lem w b i pos f fits (omega arith) vs))

  bytes_from : (i n pos : ℕ) → chain_ok w i n pos ≡ true → drop pos b ≡ version_bytes (versions_from w b i n) ++ drop (used_word w) b
  unfolding versions_from version_bytes chain_ok
  bytes_from i zero pos e = ap (λ (n : ℕ). drop n b) (eqb-true pos (used_word w) e)
  bytes_from i (suc n) pos e =
      let f = chain_row w i n pos e in
      let k : List ℕ = (version_at w b i).key in
      let v : List ℕ = bytes_of (version_at w b i).value in
      row_bytes w b i pos f fits
      ∙ ap (λ (r : List ℕ). k ++ (v ++ r)) (bytes_from (suc i) n (end_word w i) (chain_rest w i n pos e))
      ∙ sym (append_assoc k (v ++ version_bytes (versions_from w b (suc i) n)) _ ∙ ap (λ (r : List ℕ). k ++ r) (append_assoc v _ _))

-- the words and bytes of a store that holds vs
pub record Encoded (w b : List ℕ) (vs : List Version) : Type 0 where
  pub head_in : 5 ≤ length w
  pub counted : count_word w ≡ length vs
  pub used_is : used_word w ≡ length (version_bytes vs)
  pub table : drop 5 w ≡ row_words 0 vs ++ drop (5 + 4 * length vs) w
  pub bytes : b ≡ version_bytes vs ++ drop (length (version_bytes vs)) b

-- a valid store is the encoding of its versions
pub encoded : (w b : List ℕ) → valid_store w b ≡ true → Encoded w b (versions_in w b)
encoded w b e =
    let hd = valid_header w b e in
    let ch = valid_chain w b e in
    let fits : used_word w ≤ length b = omega arith in
    let room : 5 + 4 * (0 + count_word w) ≤ length w = omega arith in
    let lv = length_versions w b 0 (count_word w) in
    let bs : b ≡ version_bytes (versions_in w b) ++ drop (used_word w) b = bytes_from w b fits 0 (count_word w) 0 ch in
    let us : used_word w ≡ length (version_bytes (versions_in w b)) = omega (arith, simp (length-append, length-drop) at (ap length bs)) in
    record {
      head_in = omega arith;
      counted = sym lv;
      used_is = us;
      table = words_from_lem w b fits 0 (count_word w) 0 ch room ∙ ap (λ (n : ℕ). row_words 0 (versions_in w b) ++ drop (5 + 4 * n) w) (zero-add (count_word w) ∙ sym lv);
      bytes = bs ∙ ap (λ (n : ℕ). version_bytes (versions_in w b) ++ drop n b) us;
    }

-- the encoding of a list in two parts
pub table_append : (pos : ℕ) (a c : List Version) → row_words pos (a ++ c) ≡ row_words pos a ++ row_words (pos + length (version_bytes a)) c
unfolding row_words version_bytes
table_append pos [] c = ap (λ (n : ℕ). row_words n c) (sym (add-zero pos))
table_append pos (v ∷ a) c =
    let q : ℕ = pos + length v.key + length (bytes_of v.value) in
    let e : q + length (version_bytes a) ≡ pos + length (v.key ++ (bytes_of v.value ++ version_bytes a)) = simp length-append (omega arith) in
    ap (λ (r : List ℕ). pos ∷ length v.key ∷ word_of_value v.value ∷ v.seq ∷ r) (table_append q a c ∙ ap (λ (n : ℕ). row_words q a ++ row_words n c) e)

pub bytes_append : (a c : List Version) → version_bytes (a ++ c) ≡ version_bytes a ++ version_bytes c
unfolding version_bytes
bytes_append [] c = refl
bytes_append (v ∷ a) c =
    ap (λ (r : List ℕ). v.key ++ (bytes_of v.value ++ r)) (bytes_append a c)
    ∙ sym (append_assoc v.key (bytes_of v.value ++ version_bytes a) (version_bytes c) ∙ ap (λ (r : List ℕ). v.key ++ r) (append_assoc (bytes_of v.value) _ _))

pub length_table : (pos : ℕ) (vs : List Version) → length (row_words pos vs) ≡ 4 * length vs
unfolding row_words
length_table pos [] = refl
length_table pos (v ∷ vs) = let e = length_table (pos + length v.key + length (bytes_of v.value)) vs in omega arith

pub shift_table : (k pos : ℕ) (vs : List Version) → shift_rows k (row_words pos vs) ≡ row_words (pos + k) vs
unfolding row_words shift_rows
shift_table k pos [] = refl
shift_table k pos (v ∷ vs) =
    let q : ℕ = pos + length v.key + length (bytes_of v.value) in
    let e : q + k ≡ pos + k + length v.key + length (bytes_of v.value) = omega arith in
    ap (λ (r : List ℕ). (pos + k) ∷ length v.key ∷ word_of_value v.value ∷ v.seq ∷ r) (shift_table k q vs ∙ ap (λ (n : ℕ). row_words n vs) e)

-- what is written back, with its lengths counted
pub leave_words_lem : (st : Store) (w : List ℕ) → leave_words st w
    ≡ length st.versions ∷ length (version_bytes st.versions) ∷ st.last ∷ st.most_versions ∷ st.most_bytes
    ∷ (row_words 0 st.versions ++ drop (5 + 4 * length st.versions) w)
unfolding leave_words store_words over_front
leave_words_lem st w =
    let rows : List ℕ = row_words 0 st.versions in
    let e : suc (suc (suc (suc (suc (length rows))))) ≡ 5 + 4 * length st.versions = omega (arith, length_table 0 st.versions) in
    ap (λ (n : ℕ). length st.versions ∷ length (version_bytes st.versions) ∷ st.last ∷ st.most_versions ∷ st.most_bytes ∷ (rows ++ drop n w)) e

-- the sizes of versions add up to their bytes
pub versions_size_lem : (vs : List Version) → versions_size vs ≡ length (version_bytes vs)
unfolding versions_size version_bytes
versions_size_lem [] = refl
versions_size_lem (v ∷ vs) = let e = versions_size_lem vs in simp length-append (omega arith)

-- a store that holds a, then c
module _ (w b : List ℕ) (a c : List Version) (en : Encoded w b (a ++ c)) where
  abbrev p : ℕ
  p = length a

  abbrev at : ℕ
  at = length (version_bytes a)

  pub used_two : used_word w ≡ at + length (version_bytes c)
  used_two = en.used_is ∙ ap length (bytes_append a c) ∙ length-append (version_bytes a) (version_bytes c)

  table_two : drop 5 w ≡ row_words 0 a ++ (row_words at c ++ drop (5 + 4 * length (a ++ c)) w)
  table_two =
      en.table ∙ ap (λ (r : List ℕ). r ++ drop (5 + 4 * length (a ++ c)) w) (table_append 0 a c ∙ ap (λ (n : ℕ). row_words 0 a ++ row_words n c) (zero-add at))
      ∙ append_assoc (row_words 0 a) (row_words at c) _

  bytes_two : b ≡ version_bytes a ++ (version_bytes c ++ drop (length (version_bytes (a ++ c))) b)
  bytes_two = en.bytes ∙ ap (λ (r : List ℕ). r ++ drop (length (version_bytes (a ++ c))) b) (bytes_append a c) ∙ append_assoc (version_bytes a) (version_bytes c) _

  pub take_table : take (4 * p) (drop 5 w) ≡ row_words 0 a
  take_table = ap (take (4 * p)) table_two ∙ take_at (row_words 0 a) _ (4 * p) (length_table 0 a)

  pub take_bytes : take at b ≡ version_bytes a
  take_bytes = ap (take at) bytes_two ∙ take_at (version_bytes a) _ at refl

-- where c starts
pub start_two : (w b : List ℕ) (a c : List Version) → Encoded w b (a ++ c) → 0 < length c → start_word w (length a) ≡ length (version_bytes a)
unfolding row_words
start_two w b a [] en h = absurd (omega arith)
start_two w b a (v ∷ c) en h =
    sym (get_or-drop 5 w (4 * length a) 0)
    ∙ ap (λ (x : List ℕ). get_or x (4 * length a) 0) (table_two w b a (v ∷ c) en)
    ∙ get_or_at (row_words 0 a) (length (version_bytes a)) _ 0 (4 * length a) (length_table 0 a)
