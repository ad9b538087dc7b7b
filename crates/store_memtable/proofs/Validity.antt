-- Laws of validity: the tests of the buffers, the header and one row, the walk over the rows, and the walk over the order. Assumes nothing.
use mathlib.Core.Path.{◌≡◌, refl, sym, ap, ◌∙◌, subst}
use mathlib.Core.Logic.{⊎_elim}
use mathlib.Core.Bool.{Bool, true, false, cond, ◌&&◌, false≢true}
use mathlib.Core.List.{List}
use Prim.Native.Nat.{ℕ, zero, suc, ◌+◌, ◌-◌, ◌*◌, ◌≤◌, ◌<◌}
use native.Mathlib.Nat.{sub-zero, eq-or-lt_of_le}
use native.Mathlib.Numerals.{add-one}
use native.Mathlib.Omega.{arith}
use lib.ListN.{length}
use Rattle.std.specs.List.{list_all, range_with_len}
use lib.Dec.{eqb}
use borrow.Author.Tests.{leb-true, eqb-true}
use Rattle.base_key.specs.Bytes.{◌and◌}
use Rattle.base_key.proofs.Bytes.{and_left, and_right}
use Rattle.store_memtable.specs.Versions.{sorted, sorted_after, before, find_from, newest}
use Rattle.store_memtable.specs.Layout.{count_word, used_word, last_word, most_versions_word, most_bytes_word, start_word, seq_word, end_word, buffers_hold, header_ok, row_ok, chain_ok, valid_store, version_at, versions_from, store_in}
use Rattle.store_memtable.specs.Rows.{Readable, Valid, row_end, versions_in}
use Rattle.store_memtable.proofs.VersionLaws.{SeqsIn}
use Rattle.store_memtable.proofs.Rows.{newest_at_lem, newest_zero}
use Rattle.std.specs.Prelude.{Option, None, Some}

-- what the tests of the buffers tell
pub buffers_words_in : (w b : List ℕ) (n m : ℕ) → buffers_hold w b n m ≡ true → 5 + 4 * n ≤ length w
unfolding buffers_hold
buffers_words_in w b n m e = leb-true _ _ (and_left _ _ e)

pub buffers_bytes_in : (w b : List ℕ) (n m : ℕ) → buffers_hold w b n m ≡ true → m ≤ length b
unfolding buffers_hold
buffers_bytes_in w b n m e = leb-true _ _ (and_right _ _ e)

-- what the tests of the header tell
pub record Header (w b : List ℕ) : Type 0 where
  pub words_fit : 5 + 4 * most_versions_word w ≤ length w
  pub bytes_fit : most_bytes_word w ≤ length b
  pub count_fits : count_word w ≤ most_versions_word w
  pub used_fits : used_word w ≤ most_bytes_word w

pub header : (w b : List ℕ) → header_ok w b ≡ true → Header w b
unfolding header_ok
header w b e = record {
  words_fit = buffers_words_in w b _ _ (and_left _ _ e);
  bytes_fit = buffers_bytes_in w b _ _ (and_left _ _ e);
  count_fits = leb-true _ _ (and_left _ _ (and_right _ _ e));
  used_fits = leb-true _ _ (and_right _ _ (and_right _ _ e));
}

-- what a row's tests tell
pub record RowFacts (w : List ℕ) (i pos : ℕ) : Type 0 where
  pub at : start_word w i ≡ pos
  pub fits : end_word w i ≤ used_word w
  pub seq_fits : seq_word w i ≤ last_word w

pub row_facts : (w : List ℕ) (i pos : ℕ) → row_ok w i pos ≡ true → RowFacts w i pos
unfolding row_ok
row_facts w i pos e = record { at = eqb-true _ _ (and_left _ _ e); fits = leb-true _ _ (and_left _ _ (and_right _ _ e)); seq_fits = leb-true _ _ (and_right _ _ (and_right _ _ e)) }

-- a row with an end passed its tests; one with none did not
pick_end : (t : Bool) (e f : ℕ) → Some e ≡ cond t (Some f) None → (t ≡ true) × (e ≡ f)
pick_end true e f h = (refl, cc)
pick_end false e f h = let z : ◌≡◌ {A = ℕ} 0 1 = cc in absurd (omega arith)

pick_bad : (t : Bool) (f : ℕ) → None ≡ cond t (Some f) None → t ≡ false
pick_bad true f h = let z : ◌≡◌ {A = ℕ} 0 1 = cc in absurd (omega arith)
pick_bad false f h = refl

-- a chain that holds, taken apart
module _ (w : List ℕ) (i n pos : ℕ) where
  pub chain_row : chain_ok w i (suc n) pos ≡ true → RowFacts w i pos
  unfolding chain_ok
  chain_row e = row_facts w i pos (go (row_ok w i pos) e)
    where
      go : (t : Bool) → (elim t [ true ↦ chain_ok w (suc i) n (end_word w i) | false ↦ false ]) ≡ true → t ≡ true
      go true h = refl
      go false h = absurd (false≢true h)

  pub chain_rest : chain_ok w i (suc n) pos ≡ true → chain_ok w (suc i) n (end_word w i) ≡ true
  unfolding chain_ok
  chain_rest e = go (row_ok w i pos) e
    where
      go : (t : Bool) → (elim t [ true ↦ chain_ok w (suc i) n (end_word w i) | false ↦ false ]) ≡ true → chain_ok w (suc i) n (end_word w i) ≡ true
      go true h = h
      go false h = absurd (false≢true h)

-- a walk over the rows: those before place i lie one behind the other up to pos
pub record Linked (w : List ℕ) (i pos : ℕ) : Type 0 where
  pub below : pos ≤ used_word w
  pub rest : chain_ok w 0 (count_word w) 0 ≡ chain_ok w i (count_word w - i) pos

pub linked_none : (w : List ℕ) → Linked w 0 0
linked_none w = record { below = omega arith; rest = rw sub-zero }

-- the row at place i decides
chain_step : (w : List ℕ) (n i pos : ℕ) → i < n → chain_ok w i (n - i) pos ≡ elim (row_ok w i pos) [ true ↦ chain_ok w (suc i) (n - suc i) (end_word w i) | false ↦ false ]
unfolding chain_ok
chain_step w n i pos h = let e : n - i ≡ suc (n - suc i) = omega arith in rw e

chain_end : (w : List ℕ) (n i pos : ℕ) → n ≤ i → chain_ok w i (n - i) pos ≡ eqb pos (used_word w)
unfolding chain_ok
chain_end w n i pos h = let e : n - i ≡ 0 = omega arith in rw e

module _ {w : List ℕ} {i pos : ℕ} (l : Linked w i pos) where
  module _ {o : Option ℕ} (h : i < count_word w) (is : o ≡ row_end w i pos) where
    pub linked_more : {e : ℕ} → o ≡ Some e → Linked w (i + 1) e
    unfolding row_end
    linked_more {e} q =
        let p = pick_end (row_ok w i pos) e _ (sym q ∙ is) in
        record { below = omega (arith, row_facts w i pos p.0, p.1); rest = l.rest ∙ chain_step w (count_word w) i pos h ∙ rw (p.0, ← p.1) (ap (λ (k : ℕ). chain_ok w k (count_word w - k) e) (sym (add-one i))) }

    pub linked_broken : o ≡ None → false ≡ chain_ok w 0 (count_word w) 0
    unfolding row_end
    linked_broken q = rw (l.rest, chain_step w (count_word w) i pos h, pick_bad (row_ok w i pos) _ (sym q ∙ is))

  pub linked_all : {u : ℕ} → count_word w ≤ i → u ≡ used_word w → eqb pos u ≡ chain_ok w 0 (count_word w) 0
  linked_all h u-is = rw (l.rest, chain_end w (count_word w) i pos h, u-is)

-- in a chain every version ends within the bytes used
pub chain_ends : (w : List ℕ) (i n pos : ℕ) → chain_ok w i n pos ≡ true → (j : ℕ) → i ≤ j → j < i + n → end_word w j ≤ used_word w
chain_ends w i zero pos e j h k = absurd (omega arith)
chain_ends w i (suc n) pos e j h k =
    let f = chain_row w i n pos e in
    ⊎_elim (λ (q : i ≡ j). subst (λ (x : ℕ). end_word w x ≤ used_word w) q f.fits)
    (λ (q : i < j). chain_ends w (suc i) n (end_word w i) (chain_rest w i n pos e) j q (omega arith))
    (eq-or-lt_of_le h)

-- and no sequence is above the last
pub chain_seqs : (w b : List ℕ) (i n pos : ℕ) → chain_ok w i n pos ≡ true → SeqsIn (last_word w) (versions_from w b i n)
unfolding versions_from version_at
chain_seqs w b i zero pos e = tt
chain_seqs w b i (suc n) pos e = ((chain_row w i n pos e).seq_fits, chain_seqs w b (suc i) n (end_word w i) (chain_rest w i n pos e))

-- the versions are in order where each comes behind the one before it
abbrev pub in_order : List ℕ → List ℕ → ℕ → Bool
in_order w b j = before (version_at w b (j - 1)) (version_at w b j)

ordered_from : (w b : List ℕ) (i n : ℕ) → list_all (in_order w b) (range_with_len (i + 1) n) ≡ sorted_after (version_at w b i) (versions_from w b (suc i) n)
unfolding versions_from sorted_after ◌and◌
ordered_from w b i zero = refl
ordered_from w b i (suc n) =
    let e : i + 1 - 1 ≡ i = omega arith in
    rw (e, add-one i) (go (before (version_at w b i) (version_at w b (suc i))) (ordered_from w b (suc i) n))
  where
    go : (t : Bool) → list_all (in_order w b) (range_with_len (suc i + 1) n) ≡ sorted_after (version_at w b (suc i)) (versions_from w b (suc (suc i)) n)
        → t && list_all (in_order w b) (range_with_len (suc i + 1) n) ≡ t and sorted_after (version_at w b (suc i)) (versions_from w b (suc (suc i)) n)
    go true ih = ih
    go false ih = refl

pub ordered_all : (w b : List ℕ) (n : ℕ) → list_all (in_order w b) (range_with_len 1 (n - 1)) ≡ sorted (versions_from w b 0 n)
unfolding versions_from
ordered_all w b zero = refl
ordered_all w b (suc n) = let e : suc n - 1 ≡ n = omega arith in rw e (ordered_from w b 0 n)

-- the three tests together
module _ (w b : List ℕ) {r : Bool} (r-is : r ≡ header_ok w b) where
  pub not_header : r ≡ false → false ≡ valid_store w b
  unfolding valid_store ◌and◌
  not_header e = rw (← r-is, e)

  module _ (head : r ≡ true) where
    pub rows_in : 5 + 4 * count_word w ≤ length w
    rows_in = omega (arith, header w b (sym r-is ∙ head))

    module _ {q : Bool} (q-is : q ≡ chain_ok w 0 (count_word w) 0) where
      pub not_chain : q ≡ false → false ≡ valid_store w b
      unfolding valid_store ◌and◌
      not_chain e = rw (← r-is, head, ← q-is, e)

      module _ (chain : q ≡ true) where
        pub readable : Readable w b
        readable =
            let f = header w b (sym r-is ∙ head) in
            record { rows_in = rows_in; ends_in = λ i h. omega (arith, chain_ends w 0 (count_word w) 0 (sym q-is ∙ chain) i (omega arith) (omega arith), f) }

        pub by_order : {s : Bool} → s ≡ sorted (versions_in w b) → s ≡ valid_store w b
        unfolding valid_store store_in ◌and◌
        by_order e = rw (← r-is, head, ← q-is, chain) e

-- what a valid store is
module _ (w b : List ℕ) (e : valid_store w b ≡ true) where
  pub valid_header : Header w b
  unfolding valid_store
  valid_header = header w b (and_left _ _ e)

  pub valid_chain : chain_ok w 0 (count_word w) 0 ≡ true
  unfolding valid_store
  valid_chain = and_left _ _ (and_right _ _ e)

  pub valid_sorted : sorted (versions_in w b) ≡ true
  unfolding valid_store store_in
  valid_sorted = and_right _ _ (and_right _ _ e)

  pub valid_readable : Readable w b
  unfolding valid_store
  valid_readable = readable w b refl (and_left _ _ e) refl (and_left _ _ (and_right _ _ e))

  pub valid_seqs : SeqsIn (last_word w) (versions_in w b)
  valid_seqs = chain_seqs w b 0 (count_word w) 0 valid_chain

  pub valid_facts : Valid w b
  valid_facts =
      let h = valid_header in
      record { valid = e; readable = valid_readable; ordered = valid_sorted; words_hold = h.words_fit; bytes_hold = h.bytes_fit; count_fits = h.count_fits; used_fits = h.used_fits }

-- the same, where the test gave it
pub validated : (w b : List ℕ) {r : Bool} → r ≡ valid_store w b → r ≡ true → Valid w b
validated w b ok t = valid_facts w b (sym ok ∙ t)

-- the newest sequence, from what a read at the last sequence finds
module _ (w b k : List ℕ) {o : Option ℕ} (v : Valid w b) (is : o ≡ find_from 0 (versions_in w b) k (last_word w)) where
  pub newest_of : {i q : ℕ} → o ≡ Some i → q ≡ seq_word w i → q ≡ newest (versions_in w b) k
  newest_of {i} e q-is = q-is ∙ sym (newest_at_lem w b k (last_word w) 0 (count_word w) i v.ordered (valid_seqs w b v.valid) (sym is ∙ e))

  pub newest_none : o ≡ None → 0 ≡ newest (versions_in w b) k
  newest_none e = sym (newest_zero w b k (last_word w) 0 (count_word w) (valid_seqs w b v.valid) (sym is ∙ e))
