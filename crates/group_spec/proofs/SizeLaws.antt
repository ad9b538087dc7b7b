-- Laws of the sizes of writes and of what they leave of some bytes; the take rule. Assumes nothing.
use Prim.Native.Nat.{ℕ, zero, suc, ◌+◌, ◌-◌, ◌*◌, ◌≤◌, ◌<◌}
use native.Mathlib.Numerals.{add-one}
use native.Mathlib.Omega.{arith}
use mathlib.Core.Path.{◌≡◌, refl, sym, ap, ◌∙◌}
use mathlib.Core.Bool.{Bool, true, false, cond}
use mathlib.Core.List.{List}
use lib.Dec.{leb}
use lib.ListN.{length, get_or}
use borrow.Author.Tests.{le-leb, lt-leb, leb-true, leb-false}
use Rattle.base_key.specs.Bytes.{Bytes, part}
use Rattle.base_key.proofs.Bytes.{and_left, and_right, and_both, length_part_lem}
use Rattle.store_memtable.specs.Versions.{bytes_of, size_of, writes_size}
use Rattle.store_memtable.specs.Layout.{value_of_word}
use Rattle.store_memtable.specs.Rows.{bytes_left}
use Rattle.group_spec.specs.Members.{list_from, all_from, value_inside, write_at, write_inside}
use Rattle.group_spec.specs.Settling.{WriteIn, size_at, sizes_from, as_room, room_after}
use Rattle.std.specs.Prelude.{Option, None, Some}

-- what is left, by the two ways
pub left_rest : (a s : ℕ) → s ≤ a → bytes_left a s ≡ Some (a - s)
unfolding bytes_left
left_rest a s h = rw (le-leb s a h)

pub left_short : (a s : ℕ) → a < s → bytes_left a s ≡ None
unfolding bytes_left
left_short a s h = rw (lt-leb s a h)

pub rest_within : (a s n : ℕ) → bytes_left a s ≡ Some n → (s ≤ a) × (n ≡ a - s)
unfolding bytes_left
rest_within a s n e = go (leb s a) refl e
  where
    go : (t : Bool) → leb s a ≡ t → cond t (Some (a - s)) None ≡ Some n → (s ≤ a) × (n ≡ a - s)
    go true p q = (leb-true s a p, cc)
    go false p q = let z : ◌≡◌ {A = ℕ} 0 1 = cc in absurd (omega arith)

pub short_above : (a s : ℕ) → bytes_left a s ≡ None → a < s
unfolding bytes_left
short_above a s e = go (leb s a) refl e
  where
    go : (t : Bool) → leb s a ≡ t → cond t (Some (a - s)) None ≡ None → a < s
    go true p q = let z : ◌≡◌ {A = ℕ} 0 1 = cc in absurd (omega arith)
    go false p q = leb-false s a p

-- one size after another
pub left_then : (a s t n : ℕ) → bytes_left a s ≡ Some n → bytes_left a (s + t) ≡ bytes_left n t
left_then a s t n e = go (leb t n) refl
  where
    go : (b : Bool) → leb t n ≡ b → bytes_left a (s + t) ≡ bytes_left n t
    go true p =
        let r = rest_within a s n e in
        let h = leb-true t n p in
        let d : a - (s + t) ≡ n - t = omega (arith, r.0, r.1, h) in
        left_rest a (s + t) (omega (arith, r.0, r.1, h)) ∙ ap Some d ∙ sym (left_rest n t h)
    go false p =
        let r = rest_within a s n e in
        let h = leb-false t n p in
        left_short a (s + t) (omega (arith, r.0, r.1, h)) ∙ sym (left_short n t h)

pub short_then : (a s t : ℕ) → bytes_left a s ≡ None → bytes_left a (s + t) ≡ None
short_then a s t e = let h = short_above a s e in left_short a (s + t) (omega arith)

-- THE TAKE RULE: the room after the members so far, and after the next
pub room_then : (j a s t : ℕ) → room_after (suc j) (as_room (bytes_left a s)) t ≡ as_room (bytes_left a (s + t))
unfolding room_after as_room
room_then j a s t = go (bytes_left a s) refl
  where
    go : (o : Option ℕ) → bytes_left a s ≡ o → room_after (suc j) (as_room o) t ≡ as_room (bytes_left a (s + t))
    go (Some n) e = ap as_room (sym (left_then a s t n e))
    go None e = ap as_room (sym (short_then a s t e))

-- the writes before place i leave `rest`
pub record Leaving (w : List ℕ) (first count left e rest i : ℕ) : Type 0 where
  pub within : i ≤ e
  pub whole : bytes_left left (sizes_from w first count) ≡ bytes_left rest (sizes_from w i (e - i))

pub sizes_next : (w : List ℕ) {i e : ℕ} → i < e → sizes_from w i (e - i) ≡ size_at w i + sizes_from w (i + 1) (e - (i + 1))
unfolding sizes_from
sizes_next w {i} {e} h =
    let n : e - i ≡ suc (e - (i + 1)) = omega arith in
    ap (sizes_from w i) n ∙ ap (λ (j : ℕ). size_at w i + sizes_from w j (e - (i + 1))) (sym (add-one i))

module _ {w : List ℕ} {first count left e rest i : ℕ} (p : Leaving w first count left e rest i) where
  module _ {o : Option ℕ} (h : i < e) (here : o ≡ bytes_left rest (size_at w i)) where
    pub leaving_more : {n : ℕ} → o ≡ Some n → Leaving w first count left e n (i + 1)
    leaving_more {n} t = record {
      within = omega arith;
      whole = p.whole ∙ ap (bytes_left rest) (sizes_next w h) ∙ left_then rest (size_at w i) (sizes_from w (i + 1) (e - (i + 1))) n (sym here ∙ t);
    }

    pub leaving_short : o ≡ None → None ≡ bytes_left left (sizes_from w first count)
    leaving_short t = sym (p.whole ∙ ap (bytes_left rest) (sizes_next w h) ∙ short_then rest (size_at w i) (sizes_from w (i + 1) (e - (i + 1))) (sym here ∙ t))

  pub leaving_all : e ≤ i → Some rest ≡ bytes_left left (sizes_from w first count)
  unfolding sizes_from
  leaving_all h =
      let n : e - i ≡ 0 = omega arith in
      let d : rest - 0 ≡ rest = omega arith in
      sym (p.whole ∙ ap (λ (k : ℕ). bytes_left rest (sizes_from w i k)) n ∙ left_rest rest 0 (omega arith) ∙ ap Some d)

-- the words say the sizes of writes whose parts lie in the data
value_long : (start x : ℕ) (d : Bytes) → value_inside start x d ≡ true → length (bytes_of (value_of_word x (part start (x - 1) d))) ≡ x - 1
unfolding value_inside
value_long start zero d e = refl
value_long start (suc x) d e = let s : suc x - 1 ≡ x = omega arith in length_part_lem start (suc x - 1) d (omega (arith, leb-true (start + x) (length d) e))

pub write_in : (w : List ℕ) (d : Bytes) (j : ℕ) → 4 * j + 4 ≤ length w → write_inside w d j ≡ true → WriteIn w d j
unfolding write_inside
write_in w d j h e = record { row_in = h; key_in = leb-true _ _ (and_left _ _ e); value_in = and_right _ _ e }

write_size : (w : List ℕ) (d : Bytes) (j : ℕ) → write_inside w d j ≡ true → size_of (write_at w d j).0 (write_at w d j).1 ≡ size_at w j
unfolding write_inside write_at size_at
write_size w d j e =
    let k = length_part_lem (get_or w (4 * j) 0) (get_or w (4 * j + 1) 0) d (leb-true _ _ (and_left _ _ e)) in
    let x = value_long (get_or w (4 * j + 2) 0) (get_or w (4 * j + 3) 0) d (and_right _ _ e) in
    λ z. k z + x z

pub write_in_size : (w : List ℕ) (d : Bytes) (j : ℕ) → WriteIn w d j → size_of (write_at w d j).0 (write_at w d j).1 ≡ size_at w j
unfolding write_inside
write_in_size w d j i = write_size w d j (and_both _ _ (le-leb _ _ i.key_in) i.value_in)

pub writes_size_lem : (w : List ℕ) (d : Bytes) (j n : ℕ) → all_from (write_inside w d) j n ≡ true → writes_size (list_from (write_at w d) j n) ≡ sizes_from w j n
unfolding writes_size list_from sizes_from all_from
writes_size_lem w d j zero e = refl
writes_size_lem w d j (suc n) e = go (write_inside w d j) refl e (writes_size_lem w d (suc j) n)
  where
    go : (t : Bool) → write_inside w d j ≡ t → elim t [ true ↦ all_from (write_inside w d) (suc j) n | false ↦ false ] ≡ true
        → (all_from (write_inside w d) (suc j) n ≡ true → writes_size (list_from (write_at w d) (suc j) n) ≡ sizes_from w (suc j) n)
        → size_of (write_at w d j).0 (write_at w d j).1 + writes_size (list_from (write_at w d) (suc j) n) ≡ size_at w j + sizes_from w (suc j) n
    go true p q ih = λ z. write_size w d j p z + ih q z
    go false p q ih = let z : ◌≡◌ {A = ℕ} 0 1 = cc in absurd (omega arith)
