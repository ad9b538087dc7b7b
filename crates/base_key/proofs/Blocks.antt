-- Laws of the blocks of eight bytes in which keys are compared. Assumes nothing.
use Prim.Native.Nat.{ℕ, suc, ◌+◌, ◌-◌, ◌*◌, ◌%◌, ◌≤◌, ◌<◌}
use native.Mathlib.Numerals.{add-one}
use mathlib.Core.Path.{◌≡◌, refl, sym, ap, ◌∙◌}
use mathlib.Core.List.{List, ◌∷◌, ◌++◌}
use mathlib.Core.Bool.{Bool, true, false}
use lib.Dec.{eqb}
use lib.ListN.{length, take, drop, get_or, take-append-drop}
use lib.Seq.{drop-cons, drop-drop, drop-length}
use borrow.Author.Tests.{eq-eqb, ne_eqb}
use native.Mathlib.Omega.{arith}
use Rattle.base_key.specs.Bytes.{same_bytes, part}
use Rattle.base_key.specs.Blocks.{Alike, FourAt, EightAt, same_block}
use Rattle.base_key.specs.Keys.{compare_keys, same_key}
use Rattle.base_key.proofs.Bytes.{neither}
use Rattle.base_key.proofs.Keys.{compare_front, same_is, same_refl, same_bytes_lem, same_list, other_list}

-- THE BYTES OF A BLOCK
part_next : (l : List ℕ) (i j n : ℕ) → i + 1 ≡ j → i < length l → part i (suc n) l ≡ get_or l i 0 ∷ part j n l
part_next l i j n e h = rw (← e, add-one, drop-cons l i 0) refl

part_four : (l : List ℕ) (i n : ℕ) → i + 4 ≤ length l → part i (suc (suc (suc (suc n)))) l ≡ get_or l i 0 ∷ get_or l (i + 1) 0 ∷ get_or l (i + 2) 0 ∷ get_or l (i + 3) 0 ∷ part (i + 4) n l
part_four l i n h =
    part_next l i (i + 1) (suc (suc (suc n))) refl (omega arith)
    ∙ ap (λ (t : List ℕ). get_or l i 0 ∷ t) (part_next l (i + 1) (i + 2) (suc (suc n)) (omega arith) (omega arith)
    ∙ ap (λ (t : List ℕ). get_or l (i + 1) 0 ∷ t) (part_next l (i + 2) (i + 3) (suc n) (omega arith) (omega arith)
    ∙ ap (λ (t : List ℕ). get_or l (i + 2) 0 ∷ t) (part_next l (i + 3) (i + 4) n (omega arith) (omega arith))))

-- a byte in front of equal numbers is equal, and so is what follows
first_equal : (x y m n : ℕ) → x < 256 → y < 256 → x + 256 * m ≡ y + 256 * n → (x ≡ y) × (m ≡ n)
first_equal x y m n h k e = (omega (arith, e), omega (arith, e))

module _ {a b : List ℕ} {i x y : ℕ} (h : i + 4 ≤ length a) (k : i + 4 ≤ length b) (p : FourAt a i x) (q : FourAt b i y) where
  -- equal numbers have equal bytes
  four_parts : (n : ℕ) → x ≡ y → part (i + 4) n a ≡ part (i + 4) n b → part i (suc (suc (suc (suc n)))) a ≡ part i (suc (suc (suc (suc n)))) b
  four_parts n e f =
      let c = first_equal (get_or a i 0) (get_or b i 0) _ _ p.first q.first (sym p.is ∙ e ∙ q.is) in
      let d = first_equal (get_or a (i + 1) 0) (get_or b (i + 1) 0) _ _ p.second q.second c.1 in
      let g = first_equal (get_or a (i + 2) 0) (get_or b (i + 2) 0) _ _ p.third q.third d.1 in
      part_four a i n h ∙ (λ z. c.0 z ∷ d.0 z ∷ g.0 z ∷ g.1 z ∷ f z) ∙ sym (part_four b i n k)

  -- and equal bytes equal numbers
  four_numbers : (n : ℕ) → part i (suc (suc (suc (suc n)))) a ≡ part i (suc (suc (suc (suc n)))) b → (x ≡ y) × (part (i + 4) n a ≡ part (i + 4) n b)
  four_numbers n e =
      let f = sym (part_four a i n h) ∙ e ∙ part_four b i n k in
      let at : (j : ℕ) → _ = λ (j : ℕ). ap (λ (l : List ℕ). get_or l j 0) f in
      (p.is ∙ (λ z. at 0 z + 256 * (at 1 z + 256 * (at 2 z + 256 * at 3 z))) ∙ sym q.is, ap (drop 4) f)

four_small : {l : List ℕ} {j x : ℕ} → FourAt l j x → x < 4294967296
four_small p = omega (arith, p.is, p.first, p.second, p.third, p.fourth)

-- a list is the block at i, and what follows
block_first : (l : List ℕ) (i : ℕ) → drop i l ≡ part i 8 l ++ drop (i + 8) l
block_first l i = sym (take-append-drop 8 (drop i l)) ∙ ap (λ (m : List ℕ). part i 8 l ++ m) (drop-drop 8 i l)

block_is : (a b : List ℕ) (i : ℕ) {r : Bool} → r ≡ same_block a b i → r ≡ true → part i 8 a ≡ part i 8 b
unfolding same_block
block_is a b i e t = same_is _ _ (sym (same_bytes_lem _ _) ∙ sym e ∙ t)

module _ {a b : List ℕ} {i : ℕ} where
  module _ {x y : ℕ} (h : i + 8 ≤ length a) (k : i + 8 ≤ length b) (p : EightAt a i x) (q : EightAt b i y) where
    eight_parts : x ≡ y → part i 8 a ≡ part i 8 b
    eight_parts e =
        let u = four_small p.first in
        let v = four_small q.first in
        let s : p.lower + 4294967296 * p.upper ≡ q.lower + 4294967296 * q.upper = sym p.is ∙ e ∙ q.is in
        four_parts (omega arith) (omega arith) p.first q.first 4 (omega (arith, s, u, v))
        (four_parts (omega arith) (omega arith) p.second q.second 0 (omega (arith, s, u, v)) refl)

    eight_numbers : part i 8 a ≡ part i 8 b → x ≡ y
    eight_numbers e =
        let f = four_numbers (omega arith) (omega arith) p.first q.first 4 e in
        let g = four_numbers (omega arith) (omega arith) p.second q.second 0 f.1 in
        p.is ∙ (λ z. f.0 z + 4294967296 * g.0 z) ∙ sym q.is

    -- the numbers are equal where the bytes are the same
    pub same_block_lem : {r : Bool} → r ≡ eqb x y → r ≡ same_block a b i
    unfolding same_block
    same_block_lem {r} e = e ∙ go (same_bytes (part i 8 a) (part i 8 b)) refl
      where
        go : (t : Bool) → same_bytes (part i 8 a) (part i 8 b) ≡ t → eqb x y ≡ t
        go true f = eq-eqb x y (eight_numbers (same_is _ _ (sym (same_bytes_lem _ _) ∙ f)))
        go false f = ne_eqb x y (λ (g : x ≡ y). neither (ap (same_bytes (part i 8 a)) (sym (eight_parts g)) ∙ same_bytes_lem _ _ ∙ same_refl (part i 8 a)) f)

  -- the same eight bytes more
  pub alike_block : {r : Bool} {j : ℕ} → r ≡ same_block a b i → r ≡ true → Alike a b i → j ≡ i + 8 → j ≤ length a → j ≤ length b → Alike a b j
  alike_block e t al n h k =
      record {
        in_a = h;
        in_b = k;
        rest = rw n
            (al.rest ∙ (λ z. compare_keys (block_first a i z) ((block_first b i ∙ ap (λ (m : List ℕ). m ++ drop (i + 8) b) (sym (block_is a b i e t))) z))
            ∙ compare_front (part i 8 a) (drop (i + 8) a) (drop (i + 8) b));
      }

-- A WALK OVER THE WHOLE BLOCKS AT THE END OF TWO KEYS, from the last one on: from i on they are the same
pub record BlocksSame (a b : List ℕ) (i : ℕ) : Type 0 where
  pub inside : i ≤ length a
  pub whole : i % 8 ≡ length a % 8
  pub rest : drop i a ≡ drop i b

module _ {a b : List ℕ} where
  pub blocks_none : length a ≡ length b → BlocksSame a b (length a)
  blocks_none e = record { inside = omega arith; whole = refl; rest = drop-length a ∙ sym (ap (λ (n : ℕ). drop n b) e ∙ drop-length b) }

  module _ {i : ℕ} (s : BlocksSame a b i) (j : ℕ) {r : Bool} (is : r ≡ same_block a b j) (n : j + 8 ≡ i) where
    -- the block before is the same
    pub blocks_more : r ≡ true → BlocksSame a b j
    blocks_more t =
        let behind : drop (j + 8) a ≡ drop (j + 8) b = ap (λ (x : ℕ). drop x a) n ∙ s.rest ∙ ap (λ (x : ℕ). drop x b) (sym n) in
        record {
          inside = omega (arith, s.inside);
          whole = omega (arith, s.whole);
          rest = block_first a j ∙ (λ z. block_is a b j is t z ++ behind z) ∙ sym (block_first b j);
        }

    pub blocks_other : r ≡ false → r ≡ same_key (drop (length a % 8) a) (drop (length a % 8) b)
    unfolding same_block
    blocks_other f = f ∙ other_list _ _ differ
      where
        start : ℕ
        start = length a % 8

        from : start + (j - start) ≡ j
        from = omega (arith, s.whole)

        there : (l : List ℕ) → drop (j - start) (drop start l) ≡ drop j l
        there l = drop-drop (j - start) start l ∙ ap (λ (k : ℕ). drop k l) from

        differ : drop start a ≡ drop start b → ⊥
        differ e =
            let p : part j 8 a ≡ part j 8 b = ap (take 8) (sym (there a) ∙ ap (drop (j - start)) e ∙ there b) in
            neither (same_bytes_lem _ _ ∙ sym (same_list p)) (sym is ∙ f)

  pub blocks_all : {i : ℕ} → BlocksSame a b i → i < 8 → true ≡ same_key (drop (length a % 8) a) (drop (length a % 8) b)
  blocks_all {i} s h =
      let e : length a % 8 ≡ i = omega (arith, s.whole) in
      same_list (ap (λ (x : ℕ). drop x a) e ∙ s.rest ∙ ap (λ (x : ℕ). drop x b) (sym e))
