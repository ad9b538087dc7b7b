-- Laws of the order of keys and of versions. Assumes nothing.
use mathlib.Core.Path.{◌≡◌, refl, sym, ap, ◌∙◌, subst}
use mathlib.Core.Logic.{◌⊎◌, inl, inr, ⊎_elim}
use mathlib.Core.Bool.{Bool, true, false, false≢true}
use mathlib.Core.List.{List, [], ◌∷◌, ◌++◌}
use Prim.Native.Nat.{ℕ, suc, ◌+◌, ◌-◌, ◌≤◌, ◌<◌}
use native.Mathlib.Nat.{le_of_lt}
use native.Mathlib.Numerals.{add-one}
use lib.ListN.{length, take, drop, get_or, drop_of_length-le, take-append-drop}
use lib.Seq.{drop-cons, get_or-take, length-take-le}
use lib.Dec.{ltb, eqb}
use native.Mathlib.Omega.{arith}
use borrow.Author.Tests.{lt-ltb, le-ltb, ltb-true, ltb-false, eq-eqb, ne_eqb}
use Rattle.std.proofs.Common.{Decides, nat_cmp, min}
use Rattle.std.proofs.lemmas.Bool.Decides.{same_from_decides}
use Rattle.std.proofs.lemmas.Slice.Eq.{bytes_eq-Decides}
use Rattle.std.specs.Str.{bytes_eq}
use Rattle.base_key.specs.Bytes.{◌and◌, same_bytes}
use Rattle.base_key.specs.Blocks.{Alike}
use Rattle.base_key.specs.Keys.{compare_keys, order_by, then_by, order_of_versions, is_less, is_equal, same_key}
use Rattle.base_key.proofs.Bytes.{neither}
use Rattle.std.specs.declared.cmp.Ordering.TheVariants.{Less, Equal, Greater}
use Rattle.std.specs.declared.cmp.Ordering.{Ordering}

-- THE ORDER OF KEYS
-- the order the other way round
abbrev pub turned : Ordering → Ordering
turned Less = Greater
turned Equal = Equal
turned Greater = Less

turn_first : (x y : ℕ) (o : Ordering) → order_by (ltb y x) (ltb x y) (turned o) ≡ turned (order_by (ltb x y) (ltb y x) o)
turn_first x y o = go (ltb x y) (ltb y x) refl refl
  where
    go : (p q : Bool) → ltb x y ≡ p → ltb y x ≡ q → order_by q p (turned o) ≡ turned (order_by p q o)
    go true true e f = let h = ltb-true x y e in let k = ltb-true y x f in absurd (omega arith)
    go true false e f = refl
    go false true e f = refl
    go false false e f = refl

pub compare_turned : (a b : List ℕ) → compare_keys b a ≡ turned (compare_keys a b)
unfolding compare_keys
compare_turned [] [] = refl
compare_turned [] (y ∷ b) = refl
compare_turned (x ∷ a) [] = refl
compare_turned (x ∷ a) (y ∷ b) = ap (order_by (ltb y x) (ltb x y)) (compare_turned a b) ∙ turn_first x y (compare_keys a b)

-- what an order of two numbers with a tie tells
less_cases : (x y : ℕ) (o : Ordering) → order_by (ltb x y) (ltb y x) o ≡ Less → (x < y) ⊎ ((x ≡ y) × (o ≡ Less))
less_cases x y o e = go (ltb x y) (ltb y x) refl refl e
  where
    go : (p q : Bool) → ltb x y ≡ p → ltb y x ≡ q → order_by p q o ≡ Less → (x < y) ⊎ ((x ≡ y) × (o ≡ Less))
    go true q f g h = inl (ltb-true x y f)
    go false true f g h = let z : ◌≡◌ {A = ℕ} 0 1 = cc in absurd (omega arith)
    go false false f g h = inr (let k = ltb-false x y f in let l = ltb-false y x g in omega arith, h)

equal_case : (x y : ℕ) (o : Ordering) → order_by (ltb x y) (ltb y x) o ≡ Equal → (x ≡ y) × (o ≡ Equal)
equal_case x y o e = go (ltb x y) (ltb y x) refl refl e
  where
    go : (p q : Bool) → ltb x y ≡ p → ltb y x ≡ q → order_by p q o ≡ Equal → (x ≡ y) × (o ≡ Equal)
    go true q f g h = let z : ◌≡◌ {A = ℕ} 0 1 = cc in absurd (omega arith)
    go false true f g h = let z : ◌≡◌ {A = ℕ} 0 1 = cc in absurd (omega arith)
    go false false f g h = (let k = ltb-false x y f in let l = ltb-false y x g in omega arith, h)

pub compare_equal : (a b : List ℕ) → compare_keys a b ≡ Equal → a ≡ b
unfolding compare_keys
compare_equal [] [] e = refl
compare_equal [] (y ∷ b) e = let z : ◌≡◌ {A = ℕ} 0 1 = cc in absurd (omega arith)
compare_equal (x ∷ a) [] e = let z : ◌≡◌ {A = ℕ} 0 1 = cc in absurd (omega arith)
compare_equal (x ∷ a) (y ∷ b) e = let c = equal_case x y (compare_keys a b) e in λ z. c.0 z ∷ compare_equal a b c.1 z

-- the same bytes in front of both
pub compare_front : (p a b : List ℕ) → compare_keys (p ++ a) (p ++ b) ≡ compare_keys a b
unfolding compare_keys
compare_front [] a b = refl
compare_front (x ∷ p) a b = rw (le-ltb x x (omega arith)) (compare_front p a b)

tie_less : (x z : ℕ) (o : Ordering) → x ≡ z → o ≡ Less → order_by (ltb x z) (ltb z x) o ≡ Less
tie_less x z o e h = rw (le-ltb x z (omega arith), le-ltb z x (omega arith)) h

pub compare_trans : (a b c : List ℕ) → compare_keys a b ≡ Less → compare_keys b c ≡ Less → compare_keys a c ≡ Less
unfolding compare_keys
compare_trans [] [] c p q = let z : ◌≡◌ {A = ℕ} 0 1 = cc in absurd (omega arith)
compare_trans [] (y ∷ b) [] p q = let z : ◌≡◌ {A = ℕ} 0 1 = cc in absurd (omega arith)
compare_trans [] (y ∷ b) (z ∷ c) p q = refl
compare_trans (x ∷ a) [] c p q = let z : ◌≡◌ {A = ℕ} 0 1 = cc in absurd (omega arith)
compare_trans (x ∷ a) (y ∷ b) [] p q = let z : ◌≡◌ {A = ℕ} 0 1 = cc in absurd (omega arith)
compare_trans (x ∷ a) (y ∷ b) (z ∷ c) p q =
    ⊎_elim
    (λ (h : x < y). ⊎_elim (λ (k : y < z). rw (lt-ltb x z (omega arith))) (λ (k : (y ≡ z) × (compare_keys b c ≡ Less)). rw (lt-ltb x z (omega (arith, k.0)))) (less_cases y z (compare_keys b c) q))
    (λ (h : (x ≡ y) × (compare_keys a b ≡ Less)). ⊎_elim (λ (k : y < z). rw (lt-ltb x z (omega (arith, h.0))))
    (λ (k : (y ≡ z) × (compare_keys b c ≡ Less)). tie_less x z (compare_keys a c) (h.0 ∙ k.0) (compare_trans a b c h.1 k.1)) (less_cases y z (compare_keys b c) q))
    (less_cases x y (compare_keys a b) p)

pub compare_refl : (a : List ℕ) → compare_keys a a ≡ Equal
compare_refl a = go (compare_keys a a) (compare_turned a a)
  where
    go : (o : Ordering) → o ≡ turned o → o ≡ Equal
    go Less e = let z : ◌≡◌ {A = ℕ} 0 1 = cc in absurd (omega arith)
    go Equal e = refl
    go Greater e = let z : ◌≡◌ {A = ℕ} 0 1 = cc in absurd (omega arith)

pub key_swap : (a b : List ℕ) → compare_keys a b ≡ Greater → compare_keys b a ≡ Less
key_swap a b e = compare_turned a b ∙ ap turned e

-- ONE KEY
pub less_is : (o : Ordering) → is_less o ≡ true → o ≡ Less
less_is Less e = refl
less_is Equal e = absurd (false≢true e)
less_is Greater e = absurd (false≢true e)

pub equal_is : (o : Ordering) → is_equal o ≡ true → o ≡ Equal
equal_is Less e = absurd (false≢true e)
equal_is Equal e = refl
equal_is Greater e = absurd (false≢true e)

-- the test says that the keys are one list
pub same_is : (a b : List ℕ) → same_key a b ≡ true → a ≡ b
unfolding same_key
same_is a b e = compare_equal a b (equal_is _ e)

pub same_refl : (a : List ℕ) → same_key a a ≡ true
unfolding same_key
same_refl a = ap is_equal (compare_refl a)

pub same_less : (a b : List ℕ) → compare_keys a b ≡ Less → same_key a b ≡ false
unfolding same_key
same_less a b e = ap is_equal e

pub same_sym : (a b : List ℕ) → same_key a b ≡ same_key b a
unfolding same_key
same_sym a b = turned_equal (compare_keys a b) ∙ ap is_equal (sym (compare_turned a b))
  where
    turned_equal : (o : Ordering) → is_equal o ≡ is_equal (turned o)
    turned_equal Less = refl
    turned_equal Equal = refl
    turned_equal Greater = refl

-- two numbers are equal, or one of them is lower
three : (x y : ℕ) → (x ≡ y) ⊎ ((x < y) ⊎ (y < x))
three x y = go (ltb x y) (ltb y x) refl refl
  where
    go : (p q : Bool) → ltb x y ≡ p → ltb y x ≡ q → (x ≡ y) ⊎ ((x < y) ⊎ (y < x))
    go true q e f = inr (inl (ltb-true x y e))
    go false true e f = inr (inr (ltb-true y x f))
    go false false e f = inl (let k = ltb-false x y e in let l = ltb-false y x f in omega arith)

-- the library's order of two numbers
module _ {x y : ℕ} where
  number_less : x < y → nat_cmp x y ≡ Less
  number_less h = rw (lt-ltb x y h) refl

  number_equal : x ≡ y → nat_cmp x y ≡ Equal
  number_equal e = rw (le-ltb x y (omega arith), eq-eqb x y e) refl

  number_greater : y < x → nat_cmp x y ≡ Greater
  number_greater h = rw (le-ltb x y (le_of_lt h), ne_eqb x y (λ (e : x ≡ y). omega arith)) refl

number_order : (x y : ℕ) → nat_cmp x y ≡ order_by (ltb x y) (ltb y x) Equal
number_order x y = ⊎_elim
    (λ (e : x ≡ y). number_equal e ∙ simp (le-ltb x y (omega arith), le-ltb y x (omega arith)))
    (λ (h : (x < y) ⊎ (y < x)). ⊎_elim
    (λ (l : x < y). number_less l ∙ simp (lt-ltb x y l))
    (λ (l : y < x). number_greater l ∙ simp (le-ltb x y (le_of_lt l), lt-ltb y x l)) h)
    (three x y)

-- the test of bytes is the test of keys
same_step : (x y : ℕ) (o : Ordering) → eqb x y and is_equal o ≡ is_equal (order_by (ltb x y) (ltb y x) o)
unfolding ◌and◌
same_step x y o = ⊎_elim
    (λ (e : x ≡ y). rw (eq-eqb x y e, le-ltb x y (omega arith), le-ltb y x (omega arith)))
    (λ (h : (x < y) ⊎ (y < x)). ⊎_elim
    (λ (l : x < y). rw (ne_eqb x y (λ (e : x ≡ y). omega arith), lt-ltb x y l))
    (λ (l : y < x). rw (ne_eqb x y (λ (e : x ≡ y). omega arith), le-ltb x y (le_of_lt l), lt-ltb y x l)) h)
    (three x y)

pub same_bytes_lem : (a b : List ℕ) → same_bytes a b ≡ same_key a b
unfolding same_bytes same_key compare_keys
same_bytes_lem [] [] = refl
same_bytes_lem [] (y ∷ b) = refl
same_bytes_lem (x ∷ a) [] = refl
same_bytes_lem (x ∷ a) (y ∷ b) = ap (λ (t : Bool). eqb x y and t) (same_bytes_lem a b) ∙ same_step x y (compare_keys a b)

-- keys that are one list, and keys that are not
pub same_list : {a b : List ℕ} → a ≡ b → true ≡ same_key a b
same_list {a} e = sym (ap (same_key a) (sym e) ∙ same_refl a)

pub other_list : (a b : List ℕ) → (a ≡ b → ⊥) → false ≡ same_key a b
other_list a b h = go (same_key a b) refl
  where
    go : (t : Bool) → same_key a b ≡ t → false ≡ t
    go true e = absurd (h (same_is a b e))
    go false e = refl

-- keys of different lengths are not one
pub differ_by_length : (a b : List ℕ) → (length a ≡ length b → ⊥) → false ≡ same_key a b
differ_by_length a b h = other_list a b (λ (e : a ≡ b). h (ap length e))

-- two parts of each: the ends from m on, and what stands in front of them
module _ (a b : List ℕ) (m : ℕ) {t : Bool} (is : t ≡ same_key (drop m a) (drop m b)) where
  pub differ_by_end : t ≡ false → false ≡ same_key a b
  differ_by_end f = other_list a b (λ (e : a ≡ b). neither (sym (same_list (ap (drop m) e))) (sym is ∙ f))

  pub same_by_front : {r : Bool} → t ≡ true → r ≡ same_key (take m a) (take m b) → r ≡ same_key a b
  same_by_front {r} e i = i ∙ go (same_key (take m a) (take m b)) refl
    where
      behind : drop m a ≡ drop m b
      behind = same_is _ _ (sym is ∙ e)

      go : (v : Bool) → same_key (take m a) (take m b) ≡ v → v ≡ same_key a b
      go true q = same_list (sym (take-append-drop m a) ∙ (λ z. same_is _ _ q z ++ behind z) ∙ take-append-drop m b)
      go false q = other_list a b (λ (f : a ≡ b). neither (sym (same_list (ap (take m) f))) q)

-- A WALK OVER THE FIRST n BYTES OF TWO KEYS, from the last of them on: from i on they are the same
pub record FrontSame (a b : List ℕ) (n i : ℕ) : Type 0 where
  pub inside : i ≤ n
  pub rest : drop i (take n a) ≡ drop i (take n b)

module _ {a b : List ℕ} {n : ℕ} (h : n ≤ length a) (k : n ≤ length b) where
  pub front_none : FrontSame a b n n
  front_none = record {
    inside = omega arith;
    rest =
        drop_of_length-le (take n a) {i = n} (omega (arith, length-take-le n a h))
        ∙ sym (drop_of_length-le (take n b) {i = n} (omega (arith, length-take-le n b k)));
  }

  module _ {i : ℕ} (s : FrontSame a b n i) (p : 0 < i) where
    -- the byte before is the same
    pub front_more : get_or a (i - 1) 0 ≡ get_or b (i - 1) 0 → FrontSame a b n (i - 1)
    front_more e =
        let j = i - 1 in
        let l : j < n = omega (arith, s.inside) in
        let n' : suc j ≡ i = omega arith in
        let at : get_or (take n a) j 0 ≡ get_or (take n b) j 0 = get_or-take n a j 0 l ∙ e ∙ sym (get_or-take n b j 0 l) in
        let behind : drop (suc j) (take n a) ≡ drop (suc j) (take n b) = ap (λ (x : ℕ). drop x (take n a)) n' ∙ s.rest ∙ ap (λ (x : ℕ). drop x (take n b)) (sym n') in
        record {
          inside = omega (arith, s.inside);
          rest =
              drop-cons (take n a) j 0 (omega (arith, length-take-le n a h)) ∙ (λ z. at z ∷ behind z)
              ∙ sym (drop-cons (take n b) j 0 (omega (arith, length-take-le n b k)));
        }

    pub front_other : (get_or a (i - 1) 0 ≡ get_or b (i - 1) 0 → ⊥) → false ≡ same_key (take n a) (take n b)
    front_other ne =
        let l : i - 1 < n = omega (arith, s.inside) in
        other_list (take n a) (take n b)
        (λ e. ne (sym (get_or-take n a (i - 1) 0 l) ∙ ap (λ (x : List ℕ). get_or x (i - 1) 0) e ∙ get_or-take n b (i - 1) 0 l))

  pub front_all : {i : ℕ} → FrontSame a b n i → i ≤ 0 → true ≡ same_key (take n a) (take n b)
  front_all {i} s z =
      let e : 0 ≡ i = omega arith in
      same_list (ap (λ (x : ℕ). drop x (take n a)) e ∙ s.rest ∙ ap (λ (x : ℕ). drop x (take n b)) (sym e))

-- `==` on two keys
pub same_key-Decides : (a b : List ℕ) → Decides (same_key a b) (a ≡ b)
same_key-Decides a b = (same_is a b, λ (e : a ≡ b). sym (same_list e))

pub equal_bytes : (a b : List ℕ) → bytes_eq a b ≡ same_key a b
equal_bytes a b = same_from_decides _ _ (bytes_eq-Decides a b) (same_key-Decides a b)

-- THE ORDER OF VERSIONS
turn_then : (o p : Ordering) → then_by (turned o) (turned p) ≡ turned (then_by o p)
turn_then Less p = refl
turn_then Equal p = refl
turn_then Greater p = refl

pub versions_turned : (a : List ℕ) (s : ℕ) (b : List ℕ) (t : ℕ) → order_of_versions b t a s ≡ turned (order_of_versions a s b t)
unfolding order_of_versions
versions_turned a s b t =
    (λ z. then_by (compare_turned a b z) (turn_first t s Equal z)) ∙ turn_then (compare_keys a b) (order_by (ltb t s) (ltb s t) Equal)

-- two versions of different sequences are not equal
pub versions_differ : (a : List ℕ) (s : ℕ) (b : List ℕ) (t : ℕ) → s < t → order_of_versions a s b t ≡ Equal → ⊥
unfolding order_of_versions
versions_differ a s b t h e = go (compare_keys a b) (simp (le-ltb t s (le_of_lt h), lt-ltb s t h) at e)
  where
    go : (o : Ordering) → then_by o Greater ≡ Equal → ⊥
    go Less q = let z : ◌≡◌ {A = ℕ} 0 1 = cc in omega arith
    go Equal q = let z : ◌≡◌ {A = ℕ} 0 1 = cc in omega arith
    go Greater q = let z : ◌≡◌ {A = ℕ} 0 1 = cc in omega arith

-- the order of versions as a relation: by key, or of one key the higher sequence first
abbrev pub Precedes : List ℕ → ℕ → List ℕ → ℕ → Type 0
Precedes a s b t = (compare_keys a b ≡ Less) ⊎ ((a ≡ b) × (t < s))

pub precedes : (a : List ℕ) (s : ℕ) (b : List ℕ) (t : ℕ) → order_of_versions a s b t ≡ Less → Precedes a s b t
unfolding order_of_versions
precedes a s b t e = go (compare_keys a b) refl e
  where
    go : (o : Ordering) → compare_keys a b ≡ o → then_by o (order_by (ltb t s) (ltb s t) Equal) ≡ Less → Precedes a s b t
    go Less f h = inl f
    go Greater f h = let z : ◌≡◌ {A = ℕ} 0 1 = cc in absurd (omega arith)
    go Equal f h = inr (compare_equal a b f, ⊎_elim (λ (k : t < s). k) (λ (k : (t ≡ s) × (Equal ≡ Less)). let e : Equal ≡ Less = k.1 in let z : ◌≡◌ {A = ℕ} 0 1 = cc in absurd (omega arith)) (less_cases t s Equal h))

pub precedes_trans : {a b c : List ℕ} {s t u : ℕ} → Precedes a s b t → Precedes b t c u → Precedes a s c u
precedes_trans {a} {b} {c} (inl p) (inl q) = inl (compare_trans a b c p q)
precedes_trans {a} {b} {c} (inl p) (inr q) = inl (subst (λ (x : List ℕ). compare_keys a x ≡ Less) q.0 p)
precedes_trans {a} {b} {c} (inr p) (inl q) = inl (subst (λ (x : List ℕ). compare_keys x c ≡ Less) (sym p.0) q)
precedes_trans {a} {b} {c} (inr p) (inr q) = inr (p.0 ∙ q.0, omega (arith, p.1, q.1))

-- of one key, the version that precedes has the higher sequence
pub precedes_higher : (a : List ℕ) (s t : ℕ) → Precedes a s a t → t < s
precedes_higher a s t (inl p) = let e : compare_keys a a ≡ turned (compare_keys a a) = compare_turned a a in let f : Less ≡ turned Less = sym p ∙ e ∙ ap turned p in let z : ◌≡◌ {A = ℕ} 0 1 = cc in absurd (omega arith)
precedes_higher a s t (inr q) = q.1

-- the relation gives the order back
pub precedes_back : (a : List ℕ) (s : ℕ) (b : List ℕ) (t : ℕ) → Precedes a s b t → order_of_versions a s b t ≡ Less
unfolding order_of_versions
precedes_back a s b t (inl p) = rw p
precedes_back a s b t (inr q) = rw (subst (λ (x : List ℕ). compare_keys a x ≡ Equal) q.0 (compare_refl a), lt-ltb t s q.1)

-- A WALK OVER TWO KEYS, as `compare` makes it
-- the keys compare as what is left of them from i on does
both : (a b : List ℕ) (i : ℕ) → i < length a → i < length b → compare_keys (drop i a) (drop i b)
    ≡ order_by (ltb (get_or a i 0) (get_or b i 0)) (ltb (get_or b i 0) (get_or a i 0)) (compare_keys (drop (i + 1) a) (drop (i + 1) b))
unfolding compare_keys
both a b i h k = rw (add-one, drop-cons a i 0, drop-cons b i 0)

module _ {a b : List ℕ} {i : ℕ} (al : Alike a b i) where
  -- the bytes at i are equal
  pub alike_more : i < length a → i < length b → get_or a i 0 ≡ get_or b i 0 → Alike a b (i + 1)
  alike_more h k e = record {
    in_a = omega arith;
    in_b = omega arith;
    rest = al.rest ∙ both a b i h k ∙ simp (le-ltb (get_or a i 0) (get_or b i 0) (omega (arith, e)), le-ltb (get_or b i 0) (get_or a i 0) (omega (arith, e)));
  }

  -- they are not: their order is that of the keys
  pub byte_here : {o : Ordering} → i < length a → i < length b → (get_or a i 0 ≡ get_or b i 0 → ⊥) → o ≡ nat_cmp (get_or a i 0) (get_or b i 0) → o ≡ compare_keys a b
  byte_here h k n e = e ∙ ⊎_elim
      (λ (z : get_or a i 0 ≡ get_or b i 0). absurd (n z))
      (λ (u : (get_or a i 0 < get_or b i 0) ⊎ (get_or b i 0 < get_or a i 0)). ⊎_elim
      (λ (l : get_or a i 0 < get_or b i 0). number_less l ∙ sym (al.rest ∙ both a b i h k ∙ simp (lt-ltb _ _ l)))
      (λ (l : get_or b i 0 < get_or a i 0). number_greater l ∙ sym (al.rest ∙ both a b i h k ∙ simp (le-ltb _ _ (le_of_lt l), lt-ltb _ _ l))) u)
      (three (get_or a i 0) (get_or b i 0))

  -- only the first has a byte at i
  pub longer : i < length a → length b ≤ i → Greater ≡ compare_keys a b
  unfolding compare_keys
  longer h k = rw (al.rest, drop-cons a i 0, drop_of_length-le b {i = i} k)

  -- the first ends at i
  pub shorter : length a ≤ i → i < length b → Less ≡ compare_keys a b
  unfolding compare_keys
  shorter h k = rw (al.rest, drop_of_length-le a {i = i} h, drop-cons b i 0)

  -- both end at i
  both_end : length a ≤ i → length b ≤ i → Equal ≡ compare_keys a b
  unfolding compare_keys
  both_end h k = rw (al.rest, drop_of_length-le a {i = i} h, drop_of_length-le b {i = i} k)

  -- one key ends at i, or both: their lengths order them
  pub ended : {o : Ordering} → min (length a) (length b) ≤ i → o ≡ nat_cmp (length a) (length b) → o ≡ compare_keys a b
  ended h e = e ∙ ⊎_elim
      (λ (z : length a ≡ length b). number_equal z ∙ both_end (omega (arith, al.in_a)) (omega (arith, al.in_b)))
      (λ (u : (length a < length b) ⊎ (length b < length a)). ⊎_elim
      (λ (l : length a < length b). number_less l ∙ shorter (omega arith) (omega (arith, al.in_a)))
      (λ (l : length b < length a). number_greater l ∙ longer (omega (arith, al.in_b)) (omega arith)) u)
      (three (length a) (length b))

-- The order of versions, from how their keys and their sequences compare.
module _ (a : List ℕ) (s : ℕ) (b : List ℕ) (t : ℕ) {o : Ordering} (is : o ≡ compare_keys a b) where
  pub by_key : (o ≡ Equal → ⊥) → o ≡ order_of_versions a s b t
  unfolding order_of_versions
  by_key n = go o n ∙ ap (λ (p : Ordering). then_by p (order_by (ltb t s) (ltb s t) Equal)) is
    where
      go : (p : Ordering) → (p ≡ Equal → ⊥) → p ≡ then_by p (order_by (ltb t s) (ltb s t) Equal)
      go Less h = refl
      go Greater h = refl
      go Equal h = absurd (h refl)

  pub by_seq : {r : Ordering} → o ≡ Equal → r ≡ nat_cmp t s → r ≡ order_of_versions a s b t
  unfolding order_of_versions
  by_seq e f = f ∙ number_order t s ∙ ap (λ (p : Ordering). then_by p (order_by (ltb t s) (ltb s t) Equal)) (sym e ∙ is)
