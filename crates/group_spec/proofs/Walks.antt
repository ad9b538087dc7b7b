-- Laws of walks over a part of the table: `list_from` and `all_from` by their next place, and by all their places. Assumes nothing.
use Prim.Native.Nat.{ℕ, zero, suc, ◌+◌, ◌-◌, ◌≤◌, ◌<◌}
use native.Mathlib.Nat.{add-zero, sub-zero, eq-or-lt_of_le}
use native.Mathlib.Numerals.{add-one}
use native.Mathlib.Omega.{arith}
use mathlib.Core.Path.{◌≡◌, refl, sym, ap, ◌∙◌}
use mathlib.Core.Logic.{⊎_elim}
use mathlib.Core.Bool.{Bool, true, false, ◌&&◌, ◌||◌, false≢true}
use mathlib.Core.List.{List, [], ◌∷◌, ◌++◌}
use lib.ListN.{length, take, drop}
use Rattle.std.specs.List.{list_all, list_any, range_with_len}
use Rattle.base_key.specs.Keys.{Key}
use Rattle.group_spec.specs.Group.{any_key}
use Rattle.group_spec.specs.Members.{list_from, all_from}

module _ {i e : ℕ} where
  rest_one : i < e → e - i ≡ suc (e - (i + 1))
  rest_one h = omega arith

  rest_none : e ≤ i → e - i ≡ 0
  rest_none h = omega arith

  pub list_next : {A : Type 0} (f : ℕ → A) → i < e → list_from f i (e - i) ≡ f i ∷ list_from f (i + 1) (e - (i + 1))
  unfolding list_from
  list_next f h = ap (list_from f i) (rest_one h) ∙ ap (λ (j : ℕ). f i ∷ list_from f j (e - (i + 1))) (sym (add-one i))

  pub list_end : {A : Type 0} (f : ℕ → A) → e ≤ i → list_from f i (e - i) ≡ []
  unfolding list_from
  list_end f h = ap (list_from f i) (rest_none h)

  pub all_yes : (f : ℕ → Bool) → i < e → f i ≡ true → all_from f i (e - i) ≡ all_from f (i + 1) (e - (i + 1))
  unfolding all_from
  all_yes f h p =
      ap (all_from f i) (rest_one h)
      ∙ ap (λ (t : Bool). elim t [ true ↦ all_from f (suc i) (e - (i + 1)) | false ↦ false ]) p
      ∙ ap (λ (j : ℕ). all_from f j (e - (i + 1))) (sym (add-one i))

  pub all_no : (f : ℕ → Bool) → i < e → f i ≡ false → all_from f i (e - i) ≡ false
  unfolding all_from
  all_no f h p = ap (all_from f i) (rest_one h) ∙ ap (λ (t : Bool). elim t [ true ↦ all_from f (suc i) (e - (i + 1)) | false ↦ false ]) p

  -- what holds at all places holds at the next
  pub all_here : (f : ℕ → Bool) → i < e → all_from f i (e - i) ≡ true → f i ≡ true
  all_here f h a = go (f i) refl
    where
      go : (t : Bool) → f i ≡ t → f i ≡ true
      go true p = p
      go false p = absurd (false≢true (sym (all_no f h p) ∙ a))

  pub all_later : (f : ℕ → Bool) → i < e → all_from f i (e - i) ≡ true → all_from f (i + 1) (e - (i + 1)) ≡ true
  all_later f h a = sym (all_yes f h (all_here f h a)) ∙ a

-- lists by all their places
pub list_long : {A : Type 0} (f : ℕ → A) (j n : ℕ) → length (list_from f j n) ≡ n
unfolding list_from
list_long f j zero = refl
list_long f j (suc n) = ap suc (list_long f (suc j) n)

module _ {A : Type 0} where
  pub take_list : (f : ℕ → A) (p i n : ℕ) → p ≤ n → take p (list_from f i n) ≡ list_from f i p
  unfolding list_from
  take_list f zero i n h = refl
  take_list f (suc p) i zero h = absurd (omega arith)
  take_list f (suc p) i (suc n) h = ap (λ (l : List A). f i ∷ l) (take_list f p (suc i) n (omega arith))

  pub drop_list : (f : ℕ → A) (p i n : ℕ) → p ≤ n → drop p (list_from f i n) ≡ list_from f (i + p) (n - p)
  unfolding list_from
  drop_list f zero i n h = rw (add-zero i, sub-zero n)
  drop_list f (suc p) i zero h = absurd (omega arith)
  drop_list f (suc p) i (suc n) h =
      let e : suc i + p ≡ i + suc p = omega arith in
      let m : n - p ≡ suc n - suc p = omega arith in
      drop_list f p (suc i) n (omega arith) ∙ (λ z. list_from f (e z) (m z))

  pub join_list : (f : ℕ → A) (i p n : ℕ) → list_from f i (p + n) ≡ list_from f i p ++ list_from f (i + p) n
  unfolding list_from
  join_list f i zero n = let e : 0 + n ≡ n = omega arith in rw (add-zero i, e)
  join_list f i (suc p) n =
      let e : suc p + n ≡ suc (p + n) = omega arith in
      let m : suc i + p ≡ i + suc p = omega arith in
      ap (list_from f i) e ∙ ap (λ (l : List A). f i ∷ l) (join_list f (suc i) p n ∙ ap (λ (x : ℕ). list_from f (suc i) p ++ list_from f x n) m)

  -- the same at each place
  pub same_list : (f g : ℕ → A) (i j n : ℕ) → ((m : ℕ) → m < n → f (i + m) ≡ g (j + m)) → list_from f i n ≡ list_from g j n
  unfolding list_from
  same_list f g i j zero h = refl
  same_list f g i j (suc n) h =
      let e : f i ≡ g j = ap f (sym (add-zero i)) ∙ h 0 (omega arith) ∙ ap g (add-zero j) in
      let t : list_from f (suc i) n ≡ list_from g (suc j) n =
      same_list f g (suc i) (suc j) n
      (λ m l. let a : suc i + m ≡ i + suc m = omega arith in let b : j + suc m ≡ suc j + m = omega arith in ap f a ∙ h (suc m) (omega arith) ∙ ap g b) in
      λ z. e z ∷ t z

-- a test that holds at each place
pub all_of : (f : ℕ → Bool) (i n : ℕ) → ((m : ℕ) → m < n → f (i + m) ≡ true) → all_from f i n ≡ true
unfolding all_from
all_of f i zero h = refl
all_of f i (suc n) h =
    let e : f i ≡ true = ap f (sym (add-zero i)) ∙ h 0 (omega arith) in
    let t : all_from f (suc i) n ≡ true = all_of f (suc i) n (λ m l. let a : suc i + m ≡ i + suc m = omega arith in ap f a ∙ h (suc m) (omega arith)) in
    ap (λ (b : Bool). elim b [ true ↦ all_from f (suc i) n | false ↦ false ]) e ∙ t

-- and at each of them
pub all_at : (f : ℕ → Bool) (i n k : ℕ) → all_from f i n ≡ true → i ≤ k → k < i + n → f k ≡ true
unfolding all_from
all_at f i zero k e l h = absurd (omega arith)
all_at f i (suc n) k e l h = go (f i) refl e (λ q z. all_at f (suc i) n k q z (omega arith))
  where
    go : (t : Bool) → f i ≡ t → elim t [ true ↦ all_from f (suc i) n | false ↦ false ] ≡ true → (all_from f (suc i) n ≡ true → i < k → f k ≡ true) → f k ≡ true
    go true p q later = ⊎_elim (λ (z : i ≡ k). ap f (sym z) ∙ p) (λ (z : i < k). later q z) (eq-or-lt_of_le l)
    go false p q later = absurd (false≢true q)

-- a chain over the places
pub all_listed : (f : ℕ → Bool) (i n : ℕ) → list_all f (range_with_len i n) ≡ all_from f i n
unfolding all_from
all_listed f i zero = refl
all_listed f i (suc n) = rw add-one (go (f i) (all_listed f (suc i) n))
  where
    go : (t : Bool) → list_all f (range_with_len (suc i) n) ≡ all_from f (suc i) n → t && list_all f (range_with_len (suc i) n) ≡ elim t [ true ↦ all_from f (suc i) n | false ↦ false ]
    go true ih = ih
    go false ih = refl

pub any_listed : (f : Key → Bool) (g : ℕ → Key) (i n : ℕ) → list_any (λ j. f (g j)) (range_with_len i n) ≡ any_key f (list_from g i n)
unfolding list_from any_key
any_listed f g i zero = refl
any_listed f g i (suc n) = rw add-one (ap (λ (t : Bool). f (g i) || t) (any_listed f g (suc i) n))
