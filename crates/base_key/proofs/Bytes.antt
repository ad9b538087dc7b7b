-- Laws of the definitions in specs/Bytes.antt, and of tests joined by the library's `&&` and `||`. Assumes nothing.
use mathlib.Core.Path.{◌≡◌, refl, sym, ap, ◌∙◌}
use mathlib.Core.Bool.{Bool, true, false, ◌&&◌, ◌||◌, false≢true}
use mathlib.Core.List.{List, [], ◌∷◌, ◌++◌, map, append_assoc}
use Prim.Native.Nat.{ℕ, ◌+◌, ◌-◌, ◌≤◌}
use native.Mathlib.Omega.{arith}
use lib.ListN.{length, drop, length-append, length-drop}
use lib.Seq.{drop-drop, drop-append-add, length-take-le}
use Rattle.base_key.specs.Bytes.{◌and◌, part, over_front, concat, total}

-- THE SHUT CONJUNCTION
pub and_left : (a b : Bool) → a and b ≡ true → a ≡ true
unfolding ◌and◌
and_left true b e = refl
and_left false b e = e

pub and_right : (a b : Bool) → a and b ≡ true → b ≡ true
unfolding ◌and◌
and_right true b e = e
and_right false b e = absurd (false≢true e)

pub and_both : (a b : Bool) → a ≡ true → b ≡ true → a and b ≡ true
unfolding ◌and◌
and_both true b e f = f
and_both false b e f = e

pub and-false : (a : Bool) → a and false ≡ false
unfolding ◌and◌
and-false true = refl
and-false false = refl

-- THE OPEN CONJUNCTION AND DISJUNCTION
pub both_parts : (a b : Bool) → (a && b) ≡ true → (a ≡ true) × (b ≡ true)
both_parts true b e = (refl, e)
both_parts false b e = absurd (false≢true e)

pub or_none : (a : Bool) → a ≡ (a || false)
or_none true = refl
or_none false = refl

-- a part said twice
pub or_twice : (a c : Bool) → (a || c) ≡ (a || (a || c))
or_twice true c = refl
or_twice false c = refl

-- two parts that change places
pub or_swap : (a b c : Bool) → (a || (b || c)) ≡ (b || (a || c))
or_swap true true c = refl
or_swap true false c = refl
or_swap false b c = refl

pub or_cases : {A : Type 0} (a b : Bool) → (a || b) ≡ true → (a ≡ true → A) → (b ≡ true → A) → A
or_cases true b e f g = f refl
or_cases false b e f g = g e

pub or_right_false : (a b : Bool) → (a || b) ≡ false → b ≡ false
or_right_false true b e = absurd (false≢true (sym e))
or_right_false false b e = e

-- no test has both answers
pub neither : {A : Type 0} {b : Bool} → b ≡ true → b ≡ false → A
neither p q = absurd (false≢true (sym q ∙ p))

-- PARTS
-- a part that lies within the list is as long as asked for
pub length_part_lem : {A : Type 0} (start size : ℕ) (l : List A) → start + size ≤ length l → length (part start size l) ≡ size
length_part_lem start size l h = length-take-le size (drop start l) (rw length-drop (omega arith))

-- what is written over the front of a list that holds it leaves the length
pub length_over_front : {A : Type 0} (f l : List A) → length f ≤ length l → length (over_front f l) ≡ length l
unfolding over_front
length_over_front f l h = simp (length-append, length-drop) (omega arith)

-- what is written over a front that is not longer leaves what it would have left before
pub over_front_again : {A : Type 0} (f g l : List A) → length g ≤ length f → over_front f (over_front g l) ≡ over_front f l
unfolding over_front
over_front_again f g l h =
    let m : length g + (length f - length g) ≡ length f = omega arith in
    ap (λ (x : List _). f ++ x)
    (ap (λ (n : ℕ). drop n (g ++ drop (length g) l)) (sym m) ∙ drop-append-add g (drop (length g) l) (length f - length g)
    ∙ drop-drop (length f - length g) (length g) l ∙ ap (λ (n : ℕ). drop n l) m)

-- LISTS ONE BEHIND THE OTHER
pub length_concat : {A : Type 0} (ls : List (List A)) → length (concat ls) ≡ total (map length ls)
unfolding concat total
length_concat [] = refl
length_concat (l ∷ ls) = length-append l (concat ls) ∙ ap (λ (n : ℕ). length l + n) (length_concat ls)

pub concat_append : {A : Type 0} (s t : List (List A)) → concat (s ++ t) ≡ concat s ++ concat t
unfolding concat
concat_append [] t = refl
concat_append (x ∷ s) t = ap (λ (l : List _). x ++ l) (concat_append s t) ∙ sym (append_assoc x (concat s) (concat t))
