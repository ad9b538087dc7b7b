-- Laws of a sum with a limit. Assumes nothing.
use mathlib.Core.Path.{◌≡◌, refl, sym, ap, ◌∙◌}
use mathlib.Core.List.{List, ◌∷◌}
use Prim.Native.Nat.{ℕ, zero, suc, ◌+◌, ◌-◌, ◌*◌, ◌<◌, ◌≤◌}
use native.Mathlib.Omega.{arith}
use borrow.Author.Tests.{le-leb, lt-leb}
use lib.ListN.{length, get_or}
use Rattle.base_key.specs.Bytes.{part, total}
use Rattle.command_spec.specs.Lent.{capped}
use Rattle.command_spec.specs.Places.{lengths_at}
use Rattle.command_spec.proofs.Parts.{part_cons}
use Rattle.session_memory.specs.Every.{every}

-- A CAPPED NUMBER.
pub capped_low : (limit n : ℕ) → n ≤ limit → capped limit n ≡ n
unfolding capped
capped_low limit n h = rw (le-leb n limit h)

pub capped_high : (limit n : ℕ) → limit < n → capped limit n ≡ limit + 1
unfolding capped
capped_high limit n h = rw (lt-leb n limit h)

-- WORDS AT EQUAL DISTANCES
every_next : (w : List ℕ) (from step count i : ℕ) → i < count → every (from + step * i) step (count - i) w ≡ get_or w (from + step * i) 0 ∷ every (from + step * (i + 1)) step (count - (i + 1)) w
unfolding every
every_next w from step count i h =
    let e : count - i ≡ suc (count - (i + 1)) = omega arith in
    let f : from + step * i + step ≡ from + step * (i + 1) = omega arith in
    ap (λ (n : ℕ). every (from + step * i) step n w) e ∙ ap (λ (n : ℕ). get_or w (from + step * i) 0 ∷ every n step (count - (i + 1)) w) f

-- at distance 1 they are a part
pub every_part : (from n : ℕ) (w : List ℕ) → from + n ≤ length w → every from 1 n w ≡ part from n w
unfolding every
every_part from zero w h = refl
every_part from (suc n) w h = ap (λ (l : List ℕ). get_or w from 0 ∷ l) (every_part (from + 1) n w (omega arith)) ∙ sym (part_cons w from n 0 (omega arith))

-- at distance 2, lengths of places
pub every_lengths : (k n : ℕ) (p : List ℕ) → every (2 * k + 1) 2 n p ≡ lengths_at k n p
unfolding every lengths_at
every_lengths k zero p = refl
every_lengths k (suc n) p =
    let e : 2 * k + 1 + 2 ≡ 2 * suc k + 1 = omega arith in
    ap (λ (l : List ℕ). get_or p (2 * k + 1) 0 ∷ l) (ap (λ (m : ℕ). every m 2 n p) e ∙ every_lengths (suc k) n p)

-- the lengths from the first place on
pub first_lengths : (n : ℕ) (p : List ℕ) → every 1 2 n p ≡ lengths_at 0 n p
first_lengths n p = every_lengths 0 n p

-- `i` of the words are summed
pub record Summing (w : List ℕ) (from step count limit i sum : ℕ) : Type 0 where
  pub small : sum ≤ limit
  pub is : total (every from step count w) ≡ sum + total (every (from + step * i) step (count - i) w)

module _ {w : List ℕ} {from step count limit i sum : ℕ} (s : Summing w from step count limit i sum) where
  summed_next : i < count → total (every from step count w) ≡ sum + (get_or w (from + step * i) 0 + total (every (from + step * (i + 1)) step (count - (i + 1)) w))
  unfolding total
  summed_next h = s.is ∙ ap (λ (l : List ℕ). sum + total l) (every_next w from step count i h)

  pub summing_more : {more : ℕ} → more ≡ get_or w (from + step * i) 0 → i < count → more ≤ limit - sum → Summing w from step count limit (i + 1) (sum + more)
  summing_more e h l = record { small = omega arith; is = summed_next h ∙ omega arith }

  pub sum_above : {more : ℕ} → more ≡ get_or w (from + step * i) 0 → i < count → limit - sum < more → limit + 1 ≡ capped limit (total (every from step count w))
  sum_above e h l = sym (capped_high limit (total (every from step count w)) (omega (arith, summed_next h)))

  pub summed_all : count ≤ i → sum ≡ capped limit (total (every from step count w))
  unfolding total every
  summed_all h =
      let n : count - i ≡ 0 = omega arith in
      let e : total (every from step count w) ≡ sum = s.is ∙ ap (λ (n : ℕ). sum + total (every (from + step * i) step n w)) n ∙ omega arith in
      sym (capped_low limit (total (every from step count w)) (omega arith) ∙ e)
