-- Laws of arguments by their places. Assumes nothing.
use mathlib.Core.Path.{◌≡◌, refl, sym, ap, ◌∙◌}
use mathlib.Core.List.{List, [], ◌∷◌, ◌++◌, map}
use Rattle.std.specs.Prelude.{Some}
use Prim.Native.Nat.{ℕ, zero, suc, ◌+◌, ◌-◌, ◌*◌, ◌<◌, ◌≤◌}
use native.Mathlib.Nat.{zero-add, add-zero, add-suc, suc-add, add_assoc}
use native.Mathlib.Numerals.{add-one, add-two}
use native.Mathlib.Omega.{arith}
use lib.ListN.{length, get_or, length-map}
use Rattle.base_key.proofs.Bytes.{length_part_lem}
use Rattle.base_key.specs.Bytes.{Bytes, total}
use Rattle.store_memtable.specs.Versions.{writes_size}
use Rattle.group_spec.specs.Settling.{KeyIn}
use Rattle.command_spec.specs.Names.{Args, name_word, arguments}
use Rattle.command_spec.specs.Command.{argument, tombstone, put, pairs_of}
use Rattle.command_spec.specs.Places.{argument_at, arguments_at, lengths_at, tombstones_at, pairs_at, PartsIn, places_of}

pub lengths_next : (p : List ℕ) (count i : ℕ) → i < count → lengths_at i (count - i) p ≡ get_or p (2 * i + 1) 0 ∷ lengths_at (i + 1) (count - (i + 1)) p
unfolding lengths_at
lengths_next p count i h =
    let e : count - i ≡ suc (count - (i + 1)) = omega arith in
    ap (λ (n : ℕ). lengths_at i n p) e ∙ ap (λ (n : ℕ). get_or p (2 * i + 1) 0 ∷ lengths_at n (count - (i + 1)) p) (sym (add-one i))

pub lengths_end : (p : List ℕ) (count i : ℕ) → count ≤ i → lengths_at i (count - i) p ≡ []
unfolding lengths_at
lengths_end p count i h = let e : count - i ≡ 0 = omega arith in ap (λ (n : ℕ). lengths_at i n p) e

pub lengths_snoc : (k n : ℕ) (p : List ℕ) → lengths_at k (suc n) p ≡ lengths_at k n p ++ get_or p (2 * (k + n) + 1) 0 ∷ []
unfolding lengths_at
lengths_snoc k zero p = ap (λ (m : ℕ). get_or p (2 * m + 1) 0 ∷ []) (sym (add-zero k))
lengths_snoc k (suc n) p =
    let e : suc k + n ≡ k + suc n = suc-add k n ∙ sym (add-suc k n) in
    ap (λ (l : List ℕ). get_or p (2 * k + 1) 0 ∷ l) (lengths_snoc (suc k) n p ∙ ap (λ (m : ℕ). lengths_at (suc k) n p ++ get_or p (2 * m + 1) 0 ∷ []) e)

pub lengths_count : (k n : ℕ) (p : List ℕ) → length (lengths_at k n p) ≡ n
unfolding lengths_at
lengths_count k zero p = refl
lengths_count k (suc n) p = ap suc (lengths_count (suc k) n p)

-- one argument of many
pub part_in : (p : List ℕ) (s : Bytes) (m k : ℕ) → PartsIn p s m → k < m → KeyIn p s (2 * k)
part_in p s m k q h = record { words_in = omega (arith, q.table); key_in = q.inside k h }

argument_long : (p : List ℕ) (s : Bytes) (k : ℕ) → get_or p (2 * k) 0 + get_or p (2 * k + 1) 0 ≤ length s → length (argument_at k p s) ≡ get_or p (2 * k + 1) 0
argument_long p s k h = length_part_lem (get_or p (2 * k) 0) (get_or p (2 * k + 1) 0) s h

argument_from : (j n k : ℕ) (p : List ℕ) (s : Bytes) → k < n → argument k (arguments_at j n p s) ≡ argument_at (j + k) p s
unfolding arguments_at
argument_from j zero k p s h = absurd (omega arith)
argument_from j (suc n) zero p s h = ap (λ (m : ℕ). argument_at m p s) (sym (add-zero j))
argument_from j (suc n) (suc k) p s h = argument_from (suc j) n k p s (omega arith) ∙ ap (λ (m : ℕ). argument_at m p s) (suc-add j k ∙ sym (add-suc j k))

pub argument_is : (p : List ℕ) (s : Bytes) (count k : ℕ) {r : Bytes} → k < count → r ≡ argument_at k p s → r ≡ argument k (arguments_at 0 count p s)
argument_is p s count k h e = e ∙ sym (argument_from 0 count k p s h ∙ ap (λ (m : ℕ). argument_at m p s) (zero-add k))

-- argument i, and those behind it
pub arguments_next : (p : List ℕ) (s : Bytes) {to i : ℕ} → i < to → arguments_at i (to - i) p s ≡ argument_at i p s ∷ arguments_at (i + 1) (to - (i + 1)) p s
unfolding arguments_at
arguments_next p s {to} {i} h =
    let e : to - i ≡ suc (to - (i + 1)) = omega arith in
    ap (λ (n : ℕ). arguments_at i n p s) e ∙ ap (λ (n : ℕ). argument_at i p s ∷ arguments_at n (to - (i + 1)) p s) (sym (add-one i))

pub arguments_end : (p : List ℕ) (s : Bytes) {to i : ℕ} → to ≤ i → arguments_at i (to - i) p s ≡ []
unfolding arguments_at
arguments_end p s {to} {i} h = let e : to - i ≡ 0 = omega arith in ap (λ (n : ℕ). arguments_at i n p s) e

pub arguments_snoc : (k n : ℕ) (p : List ℕ) (s : Bytes) → arguments_at k (suc n) p s ≡ arguments_at k n p s ++ argument_at (k + n) p s ∷ []
unfolding arguments_at
arguments_snoc k zero p s = ap (λ (m : ℕ). argument_at m p s ∷ []) (sym (add-zero k))
arguments_snoc k (suc n) p s =
    let e : suc k + n ≡ k + suc n = suc-add k n ∙ sym (add-suc k n) in
    ap (λ (l : Args). argument_at k p s ∷ l) (arguments_snoc (suc k) n p s ∙ ap (λ (m : ℕ). arguments_at (suc k) n p s ++ argument_at m p s ∷ []) e)

pub arguments_count : (k n : ℕ) (p : List ℕ) (s : Bytes) → length (arguments_at k n p s) ≡ n
unfolding arguments_at
arguments_count k zero p s = refl
arguments_count k (suc n) p s = ap suc (arguments_count (suc k) n p s)

pub arguments_lengths : (k n : ℕ) (p : List ℕ) (s : Bytes) → ((j : ℕ) → j < k + n → get_or p (2 * j) 0 + get_or p (2 * j + 1) 0 ≤ length s)
    → map length (arguments_at k n p s) ≡ lengths_at k n p
unfolding arguments_at lengths_at
arguments_lengths k zero p s h = refl
arguments_lengths k (suc n) p s h = λ z. argument_long p s k (h k (omega arith)) z ∷ arguments_lengths (suc k) n p s (λ j l. h j (omega arith)) z

-- the arguments behind the name, and the name
pub arguments_of : (p : List ℕ) (s : Bytes) (count : ℕ) → 1 ≤ count → arguments (arguments_at 0 count p s) ≡ arguments_at 1 (count - 1) p s
unfolding arguments_at
arguments_of p s zero h = absurd (omega arith)
arguments_of p s (suc n) h = let e : n ≡ suc n - 1 = omega arith in ap (λ (m : ℕ). arguments_at 1 m p s) e

pub name_of : (p : List ℕ) (d : Bytes) (count : ℕ) → 1 ≤ count → name_word (arguments_at 0 count p d) ≡ argument 0 (arguments_at 0 count p d)
unfolding arguments_at
name_of p d zero h = absurd (omega arith)
name_of p d (suc n) h = refl

-- TOMBSTONES for the arguments
pub tombstones_next : (p : List ℕ) (s : Bytes) {to i : ℕ} → i < to → tombstones_at i (to - i) p s ≡ tombstone (argument_at i p s) ∷ tombstones_at (i + 1) (to - (i + 1)) p s
unfolding tombstones_at
tombstones_next p s h = ap (map tombstone) (arguments_next p s h)

pub tombstones_end : (p : List ℕ) (s : Bytes) {to i : ℕ} → to ≤ i → tombstones_at i (to - i) p s ≡ []
unfolding tombstones_at
tombstones_end p s h = ap (map tombstone) (arguments_end p s h)

pub tombstones_count : (k n : ℕ) (p : List ℕ) (s : Bytes) → length (tombstones_at k n p s) ≡ n
unfolding tombstones_at
tombstones_count k n p s = length-map (arguments_at k n p s) tombstone ∙ arguments_count k n p s

pub tombstones_size : {p : List ℕ} {s : Bytes} {count : ℕ} (q : PartsIn p s count) (k n : ℕ) → k + n ≤ count → writes_size (tombstones_at k n p s) ≡ total (lengths_at k n p)
unfolding tombstones_at arguments_at lengths_at writes_size total
tombstones_size q k zero h = refl
tombstones_size {p} {s} q k (suc n) h =
    let z : length (argument_at k p s) + 0 ≡ length (argument_at k p s) = omega arith in
    λ i. (z ∙ argument_long p s k (q.inside k (omega arith))) i + tombstones_size q (suc k) n (omega arith) i

-- PAIRS of the arguments: the first, and those behind it
pub pairs_next : (p : List ℕ) (s : Bytes) (i n m : ℕ) → n ≡ m + 2 → pairs_at i n p s ≡ (argument_at i p s, Some (argument_at (i + 1) p s)) ∷ pairs_at (i + 2) m p s
unfolding pairs_at arguments_at pairs_of
pairs_next p s i n m e =
    ap (λ (x : ℕ). map put (pairs_of (arguments_at i x p s))) (e ∙ add-two m)
    ∙ (λ z. (argument_at i p s, Some (argument_at (sym (add-one i) z) p s)) ∷ map put (pairs_of (arguments_at (sym (add-two i) z) m p s)))

pub pairs_end : (p : List ℕ) (s : Bytes) (i n : ℕ) → n ≤ 1 → pairs_at i n p s ≡ []
unfolding pairs_at arguments_at pairs_of
pairs_end p s i zero h = refl
pairs_end p s i (suc zero) h = refl
pairs_end p s i (suc (suc n)) h = absurd (omega arith)

pub pairs_count : (k n : ℕ) (p : List ℕ) (s : Bytes) → length (pairs_at k (2 * n) p s) ≡ n
pairs_count k zero p s = ap length (pairs_end p s k (2 * 0) (omega arith))
pairs_count k (suc n) p s = ap length (pairs_next p s k (2 * suc n) (2 * n) (omega arith)) ∙ ap suc (pairs_count (k + 2) n p s)

pub pairs_size : {p : List ℕ} {s : Bytes} {count : ℕ} (q : PartsIn p s count) (k n : ℕ) → k + 2 * n ≤ count → writes_size (pairs_at k (2 * n) p s) ≡ total (lengths_at k (2 * n) p)
unfolding pairs_at arguments_at lengths_at pairs_of writes_size total
pairs_size {p} {s} q k zero h =
    let e : 2 * 0 ≡ 0 = omega arith in
    ap (λ (m : ℕ). writes_size (map put (pairs_of (arguments_at k m p s)))) e ∙ sym (ap (λ (m : ℕ). total (lengths_at k m p)) e)
pairs_size {p} {s} q k (suc n) h =
    let e : 2 * suc n ≡ suc (suc (2 * n)) = omega arith in
    ap (λ (m : ℕ). writes_size (map put (pairs_of (arguments_at k m p s)))) e
    ∙ (λ i. argument_long p s k (q.inside k (omega arith)) i + argument_long p s (suc k) (q.inside (suc k) (omega arith)) i + pairs_size q (suc (suc k)) n (omega arith) i)
    ∙ add_assoc (get_or p (2 * k + 1) 0) (get_or p (2 * suc k + 1) 0) (total (lengths_at (suc (suc k)) (2 * n) p))
    ∙ sym (ap (λ (m : ℕ). total (lengths_at k m p)) e)

pub places_length : (start : ℕ) (ns : List ℕ) → length (places_of start ns) ≡ 2 * length ns
unfolding places_of
places_length start [] = refl
places_length start (n ∷ ns) = let e : length (places_of (start + n) ns) ≡ 2 * length ns = places_length (start + n) ns in omega arith
