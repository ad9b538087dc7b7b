-- Laws of the places of queued arguments. Assumes nothing.
use mathlib.Core.Path.{◌≡◌, refl, sym, ap, ◌∙◌}
use mathlib.Core.Bool.{Bool, true, ◌&&◌}
use mathlib.Core.List.{List, [], ◌∷◌, ◌++◌, append_assoc}
use Prim.Native.Nat.{ℕ, zero, suc, ◌+◌, ◌-◌, ◌*◌, ◌<◌, ◌≤◌}
use native.Mathlib.Nat.{zero-add, add-zero, add-suc, add_assoc}
use native.Mathlib.Numerals.{add-one}
use native.Mathlib.Omega.{arith}
use borrow.Author.Tests.{leb-true}
use lib.Dec.{leb}
use lib.ListN.{length, get_or, take, drop, set, length-append, length-set, length-drop}
use lib.Seq.{drop-drop, take-take, take-suc, get_or-drop, get_or-append-add}
use Rattle.base_key.proofs.Bytes.{both_parts, length_part_lem}
use Rattle.command_spec.proofs.PlaceLaws.{places_length}
use Rattle.base_key.specs.Bytes.{Bytes, part, concat, total, put_at}
use Rattle.command_spec.specs.Session.{queue_fits}
use Rattle.command_spec.specs.Sessions.{split_by, queue_in}
use Rattle.command_spec.specs.Held.{Held}
use Rattle.command_spec.specs.Places.{arguments_at, lengths_at, PartsIn, HasRoom, places_of, Expandable}
use Rattle.command_spec.proofs.Parts.{part_next, part_start, part_part, total_append}
use Rattle.base_key.proofs.Writes.{written_none, written_set}
use Rattle.session_memory.proofs.Kept.{queue_arguments}
use Rattle.session_memory.proofs.Queueing.{fits_as}

places_snoc : (start : ℕ) (ns : List ℕ) (n : ℕ) → places_of start (ns ++ n ∷ []) ≡ places_of start ns ++ (start + total ns) ∷ n ∷ []
unfolding places_of total
places_snoc start [] n = ap (λ (m : ℕ). m ∷ n ∷ []) (sym (add-zero start))
places_snoc start (k ∷ ns) n =
    ap (λ (l : List ℕ). start ∷ k ∷ l) (places_snoc (start + k) ns n ∙ ap (λ (m : ℕ). places_of (start + k) ns ++ m ∷ n ∷ []) (add_assoc start k (total ns)))

-- the lengths of one argument more
part_snoc : (w : List ℕ) (i : ℕ) → 132 + i < length w → part 132 (i + 1) w ≡ part 132 i w ++ get_or w (132 + i) 0 ∷ []
part_snoc w i h =
    ap (λ (n : ℕ). part 132 n w) (add-one i) ∙ take-suc (drop 132 w) i 0 (rw length-drop (omega arith)) ∙ ap (λ (n : ℕ). part 132 i w ++ n ∷ []) (get_or-drop 132 w i 0)

total_last : (s : List ℕ) (n : ℕ) → total s + total (n ∷ []) ≡ total s + (n + 0)
unfolding total
total_last s n = refl

-- the places of the first i arguments are written; the next starts at `start`
pub record Placing (w places : List ℕ) (count : ℕ) (a : List ℕ) (start i : ℕ) : Type 0 where
  pub within : i ≤ count
  pub same : length a ≡ length places
  pub is : a ≡ put_at 0 (places_of 0 (part 132 i w)) places
  pub start_is : start ≡ total (part 132 i w)
  pub left : start + total (part (132 + i) (count - i) w) ≡ total (part 132 count w)

pub placing_none : (w places : List ℕ) (count : ℕ) → Placing w places count places 0 0
unfolding places_of total
placing_none w places count = record {
  within = omega arith;
  same = refl;
  is = sym (written_none 0 places);
  start_is = refl;
  left = zero-add _ ∙ ap total (sym (part_start w 132 count));
}

module _ {w places : List ℕ} {count : ℕ} {a : List ℕ} {start i : ℕ} (p : Placing w places count a start i) (x : Expandable w places count) where
  left_next : i < count → start + (get_or w (132 + i) 0 + total (part (132 + (i + 1)) (count - (i + 1)) w)) ≡ total (part 132 count w)
  unfolding total
  left_next h = ap (λ (l : List ℕ). start + total l) (sym (part_next w 132 count i 0 h (omega (arith, x.words, x.few)))) ∙ p.left

  pub place_room : i < count → start + get_or w (132 + i) 0 ≤ 8192
  place_room h = omega (arith, left_next h, x.room)

  pub placing_more : {len : ℕ} → len ≡ get_or w (132 + i) 0 → i < count → Placing w places count (set (set a (2 * i) start) (2 * i + 1) len) (start + len) (i + 1)
  placing_more {len} e h =
      let ls : List ℕ = part 132 i w in
      let t : List ℕ = places_of 0 ls in
      let c : length ls ≡ i = length_part_lem 132 i w (omega (arith, x.words, x.few)) in
      let tl : length t ≡ 2 * i = places_length 0 ls ∙ ap (λ (n : ℕ). 2 * n) c in
      let t₁ : length (t ++ start ∷ []) ≡ 2 * i + 1 = length-append t (start ∷ []) ∙ ap (λ (n : ℕ). n + 1) tl in
      let at₀ : 2 * i ≡ 0 + length t = sym tl ∙ sym (zero-add (length t)) in
      let at₁ : 2 * i + 1 ≡ 0 + length (t ++ start ∷ []) = sym t₁ ∙ sym (zero-add (length (t ++ start ∷ []))) in
      let s : part 132 (i + 1) w ≡ ls ++ len ∷ [] = part_snoc w i (omega (arith, x.words, x.few)) ∙ ap (λ (n : ℕ). ls ++ n ∷ []) (sym e) in
      let q : places_of 0 (part 132 (i + 1) w) ≡ (t ++ start ∷ []) ++ len ∷ [] =
      ap (places_of 0) s ∙ places_snoc 0 ls len ∙ ap (λ (n : ℕ). t ++ n ∷ len ∷ []) (zero-add (total ls) ∙ sym p.start_is) ∙ sym (append_assoc t (start ∷ []) (len ∷ [])) in
      let is' : set (set a (2 * i) start) (2 * i + 1) len ≡ put_at 0 (places_of 0 (part 132 (i + 1) w)) places =
      (λ z. set (set (p.is z) (at₀ z) start) (at₁ z) len) ∙ ap (λ (l : List ℕ). set l (0 + length (t ++ start ∷ [])) len) (written_set 0 t places start (omega (arith, x.table)))
      ∙ written_set 0 (t ++ start ∷ []) places len (omega (arith, x.table)) ∙ ap (λ (l : List ℕ). put_at 0 l places) (sym q) in
      record {
        within = omega arith;
        same = length-set (set a (2 * i) start) (2 * i + 1) len ∙ length-set a (2 * i) start ∙ p.same;
        is = is';
        start_is = let y : total (part 132 (i + 1) w) ≡ total ls + (len + 0) = ap total s ∙ total_append ls (len ∷ []) ∙ total_last ls len in omega (arith, p.start_is);
        left = omega (arith, left_next h);
      }

-- WHAT THE PLACES ARE. Argument j of the table behind 2 k words is argument k + j of the whole.
arguments_behind : (done rest : List ℕ) (s : Bytes) (k j n : ℕ) → length done ≡ 2 * k → arguments_at (k + j) n (done ++ rest) s ≡ arguments_at j n rest s
unfolding arguments_at
arguments_behind done rest s k j zero e = refl
arguments_behind done rest s k j (suc n) e =
    let f : 2 * (k + j) ≡ length done + 2 * j = omega arith in
    let g : 2 * (k + j) + 1 ≡ length done + (2 * j + 1) = omega arith in
    let a : get_or (done ++ rest) (2 * (k + j)) 0 ≡ get_or rest (2 * j) 0 = ap (λ (m : ℕ). get_or (done ++ rest) m 0) f ∙ get_or-append-add done rest (2 * j) 0 in
    let l : get_or (done ++ rest) (2 * (k + j) + 1) 0 ≡ get_or rest (2 * j + 1) 0 = ap (λ (m : ℕ). get_or (done ++ rest) m 0) g ∙ get_or-append-add done rest (2 * j + 1) 0 in
    let t : arguments_at (suc (k + j)) n (done ++ rest) s ≡ arguments_at (suc j) n rest s =
    ap (λ (m : ℕ). arguments_at m n (done ++ rest) s) (sym (add-suc k j)) ∙ arguments_behind done rest s k (suc j) n e in
    λ z. part (a z) (l z) s ∷ t z

arguments_placed : (from size at : ℕ) (ls : List ℕ) (rest : List ℕ) (b : Bytes) → at + total ls ≤ size
    → arguments_at 0 (length ls) (places_of (from + at) ls ++ rest) b ≡ split_by ls (drop at (part from size b))
unfolding arguments_at places_of split_by total
arguments_placed from size at [] rest b h = refl
arguments_placed from size at (l ∷ ls) rest b h =
    let x : part (from + at) l b ≡ take l (drop at (part from size b)) = sym (part_part from size at l b (omega arith)) in
    let y : arguments_at 1 (length ls) ((from + at) ∷ l ∷ (places_of (from + at + l) ls ++ rest)) b ≡ arguments_at 0 (length ls) (places_of (from + at + l) ls ++ rest) b =
    arguments_behind ((from + at) ∷ l ∷ []) (places_of (from + at + l) ls ++ rest) b 1 0 (length ls) refl in
    let z : arguments_at 0 (length ls) (places_of (from + at + l) ls ++ rest) b ≡ split_by ls (drop l (drop at (part from size b))) =
    ap (λ (m : ℕ). arguments_at 0 (length ls) (places_of m ls ++ rest) b) (add_assoc from at l) ∙ arguments_placed from size (at + l) ls rest b (omega arith)
    ∙ ap (split_by ls) (sym (drop-drop l at (part from size b))) in
    λ i. x i ∷ (y ∙ z) i

-- the table that `expand` leaves holds all arguments of the queue, in the bytes that these lie in
pub expanded : {w : List ℕ} {b : Bytes} (h : Held w b) (places : List ℕ)
    → arguments_at 0 (total (part 68 (get_or w 3 0) w)) (put_at 0 (places_of 0 (part 132 (total (part 68 (get_or w 3 0) w)) w)) places) (part 2048 8192 b) ≡ concat (queue_in w b)
unfolding put_at
expanded {w} {b} h places =
    let n : ℕ = total (part 68 (get_or w 3 0) w) in
    let ls : List ℕ = part 132 n w in
    let d : Bytes = part 2048 8192 b in
    let c : length ls ≡ n = length_part_lem 132 n w (omega (arith, h.words, h.few_arguments)) in
    ap (λ (m : ℕ). arguments_at 0 m (places_of 0 ls ++ drop (0 + length (places_of 0 ls)) places) d) (sym c)
    ∙ arguments_placed 0 8192 0 ls (drop (0 + length (places_of 0 ls)) places) d (omega (arith, h.room))
    ∙ ap (split_by ls) (take-take 8192 8192 (drop 2048 b) (omega arith))
    ∙ sym (queue_arguments h)

pub has_room_lem : {w : List ℕ} {b : Bytes} {p : List ℕ} {s : Bytes} {count : ℕ} → Held w b → PartsIn p s count → (get_or w 0 0 ≡ 0 → ⊥)
    → queue_fits (queue_in w b ++ arguments_at 0 count p s ∷ []) ≡ true → HasRoom w p count
has_room_lem {w} {b} {p} {s} {count} h ps inside e =
    let n : ℕ = total (part 68 (get_or w 3 0) w) in
    let c1 : Bool = leb (get_or w 3 0 + 1) 64 in
    let c2 : Bool = leb (n + count) 512 in
    let c3 : Bool = leb (total (part 132 n w) + total (lengths_at 0 count p)) 8192 in
    let t : (c1 && c2 && c3) ≡ true = sym (fits_as h ps) ∙ e in
    let r1 = both_parts (c1 && c2) c3 t in
    let r2 = both_parts c1 c2 r1.0 in
    record {
      inside = inside;
      command = omega (arith, leb-true (get_or w 3 0 + 1) 64 r2.0);
      arguments = leb-true (n + count) 512 r2.1;
      bytes = leb-true (total (part 132 n w) + total (lengths_at 0 count p)) 8192 r1.1;
    }
