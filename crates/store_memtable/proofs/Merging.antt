-- Laws of a merge: what the steps of a turn leave, and the pass over writes of ascending keys. Assumes nothing.
use mathlib.Core.Path.{◌≡◌, refl, ap, ◌∙◌}
use mathlib.Core.Bool.{Bool, true, false, cond}
use mathlib.Core.List.{List, [], ◌∷◌, ◌++◌, append_assoc}
use Prim.Native.Nat.{ℕ, ◌+◌, ◌-◌, ◌*◌, ◌≤◌}
use native.Mathlib.Omega.{arith}
use lib.ListN.{length, take, drop, length-drop}
use lib.Seq.{slice, take-add, length-take-le}
use lib.Dec.{ltb}
use borrow.Author.Tests.{ltb-true}
use Rattle.store_memtable.specs.declared.Front.{Front}
use Rattle.store_memtable.specs.Layout.{start_word}
use Rattle.base_key.specs.Bytes.{moved_up, put_at}
use Rattle.store_memtable.specs.Moves.{shift_rows, rows_moved}
use Rattle.store_memtable.specs.Merging.{Mergeable, start_in, row_merged, bytes_merged}
use Rattle.store_memtable.proofs.Moves.{put_part, gap_filled}

-- a row written into the end of the gap that the move leaves
pub row_merged_lem : (w : List ℕ) (at rows by s kl v q gap : ℕ) {w₁ w₂ : List ℕ} → w₁ ≡ rows_moved at rows by gap w
    → w₂ ≡ put_at (5 + 4 * (at + (by - 1))) (s ∷ kl ∷ v ∷ q ∷ []) w₁ → at ≤ rows → 1 ≤ by → 5 + 4 * rows + 4 * by ≤ length w
    → w₂ ≡ row_merged at rows by s kl v q gap w
unfolding row_merged rows_moved
row_merged_lem w at rows by s kl v q gap {w₁} {w₂} e₁ e₂ low one room =
    let p : ℕ = 5 + 4 * (at + (by - 1)) in
    let later : List ℕ = shift_rows gap (slice (5 + 4 * at) (5 + 4 * rows) w) ++ drop (5 + 4 * rows + 4 * by) w in
    let e : 5 + 4 * at + 4 * by ≡ p + 4 = omega arith in
    let spread : w₁ ≡ take p w ++ (take 4 (drop p w) ++ later) =
    e₁ ∙ ap (λ (n : ℕ). take n w ++ later) e ∙ ap (λ (x : List ℕ). x ++ later) (take-add p 4 w) ∙ append_assoc (take p w) (take 4 (drop p w)) later in
    e₂ ∙ ap (put_at p (s ∷ kl ∷ v ∷ q ∷ [])) spread
    ∙ put_part (take p w) (take 4 (drop p w)) later (s ∷ kl ∷ v ∷ q ∷ []) p (length-take-le p w (omega arith)) (length-take-le 4 (drop p w) (rw length-drop (omega arith)))

-- and a key and a value
pub bytes_merged_lem : (b k v : List ℕ) (start used gap rest : ℕ) {b₁ b₂ b₃ : List ℕ} → b₁ ≡ moved_up start used gap b → b₂ ≡ put_at (start + rest) k b₁
    → b₃ ≡ put_at (start + rest + length k) v b₂ → start ≤ used → used + gap ≤ length b → rest + (length k + length v) ≡ gap
    → b₃ ≡ bytes_merged start used gap rest k v b
unfolding moved_up bytes_merged
bytes_merged_lem b k v start used gap rest p q r low room whole =
    let e : start + gap ≡ start + rest + (length k + length v) = omega arith in
    rw (r, q, p, e) (gap_filled b k v (slice start used b ++ drop (used + gap) b) (start + rest) (omega arith))

-- where a version of the front starts, or would, is within the front
pub start_below_used : {w b : List ℕ} {by size : ℕ} {f : Front} (at : ℕ) → Mergeable w b by size f → start_in f.rows f.used w at ≤ f.used
unfolding start_in
start_below_used {w} {f = f} at m = go (ltb at f.rows) refl
  where
    go : (t : Bool) → ltb at f.rows ≡ t → cond t (start_word w at) f.used ≤ f.used
    go true e = m.starts_in at (ltb-true at f.rows e)
    go false e = omega arith
