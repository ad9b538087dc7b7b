-- Steps of comparing a word with a name, and of the look-up. Assumes nothing.
use mathlib.Core.Path.{◌≡◌, refl, sym, ap, ◌∙◌}
use mathlib.Core.Bool.{Bool, true, false}
use mathlib.Core.List.{List, [], ◌∷◌, map}
use Prim.Native.Nat.{ℕ, ◌+◌, ◌<◌, ◌≤◌}
use native.Mathlib.Numerals.{add-one}
use native.Mathlib.Omega.{arith}
use lib.Dec.{eqb}
use lib.ListN.{length, get_or, take, drop, length-map, length-take}
use lib.Seq.{drop-cons, get_or-take}
use Rattle.std.specs.List.{list_all, zip}
use Rattle.base_key.specs.Bytes.{Bytes, ◌and◌, same_bytes}
use Rattle.base_key.proofs.Keys.{same_bytes_lem, differ_by_length}
use Rattle.command_spec.specs.Names.{Row, rows, unknown_row, row_in, row_of, same_name}
use Rattle.resp_spec.specs.Letters.{upper}
use Rattle.command_names.specs.declared.Row.{Row as CodeRow}
use Rattle.command_names.specs.Rows.{row_at, row_meant, TableRight, Looked}
use Rattle.command_names.proofs.RowLaws.{row_is, how_many, table_long}

-- a name of another length is another name
pub other_length : (w n : Bytes) → (length w ≡ length n → ⊥) → false ≡ same_name w n
unfolding same_name
other_length w n ne = differ_by_length (map upper w) n (λ e. ne (sym (length-map w upper) ∙ e)) ∙ sym (same_bytes_lem (map upper w) n)

-- a name of one length is compared byte by byte
pub by_places : (w n : Bytes) → length w ≡ length n → list_all (λ (p : ℕ × ℕ). eqb (upper p.0) p.1) (zip w n) ≡ same_name w n
unfolding same_name same_bytes ◌and◌
by_places [] [] e = refl
by_places [] (y ∷ n) e = absurd (omega arith)
by_places (x ∷ w) [] e = absurd (omega arith)
by_places (x ∷ w) (y ∷ n) e = rw (by_places w n (omega arith)) refl

row_here : (r : Row) (rs : List Row) (w : Bytes) → same_name w r.text ≡ true → row_in (r ∷ rs) w ≡ r
unfolding row_in
row_here r rs w e = rw (row_in, e)

row_other : (r : Row) (rs : List Row) (w : Bytes) → same_name w r.text ≡ false → row_in (r ∷ rs) w ≡ row_in rs w
unfolding row_in
row_other r rs w e = rw (row_in, e)

-- No row before place k has the word's name.
pub record Passed (table : List CodeRow) (w : Bytes) (k : ℕ) : Type 0 where
  pub right : TableRight table
  pub within : k ≤ 21
  pub rest : row_of w ≡ row_in (drop k rows) w

pub passed_none : (table : List CodeRow) (w : Bytes) → TableRight table → Passed table w 0
unfolding row_of
passed_none table w t = record { right = t; within = omega arith; rest = refl }

module _ {table : List CodeRow} {w : Bytes} {k : ℕ} (d : CodeRow) (p : Passed table w k) where
  module _ (h : k < length (take 21 table)) where
    low : k < 21
    low = omega (arith, length-take {A = CodeRow})

    here : row_meant (get_or (take 21 table) k d) ≡ row_at k
    here = ap row_meant (get_or-take 21 table k d low) ∙ row_is p.right d (omega (arith, low))

    module _ {b : Bool} (is : b ≡ same_name w (get_or (take 21 table) k d).text.now) where
      same_row : b ≡ same_name w (row_at k).text
      same_row = is ∙ ap (λ (r : Row). same_name w r.text) here

      row_next : row_of w ≡ row_in (row_at k ∷ drop (k + 1) rows) w
      unfolding row_at
      row_next =
          let l : k < length rows = omega (arith, how_many, low) in
          p.rest ∙ ap (λ (l : List Row). row_in l w) (drop-cons rows k unknown_row l ∙ rw add-one)

      pub passed_more : b ≡ false → Passed table w (k + 1)
      passed_more e = record { right = p.right; within = omega (arith, low); rest = row_next ∙ row_other (row_at k) _ w (sym same_row ∙ e) }

      pub found_here_lem : b ≡ true → Looked w (get_or (take 21 table) k d)
      found_here_lem e = record { is = here ∙ sym (row_next ∙ row_here (row_at k) _ w (sym same_row ∙ e)) }

  pub not_found : length (take 21 table) ≤ k → Looked w (get_or table 21 d)
  unfolding row_in row_at rows
  not_found h =
      let e : k ≡ 21 = omega (arith, p.within, table_long p.right, length-take {A = CodeRow}) in
      record { is = row_is p.right d (omega arith) ∙ sym (p.rest ∙ rw e) }
