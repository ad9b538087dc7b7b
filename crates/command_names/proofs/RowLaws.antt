-- A row of the code's table by its place, from the rule of the whole table. Assumes nothing.
use mathlib.Core.Path.{◌≡◌, refl, sym, ap, ◌∙◌}
use mathlib.Core.List.{List, [], ◌∷◌, ◌++◌, map}
use Prim.Native.Nat.{ℕ, zero, suc, ◌<◌}
use native.Mathlib.Nat.{not-suc-le-zero, le_of_suc-le-suc}
use native.Mathlib.Omega.{arith}
use lib.ListN.{length, get_or, get_or-map, length-map}
use Rattle.command_spec.specs.Names.{Row, rows, unknown_row}
use Rattle.command_names.specs.declared.Row.{Row as CodeRow}
use Rattle.command_names.specs.Rows.{row_at, row_meant, TableRight}

pub how_many : length rows ≡ 21
unfolding rows
how_many = refl

-- one more of the default changes no element
default_behind : {A : Type 0} (l : List A) (i : ℕ) (d : A) → get_or (l ++ d ∷ []) i d ≡ get_or l i d
default_behind [] zero d = refl
default_behind [] (suc i) d = refl
default_behind (x ∷ l) zero d = refl
default_behind (x ∷ l) (suc i) d = default_behind l i d

any_default : {A : Type 0} (l : List A) (i : ℕ) (d e : A) → i < length l → get_or l i d ≡ get_or l i e
any_default [] i d e h = absurd (not-suc-le-zero h)
any_default (x ∷ l) zero d e h = refl
any_default (x ∷ l) (suc i) d e h = any_default l i d e (le_of_suc-le-suc h)

pub table_long : {table : List CodeRow} → TableRight table → length table ≡ 22
unfolding rows
table_long {table} t = sym (length-map table row_meant) ∙ ap length t.meant

module _ {table : List CodeRow} (t : TableRight table) (d : CodeRow) {k : ℕ} (h : k < 22) where
  inside : k < length table
  inside = omega (arith, table_long t)

  pub row_is : row_meant (get_or table k d) ≡ row_at k
  unfolding row_at
  row_is =
      sym (get_or-map row_meant table k d) ∙ any_default (map row_meant table) k (row_meant d) unknown_row (omega (arith, inside, length-map table row_meant))
      ∙ ap (λ (l : List Row). get_or l k unknown_row) t.meant ∙ default_behind rows k unknown_row
