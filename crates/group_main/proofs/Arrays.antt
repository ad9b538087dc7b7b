-- An array in a local, lent as a shared slice for a call, and whole again after it. Assumes `Logic`.
use Prim.Native.Nat.{ℕ}
use mathlib.Core.Path.{refl}
use mathlib.Core.List.{List, [], ◌∷◌}
use seplogic.Ra.Ura.{Ura}
use base.Fraction.{full_share}
use mir.Syntax.{Ty, ty_array}
use mir.Val.{Val}
use base.Logic.{ent, sep, ex}
use base.Fml.{fat, fsep}
use types.Logic.{Logic, sem}
use types.Kit.{‵, ◌$◌, ◌∵◌, !, qed, by, move, keep, use1, rewrite, fsplit, fjoin, fpick, fpack, feq_l, show, done}
use types.Share.{arr_parts}
use denote.RattleType.{RattleType}
use denote.Memory.{lone, shares, cell_at, part_at, part_of}
use denote.Array.{Array, array_val}
use denote.ArrayMemory.{Single, Array-apart, Array-whole}

module _ {M : Type 1} {𝓤 : Ura M} (𝓛 : Logic 𝓤) (R : RattleType) where
  open 𝓛 use {H}

  abbrev ty : ℕ → Ty
  ty n = ty_array (lone R.mir) n

  pub array_lent : Single R.mir → (n : ℕ) (xs : List R.Denot) (l : ℕ) (v : Val)
      → ent 𝓤 (sep 𝓤 (H.at full_share (ty n) l 0 v) (sem 𝓛 ((Array R n).own_val xs (v ∷ [])))) (sem 𝓛 ((arr_parts (shares R) n).part full_share xs l 0))
  unfolding part_of
  array_lent s n xs l v =
      qed 𝓛 (‵ (fat full_share (ty n) l 0 v) ∷ ‵ ((Array R n).own_val xs (v ∷ [])) ∷ []) ∵ use1 𝓛 (‵ (cell_at full_share (ty n ∷ []) (v ∷ []) l 0)) (𝓛.laws.at_raw full_share (ty n) l 0 v) $ fjoin ! $
      fpack ! (List Val) (λ vs. fsep (cell_at full_share (ty n ∷ []) vs l 0) ((Array R n).own_val xs vs)) (v ∷ []) $ by ! (Array-apart 𝓛 R full_share s n xs l 0)

  pub array_home : (n : ℕ) (xs : List R.Denot) (l : ℕ) → ent 𝓤 (sem 𝓛 ((arr_parts (shares R) n).part full_share xs l 0)) (ex 𝓤 (λ (v : Val). H.at full_share (ty n) l 0 v))
  unfolding part_of
  array_home n xs l =
      qed 𝓛 (‵ ((arr_parts (shares R) n).part full_share xs l 0) ∷ []) ∵ use1 𝓛 (‵ (part_at (Array R n) full_share xs l 0)) (Array-whole 𝓛 R full_share n xs l 0) $
      fpick ! (λ vs. fsplit ! $ move ! (1 ∷ []) $ fpick ! (λ us. fsplit ! $ fsplit ! $ feq_l ! (λ e. feq_l ! (λ k.
      rewrite ! 1 (λ (ws : List Val). ‵ (cell_at full_share (ty n ∷ []) ws l 0)) e refl $ move ! (1 ∷ []) $
      use1 𝓛 (‵ (fat full_share (ty n) l 0 (array_val us))) (𝓛.laws.raw_at full_share (ty n) l 0 (array_val us)) $ keep ! (0 ∷ []) $ show ! (λ (v : Val). H.at full_share (ty n) l 0 v) (array_val us) $ done !))))
