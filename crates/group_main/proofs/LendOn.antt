-- A `&mut [T]` that a walk lends on to a call and takes back, where its machine value counts n elements all along.
--     Kept δ ys      what the lender keeps while the call has the slice under the name δ
--     lend_on        the slice and its token give the slice for the call, at the lifetime κ', and what is kept
--     take_back      once κ' is dead, what is kept and the last list that the call says give the slice at that list, and its token
-- It says nothing of this crate. The steps are those of `Denote/Index.antt` and `Denote/Lend.antt`. Assumes `Logic`.
use mathlib.Core.Path.{◌≡◌, refl, sym, ◌∙◌, ap, subst}
use Prim.Native.Nat.{ℕ}
use mathlib.Core.List.{List, [], ◌∷◌}
use lib.ListN.{length}
use seplogic.Ra.Ura.{Ura}
use base.Fraction.{full_share}
use mir.Syntax.{Lifetime}
use mir.Val.{Val}
use base.Logic.{ent, sep, ex}
use base.Fml.{Lft, GName, Share, Fml, fsep, flft, fdead, fobs, fauth, flent, fobor}
use types.Logic.{Logic, sem}
use types.Kit.{‵, ◌⊛◌, some, later, ◌$◌, ◌∵◌, !, qed, move, use1, use3, drop, split, pick, rewrite, fsplit, fjoin, frame, await, updating, now as at_once, show, done}
use types.SemTy.{cells, Arr}
use denote.RattleType.{RattleType}
use denote.Shadow.{pure_i}
use denote.Memory.{mem}
use denote.Ref.{MutBor}
use denote.Slice.{slice_val, MutSlice, heres, Room, finally, mut_slice_at, coded_holeys}
use denote.Lend.{Held, lends_slice, slice_back}
use denote.Index.{row, whole_out, whole_in, opens_slice, closes_slice}

module _ (R : RattleType) (κ κ' : Lft) (q : Share) (γ : GName) (b o n : ℕ) where
  abbrev named_at : GName → List R.Denot → MutBor (List R.Denot)
  named_at δ ys = record { ref_ptr = (b, o); ghost_name = δ; now = ys }

  abbrev counted : List Val
  counted = slice_val (b, o) n ∷ []

  abbrev pub Kept : GName → List R.Denot → Fml
  Kept δ ys = fsep (fobor κ q (Held R (length ys) b o γ)) (fsep (flent κ' (Held R (length ys) b o δ)) (fsep (fauth γ ((coded_holeys R).code (heres R ys))) (fobs γ ((coded_holeys R).code (heres R ys)))))

  module _ {M : Type 1} {𝓤 : Ura M} (𝓛 : Logic 𝓤) (ℓ ℓ' : Lifetime) (ys : List R.Denot) (same : length ys ≡ n) (room : Room R n) where
    open 𝓛 use {H, A}

    pub lend_on : ent 𝓤 (sep 𝓤 (sem 𝓛 ((MutSlice ℓ κ R).own_val (named_at γ ys) counted)) (A.lft κ q))
        (H.⇛ (ex 𝓤 (λ (δ : GName). sep 𝓤 (sem 𝓛 ((MutSlice ℓ' κ' R).own_val (named_at δ ys) counted)) (sem 𝓛 (Kept δ ys)))))
    lend_on =
        qed 𝓛 (‵ ((MutSlice ℓ κ R).own_val (named_at γ ys) counted) ∷ ‵ (flft κ q) ∷ []) ∵ updating ! $ fsplit ! $ drop ! $ fsplit ! $
        -- [obs; the borrow; the token]
        opens_slice ! tt R ys b o $ use1 𝓛 (‵ (cells (mem R) ys b o)) (whole_in 𝓛 R ys b o) $
        use1 𝓛 (later (some (λ (δ : GName). ‵ ((MutSlice ℓ' κ' R).own_val (named_at δ ys) (slice_val (b, o) (length ys) ∷ [])) ⊛ ‵ (flent κ' (Held R (length ys) b o δ))))) (lends_slice 𝓛 R ℓ' κ' ys b o (subst (Room R) (sym same) room)) $ await ! tt $ pick ! (λ δ. split ! $
        rewrite ! 0 (λ (m : ℕ). ‵ ((MutSlice ℓ' κ' R).own_val (named_at δ ys) (slice_val (b, o) m ∷ []))) same refl $
        -- [the slice for the call; the lender's part; the open borrow; obs; auth]
        at_once ! $ show ! (λ (δ' : GName). sep 𝓤 (sem 𝓛 ((MutSlice ℓ' κ' R).own_val (named_at δ' ys) counted)) (sem 𝓛 (Kept δ' ys))) δ $ frame ! $
        move ! (3 ∷ 2 ∷ []) $ fjoin ! $ move ! (1 ∷ 0 ∷ []) $ fjoin ! $ move ! (1 ∷ 0 ∷ []) $ fjoin ! $ done !)

    pub take_back : (δ : GName) (zs : List R.Denot) → length zs ≡ length ys
        → ent 𝓤 (sep 𝓤 (A.dead κ') (sep 𝓤 (sem 𝓛 (Kept δ ys)) (sem 𝓛 (finally R δ zs)))) (H.⇛ (sep 𝓤 (sem 𝓛 ((MutSlice ℓ κ R).own_val (named_at γ zs) counted)) (A.lft κ q)))
    take_back δ zs e =
        qed 𝓛 (‵ (fdead κ') ∷ ‵ (Kept δ ys) ∷ ‵ (finally R δ zs) ∷ []) ∵ updating ! $ move ! (1 ∷ []) $ fsplit ! $ move ! (1 ∷ []) $ fsplit ! $
        -- [the lender's part; auth and obs; the open borrow; that κ' is dead; the last list]
        move ! (3 ∷ 0 ∷ 4 ∷ []) $ use3 𝓛 (later (‵ ((Arr (mem R) (length ys)).own_at zs b o))) (slice_back 𝓛 R κ' δ zs (length ys) b o) $ await ! tt $ fsplit ! $ drop ! $
        use1 𝓛 (‵ (row R full_share zs b o)) (whole_out 𝓛 R zs b o) $ move ! (1 ∷ []) $ fsplit ! $
        -- [auth; obs; the elements; the open borrow]
        move ! (2 ∷ 3 ∷ 1 ∷ []) $ closes_slice ! tt R ys zs e b o $ at_once ! $
        fjoin ! $ pure_i ! (mut_slice_at R (named_at γ zs) counted) (tt, (tt, tt)) (ap (λ (m : ℕ). slice_val (b, o) m ∷ []) (sym (e ∙ same)), subst (Room R) (sym (e ∙ same)) room) $ fjoin ! $ done !
