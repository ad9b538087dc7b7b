-- THE LAWS OF A PREVIEW. It leaves the state and tells nothing.
use Prim.Native.Nat.{ℕ, ◌+◌}
use native.Mathlib.Omega.{arith}
use mathlib.Core.List.{[], ◌∷◌}
use mathlib.Core.Logic.{inl, inr}
use mathlib.Core.Bool.{Bool, true, false, cond, false≢true}
use mathlib.Core.Path.{◌≡◌, refl, sym, ap, ◌∙◌}
use lib.Dec.{ltb, eqb}
use lib.ListN.{length}
use borrow.Author.Tests.{ltb-true, eqb-true}
use Rattle.exec_decision.specs.Decided.{Decided, decide_exec, refused_preview, preview_decided}
use Rattle.exec_decision.proofs.Executes.{Silent, ExecNumber, exec_number}
use Rattle.call_spec.specs.Serve.{State, session_in, refused, outcome_of, previewed, exec_previewed, Stepped, preview_on}
use Rattle.call_spec.specs.Calls.{Lent, valid, preview_of, preview, step, first_number, touched}
use Rattle.call_spec.specs.Posting.{told, enter_all}
use Rattle.call_spec.proofs.LentLaws.{eqb_differs}
use Rattle.call_spec.proofs.EventLaws.{Fit, ended}
use Rattle.call_spec.proofs.KindLaws.{Law, unmoved, SameOn, SameOnBoth, Kind}

-- ITS NUMBER is that of EXEC
pub previewed_number : (last : ℕ) (d : Decided) → (previewed last d).number ≡ d.number
unfolding previewed
previewed_number last d = go (eqb d.number 0) refl
  where
    go : (b : Bool) → eqb d.number 0 ≡ b → (cond b (outcome_of 0 0 d.reply (d.verdict ∷ []) (last + length d.writes)) (refused d.number)).number ≡ d.number
    go true e = sym (eqb-true d.number 0 e)
    go false e = refl

-- its struct, and its reply
pub previewed_struct : (last : ℕ) (d : Decided) → preview_of (previewed last d) ≡ preview_decided last d
unfolding previewed preview_decided
previewed_struct last d = go (eqb d.number 0)
  where
    go : (b : Bool) → preview_of (cond b (outcome_of 0 0 d.reply (d.verdict ∷ []) (last + length d.writes)) (refused d.number))
        ≡ cond b (record { number = 0; verdict = d.verdict; reply = length d.reply; last = last + length d.writes }) (refused_preview d.number)
    go true = refl
    go false = refl

pub previewed_reply : (last : ℕ) (d : Decided) → Silent d → (previewed last d).reply ≡ d.reply
unfolding previewed
previewed_reply last d h = go (eqb d.number 0) refl
  where
    go : (b : Bool) → eqb d.number 0 ≡ b → (cond b (outcome_of 0 0 d.reply (d.verdict ∷ []) (last + length d.writes)) (refused d.number)).reply ≡ d.reply
    go true e = refl
    go false e = sym (h (eqb_differs d.number 0 e))

-- the number is not 9
pub not_nine : (n : ℕ) → ExecNumber n → n ≡ 9 → ⊥
not_nine n (inl e) z = omega arith
not_nine n (inr (inl e)) z = omega arith
not_nine n (inr (inr (inl e))) z = omega arith
not_nine n (inr (inr (inr e))) z = omega arith

module _ (i room : ℕ) (p : State) where
  on_nine : (b : Bool) → (cond b (exec_previewed room p.store (session_in i p)) (refused 1)).number ≡ 9 → ⊥
  on_nine true z = not_nine _ (exec_number room p.store (session_in i p)) (sym (previewed_number p.store.last (decide_exec room p.store (session_in i p))) ∙ z)
  on_nine false z = omega arith

  preview_law : Fit p → Law (preview i room) p (preview_on i room p)
  unfolding preview_on told touched
  preview_law fit = unmoved (preview i room) p (cond (ltb i 16) (exec_previewed room p.store (session_in i p)) (refused 1)) fit ended tt (on_nine (ltb i 16)) (λ j h e. tt)

-- on two states that differ in another session
module _ (i : ℕ) (p q : State) (same : SameOn i p q) where
  preview_same : (j room : ℕ) → (j ≡ i → ⊥) → SameOnBoth i (preview_on j room p) (preview_on j room q)
  unfolding preview_on
  preview_same j room n = go (ltb j 16) refl
    where
      go : (b : Bool) → ltb j 16 ≡ b → SameOnBoth i (record { outcome = cond b (exec_previewed room p.store (session_in j p)) (refused 1); state = p }) (record { outcome = cond b (exec_previewed room q.store (session_in j q)) (refused 1); state = q })
      go true e = let s = same.sessions j (ltb-true j 16 e) n in
          record { answer = λ z. exec_previewed room (same.store z) (s z); left = same }
      go false e = record { answer = refl; left = same }

preview_first : (i room : ℕ) (l : Lent) (p : State) → valid l ≡ true → (first_number (preview i room) l ≡ 0 → ⊥)
    → preview_on i room p ≡ record { outcome = refused (first_number (preview i room) l); state = p }
unfolding first_number preview_on
preview_first i room l p ok n = go (ltb i 16) n
  where
    go : (b : Bool) → (◌≡◌ {A = ℕ} (cond b (cond (valid l) 0 9) 1) 0 → ⊥)
        → ◌≡◌ {A = Stepped} (record { outcome = cond b (exec_previewed room p.store (session_in i p)) (refused 1); state = p }) (record { outcome = refused (cond b (cond (valid l) 0 9) 1); state = p })
    go true n = absurd (n (ap (λ (x : Bool). cond {A = ℕ} x 0 9) ok))
    go false n = refl

-- ALL OF IT
pub preview_kind : (i room : ℕ) → Kind (preview i room)
unfolding step told enter_all
preview_kind i room = record {
  law = preview_law i room;
  first = preview_first i room;
  fed = λ o p n r v. refl;
  numbers = λ o ds h. refl;
  answers = λ p. tt;
  refusals = λ n. tt;
  other = λ j p q f g same e. preview_same j p q same i room (eqb_differs i j e);
  own = λ j p q ds f g c same free e x. absurd (false≢true x);
}
