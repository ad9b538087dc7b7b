-- The preview call meets its promise: its number, and what is told without one. Assumes nothing.
use Prim.Native.Nat.{ℕ, ◌-◌}
use native.Mathlib.Omega.{arith}
use mathlib.Core.Path.{◌≡◌, refl, sym, ap, ◌∙◌}
use mathlib.Core.Bool.{Bool, true, false}
use mathlib.Core.List.{List}
use lib.Dec.{ltb}
use lib.ListN.{length, replicate}
use Rattle.base_key.specs.Bytes.{Bytes}
use Rattle.command_spec.specs.Finish.{reply_buffer}
use Rattle.exec_decision.specs.Numbers.{PreviewNumbers}
use Rattle.exec_decision.specs.Decided.{refused_preview}
use Rattle.call_spec.specs.Calls.{lent_of, valid, Called, refuses, preview_call, preview_of, PreviewPromise}
use Rattle.call_spec.proofs.CallLaws.{preview_no_session, preview_not_valid}
use Rattle.call_numbers.specs.Numbers.{request_number}
use Rattle.registry.proofs.RequestCall.{number_as}

module _ (i : ℕ) (w : List ℕ) (b : Bytes) (sw : List ℕ) (sb : Bytes) {n : ℕ} (n-is : n ≡ request_number i (lent_of w b sw sb)) (out : Bytes) {out₁ : Bytes} (cleared : out₁ ≡ replicate (length out) 0) where
  -- 1 and 9
  pub preview_refused : {r : PreviewNumbers} → (n ≡ 0 → ⊥) → r ≡ refused_preview n → PreviewPromise i out (lent_of w b sw sb) r out₁ (lent_of w b sw sb)
  unfolding reply_buffer
  preview_refused {r} nz a = go (ltb i 16) (valid (lent_of w b sw sb)) refl refl
    where
      by : (k : ℕ) → n ≡ k → preview_call i (length out) (lent_of w b sw sb) ≡ refuses k (lent_of w b sw sb) → PreviewPromise i out (lent_of w b sw sb) r out₁ (lent_of w b sw sb)
      by k e c =
          let z : length out ≡ length out - 0 = omega arith in
          record {
            preview = a ∙ ap refused_preview e ∙ ap (λ (x : Called). preview_of x.outcome) (sym c);
            reply = cleared ∙ ap (λ (m : ℕ). replicate m 0) z ∙ ap (λ (x : Called). reply_buffer (length out) x.outcome.reply) (sym c);
            lent = ap (λ (x : Called). x.lent) (sym c);
          }

      go : (t v : Bool) → ltb i 16 ≡ t → valid (lent_of w b sw sb) ≡ v → PreviewPromise i out (lent_of w b sw sb) r out₁ (lent_of w b sw sb)
      go true true p q = absurd (nz (number_as i w b sw sb n-is p q))
      go true false p q = by 9 (number_as i w b sw sb n-is p q) (preview_not_valid i (length out) (lent_of w b sw sb) p q)
      go false v p q = by 1 (number_as i w b sw sb n-is p q) (preview_no_session i (length out) (lent_of w b sw sb) p)
