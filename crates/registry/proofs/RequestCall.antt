-- The request call meets its promise: its number, what is served without one, and what stays with one. Assumes nothing.
use Prim.Native.Nat.{ℕ, ◌-◌}
use native.Mathlib.Omega.{arith}
use mathlib.Core.Path.{◌≡◌, refl, sym, ap, ◌∙◌}
use mathlib.Core.Bool.{Bool, true, false, cond}
use mathlib.Core.List.{List}
use lib.Dec.{ltb}
use lib.ListN.{length, replicate, length-replicate}
use borrow.Author.Tests.{ltb-true}
use Rattle.base_key.specs.Bytes.{Bytes}
use Rattle.command_spec.specs.Numbers.{AnswerNumbers}
use Rattle.command_spec.specs.Finish.{reply_buffer}
use Rattle.command_answer.specs.Answers.{refusal}
use Rattle.call_spec.specs.Calls.{lent_of, valid, Called, refuses, answer_of, request_call, RequestPromise, TablePromise}
use Rattle.call_numbers.specs.Numbers.{request_number}
use Rattle.call_serve.specs.Serving.{ReadyAmong}
use Rattle.call_spec.proofs.CallLaws.{no_session, not_valid}

-- THE CALL
module _ (i : ℕ) (w : List ℕ) (b : Bytes) (sw : List ℕ) (sb : Bytes) {n : ℕ} (n-is : n ≡ request_number i (lent_of w b sw sb)) where
  pub number_as : {t v : Bool} → ltb i 16 ≡ t → valid (lent_of w b sw sb) ≡ v → n ≡ cond t (cond v 0 9) 1
  unfolding request_number
  number_as p q = n-is ∙ (λ z. cond (p z) (cond (q z) 0 9) 1)

  -- no number: both tests passed
  abbrev Passed : Type 0
  Passed = (ltb i 16 ≡ true) × (valid (lent_of w b sw sb) ≡ true)

  passed : n ≡ 0 → Passed
  passed e = go (ltb i 16) (valid (lent_of w b sw sb)) refl refl
    where
      go : (t v : Bool) → ltb i 16 ≡ t → valid (lent_of w b sw sb) ≡ v → Passed
      go true true p q = (p, q)
      go true false p q = let z : ◌≡◌ {A = ℕ} 9 0 = sym (number_as p q) ∙ e in absurd (omega arith)
      go false v p q = let z : ◌≡◌ {A = ℕ} 1 0 = sym (number_as p q) ∙ e in absurd (omega arith)

  module _ (out : Bytes) {out₁ : Bytes} (cleared : out₁ ≡ replicate (length out) 0) where
    long : length out₁ ≡ length out
    long = ap length cleared ∙ length-replicate (length out) 0

    pub request_ready : n ≡ 0 → ReadyAmong i w b sw sb out₁
    request_ready e = record {
      below = ltb-true i 16 (passed e).0;
      fit = (passed e).1;
      cleared = cleared ∙ ap (λ (m : ℕ). replicate m 0) (sym long);
    }

    -- 1 and 9 leave all
    pub request_refused : (input : Bytes) (places : ℕ) {r : AnswerNumbers} → (n ≡ 0 → ⊥) → r ≡ refusal n → RequestPromise i input places out (lent_of w b sw sb) r out₁ (lent_of w b sw sb)
    unfolding reply_buffer
    request_refused input places {r} nz a = go (ltb i 16) (valid (lent_of w b sw sb)) refl refl
      where
        by : (k : ℕ) → n ≡ k → request_call i input places (length out) (lent_of w b sw sb) ≡ refuses k (lent_of w b sw sb) → RequestPromise i input places out (lent_of w b sw sb) r out₁ (lent_of w b sw sb)
        by k e c =
            let z : length out ≡ length out - 0 = omega arith in
            record {
              answer = a ∙ ap refusal e ∙ ap (λ (x : Called). answer_of x.outcome) (sym c);
              reply = cleared ∙ ap (λ (m : ℕ). replicate m 0) z ∙ ap (λ (x : Called). reply_buffer (length out) x.outcome.reply) (sym c);
              lent = ap (λ (x : Called). x.lent) (sym c);
            }

        go : (t v : Bool) → ltb i 16 ≡ t → valid (lent_of w b sw sb) ≡ v → RequestPromise i input places out (lent_of w b sw sb) r out₁ (lent_of w b sw sb)
        go true true p q = absurd (nz (number_as p q))
        go true false p q = by 9 (number_as p q) (not_valid i input places (length out) (lent_of w b sw sb) p q)
        go false v p q = by 1 (number_as p q) (no_session i input places (length out) (lent_of w b sw sb) p)

  pub request_unread : (input : Bytes) (t : List ℕ) → (n ≡ 0 → ⊥) → TablePromise i input (lent_of w b sw sb) t t
  request_unread input t nz = record {
    parts = λ p q. absurd (nz (number_as p q));
    unread = λ _. refl;
  }
