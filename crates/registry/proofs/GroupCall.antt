-- The group call meets its promise: the number by its tests, what is settled without one, and what stays with one. Assumes nothing.
use Prim.Native.Nat.{ℕ, ◌<◌}
use native.Mathlib.Omega.{arith}
use mathlib.Core.Path.{◌≡◌, refl, sym, ◌∙◌, ap}
use mathlib.Core.Bool.{Bool, true, false, cond}
use mathlib.Core.List.{List}
use lib.ListN.{length}
use borrow.Author.Tests.{leb-true}
use Rattle.base_key.specs.Bytes.{Bytes, over_front}
use Rattle.base_key.proofs.Bytes.{and_left, and_right}
use Rattle.store_memtable.specs.Layout.{last_word, valid_store}
use Rattle.store_memtable.proofs.Validity.{validated}
use Rattle.group_spec.specs.declared.Member.{Member}
use Rattle.group_spec.specs.Members.{members_inside, group_fits}
use Rattle.group_spec.specs.Walked.{GroupReady, GroupLeft, group_of}
use Rattle.call_spec.specs.Calls.{StoreCalled, refuses_store, gives_store, judged, group_call, verdict_buffer, GroupPromise}
use Rattle.call_numbers.specs.Numbers.{group_number}

-- THE CALL
module _ (ms : List Member) (parts : List ℕ) (d v : Bytes) (w : List ℕ) (b : Bytes) {inside : Bool} {n : ℕ}
    (inside_is : inside ≡ members_inside parts d ms) (n-is : n ≡ group_number inside (length ms) (length v) w b) where
  abbrev fits : Bool
  fits = group_fits parts d ms v

  abbrev by_tests : Bool → Bool → StoreCalled
  by_tests t f = elim t [
    | false ↦ refuses_store 9 w b
    | true ↦ elim f [ false ↦ refuses_store 8 w b | true ↦ gives_store (judged (group_of ms parts d w b)) (group_of ms parts d w b).store w b ]
  ]

  call_is : {t f : Bool} → valid_store w b ≡ t → fits ≡ f → group_call ms parts d v w b ≡ by_tests t f
  unfolding group_call
  call_is p q = λ z. by_tests (p z) (q z)

  number_by : {t f : Bool} → valid_store w b ≡ t → fits ≡ f → n ≡ cond t (cond f 0 8) 9
  unfolding group_number group_fits
  number_by p q = n-is ∙ ap (λ (x : Bool). group_number x (length ms) (length v) w b) inside_is ∙ (λ z. cond (p z) (cond (q z) 0 8) 9)

  -- no number: both tests passed
  abbrev Passed : Type 0
  Passed = (valid_store w b ≡ true) × (fits ≡ true)

  passed : n ≡ 0 → Passed
  passed e = go (valid_store w b) fits refl refl
    where
      go : (t f : Bool) → valid_store w b ≡ t → fits ≡ f → Passed
      go true true p q = (p, q)
      go true false p q = let z : ◌≡◌ {A = ℕ} 8 0 = sym (number_by p q) ∙ e in absurd (omega arith)
      go false f p q = let z : ◌≡◌ {A = ℕ} 9 0 = sym (number_by p q) ∙ e in absurd (omega arith)

  pub group_words : n ≡ 0 → 2 < length w
  group_words e = let x = validated w b refl (passed e).0 in omega (arith, x.words_hold)

  pub group_ready : {began : ℕ} → n ≡ 0 → began ≡ last_word w → GroupReady ms began parts d w b v
  unfolding group_fits
  group_ready e l =
      let p = passed e in
      let q = and_right _ _ p.1 in
      record { verdicts_hold = leb-true _ _ (and_left _ _ q); all_inside = and_right _ _ q; valid_store = validated w b refl p.0; began_is = l }

  pub group_done : {v' w' b' : List ℕ} → n ≡ 0 → GroupLeft ms parts d w b v w' b' v' → GroupPromise ms parts d v w b n v' w' b'
  unfolding verdict_buffer
  group_done e g =
      let p = passed e in
      let c = sym (call_is p.0 p.1) in
      record {
        number = e ∙ ap (λ (s : StoreCalled). s.outcome.number) c;
        verdicts = g.verdicts_left ∙ ap (λ (s : StoreCalled). over_front s.outcome.verdicts v) c;
        words = g.words_left ∙ ap (λ (s : StoreCalled). s.words) c;
        bytes = g.bytes_left ∙ ap (λ (s : StoreCalled). s.bytes) c;
      }

  -- 8 and 9 leave all
  pub group_refused : (n ≡ 0 → ⊥) → GroupPromise ms parts d v w b n v w b
  unfolding verdict_buffer over_front
  group_refused h = go (valid_store w b) fits refl refl
    where
      go : (t f : Bool) → valid_store w b ≡ t → fits ≡ f → GroupPromise ms parts d v w b n v w b
      go true true p q = absurd (h (number_by p q))
      go true false p q =
          let c = sym (call_is p q) in
          record {
            number = number_by p q ∙ ap (λ (s : StoreCalled). s.outcome.number) c;
            verdicts = ap (λ (s : StoreCalled). over_front s.outcome.verdicts v) c;
            words = ap (λ (s : StoreCalled). s.words) c;
            bytes = ap (λ (s : StoreCalled). s.bytes) c;
          }
      go false f p q =
          let c = sym (call_is p q) in
          record {
            number = number_by p q ∙ ap (λ (s : StoreCalled). s.outcome.number) c;
            verdicts = ap (λ (s : StoreCalled). over_front s.outcome.verdicts v) c;
            words = ap (λ (s : StoreCalled). s.words) c;
            bytes = ap (λ (s : StoreCalled). s.bytes) c;
          }
