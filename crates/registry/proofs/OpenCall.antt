-- Opening meets its promise, test by test. Assumes nothing.
use Prim.Native.Nat.{ℕ}
use mathlib.Core.Path.{◌≡◌, sym, ◌∙◌, ap}
use mathlib.Core.Bool.{Bool, true, false, cond}
use mathlib.Core.List.{List}
use Rattle.store_memtable.specs.Layout.{buffers_hold, empty_store, leave_words}
use Rattle.store_memtable.proofs.Opening.{bytes_stay}
use Rattle.call_spec.specs.Serve.{refused}
use Rattle.call_spec.specs.Calls.{StoreCalled, refuses_store, gives_store, open_call, OpenPromise}

module _ (last n m : ℕ) (w b : List ℕ) {r : Bool} (is : r ≡ buffers_hold w b n m) {w' : List ℕ}
    (words_are : w' ≡ cond (buffers_hold w b n m) (leave_words (empty_store last n m) w) w) where
  -- the call by the outcome of its test
  abbrev by_test : Bool → StoreCalled
  by_test t = cond t (gives_store (refused 0) (empty_store last n m) w b) (refuses_store 9 w b)

  call_is : {t : Bool} → r ≡ t → open_call last n m w b ≡ by_test t
  unfolding open_call
  call_is e = ap by_test (sym is ∙ e)

  left_is : {t : Bool} → r ≡ t → w' ≡ cond t (leave_words (empty_store last n m) w) w
  left_is e = words_are ∙ ap (λ (t : Bool). cond t (leave_words (empty_store last n m) w) w) (sym is ∙ e)

  pub opened : r ≡ true → OpenPromise last n m w b 0 w' b
  opened e =
      let c = sym (call_is e) in
      record { number = ap (λ (s : StoreCalled). s.outcome.number) c; words = left_is e ∙ ap (λ (s : StoreCalled). s.words) c; bytes = sym (bytes_stay last n m b) ∙ ap (λ (s : StoreCalled). s.bytes) c }

  pub unopened : r ≡ false → OpenPromise last n m w b 9 w' b
  unopened e =
      let c = sym (call_is e) in
      record { number = ap (λ (s : StoreCalled). s.outcome.number) c; words = left_is e ∙ ap (λ (s : StoreCalled). s.words) c; bytes = ap (λ (s : StoreCalled). s.bytes) c }
