-- An opened store beside zero session words is the state that the definition opens with, and zero counts hold nothing. Assumes nothing.
use Prim.Native.Nat.{ℕ, zero, suc, ◌*◌, ◌≤◌, min}
use native.Mathlib.Omega.{arith}
use mathlib.Core.Path.{◌≡◌, refl, sym, ap, ◌∙◌}
use mathlib.Core.Bool.{Bool, true, false, cond}
use mathlib.Core.List.{List, [], ◌∷◌}
use lib.ListN.{length, get_or, replicate, get_or-replicate}
use Rattle.base_key.specs.Bytes.{Bytes, part}
use Rattle.store_memtable.specs.Layout.{store_in, buffers_hold, empty_store}
use Rattle.store_memtable.proofs.LayoutLaws.{store_back}
use Rattle.command_spec.specs.Session.{clear}
use Rattle.call_spec.specs.Serve.{refused, open_state}
use Rattle.call_spec.specs.Calls.{lent_of, StoreCalled, gives_store, refuses_store, open_call, OpenPromise}
use Rattle.call_spec.proofs.MadeLaws.{made}
use Rattle.frames_lines.specs.Served.{listed, state_in}
use Rattle.frames_lines.specs.Held.{held_at, rests_in}
use Rattle.frames_lines.proofs.ServedLaws.{state_is}

module _ {last versions size r : ℕ} {w w' : List ℕ} {b b' : Bytes} (e : r ≡ 0) (p : OpenPromise last versions size w b r w' b') where
  opened_store : store_in w' b' ≡ empty_store last versions size
  unfolding open_call
  opened_store = go (buffers_hold w b versions size) p.number p.words p.bytes
    where
      called : Bool → StoreCalled
      called x = cond x (gives_store (refused 0) (empty_store last versions size) w b) (refuses_store 9 w b)

      go : (x : Bool) → r ≡ (called x).outcome.number → w' ≡ (called x).words → b' ≡ (called x).bytes → store_in w' b' ≡ empty_store last versions size
      go true n ew eb = (λ z. store_in (ew z) (eb z)) ∙ store_back (empty_store last versions size) w b
      go false n ew eb = absurd (omega (arith, e, n))

  pub opened_state : (n : ℕ) (sb : Bytes) → 16 * 644 ≤ n → 16 * 10240 ≤ length sb → state_in (lent_of w' b' (replicate n 0) sb) ≡ open_state last versions size
  unfolding open_state
  opened_state n sb words bytes = state_is (lent_of w' b' (replicate n 0) sb) (open_state last versions size) (record {
    store = opened_store;
    sixteen = refl;
    sessions = λ i h. (made.zero last n sb words bytes).1 i h ∙ sym (get_or-replicate 16 i clear clear h);
  })

zero_at : (n j : ℕ) → ◌≡◌ {A = ℕ} (get_or (replicate n 0) j 0) 0
zero_at zero zero = refl
zero_at zero (suc j) = refl
zero_at (suc n) zero = refl
zero_at (suc n) (suc j) = zero_at n j

listed_same : {A : Type 0} (f : ℕ → A) (x : A) (n i : ℕ) → ((j : ℕ) → f j ≡ x) → listed f n i ≡ replicate n x
unfolding listed
listed_same f x zero i h = refl
listed_same f x (suc n) i h = λ z. h i z ∷ listed_same f x n (suc i) h z

pub rests_none : (n : ℕ) (held : Bytes) → rests_in (replicate n 0) held ≡ replicate 16 []
unfolding rests_in held_at
rests_none n held = listed_same (held_at (replicate n 0) held) [] 16 0 (λ j. ap (λ (k : ℕ). part (j * 8192) (min k 4096) held) (zero_at n j))
