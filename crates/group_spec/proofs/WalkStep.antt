-- What a step of the walk leaves is the store after it, written back over the words and bytes of the start. Assumes nothing.
use Prim.Native.Nat.{ℕ}
use native.Mathlib.Omega.{arith}
use mathlib.Core.Path.{◌≡◌, refl, sym, ap, ◌∙◌}
use mathlib.Core.Bool.{Bool, true, false}
use mathlib.Core.List.{List}
use Rattle.base_key.specs.Keys.{Key}
use Rattle.store_memtable.specs.Versions.{Store}
use Rattle.store_memtable.specs.Layout.{store_in, leave_words, leave_bytes}
use Rattle.store_memtable.proofs.VersionLaws.{Room}
use Rattle.store_memtable.proofs.Sequence.{Holds, holds_valid, holds_store, holds_commit, leave_words_same, leave_bytes_same}
use Rattle.group_spec.specs.declared.Verdict.{Verdict}
use Rattle.group_spec.specs.declared.Verdict.TheVariants.{Accepted, Conflict, NoRoom, NoSequence, NotTaken}
use Rattle.group_spec.specs.Group.{Pending, store_after}
use Rattle.group_spec.specs.Settling.{judge_since, step_verdict}
use Rattle.group_spec.proofs.GroupLaws.{accepts}
use Rattle.group_spec.proofs.Since.{Marked, judge_since_lem}

module _ {st : Store} {ws₀ bs₀ ws bs : List ℕ} (h : Holds st ws₀ bs₀ ws bs) where
  holds_same : {ws' bs' : List ℕ} → ws' ≡ leave_words (store_in ws bs) ws → bs' ≡ leave_bytes (store_in ws bs) bs → Holds st ws₀ bs₀ ws' bs'
  holds_same p q = record {
    words_are = p ∙ leave_words_same ws bs (holds_valid h) ∙ h.words_are;
    bytes_are = q ∙ leave_bytes_same ws bs (holds_valid h) ∙ h.bytes_are;
    fits = h.fits;
  }

  module _ (began : ℕ) (written : List Key) (k : Marked began written st) (t : Bool) (m : Pending) where
    room_of : step_verdict t began st m ≡ Accepted → Room m.writes st
    unfolding step_verdict
    room_of e = (accepts written st m (sym (judge_since_lem began written st m k) ∙ go t e)).fits
      where
        go : (b : Bool) → step_verdict b began st m ≡ Accepted → judge_since began st m ≡ Accepted
        go true e = e
        go false e = let z : ◌≡◌ {A = ℕ} 0 1 = cc in absurd (omega arith)

    -- what `settle_next` leaves
    pub holds_step : {ws' bs' : List ℕ} → ws' ≡ leave_words (store_after (step_verdict t began (store_in ws bs) m) m.writes (store_in ws bs)) ws
        → bs' ≡ leave_bytes (store_after (step_verdict t began (store_in ws bs) m) m.writes (store_in ws bs)) bs
        → Holds (store_after (step_verdict t began st m) m.writes st) ws₀ bs₀ ws' bs'
    unfolding store_after
    holds_step {ws'} {bs'} p q =
        go (step_verdict t began st m) refl
        (p ∙ ap (λ (x : Store). leave_words (store_after (step_verdict t began x m) m.writes (store_in ws bs)) ws) (holds_store h))
        (q ∙ ap (λ (x : Store). leave_bytes (store_after (step_verdict t began x m) m.writes (store_in ws bs)) bs) (holds_store h))
      where
        go : (v : Verdict) → step_verdict t began st m ≡ v → ws' ≡ leave_words (store_after v m.writes (store_in ws bs)) ws
            → bs' ≡ leave_bytes (store_after v m.writes (store_in ws bs)) bs → Holds (store_after v m.writes st) ws₀ bs₀ ws' bs'
        go Accepted e p q = holds_commit h m.writes (room_of e) p q
        go Conflict e p q = holds_same p q
        go NoRoom e p q = holds_same p q
        go NoSequence e p q = holds_same p q
        go NotTaken e p q = holds_same p q
