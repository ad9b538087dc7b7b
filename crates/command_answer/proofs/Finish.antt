-- A reply that was put into a cleared buffer, and what `finish` makes of it. Assumes nothing.
use Prim.Native.Nat.{ℕ, zero, suc, ◌-◌}
use native.Mathlib.Omega.{arith}
use mathlib.Core.Path.{◌≡◌, refl, ap, ◌∙◌}
use mathlib.Core.List.{◌++◌}
use lib.ListN.{length, drop, replicate}
use borrow.Author.Tests.{le-leb, lt-leb}
use Rattle.base_key.specs.Bytes.{Bytes}
use Rattle.base_writing.specs.Puts.{Puts}
use Rattle.base_writing.proofs.Puts.{was_wrote, was_full}
use Rattle.resp_spec.specs.Reply.{Reply, encode}
use Rattle.store_memtable.specs.Versions.{Store}
use Rattle.command_spec.specs.Session.{Session, says}
use Rattle.command_spec.specs.Finish.{Served, silent, fitted, finish_by, finish, reply_buffer, Says}
use Rattle.command_answer.specs.Answers.{refusal}
use Rattle.std.specs.Prelude.{Option, None, Some}

-- a cleared buffer
abbrev pub Cleared : Bytes → Type 0
Cleared out = out ≡ replicate (length out) 0

-- an answered request
abbrev pub replied : ℕ → Bytes → Store → Session → Served
replied used text st s = record { number = 0; used = used; reply = text; store = st; session = s }

drop_replicate : (k n : ℕ) → drop {A = ℕ} k (replicate n 0) ≡ replicate (n - k) 0
drop_replicate zero n = let e : n ≡ n - 0 = omega arith in ap (λ (m : ℕ). replicate m 0) e
drop_replicate (suc k) zero = let e : 0 ≡ 0 - suc k = omega arith in ap (λ (m : ℕ). replicate m 0) e
drop_replicate (suc k) (suc n) = let e : n - k ≡ suc n - suc k = omega arith in drop_replicate k n ∙ ap (λ (m : ℕ). replicate m 0) e

module _ {out out' : Bytes} {put : Option ℕ} (r : Reply) (p : Puts (encode r) out put out') (used : ℕ) (st st' : Store) (s s' : Session) where
  module _ {k : ℕ} (e : put ≡ Some k) where
    pub finish_wrote : finish (length out) used (says r st' s') st s ≡ replied used (encode r) st' s'
    unfolding finish finish_by fitted
    finish_wrote = let h = was_wrote p e in rw (le-leb (length (encode r)) (length out) (omega (arith, h.count, h.fits)))

    pub says_wrote : Cleared out → Says (replied used (encode r) st' s') out (record { number = 0; used = used; reply = k }) out'
    unfolding reply_buffer
    says_wrote z =
        let h = was_wrote p e in
        record {
          answer = ap (λ (n : ℕ). record { number = 0; used = used; reply = n }) h.count;
          reply = h.buffer ∙ ap (λ (x : Bytes). encode r ++ drop k x) z ∙ ap (λ (x : Bytes). encode r ++ x) (drop_replicate k (length out))
              ∙ ap (λ (n : ℕ). encode r ++ replicate (length out - n) 0) h.count;
        }

  module _ (e : put ≡ None) where
    pub finish_full : finish (length out) used (says r st' s') st s ≡ silent 3 0 st s
    unfolding finish finish_by fitted
    finish_full = let h = was_full p e in rw (lt-leb (length (encode r)) (length out) h.long)

    pub full_cleared : out' ≡ replicate (length out) 0
    full_cleared = (was_full p e).buffer

-- a number with a cleared buffer
pub says_number : (n : ℕ) (st : Store) (s : Session) (out out' : Bytes) → out' ≡ replicate (length out) 0 → Says (silent n 0 st s) out (refusal n) out'
unfolding reply_buffer
says_number n st s out out' e = let z : length out ≡ length out - 0 = omega arith in record { answer = refl; reply = e ∙ ap (λ (m : ℕ). replicate m 0) z }
