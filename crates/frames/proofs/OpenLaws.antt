-- An opened store beside zeroed sessions and a zeroed reply buffer: fit to be served, and the console that the definition opens with. Assumes nothing.
use Prim.Native.Nat.{ℕ, ◌*◌, ◌≤◌}
use native.Mathlib.Omega.{arith}
use mathlib.Core.Path.{◌≡◌, refl, sym, ap}
use mathlib.Core.Bool.{Bool, false}
use mathlib.Core.List.{List}
use lib.ListN.{length, replicate, length-replicate}
use Rattle.base_key.specs.Bytes.{Bytes}
use Rattle.std.specs.Prelude.{Result, Ok, Err, is_err}
use Rattle.command_spec.specs.declared.CallError.{CallError}
use Rattle.command_spec.specs.Numbers.{number_of}
use Rattle.call_spec.specs.Calls.{lent_of, OpenPromise}
use Rattle.call_spec.specs.Frames.{open_console}
use Rattle.call_spec.proofs.MadeLaws.{made}
use Rattle.frames_lines.proofs.OpenLaws.{opened_state, rests_none}
use Rattle.frames_console.specs.Answers.{console_in}
use Rattle.frames_console.specs.Steps.{Fit}

pub opened_number : {A : Type 0} (o : Result A CallError) {b : Bool} → b ≡ is_err o → b ≡ false → number_of o ≡ 0
opened_number (Ok a) e f = refl
opened_number (Err x) e f = let z : ◌≡◌ {A = ℕ} 0 1 = cc in absurd (omega arith)

fit_beside : (n m k : ℕ) {last versions size r : ℕ} {w w' : List ℕ} {b b' : Bytes} → 16 * 644 ≤ n → 16 * 10240 ≤ m → r ≡ 0 → OpenPromise last versions size w b r w' b'
    → Fit (lent_of w' b' (replicate n 0) (replicate m 0)) (replicate k 0)
fit_beside n m k {last} {versions} {size} {r} {w} {w'} {b} {b'} words bytes e p = record {
  fit =
      let long : length {A = ℕ} (replicate m 0) ≡ m = length-replicate {A = ℕ} m 0 in
      let z = made.zero last n (replicate m 0) words (omega (arith, bytes, long)) in
      (made.opens last versions size w b w' b' (replicate n 0) (replicate m 0) z.0 z.1 (rw e at p)).fit;
  cleared = ap (λ (j : ℕ). replicate j 0) (sym (length-replicate k 0));
}

pub opened_fit : {last versions size r : ℕ} {w w' : List ℕ} {b b' : Bytes} → r ≡ 0 → OpenPromise last versions size w b r w' b'
    → Fit (lent_of w' b' (replicate 10304 0) (replicate 163840 0)) (replicate 32768 0)
opened_fit = fit_beside 10304 163840 32768 (omega arith) (omega arith)

console_beside : (n m : ℕ) (held : Bytes) {r : ℕ} {w w' : List ℕ} {b b' : Bytes} → 16 * 644 ≤ n → 16 * 10240 ≤ m → r ≡ 0 → OpenPromise 0 1024 32768 w b r w' b'
    → console_in (lent_of w' b' (replicate n 0) (replicate m 0)) (replicate 16 0) held ≡ open_console
unfolding console_in open_console
console_beside n m held words bytes e p =
    let long : length {A = ℕ} (replicate m 0) ≡ m = length-replicate {A = ℕ} m 0 in
    λ z. record { state = opened_state e p n (replicate m 0) words (omega (arith, bytes, long)) z; rests = rests_none 16 held z }

pub opened_console : (k : ℕ) {r : ℕ} {w w' : List ℕ} {b b' : Bytes} → r ≡ 0 → OpenPromise 0 1024 32768 w b r w' b'
    → console_in (lent_of w' b' (replicate 10304 0) (replicate 163840 0)) (replicate 16 0) (replicate k 0) ≡ open_console
opened_console k = console_beside 10304 163840 (replicate k 0) (omega arith) (omega arith)
