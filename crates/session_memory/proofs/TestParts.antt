-- The test of a queue by its sizes, and of the sessions one by one. Assumes nothing.
use mathlib.Core.Path.{◌≡◌, refl}
use mathlib.Core.Bool.{Bool, true, false, cond}
use mathlib.Core.List.{List}
use Prim.Native.Nat.{ℕ, suc}
use borrow.Author.Tests.{leb-true}
use lib.Dec.{leb, eqb}
use lib.ListN.{get_or, take, drop}
use Rattle.base_key.specs.Bytes.{Bytes, ◌and◌, part, total}
use Rattle.base_key.proofs.Bytes.{and_left, and_right}
use Rattle.command_spec.specs.Sessions.{all_positive, all_queueable, yes?, queue_in, queue_ok, session_ok, sessions_ok_in}
use Rattle.command_spec.specs.Lent.{OneSession, QueueIn, queue_sizes_ok}

and_four : (a b c d r : Bool) → (a and b and c and d and r) ≡ ((a and b and c and d) and r)
unfolding ◌and◌
and_four true true true d r = refl
and_four true true false d r = refl
and_four true false c d r = refl
and_four false b c d r = refl

pub queue_as : (w : List ℕ) (b : Bytes) → queue_ok w b ≡ (queue_sizes_ok w and (all_queueable (queue_in w b) and cond (yes? (get_or w 0 0)) true (eqb (get_or w 3 0) 0)))
unfolding queue_ok queue_sizes_ok
queue_as w b =
    and_four (leb (get_or w 3 0) 64) (leb (total (part 68 (get_or w 3 0) w)) 512) (leb (total (part 132 (total (part 68 (get_or w 3 0) w)) w)) 8192)
    (all_positive (part 68 (get_or w 3 0) w)) (all_queueable (queue_in w b) and cond (yes? (get_or w 0 0)) true (eqb (get_or w 3 0) 0))

pub sizes_in : (w : List ℕ) (b : Bytes) → OneSession w b → queue_sizes_ok w ≡ true → QueueIn w b (get_or w 3 0)
unfolding queue_sizes_ok
sizes_in w b o e =
    let n : ℕ = get_or w 3 0 in
    let few : leb n 64 ≡ true = and_left (leb n 64) _ e in
    let r1 = and_right (leb n 64) (leb (total (part 68 n w)) 512 and leb (total (part 132 (total (part 68 n w)) w)) 8192 and all_positive (part 68 n w)) e in
    let r2 = and_right (leb (total (part 68 n w)) 512) (leb (total (part 132 (total (part 68 n w)) w)) 8192 and all_positive (part 68 n w)) r1 in
    record {
      words = o.words;
      bytes = o.bytes;
      few = leb-true n 64 few;
      arguments = leb-true (total (part 68 n w)) 512 (and_left (leb (total (part 68 n w)) 512) _ r1);
      room = leb-true (total (part 132 (total (part 68 n w)) w)) 8192 (and_left (leb (total (part 132 (total (part 68 n w)) w)) 8192) _ r2);
      named = and_right (leb (total (part 132 (total (part 68 n w)) w)) 8192) (all_positive (part 68 n w)) r2;
    }

pub sessions_true : (last n : ℕ) (w : List ℕ) (b : Bytes) → session_ok last (take 644 w) (take 10240 b) ≡ true → sessions_ok_in last (suc n) w b ≡ sessions_ok_in last n (drop 644 w) (drop 10240 b)
unfolding sessions_ok_in
sessions_true last n w b e = rw (sessions_ok_in, e)

pub sessions_false : (last n : ℕ) (w : List ℕ) (b : Bytes) → session_ok last (take 644 w) (take 10240 b) ≡ false → sessions_ok_in last (suc n) w b ≡ false
unfolding sessions_ok_in
sessions_false last n w b e = rw (sessions_ok_in, e)
