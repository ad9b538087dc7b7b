-- The rest that a session keeps. Assumes nothing.
use Prim.Native.Nat.{ℕ, ◌+◌, ◌-◌, ◌≤◌}
use native.Mathlib.Nat.{zero-add}
use native.Mathlib.Omega.{arith}
use mathlib.Core.Path.{◌≡◌, ap, ◌∙◌}
use mathlib.Core.List.{◌++◌}
use lib.ListN.{length, take, drop, length-drop, length-append}
use lib.Seq.{paste, take_at, length-take-le}
use borrow.Author.Tests.{le-leb}
use Rattle.base_key.specs.Bytes.{Bytes, part}
use Rattle.frames_lines.specs.Rest.{Within, moved, kept_of, rest_of, Keeps}
use Rattle.std.specs.Prelude.{Some}

-- the length of a part that is there
pub part_length : (from n : ℕ) (l : Bytes) → from + n ≤ length l → length (part from n l) ≡ n
part_length from n l h = length-take-le n (drop from l) (simp length-drop (omega arith))

-- a copy of the part to the front
pub copied_down : (from to : ℕ) (entry : Bytes) {exit : Bytes} → exit ≡ paste entry 0 (drop from entry) (to - from) → exit ≡ moved from to entry
unfolding moved
copied_down from to entry e = e ∙ ap (λ (k : ℕ). part from (to - from) entry ++ drop k entry) (zero-add (to - from))

-- WHAT IS KEPT
module _ (from to : ℕ) (entry : Bytes) (w : Within from to entry) where
  size_is : length (part from (to - from) entry) ≡ to - from
  size_is = part_length from (to - from) entry (omega (arith, w.order, w.size))

  rest_kept : to - from ≤ 4096 → part from (to - from) entry ≡ rest_of (part from (to - from) entry)
  unfolding rest_of
  rest_kept h = let k : length (part from (to - from) entry) ≤ 4096 = omega (arith, size_is) in rw (le-leb (length (part from (to - from) entry)) 4096 k)

  pub keeps_moved : {exit : Bytes} → to - from ≤ 4096 → exit ≡ moved from to entry → Keeps from to entry (Some (to - from)) exit
  unfolding kept_of moved
  keeps_moved {exit} h e =
      let p = part from (to - from) entry in
      record {
        answer = rw (le-leb (to - from) 4096 h);
        held = ap (take (to - from)) e ∙ take_at p (drop (to - from) entry) (to - from) size_is ∙ rest_kept h;
        size = ap length e ∙ length-append p (drop (to - from) entry) ∙ omega (arith, size_is, length-drop (to - from) entry, w.order, w.size);
      }
