-- A session without watched keys and queued commands is held. Assumes nothing.
use Prim.Native.Nat.{ℕ}
use native.Mathlib.Omega.{arith}
use mathlib.Core.Path.{◌≡◌, refl}
use mathlib.Core.List.{List}
use lib.ListN.{length, get_or}
use Rattle.base_key.specs.Bytes.{Bytes, total}
use Rattle.command_spec.specs.Sessions.{split_by, keys_in}
use Rattle.command_spec.specs.Held.{Held}

pub empty_held : {w : List ℕ} {b : Bytes} → length w ≡ 644 → length b ≡ 10240 → get_or w 2 0 ≡ 0 → get_or w 3 0 ≡ 0 → Held w b
unfolding keys_in split_by total
empty_held {w} {b} lw lb k q = record {
  words = lw;
  bytes = lb;
  few_keys = omega (arith, k);
  key_room = rw k (omega arith);
  rising = rw k refl;
  few_commands = omega (arith, q);
  few_arguments = rw q (omega arith);
  room = rw q (omega arith);
  quiet = λ z. q;
}
