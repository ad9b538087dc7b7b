-- How many keys are live, as a reply. Assumes nothing.
use Prim.Native.Nat.{ℕ, ◌-◌, ◌^◌, ◌≤◌, ◌<◌}
use native.Mathlib.Omega.{arith}
use mathlib.Core.Path.{◌≡◌, sym, ap, ◌∙◌}
use mathlib.Core.List.{List}
use lib.IntN.{ℤ, pos}
use lib.ListN.{length}
use mir.Syntax.{w64}
use mir.Val.{SFits, to_z, of_z}
use mir.ValLaws.{to_z-of_z}
use Rattle.std.proofs.lemmas.Int.{to_z_pos}
use Rattle.base_key.specs.Bytes.{Bytes}
use Rattle.base_writing.specs.Puts.{Adds}
use Rattle.base_writing.proofs.Puts.{same_added}
use Rattle.resp_spec.specs.Reply.{Integer, encode}
use Rattle.store_memtable.specs.Table.{Reader}
use Rattle.command_spec.specs.Command.{live}
use Rattle.command_spec.specs.Places.{arguments_at, PartsIn}
use Rattle.command_spec.proofs.PlaceLaws.{arguments_of}
use Rattle.command_lookup.proofs.Arguments.{live_within}
use Rattle.command_meaning.specs.Kinds.{live_reply}
use Rattle.std.specs.Prelude.{Option}

module _ (r : Reader) (p : List ℕ) (d : Bytes) (count : ℕ) {n : ℕ} (n-is : n ≡ live r (arguments_at 1 (count - 1) p d)) where
  live_small : PartsIn p d count → length p < 2 ^ 64 → n < 2 ^ 63
  live_small i h = omega (arith, i.table, live_within r 1 (count - 1) p d)

  pub live_replied : {z : ℤ} {put after : Option ℕ} {entry exit : Bytes} → z ≡ to_z w64 n → 1 ≤ count → PartsIn p d count → length p < 2 ^ 64
      → Adds (encode (Integer (to_z w64 (of_z w64 z)))) put entry after exit → Adds (encode (live_reply r (arguments_at 0 count p d))) put entry after exit
  unfolding live_reply
  live_replied {z} z-is h i l a =
      let small : SFits w64 (pos n) = record { sfits = live_small i l } in
      let same : to_z w64 (of_z w64 z) ≡ pos n = ap (λ (x : ℤ). to_z w64 (of_z w64 x)) (z-is ∙ to_z_pos w64 n (live_small i l)) ∙ to_z-of_z w64 (pos n) small in
      same_added (sym (ap (λ (x : ℤ). encode (Integer x)) (same ∙ ap pos (n-is ∙ ap (live r) (sym (arguments_of p d count h)))))) a
