-- Laws of the part tests of one member. Assumes nothing.
use Prim.Native.Nat.{ℕ}
use mathlib.Core.Path.{◌≡◌}
use mathlib.Core.Bool.{true}
use mathlib.Core.List.{List}
use borrow.Author.Tests.{leb-true}
use Rattle.base_key.specs.Bytes.{Bytes}
use Rattle.base_key.proofs.Bytes.{and_left, and_right}
use Rattle.group_spec.specs.declared.Member.{Member}
use Rattle.group_spec.specs.Members.{member_inside}
use Rattle.group_spec.specs.Settling.{WritesIn, ChecksIn}

-- what the tests of a member tell
module _ (w : List ℕ) (d : Bytes) (m : Member) (ok : member_inside w d m ≡ true) where
  pub member_writes : WritesIn w d m.first_write m.writes
  unfolding member_inside
  member_writes = record { rows_in = leb-true _ _ (and_left _ _ ok); parts_in = and_left _ _ (and_right _ _ (and_right _ _ ok)) }

  pub member_checks : ChecksIn w d m.first_check m.checks
  unfolding member_inside
  member_checks = record { rows_in = leb-true _ _ (and_left _ _ (and_right _ _ ok)); parts_in = and_right _ _ (and_right _ _ (and_right _ _ ok)) }
