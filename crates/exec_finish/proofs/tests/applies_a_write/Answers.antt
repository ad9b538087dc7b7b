-- The fixture of the test `applies_a_write`: one write, a store that it fits. Assumes nothing.
use native.Mathlib.Omega.{arith}
use mathlib.Core.Path.{refl}
use borrow.Author.Rules.{rules}
use borrow.Author.Tests.{lt-ltb}
use Rattle.store_memtable.proofs.Validity.{validated}
use Rattle.group_spec.specs.Members.{value_inside}
use Rattle.group_spec.proofs.Settled.{room_granted}
use Rattle.command_writes.proofs.Growing.{own_none}
use Rattle.exec_finish.proofs.tests.applies_a_write.Goals as goal

pub put-rows-requires-clause-own : goal.put-rows-requires-clause-own
put-rows-requires-clause-own g c = own_none _ _

pub put-rows-requires-clause-row_fits : goal.put-rows-requires-clause-row_fits
unfolding value_inside
put-rows-requires-clause-row_fits g c = record { key_in = omega arith; value_in = refl }

pub invariant_of-store : goal.invariant_of-store
invariant_of-store g c = search validated

pub apply-answer-requires-clause-room_for : goal.apply-answer-requires-clause-room_for
apply-answer-requires-clause-room_for g c = λ some. room_granted _ _ _ c.has_room.ensures (search rules) refl (lt-ltb _ _ (omega (arith, c.put-rows.ensures.most)))
