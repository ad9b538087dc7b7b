-- `command_writes::own::OwnWrites::holds` meets its contract. Past the rows there is none; else the key decides. Assumes nothing.
use native.Mathlib.Omega.{arith}
use Rattle.std.proofs.lemmas.Grind.{common_steps}
use Rattle.base_key.specs.Bytes.{◌and◌}
use Rattle.group_spec.specs.Members.{write_at}
use Rattle.command_writes.specs.Changes.{held_at}
use Rattle.command_writes.proofs.Places.{own_key_in}
use Rattle.command_writes.proofs.own.OwnWrites.holds.Goals as goal

pub key-requires : goal.key-requires
key-requires c = search own_key_in

pub returns-then-i-self : goal.returns-then-i-self
unfolding held_at write_at ◌and◌
returns-then-i-self c = grind (arith, common_steps)

pub returns-else-i-self : goal.returns-else-i-self
unfolding held_at ◌and◌
returns-else-i-self c = grind (arith, common_steps)
