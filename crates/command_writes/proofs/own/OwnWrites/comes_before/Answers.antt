-- `command_writes::own::OwnWrites::comes_before` meets its contract. Assumes nothing.
use Rattle.command_writes.proofs.Places.{own_key_in}
use Rattle.command_writes.proofs.own.OwnWrites.comes_before.Goals as goal

pub key-requires : goal.key-requires
key-requires c = search own_key_in
