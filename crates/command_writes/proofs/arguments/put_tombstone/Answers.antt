-- `command_writes::arguments::put_tombstone` meets its contract: the row of a tombstone for the argument. Assumes nothing.
use Rattle.command_writes.proofs.ArgumentLaws.{tombstone_in}
use native.Mathlib.Omega.{arith}
use Rattle.command_writes.proofs.arguments.put_tombstone.Goals as goal

pub put-requires-clause-row_fits : goal.put-requires-clause-row_fits
put-requires-clause-row_fits c = record { key_in = omega arith; value_in = search tombstone_in }
