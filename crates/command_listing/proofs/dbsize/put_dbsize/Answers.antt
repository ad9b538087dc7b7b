-- `command_listing::dbsize::put_dbsize` meets its contract. Assumes nothing.
use mir.ValLaws.{to_z_pos}
use mir.Syntax.{w64}
use native.Mathlib.Omega.{arith}
use Rattle.command_listing.proofs.Rests.{table_few, dbsize_answer}
use Rattle.command_listing.proofs.dbsize.put_dbsize.Goals as goal

pub overflow_cast-count : goal.overflow_cast-count
overflow_cast-count c = record { sfits = omega (arith, table_few _ _ c.args.store.now.valid, c.count_live-count.ensures) }

pub returns : goal.returns
returns c = dbsize_answer _ _ c.count_live-count.ensures (to_z_pos w64 _ (omega (arith, table_few _ _ c.args.store.now.valid, c.count_live-count.ensures))) c.put_int.ensures
