-- `command_writes::arguments::put_pair` meets its contract: the row of the two arguments. Assumes nothing.
use Rattle.command_writes.proofs.ArgumentLaws.{pair_fits}
use borrow.Author.Rules.{rules}
use Rattle.command_writes.proofs.arguments.put_pair.Goals as goal

pub put-requires : goal.put-requires
put-requires c = search (rules, pair_fits)
