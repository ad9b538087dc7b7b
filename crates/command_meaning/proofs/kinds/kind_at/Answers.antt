-- `command_meaning::kinds::kind_at` meets its contract. The row that the look-up finds is that of the name. Assumes nothing.
use Rattle.command_spec.proofs.PlaceLaws.{arguments_count}
use Rattle.command_meaning.proofs.KindLaws.{queued_count, queued_plain}
use borrow.Author.Rules.{rules}
use Rattle.command_meaning.proofs.kinds.kind_at.Goals as goal

pub kind_of-requires : goal.kind_of-requires
kind_of-requires c = search (queued_count, queued_plain, arguments_count, rules)
