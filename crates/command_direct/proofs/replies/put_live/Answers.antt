-- `command_direct::replies::put_live` meets its contract. Assumes nothing.
use Rattle.command_direct.proofs.Commands.{live_fits, live_put}
use mir.Syntax.{w64}
use mir.ValLaws.{to_z_pos}
use borrow.Author.Rules.{rules}
use Rattle.command_direct.proofs.replies.put_live.Goals as goal

pub overflow_cast-count : goal.overflow_cast-count
overflow_cast-count c = record { sfits = live_fits _ _ _ _ c.count_live-count.ensures c.args.request.now.parts_in (search rules) }

pub returns : goal.returns
returns c = live_put _ _ c.count_live-count.ensures (to_z_pos w64 _ (live_fits _ _ _ _ c.count_live-count.ensures c.args.request.now.parts_in (search rules))) c.put_int.ensures
