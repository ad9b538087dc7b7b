use Rattle.command_names.proofs.Lookup.{passed_none, passed_more, found_here_lem, not_found}
use Rattle.command_names.proofs.look_up.Goals as goal

pub loop-row-init : goal.loop-row-init
loop-row-init c = search passed_none

pub returns-then-same : goal.returns-then-same
returns-then-same c = search found_here_lem

pub loop-row-preserved : goal.loop-row-preserved
loop-row-preserved c = search passed_more

pub returns : goal.returns
returns c = search not_found
