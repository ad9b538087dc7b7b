use Rattle.std.proofs.Common.{rules}
use Rattle.group_spec.proofs.SizeLaws.{leaving_more, leaving_short, leaving_all}
use Rattle.group_spec.proofs.sizes.writes_left.Goals as goal

pub loop-j-preserved : goal.loop-j-preserved
loop-j-preserved c = search (rules, leaving_more)

pub returns : goal.returns
returns c = search (rules, leaving_all)

pub returns-in_err-rest : goal.returns-in_err-rest
returns-in_err-rest c = search (rules, leaving_short)
