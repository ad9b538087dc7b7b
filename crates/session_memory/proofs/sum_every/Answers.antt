use Rattle.session_memory.proofs.Sums.{summing_more, sum_above, summed_all}
use Rattle.session_memory.proofs.sum_every.Goals as goal

pub returns-then-limit-sum : goal.returns-then-limit-sum
returns-then-limit-sum c = search sum_above

pub loop-i-preserved : goal.loop-i-preserved
loop-i-preserved c = search summing_more

pub returns : goal.returns
returns c = search summed_all
