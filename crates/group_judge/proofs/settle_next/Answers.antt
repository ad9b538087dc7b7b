-- `group_judge::settle_next` meets its contract. A member that is not taken leaves all. Assumes nothing.
use Rattle.std.proofs.Common.{rules}
use Rattle.group_spec.specs.Settling.{step_verdict}
use Rattle.group_spec.proofs.Settled.{member_rows, untaken}
use Rattle.group_judge.proofs.settle_next.Goals as goal
use Rattle.group_judge.proofs.settle_next.Goals.{then-taken_at, else-taken_at}

pub room_after-after-requires : goal.room_after-after-requires
room_after-after-requires c = search member_rows

pub returns-clause-verdicts_after : goal.returns-clause-verdicts_after
unfolding step_verdict
returns-clause-verdicts_after c = elim c.if-taken_at.branch [ then-taken_at w ↦ search rules | else-taken_at w ↦ search rules ]

pub returns-clause-left : goal.returns-clause-left
unfolding step_verdict
returns-clause-left c = elim c.if-taken_at.branch [ then-taken_at w ↦ search rules | else-taken_at w ↦ untaken _ _ _ (search rules) w.store-is ]
