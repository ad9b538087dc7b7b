-- `group_spec::sizes::room_after` meets its contract. The first, then where there is room. Assumes nothing.
use Rattle.std.proofs.Common.{rules}
use Rattle.group_spec.specs.Settling.{as_room, room_after}
use Rattle.group_spec.proofs.sizes.room_after.Goals as goal
use Rattle.group_spec.proofs.sizes.room_after.Goals.{then-i-eq0, else-i-eq0+in_ok-left}

pub returns-in_err-left : goal.returns-in_err-left
unfolding as_room room_after
returns-in_err-left c = search rules

pub returns : goal.returns
unfolding as_room room_after
returns c = elim c.if-i-eq0.branch [ then-i-eq0 w ↦ search rules | else-i-eq0+in_ok-left w ↦ search rules ]
