use Rattle.std.proofs.Common.{◌≡◌, length, arith, add-one, refl, ◌∙◌}
use Rattle.group_spec.specs.Settling.{as_room}
use Rattle.group_spec.proofs.Walking.{walking_first, walking_inside, walking_more, walking_end}
use Rattle.group_walk.proofs.settle_members.Goals as goal

pub loop-i-init : goal.loop-i-init
unfolding as_room
loop-i-init c = (record { words = refl; bytes = refl }, walking_first c.requires)

pub settle_next-room-requires-clause-member_value : goal.settle_next-room-requires-clause-member_value
settle_next-room-requires-clause-member_value c = walking_inside c.loop-i.invariant.1 _ c.loop-i-test.true

pub loop-i-preserved : goal.loop-i-preserved
loop-i-preserved c =
    let left = c.settle_next-room.ensures.left in
    let more = walking_more c.loop-i.invariant.1 _ c.requires c.loop-i-test.true c.settle_next-room.ensures.value c.settle_next-room.ensures.verdicts_after left.words_after left.bytes_after in
    (record { words = left.lent.words ∙ c.loop-i.invariant.0.words; bytes = left.lent.bytes ∙ c.loop-i.invariant.0.bytes }, rw add-one more)

pub returns-clause-left : goal.returns-clause-left
returns-clause-left c =
    let last : c.loop-i.i ≡ length c.args.members.now = omega arith in
    walking_end (rw last at c.loop-i.invariant.1) c.requires
