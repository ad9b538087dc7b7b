use Rattle.std.proofs.Common.{arith}
use Rattle.group_spec.proofs.AscendingLaws.{turning_none, turning_more, turned_rows, turned_bytes, turn_in, turn_mergeable}
use Rattle.group_merge.proofs.merge_writes.Goals as goal

pub loop-j-init : goal.loop-j-init
loop-j-init c = search turning_none

pub merge_write-left-requires : goal.merge_write-left-requires
merge_write-left-requires c = record {
  write_in = turn_in c.loop-j.invariant (omega arith) c.requires.writes_in;
  mergeable = turn_mergeable c.loop-j.invariant (omega arith) c.requires.writes_in (omega arith);
}

pub loop-j-preserved : goal.loop-j-preserved
loop-j-preserved c =
    turning_more c.loop-j.invariant (omega arith) (omega arith) c.requires.top_value c.wide.ensures
    c.merge_write-left.ensures.value c.merge_write-left.ensures.words_after c.merge_write-left.ensures.bytes_after c.merge_write-left.auto.words c.merge_write-left.auto.bytes

pub returns : goal.returns
returns c = search (turned_rows, turned_bytes)
