use Rattle.reply_reader.proofs.Passing.{passed_none, passed_all, passed_wait, passed_fault, passed_number, passed_next, passed_array_stops, passed_array_whole}
use Rattle.reply_reader.proofs.+read_items.Goals.{in-Next, in-Opens+in-Whole}
use Rattle.reply_reader.proofs.+read_items.Goals as goal

pub loop-init : goal.loop-init
loop-init t c = passed_none c.args.depth c.args.count c.args.first c.args.from c.requires

pub returns-in-Wait : goal.returns-in-Wait
returns-in-Wait t c = passed_wait c.loop.invariant c.loop-test.true c.step.ensures c.in-Wait.is

pub returns-in-Fault : goal.returns-in-Fault
returns-in-Fault t c = passed_fault c.loop.invariant c.loop-test.true c.step.ensures c.in-Fault.is

pub returns-in-Refused : goal.returns-in-Refused
returns-in-Refused t c = passed_number c.loop.invariant c.loop-test.true c.step.ensures c.in-Refused.is

pub returns-in_default : goal.returns-in_default
returns-in_default t c = passed_array_stops c.loop.invariant c.loop-test.true c.step.ensures c.in-Opens.is c.put_item-in-Opens.ensures c.read_items.ensures c.in_default.not-Whole

pub loop-preserved : goal.loop-preserved
loop-preserved t c =
    elim c.match-step.branch [
      | in-Next w ↦ rw (w.items-is, w.n-is, w.at-is) (passed_next c.loop.invariant c.loop-test.true c.step.ensures w.in-Next.is w.put_item.ensures)
      | in-Opens+in-Whole w ↦ rw (w.items-is, w.n-is, w.at-is) (passed_array_whole c.loop.invariant c.loop-test.true c.step.ensures w.in-Opens.is w.put_item-in-Opens.ensures w.read_items.ensures w.in-Whole.is)
    ]

pub returns : goal.returns
returns t c = passed_all c.loop.invariant c.loop-test.false
