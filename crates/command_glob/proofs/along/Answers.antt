use Rattle.command_glob.proofs.Globbing.{end_fails, end_whole, star_reached, one_short, literal_short, literal_other, one_more, literal_more}
use Rattle.command_glob.proofs.along.Goals as goal
use Rattle.command_glob.proofs.along.Goals.{then-name-used-2-via-then-name-used-2, then-name-used-2-via-else-name-used-2+then-name-used-3}

pub returns-then-used-name : goal.returns-then-used-name
returns-then-used-name c = end_fails c.loop-next.invariant c.in-End.ensures c.if-used-name.true

pub returns-in-End : goal.returns-in-End
returns-in-End c = end_whole c.loop-next.invariant c.in-End.ensures c.if-used-name.false

pub returns-in-Star : goal.returns-in-Star
returns-in-Star c = star_reached c.loop-next.invariant c.in-Star.ensures

pub returns-then-name-used : goal.returns-then-name-used
returns-then-name-used c = one_short c.loop-next.invariant c.in-One.ensures c.if-name-used.true

pub loop-next-preserved-in-One : goal.loop-next-preserved-in-One
loop-next-preserved-in-One c = one_more c.loop-next.invariant c.in-One.ensures c.if-name-used.false

pub returns-then-name-used-2 : goal.returns-then-name-used-2
returns-then-name-used-2 c =
    elim c.then-name-used-2.branch [
      | then-name-used-2-via-then-name-used-2 w ↦ literal_short c.loop-next.invariant c.in-Byte.ensures w.if-name-used-2.true
      | then-name-used-2-via-else-name-used-2+then-name-used-3 w ↦ literal_other c.loop-next.invariant c.in-Byte.ensures w.if-name-used-2.false w.if-name-used-3.true
    ]

pub loop-next-preserved : goal.loop-next-preserved
loop-next-preserved c = literal_more c.loop-next.invariant c.in-Byte.ensures c.if-name-used-2.false c.if-name-used-3.false
