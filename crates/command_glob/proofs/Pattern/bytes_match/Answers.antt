use Rattle.command_glob.proofs.Ends.{pairing_none, pairing_one, pairing_byte, paired_all, paired_star, paired_other}
use Rattle.command_glob.proofs.Pattern.bytes_match.Goals as goal

pub loop-next-init : goal.loop-next-init
loop-next-init c = search pairing_none

pub returns-in-End : goal.returns-in-End
returns-in-End c = paired_all c.loop-next.invariant c.in-End.ensures

pub returns-in-Star : goal.returns-in-Star
returns-in-Star c = paired_star c.loop-next.invariant c.in-Star.ensures

pub loop-next-preserved-in-One : goal.loop-next-preserved-in-One
loop-next-preserved-in-One c = pairing_one c.loop-next.invariant c.in-One.ensures

pub returns-then-name-used : goal.returns-then-name-used
returns-then-name-used c = paired_other c.loop-next.invariant c.in-Byte.ensures c.if-name-used.true

pub loop-next-preserved : goal.loop-next-preserved
loop-next-preserved c = pairing_byte c.loop-next.invariant c.in-Byte.ensures c.if-name-used.false
