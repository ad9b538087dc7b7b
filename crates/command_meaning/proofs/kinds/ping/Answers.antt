-- `command_meaning::kinds::ping` meets its contract. Assumes nothing.
use Rattle.command_meaning.proofs.KindLaws.{ping_alone, ping_echo}
use Rattle.command_meaning.proofs.kinds.ping.Goals as goal

pub returns-then-count-eq1 : goal.returns-then-count-eq1
returns-then-count-eq1 c = search ping_alone

pub returns-else-count-eq1 : goal.returns-else-count-eq1
returns-else-count-eq1 c = ping_echo c.requires c.if-count-eq1.false
