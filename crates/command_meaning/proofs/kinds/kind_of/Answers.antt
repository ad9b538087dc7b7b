-- `command_meaning::kinds::kind_of` meets its contract. One law for each arm. Assumes nothing.
use Rattle.command_spec.proofs.PlaceLaws.{arguments_count}
use Rattle.command_meaning.proofs.KindLaws.{kind_for, incrby_count, get_does, set_does, del_does, exists_does, mget_does, mset_does, incr_does, decr_does, echo_does}
use borrow.Author.Rules.{rules}
use Rattle.command_meaning.proofs.kinds.kind_of.Goals as goal

pub incrby-requires : goal.incrby-requires
incrby-requires c = search (incrby_count, rules)

pub returns-in-Get : goal.returns-in-Get
returns-in-Get c = search get_does

pub returns-in-Set : goal.returns-in-Set
returns-in-Set c = search (set_does, arguments_count)

pub returns-in-Del : goal.returns-in-Del
returns-in-Del c = search del_does

pub returns-in-Exists : goal.returns-in-Exists
returns-in-Exists c = search exists_does

pub returns-in-Mget : goal.returns-in-Mget
returns-in-Mget c = search mget_does

pub returns-in-Mset : goal.returns-in-Mset
returns-in-Mset c = search mset_does

pub returns-in-Incr : goal.returns-in-Incr
returns-in-Incr c = search incr_does

pub returns-in-Decr : goal.returns-in-Decr
returns-in-Decr c = search decr_does

pub returns-in-Ping : goal.returns-in-Ping
returns-in-Ping c = search (kind_for, arguments_count)

pub returns-in-Echo : goal.returns-in-Echo
returns-in-Echo c = search echo_does
