-- `exec_finish::commit_own` meets its contract. Assumes nothing.
use borrow.Author.Rules.{rules}
use Rattle.command_writes.specs.Own.{own_writes}
use Rattle.exec_finish.proofs.ConcludeLaws.{own_committed, none_written, none_bytes}
use Rattle.exec_finish.proofs.commit_own.Goals as goal

pub commit_ascending-requires-clause-ascending : goal.commit_ascending-requires-clause-ascending
unfolding own_writes
commit_ascending-requires-clause-ascending c = c.args.writes.now.own_writes.rising

pub invariant_of-store : goal.invariant_of-store
invariant_of-store c = record { valid = own_committed _ _ _ _ _ c.args.writes.now.own_writes c.args.store.now.valid (c.requires c.if-writes-gt0.true) c.commit_ascending.ensures.words_after c.commit_ascending.ensures.bytes_after }

pub returns-then-writes-gt0 : goal.returns-then-writes-gt0
unfolding own_writes
returns-then-writes-gt0 c = search rules

pub returns-else-writes-gt0 : goal.returns-else-writes-gt0
returns-else-writes-gt0 c = search (none_written, none_bytes)
