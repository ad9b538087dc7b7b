-- `command_room::room::check_room` meets its contract. Assumes nothing.
use Rattle.command_room.proofs.Writes.{verdict_short, verdict_full, verdict_accepted, verdict_no_sequence}
use borrow.Author.Tests.{not-true, not-false}
use borrow.Author.Rules.{rules}
use Rattle.command_room.proofs.room.check_room.Goals as goal

pub returns-in_err-ok_or : goal.returns-in_err-ok_or
returns-in_err-ok_or c = verdict_short _ _ c.in_err-ok_or.ensures.ok_part c.in_err-ok_or.ensures.value (search rules)

pub returns-then-word-writes : goal.returns-then-word-writes
returns-then-word-writes c = verdict_full _ _ c.in_ok-ok_or.ensures.ok_part c.word.ensures c.word-2.ensures c.requires.count_fits c.if-word-writes.true

pub returns-then-not-has_sequences : goal.returns-then-not-has_sequences
returns-then-not-has_sequences c = search (verdict_no_sequence c.args.words.now c.args.writes c.in_ok-ok_or.ensures.ok_part c.word.ensures c.word-2.ensures, not-true)

pub returns : goal.returns
returns c = search (verdict_accepted c.args.words.now c.args.writes c.in_ok-ok_or.ensures.ok_part c.word.ensures c.word-2.ensures, not-false)
