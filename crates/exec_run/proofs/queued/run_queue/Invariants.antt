-- `exec_run::queued::run_queue` meets its contract. Assumes nothing.
use Rattle.exec_run.proofs.WalkLaws.{Walking}
use lib.ListN.{take}
use Rattle.exec_run.proofs.queued.run_queue.Given as goal

abbrev pub invariant-loop-i : goal.invariant-loop-i
invariant-loop-i l = Walking l.session_words l.places (take l.used l.initial.«data») l.store.words.now l.store.bytes.now l.seq l.initial.at.put l.initial.own l.initial.«data» l.initial.out l.own l.«data» l.out l.at l.first l.i
