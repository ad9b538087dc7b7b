-- `exec_run::transaction::exec` meets its contract. Assumes nothing.
use mathlib.Core.Path.{sym, ◌∙◌}
use Rattle.session_memory.proofs.Kept.{held_by_tests}
use Rattle.command_writes.proofs.Growing.{own_none}
use Rattle.exec_run.proofs.ExecLaws.{known_result, known_concluded}
use Rattle.exec_run.proofs.transaction.exec.Goals as goal

pub invariant_of-session : goal.invariant_of-session
invariant_of-session c = record { held = held_by_tests _ _ _ c.requires.one_session c.requires.session_valid }

pub invariant_of-none : goal.invariant_of-none
invariant_of-none c = record { own_writes = own_none _ _ }

pub returns-clause-leaves : goal.returns-clause-leaves
returns-clause-leaves c = known_concluded _ _ _ _ _ _ (held_by_tests _ _ _ c.requires.one_session c.requires.session_valid) _ _ c.args.store.now.valid (known_result _ _ _ _ _ _ (rw (c.read.ensures.words, c.read.ensures.bytes) at c.before_queue.ensures) _ (sym c.transpose.ensures ∙ c.in-Some.is)) c.conclude.ensures.concludes
