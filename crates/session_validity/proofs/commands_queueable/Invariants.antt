-- `session_validity::commands_queueable` meets its contract. The invariant: the commands before place i may be queued, `Naming`. Assumes nothing.
use Rattle.session_validity.proofs.Validity.{Naming}
use Rattle.session_validity.proofs.commands_queueable.Given as goal

abbrev pub invariant-loop-i : goal.invariant-loop-i
invariant-loop-i l = Naming l.words l.bytes l.count l.first l.start l.i
