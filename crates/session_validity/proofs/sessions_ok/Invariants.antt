-- `session_validity::sessions_ok` meets its contract. The invariant: the first i sessions are valid, `Checked`. Assumes nothing.
use Rattle.session_validity.proofs.SessionTests.{Checked}
use Rattle.session_validity.proofs.sessions_ok.Given as goal

abbrev pub invariant-loop-i : goal.invariant-loop-i
invariant-loop-i l = Checked l.last l.words l.bytes l.i
