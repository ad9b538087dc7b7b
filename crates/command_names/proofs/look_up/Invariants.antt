-- `command_names::look_up` meets its contract. The invariant: no row before this place has the word's name, `Passed`. Assumes nothing.
use Rattle.command_names.proofs.Lookup.{Passed}
use Rattle.command_names.proofs.look_up.Given as goal

abbrev pub invariant-loop-row : goal.invariant-loop-row
invariant-loop-row l = Passed l.rows l.word l.row-index
