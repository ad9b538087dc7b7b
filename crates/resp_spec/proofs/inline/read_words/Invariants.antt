-- `resp_spec::inline::read_words` meets its contract. The invariant: n words stand in the table, `Worded`. Assumes nothing.
use Prim.Native.Nat.{◌-◌}
use lib.ListN.{length}
use Rattle.resp_spec.proofs.Words.{Worded}
use Rattle.resp_spec.proofs.inline.read_words.Given as goal

abbrev pub invariant-loop-at : goal.invariant-loop-at
invariant-loop-at l = Worded l.text l.initial.places l.places l.n l.at

abbrev pub decreases-loop-at : goal.decreases-loop-at
decreases-loop-at l = length l.text - l.at
