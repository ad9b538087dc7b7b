-- `session_watch::watch::Watch::add_keys` meets its contract. The invariant: the arguments before place i are added, `Growing`. Assumes nothing.
use Rattle.session_watch.proofs.Growing.{Growing}
use Rattle.session_watch.proofs.watch.Watch.add_keys.Given as goal

abbrev pub invariant-loop-i : goal.invariant-loop-i
invariant-loop-i l = Growing l.last l.request.places.now l.request.input.now l.request.count l.initial.self l.self l.i
