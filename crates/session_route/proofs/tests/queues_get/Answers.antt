-- `session_route::tests::queues_get` meets what it calls. By its literals. Assumes nothing.
use mathlib.Core.Path.{refl}
use Rattle.session_route.proofs.Fixtures.{empty_held}
use Rattle.session_route.proofs.tests.queues_get.Goals as goal

pub queue_up-requires-clause-held : goal.queue_up-requires-clause-held
queue_up-requires-clause-held g c = empty_held refl refl refl refl
