-- `session_route::tests::watches_a_key` meets what it calls. By its literals. Assumes nothing.
use mathlib.Core.Path.{refl}
use Rattle.session_route.proofs.Fixtures.{empty_held}
use Rattle.session_route.proofs.tests.watches_a_key.Goals as goal

pub watch_keys-requires-clause-held : goal.watch_keys-requires-clause-held
watch_keys-requires-clause-held g c = empty_held refl refl refl refl
