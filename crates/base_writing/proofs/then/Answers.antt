-- `base_writing::then` meets its contract: the call of `write` is one that its contract speaks of. Assumes nothing.
use mathlib.Core.Path.{refl}
use Rattle.base_writing.proofs.Puts.{adds}
use Rattle.base_writing.proofs.then.Goals as goal

pub returns : goal.returns
returns g c = λ text puts. adds c.place-at.ensures (puts _ _ _ (record { shown = _; shows = refl; left = _; met = c.write-next.ensures; leaves = refl })) c.joined.ensures
