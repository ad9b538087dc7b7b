-- `registry::open::open` meets its contract. Assumes nothing.
use Rattle.registry.proofs.OpenCall.{opened, unopened}
use Rattle.registry.proofs.open.open.Goals as goal

pub returns-then-open : goal.returns-then-open
returns-then-open c = search opened

pub returns-else-open : goal.returns-else-open
returns-else-open c = search unopened
