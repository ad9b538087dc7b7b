-- `session_validity::below` meets its contract. By how the keys compare. Assumes nothing.
use Rattle.session_validity.proofs.Validity.{below_default}
use Rattle.command_spec.proofs.OrderLaws.{below_less}
use Rattle.session_validity.proofs.below.Goals as goal

pub returns-in-Less : goal.returns-in-Less
returns-in-Less c = search below_less

pub returns-in_default : goal.returns-in_default
returns-in_default c = search below_default
