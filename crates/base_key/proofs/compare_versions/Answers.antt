-- `base_key::compare_versions` meets its contract. The sequence decides where the keys are equal. Assumes nothing.
use Rattle.base_key.proofs.Keys.{by_key, by_seq}
use Rattle.base_key.proofs.compare_versions.Goals as goal

pub returns-in-Equal : goal.returns-in-Equal
returns-in-Equal c = search by_seq

pub returns-in_default : goal.returns-in_default
returns-in_default c = search by_key
