-- `group_spec::parts::Parts::write_at` meets its contract. The write that the words say. Assumes nothing.
use Rattle.group_spec.proofs.PartLaws.{given_write}
use Rattle.group_spec.proofs.parts.Parts.write_at.Goals as goal

pub returns : goal.returns
returns c = search given_write
