-- `group_spec::bounds::writes_inside` meets its contract. Assumes nothing.
use Rattle.std.proofs.Common.{arith, rules, refl, ◌∙◌}
use Rattle.std.proofs.lemmas.Iterator.{YieldsList-from_range}
use Rattle.std.proofs.lemmas.Iterator.Search.{all_from_yields_List}
use Rattle.group_spec.specs.Members.{write_inside}
use Rattle.group_spec.proofs.Walks.{all_listed}
use Rattle.group_spec.proofs.bounds.writes_inside.Goals as goal

pub returns : goal.returns
returns c =
    all_from_yields_List (write_inside c.args.parts.table.now c.args.parts.«data».now) _ _ _ c.all.ensures.ran (YieldsList-from_range c.args.first _ c.args.count refl (omega arith)) (λ x b q k. search rules)
    ∙ all_listed _ _ _
