-- `group_spec::bounds::checks_inside` meets its contract. Assumes nothing.
use Rattle.std.proofs.Common.{arith, rules, refl, ◌∙◌}
use Rattle.std.proofs.lemmas.Iterator.{YieldsList-from_range}
use Rattle.std.proofs.lemmas.Iterator.Search.{all_from_yields_List}
use Rattle.group_spec.specs.Members.{check_inside}
use Rattle.group_spec.proofs.Walks.{all_listed}
use Rattle.group_spec.proofs.bounds.checks_inside.Goals as goal

pub returns : goal.returns
unfolding check_inside
returns c =
    all_from_yields_List (check_inside c.args.parts.table.now c.args.parts.«data».now) _ _ _ c.all.ensures.ran (YieldsList-from_range c.args.first _ c.args.count refl (omega arith)) (λ x b q k. search rules)
    ∙ all_listed _ _ _
