-- `group_walk::members_inside` meets its contract. Assumes nothing.
use Rattle.std.proofs.Common.{rules, ◌∙◌}
use Rattle.std.proofs.lemmas.Iterator.{YieldsList-from_slice}
use Rattle.std.proofs.lemmas.Iterator.Search.{all_from_yields_List}
use Rattle.group_spec.specs.Members.{member_inside}
use Rattle.group_spec.proofs.Walking.{inside_listed}
use Rattle.group_walk.proofs.members_inside.Goals as goal

pub returns : goal.returns
returns c =
    all_from_yields_List (member_inside c.args.parts.table.now c.args.parts.«data».now) _ _ _ c.all.ensures.ran (YieldsList-from_slice c.args.members.now cc) (λ x b q k. search rules)
    ∙ inside_listed _ _ _
