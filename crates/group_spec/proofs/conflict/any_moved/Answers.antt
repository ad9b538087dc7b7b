-- `group_spec::conflict::any_moved` meets its contract. Assumes nothing.
use Rattle.std.proofs.Common.{arith, rules, refl, ◌*◌, ◌∙◌}
use Rattle.std.proofs.lemmas.Iterator.{YieldsList-from_range, serves_from_Range}
use Rattle.std.proofs.lemmas.Iterator.Search.{any_from_yields_List}
use Rattle.store_memtable.specs.Reading.{versions_of}
use Rattle.store_memtable.specs.Versions.{moved}
use Rattle.group_spec.specs.Settling.{key_part}
use Rattle.group_spec.proofs.Walks.{any_listed}
use Rattle.group_spec.proofs.conflict.any_moved.Goals as goal

pub any-requires-clause-callable : goal.any-requires-clause-callable
any-requires-clause-callable c = serves_from_Range (λ x q r. search rules) (λ x lo hi. let key = c.requires.keys_in x lo hi in let within = key.words_in in search rules)

pub returns : goal.returns
returns c =
    any_from_yields_List (λ j. moved c.args.limit (versions_of c.args.store.now) (key_part c.args.parts.table.now c.args.parts.«data».now (c.args.step * j))) _ _ _ c.any.ensures.ran (YieldsList-from_range c.args.first _ c.args.count refl (omega arith)) (λ x b q k. search rules)
    ∙ any_listed _ _ _ _
