-- `store_memtable::valid::sorted_ok` meets its contract. Each version comes behind the one before it. Assumes nothing.
use Rattle.std.proofs.Common.{rules, refl, ◌∙◌}
use Rattle.std.proofs.lemmas.Iterator.{YieldsList-from_range}
use Rattle.std.proofs.lemmas.Iterator.Search.{all_from_yields_List}
use Rattle.store_memtable.proofs.Validity.{in_order, ordered_all}
use Rattle.store_memtable.proofs.valid.sorted_ok.Goals as goal

pub returns : goal.returns
returns c =
    all_from_yields_List (in_order c.args.words.now c.args.bytes.now) _ _ c.all.result c.all.ensures.ran (YieldsList-from_range 1 _ _ refl refl) (λ x b q k. search rules)
    ∙ search (rules, ordered_all)
