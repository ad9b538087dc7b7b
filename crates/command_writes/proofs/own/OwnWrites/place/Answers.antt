-- `command_writes::own::OwnWrites::place` meets its contract. The keys before the place come before `name`, and no others. Assumes nothing.
use borrow.Author.Rules.{rules}
use mathlib.Core.Path.{◌∙◌}
use Rattle.command_writes.specs.Own.{own_writes}
use Rattle.command_writes.proofs.Places.{place_fits, place_splits}
use Rattle.command_writes.proofs.own.OwnWrites.place.Goals as goal

pub returns : goal.returns
unfolding own_writes
returns c = c.partition_point.ensures.point _ (place_fits _ _ 0 _) (λ i holds h post. search rules ∙ place_splits _ _ _ _ c.args.self.now.own_writes h)
