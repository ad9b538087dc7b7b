use mathlib.Core.Logic.{inl, inr}
use Rattle.command_glob.proofs.Ends.{seeking_none, seeking_star, seeking_one, seeking_byte, sought}
use Rattle.command_glob.proofs.Globbing.{stepped_one, stepped_byte}
use Rattle.command_glob.proofs.Pattern.new.Goals as goal

pub loop-next-init : goal.loop-next-init
loop-next-init c = search seeking_none

pub invariant_of-result : goal.invariant_of-result
invariant_of-result c = record { last_star = sought c.loop-next.invariant c.in-End.ensures }

pub loop-next-preserved-in-Star-1 : goal.loop-next-preserved-in-Star-1
loop-next-preserved-in-Star-1 c = seeking_star c.loop-next.invariant c.in-Star.ensures

pub loop-next-preserved : goal.loop-next-preserved
loop-next-preserved c =
    elim c.in-One.is [
      | inl e ↦ seeking_one c.loop-next.invariant (stepped_one _ _ c.token_at.ensures e)
      | inr e ↦ seeking_byte c.loop-next.invariant (stepped_byte _ _ c.token_at.ensures e.1)
    ]
