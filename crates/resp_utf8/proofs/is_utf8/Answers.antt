use native.Mathlib.Omega.{arith}
use Rattle.resp_utf8.proofs.Pieces.{Sized, checked_none, checked_all, checked_more, checked_ill, whole_sized}
use Rattle.resp_utf8.proofs.is_utf8.Goals.{In-Ok}
use Rattle.resp_utf8.proofs.is_utf8.Goals as goal

-- the character's bytes are in the text
whole : (c : In-Ok) → Sized c.args.text.now c.loop-at.at c.in-Ok.n
whole c = search whole_sized

pub loop-at-init : goal.loop-at-init
loop-at-init c = search checked_none

pub overflow_add-at : goal.overflow_add-at
overflow_add-at c = omega (arith, whole (goal.at.overflow_add-at c).In-Ok)

pub loop-at-smaller : goal.loop-at-smaller
loop-at-smaller c = omega (arith, whole (goal.at.loop-at-smaller c).In-Ok)

pub loop-at-preserved : goal.loop-at-preserved
loop-at-preserved c = search checked_more

pub returns-in-Err : goal.returns-in-Err
returns-in-Err c = search checked_ill

pub returns : goal.returns
returns c = search checked_all
