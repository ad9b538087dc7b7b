use native.Mathlib.Omega.{arith}
use Rattle.resp_utf8.proofs.Pieces.{Sized, whole_sized, broken_sized}
use Rattle.resp_sanitize.proofs.Letters.{shown_none, shown_whole, shown_broken, shown_full, shown_all}
use Rattle.resp_sanitize.proofs.put_clean_lossy.Goals.{In-Err, In-Ok}
use Rattle.resp_sanitize.proofs.put_clean_lossy.Goals as goal

-- the piece's bytes are in the text
whole : (c : In-Ok) → Sized c.args.text.now c.loop-at.at c.in-Ok.n
whole c = search whole_sized

broken : (c : In-Err) → Sized c.args.text.now c.loop-at.at c.in-Err.n
broken c = search broken_sized

pub loop-at-init : goal.loop-at-init
loop-at-init c = search shown_none

pub returns-in_err-put : goal.returns-in_err-put
returns-in_err-put c = shown_full c.loop-at.invariant c.in_err-put.was c.from_residual.ensures

pub overflow_add-at : goal.overflow_add-at
overflow_add-at c = omega (arith, whole (goal.at.overflow_add-at c).In-Ok)

pub slice_bounds-then_clean-end : goal.slice_bounds-then_clean-end
slice_bounds-then_clean-end c = omega (arith, whole (goal.at.slice_bounds-then_clean-end c).In-Ok)

pub loop-at-smaller-in-Ok : goal.loop-at-smaller-in-Ok
loop-at-smaller-in-Ok c = omega (arith, whole (goal.at.loop-at-smaller-in-Ok c).In-Ok)

pub loop-at-preserved-in-Ok : goal.loop-at-preserved-in-Ok
loop-at-preserved-in-Ok c = search shown_whole

pub overflow_add-at-in-Err : goal.overflow_add-at-in-Err
overflow_add-at-in-Err c = omega (arith, broken (goal.at.overflow_add-at-in-Err c).In-Err)

pub loop-at-smaller : goal.loop-at-smaller
loop-at-smaller c = omega (arith, broken (goal.at.loop-at-smaller c).In-Err)

pub loop-at-preserved : goal.loop-at-preserved
loop-at-preserved c = search shown_broken

pub returns : goal.returns
returns c = search shown_all
