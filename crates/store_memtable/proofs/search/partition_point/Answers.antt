use Rattle.std.proofs.Common.{arith, sym, ◌∙◌}
use borrow.Author.Tests.{ltb-true, ltb-false}
use Rattle.store_memtable.proofs.search.partition_point.Goals as goal

pub loop-low-preserved-then-before : goal.loop-low-preserved-then-before
loop-low-preserved-then-before g c = record {
  ordered = omega arith;
  within = omega arith;
  between = λ place le is. (omega (arith, ltb-true _ _ (sym (is _ _ (omega arith) c.before-in-loop-low.ensures) ∙ c.if-before.true)), (c.loop-low.invariant.between place le is).1);
}

pub loop-low-preserved : goal.loop-low-preserved
loop-low-preserved g c = record {
  ordered = omega arith;
  within = omega arith;
  between = λ place le is. ((c.loop-low.invariant.between place le is).0, omega (arith, ltb-false _ _ (sym (is _ _ (omega arith) c.before-in-loop-low.ensures) ∙ c.if-before.false)));
}
