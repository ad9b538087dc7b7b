use Rattle.base_key.proofs.Writes.{putting_none, putting_next, putting_all}
use Rattle.base_writing.proofs.put_at.Goals as goal

pub loop-i-init : goal.loop-i-init
loop-i-init g c = putting_none _ _ _

pub loop-i-preserved : goal.loop-i-preserved
loop-i-preserved g c = putting_next c.loop-i.invariant c.requires c.loop-i-test.true _ c.index-src-i.is

pub returns : goal.returns
returns g c = putting_all c.loop-i.invariant c.loop-i-test.false
