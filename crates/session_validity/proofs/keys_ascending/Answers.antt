use native.Mathlib.Omega.{arith}
use Rattle.session_validity.proofs.Validity.{no_keys, rising_first, rising_more, not_rising, risen, next_room}
use Rattle.session_validity.proofs.keys_ascending.Goals as goal

pub returns-then-count-eq0 : goal.returns-then-count-eq0
returns-then-count-eq0 c = search no_keys

pub loop-i-init : goal.loop-i-init
loop-i-init c = search rising_first

pub overflow_add-next : goal.overflow_add-next
overflow_add-next c = omega (arith, next_room c.requires c.loop-i.invariant c.loop-i-test.true)

pub below-requires : goal.below-requires
below-requires c = omega (arith, next_room c.requires c.loop-i.invariant c.loop-i-test.true)

pub loop-i-preserved : goal.loop-i-preserved
loop-i-preserved c = search rising_more

pub returns-then-not-below : goal.returns-then-not-below
returns-then-not-below c = search not_rising

pub returns : goal.returns
returns c = search risen
