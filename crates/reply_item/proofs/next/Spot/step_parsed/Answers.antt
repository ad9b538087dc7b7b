-- `reply_item::next::Spot::step_parsed` meets its contract. Assumes nothing.
use Rattle.reply_item.proofs.Standing.{step_no_place, step_deep, step_array_full, step_wrong, step_complete, step_bulk, step_opens}
use Rattle.reply_item.proofs.next.Spot.step_parsed.Goals.{in-Wrong-1, in_default+else-self+in-Wrong-1, in_default-via-in-ItemsFollow+else-self-eq0, in_default-via-in-Complete-1}
use Rattle.reply_item.proofs.next.Spot.step_parsed.Goals as goal

pub returns-in_default : goal.returns-in_default
returns-in_default c = elim c.in_default.branch [ in_default-via-in-ItemsFollow+else-self-eq0 w ↦ search step_array_full | in_default-via-in-Complete-1 w ↦ search step_no_place ]

pub returns-in-Wrong : goal.returns-in-Wrong
returns-in-Wrong c = elim c.in-Wrong-1.branch [ in-Wrong-1 w ↦ search step_wrong | in_default+else-self+in-Wrong-1 w ↦ search step_wrong ]

pub returns-in-Complete : goal.returns-in-Complete
returns-in-Complete c = search step_complete

pub returns-in-BulkFollows : goal.returns-in-BulkFollows
returns-in-BulkFollows c = search step_bulk

pub returns-in-ItemsFollow : goal.returns-in-ItemsFollow
returns-in-ItemsFollow c = search step_deep

pub returns-in-ItemsFollow-2 : goal.returns-in-ItemsFollow-2
returns-in-ItemsFollow-2 c = elim c.in_default.branch [ in_default-via-in-ItemsFollow+else-self-eq0 w ↦ search step_opens | in_default-via-in-Complete-1 w ↦ absurd (w.in_default.not-ItemsFollow _ c.in-ItemsFollow-2.is) ]
