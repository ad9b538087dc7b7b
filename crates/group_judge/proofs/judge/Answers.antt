-- `group_judge::judge` meets its contract. One law for each verdict. Assumes nothing.
use Rattle.std.proofs.Common.{rules}
use Rattle.group_spec.proofs.Settled.{member_rows, room_granted, settled_conflict, settled_no_room, settled_no_sequence, settled_accepted}
use Rattle.group_judge.proofs.judge.Goals as goal

pub returns-then-moved_since-clause-value : goal.returns-then-moved_since-clause-value
returns-then-moved_since-clause-value c = search settled_conflict

pub has_room-requires-clause-count_in_bounds : goal.has_room-requires-clause-count_in_bounds
has_room-requires-clause-count_in_bounds c = search member_rows

pub returns-then-not-has_room-clause-value : goal.returns-then-not-has_room-clause-value
returns-then-not-has_room-clause-value c = search (rules, settled_no_room)

pub returns-then-not-has_sequences-clause-value : goal.returns-then-not-has_sequences-clause-value
returns-then-not-has_sequences-clause-value c = search (rules, settled_no_sequence)

pub returns-clause-value : goal.returns-clause-value
returns-clause-value c = search (rules, settled_accepted)

pub returns-clause-room_for : goal.returns-clause-room_for
returns-clause-room_for c = λ e. search (rules, room_granted)
