-- `group_judge::settle_member` meets its contract. An accepted member's writes are committed, another leaves all. Assumes nothing.
use Rattle.std.proofs.Common.{rules}
use Rattle.group_spec.specs.Group.{store_after}
use Rattle.group_spec.specs.Members.{pending_of}
use Rattle.group_spec.proofs.PartTests.{member_writes}
use Rattle.group_spec.proofs.Settled.{stays, not_accepted}
use Rattle.group_judge.proofs.settle_member.Goals as goal
use Rattle.group_judge.proofs.settle_member.Goals.{in-Accepted, in_default}

pub commit_writes-requires-clause-writes_in : goal.commit_writes-requires-clause-writes_in
commit_writes-requires-clause-writes_in c = search member_writes

pub returns-then-matches-clause-left : goal.returns-then-matches-clause-left
unfolding store_after pending_of
returns-then-matches-clause-left c = elim c.match-matches.branch [ in-Accepted w ↦ search rules | in_default w ↦ search rules ]

pub returns-else-matches-clause-left : goal.returns-else-matches-clause-left
returns-else-matches-clause-left c = elim c.match-matches.branch [ in-Accepted w ↦ search rules | in_default w ↦ search (rules, stays, not_accepted) ]
