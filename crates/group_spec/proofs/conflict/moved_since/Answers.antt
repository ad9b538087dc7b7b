-- `group_spec::conflict::moved_since` meets its contract. The written keys, then the checked ones. Assumes nothing.
use Rattle.std.proofs.Common.{rules}
use Rattle.group_spec.proofs.ConflictLaws.{no_read, write_moved, checks_moved, write_key_in, check_key_in}
use Rattle.group_spec.proofs.PartTests.{member_writes, member_checks}
use Rattle.group_spec.proofs.conflict.moved_since.Goals as goal

pub returns-then-member-eq0 : goal.returns-then-member-eq0
returns-then-member-eq0 c = search (rules, no_read)

pub any_moved-requires-clause-count_in_bounds : goal.any_moved-requires-clause-count_in_bounds
any_moved-requires-clause-count_in_bounds c = let rows = (member_writes _ _ _ c.requires).rows_in in search rules

pub any_moved-requires-clause-keys_in : goal.any_moved-requires-clause-keys_in
any_moved-requires-clause-keys_in c = λ i lo hi. write_key_in _ _ (member_writes _ _ _ c.requires) lo hi

pub any_moved-requires-else-any_moved-clause-count_in_bounds : goal.any_moved-requires-else-any_moved-clause-count_in_bounds
any_moved-requires-else-any_moved-clause-count_in_bounds c = let rows = (member_checks _ _ _ c.requires).rows_in in search rules

pub any_moved-requires-else-any_moved-clause-keys_in : goal.any_moved-requires-else-any_moved-clause-keys_in
any_moved-requires-else-any_moved-clause-keys_in c = λ i lo hi. check_key_in _ _ (member_checks _ _ _ c.requires) lo hi

pub returns-then-any_moved : goal.returns-then-any_moved
returns-then-any_moved c = search (rules, write_moved)

pub returns-else-any_moved : goal.returns-else-any_moved
returns-else-any_moved c = search (rules, checks_moved)
