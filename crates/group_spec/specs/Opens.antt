-- Every definition of this crate, opened at once: for facts that antt computes.
use Rattle.base_key.specs.Opens.{base_key_opens}
use Rattle.store_memtable.specs.Opens.{store_memtable_opens}
use Rattle.group_spec.specs.Group.{taken_after, taken, any_key, conflicts, has_room, has_sequences, judge, written_after, store_after, judge_all, group, verdict_alone}
use Rattle.group_spec.specs.Members.{list_from, all_from, value_inside, write_at, check_at, write_inside, check_inside, member_inside, members_inside, pending_of, group_fits}

unfoldable pub group_spec_opens : Unit {0}
unfolding base_key_opens store_memtable_opens taken_after taken any_key conflicts has_room has_sequences judge written_after store_after judge_all group verdict_alone list_from all_from value_inside write_at check_at write_inside check_inside member_inside members_inside pending_of group_fits
group_spec_opens = tt
