-- Every definition of this crate, opened at once: for facts that antt computes.
use Rattle.base_key.specs.Bytes.{◌and◌, same_bytes, over_front, put_at, moved_up, concat, total}
use Rattle.base_key.specs.Keys.{compare_keys, order_of_versions, same_key, key_below}

unfoldable pub base_key_opens : Unit {0}
unfolding ◌and◌ same_bytes over_front put_at moved_up concat total compare_keys order_of_versions same_key key_below
base_key_opens = tt
