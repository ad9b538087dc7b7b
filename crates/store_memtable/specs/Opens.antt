-- Every definition of this crate, opened at once: for facts that antt computes.
use Rattle.base_key.specs.Opens.{base_key_opens}
use Rattle.store_memtable.specs.Table.{update, find, overlay, over, write_all, last_writes}
use Rattle.store_memtable.specs.Versions.{order_of, sorted_after, sees, read_at, find_from, newest, moved, table, insert, commit_one, commit, writes_size, versions_size}
use Rattle.store_memtable.specs.Layout.{version_at, versions_from, store_in, buffers_hold, header_ok, row_ok, chain_ok, valid_store, row_words, version_bytes, store_words, leave_words, leave_bytes, empty_store}

unfoldable pub store_memtable_opens : Unit {0}
unfolding base_key_opens update find overlay over write_all last_writes order_of sorted_after sees read_at find_from newest moved table insert commit_one commit writes_size versions_size version_at versions_from store_in buffers_hold header_ok row_ok chain_ok valid_store row_words version_bytes store_words leave_words leave_bytes empty_store
store_memtable_opens = tt
