-- What a commit leaves of the lent words and bytes.
use Rattle.std.specs.Prelude.{◌≡◌}
use Rattle.store_memtable.specs.Versions.{Store}
use Rattle.store_memtable.specs.Layout.{store_in, leave_words, leave_bytes}
use Rattle.store_commit.specs.declared.lent.StoreMut.{StoreMut}

-- the store that is lent
abbrev pub store_of : StoreMut → Store
store_of s = store_in s.words.now s.bytes.now

-- the same words and bytes are lent
pub record SameLent (old new : StoreMut) : Type 0 where
  pub words : new.words.ghost_name ≡ old.words.ghost_name
  pub bytes : new.bytes.ghost_name ≡ old.bytes.ghost_name

-- and the store st is written back over what they held
pub record Leaves (st : Store) (old new : StoreMut) : Type 0 where
  pub lent : SameLent old new
  pub words_after : new.words.now ≡ leave_words st old.words.now
  pub bytes_after : new.bytes.now ≡ leave_bytes st old.bytes.now
