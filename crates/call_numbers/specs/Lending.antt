-- The lent memory as the published calls take it.
use Rattle.std.specs.Prelude.{◌≡◌}
use Rattle.call_spec.specs.Calls.{Lent, lent_of}
use Rattle.call_numbers.specs.declared.lent.Lent.{Lent as ReadLent}
use Rattle.call_numbers.specs.declared.lent.LentMut.{LentMut}

-- what is lent to be read
abbrev pub lent_read : ReadLent → Lent
lent_read l = lent_of l.words.now l.bytes.now l.session_words.now l.session_bytes.now

-- what is lent to be written
abbrev pub lent_in : LentMut → Lent
lent_in l = lent_of l.words.now l.bytes.now l.session_words.now l.session_bytes.now

-- the same words and bytes are lent
pub record SameMemory (old new : LentMut) : Type 0 where
  pub words : new.words.ghost_name ≡ old.words.ghost_name
  pub bytes : new.bytes.ghost_name ≡ old.bytes.ghost_name
  pub session_words : new.session_words.ghost_name ≡ old.session_words.ghost_name
  pub session_bytes : new.session_bytes.ghost_name ≡ old.session_bytes.ghost_name
