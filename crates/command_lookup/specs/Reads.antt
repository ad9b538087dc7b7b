-- What a command reads through.
use Rattle.store_memtable.specs.Table as Table
use Rattle.command_writes.specs.Own.{reader_of}
use Rattle.command_lookup.specs.declared.reader.Reader.{Reader}

-- what is read of a key: the own write, or what the store gives at the sequence
abbrev pub read_through : Reader → Table.Reader
read_through r = reader_of r.writes.own.now r.writes.«data».now r.writes.rows r.store.words.now r.store.bytes.now r.seq
