-- The replies that depend on what is read.
use Rattle.std.specs.Prelude.{List, map}
use Rattle.base_key.specs.Keys.{Key}
use Rattle.resp_spec.specs.Reply.{Reply, bulk_or}
use Rattle.store_memtable.specs.Table.{Reader}

-- the replies of MGET
abbrev pub value_replies : Reader → List Key → List Reply
value_replies r ks = map (λ k. bulk_or (r k)) ks
