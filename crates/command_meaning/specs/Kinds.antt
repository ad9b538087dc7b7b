-- What the commands that may be queued do, in the terms in which the code runs them: pairs set, tombstones set, a counter raised, or a reply alone.
use Rattle.std.specs.Prelude.{ℕ, ◌+◌, ◌-◌, ◌*◌, ◌/◌, ◌≤◌, ◌≡◌, [], map, ℤ, pos}
use Rattle.resp_spec.specs.Reply.{Reply, Integer, BulkString, array, bulk_or, ok}
use Rattle.store_memtable.specs.Table.{Reader}
use Rattle.command_spec.specs.declared.Operation.{Operation}
use Rattle.command_spec.specs.Names.{Args, arguments}
use Rattle.command_spec.specs.Command.{Effect, argument, pairs_of, command_as, live, held, raised, tombstone, put, run}
use Rattle.command_spec.specs.Errors.{fixed_reply}
use Rattle.command_meaning.specs.declared.Read.{Read}
use Rattle.command_meaning.specs.declared.Read.TheVariants.{Value, Live, Values, Echo, Says}
use Rattle.command_meaning.specs.declared.Kind.{Kind}
use Rattle.command_meaning.specs.declared.Kind.TheVariants.{Pairs, Tombstones, Counter, Reads}

-- SET and MSET have keys and values in turn behind their name
pub record InPairs (count : ℕ) : Type 0 where
  pub least : 3 ≤ count
  pub pairs : count ≡ 2 * ((count - 1) / 2) + 1

-- how many of the keys behind the name are live
unfoldable pub live_reply : Reader → Args → Reply
live_reply r a = Integer (pos (live r (arguments a)))

-- the reply of a command that writes nothing
unfoldable pub read_reply : Read → Reader → Args → Reply
read_reply Value r a = bulk_or (r (argument 1 a))
read_reply Live r a = live_reply r a
read_reply Values r a = array (map (λ k. bulk_or (r k)) (arguments a))
read_reply Echo r a = BulkString (argument 1 a)
read_reply (Says f) r a = fixed_reply f

-- the arguments that it needs, the name counted
unfoldable pub least_read : Read → ℕ
least_read Value = 2
least_read Live = 1
least_read Values = 1
least_read Echo = 2
least_read (Says f) = 1

-- SET and MSET
unfoldable pub pairs_effect : Args → Effect
pairs_effect a = (ok, map put (pairs_of (arguments a)))

-- DEL
unfoldable pub tombstones_effect : Reader → Args → Effect
tombstones_effect r a = (live_reply r a, map tombstone (arguments a))

-- INCR, DECR and INCRBY
unfoldable pub counter_effect : ℤ → Reader → Args → Effect
counter_effect by r a = raised (argument 1 a) by (held (r (argument 1 a)))

-- reply and writes
unfoldable pub kind_effect : Kind → Reader → Args → Effect
kind_effect Pairs r a = pairs_effect a
kind_effect Tombstones r a = tombstones_effect r a
kind_effect (Counter by) r a = counter_effect by r a
kind_effect (Reads q) r a = (read_reply q r a, [])

-- the argument count, the name counted
unfoldable pub KindCounted : Kind → ℕ → Type 0
KindCounted Pairs count = InPairs count
KindCounted Tombstones count = 2 ≤ count
KindCounted (Counter by) count = 2 ≤ count
KindCounted (Reads q) count = least_read q ≤ count

-- what an operation does with these arguments, `count` of them, the name counted
pub record KindIs (o : Operation) (a : Args) (count : ℕ) (k : Kind) : Type 0 where
  pub effect : (r : Reader) → run r (command_as o (arguments a)) ≡ kind_effect k r a
  pub counted : KindCounted k count
