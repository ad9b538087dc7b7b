-- What a command does: a reply and writes, by a reader alone (document 01, section 7; `execute`, `incr`, `scan` of src/server.rs).
-- A direct command, EXEC and posting share `run` and `answer_listing`.
use Rattle.std.specs.Prelude.{ℕ, zero, suc, ◌+◌, Bool, true, false, cond, not, ◌&&◌, List, [], ◌∷◌, ◌++◌, map, ltb, eqb, ℤ, pos, negsuc, ◌+ℤ◌, length, get_or, take, drop}
use Rattle.std.specs.Prelude.{Option, None, Some}
use Rattle.base_key.specs.Bytes.{Bytes, bytes}
use Rattle.base_key.specs.Keys.{Key, key_below}
use Rattle.base_number.specs.Decimal.{digits, decimal}
use Rattle.base_number.specs.Number.{number_of, int_arg}
use Rattle.resp_spec.specs.Utf8.{lossy}
use Rattle.resp_spec.specs.Request.{quoted}
use Rattle.resp_spec.specs.Reply.{Reply, Simple, Integer, BulkString, array, bulk_or, ok, err}
use Rattle.store_memtable.specs.Table.{Value, Entry, Reader, Write, Table, over}
use Rattle.command_spec.specs.declared.Operation.{Operation}
use Rattle.command_spec.specs.declared.Operation.TheVariants.{Get, Set, Del, Exists, Mget, Mset, Incr, Incrby, Decr, Ping, Echo}
use Rattle.command_spec.specs.declared.Name.{Name}
use Rattle.command_spec.specs.declared.Name.TheVariants.{Queueable, Dbsize, Keys, Scan, Range, Multi, Exec, Discard, Watch, Unwatch, Quit, Unknown}
use Rattle.command_spec.specs.Names.{Args, row_of, name_word, arguments, count_right, with_options, operation_of, arity, same_name}
use Rattle.command_spec.specs.Glob.{glob}

-- THE COMMANDS. `COUNT` is INCR, DECR or INCRBY by a number. `FIXED` is one whose arguments alone settle the reply: PING, ECHO,
-- an amount that is no number; outside MULTI also a wrong argument count, options, an unknown name. Those that list the table stand
-- apart: none may be queued.
pub data Command : Type 0 where
  GET : Key → Command
  SET : Key → Value → Command
  DEL : List Key → Command
  EXISTS : List Key → Command
  MGET : List Key → Command
  MSET : List (Entry Value) → Command
  COUNT : Key → ℤ → Command
  FIXED : Reply → Command

-- the commands that list the table
pub data Listing : Type 0 where
  DBSIZE : Listing
  KEYS : Bytes → Listing
  SCAN : ℕ → Bytes → ℕ → Listing
  RANGE : Key → Key → Option ℕ → Listing

-- what `execute` answers
pub data Executed : Type 0 where
  runs : Command → Executed
  lists : Listing → Executed

-- a reply that the arguments settle
abbrev pub fixed : Reply → Executed
fixed r = runs (FIXED r)

-- the error for text that is no whole number
abbrev pub not_integer : Reply
not_integer = err (bytes "value is not an integer or out of range")

-- the error for a sum beyond i64
abbrev pub overflow : Reply
overflow = err (bytes "increment or decrement would overflow")

-- the error for options
abbrev pub syntax_error : Reply
syntax_error = err (bytes "syntax error")

-- the error for SET with options
abbrev pub set_options : Reply
set_options = err (bytes "SET options (EX, NX, ...) are not supported")

-- the error for a name that is none
abbrev pub unknown_command : Bytes → Reply
unknown_command word = err (bytes "unknown command " ++ quoted (lossy word))

-- READING A COMMAND from its arguments.
abbrev pub argument : ℕ → Args → Bytes
argument i a = get_or a i []

-- keys and values in turn
unfoldable pub pairs_of : Args → List (Entry Value)
pairs_of [] = []
pairs_of (k ∷ []) = []
pairs_of (k ∷ v ∷ a) = (k, v) ∷ pairs_of a

-- INCRBY, by its amount
abbrev pub count_by : Key → Option ℤ → Command
count_by k (Some by) = COUNT k by
count_by k None = FIXED not_integer

-- a number from 0 on
abbrev pub natural : Option ℤ → Option ℕ
natural (Some (pos n)) = Some n
natural (Some (negsuc n)) = None
natural None = None

-- a number from 1 on
abbrev pub positive : Option ℤ → Option ℕ
positive (Some (pos zero)) = None
positive (Some (pos (suc n))) = Some (suc n)
positive (Some (negsuc n)) = None
positive None = None

-- SCAN's options, in turn; without them the pattern is `*` and the count 10
unfoldable pub scan_options : ℕ → Bytes → ℕ → Args → Executed
scan_options from pattern most [] = lists (SCAN from pattern most)
scan_options from pattern most (o ∷ []) = fixed syntax_error
scan_options from pattern most (o ∷ v ∷ a) = elim (same_name o (bytes "MATCH")) [
  | true ↦ scan_options from v most a
  | false ↦ elim (same_name o (bytes "COUNT")) [
    | true ↦ elim (positive (int_arg v)) [ None ↦ fixed not_integer | Some n ↦ scan_options from pattern n a ]
    | false ↦ fixed syntax_error
  ]
]

-- SCAN, by its cursor
abbrev pub scan_from : Option ℕ → Args → Executed
scan_from None a = fixed (err (bytes "invalid cursor"))
scan_from (Some from) a = scan_options from (bytes "*") 10 a

-- RANGE, by its limit
abbrev pub range_limit : Key → Key → Option ℕ → Executed
range_limit start end None = fixed (err (bytes "LIMIT must be a non-negative integer"))
range_limit start end (Some n) = lists (RANGE start end (Some n))

-- RANGE's option
unfoldable pub range_options : Key → Key → Args → Executed
range_options start end [] = lists (RANGE start end None)
range_options start end (o ∷ []) = fixed syntax_error
range_options start end (o ∷ v ∷ []) = cond (same_name o (bytes "LIMIT")) (range_limit start end (natural (int_arg v))) (fixed syntax_error)
range_options start end (o ∷ v ∷ x ∷ a) = fixed syntax_error

-- one of the eleven, of right argument count and without options
unfoldable pub command_as : Operation → Args → Command
command_as Get a = GET (argument 0 a)
command_as Set a = SET (argument 0 a) (argument 1 a)
command_as Del a = DEL a
command_as Exists a = EXISTS a
command_as Mget a = MGET a
command_as Mset a = MSET (pairs_of a)
command_as Incr a = COUNT (argument 0 a) (pos 1)
command_as Incrby a = count_by (argument 0 a) (int_arg (argument 1 a))
command_as Decr a = COUNT (argument 0 a) (negsuc 0)
command_as Ping a = FIXED (cond (eqb (length a) 0) (Simple (bytes "PONG")) (BulkString (argument 0 a)))
command_as Echo a = FIXED (BulkString (argument 0 a))

-- a command of right argument count; the names that `execute` does not answer are unknown to it
unfoldable pub executed_as : Name → Bytes → Args → Executed
executed_as (Queueable o) word a = cond (with_options o (length a)) (fixed set_options) (runs (command_as o a))
executed_as Dbsize word a = lists DBSIZE
executed_as Keys word a = lists (KEYS (argument 0 a))
executed_as Scan word a = scan_from (natural (int_arg (argument 0 a))) (drop 1 a)
executed_as Range word a = range_options (argument 0 a) (argument 1 a) (drop 2 a)
executed_as Multi word a = fixed (unknown_command word)
executed_as Exec word a = fixed (unknown_command word)
executed_as Discard word a = fixed (unknown_command word)
executed_as Watch word a = fixed (unknown_command word)
executed_as Unwatch word a = fixed (unknown_command word)
executed_as Quit word a = fixed (unknown_command word)
executed_as Unknown word a = fixed (unknown_command word)

-- what a request means: its name, its argument count, then its arguments
unfoldable pub executed_of : Args → Executed
executed_of a =
    let r = row_of (name_word a) in
    cond (count_right r (length (arguments a))) (executed_as r.name (name_word a) (arguments a)) (fixed (arity r))

-- the operation that a request names
abbrev pub request_operation : Args → Operation
request_operation a = operation_of (row_of (name_word a)).name

-- the command of a queued request, which is one of the eleven, of right argument count and without options
unfoldable pub command_of : Args → Command
command_of a = command_as (request_operation a) (arguments a)

-- RUNNING A COMMAND, by what it reads of keys.
abbrev pub Effect : Type 0
Effect = Reply × List Write

-- 1 for a live key
abbrev pub live_one : Option Value → ℕ
live_one None = 0
live_one (Some v) = 1

-- how many of the keys are live, a repeated one counted each time
unfoldable pub live : Reader → List Key → ℕ
live r [] = 0
live r (k ∷ ks) = live_one (r k) + live r ks

-- the number that a counter holds; an absent key holds 0
abbrev pub held : Option Value → Option ℤ
held None = Some (pos 0)
held (Some text) = int_arg text

-- a sum beyond i64 is an error and puts nothing
unfoldable pub summed : Key → Option ℤ → Effect
summed k None = (overflow, [])
summed k (Some n) = (Integer n, (k, Some (decimal n)) ∷ [])

-- a counter raised by an amount
unfoldable pub raised : Key → ℤ → Option ℤ → Effect
raised k by None = (not_integer, [])
raised k by (Some n) = summed k (number_of (n +ℤ by))

-- a tombstone for the key
abbrev pub tombstone : Key → Write
tombstone k = (k, None)

-- a value for the key
abbrev pub put : Entry Value → Write
put e = (e.0, Some e.1)

-- reply and writes of a command
unfoldable pub run : Reader → Command → Effect
run r (GET k) = (bulk_or (r k), [])
run r (SET k x) = (ok, (k, Some x) ∷ [])
run r (DEL ks) = (Integer (pos (live r ks)), map tombstone ks)
run r (EXISTS ks) = (Integer (pos (live r ks)), [])
run r (MGET ks) = (array (map (λ k. bulk_or (r k)) ks), [])
run r (MSET es) = (ok, map put es)
run r (COUNT k by) = raised k by (held (r k))
run r (FIXED p) = (p, [])

-- LISTING THE TABLE.
abbrev pub key_reply : Entry Value → Reply
key_reply e = BulkString e.0

-- the entries whose key passes
unfoldable pub keep : (Key → Bool) → Table → Table
keep f [] = []
keep f (e ∷ t) = cond (f e.0) (e ∷ keep f t) (keep f t)

-- SCAN's next cursor is 0 unless a live key follows
unfoldable pub scanned : Table → ℕ → Bytes → ℕ → Reply
scanned t from pattern most =
    array (BulkString (digits (cond (ltb (from + most) (length t)) (from + most) 0))
    ∷ array (map key_reply (keep (glob pattern) (take most (drop from t)))) ∷ [])

-- from start up to, not including, end
abbrev pub key_in_range : Key → Key → Key → Bool
key_in_range start end k = not (key_below k start) && key_below k end

-- at most n entries
abbrev pub limited : Option ℕ → Table → Table
limited None t = t
limited (Some n) t = take n t

-- keys and values in turn
unfoldable pub pair_replies : Table → List Reply
pair_replies [] = []
pair_replies (e ∷ t) = BulkString e.0 ∷ BulkString e.1 ∷ pair_replies t

-- what those that list the table answer
unfoldable pub answer_listing : Table → Listing → Reply
answer_listing t DBSIZE = Integer (pos (length t))
answer_listing t (KEYS p) = array (map key_reply (keep (glob p) t))
answer_listing t (SCAN from p most) = scanned t from p most
answer_listing t (RANGE start end n) = array (pair_replies (limited n (keep (key_in_range start end) t)))

-- THE COMMANDS OF A QUEUE, one after another, each reading through the writes before it.
pub record Ran : Type 0 where
  pub replies : List Reply
  pub writes : List Write

-- replies and writes of a queue
unfoldable pub run_queue : Reader → List Command → Ran
run_queue r [] = record { replies = []; writes = [] }
run_queue r (c ∷ cs) =
    let e = run r c in
    let rest = run_queue (over e.1 r) cs in
    record { replies = e.0 ∷ rest.replies; writes = e.1 ++ rest.writes }
