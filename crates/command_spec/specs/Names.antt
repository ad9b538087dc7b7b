-- The commands: names, argument counts, and which may be queued (document 01, section 7).
use Rattle.std.specs.Prelude.{ℕ, ◌%◌, Bool, true, false, cond, not, ◌&&◌, ◌||◌, List, [], ◌∷◌, ◌++◌, map, leb, ltb, eqb, length}
use Rattle.std.specs.Prelude.{Option, None, Some}
use Rattle.base_key.specs.Bytes.{Bytes, bytes, same_bytes}
use Rattle.resp_spec.specs.Letters.{upper, lower}
use Rattle.resp_spec.specs.Reply.{Reply, err}
use Rattle.command_spec.specs.declared.Operation.{Operation}
use Rattle.command_spec.specs.declared.Operation.TheVariants.{Get, Set, Del, Exists, Mget, Mset, Incr, Incrby, Decr, Ping, Echo}
use Rattle.command_spec.specs.declared.Name.{Name}
use Rattle.command_spec.specs.declared.Name.TheVariants.{Queueable, Dbsize, Keys, Scan, Range, Multi, Exec, Discard, Watch, Unwatch, Quit, Unknown}

-- a command as it was sent: its name and its arguments
abbrev pub Args : Type 0
Args = List Bytes

-- the counts are those of the arguments behind the name; `none`: no most; `pairs`: an even count; `queueable`: document 01's flag, set exactly where the
-- name is an operation
pub record Row : Type 0 where
  pub text : Bytes
  pub name : Name
  pub least : ℕ
  pub most : Option ℕ
  pub pairs : Bool
  pub queueable : Bool

-- a row of the table
abbrev pub row : Bytes → Name → ℕ → Option ℕ → Bool → Bool → Row
row t n least most pairs queueable = record { text = t; name = n; least = least; most = most; pairs = pairs; queueable = queueable }

-- the table of commands
unfoldable pub rows : List Row
rows =
    row (bytes "GET") (Queueable Get) 1 (Some 1) false true
    ∷ row (bytes "SET") (Queueable Set) 2 None false true
    ∷ row (bytes "DEL") (Queueable Del) 1 None false true
    ∷ row (bytes "EXISTS") (Queueable Exists) 1 None false true
    ∷ row (bytes "MGET") (Queueable Mget) 1 None false true
    ∷ row (bytes "MSET") (Queueable Mset) 2 None true true
    ∷ row (bytes "INCR") (Queueable Incr) 1 (Some 1) false true
    ∷ row (bytes "INCRBY") (Queueable Incrby) 2 (Some 2) false true
    ∷ row (bytes "DECR") (Queueable Decr) 1 (Some 1) false true
    ∷ row (bytes "PING") (Queueable Ping) 0 (Some 1) false true
    ∷ row (bytes "ECHO") (Queueable Echo) 1 (Some 1) false true
    ∷ row (bytes "DBSIZE") Dbsize 0 (Some 0) false false
    ∷ row (bytes "KEYS") Keys 1 (Some 1) false false
    ∷ row (bytes "SCAN") Scan 1 None false false
    ∷ row (bytes "RANGE") Range 2 None false false
    ∷ row (bytes "MULTI") Multi 0 None false false
    ∷ row (bytes "EXEC") Exec 0 None false false
    ∷ row (bytes "DISCARD") Discard 0 None false false
    ∷ row (bytes "WATCH") Watch 1 None false false
    ∷ row (bytes "UNWATCH") Unwatch 0 None false false
    ∷ row (bytes "QUIT") Quit 0 None false false
    ∷ []

-- the names of the rows that may be queued
unfoldable pub queueable_texts : List Row → List Bytes
queueable_texts [] = []
queueable_texts (r ∷ rs) = cond r.queueable (r.text ∷ queueable_texts rs) (queueable_texts rs)

-- any other name
abbrev pub unknown_row : Row
unknown_row = row [] Unknown 0 None false false

-- names match in any letter case
unfoldable pub same_name : Bytes → Bytes → Bool
same_name word name = same_bytes (map upper word) name

-- the first row of that name
unfoldable pub row_in : List Row → Bytes → Row
row_in [] word = unknown_row
row_in (r ∷ rs) word = elim (same_name word r.text) [ true ↦ r | false ↦ row_in rs word ]

-- the row of a name
unfoldable pub row_of : Bytes → Row
row_of word = row_in rows word

-- the name as it was sent
abbrev pub name_word : Args → Bytes
name_word [] = []
name_word (n ∷ a) = n

-- the arguments behind the name
abbrev pub arguments : Args → Args
arguments [] = []
arguments (n ∷ a) = a

-- at most so many
abbrev pub not_above : ℕ → Option ℕ → Bool
not_above n None = true
not_above n (Some most) = leb n most

-- the right argument count
unfoldable pub count_right : Row → ℕ → Bool
count_right r n = leb r.least n && not_above n r.most && (not r.pairs || eqb (n % 2) 0)

-- SET with options: anything behind its key and its value
unfoldable pub with_options : Operation → ℕ → Bool
with_options Get n = false
with_options Set n = ltb 2 n
with_options Del n = false
with_options Exists n = false
with_options Mget n = false
with_options Mset n = false
with_options Incr n = false
with_options Incrby n = false
with_options Decr n = false
with_options Ping n = false
with_options Echo n = false

-- the operation of a name that may be queued; PING stands for any other name, which is never queued and has no options
abbrev pub operation_of : Name → Operation
operation_of (Queueable o) = o
operation_of Dbsize = Ping
operation_of Keys = Ping
operation_of Scan = Ping
operation_of Range = Ping
operation_of Multi = Ping
operation_of Exec = Ping
operation_of Discard = Ping
operation_of Watch = Ping
operation_of Unwatch = Ping
operation_of Quit = Ping
operation_of Unknown = Ping

-- a command that may be queued as it was sent: one of the eleven, of right argument count, and no SET with options
unfoldable pub may_queue : Row → ℕ → Bool
may_queue r n = r.queueable && count_right r n && not (with_options (operation_of r.name) n)

-- a request that may be queued
unfoldable pub request_queueable : Args → Bool
request_queueable a = may_queue (row_of (name_word a)) (length (arguments a))

-- the error for a wrong argument count
unfoldable pub arity : Row → Reply
arity r = err (bytes "wrong number of arguments for '" ++ map lower r.text ++ bytes "' command")

-- the names that steer a session, and all others
pub data Control : Type 0 where
  MULTI EXEC DISCARD WATCH UNWATCH QUIT other : Control

-- which of them a name is
abbrev pub control_of : Name → Control
control_of Multi = MULTI
control_of Exec = EXEC
control_of Discard = DISCARD
control_of Watch = WATCH
control_of Unwatch = UNWATCH
control_of Quit = QUIT
control_of (Queueable o) = other
control_of Dbsize = other
control_of Keys = other
control_of Scan = other
control_of Range = other
control_of Unknown = other
