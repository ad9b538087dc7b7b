-- Posting (document 01, demand 3): what the calls' arguments and answers alone say of the table and the replies.
-- First the events that each call tells, by its arguments and its answer; only that goes by the kind of call.
-- Then the history: by the events, the commands carried out and the accepted members, in order of acceptance.
-- Then the posting of a history: each item on the table that the one before it left.
use Rattle.std.specs.Prelude.{ℕ, List, [], ◌∷◌, ◌++◌, map, Bool, true, false, cond, not, ◌&&◌, ◌||◌, ◌≡◌, get_or, set, replicate, eqb}
use Rattle.std.specs.Prelude.{Option, None, Some}
use Rattle.base_key.specs.Bytes.{Bytes, same_bytes}
use Rattle.base_key.specs.Keys.{Key}
use Rattle.resp_spec.specs.Request.{Reading, waits, faulty, too_many, whole, read_request, spanned}
use Rattle.resp_spec.specs.Reply.{Reply, NilArray, array, ok, encode}
use Rattle.store_memtable.specs.Table.{Write, Table, find, write_all}
use Rattle.group_spec.specs.Group.{Pending}
use Rattle.group_spec.specs.Members.{pending_of}
use Rattle.command_spec.specs.Names.{Args, row_of, name_word, arguments, Control, MULTI, EXEC, DISCARD, WATCH, UNWATCH, QUIT, other, control_of}
use Rattle.command_spec.specs.Command.{Command, Listing, Executed, runs, lists, Effect, executed_of, run, answer_listing}
use Rattle.command_spec.specs.Session.{queued_reply, exec_abort}
use Rattle.call_spec.specs.Serve.{Outcome}
use Rattle.call_spec.specs.Calls.{Call, request, grouped, preview}

-- WHAT WAS ASKED, by the bytes handed in: nothing whole, a protocol error, or a request that is not empty.
pub data Asked : Type 0 where
  nothing : Asked
  broken : Asked
  asks : Args → Asked

-- by the reading of the bytes
unfoldable pub asked_by : Bytes → Reading → Asked
asked_by s waits = nothing
asked_by s too_many = nothing
asked_by s (faulty f) = broken
asked_by s (whole [] used) = nothing
asked_by s (whole (p ∷ ps) used) = asks (map (spanned s) (p ∷ ps))

-- WHAT WAS ANSWERED.
abbrev pub is_reply : Reply → Bytes → Bool
is_reply r b = same_bytes b (encode r)

-- the first byte is `*`
abbrev pub begins_array : Bytes → Bool
begins_array [] = false
begins_array (b ∷ s) = eqb b 42

-- an array: it begins with `*`, and is not `*-1`
unfoldable pub is_array : Bytes → Bool
is_array b = begins_array b && not (is_reply NilArray b)

-- WHAT IS TOLD: a session asked this, and was given this number and reply; or these writes were accepted.
pub data Event : Type 0 where
  asked : ℕ → Asked → ℕ → Bytes → Event
  wrote : List Write → Event

-- the members with verdict 0, in order
unfoldable pub accepted_in : List Pending → Bytes → List Event
accepted_in [] vs = []
accepted_in (m ∷ ms) [] = []
accepted_in (m ∷ ms) (v ∷ vs) = cond (eqb v 0) (wrote m.writes ∷ accepted_in ms vs) (accepted_in ms vs)

-- by a call and its outcome; a preview tells nothing
unfoldable pub told : Call → Outcome → List Event
told (request i s places room) o = asked i (asked_by s (read_request places s)) o.number o.reply ∷ []
told (grouped ms parts d verdicts) o = cond (eqb o.number 0) (accepted_in (map (pending_of parts d) ms) o.verdicts) []
told (preview i room) o = []

-- by a list of calls with their outcomes
unfoldable pub events : List Call → List Outcome → List Event
events [] os = []
events (c ∷ cs) [] = []
events (c ∷ cs) (o ∷ os) = told c o ++ events cs os

-- THE HISTORY. A command alone with its reply; a listing; an EXEC's commands and reply; an accepted member's writes.
pub data Item : Type 0 where
  alone : Command → Bytes → Item
  listed : Listing → Bytes → Item
  exec : List Executed → Bytes → Item
  member : List Write → Item

-- For each session a queue, at first closed, and the keys named in a WATCH answered `+OK` and not dropped since.
pub record Client : Type 0 where
  pub queue : Option (List Args)
  pub watched : List Key

-- a closed queue, and nothing watched
abbrev pub closed : Client
closed = record { queue = None; watched = [] }

-- the client after a request, and what it adds to the history
pub record Turn : Type 0 where
  pub client : Client
  pub items : List Item

-- no item
abbrev pub quietly : Client → Turn
quietly d = record { client = d; items = [] }

-- the second client where the test holds
abbrev pub only_if : Bool → Client → Client → Turn
only_if test d new = quietly (cond test new d)

-- a command posted at once
abbrev pub item_alone : Executed → Bytes → Item
item_alone (runs c) b = alone c b
item_alone (lists l) b = listed l b

-- an open queue: EXEC answered by an array posts it; `*-1` or `EXECABORT` only close it
unfoldable pub turn_exec : List Args → Bytes → Client → Turn
turn_exec q b d =
    cond (is_array b) (record { client = closed; items = exec (map executed_of q) b ∷ [] })
    (only_if (is_reply NilArray b || is_reply exec_abort b) d closed)

-- a request that did not return a number, by its name and the client's queue
unfoldable pub turn_by : Control → Option (List Args) → Args → Bytes → Client → Turn
turn_by MULTI q a b d = only_if (is_reply ok b) d (record { queue = Some []; watched = d.watched })
turn_by EXEC None a b d = quietly d
turn_by EXEC (Some q) a b d = turn_exec q b d
turn_by DISCARD q a b d = only_if (is_reply ok b) d closed
turn_by WATCH q a b d = only_if (is_reply ok b) d (record { queue = d.queue; watched = d.watched ++ arguments a })
turn_by UNWATCH q a b d = only_if (is_reply ok b) d (record { queue = d.queue; watched = [] })
turn_by QUIT q a b d = quietly closed
turn_by other None a b d = record { client = d; items = item_alone (executed_of a) b ∷ [] }
turn_by other (Some q) a b d = only_if (is_reply queued_reply b) d (record { queue = Some (q ++ a ∷ []); watched = d.watched })

-- by what was asked; a protocol error closes the queue
unfoldable pub turn_asked : Asked → Bytes → Client → Turn
turn_asked nothing b d = quietly d
turn_asked broken b d = quietly closed
turn_asked (asks a) b d = turn_by (control_of (row_of (name_word a)).name) d.queue a b d

-- the clients after events, and what they add to the history
pub record Entered : Type 0 where
  pub clients : List Client
  pub items : List Item

-- a request that returned a number changes nothing; accepted writes are an item
unfoldable pub enter : Event → List Client → Entered
enter (asked i x n b) ds = elim (eqb n 0) [
  | false ↦ record { clients = ds; items = [] }
  | true ↦ let t = turn_asked x b (get_or ds i closed) in record { clients = set ds i t.client; items = t.items }
]
enter (wrote ws) ds = record { clients = ds; items = member ws ∷ [] }

-- one event after another
unfoldable pub enter_all : List Event → List Client → Entered
enter_all [] ds = record { clients = ds; items = [] }
enter_all (e ∷ es) ds =
    let x = enter e ds in
    let y = enter_all es x.clients in
    record { clients = y.clients; items = x.items ++ y.items }

-- the items of a list of calls with their outcomes
abbrev pub history : List Call → List Outcome → List Client → List Item
history cs os ds = (enter_all (events cs os) ds).items

-- sixteen closed queues
unfoldable pub closed_clients : List Client
closed_clients = replicate 16 closed

-- THE POSTING, on one table. Reply and writes of a posted command
unfoldable pub posted : Table → Executed → Effect
posted t (runs c) = run (find t) c
posted t (lists l) = (answer_listing t l, [])

-- the writes of commands posted one after another
unfoldable pub post_queue : Table → List Executed → List Write
post_queue t [] = []
post_queue t (x ∷ xs) = let ws = (posted t x).1 in ws ++ post_queue (write_all ws t) xs

-- the reply to each of them
unfoldable pub post_replies : Table → List Executed → List Reply
post_replies t [] = []
post_replies t (x ∷ xs) = let e = posted t x in e.0 ∷ post_replies (write_all e.1 t) xs

-- the table after an item
unfoldable pub post : Item → Table → Table
post (alone c b) t = write_all (run (find t) c).1 t
post (listed l b) t = t
post (exec q b) t = write_all (post_queue t q) t
post (member ws) t = write_all ws t

-- the table after a history
unfoldable pub post_all : List Item → Table → Table
post_all [] t = t
post_all (x ∷ xs) t = post_all xs (post x t)

-- THE CLAIM ON REPLIES. The bytes of the reply: an EXEC's are an array of one item for each command
abbrev pub Holds : Item → Table → Type 0
Holds (alone c b) t = b ≡ encode (run (find t) c).0
Holds (listed l b) t = b ≡ encode (answer_listing t l)
Holds (exec q b) t = b ≡ encode (array (post_replies t q))
Holds (member ws) t = Unit {0}

-- every item of a history, each on the table that the one before it left
abbrev pub AllHold : List Item → Table → Type 0
AllHold [] t = Unit {0}
AllHold (x ∷ xs) t = Holds x t × AllHold xs (post x t)
