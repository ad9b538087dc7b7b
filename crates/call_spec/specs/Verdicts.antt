-- What each EXEC is answered, by what the calls tell and posting's table alone (document 01, demand 3).
-- First which keys are written, then which requests mark a session, then the answer to EXEC.
use Rattle.std.specs.Prelude.{ℕ, List, [], ◌∷◌, ◌++◌, map, Bool, true, false, not, ◌&&◌, ◌||◌, ◌≡◌, eqb, get_or}
use Rattle.std.specs.Prelude.{Option, None, Some}
use Rattle.base_key.specs.Bytes.{Bytes}
use Rattle.base_key.specs.Keys.{Key}
use Rattle.resp_spec.specs.Reply.{Reply, NilArray, array, encode}
use Rattle.store_memtable.specs.Table.{Value, Entry, Table, keys_of, find}
use Rattle.group_spec.specs.Group.{any_key, among}
use Rattle.command_spec.specs.Names.{Args, Control, MULTI, EXEC, DISCARD, WATCH, UNWATCH, QUIT, other, control_of, row_of, name_word}
use Rattle.command_spec.specs.Command.{Command, GET, SET, DEL, EXISTS, MGET, MSET, COUNT, FIXED, executed_of, run}
use Rattle.command_spec.specs.Session.{queued_reply, exec_abort}
use Rattle.call_spec.specs.Posting.{Asked, nothing, broken, asks, Event, asked, wrote, is_reply, Item, alone, listed, exec, member, Client, closed, Entered, enter, post_queue, post_replies, post, post_all}

-- THE KEYS WRITTEN. The keys that a command other than a counter writes
unfoldable pub set_keys : Command → List Key
set_keys (GET k) = []
set_keys (SET k v) = k ∷ []
set_keys (DEL ks) = ks
set_keys (EXISTS ks) = []
set_keys (MGET ks) = []
set_keys (MSET es) = map (λ (e : Entry Value). e.0) es
set_keys (COUNT k by) = []
set_keys (FIXED r) = []

-- the keys that an item writes on posting's table
unfoldable pub item_keys : Item → Table → List Key
item_keys (alone c b) t = keys_of (run (find t) c).1
item_keys (listed l b) t = []
item_keys (exec q b) t = keys_of (post_queue t q)
item_keys (member ws) t = keys_of ws

-- the keys that a history writes
unfoldable pub written_in : List Item → Table → List Key
written_in [] t = []
written_in (x ∷ xs) t = item_keys x t ++ written_in xs (post x t)

-- THE MARK. Inside MULTI these are queued or refused: a command, and UNWATCH
abbrev pub queues : Control → Bool
queues MULTI = false
queues EXEC = false
queues DISCARD = false
queues WATCH = false
queues UNWATCH = true
queues QUIT = false
queues other = true

-- one of these, not answered `+QUEUED`
abbrev pub refused_queue : Asked → Bytes → Bool
refused_queue nothing b = false
refused_queue broken b = false
refused_queue (asks a) b = queues (control_of (row_of (name_word a)).name) && not (is_reply queued_reply b)

-- inside MULTI
abbrev pub is_open : Option (List Args) → Bool
is_open None = false
is_open (Some q) = true

-- a request inside MULTI marks its session if it returns 4 or is refused
abbrev pub marks_by : Option (List Args) → Asked → ℕ → Bytes → Bool
marks_by q x n b = is_open q && (eqb n 4 || (eqb n 0 && refused_queue x b))

-- the event marks session i
unfoldable pub marks : ℕ → Event → List Client → Bool
marks i (asked j x n b) ds = eqb j i && marks_by (get_or ds i closed).queue x n b
marks i (wrote ws) ds = false

-- THE TRANSACTION of a session: the watched keys that were written since they were first watched, and the mark
pub record Transaction : Type 0 where
  pub stale : Key → Bool
  pub marked : Bool

-- before any call
abbrev pub new_transaction : Transaction
new_transaction = record { stale = λ k. false; marked = false }

-- whether k is watched by session i after an event and was written since it was first watched; `e` is what posting makes of the event
abbrev pub stale_in : ℕ → Key → Entered → Table → Bool → Bool
stale_in i k e t stale = among (get_or e.clients i closed).watched k && (stale || among (written_in e.items t) k)

-- outside MULTI there is no mark
unfoldable pub marked_after : Option (List Args) → Bool → Bool
marked_after None marked = false
marked_after (Some q) marked = marked

-- after an event; `t` is posting's table before it
abbrev pub transaction_after : ℕ → Event → List Client → Table → Transaction → Transaction
transaction_after i e ds t x = record {
  stale = λ k. stale_in i k (enter e ds) t (x.stale k);
  marked = marked_after (get_or (enter e ds).clients i closed).queue (x.marked || marks i e ds);
}

-- THE ANSWER TO EXEC. The request is an EXEC
abbrev pub is_exec : Control → Bool
is_exec MULTI = false
is_exec EXEC = true
is_exec DISCARD = false
is_exec WATCH = false
is_exec UNWATCH = false
is_exec QUIT = false
is_exec other = false

-- by what was asked
abbrev pub asks_exec : Asked → Bool
asks_exec nothing = false
asks_exec broken = false
asks_exec (asks a) = is_exec (control_of (row_of (name_word a)).name)

-- a key that the EXEC watches was written since it was first watched
abbrev pub conflicted : (Key → Bool) → Client → Bool
conflicted stale d = any_key stale d.watched

-- by the mark, then by the conflict: EXECABORT, `*-1`, and otherwise an array of the replies that posting gives
unfoldable pub exec_reply : Bool → Bool → Table → List Args → Reply
exec_reply true conflict t q = exec_abort
exec_reply false true t q = NilArray
exec_reply false false t q = array (post_replies t (map executed_of q))

-- number and reply of an EXEC: without a number this reply; a mark or a conflict comes before 6 and 7
pub record ExecPosted (marked conflict : Bool) (t : Table) (q : List Args) (n : ℕ) (b : Bytes) : Type 0 where
  pub replies : n ≡ 0 → b ≡ encode (exec_reply marked conflict t q)
  pub comes_first : (marked || conflict) ≡ true → (n ≡ 6 → ⊥) × (n ≡ 7 → ⊥)

-- the event, if it is an EXEC of session i, has that number and reply
abbrev pub ExecAnswered : ℕ → Event → Bool → Bool → Table → List Args → Type 0
ExecAnswered i (asked j x n b) marked conflict t q = j ≡ i → asks_exec x ≡ true → ExecPosted marked conflict t q n b
ExecAnswered i (wrote ws) marked conflict t q = Unit {0}

-- every EXEC of session i inside MULTI
abbrev pub VerdictsPosted : ℕ → List Event → List Client → Table → Transaction → Type 0
VerdictsPosted i [] ds t x = Unit {0}
VerdictsPosted i (e ∷ es) ds t x =
    ((q : List Args) → (get_or ds i closed).queue ≡ Some q → ExecAnswered i e x.marked (conflicted x.stale (get_or ds i closed)) t q)
    × VerdictsPosted i es (enter e ds).clients (post_all (enter e ds).items t) (transaction_after i e ds t x)
