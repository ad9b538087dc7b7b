-- Demand 3: one claim about any list of calls, from an opened store and clear sessions.
use Rattle.std.specs.Prelude.{ℕ, ◌<◌, List, [], ◌∷◌, Bool, true, false, cond, not, ◌&&◌, ◌||◌, ◌≡◌, eqb, length, get_or, ℤ, pos, ◌+ℤ◌}
use Rattle.std.specs.Prelude.{Option, None, Some}
use Rattle.base_key.specs.Bytes.{Bytes}
use Rattle.base_key.specs.Keys.{Key, same_key}
use Rattle.base_number.specs.Decimal.{decimal}
use Rattle.resp_spec.specs.Reply.{Reply, Simple, Error, Integer, BulkString, Nil, NilArray, Array, array, encode}
use Rattle.store_memtable.specs.Table.{Value, Table, keys_of, find, write_all}
use Rattle.store_memtable.specs.Versions.{table, moved}
use Rattle.store_memtable.specs.Layout.{empty_store}
use Rattle.group_spec.specs.declared.Member.{Member}
use Rattle.group_spec.specs.Group.{among}
use Rattle.command_spec.specs.Names.{Args, Control, MULTI, EXEC, DISCARD, WATCH, UNWATCH, QUIT, other, control_of, row_of, name_word}
use Rattle.command_spec.specs.Command.{Command, GET, SET, DEL, EXISTS, MGET, MSET, COUNT, FIXED, Executed, runs, lists}
use Rattle.command_spec.specs.Session.{clear}
use Rattle.call_spec.specs.Serve.{Outcome}
use Rattle.call_spec.specs.Calls.{Lent, valid, store_of, session_of, Call, request, grouped, preview, owner_of, call, outcomes, final, request_call, group_call, group_called, preview_call}
use Rattle.call_spec.specs.Posting.{Asked, nothing, broken, asks, is_array, Event, asked, wrote, told, events, Item, alone, listed, exec, member, Client, closed, enter, enter_all, history, closed_clients, posted, post, post_all, AllHold}
use Rattle.call_spec.specs.Verdicts.{set_keys, asks_exec, stale_in, new_transaction, VerdictsPosted}

-- an empty store just opened, and clear sessions, in valid lent state
pub record Opened (l : Lent) : Type 0 where
  pub fit : valid l ≡ true
  pub last : ℕ
  pub versions : ℕ
  pub size : ℕ
  pub store : store_of l ≡ empty_store last versions size
  pub sessions : (i : ℕ) → i < 16 → session_of i l ≡ clear

-- the items of posting's history, from the calls and their outcomes
abbrev pub items_of : List Call → Lent → List Item
items_of cs l = history cs (outcomes cs l) closed_clients

-- The table after the list, and the reply to each command carried out in it, are what posting gives.
pub record Demand3 (cs : List Call) (l : Lent) : Type 0 where
  pub tables : table (store_of (final cs l)).versions ≡ post_all (items_of cs l) []
  pub replies : AllHold (items_of cs l) []

-- for any list of calls
abbrev pub Claim : Type 0
Claim = (cs : List Call) (l : Lent) → Opened l → Demand3 cs l

-- Posting is fed a call's number, reply and verdicts alone: neither the bytes used nor the last sequence.
abbrev pub FedClaim : Type 0
FedClaim =
    (c : Call) (o p : Outcome) → o.number ≡ p.number → o.reply ≡ p.reply → o.verdicts ≡ p.verdicts → told c o ≡ told c p

-- THE SUM OF A COUNTER. The increments of a key that got an integer reply; `none` while there is none. (By `replies` above, a
-- counter command's reply is the one that posting gives.)
abbrev pub is_integer : Reply → Bool
is_integer (Simple s) = false
is_integer (Error s) = false
is_integer (Integer n) = true
is_integer (BulkString s) = false
is_integer Nil = false
is_integer NilArray = false
is_integer (Array rs) = false

-- no increment yet is 0
abbrev pub or_zero : Option ℤ → ℤ
or_zero None = pos 0
or_zero (Some n) = n

-- the sum after one command and its reply
unfoldable pub increment : Key → Command → Reply → Option ℤ → Option ℤ
increment k (GET j) p n = n
increment k (SET j v) p n = n
increment k (DEL ks) p n = n
increment k (EXISTS ks) p n = n
increment k (MGET ks) p n = n
increment k (MSET es) p n = n
increment k (COUNT j by) p n = cond (same_key j k && is_integer p) (Some (or_zero n +ℤ by)) n
increment k (FIXED r) p n = n

-- a listing raises nothing
unfoldable pub increment_by : Key → Executed → Reply → Option ℤ → Option ℤ
increment_by k (runs c) p n = increment k c p n
increment_by k (lists l) p n = n

-- the sum after commands posted one after another
unfoldable pub sum_queue : Key → List Executed → Table → Option ℤ → Option ℤ
sum_queue k [] t n = n
sum_queue k (x ∷ xs) t n = let e = posted t x in sum_queue k xs (write_all e.1 t) (increment_by k x e.0 n)

-- the sum over a history
unfoldable pub sum : Key → List Item → Table → Option ℤ → Option ℤ
sum k [] t n = n
sum k (alone c b ∷ xs) t n = sum k xs (post (alone c b) t) (sum_queue k (runs c ∷ []) t n)
sum k (listed l b ∷ xs) t n = sum k xs t n
sum k (exec q b ∷ xs) t n = sum k xs (post (exec q b) t) (sum_queue k q t n)
sum k (member ws ∷ xs) t n = sum k xs (post (member ws) t) n

-- no command of a queue but a counter writes the key
abbrev pub NotSet : Key → List Executed → Type 0
NotSet k [] = Unit {0}
NotSet k (runs c ∷ xs) = (among (set_keys c) k ≡ false) × NotSet k xs
NotSet k (lists l ∷ xs) = NotSet k xs

-- only counter commands write the key
abbrev pub OnlyCounted : Key → List Item → Type 0
OnlyCounted k [] = Unit {0}
OnlyCounted k (alone c b ∷ xs) = (among (set_keys c) k ≡ false) × OnlyCounted k xs
OnlyCounted k (listed l b ∷ xs) = OnlyCounted k xs
OnlyCounted k (exec q b ∷ xs) = NotSet k q × OnlyCounted k xs
OnlyCounted k (member ws ∷ xs) = (among (keys_of ws) k ≡ false) × OnlyCounted k xs

-- what the key then holds: the sum's text; with no integer reply the key is absent
abbrev pub text_of : Option ℤ → Option Value
text_of None = None
text_of (Some n) = Some (decimal n)

-- a key that only counter commands write holds the sum of the increments that got an integer reply
abbrev pub CounterClaim : Type 0
CounterClaim =
    (cs : List Call) (l : Lent) → Opened l → (k : Key) → OnlyCounted k (items_of cs l) →
    find (table (store_of (final cs l)).versions) k ≡ text_of (sum k (items_of cs l) [] None)

-- the sum after commands and their replies
unfoldable pub increments : Key → List Executed → List Reply → Option ℤ → Option ℤ
increments k [] ps n = n
increments k (x ∷ xs) [] n = n
increments k (x ∷ xs) (p ∷ ps) n = increments k xs ps (increment_by k x p n)

-- `m` is the sum after a history by the bytes of its replies, an EXEC's one for each command
abbrev pub SumOf : Key → List Item → Option ℤ → Option ℤ → Type 0
SumOf k [] n m = m ≡ n
SumOf k (alone c b ∷ xs) n m = (p : Reply) × (b ≡ encode p) × SumOf k xs (increment k c p n) m
SumOf k (listed l b ∷ xs) n m = SumOf k xs n m
SumOf k (exec q b ∷ xs) n m =
    (ps : List Reply) × (b ≡ encode (array ps)) × (length ps ≡ length q) × SumOf k xs (increments k q ps n) m
SumOf k (member ws ∷ xs) n m = SumOf k xs n m

-- the sum is that of the replies which the calls gave
abbrev pub CounterReplies : Type 0
CounterReplies = (cs : List Call) (l : Lent) → Opened l → (k : Key) → SumOf k (items_of cs l) None (sum k (items_of cs l) [] None)

-- NO EXEC IS ACCEPTED WITH A KEY MOVED SINCE ITS WATCH. An EXEC of session i that was answered by an array
abbrev pub Accepts : ℕ → Event → Type 0
Accepts i (asked j x n b) = (j ≡ i) × (n ≡ 0) × (asks_exec x ≡ true) × (is_array b ≡ true)
Accepts i (wrote ws) = ⊥

-- no EXEC of session i is accepted
abbrev pub NoneAccepted : ℕ → List Event → Type 0
NoneAccepted i [] = Unit {0}
NoneAccepted i (e ∷ es) = (Accepts i e → ⊥) × NoneAccepted i es

-- what a call tells on lent memory
abbrev pub told_by : Call → Lent → List Event
told_by c l = told c (call c l).outcome

-- k is stale for session i: watched, and with a version that came since. `ds` are the clients before the call
abbrev pub stale_after : ℕ → Key → Call → Lent → List Client → Bool → Bool
stale_after i k c l ds stale =
    among (get_or (enter_all (told_by c l) ds).clients i closed).watched k
    && (stale || moved (store_of l).last (store_of (call c l).lent).versions k)

-- no EXEC of session i is accepted while k is stale
abbrev pub NoStaleExec : ℕ → Key → List Call → Lent → List Client → Bool → Type 0
NoStaleExec i k [] l ds stale = Unit {0}
NoStaleExec i k (c ∷ cs) l ds stale =
    (stale ≡ true → NoneAccepted i (told_by c l))
    × NoStaleExec i k cs (call c l).lent (enter_all (told_by c l) ds).clients (stale_after i k c l ds stale)

-- for any list of calls, session and key
abbrev pub WatchClaim : Type 0
WatchClaim = (cs : List Call) (l : Lent) → Opened l → (i : ℕ) (k : Key) → NoStaleExec i k cs l closed_clients false

-- The same by posting alone, without the store: watched, and written since.
-- no EXEC of session i is accepted while k is stale
abbrev pub NoStalePosted : ℕ → Key → List Event → List Client → Table → Bool → Type 0
NoStalePosted i k [] ds t stale = Unit {0}
NoStalePosted i k (e ∷ es) ds t stale =
    (stale ≡ true → Accepts i e → ⊥)
    × NoStalePosted i k es (enter e ds).clients (post_all (enter e ds).items t) (stale_in i k (enter e ds) t stale)

-- for any list of calls, session and key
abbrev pub PostedWatchClaim : Type 0
PostedWatchClaim = (cs : List Call) (l : Lent) → Opened l → (i : ℕ) (k : Key) → NoStalePosted i k (events cs (outcomes cs l)) closed_clients [] false

-- EACH ANSWER TO EXEC HAS ITS CAUSE: a mark gives EXECABORT, a watched key written since it was first watched `*-1`, and neither meets 6 or 7;
-- every other EXEC without a number is accepted, and replies as posting does. For any list of calls and session
abbrev pub VerdictClaim : Type 0
VerdictClaim = (cs : List Call) (l : Lent) → Opened l → (i : ℕ) → VerdictsPosted i (events cs (outcomes cs l)) closed_clients [] new_transaction

-- WHAT ONE SESSION HAS QUEUED OR WATCHED ALTERS NO ANSWER TO ANOTHER: an answer, what is left of the store and of the session
-- depend on the store and that session alone, and a request leaves the other sessions.
pub record SameFor (i : ℕ) (l m : Lent) : Type 0 where
  pub store : store_of l ≡ store_of m
  pub session : session_of i l ≡ session_of i m

-- the four parts
pub record Isolated : Type 0 where
  pub answers : (i : ℕ) (s : Bytes) (places room : ℕ) (l m : Lent) → valid l ≡ true → valid m ≡ true → SameFor i l m →
      (request_call i s places room l).outcome ≡ (request_call i s places room m).outcome
  pub leaves : (i : ℕ) (s : Bytes) (places room : ℕ) (l m : Lent) → valid l ≡ true → valid m ≡ true → SameFor i l m →
      SameFor i (request_call i s places room l).lent (request_call i s places room m).lent
  pub others : (i j : ℕ) (s : Bytes) (places room : ℕ) (l : Lent) → valid l ≡ true → j < 16 → (j ≡ i → ⊥) →
      session_of j (request_call i s places room l).lent ≡ session_of j l
  pub previews : (i room : ℕ) (l m : Lent) → valid l ≡ true → valid m ≡ true → SameFor i l m → (preview_call i room l).outcome ≡ (preview_call i room m).outcome

-- what a call posts, by its arguments and its answer
abbrev pub posted_by : Call → Lent → List Client → List Item
posted_by c l ds = (enter_all (told_by c l) ds).items

-- posting's queues and watches after a list of calls
unfoldable pub clients_after : List Call → Lent → List Client → List Client
clients_after [] l ds = ds
clients_after (c ∷ cs) l ds = clients_after cs (call c l).lent (enter_all (told_by c l) ds).clients

-- From an opened store on, a call that posts nothing leaves the store.
abbrev pub QuietClaim : Type 0
QuietClaim =
    (before : List Call) (l : Lent) → Opened l → (c : Call) → posted_by c (final before l) (clients_after before l closed_clients) ≡ [] →
    store_of (call c (final before l)).lent ≡ store_of (final before l)

-- the name is that of a command
abbrev pub is_command : Control → Bool
is_command MULTI = false
is_command EXEC = false
is_command DISCARD = false
is_command WATCH = false
is_command UNWATCH = false
is_command QUIT = false
is_command other = true

-- the request is a command
abbrev pub asks_command : Asked → Bool
asks_command nothing = false
asks_command broken = false
asks_command (asks a) = is_command (control_of (row_of (name_word a)).name)

-- what posts nothing: inside MULTI all but an accepted EXEC, outside it all but a command, and what returns a number
pub record Quiet : Type 0 where
  pub inside : (i : ℕ) (x : Asked) (n : ℕ) (b : Bytes) (ds : List Client) (q : List Args) → (get_or ds i closed).queue ≡ Some q →
      (Accepts i (asked i x n b) → ⊥) → (enter (asked i x n b) ds).items ≡ []
  pub outside : (i : ℕ) (x : Asked) (n : ℕ) (b : Bytes) (ds : List Client) → (get_or ds i closed).queue ≡ None → asks_command x ≡ false →
      (enter (asked i x n b) ds).items ≡ []
  pub numbers : (c : Call) (o : Outcome) (ds : List Client) → (o.number ≡ 0 → ⊥) → (enter_all (told c o) ds).items ≡ []

-- the session is there, and is session i
abbrev pub is_session : ℕ → Option ℕ → Bool
is_session i None = false
is_session i (Some j) = eqb j i

-- the call is one of session i
abbrev pub is_of : ℕ → Call → Bool
is_of i c = is_session i (owner_of c)

-- the calls that are none of session i
unfoldable pub without : ℕ → List Call → List Call
without i [] = []
without i (c ∷ cs) = cond (is_of i c) (without i cs) (c ∷ without i cs)

-- the outcomes of those calls
unfoldable pub to_others : ℕ → List Call → List Outcome → List Outcome
to_others i [] os = []
to_others i (c ∷ cs) [] = []
to_others i (c ∷ cs) (o ∷ os) = cond (is_of i c) (to_others i cs os) (o ∷ to_others i cs os)

-- no call of session i posts: it queues and watches, and no EXEC of it is accepted
abbrev pub PostsNothing : ℕ → List Call → Lent → List Client → Type 0
PostsNothing i [] l ds = Unit {0}
PostsNothing i (c ∷ cs) l ds =
    (is_of i c ≡ true → posted_by c l ds ≡ []) × PostsNothing i cs (call c l).lent (enter_all (told_by c l) ds).clients

-- the same store and the same sessions, but for what session i has queued or watched
pub record SameBut (i : ℕ) (l m : Lent) : Type 0 where
  pub store : store_of l ≡ store_of m
  pub sessions : (j : ℕ) → j < 16 → (j ≡ i → ⊥) → session_of j l ≡ session_of j m

-- every other call is answered as without the calls of session i
pub record Unaltered (i : ℕ) (cs : List Call) (l m : Lent) : Type 0 where
  pub answers : to_others i cs (outcomes cs l) ≡ outcomes (without i cs) m
  pub left : SameBut i (final cs l) (final (without i cs) m)

-- From an opened store on, what session i has queued or watched alters no answer to another until its EXEC is accepted: `m` is
-- what the calls `before` left, but for session i, and the later calls without its own get the same answers and verdicts.
abbrev pub IsolationClaim : Type 0
IsolationClaim =
    (before cs : List Call) (l m : Lent) (i : ℕ) → Opened l → valid m ≡ true → SameBut i (final before l) m →
    PostsNothing i cs (final before l) (clients_after before l closed_clients) → Unaltered i cs (final before l) m

-- THE SAME WHERE SESSION i ALSO POSTS OUTSIDE MULTI, as with WATCH, GET, MULTI. Some item is posted
abbrev pub any_item : List Item → Bool
any_item [] = false
any_item (x ∷ xs) = true

-- all but the calls of session i that post nothing are kept
abbrev pub is_kept : ℕ → Call → List Item → Bool
is_kept i c xs = not (is_of i c) || any_item xs

-- the calls that are kept
unfoldable pub kept_calls : ℕ → List Call → List Outcome → List Client → List Call
kept_calls i [] os ds = []
kept_calls i (c ∷ cs) [] ds = []
kept_calls i (c ∷ cs) (o ∷ os) ds =
    let e = enter_all (told c o) ds in
    cond (is_kept i c e.items) (c ∷ kept_calls i cs os e.clients) (kept_calls i cs os e.clients)

-- the outcomes of those calls
unfoldable pub kept_outcomes : ℕ → List Call → List Outcome → List Client → List Outcome
kept_outcomes i [] os ds = []
kept_outcomes i (c ∷ cs) [] ds = []
kept_outcomes i (c ∷ cs) (o ∷ os) ds =
    let e = enter_all (told c o) ds in
    cond (is_kept i c e.items) (o ∷ kept_outcomes i cs os e.clients) (kept_outcomes i cs os e.clients)

-- every call that is kept is answered as without the others
pub record UnalteredUntilExec (i : ℕ) (cs : List Call) (ds : List Client) (l m : Lent) : Type 0 where
  pub answers : kept_outcomes i cs (outcomes cs l) ds ≡ outcomes (kept_calls i cs (outcomes cs l) ds) m
  pub left : SameBut i (final cs l) (final (kept_calls i cs (outcomes cs l) ds) m)

-- From an opened store on, what session i has queued or watched alters no answer until its EXEC is accepted, neither to another session nor
-- to its own commands outside MULTI: `m` is what the calls `before` left, but for session i, which is outside MULTI there.
abbrev pub UntilExecClaim : Type 0
UntilExecClaim =
    (before cs : List Call) (l m : Lent) (i : ℕ) → Opened l → valid m ≡ true → SameBut i (final before l) m → (session_of i m).queue ≡ None →
    NoneAccepted i (events cs (outcomes cs (final before l))) → UnalteredUntilExec i cs (clients_after before l closed_clients) (final before l) m

-- EVERY CALL LEAVES VALID STATE, so that from an opened store on no call returns 9.
abbrev pub StaysValid : Type 0
StaysValid = (c : Call) (l : Lent) → valid l ≡ true → valid (call c l).lent ≡ true

-- none of the outcomes is 9
abbrev pub NoNine : List Outcome → Type 0
NoNine [] = Unit {0}
NoNine (o ∷ os) = (o.number ≡ 9 → ⊥) × NoNine os

-- for any list of calls
abbrev pub ValidClaim : Type 0
ValidClaim = (cs : List Call) (l : Lent) → Opened l → (valid (final cs l) ≡ true) × NoNine (outcomes cs l)

-- THE CALLS OF A LIST are those that the contracts of the published functions name.
pub record CallsClaim : Type 0 where
  pub requests : (i : ℕ) (s : Bytes) (places room : ℕ) (l : Lent) → call (request i s places room) l ≡ request_call i s places room l
  pub groups : (ms : List Member) (parts : List ℕ) (d v : Bytes) (l : Lent) → call (grouped ms parts d v) l ≡ group_called l (group_call ms parts d v l.words l.bytes)
  pub previews : (i room : ℕ) (l : Lent) → call (preview i room) l ≡ preview_call i room l

-- DEMAND 3 WHOLE, with the sentence on other sessions.
pub record Demand3Holds : Type 0 where
  pub calls : CallsClaim
  pub claim : Claim
  pub fed : FedClaim
  pub counters : CounterClaim
  pub counter_replies : CounterReplies
  pub watches : WatchClaim
  pub posted_watches : PostedWatchClaim
  pub verdicts : VerdictClaim
  pub quiet : Quiet
  pub quiet_calls : QuietClaim
  pub isolated : Isolated
  pub isolation : IsolationClaim
  pub until_exec : UntilExecClaim
  pub stays_valid : StaysValid
  pub validity : ValidClaim
