-- Calls made through the published functions, each on the lent memory that the last one left, as the contracts tell it.
use Rattle.std.specs.Prelude.{ℕ, ◌*◌, ◌≤◌, ◌<◌, true, false, cond, List, [], ◌∷◌, ◌≡◌, eqb, length, take, replicate}
use Rattle.std.specs.Prelude.{None}
use Rattle.base_key.specs.Bytes.{Bytes}
use Rattle.base_key.specs.Keys.{Key}
use Rattle.store_memtable.specs.Table.{find}
use Rattle.store_memtable.specs.Versions.{table}
use Rattle.group_spec.specs.declared.Member.{Member}
use Rattle.command_spec.specs.Session.{clear}
use Rattle.command_spec.specs.Sessions.{session_at, valid_sessions}
use Rattle.command_spec.specs.Numbers.{AnswerNumbers}
use Rattle.exec_decision.specs.Numbers.{PreviewNumbers}
use Rattle.call_spec.specs.Serve.{Outcome, outcome_of}
use Rattle.call_spec.specs.Calls.{Lent, lent_of, valid, store_of, session_of, with_store, OpenPromise, RequestPromise, PreviewPromise, GroupPromise, Call, request, grouped, preview}
use Rattle.call_spec.specs.Posting.{events, Item, Client, history, closed_clients, post_all, AllHold}
use Rattle.call_spec.specs.Verdicts.{new_transaction, VerdictsPosted}
use Rattle.call_spec.specs.Demand3.{Opened, OnlyCounted, text_of, sum, SumOf, NoStaleExec, NoStalePosted, clients_after, without, to_others, PostsNothing, SameBut, kept_calls, kept_outcomes, NoneAccepted, NoNine}

-- WHAT THE CALLER SEES of a request: the reply is in front of the reply buffer
abbrev pub request_seen : AnswerNumbers → Bytes → Outcome
request_seen r buffer = outcome_of r.number r.used (take r.reply buffer) [] 0

-- and of a group: a verdict byte for each member, unless a number is returned
abbrev pub group_seen : ℕ → List Member → Bytes → Outcome
group_seen n ms v = outcome_of n 0 [] (cond (eqb n 0) (take (length ms) v) []) 0

-- and of a preview: its verdict, unless a number is returned
abbrev pub preview_seen : PreviewNumbers → Bytes → Outcome
preview_seen r buffer = outcome_of r.number 0 (take r.reply buffer) (cond (eqb r.number 0) (r.verdict ∷ []) []) r.last

-- the lent memory before the calls, the calls, what the caller saw of each, and the lent memory after them
pub data Made : Lent → List Call → List Outcome → Lent → Type 0 where
  unmade : {l : Lent} → Made l [] [] l
  by_request : {i : ℕ} {input : Bytes} {places : ℕ} {buffer : Bytes} {l : Lent} {r : AnswerNumbers} {buffer' : Bytes} {l₁ l₂ : Lent} {cs : List Call} {os : List Outcome}
      → RequestPromise i input places buffer l r buffer' l₁ → Made l₁ cs os l₂
      → Made l (request i input places (length buffer) ∷ cs) (request_seen r buffer' ∷ os) l₂
  by_group : {ms : List Member} {parts : List ℕ} {d v : Bytes} {l : Lent} {n : ℕ} {v' : Bytes} {w' : List ℕ} {b' : Bytes} {l₂ : Lent} {cs : List Call} {os : List Outcome}
      → GroupPromise ms parts d v l.words l.bytes n v' w' b' → Made (with_store w' b' l) cs os l₂
      → Made l (grouped ms parts d v ∷ cs) (group_seen n ms v' ∷ os) l₂
  by_preview : {i : ℕ} {buffer : Bytes} {l : Lent} {r : PreviewNumbers} {buffer' : Bytes} {l₁ l₂ : Lent} {cs : List Call} {os : List Outcome}
      → PreviewPromise i buffer l r buffer' l₁ → Made l₁ cs os l₂
      → Made l (preview i (length buffer) ∷ cs) (preview_seen r buffer' ∷ os) l₂

-- the items of posting's history, by what the caller saw
abbrev pub items_seen : List Call → List Outcome → List Item
items_seen cs os = history cs os closed_clients

-- DEMAND 3 of the calls made: the table, the replies, the counters, the watched keys, the cause of each answer to EXEC, and validity
pub record Holds (cs : List Call) (os : List Outcome) (l l' : Lent) : Type 0 where
  pub tables : table (store_of l').versions ≡ post_all (items_seen cs os) []
  pub replies : AllHold (items_seen cs os) []
  pub counters : (k : Key) → OnlyCounted k (items_seen cs os) → find (table (store_of l').versions) k ≡ text_of (sum k (items_seen cs os) [] None)
  pub sums : (k : Key) → SumOf k (items_seen cs os) None (sum k (items_seen cs os) [] None)
  pub watches : (i : ℕ) (k : Key) → NoStalePosted i k (events cs os) closed_clients [] false
  pub verdicts : (i : ℕ) → VerdictsPosted i (events cs os) closed_clients [] new_transaction
  pub moved : (i : ℕ) (k : Key) → NoStaleExec i k cs l closed_clients false
  pub fit : valid l' ≡ true
  pub no_nine : NoNine os

-- from an opened store on
abbrev pub MadeClaim : Type 0
MadeClaim = (l l' : Lent) (cs : List Call) (os : List Outcome) → Opened l → Made l cs os l' → Holds cs os l l'

-- a store that the opening call has opened, beside any valid sessions that are clear
abbrev pub OpensClaim : Type 0
OpensClaim =
    (last versions size : ℕ) (w : List ℕ) (b : Bytes) (w' : List ℕ) (b' : Bytes) (sw : List ℕ) (sb : Bytes)
    → valid_sessions last sw sb ≡ true → ((i : ℕ) → i < 16 → session_at i sw sb ≡ clear)
    → OpenPromise last versions size w b 0 w' b' → Opened (lent_of w' b' sw sb)

-- zero words are such sessions, beside any bytes
abbrev pub ZeroClaim : Type 0
ZeroClaim =
    (last n : ℕ) (sb : Bytes) → 16 * 644 ≤ n → 16 * 10240 ≤ length sb
    → (valid_sessions last (replicate n 0) sb ≡ true) × ((i : ℕ) → i < 16 → session_at i (replicate n 0) sb ≡ clear)

-- What session i has queued or watched alters no answer to another until its EXEC is accepted: the same calls made without its own,
-- on what the first calls left but for session i, are answered alike.
pub record SeenAlike (i : ℕ) (cs : List Call) (os os' : List Outcome) (l m : Lent) : Type 0 where
  pub answers : to_others i cs os ≡ os'
  pub left : SameBut i l m

abbrev pub MadeIsolation : Type 0
MadeIsolation =
    (l l₁ l₂ m m₂ : Lent) (before cs : List Call) (os₁ os₂ os' : List Outcome) (i : ℕ)
    → Opened l → Made l before os₁ l₁ → Made l₁ cs os₂ l₂ → valid m ≡ true → SameBut i l₁ m → Made m (without i cs) os' m₂
    → PostsNothing i cs l₁ (clients_after before l closed_clients) → SeenAlike i cs os₂ os' l₂ m₂

-- The same where session i also posts outside MULTI: the calls that are kept are made without the others.
pub record SeenUntilExec (i : ℕ) (cs : List Call) (ds : List Client) (os os' : List Outcome) (l m : Lent) : Type 0 where
  pub answers : kept_outcomes i cs os ds ≡ os'
  pub left : SameBut i l m

abbrev pub MadeUntilExec : Type 0
MadeUntilExec =
    (l l₁ l₂ m m₂ : Lent) (before cs : List Call) (os₁ os₂ os' : List Outcome) (i : ℕ)
    → Opened l → Made l before os₁ l₁ → Made l₁ cs os₂ l₂ → valid m ≡ true → SameBut i l₁ m → (session_of i m).queue ≡ None → NoneAccepted i (events cs os₂)
    → Made m (kept_calls i cs os₂ (clients_after before l closed_clients)) os' m₂ → SeenUntilExec i cs (clients_after before l closed_clients) os₂ os' l₂ m₂

-- all of it
pub record MadeHolds : Type 0 where
  pub opens : OpensClaim
  pub zero : ZeroClaim
  pub claim : MadeClaim
  pub isolation : MadeIsolation
  pub until_exec : MadeUntilExec
