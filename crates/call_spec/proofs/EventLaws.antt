-- What an event says of the states before and after it, and that posting follows: the law of an event, whatever call told it.
use Prim.Native.Nat.{ℕ, ◌≤◌, ◌<◌}
use native.Mathlib.Omega.{arith}
use native.Mathlib.Decide.{ℕ_discrete}
use mathlib.Core.List.{List, [], ◌∷◌, ◌++◌, append_assoc}
use mathlib.Core.Bool.{Bool, true, false, ◌||◌}
use Rattle.std.specs.Prelude.{None, Some}
use mathlib.Core.Path.{◌≡◌, refl, sym, ap, ◌∙◌, subst}
use lib.Dec.{ltb, eqb}
use lib.ListN.{length, get_or, set, length-set}
use lib.Seq.{get_or-set_same, get_or-set_other}
use borrow.Author.Tests.{ltb-true, eqb-true}
use Rattle.base_key.specs.Bytes.{Bytes}
use Rattle.base_key.specs.Keys.{Key}
use Rattle.base_key.proofs.Bytes.{or_cases}
use Rattle.store_memtable.specs.Table.{Write, Table}
use Rattle.store_memtable.specs.Versions.{Store, moved, table, commit}
use Rattle.store_memtable.proofs.VersionLaws.{Sound, table_commit, later_refl, later_commit}
use Rattle.group_spec.specs.Group.{among}
use Rattle.group_spec.proofs.KeyLists.{among_append}
use Rattle.command_spec.specs.Names.{Args}
use Rattle.command_spec.specs.Session.{Watching, watched_keys, Session, any_moved}
use Rattle.command_spec.proofs.WatchLaws.{moved_by}
use Rattle.command_spec.proofs.SessionLaws.{SessionSound, WatchKept}
use Rattle.call_spec.specs.Serve.{State, session_in}
use Rattle.call_spec.specs.Posting.{Asked, Event, asked, wrote, is_array, Item, member, Client, closed, turn_asked, Entered, enter, enter_all, post, post_all, AllHold}
use Rattle.call_spec.specs.Verdicts.{item_keys, written_in, marks_by, marked_after, asks_exec, conflicted, ExecPosted}
use Rattle.call_spec.proofs.MovedLaws.{commit_moves, commit_keeps, LaterFrom, later_from, from_trans, moved_later, moved_kept, neither_test, no_keys, one_item, unwritten}
use Rattle.call_spec.proofs.FollowLaws.{Mirrors, Follows, some_item}
use Rattle.call_spec.proofs.LentLaws.{eqb_differs}
use Rattle.call_spec.proofs.QuietLaws.{number_entered}

-- a state as calls leave it: a sound store, and sixteen sound sessions
pub record Fit (p : State) : Type 0 where
  pub sound : Sound p.store
  pub sixteen : length p.sessions ≡ 16
  pub each : (i : ℕ) → i < 16 → SessionSound p.store.last (session_in i p)

-- THE BOUND: what a step keeps is said for every sequence at or above it. No call drops a version, so it is 0
abbrev pub bound : State → ℕ
bound p = 0

-- what a transaction tells of a store and a watch: the watched keys that have moved
abbrev pub StaleIs : Store → Watching → (Key → Bool) → Type 0
StaleIs st w stale = (k : Key) → stale k ≡ moved_by st.versions w k

-- WHAT AN EVENT SAYS. Session i, whose state was s and is t, asked x on the store st, and was given the number n and the reply b
pub record Served (x : Asked) (n : ℕ) (b : Bytes) (st after : Store) (s t : Session) : Type 0 where
  pub numbers : (n ≡ 0 → ⊥) → (after ≡ st) × (t.queue ≡ s.queue) × (t.watch ≡ s.watch)
  pub follows : n ≡ 0 → (d : Client) → Mirrors d s → Follows st after t (turn_asked x b d)
  pub watch : WatchKept st s.watch t.watch
  pub marks : (s.queue ≡ None → s.failed ≡ false) → t.failed ≡ marked_after t.queue (s.failed || marks_by s.queue x n b)
  pub due : asks_exec x ≡ true → (q : List Args) → s.queue ≡ Some q → (d : Client) → Mirrors d s → (stale : Key → Bool) → StaleIs st s.watch stale
      → ExecPosted s.failed (conflicted stale d) (table st.versions) q n b
  pub fresh : asks_exec x ≡ true → is_array b ≡ true → any_moved st.versions s.watch ≡ false

-- a session asked: the other sessions stay; one above 15 gets 1
pub record AskedLaw (i : ℕ) (x : Asked) (n : ℕ) (b : Bytes) (p q : State) : Type 0 where
  pub later : LaterFrom (bound q) p.store q.store
  pub others : (j : ℕ) → j < 16 → (j ≡ i → ⊥) → session_in j q ≡ session_in j p
  pub own : i < 16 → Served x n b p.store q.store (session_in i p) (session_in i q)
  pub none : ltb i 16 ≡ false → (n ≡ 1) × (q.store ≡ p.store)

-- accepted writes are in the store, and leave the sessions
pub record Writes (ws : List Write) (p q : State) : Type 0 where
  pub store : q.store ≡ commit ws p.store
  pub sessions : (j : ℕ) → session_in j q ≡ session_in j p

abbrev pub Happens : Event → State → State → Type 0
Happens (asked i x n b) p q = AskedLaw i x n b p q
Happens (wrote ws) p q = Writes ws p q

-- events one after another, from a state to a state
pub data Chain : List Event → State → State → Type 0 where
  ended : {p : State} → Chain [] p p
  after : {e : Event} {es : List Event} {p q r : State} → Happens e p q → Fit q → Chain es q r → Chain (e ∷ es) p r

pub chain_append : {es fs : List Event} {p q r : State} → Chain es p q → Chain fs q r → Chain (es ++ fs) p r
chain_append ended d = d
chain_append (after h f c) d = after h f (chain_append c d)

-- a client for each session, which mirrors it
pub record Clients (p : State) (ds : List Client) : Type 0 where
  pub sixteen : length ds ≡ 16
  pub mirrors : (j : ℕ) → j < 16 → Mirrors (get_or ds j closed) (session_in j p)

-- POSTING FOLLOWS, by what it makes of events
pub record PostFollows (p : State) (e : Entered) (q : State) : Type 0 where
  pub later : LaterFrom (bound q) p.store q.store
  pub tables : post_all e.items (table p.store.versions) ≡ table q.store.versions
  pub holds : AllHold e.items (table p.store.versions)
  pub clients : Clients q e.clients
  pub quiet : e.items ≡ [] → q.store ≡ p.store
  -- a key that posting writes has moved, and every other one has as before, counted from the bound on
  pub moves : (k : Key) → bound q ≤ p.store.last → among (written_in e.items (table p.store.versions)) k ≡ true → moved p.store.last q.store.versions k ≡ true
  pub keeps : (k : Key) (n : ℕ) → bound q ≤ n → among (written_in e.items (table p.store.versions)) k ≡ false → moved n q.store.versions k ≡ moved n p.store.versions k

module _ (p q : State) (fit : Fit p) (ds : List Client) (g : Clients p ds) where
  -- nothing is posted
  unentered : LaterFrom (bound q) p.store q.store → q.store ≡ p.store → Clients q ds → PostFollows p (record { clients = ds; items = [] }) q
  unfolding post_all
  unentered l st k = record {
    later = l;
    tables = ap (λ (x : Store). table x.versions) (sym st);
    holds = tt;
    clients = k;
    quiet = λ e. st;
    moves = λ k b h. no_keys _ k h;
    keeps = λ k n b h. ap (λ (x : Store). moved n x.versions k) st;
  }

  module _ (i : ℕ) (x : Asked) (n : ℕ) (b : Bytes) (a : AskedLaw i x n b p q) where
    answer_entered : eqb n 0 ≡ true
        → enter (asked i x n b) ds ≡ (let t = turn_asked x b (get_or ds i closed) in record { clients = set ds i t.client; items = t.items })
    unfolding enter
    answer_entered e = rw (e, enter)

    -- the client of session i is renewed, and the others mirror sessions that stay
    renewed : i < 16 → (d : Client) → Mirrors d (session_in i q) → Clients q (set ds i d)
    renewed h d m = record {
      sixteen = length-set ds i d ∙ g.sixteen;
      mirrors = λ j k. which j k (ℕ_discrete j i);
    }
      where
        which : (j : ℕ) → j < 16 → Dec (j ≡ i) → Mirrors (get_or (set ds i d) j closed) (session_in j q)
        which j k (yes e) = rw (e, get_or-set_same ds i d closed (omega (arith, g.sixteen))) m
        which j k (no z) = rw (get_or-set_other ds i j d closed z, a.others j k z) (g.mirrors j k)

    -- with a number the session keeps queue and watch, and the clients stay
    kept : (n ≡ 0 → ⊥) → Clients q ds
    kept z = record { sixteen = g.sixteen; mirrors = λ j k. which j k (ℕ_discrete j i) }
      where
        own : i < 16 → Mirrors (get_or ds i closed) (session_in i q)
        own h =
            let m = g.mirrors i h in
            let s = (a.own h).numbers z in
            record { queue = m.queue ∙ sym s.1; watched = λ k. m.watched k ∙ ap (λ (w : Watching). among (watched_keys w) k) (sym s.2) }

        which : (j : ℕ) → j < 16 → Dec (j ≡ i) → Mirrors (get_or ds j closed) (session_in j q)
        which j k (yes e) = rw e (own (omega (arith, e, k)))
        which j k (no y) = rw (a.others j k y) (g.mirrors j k)

    asked_follows : PostFollows p (enter (asked i x n b) ds) q
    asked_follows = go (ltb i 16) refl (eqb n 0) refl
      where
        go : (t : Bool) → ltb i 16 ≡ t → (u : Bool) → eqb n 0 ≡ u → PostFollows p (enter (asked i x n b) ds) q
        go false h u e =
            let o = a.none h in
            let z : n ≡ 0 → ⊥ = λ z. omega (arith, o.0, z) in
            rw (number_entered i x n b ds z) (unentered a.later o.1 (kept z))
        go true h false e =
            let z = eqb_differs n 0 e in
            rw (number_entered i x n b ds z) (unentered a.later ((a.own (ltb-true i 16 h)).numbers z).0 (kept z))
        go true h true e =
            let k = ltb-true i 16 h in
            let f = (a.own k).follows (eqb-true n 0 e) (get_or ds i closed) (g.mirrors i k) in
            rw (answer_entered e) (record {
              later = a.later;
              tables = f.tables;
              holds = f.holds;
              clients = renewed k _ f.client;
              quiet = f.quiet;
              moves = λ k b. f.moves k;
              keeps = λ k n b h. moved_kept n _ _ k (f.keeps k h);
            })

  wrote_follows : (ws : List Write) → Writes ws p q → PostFollows p (enter (wrote ws) ds) q
  unfolding enter post_all post item_keys
  wrote_follows ws w = record {
    later = subst (LaterFrom (bound q) p.store) (sym w.store) (later_from (bound q) (later_commit ws p.store));
    tables = sym (table_commit ws p.store fit.sound.seqs) ∙ ap (λ (x : Store). table x.versions) (sym w.store);
    holds = (tt, tt);
    clients = record { sixteen = g.sixteen; mirrors = λ j k. rw (w.sessions j) (g.mirrors j k) };
    quiet = λ z. some_item z;
    moves = λ k b h. rw w.store (one_item (member ws) _ k h (λ x. commit_moves ws p.store k x));
    keeps = λ k n b h. rw w.store (moved_kept n _ _ k (commit_keeps ws p.store k (unwritten (member ws) [] _ k h).0));
  }

  pub event_follows : (e : Event) → Happens e p q → PostFollows p (enter e ds) q
  event_follows (asked i x n b) a = asked_follows i x n b a
  event_follows (wrote ws) w = wrote_follows ws w

-- A HISTORY IN TWO PARTS
pub post_append : (xs ys : List Item) (t : Table) → post_all (xs ++ ys) t ≡ post_all ys (post_all xs t)
unfolding post_all
post_append [] ys t = refl
post_append (x ∷ xs) ys t = post_append xs ys (post x t)

pub hold_append : (xs ys : List Item) (t : Table) → AllHold xs t → AllHold ys (post_all xs t) → AllHold (xs ++ ys) t
unfolding post_all
hold_append [] ys t h k = k
hold_append (x ∷ xs) ys t h k = (h.0, hold_append xs ys (post x t) h.1 k)

written_append : (xs ys : List Item) (t : Table) → written_in (xs ++ ys) t ≡ written_in xs t ++ written_in ys (post_all xs t)
unfolding post_all written_in
written_append [] ys t = refl
written_append (x ∷ xs) ys t = ap (λ (l : List Key). item_keys x t ++ l) (written_append xs ys (post x t)) ∙ sym (append_assoc (item_keys x t) (written_in xs (post x t)) (written_in ys (post_all xs (post x t))))

nothing_of : (xs ys : List Item) → xs ++ ys ≡ [] → (xs ≡ []) × (ys ≡ [])
nothing_of [] ys e = (refl, e)
nothing_of (x ∷ xs) ys e = some_item e

-- EVENTS ONE AFTER ANOTHER
both_follow : (p q r : State) (xs ys : List Item) (ds es : List Client)
    → PostFollows p (record { clients = ds; items = xs }) q → PostFollows q (record { clients = es; items = ys }) r → PostFollows p (record { clients = es; items = xs ++ ys }) r
both_follow p q r xs ys ds es f g =
    let t = table p.store.versions in
    let rises : bound q ≤ bound r = omega arith in
    let keys : (k : Key) → among (written_in (xs ++ ys) t) k ≡ (among (written_in xs t) k || among (written_in ys (table q.store.versions)) k) =
    λ k. ap (λ (l : List Key). among l k) (written_append xs ys t) ∙ among_append (written_in xs t) (written_in ys (post_all xs t)) k ∙ ap (λ (x : Table). among (written_in xs t) k || among (written_in ys x) k) f.tables in
    record {
      later = from_trans (bound q) (bound r) rises f.later g.later;
      tables = post_append xs ys t ∙ ap (post_all ys) f.tables ∙ g.tables;
      holds = hold_append xs ys t f.holds (rw f.tables g.holds);
      clients = g.clients;
      quiet = λ z. let n = nothing_of xs ys z in g.quiet n.1 ∙ f.quiet n.0;
      moves = λ k b h. or_cases _ _ (sym (keys k) ∙ h)
          (λ x. moved_later (bound r) p.store.last p.store.last q.store r.store k (omega arith) b g.later (f.moves k (omega (arith, b, rises)) x))
          (λ y. let o : bound r ≤ q.store.last = omega (arith, b, f.later.lasts) in
          moved_later (bound r) p.store.last q.store.last r.store r.store k f.later.lasts o (later_from (bound r) (later_refl r.store)) (g.moves k o y));
      keeps = λ k n b h. let o = neither_test _ _ (sym (keys k) ∙ h) in g.keeps k n b o.1 ∙ f.keeps k n (omega (arith, b, rises)) o.0;
    }

pub chain_follows : (es : List Event) (p r : State) (ds : List Client) → Fit p → Clients p ds → Chain es p r → PostFollows p (enter_all es ds) r
unfolding enter_all
chain_follows [] p r ds fit g ended = unentered p p fit ds g (later_from (bound p) (later_refl p.store)) refl g
chain_follows (e ∷ es) p r ds fit g (after {q = q} h f c) =
    let x = event_follows p q fit ds g e h in
    both_follow p q r (enter e ds).items _ (enter e ds).clients _ x (chain_follows es q r (enter e ds).clients f x.clients c)
