-- DEMAND 3: over any list of calls from an opened store and clear sessions, table and replies are those of posting; no EXEC is accepted with a
-- key moved since it was first watched; and each answer to EXEC has its cause. And: every call leaves valid state. No kind of call is named here.
use Prim.Native.Nat.{ℕ, ◌<◌}
use native.Mathlib.Omega.{arith}
use mathlib.Core.List.{List, [], ◌∷◌}
use mathlib.Core.Bool.{Bool, true, false, ◌||◌, ◌&&◌}
use mathlib.Core.Path.{◌≡◌, refl, sym, ap, ◌∙◌, subst}
use lib.Dec.{ltb}
use lib.ListN.{get_or, get_or-replicate}
use borrow.Author.Tests.{ltb-true}
use Rattle.base_key.specs.Keys.{Key}
use Rattle.store_memtable.specs.Versions.{Store, table}
use Rattle.store_memtable.specs.Layout.{empty_store}
use Rattle.group_spec.specs.Group.{among}
use Rattle.command_spec.specs.Session.{Session}
use Rattle.command_spec.proofs.WatchLaws.{moved_by, moved_any}
use Rattle.command_spec.proofs.SessionLaws.{WatchKept}
use Rattle.call_spec.specs.Serve.{State, Outcome}
use Rattle.call_spec.specs.Calls.{Lent, valid, Call, step, outcomes_on, final_on, state_in, call, outcomes, final}
use Rattle.call_spec.specs.Posting.{told, events, Client, closed, enter_all, closed_clients, post_all}
use Rattle.call_spec.specs.Verdicts.{written_in, new_transaction, VerdictsPosted}
use Rattle.call_spec.specs.Demand3.{Opened, items_of, Claim, NoneAccepted, told_by, stale_after, NoStaleExec, WatchClaim, NoStalePosted, PostedWatchClaim, VerdictClaim, StaysValid}
use Rattle.call_spec.proofs.FollowLaws.{closed_clear}
use Rattle.call_spec.proofs.EventLaws.{Fit, Chain, ended, chain_append, Clients, PostFollows, chain_follows}
use Rattle.call_spec.proofs.WatchLaws.{watch_in, written_moved, Late, late_by, no_stale_posted, none_accepted, none_stale}
use Rattle.call_spec.proofs.VerdictLaws.{Tracks, verdicts_posted, no_session_verdicts}
use Rattle.call_spec.proofs.EveryKind.{kind}
use Rattle.call_spec.proofs.StateLaws.{session_at_lem, store_at, state_fit, call_represents, list_represents}

-- WHAT A LIST OF CALLS TELLS, on the state
pub list_chain : (cs : List Call) (p : State) → Fit p → Chain (events cs (outcomes_on cs p)) p (final_on cs p)
unfolding outcomes_on final_on events
list_chain [] p fit = ended
list_chain (c ∷ cs) p fit = let w = (kind c).law p fit in chain_append w.chain (list_chain cs (step c p).state w.fit)

-- and on lent memory
pub lent_chain : (cs : List Call) (l : Lent) → valid l ≡ true → Chain (events cs (outcomes cs l)) (state_in l) (state_in (final cs l))
lent_chain cs l ok = let r = list_represents cs l ok in rw (r.answers, r.state) (list_chain cs (state_in l) (state_fit l ok))

module _ (c : Call) (l : Lent) (ok : valid l ≡ true) where
  pub call_chain : Chain (told_by c l) (state_in l) (state_in (call c l).lent)
  call_chain = let r = call_represents c l ok in rw (r.outcome, r.state) ((kind c).law (state_in l) (state_fit l ok)).chain

  pub call_follows : (ds : List Client) → Clients (state_in l) ds → PostFollows (state_in l) (enter_all (told_by c l) ds) (state_in (call c l).lent)
  call_follows ds g = chain_follows (told_by c l) (state_in l) (state_in (call c l).lent) ds (state_fit l ok) g call_chain

-- from an opened store and clear sessions
pub opened_clients : (l : Lent) → Opened l → Clients (state_in l) closed_clients
unfolding closed_clients
opened_clients l o = record { sixteen = refl; mirrors = λ j h. rw (get_or-replicate 16 j closed closed h, session_at_lem l j h, o.sessions j h) closed_clear }

pub opened_table : (l : Lent) → Opened l → table (state_in l).store.versions ≡ []
unfolding empty_store table
opened_table l o = ap (λ (x : Store). table x.versions) (store_at l ∙ o.store)

pub claim : Claim
claim cs l o =
    let f = chain_follows (events cs (outcomes cs l)) (state_in l) (state_in (final cs l)) closed_clients (state_fit l o.fit) (opened_clients l o) (lent_chain cs l o.fit) in
    let t = opened_table l o in
    record {
      tables = ap (λ (x : Store). table x.versions) (sym (store_at (final cs l))) ∙ sym f.tables ∙ ap (post_all (items_of cs l)) t;
      replies = rw t at f.holds;
    }

-- EVERY CALL LEAVES VALID STATE.
pub stays_valid_lem : StaysValid
stays_valid_lem c l ok = (call_represents c l ok).fit

-- NO EXEC IS ACCEPTED WITH A KEY MOVED SINCE IT WAS FIRST WATCHED
pub opened_late : (k : Key) (i : ℕ) (inside : i < 16) (l : Lent) → Opened l → Late k i (state_in l) false
opened_late k i inside l o =
    sym (ap (λ (x : Session). moved_by (state_in l).store.versions x.watch k) (session_at_lem l i inside ∙ o.sessions i inside) ∙ (unfold moved_by in refl))

no_stale : (k : Key) (i : ℕ) (inside : i < 16) (cs : List Call) (l : Lent) (ds : List Client) (stale : Bool) → valid l ≡ true → Clients (state_in l) ds → Late k i (state_in l) stale
    → NoStaleExec i k cs l ds stale
unfolding state_in
no_stale k i inside [] l ds stale ok g h = tt
no_stale k i inside (c ∷ cs) l ds stale ok g h =
    let r = call_represents c l ok in
    let fit = state_fit l ok in
    let w = (kind c).law (state_in l) fit in
    let p = state_in l in
    let q = state_in (call c l).lent in
    let e = enter_all (told_by c l) ds in
    let f = call_follows c l ok ds g in
    let watch : WatchKept p.store (watch_in i p) (watch_in i q) = subst (λ (x : State). WatchKept p.store (watch_in i p) (watch_in i x)) (sym r.state) (w.watch i inside) in
    let m = written_moved p.store q.store fit.sound (written_in e.items (table p.store.versions)) k (f.moves k (omega arith)) (λ n. f.keeps k n (omega arith)) in (
      (λ s. subst (λ (o : Outcome). NoneAccepted i (told c o)) (sym r.outcome) (w.stale i inside (moved_any p.store.versions (watch_in i p) k (sym h ∙ s)))),
      no_stale k i inside cs (call c l).lent e.clients (stale_after i k c l ds stale) r.fit f.clients
          (ap (λ (b : Bool). among (get_or e.clients i closed).watched k && (stale || b)) m ∙ late_by k i inside p q e stale fit f watch h),
    )

no_session : (k : Key) (i : ℕ) → ltb i 16 ≡ false → (cs : List Call) (l : Lent) (ds : List Client) (stale : Bool) → valid l ≡ true → NoStaleExec i k cs l ds stale
no_session k i e [] l ds stale ok = tt
no_session k i e (c ∷ cs) l ds stale ok = ((λ s. none_accepted i e (told_by c l) (state_in l) _ (call_chain c l ok)), no_session k i e cs _ _ _ (stays_valid_lem c l ok))

pub no_exec_after_move : WatchClaim
no_exec_after_move cs l o i k = go (ltb i 16) refl
  where
    go : (b : Bool) → ltb i 16 ≡ b → NoStaleExec i k cs l closed_clients false
    go true p = no_stale k i (ltb-true i 16 p) cs l closed_clients false o.fit (opened_clients l o) (opened_late k i (ltb-true i 16 p) l o)
    go false p = no_session k i p cs l closed_clients false o.fit

-- the same by posting
pub no_exec_after_write : PostedWatchClaim
no_exec_after_write cs l o i k = go (ltb i 16) refl
  where
    go : (b : Bool) → ltb i 16 ≡ b → NoStalePosted i k (events cs (outcomes cs l)) closed_clients [] false
    go true p =
        let h = ltb-true i 16 p in
        no_stale_posted k i h (events cs (outcomes cs l)) (state_in l) _ closed_clients [] false (state_fit l o.fit) (opened_clients l o) (sym (opened_table l o)) (opened_late k i h l o) (lent_chain cs l o.fit)
    go false p = none_stale i p k (events cs (outcomes cs l)) closed_clients [] false (none_accepted i p (events cs (outcomes cs l)) (state_in l) _ (lent_chain cs l o.fit))

-- EACH ANSWER TO EXEC HAS ITS CAUSE
opened_tracks : (i : ℕ) → i < 16 → (l : Lent) → Opened l → Tracks i (state_in l) new_transaction
opened_tracks i inside l o =
    let s = session_at_lem l i inside ∙ o.sessions i inside in
    record { failed = ap (λ (x : Session). x.failed) s; free = λ n. ap (λ (x : Session). x.failed) s; tells = λ k. opened_late k i inside l o }

pub verdicts_caused : VerdictClaim
verdicts_caused cs l o i = go (ltb i 16) refl
  where
    go : (b : Bool) → ltb i 16 ≡ b → VerdictsPosted i (events cs (outcomes cs l)) closed_clients [] new_transaction
    go true p =
        let h = ltb-true i 16 p in
        verdicts_posted i h (events cs (outcomes cs l)) (state_in l) _ closed_clients [] new_transaction (state_fit l o.fit) (opened_clients l o) (sym (opened_table l o)) (opened_tracks i h l o) (lent_chain cs l o.fit)
    go false p = no_session_verdicts i p (events cs (outcomes cs l)) (state_in l) _ closed_clients [] new_transaction (lent_chain cs l o.fit)
