-- What one session has queued or watched alters no answer to another, over lists of calls; and no call returns 9 from an opened store on.
-- No kind of call is named here.
use Prim.Native.Nat.{ℕ, ◌<◌}
use mathlib.Core.Bool.{Bool, true, false, false≢true}
use mathlib.Core.List.{List, [], ◌∷◌, ◌++◌}
use Rattle.std.specs.Prelude.{None}
use mathlib.Core.Path.{◌≡◌, refl, sym, ap, ◌∙◌, subst}
use Rattle.command_spec.specs.Session.{Session}
use Rattle.call_spec.specs.Serve.{State, session_in, Outcome}
use Rattle.call_spec.specs.Calls.{Lent, valid, store_of, session_of, Call, step, state_in, call, outcomes, final}
use Rattle.call_spec.specs.Posting.{Event, told, events, Item, Client, enter_all, closed_clients}
use Rattle.call_spec.specs.Demand3.{Opened, told_by, posted_by, clients_after, QuietClaim, is_of, without, to_others, PostsNothing, SameBut, Unaltered, IsolationClaim, any_item, is_kept, kept_calls, kept_outcomes, NoneAccepted, UnalteredUntilExec, UntilExecClaim, NoNine, ValidClaim}
use Rattle.call_spec.proofs.EventLaws.{Clients}
use Rattle.call_spec.proofs.KindLaws.{SameOn, SameOnBoth}
use Rattle.call_spec.proofs.EveryKind.{kind}
use Rattle.call_spec.proofs.StateLaws.{session_at_lem, store_at, state_fit, call_represents}
use Rattle.call_spec.proofs.Posting.{call_follows, opened_clients, stays_valid_lem}

-- WHAT A LIST OF CALLS LEAVES is valid, and posting's clients mirror it.
record Reached (l : Lent) (ds : List Client) : Type 0 where
  fit : valid l ≡ true
  clients : Clients (state_in l) ds

reach : (cs : List Call) (l : Lent) (ds : List Client) → Reached l ds → Reached (final cs l) (clients_after cs l ds)
unfolding final clients_after
reach [] l ds r = r
reach (c ∷ cs) l ds r = reach cs (call c l).lent _ (record { fit = stays_valid_lem c l r.fit; clients = (call_follows c l r.fit ds r.clients).clients })

reached : (cs : List Call) (l : Lent) → Opened l → Reached (final cs l) (clients_after cs l closed_clients)
reached cs l o = reach cs l closed_clients (record { fit = o.fit; clients = opened_clients l o })

-- a call that posts nothing
posts_nothing : (c : Call) (l : Lent) (ds : List Client) → valid l ≡ true → Clients (state_in l) ds → posted_by c l ds ≡ [] → store_of (call c l).lent ≡ store_of l
posts_nothing c l ds ok g n = sym (store_at (call c l).lent) ∙ (call_follows c l ok ds g).quiet n ∙ store_at l

pub quiet_leaves : QuietClaim
quiet_leaves before l o c = let r = reached before l o in posts_nothing c (final before l) (clients_after before l closed_clients) r.fit r.clients

-- ON LENT MEMORY and on the state it holds
on_state : (i : ℕ) (l m : Lent) → SameBut i l m → SameOn i (state_in l) (state_in m)
on_state i l m s = record {
  store = store_at l ∙ s.store ∙ sym (store_at m);
  sessions = λ j h z. session_at_lem l j h ∙ s.sessions j h z ∙ sym (session_at_lem m j h);
}

on_lent : (i : ℕ) (l m : Lent) → SameOn i (state_in l) (state_in m) → SameBut i l m
on_lent i l m s = record {
  store = sym (store_at l) ∙ s.store ∙ store_at m;
  sessions = λ j h z. sym (session_at_lem l j h) ∙ s.sessions j h z ∙ session_at_lem m j h;
}

-- ONE CALL on two states that differ in session i alone
record SameCall (i : ℕ) (c : Call) (l m : Lent) : Type 0 where
  answer : (call c l).outcome ≡ (call c m).outcome
  left : SameBut i (call c l).lent (call c m).lent

-- session i of `m` is outside MULTI
abbrev Outside : ℕ → Lent → Type 0
Outside i m = i < 16 → (session_of i m).queue ≡ None

module _ (i : ℕ) (c : Call) (l m : Lent) (p : valid l ≡ true) (q : valid m ≡ true) where
  lent_same : SameOnBoth i (step c (state_in l)) (step c (state_in m)) → SameCall i c l m
  lent_same s =
      let a = call_represents c l p in
      let b = call_represents c m q in
      record {
        answer = a.outcome ∙ s.answer ∙ sym b.outcome;
        left = on_lent i (call c l).lent (call c m).lent (rw (a.state, b.state) s.left);
      }

  lent_outside : (i < 16 → (session_in i (step c (state_in m)).state).queue ≡ None) → Outside i (call c m).lent
  lent_outside f h =
      ap (λ (x : Session). x.queue) (sym (session_at_lem (call c m).lent i h)) ∙ ap (λ (x : State). (session_in i x).queue) (call_represents c m q).state ∙ f h

-- a call of session i that posts nothing
own_quiet : (i : ℕ) (c : Call) (l m : Lent) (ds : List Client) → valid l ≡ true → Clients (state_in l) ds → is_of i c ≡ true → posted_by c l ds ≡ [] → SameBut i l m → SameBut i (call c l).lent m
own_quiet i c l m ds p g e n same = record {
  store = posts_nothing c l ds p g n ∙ same.store;
  sessions = λ k h z.
      sym (session_at_lem (call c l).lent k h) ∙ ap (session_in k) (call_represents c l p).state ∙ ((kind c).law (state_in l) (state_fit l p)).own i k e h z
      ∙ session_at_lem l k h ∙ same.sessions k h z;
}

unaltered : (i : ℕ) (cs : List Call) (l m : Lent) (ds : List Client) → valid l ≡ true → valid m ≡ true → Clients (state_in l) ds → SameBut i l m → PostsNothing i cs l ds → Unaltered i cs l m
unfolding outcomes final without to_others
unaltered i [] l m ds p q g same h = record { answers = refl; left = same }
unaltered i (c ∷ cs) l m ds p q g same h = go (is_of i c) refl (λ l' m' ds' x y z w v. unaltered i cs l' m' ds' x y z w v)
  where
    go : (b : Bool) → is_of i c ≡ b
        → ((l' m' : Lent) (ds' : List Client) → valid l' ≡ true → valid m' ≡ true → Clients (state_in l') ds' → SameBut i l' m' → PostsNothing i cs l' ds' → Unaltered i cs l' m')
        → Unaltered i (c ∷ cs) l m
    go true e later =
        let f = call_follows c l p ds g in
        let rest = later (call c l).lent m _ (stays_valid_lem c l p) q f.clients (own_quiet i c l m ds p g e (h.0 e) same) h.1 in
        record { answers = rw e rest.answers; left = rw e rest.left }
    go false e later =
        let f = call_follows c l p ds g in
        let s = lent_same i c l m p q ((kind c).other i (state_in l) (state_in m) (state_fit l p) (state_fit m q) (on_state i l m same) e) in
        let rest = later (call c l).lent (call c m).lent _ (stays_valid_lem c l p) (stays_valid_lem c m q) f.clients s.left h.1 in
        record { answers = rw e (λ z. s.answer z ∷ rest.answers z); left = rw e rest.left }

pub isolation : IsolationClaim
isolation before cs l m i o q same h =
    let r = reached before l o in
    unaltered i cs (final before l) m (clients_after before l closed_clients) r.fit q r.clients same h

-- UNTIL ITS EXEC IS ACCEPTED a request of session i posts nothing, or is a command outside MULTI.
no_items : (xs : List Item) → any_item xs ≡ false → xs ≡ []
no_items [] e = refl
no_items (x ∷ xs) e = absurd (false≢true (sym e))

-- a call on two states that differ in session i alone, which the second leaves outside MULTI
record KeptCall (i : ℕ) (c : Call) (l m : Lent) : Type 0 where
  same : SameCall i c l m
  outside : Outside i (call c m).lent

module _ (i : ℕ) (c : Call) (l m : Lent) (ds : List Client) (p : valid l ≡ true) (q : valid m ≡ true) (g : Clients (state_in l) ds) (same : SameBut i l m) (free : Outside i m) where
  free_on : i < 16 → (session_in i (state_in m)).queue ≡ None
  free_on h = ap (λ (x : Session). x.queue) (session_at_lem m i h) ∙ free h

  other_kept : is_of i c ≡ false → KeptCall i c l m
  other_kept e = record {
    same = lent_same i c l m p q ((kind c).other i (state_in l) (state_in m) (state_fit l p) (state_fit m q) (on_state i l m same) e);
    outside = lent_outside i c l m p q (λ h. ((kind c).law (state_in m) (state_fit m q)).outside i h e (free_on h));
  }

  own_call : is_of i c ≡ true → any_item (posted_by c l ds) ≡ true → NoneAccepted i (told_by c l) → KeptCall i c l m
  own_call e x n =
      let a = call_represents c l p in
      let k = (kind c).own i (state_in l) (state_in m) ds (state_fit l p) (state_fit m q) g (on_state i l m same) free_on e
      (subst (λ (o : Outcome). any_item (enter_all (told c o) ds).items ≡ true) a.outcome x) (subst (λ (o : Outcome). NoneAccepted i (told c o)) a.outcome n) in
      record { same = lent_same i c l m p q k.same; outside = lent_outside i c l m p q k.outside }

-- the events of a call, and of the rest
none_parts : (i : ℕ) (c : Call) (cs : List Call) (o : Outcome) (os : List Outcome) → NoneAccepted i (events (c ∷ cs) (o ∷ os)) → NoneAccepted i (told c o) × NoneAccepted i (events cs os)
unfolding events
none_parts i c cs o os n = split (told c o) n
  where
    split : (es : List Event) → NoneAccepted i (es ++ events cs os) → NoneAccepted i es × NoneAccepted i (events cs os)
    split [] n = (tt, n)
    split (e ∷ es) n = let r = split es n.1 in ((n.0, r.0), r.1)

until_exec_lem : (i : ℕ) (cs : List Call) (l m : Lent) (ds : List Client) → valid l ≡ true → valid m ≡ true → Clients (state_in l) ds → SameBut i l m → Outside i m → NoneAccepted i (events cs (outcomes cs l))
    → UnalteredUntilExec i cs ds l m
unfolding outcomes final kept_calls kept_outcomes
until_exec_lem i [] l m ds p q g same free h = record { answers = refl; left = same }
until_exec_lem i (c ∷ cs) l m ds p q g same free h = go (is_of i c) refl (any_item (posted_by c l ds)) refl (λ l' m' ds' x y z w u v. until_exec_lem i cs l' m' ds' x y z w u v)
  where
    parts : NoneAccepted i (told_by c l) × NoneAccepted i (events cs (outcomes cs (call c l).lent))
    parts = none_parts i c cs (call c l).outcome (outcomes cs (call c l).lent) h

    Later : Type 0
    Later = (l' m' : Lent) (ds' : List Client) → valid l' ≡ true → valid m' ≡ true → Clients (state_in l') ds' → SameBut i l' m' → Outside i m' → NoneAccepted i (events cs (outcomes cs l')) → UnalteredUntilExec i cs ds' l' m'

    -- a call that is kept
    kept : KeptCall i c l m → is_kept i c (posted_by c l ds) ≡ true → Later → UnalteredUntilExec i (c ∷ cs) ds l m
    kept k e later =
        let f = call_follows c l p ds g in
        let rest = later (call c l).lent (call c m).lent _ (stays_valid_lem c l p) (stays_valid_lem c m q) f.clients k.same.left k.outside parts.1 in
        record { answers = rw e (λ z. k.same.answer z ∷ rest.answers z); left = rw e rest.left }

    go : (b : Bool) → is_of i c ≡ b → (t : Bool) → any_item (posted_by c l ds) ≡ t → Later → UnalteredUntilExec i (c ∷ cs) ds l m
    go false e t x later = kept (other_kept i c l m ds p q g same free e) (rw e) later
    go true e true x later = kept (own_call i c l m ds p q g same free e x parts.0) (rw (e, x)) later
    go true e false x later =
        let f = call_follows c l p ds g in
        let rest = later (call c l).lent m _ (stays_valid_lem c l p) q f.clients (own_quiet i c l m ds p g e (no_items _ x) same) free parts.1 in
        record { answers = rw (e, x) rest.answers; left = rw (e, x) rest.left }

pub isolation_until_exec : UntilExecClaim
isolation_until_exec before cs l m i o q same free h =
    let r = reached before l o in
    until_exec_lem i cs (final before l) m (clients_after before l closed_clients) r.fit q r.clients same (λ k. free) h

-- NO CALL RETURNS 9.
not_nine : (c : Call) (l : Lent) → valid l ≡ true → (call c l).outcome.number ≡ 9 → ⊥
not_nine c l p e = ((kind c).law (state_in l) (state_fit l p)).not_nine (ap (λ (o : Outcome). o.number) (sym (call_represents c l p).outcome) ∙ e)

no_nine : (cs : List Call) (l : Lent) → valid l ≡ true → (valid (final cs l) ≡ true) × NoNine (outcomes cs l)
unfolding final outcomes
no_nine [] l p = (p, tt)
no_nine (c ∷ cs) l p = let rest = no_nine cs (call c l).lent (stays_valid_lem c l p) in (rest.0, (not_nine c l p, rest.1))

pub always_valid : ValidClaim
always_valid cs l o = no_nine cs l o.fit
