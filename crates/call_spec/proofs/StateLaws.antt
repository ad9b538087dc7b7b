-- LENT MEMORY AND THE STATE: what a call leaves is valid, and holds the state that its step gives. And the published calls are calls.
use Prim.Native.Nat.{ℕ, zero, suc, ◌+◌, ◌≤◌, ◌<◌}
use native.Mathlib.Omega.{arith}
use native.Mathlib.Decide.{ℕ_discrete}
use mathlib.Core.List.{List, [], ◌∷◌, map}
use mathlib.Core.Bool.{Bool, true, false, cond, ◌||◌}
use mathlib.Core.Path.{◌≡◌, refl, sym, ap, ◌∙◌, subst}
use lib.Dec.{ltb, eqb}
use lib.ListN.{length, get_or}
use lib.Seq.{get_or-set_same, ext_get_or}
use borrow.Author.Tests.{ltb-true, lt-ltb}
use Rattle.base_key.specs.Bytes.{Bytes}
use Rattle.base_key.proofs.Bytes.{and_left, and_both}
use Rattle.resp_spec.specs.Request.{read_request}
use Rattle.store_memtable.specs.Versions.{Store}
use Rattle.store_memtable.specs.Layout.{valid_store}
use Rattle.store_memtable.proofs.LayoutLaws.{store_back}
use Rattle.group_spec.specs.declared.Member.{Member}
use Rattle.group_spec.specs.Group.{group}
use Rattle.group_spec.specs.Members.{group_fits, pending_of}
use Rattle.command_spec.specs.Session.{Session, clear}
use Rattle.command_spec.specs.Finish as F
use Rattle.command_spec.proofs.SessionLaws.{SessionSound}
use Rattle.command_spec.proofs.LayoutLaws.{sixteen_valid, own_back, others_back, still_sixteen, sixteen_later}
use Rattle.call_spec.specs.Serve.{serve, State, session_in, with_store_of, with_session_of, answered, exec_previewed, Stepped, request_on, preview_on}
use Rattle.call_spec.specs.Calls.{Lent, valid, store_of, session_of, leave_store, leave_session, leave_served, Called, StoreCalled, refuses, judged, group_called, request_call, preview_call, group_call, Call, request, grouped, preview, group_on, step, outcomes_on, final_on, first_number, sessions_from, state_in, Touched, touched, leave_sessions, leave, call, outcomes, final}
use Rattle.call_spec.proofs.LentLaws.{valid_parts, session_good, store_valid, eqb_differs, request_served, request_refused}
use Rattle.call_spec.proofs.ServeLaws.{used_by, serve_kept, serve_used}
use Rattle.call_spec.proofs.CallLaws.{no_session, not_valid, served, preview_no_session, preview_not_valid, preview_valid, not_valid_store, not_fit, is_judged}
use Rattle.call_spec.proofs.MovedLaws.{LaterFrom}
use Rattle.call_spec.proofs.EventLaws.{bound, Fit}
use Rattle.call_spec.proofs.KindLaws.{Absent, Small, Touches}
use Rattle.call_spec.proofs.EveryKind.{kind}

-- the lent memory holds the state
pub record Represents (l : Lent) (st : State) : Type 0 where
  pub store : store_of l ≡ st.store
  pub sixteen : length st.sessions ≡ 16
  pub sessions : (i : ℕ) → i < 16 → session_of i l ≡ get_or st.sessions i clear

-- THE STATE THAT IS LENT
from_length : (n i : ℕ) (l : Lent) → length (sessions_from n i l) ≡ n
unfolding sessions_from
from_length zero i l = refl
from_length (suc n) i l = ap suc (from_length n (suc i) l)

from_at : (n i j : ℕ) (l : Lent) → j < n → get_or (sessions_from n i l) j clear ≡ session_of (i + j) l
unfolding sessions_from
from_at zero i j l h = absurd (omega arith)
from_at (suc n) i zero l h = let e : i ≡ i + 0 = omega arith in ap (λ (k : ℕ). session_of k l) e
from_at (suc n) i (suc j) l h = let e : suc i + j ≡ i + suc j = omega arith in from_at n (suc i) j l (omega arith) ∙ ap (λ (k : ℕ). session_of k l) e

pub session_at_lem : (l : Lent) (i : ℕ) → i < 16 → session_in i (state_in l) ≡ session_of i l
unfolding state_in
session_at_lem l i h = let e : 0 + i ≡ i = omega arith in from_at 16 0 i l h ∙ ap (λ (k : ℕ). session_of k l) e

pub store_at : (l : Lent) → (state_in l).store ≡ store_of l
unfolding state_in
store_at l = refl

pub state_sixteen : (l : Lent) → length (state_in l).sessions ≡ 16
unfolding state_in
state_sixteen l = from_length 16 0 l

pub state_is : (l : Lent) (p : State) → Represents l p → state_in l ≡ p
state_is l p r = λ z. record { store = (store_at l ∙ r.store) z; sessions = same z }
  where
    same : (state_in l).sessions ≡ p.sessions
    same =
        ext_get_or clear (state_in l).sessions p.sessions (state_sixteen l ∙ sym r.sixteen)
        (λ i h. session_at_lem l i (omega (arith, state_sixteen l, h)) ∙ r.sessions i (omega (arith, state_sixteen l, h)))

lent_state : (l : Lent) → Represents l (state_in l)
lent_state l = record { store = sym (store_at l); sixteen = state_sixteen l; sessions = λ i h. sym (session_at_lem l i h) }

pub state_fit : (l : Lent) → valid l ≡ true → Fit (state_in l)
state_fit l ok =
    let v = valid_parts l ok in
    record {
      sound = rw (store_at l) v.sound;
      sixteen = state_sixteen l;
      each = λ i h. rw (store_at l, session_at_lem l i h) (session_good l v i h);
    }

-- WHAT IS WRITTEN BACK. One session
pub record Held (l : Lent) (p : State) : Type 0 where
  pub fit : valid l ≡ true
  pub holds : Represents l p

module _ (i : ℕ) (h : i < 16) (l : Lent) (ok : valid l ≡ true) (s : Session) (good : SessionSound (store_of l).last s) where
  abbrev l₁ : Lent
  l₁ = leave_session i s l

  session_fit : valid l₁ ≡ true
  unfolding leave_session valid
  session_fit =
      and_both _ _ (and_left (valid_store l.words l.bytes) _ ok)
      (sixteen_valid _ _ _ (still_sixteen (store_of l).last l.session_words l.session_bytes (valid_parts l ok).sessions i h (store_of l).last (omega arith) s good))

  session_store : store_of l₁ ≡ store_of l
  unfolding leave_session
  session_store = refl

  session_own : session_of i l₁ ≡ s
  unfolding leave_session
  session_own = own_back (store_of l).last l.session_words l.session_bytes (valid_parts l ok).sessions i h (store_of l).last (omega arith) s good

  session_others : (j : ℕ) → j < 16 → (j ≡ i → ⊥) → session_of j l₁ ≡ session_of j l
  unfolding leave_session
  session_others j k z = others_back (store_of l).last l.session_words l.session_bytes (valid_parts l ok).sessions i h (store_of l).last (omega arith) s good j k z

-- several sessions, beside a store that is written
sessions_held : (is : List ℕ) (p : State) (l : Lent) → Fit p → valid l ≡ true → store_of l ≡ p.store → Small is
    → ((j : ℕ) → j < 16 → Absent j is → session_of j l ≡ session_in j p) → Held (leave_sessions is p l) p
unfolding leave_sessions
sessions_held [] p l fit ok e small f = record { fit = ok; holds = record { store = e; sixteen = fit.sixteen; sessions = λ i h. f i h tt } }
sessions_held (i ∷ is) p l fit ok e small f =
    let good : SessionSound (store_of l).last (session_in i p) = subst (λ (x : Store). SessionSound x.last (session_in i p)) (sym e) (fit.each i small.0) in
    sessions_held is p (leave_session i (session_in i p) l) fit (session_fit i small.0 l ok (session_in i p) good) (session_store i small.0 l ok (session_in i p) good ∙ e) small.1
    (λ j h a. which good j h a (ℕ_discrete j i))
  where
    which : SessionSound (store_of l).last (session_in i p) → (j : ℕ) → j < 16 → Absent j is → Dec (j ≡ i) → session_of j (leave_session i (session_in i p) l) ≡ session_in j p
    which good j h a (yes z) = rw z (session_own i small.0 l ok (session_in i p) good)
    which good j h a (no z) = session_others i small.0 l ok (session_in i p) good j h z ∙ f j h (z, a)

-- all that is touched
pub leave_held : (t : Touched) (l : Lent) (p : State) → valid l ≡ true → Fit p → LaterFrom (bound p) (store_of l) p.store → Touches t (state_in l) p → Held (leave t p l) p
unfolding leave
leave_held t l p ok fit a k = go t.store refl
  where
    same : (j : ℕ) → j < 16 → Absent j t.sessions → session_of j l ≡ session_in j p
    same j h n = sym (k.sessions j h n ∙ session_at_lem l j h)

    go : (b : Bool) → t.store ≡ b → Held (leave_sessions t.sessions p (cond b (leave_store p.store l) l)) p
    go false e = sessions_held t.sessions p l fit ok (sym (k.store e ∙ store_at l)) k.small same
    go true e =
        let v = valid_parts l ok in
        sessions_held t.sessions p (leave_store p.store l) fit
        (unfold leave_store in store_valid (bound p) l p.store l.session_words l.session_bytes v fit.sound a (sixteen_later _ _ a.lasts _ _ v.sessions))
        (unfold leave_store in store_back p.store l.words l.bytes) k.small (unfold leave_store in same)

-- ONE CALL
pub record Represented (d : Called) (s : Stepped) : Type 0 where
  pub outcome : d.outcome ≡ s.outcome
  pub state : state_in d.lent ≡ s.state
  pub fit : valid d.lent ≡ true

pub call_represents : (c : Call) (l : Lent) → valid l ≡ true → Represented (call c l) (step c (state_in l))
unfolding call state_in
call_represents c l ok = go (eqb (first_number c l) 0) refl
  where
    go : (b : Bool) → eqb (first_number c l) 0 ≡ b → Represented (call c l) (step c (state_in l))
    go false e = rw (e, call) (rw ((kind c).first l (state_in l) ok (eqb_differs (first_number c l) 0 e)) (record { outcome = refl; state = refl; fit = ok }))
    go true e =
        let w = (kind c).law (state_in l) (state_fit l ok) in
        let d = step c (state_in l) in
        let h = leave_held (touched c d.outcome.number) l d.state ok w.fit w.later w.touches in
        rw (e, call) (record { outcome = refl; state = state_is _ _ h.holds; fit = h.fit })

-- A LIST OF CALLS
pub record SameList (cs : List Call) (l : Lent) : Type 0 where
  pub answers : outcomes cs l ≡ outcomes_on cs (state_in l)
  pub state : state_in (final cs l) ≡ final_on cs (state_in l)
  pub fit : valid (final cs l) ≡ true

pub list_represents : (cs : List Call) (l : Lent) → valid l ≡ true → SameList cs l
unfolding outcomes final outcomes_on final_on
list_represents [] l ok = record { answers = refl; state = refl; fit = ok }
list_represents (c ∷ cs) l ok =
    let r = call_represents c l ok in
    let s = list_represents cs (call c l).lent r.fit in
    record {
      answers = λ z. r.outcome z ∷ (s.answers ∙ ap (outcomes_on cs) r.state) z;
      state = s.state ∙ ap (final_on cs) r.state;
      fit = s.fit;
    }

-- THE PUBLISHED CALLS. A call by its first number
module _ (c : Call) (l : Lent) where
  refused_first : (n : ℕ) → first_number c l ≡ n → eqb n 0 ≡ false → call c l ≡ refuses n l
  unfolding call
  refused_first n e z = rw (ap (λ (m : ℕ). eqb m 0) e ∙ z, call) (ap (λ (m : ℕ). refuses m l) e)

  stepped_first : first_number c l ≡ 0 → call c l ≡ (let d = step c (state_in l) in record { outcome = d.outcome; lent = leave (touched c d.outcome.number) d.state l })
  unfolding call
  stepped_first e = rw (e, call)

-- a request
module _ (i : ℕ) (s : Bytes) (places room : ℕ) (l : Lent) where
  abbrev d : F.Served
  d = serve places room s (store_of l) (session_of i l)

  abbrev q : State
  q = with_session_of i d.session (with_store_of d.store (state_in l))

  step_served : i < 16 → step (request i s places room) (state_in l) ≡ record { outcome = answered d; state = q }
  unfolding step request_on
  step_served h =
      let e : serve places room s (state_in l).store (session_in i (state_in l)) ≡ d = λ z. serve places room s (store_at l z) (session_at_lem l i h z) in
      rw (lt-ltb i 16 h, request_on) (λ z. record { outcome = answered (e z); state = with_session_of i (e z).session (with_store_of (e z).store (state_in l)) })

  left_served : i < 16 → leave (touched (request i s places room) d.number) q l ≡ leave_served i d l
  unfolding leave leave_sessions touched leave_served leave_store leave_session
  left_served h = go (eqb d.number 0) (eqb d.number 4)
    where
      own : session_in i q ≡ d.session
      own = get_or-set_same (state_in l).sessions i d.session clear (omega (arith, state_sixteen l, h))

      go : (a b : Bool) → leave_sessions (cond (a || b) (i ∷ []) []) q (cond a (leave_store d.store l) l)
          ≡ cond a (leave_store d.store (leave_session i d.session l)) (cond b (leave_session i d.session l) l)
      go true b = ap (λ (x : Session). leave_session i x (leave_store d.store l)) own
      go false true = ap (λ (x : Session). leave_session i x l) own
      go false false = refl

  first_is : (a b : Bool) → ltb i 16 ≡ a → valid l ≡ b → first_number (request i s places room) l ≡ cond a (cond b 0 9) 1
  unfolding first_number
  first_is a b e f = λ z. cond (e z) (cond (f z) 0 9) 1

  pub request_is : call (request i s places room) l ≡ request_call i s places room l
  request_is = go (ltb i 16) refl (valid l) refl
    where
      go : (a : Bool) → ltb i 16 ≡ a → (b : Bool) → valid l ≡ b → call (request i s places room) l ≡ request_call i s places room l
      go false e b f = refused_first (request i s places room) l 1 (first_is false b e f) refl ∙ sym (no_session i s places room l e)
      go true e false f = refused_first (request i s places room) l 9 (first_is true false e f) refl ∙ sym (not_valid i s places room l e f)
      go true e true f =
          let h = ltb-true i 16 e in
          stepped_first (request i s places room) l (first_is true true e f)
          ∙ ap (λ (x : Stepped). record { outcome = x.outcome; lent = leave (touched (request i s places room) x.outcome.number) x.state l }) (step_served h)
          ∙ ap (λ (x : Lent). record { outcome = answered d; lent = x }) (left_served h)
          ∙ sym (served i s places room l e f)

-- a preview
module _ (i room : ℕ) (l : Lent) where
  first_preview : (a b : Bool) → ltb i 16 ≡ a → valid l ≡ b → first_number (preview i room) l ≡ cond a (cond b 0 9) 1
  unfolding first_number
  first_preview a b e f = λ z. cond (e z) (cond (f z) 0 9) 1

  step_previewed : i < 16 → step (preview i room) (state_in l) ≡ record { outcome = exec_previewed room (store_of l) (session_of i l); state = state_in l }
  unfolding step preview_on
  step_previewed h =
      rw (lt-ltb i 16 h)
      (λ z. record { outcome = exec_previewed room (store_at l z) (session_at_lem l i h z); state = state_in l })

  pub preview_is_lem : call (preview i room) l ≡ preview_call i room l
  unfolding leave leave_sessions touched
  preview_is_lem = go (ltb i 16) refl (valid l) refl
    where
      go : (a : Bool) → ltb i 16 ≡ a → (b : Bool) → valid l ≡ b → call (preview i room) l ≡ preview_call i room l
      go false e b f = refused_first (preview i room) l 1 (first_preview false b e f) refl ∙ sym (preview_no_session i room l e)
      go true e false f = refused_first (preview i room) l 9 (first_preview true false e f) refl ∙ sym (preview_not_valid i room l e f)
      go true e true f =
          stepped_first (preview i room) l (first_preview true true e f)
          ∙ ap (λ (x : Stepped). record { outcome = x.outcome; lent = leave (touched (preview i room) x.outcome.number) x.state l }) (step_previewed (ltb-true i 16 e))
          ∙ sym (preview_valid i room l e f)

-- a group
module _ (ms : List Member) (parts : List ℕ) (text v : Bytes) (l : Lent) where
  first_group : (a b : Bool) → valid_store l.words l.bytes ≡ a → group_fits parts text ms v ≡ b → first_number (grouped ms parts text v) l ≡ cond a (cond b 0 8) 9
  unfolding first_number
  first_group a b e f = λ z. cond (e z) (cond (f z) 0 8) 9

  step_judged : group_fits parts text ms v ≡ true → step (grouped ms parts text v) (state_in l)
      ≡ (let g = group (map (pending_of parts text) ms) (store_of l) in record { outcome = judged g; state = with_store_of g.store (state_in l) })
  unfolding step group_on state_in
  step_judged f = rw (f, group_on)

  pub group_is : call (grouped ms parts text v) l ≡ group_called l (group_call ms parts text v l.words l.bytes)
  unfolding leave leave_sessions touched leave_store
  group_is = go (valid_store l.words l.bytes) refl (group_fits parts text ms v) refl
    where
      go : (a : Bool) → valid_store l.words l.bytes ≡ a → (b : Bool) → group_fits parts text ms v ≡ b
          → call (grouped ms parts text v) l ≡ group_called l (group_call ms parts text v l.words l.bytes)
      go false e b f = refused_first (grouped ms parts text v) l 9 (first_group false b e f) refl ∙ ap (group_called l) (sym (not_valid_store ms parts text v l.words l.bytes e))
      go true e false f = refused_first (grouped ms parts text v) l 8 (first_group true false e f) refl ∙ ap (group_called l) (sym (not_fit ms parts text v l.words l.bytes e f))
      go true e true f =
          stepped_first (grouped ms parts text v) l (first_group true true e f)
          ∙ ap (λ (x : Stepped). record { outcome = x.outcome; lent = leave (touched (grouped ms parts text v) x.outcome.number) x.state l }) (step_judged f)
          ∙ ap (group_called l) (sym (is_judged ms parts text v l.words l.bytes e f))

-- On valid state no call returns 9: a request returns 0 to 7, and a group 0 or 8.
pub request_number_lem : (i : ℕ) (input : Bytes) (places room : ℕ) (l : Lent) → valid l ≡ true → (call (request i input places room) l).outcome.number ≤ 7
request_number_lem i input places room l ok = rw (request_is i input places room l) (go (ltb i 16) refl)
  where
    go : (b : Bool) → ltb i 16 ≡ b → (request_call i input places room l).outcome.number ≤ 7
    go true p =
        let h = ltb-true i 16 p in
        let v = valid_parts l ok in
        rw (request_served i input places room l h ok) (serve_kept (store_of l) (session_of i l) v.sound (session_good l v i h) places room input).small
    go false p = rw (request_refused i input places room l p) (omega arith)

-- a request uses the bytes that were read as one, whatever the state
pub request_used : (i : ℕ) (input : Bytes) (places room : ℕ) (l : Lent) → i < 16 → valid l ≡ true → (call (request i input places room) l).outcome.number ≡ 0
    → (call (request i input places room) l).outcome.used ≡ used_by input (read_request places input)
request_used i input places room l h ok e =
    let v = valid_parts l ok in
    let s = request_is i input places room l ∙ request_served i input places room l h ok in
    ap (λ (x : Called). x.outcome.used) s
    ∙ serve_used (store_of l) (session_of i l) v.sound (session_good l v i h) places room input (ap (λ (x : Called). x.outcome.number) (sym s) ∙ e)

pub group_number_lem : (ms : List Member) (parts : List ℕ) (text verdicts : Bytes) (l : Lent) → valid l ≡ true
    → (call (grouped ms parts text verdicts) l).outcome.number ≡ cond (group_fits parts text ms verdicts) 0 8
unfolding valid
group_number_lem ms parts text verdicts l ok = ap (λ (x : Called). x.outcome.number) (group_is ms parts text verdicts l) ∙ go (group_fits parts text ms verdicts) refl
  where
    fits : valid_store l.words l.bytes ≡ true
    fits = and_left (valid_store l.words l.bytes) _ ok

    go : (b : Bool) → group_fits parts text ms verdicts ≡ b → (group_call ms parts text verdicts l.words l.bytes).outcome.number ≡ cond b 0 8
    go true p = ap (λ (x : StoreCalled). x.outcome.number) (is_judged ms parts text verdicts l.words l.bytes fits p)
    go false p = ap (λ (x : StoreCalled). x.outcome.number) (not_fit ms parts text verdicts l.words l.bytes fits p)

-- a request on lent memory and on a state that it holds
pub record SameStep (c : Called) (s : Stepped) : Type 0 where
  pub outcome : c.outcome ≡ s.outcome
  pub state : Represents c.lent s.state

pub request_same : (i : ℕ) (input : Bytes) (places room : ℕ) (l : Lent) (st : State) → valid l ≡ true → Represents l st → SameStep (request_call i input places room l) (request_on i input places room st)
unfolding step
request_same i input places room l st ok r =
    let c = call_represents (request i input places room) l ok in
    let e = sym (request_is i input places room l) in
    let on = ap (request_on i input places room) (state_is l st r) in
    record {
      outcome = ap (λ (x : Called). x.outcome) e ∙ c.outcome ∙ ap (λ (x : Stepped). x.outcome) on;
      state = subst (Represents (request_call i input places room l).lent) (ap (λ (x : Called). state_in x.lent) e ∙ c.state ∙ ap (λ (x : Stepped). x.state) on) (lent_state _);
    }
