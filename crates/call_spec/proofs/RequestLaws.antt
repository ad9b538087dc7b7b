-- THE LAWS OF A REQUEST.
use Prim.Native.Nat.{ℕ, ◌<◌}
use native.Mathlib.Omega.{arith}
use native.Mathlib.Decide.{ℕ_discrete}
use mathlib.Core.Logic.{⊎_elim}
use mathlib.Core.List.{List, [], ◌∷◌, append-nil}
use mathlib.Core.Bool.{Bool, true, false, cond, ◌||◌, false≢true}
use Rattle.std.specs.Prelude.{Option, None, Some}
use mathlib.Core.Path.{◌≡◌, refl, sym, ap, ◌∙◌, subst}
use lib.Dec.{ltb, eqb}
use lib.ListN.{get_or, length-set}
use lib.Seq.{get_or-set_same, get_or-set_other}
use borrow.Author.Tests.{ltb-true, lt-ltb, eqb-true}
use Rattle.base_key.specs.Bytes.{Bytes}
use Rattle.base_key.proofs.Bytes.{neither}
use Rattle.resp_spec.specs.Request.{read_request}
use Rattle.store_memtable.specs.Versions.{Store}
use Rattle.store_memtable.proofs.VersionLaws.{later_refl}
use Rattle.command_spec.specs.Names.{Args}
use Rattle.command_spec.specs.Session.{Session, clear, any_moved}
use Rattle.command_spec.proofs.SessionLaws.{SessionSound, session_later}
use Rattle.command_spec.specs.Finish.{Served}
use Rattle.call_spec.specs.Serve.{serve, State, session_in, with_store_of, with_session_of, Outcome, refused, outcome_of, answered, Stepped, request_on}
use Rattle.call_spec.specs.Calls.{Lent, valid, Call, request, step, first_number, touched}
use Rattle.call_spec.specs.Posting.{Asked, asked_by, asked, told, Item, Client, closed, enter, enter_all}
use Rattle.call_spec.specs.Demand3.{Accepts, NoneAccepted, asks_command, any_item}
use Rattle.call_spec.proofs.ServeLaws.{ServeKept, serve_kept, serve_follows}
use Rattle.call_spec.specs.Captures.{SilentOrReply, no_reply}
use Rattle.call_spec.proofs.AnswerLaws.{served_answers}
use Rattle.call_spec.proofs.LentLaws.{eqb_differs}
use Rattle.call_spec.proofs.MovedLaws.{later_from}
use Rattle.call_spec.proofs.MarkLaws.{serve_marks}
use Rattle.call_spec.proofs.IsolationLaws.{served_for, serve_alike}
use Rattle.call_spec.proofs.QuietLaws.{asked_inside, asked_outside, number_entered}
use Rattle.call_spec.proofs.EventLaws.{bound, Fit, AskedLaw, ended, after, Clients}
use Rattle.call_spec.proofs.WatchLaws.{serve_fresh, watch_in, happens_keeps_watch}
use Rattle.call_spec.proofs.VerdictLaws.{serve_due}
use Rattle.call_spec.proofs.KindLaws.{Touches, Law, unmoved, SameOn, SameOnBoth, KeptStep, EachAnswered, Kind}

-- WHAT IT LEAVES AND TELLS
module _ (i : ℕ) (s : Bytes) (places room : ℕ) (p : State) (fit : Fit p) where
  -- of a session above 15
  module _ (h : ltb i 16 ≡ false) where
    unserved : AskedLaw i (asked_by s (read_request places s)) 1 [] p p
    unserved = record {
      later = later_from (bound p) (later_refl p.store);
      others = λ j k z. refl;
      own = λ k. absurd (neither (lt-ltb i 16 k) h);
      none = λ e. (refl, refl);
    }

    no_session : Law (request i s places room) p (record { outcome = refused 1; state = p })
    unfolding told touched
    no_session =
        unmoved (request i s places room) p (refused 1) fit (after unserved fit ended) tt (λ z. omega arith)
        (λ j k e. (λ a. neither (lt-ltb j 16 k) (ap (λ (m : ℕ). ltb m 16) (sym a.0) ∙ h), tt))

  module _ (h : i < 16) where
    abbrev d : Served
    d = serve places room s p.store (session_in i p)

    abbrev q : State
    q = with_session_of i d.session (with_store_of d.store p)

    kept : ServeKept p.store (session_in i p) (serve places room s p.store (session_in i p))
    kept = serve_kept p.store (session_in i p) fit.sound (fit.each i h) places room s

    own_is : session_in i q ≡ d.session
    own_is = get_or-set_same p.sessions i d.session clear (omega (arith, fit.sixteen, h))

    other_is : (j : ℕ) → (j ≡ i → ⊥) → session_in j q ≡ session_in j p
    other_is j z = get_or-set_other p.sessions i j d.session clear z

    asks_it : AskedLaw i (asked_by s (read_request places s)) d.number d.reply p q
    asks_it = record {
      later = later_from (bound q) kept.store.later;
      others = λ j k z. other_is j z;
      own = λ k. rw own_is (record {
        numbers = λ z. let n = kept.numbers z in (n.0, n.2, n.3);
        follows = λ z d m. serve_follows p.store (session_in i p) fit.sound (fit.each i h) d m places room s z;
        watch = kept.watch;
        marks = λ free. serve_marks p.store (session_in i p) fit.sound (fit.each i h) free places room s;
        due = λ e u o d m stale t. serve_due p.store (session_in i p) fit.sound (fit.each i h) d m stale t u places room s o e;
        fresh = λ e a. serve_fresh p.store (session_in i p) places room s e a;
      });
      none = λ e. absurd (neither (lt-ltb i 16 h) e);
    }

    left_fit : Fit q
    left_fit = record {
      sound = kept.store.sound;
      sixteen = length-set p.sessions i d.session ∙ fit.sixteen;
      each = λ j k. which j k (ℕ_discrete j i);
    }
      where
        which : (j : ℕ) → j < 16 → Dec (j ≡ i) → SessionSound d.store.last (session_in j q)
        which j k (yes e) = rw (e, own_is) kept.session
        which j k (no z) = rw (other_is j z) (session_later _ _ (session_in j p) kept.store.later.lasts (fit.each j k))

    request_touches : Touches (touched (request i s places room) d.number) p q
    unfolding touched
    request_touches = go (eqb d.number 0) refl (eqb d.number 4) refl
      where
        go : (a : Bool) → eqb d.number 0 ≡ a → (b : Bool) → eqb d.number 4 ≡ b → Touches (record { store = a; sessions = cond (a || b) (i ∷ []) [] }) p q
        go true e b f = record { store = λ z. absurd (false≢true (sym z)); sessions = λ j k n. other_is j n.0; small = (h, tt) }
        go false e true f = record { store = λ z. (kept.numbers (eqb_differs _ _ e)).0; sessions = λ j k n. other_is j n.0; small = (h, tt) }
        go false e false f =
            let n = kept.numbers (eqb_differs _ _ e) in
            let same : d.session ≡ session_in i p = ⊎_elim (λ (z : d.number ≡ 4). absurd (eqb_differs _ _ f z)) (λ (z : d.session ≡ session_in i p). z) n.1 in
            record { store = λ z. n.0; sessions = λ j k m. each same j (ℕ_discrete j i); small = tt }
          where
            each : d.session ≡ session_in i p → (j : ℕ) → Dec (j ≡ i) → session_in j q ≡ session_in j p
            each same j (yes z) = rw z (own_is ∙ same)
            each same j (no z) = other_is j z

    served_law : Law (request i s places room) p (record { outcome = answered d; state = q })
    unfolding told
    served_law = record {
      fit = left_fit;
      later = later_from (bound q) kept.store.later;
      chain = after asks_it left_fit ended;
      touches = request_touches;
      not_nine = λ z. omega (arith, kept.small, z);
      watch = λ j k. happens_keeps_watch j k (asked i (asked_by s (read_request places s)) d.number d.reply) p q fit asks_it;
      stale = λ j k e. (λ a. neither e (subst (λ (m : ℕ). any_moved p.store.versions (watch_in m p) ≡ false) a.0 ((asks_it.own h).fresh a.2 a.3)), tt);
      own = λ j k e l z. other_is k (λ y. z (y ∙ eqb-true i j e));
      outside = λ j k e n. ap (λ (y : Session). y.queue) (other_is j (λ y. eqb_differs i j e (sym y))) ∙ n;
    }

  pub request_law : Law (request i s places room) p (request_on i s places room p)
  unfolding request_on
  request_law = go (ltb i 16) refl
    where
      go : (b : Bool) → ltb i 16 ≡ b → Law (request i s places room) p (request_on i s places room p)
      go true e = rw (e, request_on) (served_law (ltb-true i 16 e))
      go false e = rw (e, request_on) (no_session e)

-- what it tells
request_numbers : (i : ℕ) (s : Bytes) (places room : ℕ) (o : Outcome) (ds : List Client) → (o.number ≡ 0 → ⊥) → (enter_all (told (request i s places room) o) ds).items ≡ []
unfolding enter_all told
request_numbers i s places room o ds h = rw (number_entered i (asked_by s (read_request places s)) o.number o.reply ds h)

request_fed : (i : ℕ) (s : Bytes) (places room : ℕ) (o p : Outcome) → o.number ≡ p.number → o.reply ≡ p.reply → told (request i s places room) o ≡ told (request i s places room) p
unfolding told
request_fed i s places room o p n r = λ z. told (request i s places room) (outcome_of (n z) 0 (r z) [] 0)

-- a request on the state, by the test of its session
module _ (i : ℕ) (s : Bytes) (places room : ℕ) (p : State) where
  abbrev pub served_on : Stepped
  served_on =
      let d = serve places room s p.store (session_in i p) in
      record { outcome = answered d; state = with_session_of i d.session (with_store_of d.store p) }

  pub served_on_lem : i < 16 → request_on i s places room p ≡ served_on
  unfolding request_on
  served_on_lem h = rw (lt-ltb i 16 h, request_on)

  pub refused_on : ltb i 16 ≡ false → request_on i s places room p ≡ record { outcome = refused 1; state = p }
  unfolding request_on
  refused_on e = rw (e, request_on)

  own_on : i < 16 → Fit p → session_in i served_on.state ≡ (serve places room s p.store (session_in i p)).session
  own_on h fit = get_or-set_same p.sessions i _ clear (omega (arith, fit.sixteen, h))

  other_on : (j : ℕ) → (j ≡ i → ⊥) → session_in j served_on.state ≡ session_in j p
  other_on j z = get_or-set_other p.sessions i j _ clear z

  request_answers_lem : SilentOrReply (request_on i s places room p).outcome.reply
  request_answers_lem = go (ltb i 16) refl
    where
      go : (b : Bool) → ltb i 16 ≡ b → SilentOrReply (request_on i s places room p).outcome.reply
      go false e = rw (refused_on e) no_reply
      go true e = rw (served_on_lem (ltb-true i 16 e)) (served_answers places room s p.store (session_in i p))

module _ (i : ℕ) (p q : State) (fit : Fit p) (fit' : Fit q) (same : SameOn i p q) where
  -- a request of another session
  request_same : (j : ℕ) (s : Bytes) (places room : ℕ) → (j ≡ i → ⊥) → SameOnBoth i (request_on j s places room p) (request_on j s places room q)
  request_same j s places room n = go (ltb j 16) refl
    where
      go : (b : Bool) → ltb j 16 ≡ b → SameOnBoth i (request_on j s places room p) (request_on j s places room q)
      go false e = rw (refused_on j s places room p e, refused_on j s places room q e) (record { answer = refl; left = same })
      go true e = rw (served_on_lem j s places room p h, served_on_lem j s places room q h) (record {
        answer = ap answered alike;
        left = record { store = ap (λ (x : Served). x.store) alike; sessions = λ k l z. which k l z (ℕ_discrete k j) };
      })
        where
          h : j < 16
          h = ltb-true j 16 e

          alike : serve places room s p.store (session_in j p) ≡ serve places room s q.store (session_in j q)
          alike = λ z. serve places room s (same.store z) (same.sessions j (ltb-true j 16 e) n z)

          which : (k : ℕ) → k < 16 → (k ≡ i → ⊥) → Dec (k ≡ j) → session_in k (served_on j s places room p).state ≡ session_in k (served_on j s places room q).state
          which k l z (yes x) =
              ap (λ (m : ℕ). session_in m (served_on j s places room p).state) x ∙ own_on j s places room p h fit ∙ ap (λ (y : Served). y.session) alike
              ∙ sym (ap (λ (m : ℕ). session_in m (served_on j s places room q).state) x ∙ own_on j s places room q h fit')
          which k l z (no x) = other_on j s places room p k x ∙ same.sessions k l z ∙ sym (other_on j s places room q k x)

-- ITS OWN COMMANDS. What posts and is no accepted EXEC is a command outside MULTI
items_posted : {A : Type 0} (xs : List Item) → any_item xs ≡ true → xs ≡ [] → A
items_posted xs p e = neither p (ap any_item e)

record Commands (i : ℕ) (x : Asked) (ds : List Client) : Type 0 where
  queue : (get_or ds i closed).queue ≡ None
  command : asks_command x ≡ true

own_commands : (i : ℕ) (x : Asked) (n : ℕ) (b : Bytes) (ds : List Client) → any_item (enter (asked i x n b) ds).items ≡ true → (Accepts i (asked i x n b) → ⊥) → Commands i x ds
own_commands i x m b ds p n = go (get_or ds i closed).queue refl (asks_command x) refl
  where
    go : (q : Option (List Args)) → (get_or ds i closed).queue ≡ q → (t : Bool) → asks_command x ≡ t → Commands i x ds
    go (Some q) e t c = items_posted _ p (asked_inside i x m b ds q e n)
    go None e true c = record { queue = e; command = c }
    go None e false c = items_posted _ p (asked_outside i x m b ds e c)

module _ (i : ℕ) (p q : State) (ds : List Client) (fit : Fit p) (fit' : Fit q) (g : Clients p ds) (same : SameOn i p q) (free : i < 16 → (session_in i q).queue ≡ None) where
  command_kept : (s : Bytes) (places room : ℕ) (h : i < 16) → Commands i (asked_by s (read_request places s)) ds → KeptStep i (served_on i s places room p) (served_on i s places room q)
  command_kept s places room h c =
      let alike : serve places room s p.store (session_in i p) ≡ served_for (session_in i p) (serve places room s q.store (session_in i q)) =
      serve_alike p.store (session_in i p) (session_in i q) places room s c.command (sym (g.mirrors i h).queue ∙ c.queue) (free h)
      ∙ ap (λ (st : Store). served_for (session_in i p) (serve places room s st (session_in i q))) same.store in
      let own : (serve places room s q.store (session_in i q)).session ≡ session_in i q =
      ap (λ (x : Served). x.session) (serve_alike q.store (session_in i q) (session_in i q) places room s c.command (free h) (free h)) in
      record {
        same = record {
          answer = ap answered alike;
          left = record {
            store = ap (λ (x : Served). x.store) alike;
            sessions = λ j k z. other_on i s places room p j z ∙ same.sessions j k z ∙ sym (other_on i s places room q j z);
          };
        };
        outside = λ k. ap (λ (x : Session). x.queue) (own_on i s places room q h fit' ∙ own) ∙ free h;
      }

  -- A CALL OF ITS OWN that posts, and is no accepted EXEC
  abbrev Keeps : Call → Type 0
  Keeps c = any_item (enter_all (told c (step c p).outcome) ds).items ≡ true → NoneAccepted i (told c (step c p).outcome) → KeptStep i (step c p) (step c q)

  request_kept : (s : Bytes) (places room : ℕ) → Keeps (request i s places room)
  unfolding step told
  request_kept s places room x n = go (ltb i 16) refl
    where
      go : (b : Bool) → ltb i 16 ≡ b → KeptStep i (request_on i s places room p) (request_on i s places room q)
      go false e =
          let one : (request_on i s places room p).outcome.number ≡ 1 = ap (λ (d : Stepped). d.outcome.number) (refused_on i s places room p e) in
          items_posted _ x (request_numbers i s places room (request_on i s places room p).outcome ds (λ z. omega (arith, one, z)))
      go true e =
          let h = ltb-true i 16 e in
          let o = (request_on i s places room p).outcome in
          let y : any_item (enter (asked i (asked_by s (read_request places s)) o.number o.reply) ds).items ≡ true =
          ap any_item (sym (append-nil (enter (asked i (asked_by s (read_request places s)) o.number o.reply) ds).items)) ∙ (unfold enter_all in x) in
          let m : Accepts i (asked i (asked_by s (read_request places s)) o.number o.reply) → ⊥ = n.0 in
          rw (served_on_lem i s places room p h, served_on_lem i s places room q h)
          (command_kept s places room h (own_commands i (asked_by s (read_request places s)) o.number o.reply ds y m))

request_told : (i : ℕ) (s : Bytes) (places room : ℕ) (o : Outcome) → SilentOrReply o.reply → EachAnswered (told (request i s places room) o)
unfolding told
request_told i s places room o a = (a, tt)

-- ALL OF IT
request_first : (i : ℕ) (s : Bytes) (places room : ℕ) (l : Lent) (p : State) → valid l ≡ true → (first_number (request i s places room) l ≡ 0 → ⊥)
    → request_on i s places room p ≡ record { outcome = refused (first_number (request i s places room) l); state = p }
unfolding first_number
request_first i s places room l p ok n = go (ltb i 16) refl n
  where
    go : (b : Bool) → ltb i 16 ≡ b → (◌≡◌ {A = ℕ} (cond b (cond (valid l) 0 9) 1) 0 → ⊥) → request_on i s places room p ≡ record { outcome = refused (cond b (cond (valid l) 0 9) 1); state = p }
    go true e n = absurd (n (ap (λ (x : Bool). cond {A = ℕ} x 0 9) ok))
    go false e n = refused_on i s places room p e

pub request_kind : (i : ℕ) (s : Bytes) (places room : ℕ) → Kind (request i s places room)
unfolding step
request_kind i s places room = record {
  law = request_law i s places room;
  first = request_first i s places room;
  fed = λ o p n r v. request_fed i s places room o p n r;
  numbers = request_numbers i s places room;
  answers = λ p. request_told i s places room (request_on i s places room p).outcome (request_answers_lem i s places room p);
  refusals = λ n. request_told i s places room (refused n) no_reply;
  other = λ j p q f g same e. request_same j p q f g same i s places room (eqb_differs i j e);
  own = λ j p q ds f g c same free e.
      subst (λ (n : ℕ). Keeps j p q ds f g c same free (request n s places room)) (sym (eqb-true i j e)) (request_kept j p q ds f g c same free s places room);
}
