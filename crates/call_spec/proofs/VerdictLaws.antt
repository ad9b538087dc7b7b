-- Each answer to EXEC has its cause: a mark, a watched key written since it was first watched, or none; and without one it replies as posting does.
use Prim.Native.Nat.{ℕ, ◌<◌}
use native.Mathlib.Omega.{arith}
use native.Mathlib.Decide.{ℕ_discrete}
use mathlib.Core.List.{List, [], ◌∷◌, map}
use mathlib.Core.Bool.{Bool, true, false, cond, ◌||◌, false≢true}
use Rattle.std.specs.Prelude.{Option, None, Some}
use mathlib.Core.Path.{◌≡◌, refl, sym, ap, ◌∙◌, subst}
use lib.Dec.{leb, ltb}
use lib.ListN.{length, get_or}
use borrow.Author.Tests.{eq-eqb, ne_eqb}
use Rattle.base_key.specs.Bytes.{Bytes}
use Rattle.base_key.specs.Keys.{Key}
use Rattle.resp_spec.specs.Request.{Reading, waits, faulty, too_many, whole, read_request, spanned}
use Rattle.resp_spec.specs.Reply.{Reply, array, encode}
use Rattle.store_memtable.specs.Table.{Table}
use Rattle.store_memtable.specs.Versions.{Store, table}
use Rattle.store_memtable.proofs.VersionLaws.{ascending_table, Sound}
use Rattle.group_spec.specs.declared.Verdict.TheVariants.{Accepted, Conflict, NoRoom, NoSequence}
use Rattle.group_spec.specs.Group.{conflicts, has_room, has_sequences, judge, verdict_alone}
use Rattle.group_spec.proofs.KeyLists.{any_same, any_alike}
use Rattle.command_spec.specs.Names.{Args, row_of, name_word, Control, control_of}
use Rattle.command_spec.specs.Sessions.{all_queueable}
use Rattle.command_spec.specs.Session.{watched_keys, Session, Result, number, reply, Done, any_moved, verdict_exec, execute, inside_multi, respond_by, respond}
use Rattle.command_spec.proofs.WatchLaws.{moved_by, any_moved_lem}
use Rattle.command_spec.proofs.SessionLaws.{QueueHolds, SessionSound, Refuses, Kept, respond_kept, ran_by, writes_by, ends, execute_failed, execute_ends}
use Rattle.command_spec.specs.Finish.{Served, silent, fitted, finish_by, finish}
use Rattle.call_spec.specs.Serve.{serve_reading, serve, State, session_in}
use Rattle.call_spec.specs.Posting.{Asked, asked_by, Event, asked, wrote, Client, closed, enter, post_all}
use Rattle.call_spec.specs.Verdicts.{marks, Transaction, stale_in, marked_after, is_exec, asks_exec, conflicted, exec_reply, ExecPosted, ExecAnswered, VerdictsPosted}
use Rattle.call_spec.proofs.FollowLaws.{Mirrors, read_now}
use Rattle.call_spec.proofs.MarkLaws.{stays}
use Rattle.call_spec.proofs.CommandLaws.{queue_replies}
use Rattle.call_spec.proofs.WatchLaws.{is_exec_lem, watch_in, happens_keeps_watch, late_by}
use Rattle.call_spec.proofs.EventLaws.{Fit, StaleIs, AskedLaw, Happens, Chain, ended, after, Clients, event_follows}

-- the reply that is due; a number only without a mark or a conflict
abbrev Due : Bool → Bool → Table → List Args → Result → Type 0
Due f c t q (number n) = (f || c) ≡ false
Due f c t q (reply r) = r ≡ exec_reply f c t q

-- AN EXEC, BY ITS CAUSE, on a session that `d` mirrors
module _ (st : Store) (s : Session) (sound : Sound st) (good : SessionSound st.last s) (d : Client) (m : Mirrors d s) (stale : Key → Bool)
    (tells : StaleIs st s.watch stale) where
  abbrev DueHere : Bool → List Args → Result → Type 0
  DueHere f q = Due f (conflicted stale d) (table st.versions) q

  same_conflict : any_moved st.versions s.watch ≡ conflicted stale d
  same_conflict =
      any_moved_lem st.versions s.watch
      ∙ any_alike (moved_by st.versions s.watch) stale (watched_keys s.watch) (λ k. sym (tells k))
      ∙ any_same stale (watched_keys s.watch) d.watched (λ k. sym (m.watched k))

  ends_due : (q : List Args) → all_queueable q ≡ true → DueHere false q (ends (verdict_exec (writes_by q st) st s.watch) (ran_by q st) (writes_by q st) st s).result
  unfolding verdict_exec verdict_alone judge conflicts
  ends_due q queueable = rw same_conflict (go (conflicted stale d) (has_room st (writes_by q st)) (has_sequences st (writes_by q st)))
    where
      go : (c h n : Bool) → Due false c (table st.versions) q (ends (cond c Conflict (cond h (cond n Accepted NoSequence) NoRoom)) (ran_by q st) (writes_by q st) st s).result
      go true h n = unfold ends exec_reply in refl
      go false true true = unfold ends exec_reply ran_by in ap array (queue_replies q _ (table st.versions) queueable (ascending_table st.versions) (read_now st sound))
      go false true false = unfold ends in refl
      go false false n = unfold ends in refl

  execute_due : (q : List Args) → all_queueable q ≡ true → DueHere s.failed q (execute q st s).result
  execute_due q queueable = go s.failed refl
    where
      go : (f : Bool) → s.failed ≡ f → DueHere f q (execute q st s).result
      go true p = rw (execute_failed q st s p) (unfold exec_reply in refl)
      go false p = rw (execute_ends q st s p) (ends_due q queueable)

  respond_due : (a : Args) (q : List Args) → is_exec (control_of (row_of (name_word a)).name) ≡ true → s.queue ≡ Some q → DueHere s.failed q (respond a st s).result
  unfolding respond
  respond_due a q e o =
      subst (λ (x : Option (List Args)). DueHere s.failed q (respond_by x (row_of (name_word a)) a st s).result) (sym o)
      (unfold respond_by in
      subst (λ (c : Control). DueHere s.failed q (inside_multi c q (row_of (name_word a)) a st s).result) (sym (is_exec_lem _ e)) (unfold inside_multi in execute_due q (subst QueueHolds o good.queue).names))

  -- and with it the answer
  abbrev PostedHere : List Args → Served → Type 0
  PostedHere q x = ExecPosted s.failed (conflicted stale d) (table st.versions) q x.number x.reply

  finish_due : (q : List Args) (room used : ℕ) (x : Done) → Kept st s x → DueHere s.failed q x.result → PostedHere q (finish room used x st s)
  unfolding finish
  finish_due q room used x k h = go x.result h k.numbers
    where
      fits : (r : Reply) → r ≡ exec_reply s.failed (conflicted stale d) (table st.versions) q → (t : Bool)
          → PostedHere q (cond {A = Served} t (record { number = 0; used = used; reply = encode r; store = x.store; session = x.session }) (silent 3 0 st s))
      fits r g true = record { replies = λ z. ap encode g; comes_first = λ c. (λ z. omega (arith, z), λ z. omega (arith, z)) }
      fits r g false = record { replies = λ z. absurd (omega (arith, z)); comes_first = λ c. (λ z. omega (arith, z), λ z. omega (arith, z)) }

      go : (r : Result) → DueHere s.failed q r → Refuses st s x r → PostedHere q (finish_by r room used x st s)
      go (number n) g k = unfold finish_by in record { replies = λ z. absurd (omega (arith, k.0, z)); comes_first = λ c. absurd (false≢true (sym g ∙ c)) }
      go (reply r) g k = unfold finish_by fitted in fits r g (leb (length (encode r)) room)

  reading_due : (q : List Args) (room : ℕ) (input : Bytes) (x : Reading) → s.queue ≡ Some q → asks_exec (asked_by input x) ≡ true → PostedHere q (serve_reading room input x st s)
  unfolding serve_reading asked_by
  reading_due q room input waits o e = absurd (false≢true e)
  reading_due q room input too_many o e = absurd (false≢true e)
  reading_due q room input (faulty f) o e = absurd (false≢true e)
  reading_due q room input (whole [] used) o e = absurd (false≢true e)
  reading_due q room input (whole (p ∷ ps) used) o e =
      finish_due q room used _ (respond_kept st s sound good (spanned input p) (map (spanned input) ps)) (respond_due (map (spanned input) (p ∷ ps)) q e o)

  pub serve_due : (q : List Args) (places room : ℕ) (input : Bytes) → s.queue ≡ Some q → asks_exec (asked_by input (read_request places input)) ≡ true → PostedHere q (serve places room input st s)
  unfolding serve
  serve_due q places room input = reading_due q room input (read_request places input)

-- ONE EVENT, for session i
module _ (i : ℕ) (inside : i < 16) (p q : State) (ds : List Client) (fit : Fit p) (g : Clients p ds) where
  module _ (free : (session_in i p).queue ≡ None → (session_in i p).failed ≡ false) where
    abbrev MarkedIn : Session → Bool → Type 0
    MarkedIn t b = t.failed ≡ marked_after t.queue ((session_in i p).failed || b)

    same_marks : (t : Session) → t ≡ session_in i p → (b : Bool) → b ≡ false → MarkedIn t b
    same_marks t e b n =
        stays p.store (session_in i p) fit.sound (fit.each i inside) free t (ap (λ (x : Session). x.queue) e) (ap (λ (x : Session). x.failed) e) b n

    own_marks : (x : Asked) (n : ℕ) (b : Bytes) → AskedLaw i x n b p q → MarkedIn (session_in i q) (marks i (asked i x n b) ds)
    unfolding marks
    own_marks x n b a = rw (eq-eqb i i refl, (g.mirrors i inside).queue) ((a.own inside).marks free)

    event_marks : (e : Event) → Happens e p q → MarkedIn (session_in i q) (marks i e ds)
    event_marks (wrote ws) w = unfold marks in same_marks _ (w.sessions i) false refl
    event_marks (asked j x n b) a = go (ℕ_discrete j i)
      where
        go : Dec (j ≡ i) → MarkedIn (session_in i q) (marks i (asked j x n b) ds)
        go (yes e) = subst (λ (m : ℕ). MarkedIn (session_in i q) (marks i (asked m x n b) ds)) (sym e) (own_marks x n b (subst (λ (m : ℕ). AskedLaw m x n b p q) e a))
        go (no z) = same_marks _ (a.others i inside (λ e. z (sym e))) _ (unfold marks in rw (ne_eqb j i z))

  event_due : (stale : Key → Bool) → StaleIs p.store (watch_in i p) stale → (e : Event) → Happens e p q → (r : List Args) → (get_or ds i closed).queue ≡ Some r
      → ExecAnswered i e (session_in i p).failed (conflicted stale (get_or ds i closed)) (table p.store.versions) r
  event_due stale h (wrote ws) w r o = tt
  event_due stale h (asked j x n b) a r o = λ own exec.
      let c : AskedLaw i x n b p q = subst (λ (m : ℕ). AskedLaw m x n b p q) own a in
      (c.own inside).due exec r (sym (g.mirrors i inside).queue ∙ o) (get_or ds i closed) (g.mirrors i inside) stale h

-- EVENTS ONE AFTER ANOTHER. Session i is marked as posting has it, and its transaction tells of the store and its watch.
pub record Tracks (i : ℕ) (p : State) (x : Transaction) : Type 0 where
  pub failed : (session_in i p).failed ≡ x.marked
  pub free : (session_in i p).queue ≡ None → (session_in i p).failed ≡ false
  pub tells : StaleIs p.store (watch_in i p) x.stale

pub verdicts_posted : (i : ℕ) (inside : i < 16) (es : List Event) (p r : State) (ds : List Client) (t : Table) (x : Transaction) → Fit p → Clients p ds
    → t ≡ table p.store.versions → Tracks i p x → Chain es p r → VerdictsPosted i es ds t x
verdicts_posted i inside [] p r ds t x fit g same h ended = tt
verdicts_posted i inside (e ∷ es) p r ds t x fit g same h (after {q = q} y z c) =
    let f = event_follows p q fit ds g e y in
    let mirror = f.clients.mirrors i inside in
    let kept = event_marks i inside p q ds fit g h.free e y in (
      (λ u o. rw (same, ← h.failed) (event_due i inside p q ds fit g x.stale h.tells e y u o)),
      verdicts_posted i inside es q r (enter e ds).clients (post_all (enter e ds).items t) _ z f.clients (ap (post_all (enter e ds).items) same ∙ f.tables) (record {
        failed = kept ∙ (λ w. marked_after (sym mirror.queue w) (h.failed w || marks i e ds));
        free = λ n. kept ∙ ap (λ (u : Option (List Args)). marked_after u ((session_in i p).failed || marks i e ds)) n ∙ (unfold marked_after in refl);
        tells = λ k. ap (λ (u : Table). stale_in i k (enter e ds) u (x.stale k)) same ∙ late_by k i inside p q (enter e ds) (x.stale k) fit f (happens_keeps_watch i inside e p q fit y) (h.tells k);
      }) c,
    )

-- an EXEC of a session above 15 returns 1
one_posted : (f c : Bool) (t : Table) (q : List Args) (n : ℕ) (b : Bytes) → n ≡ 1 → ExecPosted f c t q n b
one_posted f c t q n b e = record { replies = λ z. absurd (omega (arith, e, z)); comes_first = λ k. (λ z. omega (arith, e, z), λ z. omega (arith, e, z)) }

module _ (i : ℕ) (above : ltb i 16 ≡ false) where
  no_session_due : (e : Event) (p q : State) → Happens e p q → (f c : Bool) (t : Table) (r : List Args) → ExecAnswered i e f c t r
  no_session_due (wrote ws) p q h f c t r = tt
  no_session_due (asked j x n b) p q h f c t r = λ own exec. one_posted f c t r n b (h.none (ap (λ (m : ℕ). ltb m 16) own ∙ above)).0

  pub no_session_verdicts : (es : List Event) (p r : State) (ds : List Client) (t : Table) (x : Transaction) → Chain es p r → VerdictsPosted i es ds t x
  no_session_verdicts [] p r ds t x ended = tt
  no_session_verdicts (e ∷ es) p r ds t x (after {q = q} h y c) = (λ u o. no_session_due e p q h _ _ _ u, no_session_verdicts es q r _ _ _ c)
