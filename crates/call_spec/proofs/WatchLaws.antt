-- No EXEC is accepted with a key moved since it was first watched.
use Prim.Native.Nat.{ℕ, ◌≤◌, ◌<◌}
use native.Mathlib.Omega.{arith}
use native.Mathlib.Decide.{ℕ_discrete}
use mathlib.Core.List.{List, [], ◌∷◌, map}
use mathlib.Core.Bool.{Bool, true, false, cond, ◌||◌, ◌&&◌, false≢true, or-true, or-false}
use Rattle.std.specs.Prelude.{Option, None, Some}
use mathlib.Core.Path.{◌≡◌, refl, sym, ap, ◌∙◌, subst}
use lib.Dec.{leb, ltb}
use lib.ListN.{length}
use Rattle.base_key.specs.Bytes.{Bytes}
use Rattle.base_key.specs.Keys.{Key}
use Rattle.base_key.proofs.Bytes.{neither}
use Rattle.resp_spec.specs.Request.{Reading, waits, faulty, too_many, whole, read_request, spanned}
use Rattle.resp_spec.specs.Reply.{Reply, Error, NilArray, encode}
use Rattle.store_memtable.specs.Table.{Table}
use Rattle.store_memtable.specs.Versions.{Store, moved, table}
use Rattle.store_memtable.proofs.VersionLaws.{moved_above, above_moved, Sound}
use Rattle.group_spec.specs.declared.Verdict.{Verdict}
use Rattle.group_spec.specs.declared.Verdict.TheVariants.{Accepted, Conflict, NoRoom, NoSequence, NotTaken}
use Rattle.group_spec.specs.Group.{among}
use Rattle.command_spec.specs.Names.{Args, Row, row_of, name_word, Control, MULTI, EXEC, DISCARD, WATCH, UNWATCH, QUIT, other, control_of}
use Rattle.command_spec.specs.Session.{Watching, watched_keys, Session, Result, number, reply, Done, any_moved, verdict_exec, outside_multi, execute, inside_multi, respond_by, respond}
use Rattle.command_spec.proofs.WatchLaws.{moved_by, moved_any, moved_later}
use Rattle.command_spec.proofs.SessionLaws.{WatchKept, watch_same, still_unmoved, ran_by, writes_by, exec_calm, ends, execute_failed, execute_ends}
use Rattle.command_spec.specs.Finish.{Served, silent, fitted, finish_by, finish}
use Rattle.call_spec.specs.Serve.{serve_reading, serve, State, session_in}
use Rattle.call_spec.specs.Posting.{asked_by, Event, asked, wrote, is_array, Client, Entered, enter, post_all}
use Rattle.call_spec.specs.Verdicts.{is_exec, asks_exec, written_in, stale_in}
use Rattle.call_spec.specs.Demand3.{Accepts, NoneAccepted, NoStalePosted}
use Rattle.call_spec.proofs.ReplyLaws.{error_no_array, nil_array_no_array}
use Rattle.call_spec.proofs.EventLaws.{Fit, Happens, Chain, ended, after, Clients, PostFollows, event_follows}

pub is_exec_lem : (c : Control) → is_exec c ≡ true → c ≡ EXEC
is_exec_lem MULTI e = absurd (false≢true e)
is_exec_lem EXEC e = refl
is_exec_lem DISCARD e = absurd (false≢true e)
is_exec_lem WATCH e = absurd (false≢true e)
is_exec_lem UNWATCH e = absurd (false≢true e)
is_exec_lem QUIT e = absurd (false≢true e)
is_exec_lem other e = absurd (false≢true e)

-- AN EXEC ANSWERED BY AN ARRAY met no conflict: no watched key has moved since its sequence.
module _ (st : Store) (s : Session) where
  abbrev Calm : Type 0
  Calm = any_moved st.versions s.watch ≡ false

  abbrev Fresh : Result → Type 0
  Fresh (number n) = Unit {0}
  Fresh (reply r) = is_array (encode r) ≡ true → Calm

  error_fresh : (text : Bytes) → Fresh (reply (Error text))
  error_fresh text e = neither e (error_no_array text)

  nil_fresh : Fresh (reply NilArray)
  nil_fresh e = neither e nil_array_no_array

  ends_fresh : (q : List Args) (v : Verdict) → verdict_exec (writes_by q st) st s.watch ≡ v → Fresh (ends v (ran_by q st) (writes_by q st) st s).result
  unfolding ends
  ends_fresh q Accepted e = λ a. (exec_calm (writes_by q st) st s.watch e).0
  ends_fresh q Conflict e = nil_fresh
  ends_fresh q NoRoom e = tt
  ends_fresh q NoSequence e = tt
  ends_fresh q NotTaken e = nil_fresh

  execute_fresh : (q : List Args) → Fresh (execute q st s).result
  execute_fresh q = go s.failed refl
    where
      go : (f : Bool) → s.failed ≡ f → Fresh (execute q st s).result
      go true p = rw (execute_failed q st s p) (error_fresh _)
      go false p = rw (execute_ends q st s p) (ends_fresh q _ refl)

  exec_fresh : (q : Option (List Args)) (r : Row) (a : Args) → control_of r.name ≡ EXEC → Fresh (respond_by q r a st s).result
  unfolding respond_by
  exec_fresh None r a e = rw e (unfold outside_multi in error_fresh _)
  exec_fresh (Some q) r a e = rw e (unfold inside_multi in execute_fresh q)

  respond_fresh : (a : Args) → is_exec (control_of (row_of (name_word a)).name) ≡ true → Fresh (respond a st s).result
  unfolding respond
  respond_fresh a e = exec_fresh s.queue (row_of (name_word a)) a (is_exec_lem _ e)

  finish_fresh : (room used : ℕ) (d : Done) → Fresh d.result → is_array (finish room used d st s).reply ≡ true → Calm
  unfolding finish
  finish_fresh room used d f = go d.result f
    where
      empty : is_array [] ≡ true → Calm
      empty e = absurd (false≢true (unfold is_array in e))

      fits : (r : Reply) → Fresh (reply r) → (t : Bool)
          → is_array (cond {A = Served} t (record { number = 0; used = used; reply = encode r; store = d.store; session = d.session }) (silent 3 0 st s)).reply ≡ true → Calm
      fits r g true e = g e
      fits r g false e = empty e

      go : (r : Result) → Fresh r → is_array (finish_by r room used d st s).reply ≡ true → Calm
      go (number n) g = unfold finish_by in empty
      go (reply r) g = unfold finish_by fitted in fits r g (leb (length (encode r)) room)

  reading_fresh : (room : ℕ) (input : Bytes) (x : Reading) → asks_exec (asked_by input x) ≡ true → is_array (serve_reading room input x st s).reply ≡ true → Calm
  unfolding serve_reading asked_by
  reading_fresh room input waits e a = absurd (false≢true e)
  reading_fresh room input too_many e a = absurd (false≢true e)
  reading_fresh room input (faulty f) e a = absurd (false≢true e)
  reading_fresh room input (whole [] used) e a = absurd (false≢true e)
  reading_fresh room input (whole (p ∷ ps) used) e a = finish_fresh room used _ (respond_fresh (map (spanned input) (p ∷ ps)) e) a

  pub serve_fresh : (places room : ℕ) (input : Bytes) → asks_exec (asked_by input (read_request places input)) ≡ true → is_array (serve places room input st s).reply ≡ true → Calm
  unfolding serve
  serve_fresh places room input = reading_fresh room input (read_request places input)

-- THE WATCH of session i
abbrev pub watch_in : ℕ → State → Watching
watch_in i p = (session_in i p).watch

pub same_keeps_watch : (i : ℕ) (inside : i < 16) (p q : State) → Fit p → session_in i q ≡ session_in i p → WatchKept p.store (watch_in i p) (watch_in i q)
same_keeps_watch i inside p q fit e =
    subst (λ (s : Session). WatchKept p.store (watch_in i p) s.watch) (sym e) (watch_same p.store (session_in i p) (fit.each i inside))

-- every event keeps what has moved of it
pub happens_keeps_watch : (i : ℕ) (inside : i < 16) (e : Event) (p q : State) → Fit p → Happens e p q → WatchKept p.store (watch_in i p) (watch_in i q)
happens_keeps_watch i inside (wrote ws) p q fit w = same_keeps_watch i inside p q fit (w.sessions i)
happens_keeps_watch i inside (asked j x n b) p q fit a = go (ℕ_discrete i j)
  where
    go : Dec (i ≡ j) → WatchKept p.store (watch_in i p) (watch_in i q)
    go (yes e) = rw e (a.own (omega (arith, e, inside))).watch
    go (no z) = same_keeps_watch i inside p q fit (a.others i inside z)

-- WHAT EVENTS MOVE is what posting writes; every other key has moved as before, counted from any sequence.
module _ (st after : Store) (sound : Sound st) (written : List Key) (k : Key) (moves : among written k ≡ true → moved st.last after.versions k ≡ true)
    (keeps : (n : ℕ) → among written k ≡ false → moved n after.versions k ≡ moved n st.versions k) where
  pub written_moved : moved st.last after.versions k ≡ among written k
  written_moved = go (among written k) refl
    where
      go : (b : Bool) → among written k ≡ b → moved st.last after.versions k ≡ among written k
      go true e = moves e ∙ sym e
      go false e = keeps st.last e ∙ still_unmoved st sound k ∙ sym e

  written_more : (n : ℕ) → n ≤ st.last → moved n after.versions k ≡ (moved n st.versions k || among written k)
  written_more n h = go (among written k) refl
    where
      go : (b : Bool) → among written k ≡ b → moved n after.versions k ≡ (moved n st.versions k || among written k)
      go true e = above_moved n after.versions k (omega (arith, moved_above st.last after.versions k (moves e))) ∙ sym (rw e (or-true (moved n st.versions k)))
      go false e = keeps n e ∙ sym (rw e (or-false (moved n st.versions k)))

  -- a watched key has moved exactly if it had, or is written
  pub moved_since_lem : (w x : Watching) → WatchKept st w x → moved_by after.versions x k ≡ (among (watched_keys x) k && (moved_by st.versions w k || among written k))
  moved_since_lem w x r = moved_later st.versions after.versions st.last k (among written k) written_more x r.bound ∙ go (among (watched_keys x) k) refl
    where
      go : (b : Bool) → among (watched_keys x) k ≡ b → (b && (moved_by st.versions x k || among written k)) ≡ (b && (moved_by st.versions w k || among written k))
      go true e = ap (λ (c : Bool). c || among written k) (r.moves k e)
      go false e = refl

-- A STALE KEY is watched, and has moved since its sequence.
abbrev pub Late : Key → ℕ → State → Bool → Type 0
Late k i p stale = stale ≡ moved_by p.store.versions (watch_in i p) k

-- what events make of it: every sequence is at or above the bound, which is 0
pub late_by : (k : Key) (i : ℕ) (inside : i < 16) (p q : State) (e : Entered) (stale : Bool) → Fit p → PostFollows p e q → WatchKept p.store (watch_in i p) (watch_in i q)
    → Late k i p stale → Late k i q (stale_in i k e (table p.store.versions) stale)
late_by k i inside p q e stale fit f r h =
    let written = written_in e.items (table p.store.versions) in
    (λ z. (f.clients.mirrors i inside).watched k z && (h z || among written k))
    ∙ sym (moved_since_lem p.store q.store fit.sound written k (f.moves k (omega arith)) (λ n. f.keeps k n (omega arith)) (watch_in i p) (watch_in i q) r)

module _ (k : Key) (i : ℕ) (inside : i < 16) where
  -- an accepted EXEC finds no stale key
  accepts_fresh : (e : Event) (p q : State) (stale : Bool) → Happens e p q → Late k i p stale → stale ≡ true → Accepts i e → ⊥
  accepts_fresh (wrote ws) p q stale w h e a = a
  accepts_fresh (asked j x n b) p q stale c h e a =
      neither (moved_any p.store.versions (watch_in i p) k (sym h ∙ e))
      (subst (λ (m : ℕ). any_moved p.store.versions (watch_in m p) ≡ false) a.0 ((c.own (omega (arith, a.0, inside))).fresh a.2 a.3))

  pub no_stale_posted : (es : List Event) (p r : State) (ds : List Client) (t : Table) (stale : Bool) → Fit p → Clients p ds → t ≡ table p.store.versions
      → Late k i p stale → Chain es p r → NoStalePosted i k es ds t stale
  no_stale_posted [] p r ds t stale fit g same h ended = tt
  no_stale_posted (e ∷ es) p r ds t stale fit g same h (after {q = q} x y c) =
      let f = event_follows p q fit ds g e x in (
        accepts_fresh e p q stale x h,
        no_stale_posted es q r (enter e ds).clients (post_all (enter e ds).items t) (stale_in i k (enter e ds) t stale) y f.clients
            (ap (post_all (enter e ds).items) same ∙ f.tables)
            (ap (λ (u : Table). stale_in i k (enter e ds) u stale) same ∙ late_by k i inside p q (enter e ds) stale fit f (happens_keeps_watch i inside e p q fit x) h)
            c,
      )

-- a session above 15 gets no array
module _ (i : ℕ) (above : ltb i 16 ≡ false) where
  never_accepts : (e : Event) (p q : State) → Happens e p q → Accepts i e → ⊥
  never_accepts (wrote ws) p q h a = a
  never_accepts (asked j x n b) p q h a = omega (arith, (h.none (ap (λ (m : ℕ). ltb m 16) a.0 ∙ above)).0, a.1)

  pub none_accepted : (es : List Event) (p r : State) → Chain es p r → NoneAccepted i es
  none_accepted [] p r ended = tt
  none_accepted (e ∷ es) p r (after {q = q} h y c) = (never_accepts e p q h, none_accepted es q r c)

  pub none_stale : (k : Key) (es : List Event) (ds : List Client) (t : Table) (stale : Bool) → NoneAccepted i es → NoStalePosted i k es ds t stale
  none_stale k [] ds t stale n = tt
  none_stale k (e ∷ es) ds t stale n = (λ s. n.0, none_stale k es _ _ _ n.1)
