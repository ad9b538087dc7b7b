-- A request keeps store and session sound; one that returns a number leaves the store, queue and watch, and but for 4 the mark too.
use Prim.Native.Nat.{ℕ, suc, ◌≤◌}
use native.Mathlib.Omega.{arith}
use mathlib.Core.Logic.{◌⊎◌, inl, inr}
use mathlib.Core.List.{List, [], ◌∷◌, ◌++◌, map}
use mathlib.Core.Bool.{Bool, true, false, cond, ◌&&◌, false≢true}
use Rattle.std.specs.Prelude.{Option, None, Some}
use mathlib.Core.Path.{◌≡◌, refl, sym, ap, ◌∙◌}
use lib.Dec.{leb}
use lib.ListN.{length, length-map}
use borrow.Author.Tests.{leb-true, le-ltb}
use Rattle.base_key.specs.Bytes.{Bytes, concat, total}
use Rattle.base_key.specs.Keys.{Key}
use Rattle.base_key.proofs.Bytes.{and_left, and_right, and_both}
use Rattle.resp_spec.specs.Reply.{Reply, NilArray, array, ok}
use Rattle.store_memtable.specs.Table.{Entry, Write, last_writes}
use Rattle.store_memtable.specs.Versions.{Store, read_at, newest, moved, commit}
use Rattle.store_memtable.proofs.VersionLaws.{newest_bound, Sound, Room, sound_commit, later_refl, later_commit}
use Rattle.group_spec.specs.declared.Verdict.{Verdict}
use Rattle.group_spec.specs.declared.Verdict.TheVariants.{Accepted, Conflict, NoRoom, NoSequence, NotTaken}
use Rattle.group_spec.specs.Group.{plain, any_key, among, verdict_alone}
use Rattle.group_spec.proofs.GroupLaws.{accepts, plain_verdicts, After}
use Rattle.command_spec.specs.Names.{Args, row_of, count_right, with_options, operation_of, may_queue, request_queueable, arity, Control, MULTI, EXEC, DISCARD, WATCH, UNWATCH, QUIT, other, control_of}
use Rattle.command_spec.specs.Command.{Executed, runs, lists, Effect, Ran, set_options, command_of, run, run_queue}
use Rattle.command_spec.specs.Session.{Watching, watched_keys, watched_sequences, Session, clear, Result, number, reply, Done, says, returns, committed, direct, add_keys, watch_fits, watching, outside_multi, queue_fits, queued_reply, marked, enqueue, queue_up, not_queueable, Decision, exec_abort, any_moved, verdict_exec, decided, decide, apply, execute, inside_multi, respond_by, respond}
use Rattle.command_spec.specs.Sessions.{ascending, all_queueable, all_positive, yes?, none_above}
use Rattle.command_spec.proofs.WatchLaws.{ascending_adds, none_adds, none_later, moved_by, moved_adds}

-- WHAT HOLDS OF A VALID SESSION over a store whose last sequence is `last`.
pub record WatchSound (last : ℕ) (w : Watching) : Type 0 where
  pub counted : length w ≤ 32
  pub sized : total (map length (watched_keys w)) ≤ 2048
  pub order : ascending (watched_keys w) ≡ true
  pub bound : none_above last (watched_sequences w) ≡ true

pub record QueueSound (q : List Args) : Type 0 where
  pub counted : length q ≤ 64
  pub arguments : total (map length q) ≤ 512
  pub sized : total (map length (concat q)) ≤ 8192
  pub positive : all_positive (map length q) ≡ true
  pub names : all_queueable q ≡ true

abbrev pub QueueHolds : Option (List Args) → Type 0
QueueHolds None = Unit {0}
QueueHolds (Some q) = QueueSound q

pub record SessionSound (last : ℕ) (s : Session) : Type 0 where
  pub watch : WatchSound last s.watch
  pub queue : QueueHolds s.queue

no_watch : (last : ℕ) → WatchSound last []
unfolding total none_above
no_watch last = record { counted = omega arith; sized = omega arith; order = refl; bound = refl }

pub clear_sound : (last : ℕ) → SessionSound last clear
clear_sound last = record { watch = no_watch last; queue = tt }

watch_later : (m n : ℕ) (w : Watching) → m ≤ n → WatchSound m w → WatchSound n w
watch_later m n w h s = record { counted = s.counted; sized = s.sized; order = s.order; bound = none_later m n (watched_sequences w) h s.bound }

pub session_later : (m n : ℕ) (s : Session) → m ≤ n → SessionSound m s → SessionSound n s
session_later m n s h g = record { watch = watch_later m n s.watch h g.watch; queue = g.queue }

-- WHAT A REQUEST KEEPS. A session returns 4, 5, 6 or 7.
abbrev pub Refuses : Store → Session → Done → Result → Type 0
Refuses st s d (number n) = (4 ≤ n) × (n ≤ 7) × (d.store ≡ st) × ((n ≡ 4) ⊎ (d.session ≡ s)) × (d.session.queue ≡ s.queue) × (d.session.watch ≡ s.watch)
Refuses st s d (reply r) = Unit {0}

-- a watch that a request leaves: its sequences are not above the last, and a key of it has moved exactly if it had
pub record WatchKept (st : Store) (w x : Watching) : Type 0 where
  pub bound : none_above st.last (watched_sequences x) ≡ true
  pub moves : (k : Key) → among (watched_keys x) k ≡ true → moved_by st.versions x k ≡ moved_by st.versions w k

pub watch_same : (st : Store) (s : Session) → SessionSound st.last s → WatchKept st s.watch s.watch
watch_same st s g = record { bound = g.watch.bound; moves = λ k h. refl }

pub watch_none : (st : Store) (w : Watching) → WatchKept st w []
unfolding none_above any_key
watch_none st w = record { bound = refl; moves = λ k h. absurd (false≢true h) }

pub record Kept (st : Store) (s : Session) (d : Done) : Type 0 where
  pub store : After st d.store
  pub session : SessionSound d.store.last d.session
  pub watch : WatchKept st s.watch d.session.watch
  pub numbers : Refuses st s d d.result

-- no key has moved since the last sequence
pub still_unmoved : (st : Store) → Sound st → (k : Key) → moved st.last st.versions k ≡ false
unfolding moved
still_unmoved st b k = le-ltb st.last (newest st.versions k) (newest_bound st.last st.versions b.seqs k)

module _ (st : Store) (s : Session) (sound : Sound st) (good : SessionSound st.last s) where
  stays : After st st
  stays = record { sound = sound; later = later_refl st }

  same : WatchKept st s.watch s.watch
  same = watch_same st s good

  pub says_kept : (r : Reply) (t : Session) → SessionSound st.last t → WatchKept st s.watch t.watch → Kept st s (says r st t)
  says_kept r t g w = record { store = stays; session = g; watch = w; numbers = tt }

  same_kept : (r : Reply) → Kept st s (says r st s)
  same_kept r = says_kept r s good same

  marked_sound : SessionSound st.last (marked s)
  marked_sound = record { watch = good.watch; queue = good.queue }

  refuses_kept : (n : ℕ) → 4 ≤ n → n ≤ 7 → Kept st s (returns n st s)
  refuses_kept n h k = record { store = stays; session = good; watch = same; numbers = (h, k, refl, inr refl, refl, refl) }

  -- a commit of what a verdict accepted
  writes_kept : (r : Reply) (ws : List Write) (t : Session) → Room ws st → SessionSound st.last t → WatchKept st s.watch t.watch → Kept st s (says r (commit ws st) t)
  writes_kept r ws t room g w =
      let l = later_commit ws st in
      record { store = record { sound = sound_commit ws st room sound; later = l }; session = session_later st.last (commit ws st).last t l.lasts g; watch = w; numbers = tt }

  committed_kept : (e : Effect) → Kept st s (committed (verdict_alone st (plain e.1)) e st s)
  committed_kept e = plain_verdicts st e.1 Commits accepted no_room no_sequence refl
    where
      Commits : Verdict → Type 0
      Commits v = verdict_alone st (plain e.1) ≡ v → Kept st s (committed v e st s)

      accepted : verdict_alone st (plain e.1) ≡ Accepted → Kept st s (committed Accepted e st s)
      accepted p = unfold committed in writes_kept e.0 e.1 s (accepts [] st (plain e.1) (unfold verdict_alone in p)).fits good same

      no_room : verdict_alone st (plain e.1) ≡ NoRoom → Kept st s (committed NoRoom e st s)
      no_room p = unfold committed in refuses_kept 6 (omega arith) (omega arith)

      no_sequence : verdict_alone st (plain e.1) ≡ NoSequence → Kept st s (committed NoSequence e st s)
      no_sequence p = unfold committed in refuses_kept 7 (omega arith) (omega arith)

  direct_kept : (x : Executed) → Kept st s (direct x st s)
  unfolding direct
  direct_kept (runs c) = committed_kept (run (read_at st.last st.versions) c)
  direct_kept (lists l) = same_kept _

  -- WATCH
  watching_kept : (ks : List Key) → Kept st s (watching ks st s)
  unfolding watching watch_fits
  watching_kept ks = go (leb (length (watched_keys w)) 32) refl (leb (total (map length (watched_keys w))) 2048) refl
    where
      w : Watching
      w = add_keys st.last ks s.watch

      bound : none_above st.last (watched_sequences w) ≡ true
      bound = none_adds st.last ks s.watch good.watch.bound

      go : (a : Bool) → leb (length (watched_keys w)) 32 ≡ a → (b : Bool) → leb (total (map length (watched_keys w))) 2048 ≡ b
          → Kept st s (cond (a && b) (says ok st (record { queue = s.queue; failed = s.failed; watch = w })) (returns 5 st s))
      go true p true q =
          says_kept ok _ (record {
            watch = record {
              counted = omega (arith, leb-true (length (watched_keys w)) 32 p, length-map w (λ (e : Entry ℕ). e.0));
              sized = leb-true _ _ q;
              order = ascending_adds st.last ks s.watch good.watch.order;
              bound = bound;
            };
            queue = good.queue;
          }) (record { bound = bound; moves = λ k h. moved_adds st.versions st.last (still_unmoved st sound) ks s.watch k })
      go true p false q = refuses_kept 5 (omega arith) (omega arith)
      go false p b q = refuses_kept 5 (omega arith) (omega arith)

  -- a queue with one command more
  all_positive_lem : (ns : List ℕ) (n : ℕ) → all_positive ns ≡ true → yes? n ≡ true → all_positive (ns ++ n ∷ []) ≡ true
  unfolding all_positive
  all_positive_lem [] n p h = and_both _ _ h refl
  all_positive_lem (m ∷ ns) n p h = and_both _ _ (and_left (yes? m) (all_positive ns) p) (all_positive_lem ns n (and_right (yes? m) (all_positive ns) p) h)

  map_snoc : (q : List Args) (a : Args) → map length (q ++ a ∷ []) ≡ map length q ++ length a ∷ []
  map_snoc [] a = refl
  map_snoc (x ∷ q) a = ap {B = List ℕ} (λ l. length x ∷ l) (map_snoc q a)

  all_queueable_lem : (q : List Args) (a : Args) → all_queueable q ≡ true → request_queueable a ≡ true → all_queueable (q ++ a ∷ []) ≡ true
  unfolding all_queueable
  all_queueable_lem [] a p h = and_both _ _ h refl
  all_queueable_lem (x ∷ q) a p h =
      and_both _ _ (and_left (request_queueable x) (all_queueable q) p) (all_queueable_lem q a (and_right (request_queueable x) (all_queueable q) p) h)

  enqueue_kept : (q : List Args) (x : Bytes) (xs : Args) → QueueSound q → request_queueable (x ∷ xs) ≡ true → Kept st s (enqueue q (x ∷ xs) st s)
  unfolding enqueue queue_fits
  enqueue_kept q x xs g h = go (leb (length longer) 64) refl (leb (total (map length longer)) 512) refl (leb (total (map length (concat longer))) 8192) refl
    where
      longer : List Args
      longer = q ++ (x ∷ xs) ∷ []

      full : Kept st s (returns 4 st (marked s))
      full = record { store = stays; session = marked_sound; watch = same; numbers = (omega arith, omega arith, refl, inl refl, refl, refl) }

      go : (a : Bool) → leb (length longer) 64 ≡ a → (b : Bool) → leb (total (map length longer)) 512 ≡ b → (c : Bool) → leb (total (map length (concat longer))) 8192 ≡ c
          → Kept st s (cond (a && b && c) (says queued_reply st (record { queue = Some longer; failed = s.failed; watch = s.watch })) (returns 4 st (marked s)))
      go true p true r true t =
          says_kept queued_reply _ (record {
            watch = good.watch;
            queue = record {
              counted = leb-true _ _ p;
              arguments = leb-true _ _ r;
              sized = leb-true _ _ t;
              positive = rw (map_snoc q (x ∷ xs)) (all_positive_lem (map length q) (suc (length xs)) g.positive refl);
              names = all_queueable_lem q (x ∷ xs) g.names h;
            };
          }) same
      go true p true r false t = full
      go true p false r c t = full
      go false p b r c t = full

  may_queue_lem : (x : Bytes) (xs : Args) → (row_of x).queueable ≡ true → count_right (row_of x) (length xs) ≡ true
      → with_options (operation_of (row_of x).name) (length xs) ≡ false → request_queueable (x ∷ xs) ≡ true
  unfolding request_queueable may_queue
  may_queue_lem x xs p e f = rw (e, f, p)

  -- one of the eleven
  queue_up_kept : (q : List Args) (x : Bytes) (xs : Args) → QueueSound q → (row_of x).queueable ≡ true → Kept st s (queue_up q (row_of x) (x ∷ xs) st s)
  unfolding queue_up
  queue_up_kept q x xs g p = go (count_right (row_of x) (length xs)) refl (with_options (operation_of (row_of x).name) (length xs)) refl
    where
      go : (b : Bool) → count_right (row_of x) (length xs) ≡ b → (c : Bool) → with_options (operation_of (row_of x).name) (length xs) ≡ c
          → Kept st s (cond b (cond c (says set_options st (marked s)) (enqueue q (x ∷ xs) st s)) (says (arity (row_of x)) st (marked s)))
      go true e true f = says_kept set_options _ marked_sound same
      go true e false f = enqueue_kept q x xs g (may_queue_lem x xs p e f)
      go false e c f = says_kept (arity (row_of x)) _ marked_sound same

-- EXEC, by its mark and its verdict.
unfoldable pub ran_by : List Args → Store → Ran
ran_by q st = run_queue (read_at st.last st.versions) (map command_of q)

unfoldable pub writes_by : List Args → Store → List Write
writes_by q st = last_writes [] (ran_by q st).writes

abbrev pub is_conflict : Verdict → Bool
is_conflict Accepted = false
is_conflict Conflict = true
is_conflict NoRoom = false
is_conflict NoSequence = false
is_conflict NotTaken = false

unfoldable pub ends : Verdict → Ran → List Write → Store → Session → Done
ends Accepted ran ws st s = says (array ran.replies) (commit ws st) clear
ends Conflict ran ws st s = says NilArray st clear
ends NoRoom ran ws st s = returns 6 st s
ends NoSequence ran ws st s = returns 7 st s
ends NotTaken ran ws st s = says NilArray st clear

-- it meets conflict exactly if a watched key has moved
pub conflict_exactly : (ws : List Write) (st : Store) (w : Watching) → is_conflict (verdict_exec ws st w) ≡ any_moved st.versions w
unfolding verdict_exec
conflict_exactly ws st w = go (any_moved st.versions w)
  where
    go : (b : Bool) → is_conflict (cond b Conflict (verdict_alone st (plain ws))) ≡ b
    go true = refl
    go false = plain_verdicts st ws (λ v. is_conflict v ≡ false) refl refl refl

-- an accepted EXEC watched no key that has moved, and its writes are accepted as a group of one
pub exec_calm : (ws : List Write) (st : Store) (w : Watching) → verdict_exec ws st w ≡ Accepted → (any_moved st.versions w ≡ false) × (verdict_alone st (plain ws) ≡ Accepted)
unfolding verdict_exec
exec_calm ws st w e =
    let calm : any_moved st.versions w ≡ false = sym (conflict_exactly ws st w) ∙ ap is_conflict e in
    (calm, ap (λ (b : Bool). cond b Conflict (verdict_alone st (plain ws))) (sym calm) ∙ e)

pub execute_failed : (q : List Args) (st : Store) (s : Session) → s.failed ≡ true → execute q st s ≡ says exec_abort st clear
unfolding execute apply decide
execute_failed q st s e = ap (λ (d : Decision). apply d.verdict d st s) gone
  where
    gone : decide q st s ≡ record { verdict = NotTaken; answer = exec_abort; writes = [] }
    gone = rw (e, decide)

pub execute_ends : (q : List Args) (st : Store) (s : Session) → s.failed ≡ false → execute q st s ≡ ends (verdict_exec (writes_by q st) st s.watch) (ran_by q st) (writes_by q st) st s
unfolding execute ran_by writes_by decide
execute_ends q st s e = ap (λ (d : Decision). apply d.verdict d st s) settled ∙ go (verdict_exec ws st s.watch) ran ws
  where
    ran : Ran
    ran = run_queue (read_at st.last st.versions) (map command_of q)

    ws : List Write
    ws = last_writes [] ran.writes

    settled : decide q st s ≡ decided (verdict_exec ws st s.watch) ran ws
    settled = rw (e, decide)

    go : (v : Verdict) (x : Ran) (vs : List Write) → apply (decided v x vs).verdict (decided v x vs) st s ≡ ends v x vs st s
    go Accepted x vs = unfold apply decided ends in refl
    go Conflict x vs = unfold apply decided ends in refl
    go NoRoom x vs = unfold apply decided ends in refl
    go NoSequence x vs = unfold apply decided ends in refl
    go NotTaken x vs = unfold apply decided ends in refl

module _ (st : Store) (s : Session) (sound : Sound st) (good : SessionSound st.last s) where
  ends_kept : (ran : Ran) (ws : List Write) (v : Verdict) → verdict_exec ws st s.watch ≡ v → Kept st s (ends v ran ws st s)
  unfolding ends verdict_alone
  ends_kept ran ws Accepted p = writes_kept st s sound good _ ws clear (accepts [] st (plain ws) (exec_calm ws st s.watch p).1).fits (clear_sound st.last) (watch_none st s.watch)
  ends_kept ran ws Conflict p = says_kept st s sound good _ clear (clear_sound st.last) (watch_none st s.watch)
  ends_kept ran ws NoRoom p = refuses_kept st s sound good 6 (omega arith) (omega arith)
  ends_kept ran ws NoSequence p = refuses_kept st s sound good 7 (omega arith) (omega arith)
  ends_kept ran ws NotTaken p = says_kept st s sound good _ clear (clear_sound st.last) (watch_none st s.watch)

  execute_kept : (q : List Args) → Kept st s (execute q st s)
  execute_kept q = go s.failed refl
    where
      go : (f : Bool) → s.failed ≡ f → Kept st s (execute q st s)
      go true p = rw (execute_failed q st s p) (says_kept st s sound good exec_abort clear (clear_sound st.last) (watch_none st s.watch))
      go false p = rw (execute_ends q st s p) (ends_kept (ran_by q st) (writes_by q st) _ refl)

  outside_kept : (x : Bytes) (xs : Args) (c : Control) → control_of (row_of x).name ≡ c → s.queue ≡ None → Kept st s (outside_multi c (row_of x) (x ∷ xs) st s)
  unfolding outside_multi
  outside_kept x xs MULTI e n = says_kept st s sound good ok _ (record { watch = good.watch; queue = record { counted = omega arith; arguments = unfold total in omega arith; sized = unfold total concat in omega arith; positive = unfold all_positive in refl; names = unfold all_queueable in refl } }) (watch_same st s good)
  outside_kept x xs EXEC e n = same_kept st s sound good _
  outside_kept x xs DISCARD e n = same_kept st s sound good _
  outside_kept x xs WATCH e n = go (count_right (row_of x) (length xs)) refl
    where
      go : (b : Bool) → count_right (row_of x) (length xs) ≡ b → Kept st s (cond b (watching xs st s) (says (arity (row_of x)) st s))
      go true p = watching_kept st s sound good xs
      go false p = same_kept st s sound good _
  outside_kept x xs UNWATCH e n = says_kept st s sound good ok _ (record { watch = no_watch st.last; queue = good.queue }) (watch_none st s.watch)
  outside_kept x xs QUIT e n = says_kept st s sound good ok clear (clear_sound st.last) (watch_none st s.watch)
  outside_kept x xs other e n = direct_kept st s sound good _

  inside_kept : (x : Bytes) (xs : Args) (q : List Args) (c : Control) → QueueSound q → Kept st s (inside_multi c q (row_of x) (x ∷ xs) st s)
  unfolding inside_multi
  inside_kept x xs q EXEC g = execute_kept q
  inside_kept x xs q DISCARD g = says_kept st s sound good ok clear (clear_sound st.last) (watch_none st s.watch)
  inside_kept x xs q MULTI g = same_kept st s sound good _
  inside_kept x xs q WATCH g = same_kept st s sound good _
  inside_kept x xs q QUIT g = says_kept st s sound good ok clear (clear_sound st.last) (watch_none st s.watch)
  inside_kept x xs q UNWATCH g = says_kept st s sound good _ _ (marked_sound st s sound good) (watch_same st s good)
  inside_kept x xs q other g = go (row_of x).queueable refl
    where
      go : (b : Bool) → (row_of x).queueable ≡ b → Kept st s (cond b (queue_up q (row_of x) (x ∷ xs) st s) (says (not_queueable x) st (marked s)))
      go true p = queue_up_kept st s sound good q x xs g p
      go false p = says_kept st s sound good _ _ (marked_sound st s sound good) (watch_same st s good)

  pub respond_kept : (x : Bytes) (xs : Args) → Kept st s (respond (x ∷ xs) st s)
  unfolding respond respond_by
  respond_kept x xs = go s.queue refl good.queue
    where
      go : (q : Option (List Args)) → s.queue ≡ q → QueueHolds q → Kept st s (respond_by q (row_of x) (x ∷ xs) st s)
      go None e g = outside_kept x xs (control_of (row_of x).name) refl e
      go (Some q) e g = inside_kept x xs q (control_of (row_of x).name) g
