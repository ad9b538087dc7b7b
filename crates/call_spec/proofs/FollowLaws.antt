-- Each request of a session is followed by posting: the table, what posting keeps of the session, and the reply's bytes.
use Prim.Native.Nat.{ℕ}
use native.Mathlib.Omega.{arith}
use mathlib.Core.List.{List, [], ◌∷◌, ◌++◌, map}
use mathlib.Core.Bool.{Bool, true, false, cond, ◌||◌, false≢true}
use Rattle.std.specs.Prelude.{Option, None, Some}
use mathlib.Core.Path.{◌≡◌, refl, sym, ap, ◌∙◌, fun_ext, subst}
use lib.ListN.{length}
use Rattle.base_key.specs.Bytes.{Bytes}
use Rattle.base_key.specs.Keys.{Key, same_key}
use Rattle.resp_spec.specs.Reply.{Reply, Error, NilArray, array, ok, encode}
use Rattle.store_memtable.specs.Table.{Write, Table, keys_of, find, last_writes}
use Rattle.store_memtable.specs.Versions.{Store, read_at, newest, moved, table, commit}
use Rattle.store_memtable.proofs.TableLaws.{write_all_last_writes}
use Rattle.store_memtable.proofs.VersionLaws.{ascending_table, read_last, table_commit, Sound}
use Rattle.group_spec.specs.declared.Verdict.{Verdict}
use Rattle.group_spec.specs.declared.Verdict.TheVariants.{Accepted, Conflict, NoRoom, NoSequence, NotTaken}
use Rattle.group_spec.specs.Group.{plain, any_key, among, verdict_alone}
use Rattle.group_spec.proofs.KeyLists.{among_append, any_last_all, among_last}
use Rattle.command_spec.specs.Names.{Args, Row, row_of, name_word, arguments, count_right, with_options, operation_of, arity, Control, MULTI, EXEC, DISCARD, WATCH, UNWATCH, QUIT, other, control_of}
use Rattle.command_spec.specs.Command.{Listing, Executed, runs, lists, Effect, set_options, executed_of, command_of, run, run_queue}
use Rattle.command_spec.specs.Session.{Watching, watched_keys, Session, clear, Result, number, reply, Done, says, returns, committed, direct, add_keys, watch_fits, watching, outside_multi, queue_fits, queued_reply, marked, enqueue, queue_up, not_queueable, exec_abort, execute, inside_multi, respond_by, respond}
use Rattle.command_spec.specs.Sessions.{all_queueable}
use Rattle.command_spec.proofs.WatchLaws.{among_adds}
use Rattle.command_spec.proofs.SessionLaws.{QueueHolds, SessionSound, ran_by, writes_by, ends, execute_failed, execute_ends}
use Rattle.call_spec.specs.Posting.{is_reply, Item, listed, exec, Client, closed, Turn, quietly, only_if, turn_exec, turn_by, post_queue, post, post_all, AllHold}
use Rattle.call_spec.specs.Verdicts.{item_keys, written_in}
use Rattle.call_spec.proofs.MovedLaws.{commit_moves, commit_keeps, no_keys, one_item, unwritten}
use Rattle.call_spec.proofs.ReplyLaws.{ok_told, queued_told, error_not_ok, error_not_queued, abort_told, nil_array_told, nil_array_no_array, error_no_array, array_told}
use Rattle.call_spec.proofs.CommandLaws.{queue_writes, queue_replies}

-- what posting keeps of a session: its queue, and the same watched keys, though in another order
pub record Mirrors (d : Client) (s : Session) : Type 0 where
  pub queue : d.queue ≡ s.queue
  pub watched : (k : Key) → among d.watched k ≡ among (watched_keys s.watch) k

pub closed_clear : Mirrors closed clear
closed_clear = record { queue = refl; watched = λ k. refl }

-- posting follows: what it makes of the answer changes the table as the request does, mirrors the session, and holds
pub record Follows (before after : Store) (s : Session) (t : Turn) : Type 0 where
  pub tables : post_all t.items (table before.versions) ≡ table after.versions
  pub client : Mirrors t.client s
  pub holds : AllHold t.items (table before.versions)
  pub quiet : t.items ≡ [] → after ≡ before
  pub moves : (k : Key) → among (written_in t.items (table before.versions)) k ≡ true → moved before.last after.versions k ≡ true
  pub keeps : (k : Key) → among (written_in t.items (table before.versions)) k ≡ false → newest after.versions k ≡ newest before.versions k

-- an item is something
pub some_item : {x : Item} {xs : List Item} {A : Type 0} → x ∷ xs ≡ [] → A
some_item e = let z : ◌≡◌ {A = ℕ} 0 1 = cc in absurd (omega arith)

-- a request that commits nothing and posts nothing
pub still : (st : Store) (s : Session) (d : Client) → Mirrors d s → Follows st st s (quietly d)
unfolding post_all
still st s d m = record { tables = refl; client = m; holds = tt; quiet = λ e. refl; moves = λ k h. no_keys _ k h; keeps = λ k h. refl }

-- reading the last sequence is reading the table
pub read_now : (st : Store) → Sound st → read_at st.last st.versions ≡ find (table st.versions)
read_now st b = fun_ext (read_last st.last st.versions b.seqs)

-- by what a session answers; a number is not posted
abbrev pub FollowedBy : Store → Client → Control → Option (List Args) → Args → Done → Result → Type 0
FollowedBy st d c q a done (number n) = Unit {0}
FollowedBy st d c q a done (reply r) = Follows st done.store done.session (turn_by c q a (encode r) d)

module _ (st : Store) (s : Session) (d : Client) (sound : Sound st) (good : SessionSound st.last s) (m : Mirrors d s) where
  -- where the answer is no `+OK`, the client stays
  not_ok : (text : Bytes) (s' : Session) (new : Client) → Mirrors d s' → Follows st st s' (only_if (is_reply ok (encode (Error text))) d new)
  not_ok text s' new g = rw (error_not_ok text) (still st s' d g)

  is_ok : (s' : Session) (new : Client) → Mirrors new s' → Follows st st s' (only_if (is_reply ok (encode ok)) d new)
  is_ok s' new g = rw ok_told (still st s' new g)

  -- OUTSIDE MULTI
  no_list : {A : Type 0} (l : Listing) (b : Bytes) (k : Key) → among (item_keys (listed l b) (table st.versions)) k ≡ true → A
  unfolding item_keys any_key
  no_list l b k h = absurd (false≢true h)

  direct_follows : (a : Args) (x : Executed) → executed_of a ≡ x → FollowedBy st d other None a (direct x st s) (direct x st s).result
  unfolding direct turn_by
  direct_follows a (lists l) p =
      rw p (record { tables = unfold post_all post in refl; client = m; holds = unfold post in (refl, tt); quiet = λ z. some_item z; moves = λ k h. one_item _ _ k h (λ e. no_list l _ k e); keeps = λ k h. refl })
  direct_follows a (runs c) p = rw (read_now st sound) (go (verdict_alone st (plain e.1)))
    where
      e : Effect
      e = run (find (table st.versions)) c

      go : (v : Verdict) → FollowedBy st d other None a (committed v e st s) (committed v e st s).result
      go Accepted =
          unfold committed in rw p (record { tables = unfold post_all post in sym (table_commit e.1 st sound.seqs); client = m; holds = (refl, tt); quiet = λ z. some_item z; moves = λ k h. one_item _ _ k h (λ x. unfold item_keys in commit_moves e.1 st k x); keeps = λ k h. unfold item_keys in commit_keeps e.1 st k (unwritten _ [] _ k h).0 })
      go Conflict = unfold committed in tt
      go NoRoom = unfold committed in tt
      go NoSequence = unfold committed in tt
      go NotTaken = unfold committed in tt

  watching_follows : (a : Args) → FollowedBy st d WATCH None a (watching (arguments a) st s) (watching (arguments a) st s).result
  unfolding watching turn_by
  watching_follows a = go (watch_fits (watched_keys w))
    where
      w : Watching
      w = add_keys st.last (arguments a) s.watch

      after : Done
      after = says ok st (record { queue = s.queue; failed = s.failed; watch = w })

      -- the keys of the watch, and those that were added
      more : (k : Key) → among (d.watched ++ arguments a) k ≡ among (watched_keys w) k
      more k = among_append d.watched (arguments a) k ∙ ap (λ (b : Bool). b || among (arguments a) k) (m.watched k) ∙ sym (among_adds st.last (arguments a) s.watch k)

      go : (b : Bool) → FollowedBy st d WATCH None a (cond b after (returns 5 st s)) (cond b after (returns 5 st s)).result
      go true = is_ok _ _ (record { queue = m.queue; watched = more })
      go false = tt

  outside_follows : (a : Args) (c : Control) (r : Row) → FollowedBy st d c None a (outside_multi c r a st s) (outside_multi c r a st s).result
  unfolding outside_multi turn_by
  outside_follows a MULTI r = is_ok _ _ (record { queue = refl; watched = m.watched })
  outside_follows a EXEC r = still st s d m
  outside_follows a DISCARD r = not_ok _ s closed m
  outside_follows a WATCH r = go (count_right r (length (arguments a)))
    where
      go : (b : Bool) → FollowedBy st d WATCH None a (cond b (watching (arguments a) st s) (says (arity r) st s)) (cond b (watching (arguments a) st s) (says (arity r) st s)).result
      go true = watching_follows a
      go false = unfold arity in not_ok _ s _ m
  outside_follows a UNWATCH r = is_ok _ _ (record { queue = m.queue; watched = λ k. refl })
  outside_follows a QUIT r = still st clear closed closed_clear
  outside_follows a other r = direct_follows a (executed_of a) refl

  -- INSIDE MULTI
  enqueue_follows : (q : List Args) (a : Args) → FollowedBy st d other (Some q) a (enqueue q a st s) (enqueue q a st s).result
  unfolding enqueue turn_by
  enqueue_follows q a = go (queue_fits (q ++ a ∷ []))
    where
      after : Done
      after = says queued_reply st (record { queue = Some (q ++ a ∷ []); failed = s.failed; watch = s.watch })

      go : (b : Bool) → FollowedBy st d other (Some q) a (cond b after (returns 4 st (marked s))) (cond b after (returns 4 st (marked s))).result
      go true = rw queued_told (still st _ _ (record { queue = refl; watched = m.watched }))
      go false = tt

  queue_up_follows : (q : List Args) (r : Row) (a : Args) → FollowedBy st d other (Some q) a (queue_up q r a st s) (queue_up q r a st s).result
  unfolding queue_up turn_by
  queue_up_follows q r a = go (count_right r (length (arguments a))) (with_options (operation_of r.name) (length (arguments a)))
    where
      by : Bool → Bool → Done
      by b c = cond b (cond c (says set_options st (marked s)) (enqueue q a st s)) (says (arity r) st (marked s))

      go : (b c : Bool) → FollowedBy st d other (Some q) a (by b c) (by b c).result
      go true true = rw (error_not_queued _) (still st (marked s) d (record { queue = m.queue; watched = m.watched }))
      go true false = enqueue_follows q a
      go false c = unfold arity in rw (error_not_queued _) (still st (marked s) d (record { queue = m.queue; watched = m.watched }))

  -- an accepted EXEC
  queue_key : (b : Bytes) (k : Key) (ws : List Write) (t : Table) (xs : List Executed) → ws ≡ post_queue t xs → among (item_keys (exec xs b) t) k ≡ true → among (keys_of ws) k ≡ true
  unfolding item_keys
  queue_key b k ws t xs e h = rw e h

  queue_other : (b : Bytes) (k : Key) (ws : List Write) (t : Table) (xs : List Executed) → ws ≡ post_queue t xs → among (item_keys (exec xs b) t) k ≡ false → among (keys_of ws) k ≡ false
  unfolding item_keys
  queue_other b k ws t xs e h = rw e h

  exec_follows : (q : List Args) → all_queueable q ≡ true → Follows st (commit (writes_by q st) st) clear (turn_exec q (encode (array (ran_by q st).replies)) d)
  unfolding turn_exec ran_by writes_by post_all post
  exec_follows q queueable =
      let r = read_at st.last st.versions in
      let xs = map executed_of q in
      let t = table st.versions in
      let ws = (run_queue r (map command_of q)).writes in
      let up = ascending_table st.versions in
      let same : ws ≡ post_queue t xs = queue_writes q r t queueable up (read_now st sound) in
      rw (array_told (run_queue r (map command_of q)).replies) (record {
        tables = rw (← same) (sym (write_all_last_writes ws t up)) ∙ sym (table_commit (last_writes [] ws) st sound.seqs);
        client = closed_clear;
        holds = (ap (λ (ps : List Reply). encode (array ps)) (queue_replies q r t queueable up (read_now st sound)), tt);
        quiet = λ z. some_item z;
        moves = λ k h. one_item _ t k h (λ x. commit_moves (last_writes [] ws) st k (among_last ws [] k (rw (queue_key _ k ws t xs same x))));
        keeps = λ k h. commit_keeps (last_writes [] ws) st k (any_last_all (λ j. same_key j k) ws ∙ queue_other _ k ws t xs same (unwritten _ [] t k h).0);
      })

  execute_follows : (q : List Args) (a : Args) → all_queueable q ≡ true → FollowedBy st d EXEC (Some q) a (execute q st s) (execute q st s).result
  unfolding turn_by
  execute_follows q a queueable = go s.failed refl
    where
      nil : Follows st st clear (turn_exec q (encode NilArray) d)
      nil = unfold turn_exec in rw (nil_array_no_array, nil_array_told) (still st clear closed closed_clear)

      abort : Follows st st clear (turn_exec q (encode exec_abort) d)
      abort = unfold turn_exec in rw (error_no_array _, abort_told) (last (is_reply NilArray (encode exec_abort)))
        where
          last : (b : Bool) → Follows st st clear (only_if (b || true) d closed)
          last true = still st clear closed closed_clear
          last false = still st clear closed closed_clear

      by : (v : Verdict) → FollowedBy st d EXEC (Some q) a (ends v (ran_by q st) (writes_by q st) st s) (ends v (ran_by q st) (writes_by q st) st s).result
      by Accepted = unfold ends in exec_follows q queueable
      by Conflict = unfold ends in nil
      by NoRoom = unfold ends in tt
      by NoSequence = unfold ends in tt
      by NotTaken = unfold ends in nil

      go : (f : Bool) → s.failed ≡ f → FollowedBy st d EXEC (Some q) a (execute q st s) (execute q st s).result
      go true p = rw (execute_failed q st s p) abort
      go false p = rw (execute_ends q st s p) (by _)

  inside_follows : (a : Args) (q : List Args) (c : Control) (r : Row) → all_queueable q ≡ true → FollowedBy st d c (Some q) a (inside_multi c q r a st s) (inside_multi c q r a st s).result
  unfolding inside_multi turn_by
  inside_follows a q EXEC r e = execute_follows q a e
  inside_follows a q DISCARD r e = is_ok clear closed closed_clear
  inside_follows a q MULTI r e = not_ok _ s _ m
  inside_follows a q WATCH r e = not_ok _ s _ m
  inside_follows a q QUIT r e = still st clear closed closed_clear
  inside_follows a q UNWATCH r e = unfold not_queueable in not_ok _ (marked s) _ (record { queue = m.queue; watched = m.watched })
  inside_follows a q other r e = go r.queueable
    where
      go : (b : Bool) → FollowedBy st d other (Some q) a (cond b (queue_up q r a st s) (says (not_queueable (name_word a)) st (marked s))) (cond b (queue_up q r a st s) (says (not_queueable (name_word a)) st (marked s))).result
      go true = queue_up_follows q r a
      go false = unfold not_queueable in rw (error_not_queued _) (still st (marked s) d (record { queue = m.queue; watched = m.watched }))

  pub respond_follows : (a : Args) → FollowedBy st d (control_of (row_of (name_word a)).name) d.queue a (respond a st s) (respond a st s).result
  unfolding respond respond_by
  respond_follows a =
      subst (λ (q : Option (List Args)). FollowedBy st d (control_of (row_of (name_word a)).name) q a (respond a st s) (respond a st s).result) (sym m.queue) (go s.queue refl)
    where
      go : (q : Option (List Args)) → s.queue ≡ q
          → FollowedBy st d (control_of (row_of (name_word a)).name) q a (respond_by q (row_of (name_word a)) a st s) (respond_by q (row_of (name_word a)) a st s).result
      go None e = outside_follows a (control_of (row_of (name_word a)).name) (row_of (name_word a))
      go (Some q) e = inside_follows a q (control_of (row_of (name_word a)).name) (row_of (name_word a)) (subst QueueHolds e good.queue).names
