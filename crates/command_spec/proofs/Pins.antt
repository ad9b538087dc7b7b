-- What the answers are, pinned apart from their definitions: eleven names may be queued, a long reply leaves all, DEL counts the live keys, a watched key carries its first sequence, EXEC and a
-- command that are accepted say so, a command that cannot be queued marks, a queued one is what it means outside MULTI.
use Prim.Native.Nat.{ℕ, ◌+◌}
use native.Mathlib.Omega.{arith}
use mathlib.Core.Bool.{Bool, true, false, cond, not, ◌&&◌, false≢true}
use mathlib.Core.List.{List, [], ◌∷◌, ◌++◌, map}
use Rattle.std.specs.Prelude.{Option, None, Some}
use mathlib.Core.Path.{◌≡◌, refl, ap, ◌∙◌}
use lib.Dec.{leb}
use lib.IntN.{pos}
use lib.ListN.{length}
use Rattle.base_key.specs.Bytes.{Bytes, bytes}
use Rattle.base_key.specs.Keys.{Key}
use Rattle.resp_spec.specs.Reply.{Integer, array}
use Rattle.store_memtable.specs.Table.{Value, Reader, find}
use Rattle.store_memtable.specs.Versions.{Store, commit}
use Rattle.group_spec.specs.declared.Verdict.TheVariants.{Accepted}
use Rattle.group_spec.specs.Group.{among}
use Rattle.base_key.proofs.Bytes.{both_parts}
use Rattle.command_spec.specs.declared.Name.{Name}
use Rattle.command_spec.specs.declared.Name.TheVariants.{Queueable}
use Rattle.command_spec.specs.Names.{Args, Row, rows, queueable_texts, row_in, row_of, same_name, name_word, arguments, count_right, with_options, operation_of, may_queue, request_queueable, arity, other}
use Rattle.command_spec.specs.Command.{DEL, EXISTS, runs, fixed, Effect, set_options, command_as, executed_as, executed_of, command_of, tombstone, live_one, live, run}
use Rattle.command_spec.specs.Session.{watched_keys, Session, clear, Done, says, returns, marked, committed, add_keys, watch_fits, watching, queue_fits, queued_reply, enqueue, queue_up, verdict_exec, execute, inside_multi}
use Rattle.command_spec.specs.Sessions.{ascending}
use Rattle.command_spec.specs.Finish.{silent, fitted}
use Rattle.command_spec.proofs.WatchLaws.{carried, adds_carry}
use Rattle.command_spec.proofs.SessionLaws.{ran_by, writes_by, ends, execute_ends}

-- the names that may be queued, as document 01 lists them
pub eleven_names : queueable_texts rows
    ≡ bytes "GET" ∷ bytes "SET" ∷ bytes "DEL" ∷ bytes "EXISTS" ∷ bytes "MGET" ∷ bytes "MSET" ∷ bytes "INCR" ∷ bytes "INCRBY" ∷ bytes "DECR" ∷ bytes "PING" ∷ bytes "ECHO" ∷ []
unfolding queueable_texts rows
eleven_names = refl

-- 3 leaves all
pub long_reply : (room used : ℕ) (b : Bytes) (d : Done) (st : Store) (s : Session) → leb (length b) room ≡ false → fitted room used b d st s ≡ silent 3 0 st s
unfolding fitted
long_reply room used b d st s e = rw e

-- a reply that fits, with what the request left
pub short_reply : (room used : ℕ) (b : Bytes) (d : Done) (st : Store) (s : Session) → leb (length b) room ≡ true
    → fitted room used b d st s ≡ record { number = 0; used = used; reply = b; store = d.store; session = d.session }
unfolding fitted
short_reply room used b d st s e = rw e

-- the key in front, if it is live
abbrev pub if_live : Option Value → Key → List Key → List Key
if_live None k ks = ks
if_live (Some v) k ks = k ∷ ks

-- the live keys among these, each as often as it stands there
unfoldable pub living_of : Reader → List Key → List Key
living_of r [] = []
living_of r (k ∷ ks) = if_live (r k) k (living_of r ks)

living_count : (r : Reader) (ks : List Key) → live r ks ≡ length (living_of r ks)
unfolding live living_of
living_count r [] = refl
living_count r (k ∷ ks) = go (r k) (living_count r ks)
  where
    go : (v : Option Value) → live r ks ≡ length (living_of r ks) → live_one v + live r ks ≡ length (if_live v k (living_of r ks))
    go None e = omega (arith, e)
    go (Some x) e = omega (arith, e)

-- DEL and EXISTS count the live keys; DEL writes a tombstone for each argument
pub del_counts : (r : Reader) (ks : List Key) → run r (DEL ks) ≡ (Integer (pos (length (living_of r ks))), map tombstone ks)
unfolding run
del_counts r ks = ap {B = Effect} (λ (n : ℕ). (Integer (pos n), map tombstone ks)) (living_count r ks)

pub exists_counts : (r : Reader) (ks : List Key) → run r (EXISTS ks) ≡ (Integer (pos (length (living_of r ks))), [])
unfolding run
exists_counts r ks = ap {B = Effect} (λ (n : ℕ). (Integer (pos n), [])) (living_count r ks)

-- WATCH: a key that is watched keeps its sequence, and one that is not gets the last sequence
pub watch_carries : (ks : List Key) (st : Store) (s : Session) → ascending (watched_keys s.watch) ≡ true → watch_fits (watched_keys (add_keys st.last ks s.watch)) ≡ true
    → (k : Key) → find (watching ks st s).session.watch k ≡ carried st.last (find s.watch k) (among ks k)
unfolding watching
watch_carries ks st s o f k = rw f (adds_carry st.last ks s.watch o k)

-- an accepted command answers and writes: no space is reported as spent
pub accepted_says : (e : Effect) (st : Store) (s : Session) → committed Accepted e st s ≡ says e.0 (commit e.1 st) s
unfolding committed
accepted_says e st s = refl

-- an accepted EXEC answers by the array of its commands' replies
pub exec_says : (q : List Args) (st : Store) (s : Session) → s.failed ≡ false → verdict_exec (writes_by q st) st s.watch ≡ Accepted
    → execute q st s ≡ says (array (ran_by q st).replies) (commit (writes_by q st) st) clear
unfolding ends
exec_says q st s f e = execute_ends q st s f ∙ ap (λ v. ends v (ran_by q st) (writes_by q st) st s) e

-- queueing leaves the store
pub enqueue_leaves : (q : List Args) (a : Args) (st : Store) (s : Session) → (enqueue q a st s).store ≡ st
unfolding enqueue
enqueue_leaves q a st s = go (queue_fits (q ++ a ∷ []))
  where
    go : (b : Bool) → (cond b (says queued_reply st (record { queue = Some (q ++ a ∷ []); failed = s.failed; watch = s.watch })) (returns 4 st (marked s))).store ≡ st
    go true = refl
    go false = refl

-- INSIDE MULTI, one of the eleven: a wrong argument count is answered by its error, queues nothing and marks the session
module _ (q : List Args) (r : Row) (a : Args) (st : Store) (s : Session) (named : r.queueable ≡ true) where
  pub wrong_count : count_right r (length (arguments a)) ≡ false → inside_multi other q r a st s ≡ says (arity r) st (marked s)
  unfolding inside_multi queue_up
  wrong_count e = rw (e, named)

  -- so does SET with options
  pub options_refused : count_right r (length (arguments a)) ≡ true → with_options (operation_of r.name) (length (arguments a)) ≡ true
      → inside_multi other q r a st s ≡ says set_options st (marked s)
  unfolding inside_multi queue_up
  options_refused e f = rw (e, f, named)

  -- and any other joins the queue, whatever its arguments are, or returns 4
  pub right_joins : count_right r (length (arguments a)) ≡ true → with_options (operation_of r.name) (length (arguments a)) ≡ false → inside_multi other q r a st s ≡ enqueue q a st s
  unfolding inside_multi queue_up
  right_joins e f = rw (e, f, named)

-- A QUEUED COMMAND is what the same request means outside MULTI: no wrong argument count, no options, no unknown name is among them.
-- The names that are marked as queueable are those of operations
data AllNamed : List Row → Type 0 where
  nil : AllNamed []
  cons : {r : Row} {rs : List Row} → (r.queueable ≡ true → r.name ≡ Queueable (operation_of r.name)) → AllNamed rs → AllNamed (r ∷ rs)

off : (b : Bool) → not b ≡ true → b ≡ false
off false e = refl
off true e = absurd (false≢true e)

no_row : {A : Type 0} → false ≡ true → A
no_row e = absurd (false≢true e)

all_named : AllNamed rows
unfolding rows
all_named =
    cons (λ e. refl) (cons (λ e. refl) (cons (λ e. refl) (cons (λ e. refl) (cons (λ e. refl) (cons (λ e. refl) (cons (λ e. refl) (cons (λ e. refl) (cons (λ e. refl) (cons (λ e. refl) (cons (λ e. refl)
    (cons no_row (cons no_row (cons no_row (cons no_row (cons no_row (cons no_row (cons no_row (cons no_row (cons no_row (cons no_row nil))))))))))))))))))))

named_in : (rs : List Row) (word : Bytes) → AllNamed rs → (row_in rs word).queueable ≡ true → (row_in rs word).name ≡ Queueable (operation_of (row_in rs word).name)
unfolding row_in
named_in [] word nil = no_row
named_in (r ∷ rs) word (cons n ns) = go (same_name word r.text) (named_in rs word ns)
  where
    Right : Row → Type 0
    Right x = x.queueable ≡ true → x.name ≡ Queueable (operation_of x.name)

    go : (b : Bool) → Right (row_in rs word) → Right (elim b [ true ↦ r | false ↦ row_in rs word ])
    go true again = n
    go false again = again

pub queueable_named : (word : Bytes) → (row_of word).queueable ≡ true → (row_of word).name ≡ Queueable (operation_of (row_of word).name)
unfolding row_of
queueable_named word = named_in rows word all_named

pub queued_read : (a : Args) → request_queueable a ≡ true → executed_of a ≡ runs (command_of a)
unfolding request_queueable may_queue row_of executed_of executed_as command_of
queued_read a h = go (row_in rows (name_word a)) (named_in rows (name_word a) all_named) h
  where
    n : ℕ
    n = length (arguments a)

    go : (r : Row) → (r.queueable ≡ true → r.name ≡ Queueable (operation_of r.name)) → (r.queueable && count_right r n && not (with_options (operation_of r.name) n)) ≡ true
        → cond (count_right r n) (executed_as r.name (name_word a) (arguments a)) (fixed (arity r)) ≡ runs (command_as (operation_of r.name) (arguments a))
    go r named e =
        let right = both_parts (r.queueable && count_right r n) (not (with_options (operation_of r.name) n)) e in
        let counted = both_parts r.queueable (count_right r n) right.0 in
        ap (λ (b : Bool). cond b (executed_as r.name (name_word a) (arguments a)) (fixed (arity r))) counted.1
        ∙ ap (λ (x : Name). executed_as x (name_word a) (arguments a)) (named counted.0)
        ∙ ap (λ (b : Bool). cond b (fixed set_options) (runs (command_as (operation_of r.name) (arguments a)))) (off (with_options (operation_of r.name) n) right.1)
