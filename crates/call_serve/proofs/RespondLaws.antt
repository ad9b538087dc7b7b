-- A request by its route: what the route's function answers and leaves is what the request is to. Assumes nothing.
use Prim.Native.Nat.{ℕ, ◌≤◌}
use mathlib.Core.Path.{◌≡◌, refl, sym, ap, ◌∙◌, subst}
use mathlib.Core.Bool.{Bool, true, false, cond}
use mathlib.Core.List.{List, [], ◌∷◌, ◌++◌}
use Rattle.std.specs.Prelude.{Some}
use lib.Dec.{leb}
use lib.ListN.{length, get_or}
use Rattle.base_key.specs.Bytes.{Bytes, part}
use Rattle.base_key.specs.Keys.{Key}
use Rattle.resp_spec.specs.Reply.{Reply, ok, encode}
use Rattle.store_memtable.specs.Versions.{Store, read_at, commit}
use Rattle.store_memtable.specs.Layout.{last_word, store_in, leave_words, leave_bytes}
use Rattle.store_memtable.proofs.Sequence.{leave_words_same, leave_bytes_same}
use Rattle.group_spec.specs.declared.Verdict.{Verdict}
use Rattle.group_spec.specs.Group.{plain, verdict_alone, is_accepted, verdict_byte}
use Rattle.command_spec.specs.Numbers.{AnswerNumbers}
use Rattle.command_spec.specs.Names.{Args, Row, row_of, name_word, arguments, count_right, with_options, operation_of, arity, control_of}
use Rattle.command_names.specs.declared.Row.{Row as CodeRow}
use Rattle.command_names.specs.Rows.{Looked}
use Rattle.command_spec.specs.Command.{Effect, Executed, runs, lists, set_options, executed_of, run}
use Rattle.command_spec.specs.Session.{watched_keys, Session, Result, number, reply, Done, says, returns, committed, direct, execute, respond, add_keys, watch_fits, enqueue, queue_up, queue_fits, queued_reply, marked}
use Rattle.command_spec.specs.Sessions.{yes?, queue_in, queue_of, session_from, session_words, session_bytes}
use Rattle.command_spec.specs.Held.{Held}
use Rattle.command_spec.specs.Finish.{Served, silent, fitted, finish_by, finish}
use Rattle.command_spec.specs.Places.{arguments_at}
use Rattle.session_memory.proofs.Kept.{words_kept, bytes_kept, held_by_tests}
use Rattle.command_answer.proofs.Finish.{replied}
use Rattle.command_room.specs.Served.{Answers}
use Rattle.exec_finish.specs.Leaving.{Leaves}
use Rattle.exec_run.specs.Execution.{exec_served}
use Rattle.command_spec.specs.Watch.{watching_with}
use Rattle.session_route.specs.declared.routes.Step.{Step}
use Rattle.session_route.specs.declared.routes.Step.TheVariants.{Open, Unwatch, Clear, Reply as Only}
use Rattle.session_route.specs.declared.routes.Way.{Way}
use Rattle.session_route.specs.declared.routes.Way.TheVariants.{Steer, Watch, Queue, NotQueueable}
use Rattle.session_route.specs.declared.routes.Route.{Route}
use Rattle.session_route.specs.declared.routes.Route.TheVariants.{Here, Exec, Run}
use Rattle.session_route.specs.Answers.{changing, AnsweredAt, AnsweredWith}
use Rattle.session_route.specs.Routes.{route_by, step_done, queue_done, watch_done, watching_at, way_done, route_done}
use Rattle.session_route.specs.Responds.{responded, Left, Ready}
use Rattle.session_route.proofs.Routing.{name_first, request_routed}
use Rattle.session_route.proofs.Requested.{here_answers, exec_request, run_request}

-- WHAT STAYS. A request that leaves the store leaves it as bytes too, and so for the session
module _ (room used : ℕ) (d : Done) (st : Store) (s : Session) where
  pub finish_store : d.store ≡ st → (finish room used d st s).store ≡ st
  unfolding finish finish_by fitted
  finish_store e = go d.result
    where
      fits : (t : Bool) (text : Bytes) → (cond {A = Served} t (replied used text d.store d.session) (silent 3 0 st s)).store ≡ st
      fits true text = e
      fits false text = refl

      go : (x : Result) → (finish_by x room used d st s).store ≡ st
      go (number n) = e
      go (reply r) = fits (leb (length (encode r)) room) (encode r)

  pub finish_session : d.session ≡ s → (finish room used d st s).session ≡ s
  unfolding finish finish_by fitted
  finish_session e = go d.result
    where
      fits : (t : Bool) (text : Bytes) → (cond {A = Served} t (replied used text d.store d.session) (silent 3 0 st s)).session ≡ s
      fits true text = e
      fits false text = refl

      go : (x : Result) → (finish_by x room used d st s).session ≡ s
      go (number n) = e
      go (reply r) = fits (leb (length (encode r)) room) (encode r)

step_store : (x : Step) (st : Store) (s : Session) → (step_done x st s).store ≡ st
unfolding step_done changing
step_store Open st s = refl
step_store Unwatch st s = refl
step_store Clear st s = refl
step_store (Only f) st s = refl

either_store : (v : Bool) (x y : Done) (st : Store) → x.store ≡ st → y.store ≡ st → (cond v x y).store ≡ st
either_store true x y st p q = p
either_store false x y st p q = q

-- a request that the session answers
way_store : (way : Way) (r : Row) (a : Args) (st : Store) (s : Session) → (way_done way r a st s).store ≡ st
unfolding way_done watch_done watching_at queue_done queue_up enqueue changing
way_store (Steer x) r a st s = step_store x st s
way_store Watch r a st s =
    let ks : List Key = watched_keys (add_keys st.last (arguments a) s.watch) in
    either_store (count_right r (length (arguments a))) (watching_at (arguments a) st.last st s) (says (arity r) st s) st
    (either_store (watch_fits ks) (says ok st (watching_with (arguments a) st.last s)) (returns 5 st s) st refl refl) refl
way_store Queue r a st s =
    let q : List Args = queue_of s.queue ++ a ∷ [] in
    let n : ℕ = length (arguments a) in
    either_store (count_right r n) (cond (with_options (operation_of r.name) n) (says set_options st (marked s)) (enqueue (queue_of s.queue) a st s)) (says (arity r) st (marked s)) st
    (either_store (with_options (operation_of r.name) n) (says set_options st (marked s)) (enqueue (queue_of s.queue) a st s) st refl
    (either_store (queue_fits q) (says queued_reply st (record { queue = Some q; failed = s.failed; watch = s.watch })) (returns 4 st (marked s)) st refl refl)) refl
way_store NotQueueable r a st s = refl

-- a command outside MULTI
committed_session : (v : Bool) (n : ℕ) (r : Reply) (st' st : Store) (s : Session) → (cond {A = Done} v (says r st' s) (returns n st s)).session ≡ s
committed_session true n r st' st s = refl
committed_session false n r st' st s = refl

direct_session : (x : Executed) (st : Store) (s : Session) → (direct x st s).session ≡ s
unfolding direct committed
direct_session (runs c) st s =
    let e : Effect = run (read_at st.last st.versions) c in
    let v : Verdict = verdict_alone st (plain e.1) in
    committed_session (is_accepted v) (verdict_byte v) e.0 (commit e.1 st) st s
direct_session (lists l) st s = refl

-- what `route_of` and the functions of the routes ask
module _ {w : List ℕ} {b : Bytes} {s : List ℕ} {sb out : Bytes} (z : Ready w b s sb out) where
  pub ready_held : Held s sb
  ready_held = held_by_tests (last_word w) s sb z.one z.ok

-- THE REQUEST, by its route
module _ (used : ℕ) (asked : Args) (w : List ℕ) (b : Bytes) (s : List ℕ) (sb out : Bytes) where
  abbrev whole : Served
  whole = finish (length out) used (respond asked (store_in w b) (session_from s sb)) (store_in w b) (session_from s sb)

  module _ {row : CodeRow} {route : Route} (z : Ready w b s sb out) (looked : Looked (name_word asked) row)
      (e : route ≡ route_by (yes? (get_or s 0 0)) (control_of row.name) row.queueable) where
    module _ {r : AnswerNumbers} {out' : Bytes} where
      pub here_left : {way : Way} {last : ℕ} {s' : List ℕ} {sb' : Bytes} → route ≡ Here way → last ≡ get_or w 2 0
          → AnsweredWith last (way_done way (row_of (name_word asked)) asked) s s' sb sb' used out r out'
          → Left (responded (length out) used asked w b s sb) out w b s sb r out' w b s' sb'
      unfolding responded store_in
      here_left {way} {last} {s'} {sb'} f k x =
          let a : AnsweredAt (store_in w b) (respond asked (store_in w b) (session_from s sb)) s s' sb sb' used out r out' =
          here_answers s sb asked row way looked e f x (store_in w b) (sym k) in
          let g : respond asked (store_in w b) (session_from s sb) ≡ way_done way (row_of (name_word asked)) asked (store_in w b) (session_from s sb) =
          request_routed s sb asked looked e (store_in w b)
          ∙ ap (λ (t : Route). route_done t (row_of (name_word asked)) asked (store_in w b) (session_from s sb)) f ∙ (unfold route_done in refl) in
          let stays : whole.store ≡ store_in w b =
          finish_store (length out) used (respond asked (store_in w b) (session_from s sb)) (store_in w b) (session_from s sb)
          (ap (λ (d : Done). d.store) g ∙ way_store way (row_of (name_word asked)) asked (store_in w b) (session_from s sb)) in
          record {
            says = a.says;
            store = record {
              words = sym (ap (λ (st : Store). leave_words st w) stays ∙ leave_words_same w b z.valid);
              bytes = sym (ap (λ (st : Store). leave_bytes st b) stays ∙ leave_bytes_same w b z.valid);
            };
            session = a.left;
          }

      pub exec_left : {w' : List ℕ} {b' s' : List ℕ} → route ≡ Exec
          → Leaves (exec_served (length out) used s sb w b) out w b s sb r out' w' b' s'
          → Left (responded (length out) used asked w b s sb) out w b s sb r out' w' b' s' sb
      unfolding responded exec_served
      exec_left {w'} {b'} {s'} f x =
          let g : finish (length out) used (execute (queue_in s sb) (store_in w b) (session_from s sb)) (store_in w b) (session_from s sb) ≡ whole =
          ap (λ (d : Done). finish (length out) used d (store_in w b) (session_from s sb)) (sym (exec_request s sb asked looked e (store_in w b) (ready_held z) f)) in
          subst (λ (d : Served). Left d out w b s sb r out' w' b' s' sb) g
          (record { says = x.says; store = x.store; session = record { words = x.session; bytes = x.session_bytes } })

      pub run_left : {w' : List ℕ} {b' : Bytes} → route ≡ Run
          → Answers (executed_of asked) used out w b r out' w' b'
          → Left (responded (length out) used asked w b s sb) out w b s sb r out' w' b' s sb
      unfolding responded
      run_left {w'} {b'} f x =
          let st : Store = store_in w b in
          let ss : Session = session_from s sb in
          let d : Served = finish (length out) used (direct (executed_of asked) st ss) st ss in
          let g : d ≡ whole = ap (λ (y : Done). finish (length out) used y st ss) (sym (run_request s sb asked looked e st f)) in
          let k : d.session ≡ ss = finish_session (length out) used (direct (executed_of asked) st ss) st ss (direct_session (executed_of asked) st ss) in
          subst (λ (y : Served). Left y out w b s sb r out' w' b' s sb) g
          (record {
            says = x.says ss;
            store = x.left ss;
            session = record {
              words = sym (ap (λ (t : Session). session_words t s sb) k ∙ words_kept (ready_held z));
              bytes = sym (ap (λ (t : Session). session_bytes t sb) k ∙ bytes_kept (ready_held z));
            };
          })
