-- A request by its route: the answer is that of `respond`, and the session that it leaves is valid. Assumes nothing.
use Prim.Native.Nat.{ℕ}
use mathlib.Core.Path.{◌≡◌, refl, sym, ap, ◌∙◌, subst}
use mathlib.Core.Bool.{Bool, true, false, cond}
use mathlib.Core.List.{List, ◌∷◌}
use lib.Dec.{leb}
use lib.ListN.{length, get_or}
use Rattle.base_key.specs.Bytes.{Bytes}
use Rattle.resp_spec.specs.Reply.{encode}
use Rattle.store_memtable.specs.Versions.{Store}
use Rattle.store_memtable.proofs.VersionLaws.{Sound}
use Rattle.command_spec.specs.Numbers.{AnswerNumbers}
use Rattle.command_spec.specs.Names.{Args, Row, row_of, name_word, arguments, control_of}
use Rattle.command_names.specs.declared.Row.{Row as CodeRow}
use Rattle.command_names.specs.Rows.{Looked}
use Rattle.command_spec.specs.Command.{executed_of}
use Rattle.command_spec.specs.Session.{Session, Result, number, reply, Done, respond, direct, execute, marked, not_queueable}
use Rattle.command_spec.specs.Sessions.{yes?, queue_in, session_from, session_ok, session_words, session_bytes}
use Rattle.command_spec.specs.Lent.{OneSession}
use Rattle.command_spec.specs.Finish.{Served, silent, fitted, finish_by, finish, Says, SessionLeft}
use Rattle.command_spec.specs.Held.{Held}
use Rattle.session_memory.proofs.Kept.{queue_held, held_by_tests}
use Rattle.command_spec.proofs.SessionLaws.{SessionSound, respond_kept}
use Rattle.command_spec.proofs.LayoutLaws.{session_sound, session_valid, words_long, bytes_long}
use Rattle.session_route.specs.declared.routes.Step.{Step}
use Rattle.session_route.specs.declared.routes.Route.{Route}
use Rattle.session_route.specs.declared.routes.Route.TheVariants.{Here, Exec, Run}
use Rattle.session_route.specs.declared.routes.Way.{Way}
use Rattle.session_route.specs.declared.routes.Way.TheVariants.{Steer, Watch, Queue, NotQueueable}
use Rattle.session_route.specs.Answers.{changing, Answered, AnsweredAt, AnsweredWith, Steered}
use Rattle.session_route.specs.Routes.{route_by, step_done, queue_done, watch_done, way_done, route_done}
use Rattle.command_answer.proofs.Finish.{replied}
use Rattle.session_route.proofs.Routing.{request_routed}

-- EACH WAY, by its function
answered_with : {last : ℕ} {w w' : List ℕ} {b b' : Bytes} {used : ℕ} {out out' : Bytes} {r : AnswerNumbers} (one two : Store → Session → Done) → ((st : Store) (s : Session) → st.last ≡ last → two st s ≡ one st s)
    → Answered one w w' b b' used out r out' → AnsweredWith last two w w' b b' used out r out'
answered_with {last} {w} {w'} {b} {b'} {used} {out} {out'} {r} one two e a = record {
  is = λ st l. record {
    says = subst (λ (d : Done). Says (finish (length out) used d st (session_from w b)) out r out') (sym (e st (session_from w b) l)) (a.says st);
    left = subst (λ (d : Done). SessionLeft (finish (length out) used d st (session_from w b)) w b w' b') (sym (e st (session_from w b) l)) (a.left st);
  };
}

module _ {way : Way} {last : ℕ} {w w' : List ℕ} {b : Bytes} (h : Held w b) {used : ℕ} {out out' : Bytes} {r : AnswerNumbers} (row : Row) where
  pub way_steers : {step : Step} (a : Args) → way ≡ Steer step → Steered (step_done step) w w' used out r out' → AnsweredWith last (way_done way row a) w w' b b used out r out'
  way_steers {step} a e x = answered_with (step_done step) (way_done way row a) (λ st s l. rw e (unfold way_done in refl)) (x.is b h)

  pub way_refuses : {word : Bytes} (a : Args) → word ≡ name_word a → way ≡ NotQueueable → Steered (changing (not_queueable word) marked) w w' used out r out'
      → AnsweredWith last (way_done way row a) w w' b b used out r out'
  way_refuses {word} a n e x =
      answered_with (changing (not_queueable word) marked) (way_done way row a)
      (λ st s l. rw e (unfold way_done in ap (λ (t : Bytes). changing (not_queueable t) marked st s) (sym n))) (x.is b h)

module _ {way : Way} {last : ℕ} {w w' : List ℕ} {b b' : Bytes} {used : ℕ} {out out' : Bytes} {r : AnswerNumbers} where
  pub way_queues : (row : Row) (a : Args) {named : Row} → named ≡ row → way ≡ Queue → Answered (queue_done named a) w w' b b' used out r out' → AnsweredWith last (way_done way row a) w w' b b' used out r out'
  way_queues row a {named} n e x = answered_with (queue_done named a) (way_done way row a) (λ st s l. rw e (unfold way_done in ap (λ (y : Row). queue_done y a st s) (sym n))) x

  pub way_watches : (row : Row) (a : Args) {named : Row} → named ≡ row → way ≡ Watch → Answered (watch_done named (arguments a) last) w w' b b' used out r out'
      → AnsweredWith last (way_done way row a) w w' b b' used out r out'
  way_watches row a {named} k e x = answered_with (watch_done named (arguments a) last) (way_done way row a) (λ st s l. rw e (by_last st s l)) x
    where
      by_last : (st : Store) (s : Session) → st.last ≡ last → way_done Watch row a st s ≡ watch_done named (arguments a) last st s
      by_last st s l = unfold way_done in (λ i. watch_done (sym k i) (arguments a) (l i) st s)

-- THE ANSWER OF `respond`, by the route
pub here_answers : (w : List ℕ) (b : Bytes) (a : Args) (row : CodeRow) (way : Way) {route : Route} → Looked (name_word a) row
    → route ≡ route_by (yes? (get_or w 0 0)) (control_of row.name) row.queueable → route ≡ Here way
    → {last : ℕ} {w' : List ℕ} {b' : Bytes} {used : ℕ} {out out' : Bytes} {r : AnswerNumbers} → AnsweredWith last (way_done way (row_of (name_word a)) a) w w' b b' used out r out'
    → (st : Store) → st.last ≡ last → AnsweredAt st (respond a st (session_from w b)) w w' b b' used out r out'
here_answers w b a row way {route} l e f {last} {w'} {b'} {used} {out} {out'} {r} x st k =
    let s : Session = session_from w b in
    let g : respond a st s ≡ way_done way (row_of (name_word a)) a st s =
    request_routed w b a l e st ∙ ap (λ (y : Route). route_done y (row_of (name_word a)) a st s) f ∙ (unfold route_done in refl) in
    record {
      says = subst (λ (d : Done). Says (finish (length out) used d st s) out r out') (sym g) (x.is st k).says;
      left = subst (λ (d : Done). SessionLeft (finish (length out) used d st s) w b w' b') (sym g) (x.is st k).left;
    }

-- the two routes that need the store
module _ (w : List ℕ) (b : Bytes) (a : Args) {row : CodeRow} {route : Route} (l : Looked (name_word a) row)
    (e : route ≡ route_by (yes? (get_or w 0 0)) (control_of row.name) row.queueable) (st : Store) where
  pub exec_request : Held w b → route ≡ Exec → respond a st (session_from w b) ≡ execute (queue_in w b) st (session_from w b)
  exec_request h f =
      request_routed w b a l e st ∙ ap (λ (y : Route). route_done y (row_of (name_word a)) a st (session_from w b)) f
      ∙ (unfold route_done in ap (λ (q : List Args). execute q st (session_from w b)) (queue_held h))

  pub run_request : route ≡ Run → respond a st (session_from w b) ≡ direct (executed_of a) st (session_from w b)
  run_request f =
      request_routed w b a l e st ∙ ap (λ (y : Route). route_done y (row_of (name_word a)) a st (session_from w b)) f ∙ (unfold route_done in refl)

-- WHAT IT LEAVES IS VALID.
finish_sound : (room used : ℕ) (d : Done) (st : Store) (s : Session) → SessionSound st.last s → SessionSound d.store.last d.session
    → SessionSound (finish room used d st s).store.last (finish room used d st s).session
unfolding finish finish_by fitted
finish_sound room used d st s old new = go d.result
  where
    fits : (t : Bool) (text : Bytes) → SessionSound (cond {A = Served} t (replied used text d.store d.session) (silent 3 0 st s)).store.last (cond {A = Served} t (replied used text d.store d.session) (silent 3 0 st s)).session
    fits true text = new
    fits false text = old

    go : (x : Result) → SessionSound (finish_by x room used d st s).store.last (finish_by x room used d st s).session
    go (number n) = new
    go (reply r) = fits (leb (length (encode r)) room) (encode r)

-- a session that the next request takes
pub record Valid (last : ℕ) (w : List ℕ) (b : Bytes) : Type 0 where
  pub valid : session_ok last w b ≡ true
  pub held : Held w b

module _ (st : Store) (w : List ℕ) (b : Bytes) (sound : Sound st) (o : OneSession w b) (ok : session_ok st.last w b ≡ true) (x : Bytes) (xs : Args) (room used : ℕ) where
  abbrev served : Served
  served = finish room used (respond (x ∷ xs) st (session_from w b)) st (session_from w b)

  served_sound : SessionSound served.store.last served.session
  served_sound =
      let good : SessionSound st.last (session_from w b) = session_sound st.last w b o.words o.bytes ok in
      finish_sound room used (respond (x ∷ xs) st (session_from w b)) st (session_from w b) good (respond_kept st (session_from w b) sound good x xs).session

  pub left_valid : {w' : List ℕ} {b' : Bytes} → SessionLeft (finish room used (respond (x ∷ xs) st (session_from w b)) st (session_from w b)) w b w' b'
      → Valid (finish room used (respond (x ∷ xs) st (session_from w b)) st (session_from w b)).store.last w' b'
  left_valid {w'} {b'} left =
      let now-valid : session_ok served.store.last (session_words served.session w b) (session_bytes served.session b) ≡ true =
      session_valid served.store.last served.session served_sound w b o.words o.bytes in
      let valid' : session_ok served.store.last w' b' ≡ true = (λ z. session_ok served.store.last (left.words z) (left.bytes z)) ∙ now-valid in
      record {
        valid = valid';
        held = held_by_tests served.store.last w' b'
            (record {
              words = ap length left.words ∙ words_long served.store.last served.session served_sound w b o.words o.bytes;
              bytes = ap length left.bytes ∙ bytes_long served.store.last served.session served_sound w b o.words o.bytes;
            }) valid';
      }
