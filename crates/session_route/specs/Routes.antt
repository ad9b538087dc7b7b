-- The ways to answer a request of a session: the branches of `respond_by`, by their names.
use Rattle.std.specs.Prelude.{ℕ, ◌≡◌, Bool, true, false, cond, List, length, get_or}
use Rattle.base_key.specs.Keys.{Key}
use Rattle.store_memtable.specs.Versions.{Store}
use Rattle.command_spec.specs.declared.Fixed.{Fixed}
use Rattle.command_spec.specs.declared.Fixed.TheVariants.{Ok, ExecAlone, DiscardAlone, NestedMulti, WatchInside}
use Rattle.command_spec.specs.Names.{Args, Row, name_word, arguments, count_right, arity, Control, MULTI, EXEC, DISCARD, WATCH, UNWATCH, QUIT, other}
use Rattle.command_spec.specs.Command.{executed_of}
use Rattle.command_spec.specs.Session.{watched_keys, Session, Done, says, returns, direct, add_keys, watch_fits, enqueue, queue_up, marked, not_queueable, execute}
use Rattle.command_spec.specs.Sessions.{queue_of}
use Rattle.command_spec.specs.Errors.{fixed_reply}
use Rattle.command_spec.specs.Held.{cleared, opened, unwatched}
use Rattle.command_spec.specs.Watch.{watching_with}
use Rattle.resp_spec.specs.Reply.{ok}
use Rattle.session_route.specs.declared.routes.Step.{Step}
use Rattle.session_route.specs.declared.routes.Step.TheVariants.{Open, Unwatch, Clear, Reply}
use Rattle.session_route.specs.declared.routes.Route.{Route}
use Rattle.session_route.specs.declared.routes.Route.TheVariants.{Here, Exec, Run}
use Rattle.session_route.specs.declared.routes.Way.{Way}
use Rattle.session_route.specs.declared.routes.Way.TheVariants.{Steer, Watch, Queue, NotQueueable}
use Rattle.session_route.specs.Answers.{changing, same}

-- by the name, outside MULTI
unfoldable pub outside_route : Control → Route
outside_route MULTI = Here (Steer Open)
outside_route EXEC = Here (Steer (Reply ExecAlone))
outside_route DISCARD = Here (Steer (Reply DiscardAlone))
outside_route WATCH = Here Watch
outside_route UNWATCH = Here (Steer Unwatch)
outside_route QUIT = Here (Steer Clear)
outside_route other = Run

-- by the name, and whether it may be queued, inside MULTI
unfoldable pub inside_route : Control → Bool → Route
inside_route MULTI queueable = Here (Steer (Reply NestedMulti))
inside_route EXEC queueable = Exec
inside_route DISCARD queueable = Here (Steer Clear)
inside_route WATCH queueable = Here (Steer (Reply WatchInside))
inside_route UNWATCH queueable = Here NotQueueable
inside_route QUIT queueable = Here (Steer Clear)
inside_route other queueable = Here (cond queueable Queue NotQueueable)

unfoldable pub route_by : Bool → Control → Bool → Route
route_by true c queueable = inside_route c queueable
route_by false c queueable = outside_route c

-- the reply of a step, and its change
abbrev pub reply_of : Step → Fixed
reply_of Open = Ok
reply_of Unwatch = Ok
reply_of Clear = Ok
reply_of (Reply f) = f

abbrev pub change_of : Step → Session → Session
change_of Open = opened
change_of Unwatch = unwatched
change_of Clear = cleared
change_of (Reply f) = same

-- WHAT EACH GIVES. A step: its reply and its change
unfoldable pub step_done : Step → Store → Session → Done
step_done Open = changing (fixed_reply Ok) opened
step_done Unwatch = changing (fixed_reply Ok) unwatched
step_done Clear = changing (fixed_reply Ok) cleared
step_done (Reply f) = changing (fixed_reply f) same

-- one of the eleven, of right argument count and without options
unfoldable pub queueing : Args → Store → Session → Done
queueing a st s = enqueue (queue_of s.queue) a st s

-- one of the eleven, by its row
unfoldable pub queue_done : Row → Args → Store → Session → Done
queue_done r a st s = queue_up (queue_of s.queue) r a st s

-- WATCH of keys, by the store's last sequence
unfoldable pub watching_at : List Key → ℕ → Store → Session → Done
watching_at ks last st s = cond (watch_fits (watched_keys (add_keys last ks s.watch))) (says ok st (watching_with ks last s)) (returns 5 st s)

-- WATCH, by its row
unfoldable pub watch_done : Row → List Key → ℕ → Store → Session → Done
watch_done r ks last st s = cond (count_right r (length ks)) (watching_at ks last st s) (says (arity r) st s)

-- a request that needs no store
unfoldable pub way_done : Way → Row → Args → Store → Session → Done
way_done (Steer x) r a st s = step_done x st s
way_done Watch r a st s = watch_done r (arguments a) st.last st s
way_done Queue r a st s = queue_done r a st s
way_done NotQueueable r a st s = changing (not_queueable (name_word a)) marked st s

unfoldable pub route_done : Route → Row → Args → Store → Session → Done
route_done (Here way) r a st s = way_done way r a st s
route_done Exec r a st s = execute (queue_of s.queue) st s
route_done Run r a st s = direct (executed_of a) st s

-- what a step asks of the session's words: MULTI is opened outside of it
pub record Steerable (step : Step) (w : List ℕ) : Type 0 where
  pub words : length w ≡ 644
  pub outside : step ≡ Open → get_or w 0 0 ≡ 0

-- and a way: MULTI is opened outside of it, and a command is queued inside
pub record Taken (way : Way) (w : List ℕ) : Type 0 where
  pub outside : way ≡ Steer Open → get_or w 0 0 ≡ 0
  pub inside : way ≡ Queue → get_or w 0 0 ≡ 0 → ⊥
