-- Laws of the routes: each is its branch of `respond_by`, and the steps do what their route gives. Assumes nothing.
use Prim.Native.Nat.{ℕ, zero, suc, ◌≤◌}
use native.Mathlib.Omega.{arith}
use mathlib.Core.Path.{◌≡◌, refl, sym, ap, ◌∙◌}
use mathlib.Core.Bool.{Bool, true, false, cond}
use mathlib.Core.List.{List}
use Rattle.std.specs.Prelude.{Option, None, Some}
use lib.ListN.{get_or}
use Rattle.base_key.specs.Bytes.{Bytes, part}
use Rattle.store_memtable.specs.Versions.{Store}
use Rattle.command_names.specs.declared.Control.{Control as Said}
use Rattle.command_spec.specs.Names.{Args, Row, row_of, name_word, control_of, Control, MULTI, EXEC, DISCARD, WATCH, UNWATCH, QUIT, other}
use Rattle.command_names.specs.declared.Row.{Row as CodeRow}
use Rattle.command_names.specs.Rows.{Looked, control_said}
use Rattle.command_spec.specs.Session.{Session, says, watching, queue_up, not_queueable, outside_multi, inside_multi, respond_by, respond, marked}
use Rattle.command_spec.specs.Sessions.{yes?, queue_in, session_from, multi_of}
use Rattle.command_spec.specs.Errors.{fixed_reply}
use Rattle.command_spec.specs.Places.{arguments_at}
use Rattle.command_spec.proofs.LayoutLaws.{flag_zero}
use Rattle.session_route.specs.declared.routes.Step.TheVariants.{Open}
use Rattle.session_route.specs.declared.routes.Route.{Route}
use Rattle.session_route.specs.declared.routes.Route.TheVariants.{Here}
use Rattle.session_route.specs.declared.routes.Way.{Way}
use Rattle.session_route.specs.declared.routes.Way.TheVariants.{Steer, Queue, NotQueueable}
use Rattle.session_route.specs.Answers.{changing}
use Rattle.session_route.specs.Routes.{outside_route, inside_route, route_by, step_done, queue_done, watching_at, watch_done, way_done, route_done, Taken}

-- the route from its table
module _ (said : Said) {c : Control} {r : Route} (same_name : control_said said ≡ c) where
  pub route_inside : {t m q q' : Bool} → t ≡ m → t ≡ true → q' ≡ q → r ≡ inside_route (control_said said) q' → r ≡ route_by m c q
  unfolding route_by
  route_inside {t} {m} {q} d e f is = is ∙ (λ z. inside_route (same_name z) (f z)) ∙ ap (λ (x : Bool). route_by x c q) (sym e ∙ d)

  pub route_outside : {t m : Bool} (q : Bool) → t ≡ m → t ≡ false → r ≡ outside_route (control_said said) → r ≡ route_by m c q
  unfolding route_by
  route_outside {t} {m} q d e is = is ∙ ap outside_route same_name ∙ ap (λ (x : Bool). route_by x c q) (sym e ∙ d)

-- EACH ROUTE IS ITS BRANCH.
outside_branch : (c : Control) (r : Row) (a : Args) (st : Store) (s : Session) → outside_multi c r a st s ≡ route_done (outside_route c) r a st s
unfolding outside_multi outside_route route_done way_done step_done changing fixed_reply watch_done watching_at watching
outside_branch MULTI r a st s = refl
outside_branch EXEC r a st s = refl
outside_branch DISCARD r a st s = refl
outside_branch WATCH r a st s = refl
outside_branch UNWATCH r a st s = refl
outside_branch QUIT r a st s = refl
outside_branch other r a st s = refl

inside_branch : (c : Control) (q : List Args) (r : Row) (a : Args) (st : Store) (s : Session) → s.queue ≡ Some q → inside_multi c q r a st s ≡ route_done (inside_route c r.queueable) r a st s
unfolding inside_multi inside_route route_done way_done step_done changing fixed_reply queue_done
inside_branch MULTI q r a st s e = refl
inside_branch EXEC q r a st s e = rw e
inside_branch DISCARD q r a st s e = refl
inside_branch WATCH q r a st s e = refl
inside_branch UNWATCH q r a st s e = refl
inside_branch QUIT q r a st s e = refl
inside_branch other q r a st s e = go r.queueable
  where
    go : (v : Bool) → cond v (queue_up q r a st s) (says (not_queueable (name_word a)) st (marked s)) ≡ route_done (Here (cond v Queue NotQueueable)) r a st s
    go true = unfold route_done way_done queue_done in rw e
    go false = unfold route_done way_done changing in refl

pub respond_routed : (r : Row) (a : Args) (st : Store) (s : Session) → respond_by s.queue r a st s ≡ route_done (route_by (multi_of s.queue) (control_of r.name) r.queueable) r a st s
unfolding respond_by route_by
respond_routed r a st s = go s.queue refl
  where
    go : (q : Option (List Args)) → s.queue ≡ q → respond_by q r a st s ≡ route_done (route_by (multi_of q) (control_of r.name) r.queueable) r a st s
    go None e = outside_branch (control_of r.name) r a st s
    go (Some q) e = inside_branch (control_of r.name) q r a st s e

-- THE REQUEST. The arguments' name, and the session's flag
pub name_first : (count : ℕ) (places : List ℕ) (input : Bytes) → 1 ≤ count → name_word (arguments_at 0 count places input) ≡ part (get_or places 0 0) (get_or places 1 0) input
unfolding arguments_at
name_first zero places input h = absurd (omega arith)
name_first (suc n) places input h = refl

flag_read : (w : List ℕ) (b : Bytes) → multi_of (session_from w b).queue ≡ yes? (get_or w 0 0)
unfolding session_from
flag_read w b = go (get_or w 0 0)
  where
    go : (n : ℕ) → multi_of (cond (yes? n) (Some (queue_in w b)) None) ≡ yes? n
    go zero = refl
    go (suc n) = refl

-- the request that its route gives
pub request_routed : (w : List ℕ) (b : Bytes) (a : Args) {row : CodeRow} {route : Route} → Looked (name_word a) row
    → route ≡ route_by (yes? (get_or w 0 0)) (control_of row.name) row.queueable
    → (st : Store) → respond a st (session_from w b) ≡ route_done route (row_of (name_word a)) a st (session_from w b)
unfolding respond
request_routed w b a {row} {route} l e st =
    let s : Session = session_from w b in
    respond_routed (row_of (name_word a)) a st s
    ∙ (λ z. route_done (route_by (flag_read w b z) (control_of (sym l.is z).name) (sym l.is z).queueable) (row_of (name_word a)) a st s)
    ∙ ap (λ (x : Route). route_done x (row_of (name_word a)) a st s) (sym e)

-- MULTI is opened outside, and commands are queued inside
outside_said : (m : Bool) (c : Control) (q : Bool) → route_by m c q ≡ Here (Steer Open) → m ≡ false
unfolding route_by inside_route
outside_said false c q e = refl
outside_said true MULTI q e = let z : ◌≡◌ {A = ℕ} 0 1 = cc in absurd (omega arith)
outside_said true EXEC q e = let z : ◌≡◌ {A = ℕ} 0 1 = cc in absurd (omega arith)
outside_said true DISCARD q e = let z : ◌≡◌ {A = ℕ} 0 1 = cc in absurd (omega arith)
outside_said true WATCH q e = let z : ◌≡◌ {A = ℕ} 0 1 = cc in absurd (omega arith)
outside_said true UNWATCH q e = let z : ◌≡◌ {A = ℕ} 0 1 = cc in absurd (omega arith)
outside_said true QUIT q e = let z : ◌≡◌ {A = ℕ} 0 1 = cc in absurd (omega arith)
outside_said true other true e = let z : ◌≡◌ {A = ℕ} 0 1 = cc in absurd (omega arith)
outside_said true other false e = let z : ◌≡◌ {A = ℕ} 0 1 = cc in absurd (omega arith)

inside_said : (m : Bool) (c : Control) (q : Bool) → route_by m c q ≡ Here Queue → m ≡ true
unfolding route_by outside_route
inside_said true c q e = refl
inside_said false MULTI q e = let z : ◌≡◌ {A = ℕ} 0 1 = cc in absurd (omega arith)
inside_said false EXEC q e = let z : ◌≡◌ {A = ℕ} 0 1 = cc in absurd (omega arith)
inside_said false DISCARD q e = let z : ◌≡◌ {A = ℕ} 0 1 = cc in absurd (omega arith)
inside_said false WATCH q e = let z : ◌≡◌ {A = ℕ} 0 1 = cc in absurd (omega arith)
inside_said false UNWATCH q e = let z : ◌≡◌ {A = ℕ} 0 1 = cc in absurd (omega arith)
inside_said false QUIT q e = let z : ◌≡◌ {A = ℕ} 0 1 = cc in absurd (omega arith)
inside_said false other q e = let z : ◌≡◌ {A = ℕ} 0 1 = cc in absurd (omega arith)

flag_set : (n : ℕ) → yes? n ≡ true → n ≡ 0 → ⊥
flag_set n e f = let g : true ≡ false = sym e ∙ ap yes? f in let z : ◌≡◌ {A = ℕ} 0 1 = cc in omega arith

module _ (w : List ℕ) (c : Control) (q : Bool) {route : Route} (e : route ≡ route_by (yes? (get_or w 0 0)) c q) where
  pub way_asks : {way : Way} → route ≡ Here way → Taken way w
  way_asks f = record {
    outside = λ g. flag_zero (get_or w 0 0) (outside_said (yes? (get_or w 0 0)) c q (sym e ∙ f ∙ ap Here g));
    inside = λ g. flag_set (get_or w 0 0) (inside_said (yes? (get_or w 0 0)) c q (sym e ∙ f ∙ ap Here g));
  }
