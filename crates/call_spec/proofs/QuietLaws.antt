-- What posts nothing: inside MULTI all but an accepted EXEC, outside it all but a command, and what returns a number.
use Prim.Native.Nat.{ℕ}
use mathlib.Core.Bool.{Bool, true, false, cond, ◌||◌, false≢true}
use mathlib.Core.List.{List, [], ◌∷◌, map}
use Rattle.std.specs.Prelude.{Option, None, Some}
use mathlib.Core.Path.{◌≡◌, refl, sym, ap, ◌∙◌}
use lib.Dec.{eqb}
use lib.ListN.{get_or}
use borrow.Author.Tests.{eqb-true, ne_eqb}
use Rattle.base_key.specs.Bytes.{Bytes}
use Rattle.resp_spec.specs.Reply.{NilArray}
use Rattle.command_spec.specs.Names.{Args, Control, MULTI, EXEC, DISCARD, WATCH, UNWATCH, QUIT, other, control_of, row_of, name_word}
use Rattle.command_spec.specs.Command.{executed_of}
use Rattle.command_spec.specs.Session.{exec_abort}
use Rattle.call_spec.specs.Posting.{Asked, nothing, broken, asks, asked, is_reply, is_array, exec, Client, closed, Turn, only_if, turn_exec, turn_by, turn_asked, enter}
use Rattle.call_spec.specs.Verdicts.{is_exec, asks_exec}
use Rattle.call_spec.specs.Demand3.{is_command, asks_command, Accepts}

module _ (b : Bytes) (d : Client) where
  exec_quiet : (q : List Args) → (is_array b ≡ true → ⊥) → (turn_exec q b d).items ≡ []
  unfolding turn_exec
  exec_quiet q n = go (is_array b) refl
    where
      go : (t : Bool) → is_array b ≡ t → (cond {A = Turn} t (record { client = closed; items = exec (map executed_of q) b ∷ [] }) (only_if (is_reply NilArray b || is_reply exec_abort b) d closed)).items ≡ []
      go true e = absurd (n e)
      go false e = refl

  open_quiet : (c : Control) (q : List Args) (a : Args) → (is_exec c ≡ true → is_array b ≡ true → ⊥) → (turn_by c (Some q) a b d).items ≡ []
  unfolding turn_by
  open_quiet MULTI q a n = refl
  open_quiet EXEC q a n = exec_quiet q (n refl)
  open_quiet DISCARD q a n = refl
  open_quiet WATCH q a n = refl
  open_quiet UNWATCH q a n = refl
  open_quiet QUIT q a n = refl
  open_quiet other q a n = refl

  closed_quiet : (c : Control) (a : Args) → is_command c ≡ false → (turn_by c None a b d).items ≡ []
  unfolding turn_by
  closed_quiet MULTI a e = refl
  closed_quiet EXEC a e = refl
  closed_quiet DISCARD a e = refl
  closed_quiet WATCH a e = refl
  closed_quiet UNWATCH a e = refl
  closed_quiet QUIT a e = refl
  closed_quiet other a e = absurd (false≢true (sym e))

  asked_open : (x : Asked) (q : List Args) → d.queue ≡ Some q → (asks_exec x ≡ true → is_array b ≡ true → ⊥) → (turn_asked x b d).items ≡ []
  unfolding turn_asked
  asked_open nothing q e n = refl
  asked_open broken q e n = refl
  asked_open (asks a) q e n =
      let c = control_of (row_of (name_word a)).name in
      ap (λ (x : Option (List Args)). (turn_by c x a b d).items) e ∙ open_quiet c q a n

  asked_closed : (x : Asked) → d.queue ≡ None → asks_command x ≡ false → (turn_asked x b d).items ≡ []
  unfolding turn_asked
  asked_closed nothing e n = refl
  asked_closed broken e n = refl
  asked_closed (asks a) e n =
      let c = control_of (row_of (name_word a)).name in
      ap (λ (x : Option (List Args)). (turn_by c x a b d).items) e ∙ closed_quiet c a n

module _ (i : ℕ) (x : Asked) (n : ℕ) (b : Bytes) (ds : List Client) where
  -- a request posts what its turn posts
  asked_quiet : (n ≡ 0 → (turn_asked x b (get_or ds i closed)).items ≡ []) → (enter (asked i x n b) ds).items ≡ []
  unfolding enter
  asked_quiet h = go (eqb n 0) refl
    where
      go : (t : Bool) → eqb n 0 ≡ t → (enter (asked i x n b) ds).items ≡ []
      go true e = rw (e, enter) (h (eqb-true n 0 e))
      go false e = rw (e, enter)

  -- and with a number nothing at all
  pub number_entered : (n ≡ 0 → ⊥) → enter (asked i x n b) ds ≡ record { clients = ds; items = [] }
  unfolding enter
  number_entered h = rw (ne_eqb n 0 h, enter)

  pub asked_inside : (q : List Args) → (get_or ds i closed).queue ≡ Some q → (Accepts i (asked i x n b) → ⊥) → (enter (asked i x n b) ds).items ≡ []
  asked_inside q e h = asked_quiet (λ z. asked_open b (get_or ds i closed) x q e (λ y a. h (refl, z, y, a)))

  pub asked_outside : (get_or ds i closed).queue ≡ None → asks_command x ≡ false → (enter (asked i x n b) ds).items ≡ []
  asked_outside e h = asked_quiet (λ z. asked_closed b (get_or ds i closed) x e h)
