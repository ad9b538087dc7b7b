-- Laws of a command that joins the queue, or does not. Assumes nothing.
use Prim.Native.Nat.{ℕ, ◌-◌, ◌≤◌}
use mathlib.Core.Path.{◌≡◌, refl, sym, ap, ◌∙◌}
use mathlib.Core.Bool.{Bool, true, false, cond}
use mathlib.Core.List.{List, [], ◌∷◌, ◌++◌}
use lib.ListN.{length, get_or}
use Rattle.base_key.specs.Bytes.{Bytes}
use Rattle.base_writing.specs.Puts.{Puts}
use Rattle.resp_spec.specs.Reply.{Reply, encode}
use Rattle.store_memtable.specs.Versions.{Store}
use Rattle.command_spec.specs.Numbers.{AnswerNumbers, answer_numbers}
use Rattle.command_spec.specs.declared.Answer.{Answer}
use Rattle.command_spec.specs.declared.CallError.{CallError}
use Rattle.command_spec.specs.declared.Fixed.TheVariants.{Queued, SetOptions}
use Rattle.command_spec.specs.Names.{Args, row_of, arguments, count_right, with_options, operation_of, arity}
use Rattle.command_names.specs.declared.Row.{Row as CodeRow}
use Rattle.command_names.specs.Rows.{row_meant, Looked}
use Rattle.command_spec.specs.Command.{set_options}
use Rattle.command_spec.specs.Session.{Session, Done, says, returns, queue_fits, queued_reply, marked, enqueue, queue_up}
use Rattle.command_spec.specs.Sessions.{queue_in, session_from, queue_of}
use Rattle.command_spec.specs.Errors.{fixed_reply, arity_of}
use Rattle.command_spec.specs.Held.{Held, Left}
use Rattle.command_spec.specs.Places.{arguments_at, PartsIn, Takes, HasRoom, queuing, Appended}
use Rattle.session_memory.proofs.Kept.{queue_held, bytes_marked}
use Rattle.session_memory.proofs.Expanding.{has_room_lem}
use Rattle.command_spec.proofs.PlaceLaws.{arguments_count, arguments_of}
use Rattle.command_spec.proofs.ErrorTexts.{arity_as_sent}
use Rattle.command_answer.specs.Answers.{refusal}
use Rattle.session_route.specs.Answers.{changing, Answered, Steered}
use Rattle.session_route.specs.Routes.{queueing, queue_done}
use Rattle.command_answer.proofs.Finish.{Cleared}
use Rattle.session_route.proofs.Answering.{Wrote, Full, replied_with, answered_same, answered_wrote, answered_full, answered_number}
use Rattle.std.specs.Prelude.{Option, Result}

module _ {w : List ℕ} {b : Bytes} {p : List ℕ} {s : Bytes} {count : ℕ} (h : Held w b) (ps : PartsIn p s count) {takes : Bool} (t : Takes w p count takes) where
  abbrev args : Args
  args = arguments_at 0 count p s

  fits : {v : Bool} → takes ≡ v → queue_fits (queue_of (session_from w b).queue ++ args ∷ []) ≡ v
  fits e = ap (λ (q : List Args). queue_fits (q ++ args ∷ [])) (queue_held h) ∙ sym (t.is b s h ps) ∙ e

  pub room_taken : (get_or w 0 0 ≡ 0 → ⊥) → takes ≡ true → HasRoom w p count
  room_taken inside e = has_room_lem h ps inside (sym (t.is b s h ps) ∙ e)

  -- the two branches
  joins : takes ≡ true → (st : Store) → queueing args st (session_from w b) ≡ says (fixed_reply Queued) st (queuing (queue_in w b ++ args ∷ []) (session_from w b))
  unfolding queueing enqueue fixed_reply
  joins e st =
      ap (λ (v : Bool). cond v (says queued_reply st (queuing (queue_of (session_from w b).queue ++ args ∷ []) (session_from w b))) (returns 4 st (marked (session_from w b)))) (fits e)
      ∙ ap (λ (q : List Args). says queued_reply st (queuing (q ++ args ∷ []) (session_from w b))) (queue_held h)

  refused : takes ≡ false → (st : Store) → queueing args st (session_from w b) ≡ returns 4 st (marked (session_from w b))
  unfolding queueing enqueue
  refused e st =
      ap (λ (v : Bool). cond v (says queued_reply st (queuing (queue_of (session_from w b).queue ++ args ∷ []) (session_from w b))) (returns 4 st (marked (session_from w b)))) (fits e)

  module _ {used : ℕ} {out : Bytes} (z : Cleared out) where
    pub queued_wrote : {put : Option ℕ} {out' : Bytes} {w' : List ℕ} {b' : Bytes} {a : Answer} → takes ≡ true → Puts (encode (fixed_reply Queued)) out put out' → Wrote put used a
        → Appended w w' b b' (arguments_at 0 count p s) → Answered (queueing (arguments_at 0 count p s)) w w' b b' used out (replied_with a) out'
    queued_wrote e q d a =
        answered_wrote h (queueing args) used z (fixed_reply Queued) (queuing (queue_in w b ++ args ∷ []) (session_from w b)) (joins e) q d a.words a.bytes

    pub queued_full : {put : Option ℕ} {out' : Bytes} {r : Result Answer CallError} → takes ≡ true → Puts (encode (fixed_reply Queued)) out put out' → Full put r
        → Answered (queueing (arguments_at 0 count p s)) w w b b used out (answer_numbers r) out'
    queued_full e q d = answered_full h (queueing args) used z (fixed_reply Queued) (queuing (queue_in w b ++ args ∷ []) (session_from w b)) (joins e) q d

    pub queue_refused : {w' : List ℕ} → takes ≡ false → Left marked w w' → Answered (queueing (arguments_at 0 count p s)) w w' b b used out (refusal 4) out
    queue_refused e l = answered_number h (queueing args) used z 4 (marked (session_from w b)) (refused e) (l.is b h) (sym (bytes_marked h))

-- THE ARGUMENT COUNT, AND OPTIONS
module _ {word : Bytes} {row : CodeRow} (l : Looked word row) (count : ℕ) (places : List ℕ) (input : Bytes) (named : 1 ≤ count) {right : Bool} (e : right ≡ count_right (row_meant row) (count - 1)) where
  abbrev asked : Args
  asked = arguments_at 0 count places input

  behind : count - 1 ≡ length (arguments asked)
  behind = sym (ap length (arguments_of places input count named) ∙ arguments_count 1 (count - 1) places input)

  right_as : {v : Bool} → right ≡ v → count_right (row_of word) (length (arguments asked)) ≡ v
  right_as f = sym (sym f ∙ e ∙ (λ i. count_right (l.is i) (behind i)))

  -- the three branches
  by : Bool → Bool → Store → Session → Done
  by b c st s = cond b (cond c (says set_options st (marked s)) (enqueue (queue_of s.queue) asked st s)) (says (arity (row_of word)) st (marked s))

  as_by : (st : Store) (s : Session) → queue_done (row_of word) asked st s ≡ by (count_right (row_of word) (length (arguments asked))) (with_options (operation_of (row_of word).name) (length (arguments asked))) st s
  unfolding queue_done queue_up by
  as_by st s = refl

  pub queue_miscounted : {w w' : List ℕ} {b : Bytes} {used : ℕ} {out out' : Bytes} {r : AnswerNumbers} {sent : Bytes} → Held w b → right ≡ false → sent ≡ word → Steered (changing (arity_of sent) marked) w w' used out r out'
      → Answered (queue_done (row_of word) (arguments_at 0 count places input)) w w' b b used out r out'
  queue_miscounted {b = b} {sent = sent} h f is a = answered_same (changing (arity_of sent) marked) (queue_done (row_of word) asked) wrong (a.is b h)
    where
      wrong : (st : Store) (s : Session) → queue_done (row_of word) asked st s ≡ changing (arity_of sent) marked st s
      wrong st s = unfold changing by in
          as_by st s ∙ ap (λ (v : Bool). by v (with_options (operation_of (row_of word).name) (length (arguments asked))) st s) (right_as f)
          ∙ ap (λ (x : Reply). says x st (marked s)) (arity_as_sent word (length (arguments asked)) (right_as f) ∙ ap arity_of (sym is))

  module _ {options : Bool} (g : options ≡ with_options (operation_of row.name) (count - 1)) where
    options_as : {v : Bool} → options ≡ v → with_options (operation_of (row_of word).name) (length (arguments asked)) ≡ v
    options_as f = sym (sym f ∙ g ∙ (λ i. with_options (operation_of (l.is i).name) (behind i)))

    both : {v u : Bool} → right ≡ v → options ≡ u → (st : Store) (s : Session) → queue_done (row_of word) asked st s ≡ by v u st s
    both f k st s = as_by st s ∙ (λ i. by (right_as f i) (options_as k i) st s)

    pub queue_options : {w w' : List ℕ} {b : Bytes} {used : ℕ} {out out' : Bytes} {r : AnswerNumbers} → Held w b → right ≡ true → options ≡ true
        → Steered (changing (fixed_reply SetOptions) marked) w w' used out r out' → Answered (queue_done (row_of word) (arguments_at 0 count places input)) w w' b b used out r out'
    queue_options {b = b} h f k a =
        answered_same (changing (fixed_reply SetOptions) marked) (queue_done (row_of word) asked) (λ st s. both f k st s ∙ (unfold by changing fixed_reply in refl)) (a.is b h)

    pub queue_counted : {w w' : List ℕ} {b b' : Bytes} {used : ℕ} {out out' : Bytes} {r : AnswerNumbers} → right ≡ true → options ≡ false
        → Answered (queueing (arguments_at 0 count places input)) w w' b b' used out r out' → Answered (queue_done (row_of word) (arguments_at 0 count places input)) w w' b b' used out r out'
    queue_counted f k a = answered_same (queueing asked) (queue_done (row_of word) asked) (λ st s. both f k st s ∙ (unfold by queueing in refl)) a
