-- EXEC of a session, from its parts: the mark, the watched keys, the queue, and the verdict. Assumes nothing.
use Prim.Native.Nat.{ℕ, ◌+◌, ◌^◌, ◌≤◌, ◌<◌}
use native.Mathlib.Omega.{arith}
use mathlib.Core.Path.{◌≡◌, refl, sym, ap, ◌∙◌, subst}
use mathlib.Core.Bool.{Bool, true, false, cond}
use mathlib.Core.List.{List, [], ◌++◌}
use lib.Dec.{leb, ltb, eqb}
use lib.ListN.{length, get_or, take, replicate, length-map}
use Rattle.base_key.specs.Bytes.{Bytes, ◌and◌, part, total}
use Rattle.base_key.proofs.Bytes.{and_left, and_right}
use Rattle.base_writing.specs.Puts.{Puts}
use Rattle.resp_spec.specs.Reply.{NilArray, array, head, encode}
use Rattle.store_memtable.specs.Table.{Write}
use Rattle.store_memtable.specs.Layout.{last_word, store_in}
use Rattle.store_memtable.specs.Rows.{Valid, versions_in, room_in}
use Rattle.group_spec.specs.declared.Verdict.{Verdict}
use Rattle.group_spec.specs.declared.Verdict.TheVariants.{Conflict, NotTaken}
use Rattle.group_spec.specs.Settling.{sizes_from}
use Rattle.command_spec.specs.declared.Answer.{Answer}
use Rattle.command_spec.specs.declared.CallError.{CallError}
use Rattle.command_spec.specs.Numbers.{AnswerNumbers, answer_numbers}
use Rattle.command_spec.specs.declared.Fixed.TheVariants.{ExecAbort}
use Rattle.command_spec.specs.Command.{Command, command_of}
use Rattle.command_spec.specs.Errors.{fixed_reply}
use Rattle.command_spec.specs.Session.{exec_abort, any_moved}
use Rattle.command_spec.specs.Sessions.{queue_in, session_from, yes?, watch_ok, queue_ok, session_ok, all_positive, all_queueable}
use Rattle.command_spec.specs.Held.{Held}
use Rattle.command_spec.specs.Finish.{Served}
use Rattle.command_spec.proofs.LayoutLaws.{flag_zero}
use Rattle.command_spec.proofs.SessionLaws.{ran_by, writes_by}
use Rattle.session_memory.proofs.Kept.{queue_count}
use Rattle.command_writes.specs.Own.{own_writes}
use Rattle.exec_queued.specs.declared.Walked.{Walked}
use Rattle.exec_decision.specs.Decided.{Decided, decide_queue}
use Rattle.exec_decision.proofs.Executes.{judged_to, executes, queue_silent, queue_failed, queue_conflict, queue_judged}
use Rattle.exec_finish.specs.declared.Prepared.{Prepared}
use Rattle.exec_finish.specs.Numbers.{PreparedNumbers, prepared_numbers}
use Rattle.exec_finish.proofs.ConcludeLaws.{applies_error, concludes_error}
use Rattle.command_writes.proofs.Growing.{none_writes}
use Rattle.exec_finish.specs.Leaving.{Leaves}
use Rattle.exec_finish.specs.Deciding.{prepared_by, Judges, Decides, Applies, Concludes}
use Rattle.exec_finish.proofs.DecideLaws.{decides_prepared, decides_judged}
use Rattle.exec_run.specs.Progress.{Progress, begun, advance_all, commands_in, QueueRan}
use Rattle.exec_run.specs.Execution.{LaidOut, exec_served, exec_decided, ExecReady, known_numbers, BeforeQueue}
use Rattle.exec_run.proofs.Progress.{ended, ended_writes, replies_are}
use Rattle.std.specs.Prelude.{Option, None, Some, Result, Ok, Err}
use Rattle.std.specs.Result.{result_transpose}

-- THE TESTS of a session
queue_tests : (last : ℕ) (s : List ℕ) (sb : Bytes) → session_ok last s sb ≡ true → (all_positive (part 68 (get_or s 3 0) s) ≡ true) × (all_queueable (queue_in s sb) ≡ true)
unfolding session_ok queue_ok
queue_tests last s sb e =
    let a : Bool = leb (get_or s 3 0) 64 in
    let b : Bool = leb (total (part 68 (get_or s 3 0) s)) 512 in
    let c : Bool = leb (total (part 132 (total (part 68 (get_or s 3 0) s)) s)) 8192 in
    let d : Bool = all_positive (part 68 (get_or s 3 0) s) in
    let f : Bool = all_queueable (queue_in s sb) in
    let g : Bool = cond (yes? (get_or s 0 0)) true (eqb (get_or s 3 0) 0) in
    let q = and_right (watch_ok last s sb) (queue_ok s sb) e in
    let r1 = and_right a (b and (c and (d and (f and g)))) q in
    let r2 = and_right b (c and (d and (f and g))) r1 in
    let r3 = and_right c (d and (f and g)) r2 in
    (and_left d (f and g) r3, and_left f g (and_right d (f and g) r3))

-- WHAT IS DECIDED
decided_by_lem : (s : List ℕ) (sb : Bytes) (w b own : List ℕ) (d out : Bytes) {f : Decided} {r : PreparedNumbers} {out' : Bytes}
    → decide_queue (length out) (queue_in s sb) (store_in w b) (session_from s sb) ≡ f → Decides f w out own d r out' → Decides (exec_decided (length out) s sb w b) w out own d r out'
unfolding exec_decided
decided_by_lem s sb w b own d out {f} {r} {out'} is l = subst (λ (x : Decided). Decides x w out own d r out') (sym is) l

-- the mark
pub exec_failed : (s : List ℕ) (sb : Bytes) (w b own : List ℕ) (d out : Bytes) {f : Bool} {put : Option ℕ} {mid : Bytes} {r : PreparedNumbers}
    → Valid w b → last_word w < 2 ^ 64 → out ≡ replicate (length out) 0 → f ≡ yes? (get_or s 1 0) → f ≡ true → Puts (encode (fixed_reply ExecAbort)) out put mid → r ≡ prepared_by put 255 0 0
    → Decides (exec_decided (length out) s sb w b) w out own d r mid
unfolding session_from fixed_reply
exec_failed s sb w b own d out ok h z f-is f-yes p r-is =
    decided_by_lem s sb w b own d out (queue_failed (length out) (queue_in s sb) (store_in w b) (session_from s sb) (sym f-is ∙ f-yes))
    (decides_prepared w b own d out exec_abort NotTaken ok h z p r-is)

unmarked_is : (s : List ℕ) (sb : Bytes) → get_or s 1 0 ≡ 0 → (session_from s sb).failed ≡ false
unfolding session_from
unmarked_is s sb e = ap yes? e

-- a watched key that has moved
pub exec_watched : (s : List ℕ) (sb : Bytes) (w b own : List ℕ) (d out : Bytes) {f t : Bool} {put : Option ℕ} {mid : Bytes} {r : PreparedNumbers}
    → Valid w b → last_word w < 2 ^ 64 → out ≡ replicate (length out) 0 → f ≡ yes? (get_or s 1 0) → f ≡ false
    → t ≡ any_moved (versions_in w b) (session_from s sb).watch → t ≡ true → Puts (encode NilArray) out put mid → r ≡ prepared_by put 1 0 0
    → Decides (exec_decided (length out) s sb w b) w out own d r mid
unfolding store_in
exec_watched s sb w b own d out ok h z f-is f-no t-is t-yes p r-is =
    decided_by_lem s sb w b own d out
    (queue_conflict (length out) (queue_in s sb) (store_in w b) (session_from s sb) (unmarked_is s sb (flag_zero (get_or s 1 0) (sym f-is ∙ f-no))) (sym t-is ∙ t-yes))
    (decides_prepared w b own d out NilArray Conflict ok h z p r-is)

-- before the queue
pub exec_ready : (last : ℕ) (s : List ℕ) (sb : Bytes) (w b : List ℕ) (out : Bytes) {f t : Bool}
    → Held s sb → session_ok last s sb ≡ true → Valid w b → out ≡ replicate (length out) 0 → f ≡ yes? (get_or s 1 0) → f ≡ false
    → t ≡ any_moved (versions_in w b) (session_from s sb).watch → t ≡ false → ExecReady s sb w b out
exec_ready last s sb w b out o ok v z f-is f-no t-is t-no = record {
  held = o;
  positive = (queue_tests last s sb ok).0;
  queueable = (queue_tests last s sb ok).1;
  unmarked = flag_zero (get_or s 1 0) (sym f-is ∙ f-no);
  unmoved = sym t-is ∙ t-no;
  valid = v;
  cleared = z;
}

-- WHAT IS KNOWN BEFORE THE QUEUE RUNS, by the code's tests
module _ (s : List ℕ) (sb : Bytes) (w b : List ℕ) (out : Bytes) where
  pub known_before : {x : PreparedNumbers} {out' : Bytes} → ((own : List ℕ) (d : Bytes) → Decides (exec_decided (length out) s sb w b) w out own d x out')
      → BeforeQueue s sb w b out (Some x) out'
  known_before {x} {out'} k = record {
    known = λ p e own d. let is : x ≡ p = cc in subst (λ (y : PreparedNumbers). Decides (exec_decided (length out) s sb w b) w out own d y out') is (k own d);
    runs = λ e. let z : ◌≡◌ {A = ℕ} 0 1 = cc in absurd (omega arith);
  }

  pub runs_before : {out' : Bytes} → out' ≡ out → ExecReady s sb w b out → BeforeQueue s sb w b out None out'
  runs_before is r = record {
    known = λ p e. let z : ◌≡◌ {A = ℕ} 0 1 = cc in absurd (omega arith);
    runs = λ e. (is, r);
  }

-- AFTER THE QUEUE
module _ (s : List ℕ) (sb : Bytes) (w b : List ℕ) (out : Bytes) (x₀ : ExecReady s sb w b out)
    {p' : List ℕ} {d₀ d₁ : Bytes} {in_use : ℕ} (l : LaidOut s sb d₀ p' d₁ in_use) {own own' : List ℕ} {d₂ mid : Bytes} {a : Walked}
    (ran : QueueRan (advance_all (get_or w 2 0) (versions_in w b) (commands_in s p' (take in_use d₁)) begun) (get_or s 3 0) own d₁ out own' d₂ mid a) where
  progress_is : advance_all (get_or w 2 0) (versions_in w b) (commands_in s p' (take in_use d₁)) begun ≡ ended (queue_in s sb) (store_in w b)
  unfolding ended store_in
  progress_is = ap (λ (cs : List Command). advance_all (get_or w 2 0) (versions_in w b) cs begun) l.commands

  reply_is : head 42 (get_or s 3 0) ++ (advance_all (get_or w 2 0) (versions_in w b) (commands_in s p' (take in_use d₁)) begun).replies ≡ encode (array (ran_by (queue_in s sb) (store_in w b)).replies)
  reply_is =
      (λ z. head 42 (sym (length-map (queue_in s sb) command_of ∙ queue_count x₀.held) z) ++ (progress_is z).replies)
      ∙ sym (replies_are (queue_in s sb) (store_in w b))

  still : any_moved (store_in w b).versions (session_from s sb).watch ≡ false
  unfolding store_in
  still = x₀.unmoved

  pub exec_judged : last_word w < 2 ^ 64 → {r : PreparedNumbers} {out' : Bytes} → Judges (room_in w a.rows (sizes_from own' 0 a.rows)) (ltb (last_word w + a.rows) (2 ^ 64)) a.put a.rows a.used mid r out'
      → Decides (exec_decided (length out) s sb w b) w out own' d₂ r out'
  exec_judged h {r} {out'} j =
      let ws-is : own_writes own' (take a.used d₂) a.rows ≡ writes_by (queue_in s sb) (store_in w b) =
      ran.writes ∙ ap (λ (p : Progress). p.writes) progress_is ∙ ended_writes (queue_in s sb) (store_in w b) in
      let x = array (ran_by (queue_in s sb) (store_in w b)).replies in
      decided_by_lem s sb w b own' d₂ out
      (queue_judged (length out) (queue_in s sb) (store_in w b) (session_from s sb) (unmarked_is s sb x₀.unmarked) still)
      (subst (λ (ws : List Write). Decides (judged_to (length out) (encode x) (store_in w b) ws) w out own' d₂ r out') ws-is
      (decides_judged w b own' d₂ out x a.rows a.used x₀.valid h ran.kept ran.used_in x₀.cleared
      (subst (λ (t : Bytes). Puts t out a.put mid) reply_is ran.puts) j))

-- with a decision known before the queue runs
pub known_some : (s : List ℕ) (sb : Bytes) (w b : List ℕ) (out : Bytes) (p : Prepared Verdict) {e : Option (Prepared Verdict)} {mid : Bytes} → BeforeQueue s sb w b out (known_numbers (Ok e)) mid → e ≡ Some p
    → BeforeQueue s sb w b out (Some (prepared_numbers (Ok p))) mid
known_some s sb w b out p {e} {mid} k is = subst (λ (x : Option (Prepared Verdict)). BeforeQueue s sb w b out (known_numbers (Ok x)) mid) is k

known_as : (e : Result (Option (Prepared Verdict)) CallError) (d : Result (Prepared Verdict) CallError) → result_transpose e ≡ Some d → known_numbers e ≡ Some (prepared_numbers d)
known_as (Ok None) d is = let z : ◌≡◌ {A = ℕ} 0 1 = cc in absurd (omega arith)
known_as (Ok (Some p)) d is = let q : Ok p ≡ d = cc in rw (sym q) refl
known_as (Err e) d is = let q : Err e ≡ d = cc in rw (sym q) refl

-- or with an error, which is known as well
module _ (s : List ℕ) (sb : Bytes) (w b : List ℕ) (out : Bytes) {mid : Bytes} (e : Result (Option (Prepared Verdict)) CallError) (k : BeforeQueue s sb w b out (known_numbers e) mid) where
  pub known_result : (d : Result (Prepared Verdict) CallError) → result_transpose e ≡ Some d → BeforeQueue s sb w b out (Some (prepared_numbers d)) mid
  known_result d is = subst (λ (x : Option PreparedNumbers). BeforeQueue s sb w b out x mid) (known_as e d is) k

-- AND APPLIED
pub exec_applied : (s : List ℕ) (sb : Bytes) (w b : List ℕ) (used : ℕ) (out own d : Bytes) {r : PreparedNumbers} {out' : Bytes} {w' b' s' : List ℕ} {x : AnswerNumbers}
    → Held s sb → Decides (exec_decided (length out) s sb w b) w out own d r out'
    → Applies (own_writes own (take r.end d) r.rows) r used w b s w' b' s' x → Leaves (exec_served (length out) used s sb w b) out w b s sb x out' w' b' s'
unfolding exec_decided exec_served
exec_applied s sb w b used out own d {r} {out'} {w'} {b'} {s'} {x} held k l =
    let q = queue_in s sb in
    let st = store_in w b in
    let t = session_from s sb in
    subst (λ (y : Served). Leaves y out w b s sb x out' w' b' s') (sym (executes (length out) used st t q))
    (l.leaves (decide_queue (length out) q st t) out out' sb held k.number k.size k.writes k.reply (queue_silent (length out) q st t))

-- after the queue: with an error, with what is prepared, and with either
module _ (s : List ℕ) (sb : Bytes) (w b : List ℕ) (used : ℕ) (out own d : Bytes) {mid : Bytes} (held : Held s sb) where
  pub decided_stopped : (e : CallError) → Valid w b → Decides (exec_decided (length out) s sb w b) w out own d (prepared_numbers (Err e)) mid
      → Leaves (exec_served (length out) used s sb w b) out w b s sb (answer_numbers (Err e)) mid w b s
  decided_stopped e v k = exec_applied s sb w b used out own d held k (applies_error (own_writes own (take 0 d) 0) used w b e v)

  pub decided_applied : (p : Prepared Verdict) {w' b' s' : List ℕ} {x : AnswerNumbers} → Decides (exec_decided (length out) s sb w b) w out own d (prepared_numbers (Ok p)) mid
      → Applies (own_writes own (take p.end d) p.rows) (prepared_numbers (Ok p)) used w b s w' b' s' x → Leaves (exec_served (length out) used s sb w b) out w b s sb x mid w' b' s'
  decided_applied p k l = exec_applied s sb w b used out own d held k l

  pub decided_concluded : (e f : Result (Prepared Verdict) CallError) (r : Result Answer CallError) (z : ℕ × ℕ) {w' b' s' : List ℕ} → Valid w b → Decides (exec_decided (length out) s sb w b) w out own d (prepared_numbers e) mid
      → f ≡ e → z ≡ ((prepared_numbers e).rows, (prepared_numbers e).end) → Concludes (own_writes own (take z.1 d) z.0) f used w b s w' b' s' r
      → Leaves (exec_served (length out) used s sb w b) out w b s sb (answer_numbers r) mid w' b' s'
  decided_concluded e f r z {w'} {b'} {s'} v k same sizes l =
      exec_applied s sb w b used out own d held k
      (concludes_error (own_writes own (take (prepared_numbers e).end d) (prepared_numbers e).rows) used w b e r v (rw (same, sizes) at l))

-- without rows nothing is written, wherever their data ends
same_none : (rows end : ℕ) → rows ≤ 0 → own_writes [] [] 0 ≡ own_writes [] (take end []) rows
same_none rows end h =
    let none : rows ≡ 0 = omega arith in
    none_writes [] [] ∙ sym (none_writes [] (take end [])) ∙ ap (own_writes [] (take end [])) (sym none)

-- and before it, where nothing is written
module _ (s : List ℕ) (sb : Bytes) (w b : List ℕ) (used : ℕ) (out : Bytes) {mid : Bytes} (held : Held s sb) where
  pub known_stopped : (e : CallError) → Valid w b → BeforeQueue s sb w b out (Some (prepared_numbers (Err e))) mid
      → Leaves (exec_served (length out) used s sb w b) out w b s sb (answer_numbers (Err e)) mid w b s
  known_stopped e v k = decided_stopped s sb w b used out [] [] held e v (k.known _ refl [] [])

  pub known_applied : (p : Prepared Verdict) {w' b' s' : List ℕ} {x : AnswerNumbers} → BeforeQueue s sb w b out (Some (prepared_numbers (Ok p))) mid
      → Applies (own_writes [] [] 0) (prepared_numbers (Ok p)) used w b s w' b' s' x → Leaves (exec_served (length out) used s sb w b) out w b s sb x mid w' b' s'
  known_applied p {w'} {b'} {s'} {x} k l =
      let kn = k.known _ refl [] [] in
      let same = same_none p.rows p.end (omega (arith, kn.kept.rows.rows_in)) in
      decided_applied s sb w b used out [] [] held p kn (subst (λ (ws : List Write). Applies ws (prepared_numbers (Ok p)) used w b s w' b' s' x) same l)

  pub known_concluded : (e : Result (Prepared Verdict) CallError) (r : Result Answer CallError) {w' b' s' : List ℕ} → Valid w b → BeforeQueue s sb w b out (Some (prepared_numbers e)) mid
      → Concludes (own_writes [] [] 0) e used w b s w' b' s' r → Leaves (exec_served (length out) used s sb w b) out w b s sb (answer_numbers r) mid w' b' s'
  known_concluded e r {w'} {b'} {s'} v k l =
      let kn = k.known _ refl [] [] in
      let p = prepared_numbers e in
      let same = same_none p.rows p.end (omega (arith, kn.kept.rows.rows_in)) in
      decided_concluded s sb w b used out [] [] held e e r (p.rows, p.end) v kn refl refl (subst (λ (ws : List Write). Concludes ws e used w b s w' b' s' r) same l)
