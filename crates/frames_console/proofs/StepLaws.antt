-- The loop over the requests of a frame, step by step. Assumes nothing.
use Prim.Native.Nat.{ℕ, ◌+◌, ◌-◌, ◌/◌, ◌≤◌, ◌<◌}
use native.Mathlib.Decide.{dec_le}
use native.Mathlib.Omega.{arith}
use mathlib.Core.Path.{◌≡◌, refl, sym, ap, ◌∙◌}
use mathlib.Core.Bool.{Bool, true, false, cond}
use mathlib.Core.List.{List, [], ◌++◌}
use mir.Val.{Fits}
use mir.Syntax.{w64}
use lib.Dec.{eqb, leb, ltb}
use lib.ListN.{length, take, drop, replicate, length-drop, length-replicate, drop_of_length-le}
use lib.Seq.{drop-length, drop-drop}
use borrow.Author.Tests.{le-leb, lt-leb, lt-ltb, le-ltb, ltb-true, ltb-false, leb-true, leb-false, eq-eqb, ne_eqb, eqb-true, eqb-false}
use Rattle.base_key.specs.Bytes.{Bytes}
use Rattle.resp_spec.specs.Request.{read_request, spanned}
use Rattle.std.specs.Prelude.{Result, Ok, Err, IfOk}
use Rattle.command_spec.specs.declared.Answer.{Answer}
use Rattle.command_spec.specs.declared.CallError.{CallError}
use Rattle.command_spec.specs.Numbers.{AnswerNumbers, answer_numbers, error_number}
use Rattle.exec_decision.proofs.Executes.{error_numbered}
use Rattle.call_spec.specs.Calls.{Lent, valid, RequestPromise}
use Rattle.call_spec.specs.Frames.{closes, hex}
use Rattle.frames_lines.specs.declared.pieces.Mark.{Mark}
use Rattle.frames_lines.specs.declared.pieces.Mark.TheVariants.{NoMark, Number}
use Rattle.frames_console.specs.declared.serve.Progress.{Progress}
use Rattle.frames_console.specs.declared.step.Step.{Step}
use Rattle.frames_console.specs.declared.step.Step.TheVariants.{Refused, Waits, Used}
use Rattle.frames_lines.specs.Pieces.{MarkFits}
use Rattle.frames_lines.specs.Quit.{quits, first_span, Drops, Told}
use Rattle.frames_lines.specs.Served.{FrameServed, or_some}
use Rattle.frames_console.specs.Steps.{done_with, step_of, replied_after, StepsTo, Fit, StepPromise, Stepping, Reached, SomeServed, Serves, StepFits, After, NextServed}
use Rattle.frames_console.specs.Page.{Added, ReplyFits, Moved}
use Rattle.base_writing.proofs.Lent.{rest}
use Rattle.frames_lines.proofs.LineLaws.{lent_is}
use Rattle.frames_lines.proofs.ServedLaws.{serving_start, serving_end, serving_last, serving_more, serving_number, serving_waits, serving_used, told_some, told_none, reply_short, left_fit, cleared_again, cleared_number, cleared_waits}

-- WHAT IS DONE WITH
pub done_all : (s : Bytes) {used : ℕ} → length s ≤ used → length s ≡ done_with s used
unfolding done_with
done_all s {used} h = rw (le-leb (length s) used h)

by_test : (s : Bytes) (used : ℕ) {b : Bool} → used < length s → closes s (read_request 1024 s) ≡ b → cond b (length s) used ≡ done_with s used
unfolding done_with
by_test s used h e = rw (lt-leb (length s) used h, e)

module _ (s : Bytes) {used reply : ℕ} {table : List ℕ} (x : Drops s (read_request 1024 s) used reply table) (h : used < length s) where
  pub done_empty : reply ≡ 0 → used ≡ done_with s used
  done_empty z = by_test s used h (x.unanswered h z)

  module _ {b : Bool} (nz : reply ≡ 0 → ⊥) (e : b ≡ quits (spanned s (first_span table))) where
    pub done_closed : b ≡ true → length s ≡ done_with s used
    done_closed t = by_test s used h (sym (e ∙ x.named h nz) ∙ t)

    pub done_used : b ≡ false → used ≡ done_with s used
    done_used t = by_test s used h (sym (e ∙ x.named h nz) ∙ t)

positive : (n : ℕ) → (n ≡ 0 → ⊥) → 0 < n
positive n z = go (dec_le 1 n)
  where
    go : Dec (1 ≤ n) → 0 < n
    go (yes p) = omega arith
    go (no p) = let e : n ≡ 0 = omega arith in absurd (z e)

-- THE STEP of a number, whatever comes with it
step_number : (s : Bytes) (a : AnswerNumbers) → 0 < a.number → Refused a.number ≡ step_of s a
unfolding step_of
step_number s a h = rw (lt-ltb 0 a.number h)

pub step_word : (s : Bytes) (a : AnswerNumbers) {r : Step} → 0 < a.number → StepsTo (λ e n. n ≡ e) s (Err a.number) r → r ≡ step_of s a
step_word s a h k = k.refused ∙ ap Refused k.is ∙ step_number s a h

-- THE STEP of an answer
module _ (s : Bytes) (a : Answer) where
  answer_waits : a.used ≡ 0 → Waits ≡ step_of s (answer_numbers (Ok a))
  unfolding step_of
  answer_waits e = rw (eq-eqb a.used 0 e)

  answer_used : {n : ℕ} → (a.used ≡ 0 → ⊥) → n ≡ done_with s a.used → Used n a.reply ≡ step_of s (answer_numbers (Ok a))
  unfolding step_of
  answer_used e d = rw (ne_eqb a.used 0 e, d)

module _ {E : Type 0} (told : E → ℕ → Type 0) (s : Bytes) (r : Result Answer E) {a : Answer} (is : r ≡ Ok a) where
  pub steps_none : a.used ≡ 0 → StepsTo told s r Waits
  steps_none e = rw is (answer_waits s a e)

  pub steps_some : {n : ℕ} → (a.used ≡ 0 → ⊥) → n ≡ done_with s a.used → StepsTo told s r (Used n a.reply)
  steps_some e d = rw is (answer_used s a e d)

-- and of a call's error, by its number
pub steps_numbered : (s : Bytes) (a : Result Answer CallError) {r : Step} → StepsTo (λ e n. n ≡ error_number e) s a r → r ≡ step_of s (answer_numbers a)
steps_numbered s (Ok a) h = h
steps_numbered s (Err e) h = h.refused ∙ ap Refused h.is ∙ step_number s (answer_numbers (Err e)) (positive (error_number e) (error_numbered e))

-- THE STEP of a call's answer
module _ (s : Bytes) {r : Result Answer CallError} where
  pub step_error : {e : CallError} {n : ℕ} → r ≡ Err e → n ≡ error_number e → Refused n ≡ step_of s (answer_numbers r)
  step_error {e} {n} is told = steps_numbered s r (rw is (record { number = n; refused = refl; is = told }))

  module _ {a : Answer} (is : r ≡ Ok a) where
    pub step_none : a.used ≡ 0 → Waits ≡ step_of s (answer_numbers r)
    step_none e = rw is (answer_waits s a e)

    pub step_some : {n : ℕ} → (a.used ≡ 0 → ⊥) → n ≡ done_with s a.used → Used n a.reply ≡ step_of s (answer_numbers r)
    step_some e d = rw is (answer_used s a e d)

-- and what the table holds of it
pub told_ok : (s : Bytes) (a : Result Answer CallError) {table : List ℕ} → Told s (answer_numbers a) table → IfOk a (λ x. Told s (answer_numbers (Ok x)) table)
told_ok s (Ok x) h = h
told_ok s (Err e) h = tt

-- WHAT A STEP TELLS of the answer
refused_told : (s : Bytes) (a : AnswerNumbers) (n : ℕ) → Refused n ≡ step_of s a → (a.number ≡ n) × (a.number ≡ 0 → ⊥)
unfolding step_of
refused_told s a n e = go (ltb 0 a.number) (eqb a.used 0) refl e
  where
    go : (b c : Bool) → ltb 0 a.number ≡ b → Refused n ≡ cond b (Refused a.number) (cond c Waits (Used (done_with s a.used) a.reply)) → (a.number ≡ n) × (a.number ≡ 0 → ⊥)
    go true c t e = let same : a.number ≡ n = cc in (same, λ z. omega (arith, ltb-true 0 a.number t))
    go false true t e = let z : ◌≡◌ {A = ℕ} 0 1 = cc in absurd (omega arith)
    go false false t e = let z : ◌≡◌ {A = ℕ} 0 1 = cc in absurd (omega arith)

waits_told : (s : Bytes) (a : AnswerNumbers) → Waits ≡ step_of s a → (a.number ≡ 0) × (a.used ≡ 0)
unfolding step_of
waits_told s a e = go (ltb 0 a.number) (eqb a.used 0) refl refl e
  where
    go : (b c : Bool) → ltb 0 a.number ≡ b → eqb a.used 0 ≡ c → Waits ≡ cond b (Refused a.number) (cond c Waits (Used (done_with s a.used) a.reply)) → (a.number ≡ 0) × (a.used ≡ 0)
    go true c t u e = let z : ◌≡◌ {A = ℕ} 0 1 = cc in absurd (omega arith)
    go false true t u e = (omega (arith, ltb-false 0 a.number t), eqb-true a.used 0 u)
    go false false t u e = let z : ◌≡◌ {A = ℕ} 0 1 = cc in absurd (omega arith)

pub record UsedTold (s : Bytes) (a : AnswerNumbers) (k n : ℕ) : Type 0 where
  pub number : a.number ≡ 0
  pub some_used : a.used ≡ 0 → ⊥
  pub is : done_with s a.used ≡ k
  pub reply : a.reply ≡ n

used_told : (s : Bytes) (a : AnswerNumbers) (k n : ℕ) → Used k n ≡ step_of s a → UsedTold s a k n
unfolding step_of
used_told s a k n e = go (ltb 0 a.number) (eqb a.used 0) refl refl e
  where
    go : (b c : Bool) → ltb 0 a.number ≡ b → eqb a.used 0 ≡ c → Used k n ≡ cond b (Refused a.number) (cond c Waits (Used (done_with s a.used) a.reply)) → UsedTold s a k n
    go true c t u e = let z : ◌≡◌ {A = ℕ} 0 1 = cc in absurd (omega arith)
    go false true t u e = let z : ◌≡◌ {A = ℕ} 0 1 = cc in absurd (omega arith)
    go false false t u e = record { number = omega (arith, ltb-false 0 a.number t); some_used = eqb-false a.used 0 u; is = cc; reply = cc }

-- what is left behind the bytes that are done with
left_behind : (s : Bytes) (used : ℕ) → drop (done_with s used) s ≡ cond (closes s (read_request 1024 s)) [] (drop used s)
unfolding done_with
left_behind s used = go (leb (length s) used) (closes s (read_request 1024 s)) refl
  where
    go : (b c : Bool) → leb (length s) used ≡ b → drop (cond b (length s) (cond c (length s) used)) s ≡ cond c [] (drop used s)
    go true true t = drop-length s
    go true false t = drop-length s ∙ sym (drop_of_length-le s {i = used} (leb-true (length s) used t))
    go false true t = drop-length s
    go false false t = refl

done_within : (s : Bytes) (used : ℕ) → (used ≡ 0 → ⊥) → 0 < length s → (0 < done_with s used) × (done_with s used ≤ length s)
unfolding done_with
done_within s used nz h = go (leb (length s) used) (closes s (read_request 1024 s)) refl
  where
    go : (b c : Bool) → leb (length s) used ≡ b → (0 < cond b (length s) (cond c (length s) used)) × (cond b (length s) (cond c (length s) used) ≤ length s)
    go true c t = (h, omega arith)
    go false true t = (h, omega arith)
    go false false t = (positive used nz, omega (arith, leb-false (length s) used t))

-- THE REPLY BUFFER, all zero
zeros : {b : Bytes} (n : ℕ) → b ≡ replicate n 0 → b ≡ replicate (length b) 0
zeros {b} n e = e ∙ ap (λ (k : ℕ). replicate k 0) (sym (ap length e ∙ length-replicate n 0))

-- THE LOOP over the bytes of a frame
pub stepping_start : (i : ℕ) (held : Bytes) (from₀ : ℕ) (replied₀ : Bool) (filled₀ : ℕ) (page : Bytes) (l : Lent) {table : List ℕ} {buffer : Bytes} → Serves i held from₀ filled₀ page table buffer → Fit l buffer → Stepping i held from₀ replied₀ filled₀ page l from₀ replied₀ filled₀ page l
stepping_start i held from₀ replied₀ filled₀ page l x f = record {
  within = x.start;
  onward = omega arith;
  ahead = λ h. absurd (omega arith);
  inside = omega (arith, x.free);
  size = refl;
  served = serving_start i (drop from₀ held) l replied₀ (take filled₀ page) f.fit;
}

module _ {i from filled : ℕ} {held page page' : Bytes} {from₀ filled₀ : ℕ} {replied₀ : Bool} {l l' : Lent} {replied : Bool} (x : Stepping i held from₀ replied₀ filled₀ page l from replied filled page' l') where
  over : (from' : ℕ) (mark : Mark) (l'' : Lent) → MarkFits mark → from' ≤ length held → FrameServed i (drop from held) l' replied (take filled page') mark (drop from' held) l'' replied (take filled page') → SomeServed i held from₀ replied₀ filled₀ page l (record { from = from'; replied = replied; filled = filled; full = false; mark = mark }) page' l''
  unfolding Reached
  over from' mark l'' fits h f = record {
    within = h;
    inside = x.inside;
    size = x.size;
    mark = fits;
    reached = record { served = serving_last x.served f };
  }

  ok : valid l' ≡ true
  ok = x.served.fit

  -- no bytes are left
  pub stepping_end : i < 16 → length held ≤ from → SomeServed i held from₀ replied₀ filled₀ page l (record { from = from; replied = replied; filled = filled; full = false; mark = NoMark }) page' l'
  unfolding MarkFits
  stepping_end h all =
      let none : drop from held ≡ [] = drop_of_length-le held {i = from} all in
      over from NoMark l' tt x.within (rw none (serving_end l' replied (take filled page') ok h))

  -- one more step
  module _ {buffer buffer' : Bytes} {l'' : Lent} {r : Step} (below : i < 16) (more : from < length held) (room : length buffer ≡ 32768) (p : StepPromise i (drop from held) buffer l' r buffer' l'') where
    some_bytes : 0 < length (drop from held)
    some_bytes = omega (arith, length-drop from held)

    pub stepping_refused : {n : ℕ} → r ≡ Refused n → MarkFits (Number n) → SomeServed i held from₀ replied₀ filled₀ page l (record { from = length held; replied = replied; filled = filled; full = false; mark = Number n }) page' l''
    stepping_refused {n} e fits =
        let t = refused_told (drop from held) p.answer n (sym e ∙ p.is) in
        over (length held) (Number n) l'' fits (omega arith)
        (rw (drop-length held) (rw t.0 at (serving_number below ok some_bytes room p.call replied (take filled page') t.1)))

    pub stepping_waits : r ≡ Waits → SomeServed i held from₀ replied₀ filled₀ page l (record { from = from; replied = replied; filled = filled; full = false; mark = NoMark }) page' l''
    unfolding MarkFits
    stepping_waits e =
        let t = waits_told (drop from held) p.answer (sym e ∙ p.is) in
        over from NoMark l'' tt x.within (serving_waits below ok some_bytes room p.call replied (take filled page') t.0 t.1)

    -- what is lent afterwards is valid, and the reply buffer is cleared
    fit_with : {b : Bytes} → b ≡ replicate (length buffer) 0 → Fit l'' b
    fit_with e = record { fit = left_fit below ok some_bytes room p.call; cleared = zeros (length buffer) e }

    pub fit_refused : {n : ℕ} → r ≡ Refused n → Fit l'' buffer'
    fit_refused {n} e = fit_with (cleared_number below ok some_bytes room p.call (refused_told (drop from held) p.answer n (sym e ∙ p.is)).1)

    pub fit_waits : r ≡ Waits → Fit l'' buffer'
    fit_waits e = fit_with (cleared_waits below ok some_bytes room p.call (waits_told (drop from held) p.answer (sym e ∙ p.is)).1)

    module _ {k n : ℕ} (e : r ≡ Used k n) where
      used : UsedTold (drop from held) p.answer k n
      used = used_told (drop from held) p.answer k n (sym e ∙ p.is)

      bounds : (0 < done_with (drop from held) p.answer.used) × (done_with (drop from held) p.answer.used ≤ length (drop from held))
      bounds = done_within (drop from held) p.answer.used used.some_used some_bytes

      pub step_forward : 0 < k
      step_forward = omega (arith, bounds.0, used.is)

      pub step_inside : from + k ≤ length held
      step_inside = omega (arith, bounds.1, used.is, length-drop from held)

      -- the reply stands in the buffer
      pub reply_fits : 65536 ≤ length page' - filled → length buffer' ≡ length buffer → ReplyFits n buffer' filled page'
      reply_fits free same = record { there = omega (arith, reply_within); room = omega (arith, reply_within) }
        where
          reply_within : n ≤ length buffer
          reply_within = omega (arith, used.reply, reply_short p.call same)

      pub fit_used : {b : Bytes} → length buffer' ≡ length buffer → b ≡ replicate n 0 ++ drop n buffer' → Fit l'' b
      fit_used same c = fit_with (cleared_again below ok some_bytes room p.call same (rw used.reply c))

      left_is : drop (from + k) held ≡ cond (closes (drop from held) (read_request 1024 (drop from held))) [] (drop p.answer.used (drop from held))
      left_is = sym (drop-drop k from held) ∙ ap (λ (j : ℕ). drop j (drop from held)) (sym used.is) ∙ left_behind (drop from held) p.answer.used

      pub stepping_used : {b : Bool} {filled' : ℕ} {page'' : Bytes} → Added (hex (take n buffer')) filled page' filled' page'' → b ≡ replied_after replied n → Stepping i held from₀ replied₀ filled₀ page l (from + k) b filled' page'' l''
      unfolding replied_after
      stepping_used {b} {filled'} {page''} a told = record {
        within = step_inside;
        onward = omega (arith, x.onward);
        ahead = λ h. omega (arith, x.onward, step_forward);
        inside = omega (arith, a.within, x.size);
        size = a.size ∙ x.size;
        served =
            serving_more x.served (serving_used below ok some_bytes room p.call used.number used.some_used left_is replied (take filled page')
            (told ∙ after_is (dec_le 1 n)) (a.front ∙ ap (λ (m : ℕ). take filled page' ++ hex (take m buffer')) (sym used.reply)));
      }
        where
          after_is : Dec (1 ≤ n) → replied_after replied n ≡ or_some replied (take p.answer.reply buffer')
          after_is (yes h) =
              let some_reply : 0 < n = omega arith in
              rw (lt-ltb 0 n some_reply) (told_some below ok some_bytes room p.call used.number used.some_used left_is replied (omega (arith, used.reply)))
          after_is (no h) =
              let none : n ≤ 0 = omega arith in
              rw (le-ltb 0 n none) (told_none below ok some_bytes room p.call used.number used.some_used left_is replied (omega (arith, used.reply)))

-- a request call on the bytes that are left, and the step that its answer makes
pub step_taken : (from : ℕ) (held : Bytes) {i : ℕ} {buffer buffer' : Bytes} {l l' : Lent} (n : ℕ) {a : AnswerNumbers} {r : Step} → n ≡ 2048 → RequestPromise i (rest from held) (n / 2) buffer l a buffer' l' → r ≡ step_of (rest from held) a
    → StepPromise i (drop from held) buffer l r buffer' l'
step_taken from held n {a} places p e =
    let half : n / 2 ≡ 1024 = omega arith in
    record { answer = a; call = rw (lent_is from held, half) at p; is = rw (lent_is from held) at e }

-- WHAT A STEP LEAVES
module _ (size : ℕ) (at : Progress) (reply page : Bytes) {step : Step} where
  pub after_refused : {n : ℕ} → step ≡ Refused n → Fits w64 n → After step size at reply page (record { from = size; replied = at.replied; filled = at.filled; full = false; mark = Number n }) reply page
  unfolding After MarkFits
  after_refused e fits = rw e (record { is = refl; fits = omega (arith, fits.fits); same_reply = refl; same_page = refl })

  pub after_waits : step ≡ Waits → After step size at reply page (record { from = at.from; replied = at.replied; filled = at.filled; full = false; mark = NoMark }) reply page
  unfolding After MarkFits
  after_waits e = rw e (record { is = refl; fits = tt; same_reply = refl; same_page = refl })

  pub after_used : {k n filled : ℕ} {b : Bool} {reply' page' : Bytes} → step ≡ Used k n → b ≡ replied_after at.replied n → Moved n reply at.filled page filled reply' page' → After step size at reply page (record { from = at.from + k; replied = b; filled = filled; full = ltb (at.from + k) size; mark = NoMark }) reply' page'
  unfolding After
  after_used {k} {n} e told m = rw e (record { is = rw told; moved = m })

-- ONE REQUEST
module _ (at : Progress) {i : ℕ} {held page buffer : Bytes} {l : Lent} {table : List ℕ} (x : Serves i held at.from at.filled page table buffer) (f : Fit l buffer) (more : at.from < length held) where
  here : Stepping i held at.from at.replied at.filled page l at.from at.replied at.filled page l
  here = stepping_start i held at.from at.replied at.filled page l x f

  pub step_fits : {step : Step} {reply : Bytes} {l' : Lent} → length reply ≡ length buffer → StepPromise i (drop at.from held) buffer l step reply l' → StepFits (length held) at step reply page
  step_fits same p = record {
    small = x.size;
    inside = λ k n e. step_inside here x.session more x.room p e;
    fits = λ k n e. reply_fits here x.session more x.room p e (omega (arith, x.free)) same;
  }

  module _ {r : Progress} {buffer' page' : Bytes} {l' : Lent} (y : NextServed i held at buffer page l r buffer' page' l') where
    pub next_fit : Fit l' buffer'
    unfolding After
    next_fit = go y.step refl y.after
      where
        go : (s : Step) → y.step ≡ s → After s (length held) at y.reply page r buffer' page' → Fit l' buffer'
        go (Refused n) e a = rw a.same_reply (fit_refused here x.session more x.room y.call e)
        go Waits e a = rw a.same_reply (fit_waits here x.session more x.room y.call e)
        go (Used k n) e a = fit_used here x.session more x.room y.call e y.size a.moved.cleared

    pub next_left : r.full ≡ true → r.from < length held
    unfolding After
    next_left t = go y.step y.after
      where
        go : (s : Step) → After s (length held) at y.reply page r buffer' page' → r.from < length held
        go (Refused n) a = let z : ◌≡◌ {A = ℕ} 0 1 = cc (rw a.is at t) in absurd (omega arith)
        go Waits a = let z : ◌≡◌ {A = ℕ} 0 1 = cc (rw a.is at t) in absurd (omega arith)
        go (Used k n) a = rw a.is (ltb-true (at.from + k) (length held) (rw a.is at t))

    pub next_served : SomeServed i held at.from at.replied at.filled page l r page' l'
    unfolding After Reached MarkFits
    next_served = go y.step refl y.after
      where
        by_left : (k n : ℕ) {filled' : ℕ} (b : Bool) → ltb (at.from + k) (length held) ≡ b → 0 < k → Stepping i held at.from at.replied at.filled page l (at.from + k) (replied_after at.replied n) filled' page' l' → SomeServed i held at.from at.replied at.filled page l (record { from = at.from + k; replied = replied_after at.replied n; filled = filled'; full = b; mark = NoMark }) page' l'
        by_left k n true e h z = record { within = z.within; inside = z.inside; size = z.size; mark = tt; reached = record { ahead = omega arith; served = z.served } }
        by_left k n false e h z = stepping_end z x.session (ltb-false (at.from + k) (length held) e)

        go : (s : Step) → y.step ≡ s → After s (length held) at y.reply page r buffer' page' → SomeServed i held at.from at.replied at.filled page l r page' l'
        go (Refused n) e a = rw (a.is, a.same_page) (stepping_refused here x.session more x.room y.call e a.fits)
        go Waits e a = rw (a.is, a.same_page) (stepping_waits here x.session more x.room y.call e)
        go (Used k n) e a =
            rw a.is (by_left k n (ltb (at.from + k) (length held)) refl (step_forward here x.session more x.room y.call e)
            (stepping_used here x.session more x.room y.call e a.moved.added refl))
