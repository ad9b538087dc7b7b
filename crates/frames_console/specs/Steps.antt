-- One request of a frame, by what its call answered.
use Rattle.std.specs.Prelude.{ℕ, ◌+◌, ◌-◌, ◌≤◌, ◌<◌, Bool, true, false, cond, List, ◌≡◌, Result, Ok, MatchResult, eqb, leb, ltb, length, take, drop, replicate}
use Rattle.base_key.specs.Bytes.{Bytes}
use Rattle.resp_spec.specs.Request.{read_request}
use Rattle.command_spec.specs.declared.Answer.{Answer}
use Rattle.command_spec.specs.Numbers.{AnswerNumbers, answer_numbers}
use Rattle.call_spec.specs.Calls.{Lent, valid, RequestPromise}
use Rattle.call_spec.specs.Frames.{closes}
use Rattle.frames_lines.specs.declared.pieces.Mark.{Mark}
use Rattle.frames_lines.specs.declared.pieces.Mark.TheVariants.{NoMark, Number}
use Rattle.frames_lines.specs.Pieces.{MarkFits}
use Rattle.frames_lines.specs.Served.{Serving, FrameServed}
use Rattle.frames_console.specs.declared.serve.Progress.{Progress}
use Rattle.frames_console.specs.declared.step.Step.{Step}
use Rattle.frames_console.specs.declared.step.Step.TheVariants.{Refused, Waits, Used}
use Rattle.frames_console.specs.Page.{ReplyFits, Moved}

-- the bytes that are done with: all of them where the request drops the rest
unfoldable pub done_with : Bytes → ℕ → ℕ
done_with s used = cond (leb (length s) used) (length s) (cond (closes s (read_request 1024 s)) (length s) used)

-- the step that an answer makes
unfoldable pub step_of : Bytes → AnswerNumbers → Step
step_of s a = cond (ltb 0 a.number) (Refused a.number) (cond (eqb a.used 0) Waits (Used (done_with s a.used) a.reply))

-- an error is refused with a number that it is told as
pub record RefusedAs {E : Type 0} (told : E → ℕ → Type 0) (e : E) (r : Step) : Type 0 where
  pub number : ℕ
  pub refused : r ≡ Refused number
  pub is : told e number

-- the step that an answer makes, or any error
abbrev pub StepsTo : {E : Type 0} → (E → ℕ → Type 0) → Bytes → Result Answer E → Step → Type 0
StepsTo told s a r = MatchResult a (λ x. r ≡ step_of s (answer_numbers (Ok x))) (λ e. RefusedAs told e r)

-- what is lent between two requests: valid memory, and a cleared reply buffer
pub record Fit (l : Lent) (buffer : Bytes) : Type 0 where
  pub fit : valid l ≡ true
  pub cleared : buffer ≡ replicate (length buffer) 0

-- a request call with 1,024 places, and the step that its answer makes
pub record StepPromise (i : ℕ) (s buffer : Bytes) (l : Lent) (r : Step) (buffer' : Bytes) (l' : Lent) : Type 0 where
  pub answer : AnswerNumbers
  pub call : RequestPromise i s 1024 buffer l answer buffer' l'
  pub is : r ≡ step_of s answer

-- whether a reply byte was written, after n more
unfoldable pub replied_after : Bool → ℕ → Bool
replied_after replied n = cond (ltb 0 n) true replied

-- WITHIN THE LOOP over the bytes `held` of a frame: `from` is the place of the first request that is left, and `filled` bytes of the page are in use
pub record Stepping (i : ℕ) (held : Bytes) (from₀ : ℕ) (replied₀ : Bool) (filled₀ : ℕ) (page : Bytes) (l : Lent) (from : ℕ) (replied : Bool) (filled : ℕ) (page' : Bytes) (l' : Lent) : Type 0 where
  pub within : from ≤ length held
  pub onward : from₀ ≤ from
  pub ahead : filled₀ < filled → from₀ < from
  pub inside : filled ≤ length page
  pub size : length page' ≡ length page
  pub served : Serving i (drop from₀ held) l replied₀ (take filled₀ page) (drop from held) l' replied (take filled page')

-- the page is full before the frame is over: some requests were served
pub record Paused (i : ℕ) (held : Bytes) (from₀ : ℕ) (replied₀ : Bool) (filled₀ : ℕ) (page : Bytes) (l : Lent) (r : Progress) (page' : Bytes) (l' : Lent) : Type 0 where
  pub ahead : from₀ < r.from
  pub served : Serving i (drop from₀ held) l replied₀ (take filled₀ page) (drop r.from held) l' r.replied (take r.filled page')

-- the frame is over
pub record Over (i : ℕ) (held : Bytes) (from₀ : ℕ) (replied₀ : Bool) (filled₀ : ℕ) (page : Bytes) (l : Lent) (r : Progress) (page' : Bytes) (l' : Lent) : Type 0 where
  pub served : FrameServed i (drop from₀ held) l replied₀ (take filled₀ page) r.mark (drop r.from held) l' r.replied (take r.filled page')

-- by whether the page is full
unfoldable pub Reached : Bool → ℕ → Bytes → ℕ → Bool → ℕ → Bytes → Lent → Progress → Bytes → Lent → Type 0
Reached true i held from₀ replied₀ filled₀ page l r page' l' = Paused i held from₀ replied₀ filled₀ page l r page' l'
Reached false i held from₀ replied₀ filled₀ page l r page' l' = Over i held from₀ replied₀ filled₀ page l r page' l'

-- THE CONTRACT of serving: `from₀`, `replied₀` and `filled₀` say how far the frame had come, `r` how far it has come now
pub record SomeServed (i : ℕ) (held : Bytes) (from₀ : ℕ) (replied₀ : Bool) (filled₀ : ℕ) (page : Bytes) (l : Lent) (r : Progress) (page' : Bytes) (l' : Lent) : Type 0 where
  pub within : r.from ≤ length held
  pub inside : r.filled ≤ length page
  pub size : length page' ≡ length page
  pub mark : MarkFits r.mark
  pub reached : Reached r.full i held from₀ replied₀ filled₀ page l r page' l'

-- what serving is lent: a session below 16, a frame and the rest in front of it, room for a reply on the page, 1,024 argument places and 32,768 reply bytes
pub record Serves (i : ℕ) (held : Bytes) (from₀ filled₀ : ℕ) (page : Bytes) (table : List ℕ) (buffer : Bytes) : Type 0 where
  pub session : i < 16
  pub size : length held ≤ 8192
  pub start : from₀ ≤ length held
  pub free : filled₀ + 65536 ≤ length page
  pub places : length table ≡ 2048
  pub room : length buffer ≡ 32768

-- a step is to be taken in a frame of `size` bytes: the bytes that it is done with are there, and its reply fits behind the bytes in use
pub record StepFits (size : ℕ) (at : Progress) (step : Step) (reply page : Bytes) : Type 0 where
  pub small : size ≤ 8192
  pub inside : (k n : ℕ) → step ≡ Used k n → at.from + k ≤ size
  pub fits : (k n : ℕ) → step ≡ Used k n → ReplyFits n reply at.filled page

-- the frame is over with a mark, and nothing is put
pub record Stopped (from : ℕ) (mark : Mark) (at : Progress) (reply page : Bytes) (r : Progress) (reply' page' : Bytes) : Type 0 where
  pub is : r ≡ record { from = from; replied = at.replied; filled = at.filled; full = false; mark = mark }
  pub fits : MarkFits mark
  pub same_reply : reply' ≡ reply
  pub same_page : page' ≡ page

-- k bytes are done with, and a reply of n bytes is moved to the page; the frame is not over where bytes are left
pub record Advanced (k n size : ℕ) (at : Progress) (reply page : Bytes) (r : Progress) (reply' page' : Bytes) : Type 0 where
  pub is : r ≡ record { from = at.from + k; replied = replied_after at.replied n; filled = r.filled; full = ltb (at.from + k) size; mark = NoMark }
  pub moved : Moved n reply at.filled page r.filled reply' page'

-- what a step leaves
unfoldable pub After : Step → ℕ → Progress → Bytes → Bytes → Progress → Bytes → Bytes → Type 0
After (Refused n) size at reply page r reply' page' = Stopped size (Number n) at reply page r reply' page'
After Waits size at reply page r reply' page' = Stopped at.from NoMark at reply page r reply' page'
After (Used k n) size at reply page r reply' page' = Advanced k n size at reply page r reply' page'

-- THE CONTRACT of one request: its call, on the bytes that are left, and what the step leaves
pub record NextServed (i : ℕ) (held : Bytes) (at : Progress) (buffer page : Bytes) (l : Lent) (r : Progress) (buffer' page' : Bytes) (l' : Lent) : Type 0 where
  pub step : Step
  pub reply : Bytes
  pub size : length reply ≡ length buffer
  pub call : StepPromise i (drop at.from held) buffer l step reply l'
  pub after : After step (length held) at reply page r buffer' page'

-- a frame that is not over goes on where one more reply fits the page
unfoldable pub goes_on : Progress → ℕ → Bool
goes_on at size = cond at.full (leb 65536 (size - at.filled)) false
