-- What EXEC gives after its preview (document 02, R-6); and in a list of calls a preview changes nothing.
use Rattle.std.specs.Prelude.{ℕ, List, [], ◌∷◌, Bool, true, false, cond, ◌&&◌, ◌≡◌, eqb, length}
use Rattle.base_key.specs.Bytes.{Bytes}
use Rattle.resp_spec.specs.Request.{read_request}
use Rattle.resp_spec.specs.Reply.{NilArray}
use Rattle.command_spec.specs.Numbers.{AnswerNumbers}
use Rattle.exec_decision.specs.Numbers.{PreviewNumbers}
use Rattle.call_spec.specs.Serve.{Outcome}
use Rattle.call_spec.specs.Calls.{Lent, valid, store_of, Called, request_call, preview_call, verdict_in, RequestPromise, PreviewPromise, Call, request, grouped, preview, call, outcomes, final}
use Rattle.call_spec.specs.Posting.{asked_by, is_reply, is_array, events}
use Rattle.call_spec.specs.Verdicts.{asks_exec}
use Rattle.call_spec.specs.Demand3.{SameFor}
use Rattle.call_spec.specs.Captures.{replies_to}

-- THE VERDICT OF AN ANSWER TO EXEC: accepted by an array, conflict by `*-1`, and none by an error or a number
unfoldable pub answer_verdict : ℕ → Bytes → ℕ
answer_verdict n b = cond (eqb n 0 && is_array b) 0 (cond (eqb n 0 && is_reply NilArray b) 1 255)

-- A COPY of store and session i: valid or not alike, and if valid the same store and the same session i
pub record Copy (i : ℕ) (l m : Lent) : Type 0 where
  pub fit : valid l ≡ valid m
  pub same : valid l ≡ true → SameFor i l m

-- EXEC AGREES WITH ITS PREVIEW: `p` is the outcome of the preview, `c` what EXEC on the copy `m` gives and leaves
pub record ExecAgrees (p : Outcome) (m : Lent) (c : Called) : Type 0 where
  pub number : c.outcome.number ≡ p.number
  pub reply : c.outcome.reply ≡ p.reply
  pub verdict : answer_verdict c.outcome.number c.outcome.reply ≡ verdict_in p
  pub last : p.number ≡ 0 → (store_of c.lent).last ≡ p.last
  pub refused : (p.number ≡ 0 → ⊥) → (c.lent ≡ m) × (p.last ≡ 0)

-- any bytes that are a whole request named EXEC, with as long a reply buffer
abbrev pub PreviewClaim : Type 0
PreviewClaim =
    (i room : ℕ) (l m : Lent) → Copy i l m → (input : Bytes) (places : ℕ) → asks_exec (asked_by input (read_request places input)) ≡ true →
    ExecAgrees (preview_call i room l).outcome m (request_call i input places room m)

-- THE SAME OF THE CALLS MADE: `r` and `buffer'` are what the preview returned and wrote, `a`, `out'` and `m'` what EXEC returned, wrote and left
pub record MadeAgrees (r : PreviewNumbers) (buffer' : Bytes) (m : Lent) (a : AnswerNumbers) (out' : Bytes) (m' : Lent) : Type 0 where
  pub number : a.number ≡ r.number
  pub reply : a.reply ≡ r.reply
  pub buffer : out' ≡ buffer'
  pub last : r.number ≡ 0 → (store_of m').last ≡ r.last
  pub refused : (r.number ≡ 0 → ⊥) → (m' ≡ m) × (r.last ≡ 0)

abbrev pub MadePreviewClaim : Type 0
MadePreviewClaim =
    (i : ℕ) (buffer : Bytes) (l : Lent) (r : PreviewNumbers) (buffer' : Bytes) (l' : Lent) → PreviewPromise i buffer l r buffer' l' →
    (input : Bytes) (places : ℕ) (out : Bytes) (m : Lent) (a : AnswerNumbers) (out' : Bytes) (m' : Lent) → RequestPromise i input places out m a out' m' →
    Copy i l m → length out ≡ length buffer → asks_exec (asked_by input (read_request places input)) ≡ true → MadeAgrees r buffer' m a out' m'

-- PREVIEWS IN A LIST OF CALLS
abbrev pub is_preview : Call → Bool
is_preview (request i s places room) = false
is_preview (grouped ms parts d v) = false
is_preview (preview i room) = true

-- the calls without the previews
unfoldable pub without_previews : List Call → List Call
without_previews [] = []
without_previews (c ∷ cs) = cond (is_preview c) (without_previews cs) (c ∷ without_previews cs)

-- the outcomes of those calls
unfoldable pub not_previewed : List Call → List Outcome → List Outcome
not_previewed [] os = []
not_previewed (c ∷ cs) [] = []
not_previewed (c ∷ cs) (o ∷ os) = cond (is_preview c) (not_previewed cs os) (o ∷ not_previewed cs os)

-- R-6 WHOLE: EXEC agrees with its preview; a preview leaves every lent word and byte; and a list of calls answers, tells posting, replies to
-- each session and leaves the same without its previews
pub record PreviewsHold : Type 0 where
  pub exec : PreviewClaim
  pub made : MadePreviewClaim
  pub leaves : (i room : ℕ) (l : Lent) → (call (preview i room) l).lent ≡ l
  pub answers : (cs : List Call) (l : Lent) → not_previewed cs (outcomes cs l) ≡ outcomes (without_previews cs) l
  pub posts : (cs : List Call) (l : Lent) → events cs (outcomes cs l) ≡ events (without_previews cs) (outcomes (without_previews cs) l)
  pub replies : (i : ℕ) (cs : List Call) (l : Lent) → replies_to i cs l ≡ replies_to i (without_previews cs) l
  pub left : (cs : List Call) (l : Lent) → final cs l ≡ final (without_previews cs) l
