-- Which requests drop the rest. Assumes nothing.
use Prim.Native.Nat.{ℕ, ◌/◌, ◌<◌}
use native.Mathlib.Omega.{arith}
use mathlib.Core.Path.{◌≡◌, refl, sym, ap, ◌∙◌}
use mathlib.Core.Bool.{Bool, true, false}
use mathlib.Core.List.{List, [], ◌∷◌, map}
use lib.ListN.{length, take, get_or}
use lib.Seq.{get_or-take}
use borrow.Author.Tests.{lt-ltb}
use Rattle.base_key.specs.Bytes.{Bytes}
use Rattle.resp_spec.specs.declared.Span.{Span}
use Rattle.resp_spec.specs.Request.{Reading, waits, faulty, too_many, whole, read_request, spanned}
use Rattle.resp_spec.specs.Steps.{span_words, argument_words}
use Rattle.command_names.specs.declared.Control.{Control as Said}
use Rattle.command_spec.specs.Names.{row_of, Row, Control, MULTI, EXEC, DISCARD, WATCH, UNWATCH, QUIT, other, control_of}
use Rattle.command_names.specs.declared.Row.{Row as CodeRow}
use Rattle.command_names.specs.Rows.{Looked, control_said}
use Rattle.command_spec.specs.Numbers.{AnswerNumbers}
use Rattle.command_spec.specs.Session.{Session, clear, says, respond}
use Rattle.store_memtable.specs.Versions.{Store}
use Rattle.call_spec.specs.Serve.{protocol_error, serve_reading, serve, answered}
use Rattle.call_spec.specs.Calls.{Lent, Called, valid, store_of, session_of, request_call, answer_of, RequestPromise, TablePromise}
use Rattle.call_spec.specs.Frames.{closes}
use Rattle.call_spec.proofs.LentLaws.{request_served}
use Rattle.frames_lines.specs.Quit.{is_quit, quits_said, quits, first_span, Drops, Told}
use Rattle.frames_lines.proofs.UsedLaws.{finish_full}

pub quits_is : (word : Bytes) {row : CodeRow} (r : Said) {b : Bool} → Looked word row → control_said r ≡ control_of row.name → b ≡ quits_said r → b ≡ quits word
unfolding quits
quits_is word r looked said e = e ∙ ap is_quit said ∙ ap (λ (x : Row). is_quit (control_of x.name)) looked.is

by_control : (c : Control) → is_quit c ≡ elim c [
  | QUIT ↦ true
  | MULTI ↦ false
  | EXEC ↦ false
  | DISCARD ↦ false
  | WATCH ↦ false
  | UNWATCH ↦ false
  | other ↦ false
]
by_control MULTI = refl
by_control EXEC = refl
by_control DISCARD = refl
by_control WATCH = refl
by_control UNWATCH = refl
by_control QUIT = refl
by_control other = refl

whole_quits : (s : Bytes) (p : Span) (ps : List Span) (used : ℕ) → quits (spanned s p) ≡ closes s (whole (p ∷ ps) used)
unfolding closes quits
whole_quits s p ps used = by_control (control_of (row_of (spanned s p)).name)

-- the first argument's part stands in front of the table
first_words : (table : List ℕ) (p : Span) (ps : List Span) → take (length (span_words (p ∷ ps))) table ≡ span_words (p ∷ ps) → first_span table ≡ p
unfolding span_words
first_words table p ps e =
    let n = length (p.start ∷ p.len ∷ span_words ps) in
    let start : get_or table 0 0 ≡ p.start = sym (get_or-take n table 0 0 (omega arith)) ∙ ap (λ (l : List ℕ). get_or l 0 0) e in
    let len : get_or table 1 0 ≡ p.len = sym (get_or-take n table 1 0 (omega arith)) ∙ ap (λ (l : List ℕ). get_or l 1 0) e in
    λ z. record { start = start z; len = len z }

-- BY WHAT WAS READ
drops_by : (room : ℕ) (s : Bytes) (x : Reading) (st : Store) (i : Session) (table : List ℕ) → take (length (argument_words x)) table ≡ argument_words x
    → (serve_reading room s x st i).number ≡ 0 → ((serve_reading room s x st i).used ≡ 0 → ⊥) → Drops s x (serve_reading room s x st i).used (length (serve_reading room s x st i).reply) table
unfolding serve_reading argument_words closes
drops_by room s waits st i table f n u = absurd (u refl)
drops_by room s too_many st i table f n u = absurd (omega arith)
drops_by room s (faulty g) st i table f n u =
    let q = finish_full room (length s) (says (protocol_error s g) st clear) st i n u in
    record { unanswered = λ h _. absurd (omega (arith, q.all_used)); named = λ h _. absurd (omega (arith, q.all_used)) }
drops_by room s (whole [] used) st i table f n u = record { unanswered = λ _ _. refl; named = λ _ z. absurd (z refl) }
drops_by room s (whole (p ∷ ps) used) st i table f n u =
    let q = finish_full room used (respond (map (spanned s) (p ∷ ps)) st i) st i n u in
    record { unanswered = λ _ z. absurd (omega (arith, q.some_reply)); named = λ _ _. ap (λ (x : Span). quits (spanned s x)) (first_words table p ps f) ∙ whole_quits s p ps used }

-- THE ANSWER of a request call with 1,024 places, and the argument table that it leaves
pub table_told : {i : ℕ} {s : Bytes} {l l' : Lent} {buffer buffer' : Bytes} {r : AnswerNumbers} (t : List ℕ) {t' : List ℕ} → i < 16 → valid l ≡ true → length t ≡ 2048
    → RequestPromise i s (length t / 2) buffer l r buffer' l' → TablePromise i s l t t' → Told s r t'
unfolding serve
table_told {i} {s} {l} {l'} {buffer} {buffer'} {r} t {t'} below fit size p q = record {
  drops = λ n u.
      let y = drops_by (length buffer) s (read_request 1024 s) (store_of l) (session_of i l) t' front (sym (ap (λ (a : AnswerNumbers). a.number) is) ∙ n) (λ z. u (ap (λ (a : AnswerNumbers). a.used) is ∙ z)) in
      record {
        unanswered = λ h z. y.unanswered (omega (arith, ap (λ (a : AnswerNumbers). a.used) is)) (sym (ap (λ (a : AnswerNumbers). a.reply) is) ∙ z);
        named = λ h z. y.named (omega (arith, ap (λ (a : AnswerNumbers). a.used) is)) (λ k. z (ap (λ (a : AnswerNumbers). a.reply) is ∙ k));
      };
}
  where
    half : length t / 2 ≡ 1024
    half = omega arith

    is : r ≡ answer_of (answered (serve 1024 (length buffer) s (store_of l) (session_of i l)))
    is = p.answer ∙ ap (λ (k : ℕ). answer_of (request_call i s k (length buffer) l).outcome) half ∙ ap (λ (c : Called). answer_of c.outcome) (request_served i s 1024 (length buffer) l below fit)

    front : take (length (argument_words (read_request 1024 s))) t' ≡ argument_words (read_request 1024 s)
    front = rw half at (q.parts (lt-ltb i 16 below) fit)
