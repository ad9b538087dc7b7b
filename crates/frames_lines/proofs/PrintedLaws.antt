-- A printed line tells its session, each reply and its mark: by the one split of a reply stream. Assumes nothing.
use Prim.Native.Nat.{ℕ, zero, suc, ◌+◌, ◌/◌, ◌%◌, ◌≤◌, ◌<◌}
use native.Mathlib.Decide.{dec_le, ℕ_discrete}
use native.Mathlib.Omega.{arith}
use mathlib.Core.Path.{◌≡◌, refl, sym, ap, ap₂, ◌∙◌}
use mathlib.Core.Bool.{Bool, true, false, cond}
use mathlib.Core.List.{List, [], ◌∷◌, ◌++◌, map}
use Rattle.std.specs.Prelude.{Option, Some}
use lib.Dec.{ltb, leb}
use lib.ListN.{length, get_or, drop}
use borrow.Author.Tests.{le-leb, lt-leb, eq-eqb, ne_eqb}
use Rattle.base_key.specs.Bytes.{Bytes, bytes, concat}
use Rattle.base_number.specs.Decimal.{digits}
use Rattle.base_number.specs.Number.{value_of}
use Rattle.base_number.proofs.RoundTrip.{reads, value_back}
use Rattle.resp_spec.specs.Request.{read_request}
use Rattle.resp_spec.specs.Reply.{Reply, encode}
use Rattle.reply_split.specs.Streams.{stream}
use Rattle.reply_split.proofs.Splits.{three_bytes, same_pieces}
use Rattle.command_spec.specs.Session.{clear}
use Rattle.call_spec.specs.Serve.{State, request_on}
use Rattle.call_spec.specs.Frames.{Frame, stops, requests, held_rest, closes, hex_digit, hex, or_dash, shown, Given, answer_given, frame}
use Rattle.call_spec.specs.Captures.{SilentOrReply, no_reply, replied, with_answer}
use Rattle.call_spec.proofs.AnswerLaws.{served_answers}
use Rattle.call_spec.proofs.CaptureLaws.{some_answer}
use Rattle.frames_lines.specs.declared.pieces.Mark.{Mark}
use Rattle.frames_lines.specs.declared.pieces.Mark.TheVariants.{NoMark, Number, Dropped}
use Rattle.frames_lines.specs.Pieces.{head_text, number_text, mark_text}
use Rattle.frames_lines.specs.Served.{behind}
use Rattle.frames_lines.specs.Printed.{request_answers, frame_answers, printed, FramePrinted, LineTells}
use Rattle.frames_lines.proofs.ServedLaws.{first, peel_number, peel_waits, peel_used}

-- THE ANSWERS TO REQUESTS, peeled off as the requests are
module _ (fuel i : ℕ) (s : Bytes) (st : State) where
  answers_number : ((first i s st).outcome.number ≡ 0 → ⊥) → request_answers (suc fuel) i s st ≡ []
  unfolding request_answers
  answers_number n = rw (ne_eqb (first i s st).outcome.number 0 n, request_answers)

  answers_wait : (first i s st).outcome.number ≡ 0 → (first i s st).outcome.used ≡ 0 → request_answers (suc fuel) i s st ≡ []
  unfolding request_answers
  answers_wait n u = rw (eq-eqb (first i s st).outcome.number 0 n, eq-eqb (first i s st).outcome.used 0 u, request_answers)

  answers_used : (first i s st).outcome.number ≡ 0 → ((first i s st).outcome.used ≡ 0 → ⊥)
      → request_answers (suc fuel) i s st ≡ with_answer (first i s st).outcome.reply (request_answers fuel i (cond (closes s (read_request 1024 s)) [] (drop (first i s st).outcome.used s)) (first i s st).state)
  unfolding request_answers
  answers_used n u = rw (eq-eqb (first i s st).outcome.number 0 n, ne_eqb (first i s st).outcome.used 0 u, request_answers)

-- A FRAME: its answers are replies, whose stream it holds, and its mark is one
record StreamMarked (answers : List Bytes) (f : Frame) : Type 0 where
  told : List Reply
  mark : Mark
  each : answers ≡ map encode told
  replies : f.replies ≡ stream told
  marked : f.mark ≡ mark_text mark

first_answers : (i : ℕ) (s : Bytes) (st : State) → SilentOrReply (first i s st).outcome.reply
unfolding request_on
first_answers i s st = go (ltb i 16) refl
  where
    go : (b : Bool) → ltb i 16 ≡ b → SilentOrReply (first i s st).outcome.reply
    go true e = rw (e, request_on) (served_answers 1024 32768 s st.store (get_or st.sessions i clear))
    go false e = rw (e, request_on) no_reply

one_more : (reply : Bytes) (answers : List Bytes) (f : Frame) → SilentOrReply reply → StreamMarked answers f → StreamMarked (with_answer reply answers) (behind reply f)
unfolding concat
one_more reply answers f no_reply p = record { told = p.told; mark = p.mark; each = p.each; replies = p.replies; marked = p.marked }
one_more reply answers f (replied r) p = record {
  told = r ∷ p.told;
  mark = p.mark;
  each = some_answer (encode r) answers (three_bytes r) ∙ ap (λ (l : List Bytes). encode r ∷ l) p.each;
  replies = ap (λ (l : Bytes). encode r ++ l) p.replies;
  marked = p.marked;
}

no_replies : (mark : Mark) (rest : Bytes) (st : State) → StreamMarked [] (stops (mark_text mark) rest st)
unfolding concat
no_replies mark rest st = record { told = []; mark = mark; each = refl; replies = refl; marked = refl }

requests_printed : (fuel i : ℕ) (s : Bytes) (st : State) → StreamMarked (request_answers fuel i s st) (requests fuel i s st)
unfolding requests request_answers mark_text number_text
requests_printed zero i s st = no_replies NoMark s st
requests_printed (suc fuel) i s st = go (ℕ_discrete (first i s st).outcome.number 0) (ℕ_discrete (first i s st).outcome.used 0) (requests_printed fuel i left (first i s st).state)
  where
    left : Bytes
    left = cond (closes s (read_request 1024 s)) [] (drop (first i s st).outcome.used s)

    go : Dec ((first i s st).outcome.number ≡ 0) → Dec ((first i s st).outcome.used ≡ 0) → StreamMarked (request_answers fuel i left (first i s st).state) (requests fuel i left (first i s st).state) → StreamMarked (request_answers (suc fuel) i s st) (requests (suc fuel) i s st)
    go (no n) k more = rw (answers_number fuel i s st n, peel_number fuel i s st n) (no_replies (Number (first i s st).outcome.number) [] (first i s st).state)
    go (yes e) (yes u) more = rw (answers_wait fuel i s st e u, peel_waits fuel i s st e u) (no_replies NoMark s (first i s st).state)
    go (yes e) (no u) more = rw (answers_used fuel i s st e u, peel_used fuel i s st e u) (one_more (first i s st).outcome.reply _ _ (first_answers i s st) more)

rest_printed : (answers : List Bytes) (f : Frame) → StreamMarked answers f → StreamMarked answers (held_rest f)
unfolding held_rest mark_text
rest_printed answers f p = go (leb (length f.rest) 4096)
  where
    go : (fits : Bool) → StreamMarked answers (cond fits f (record { replies = f.replies; mark = bytes "!"; rest = []; state = f.state }))
    go true = p
    go false = record { told = p.told; mark = Dropped; each = p.each; replies = p.replies; marked = refl }

pub frame_printed : FramePrinted
unfolding frame answer_given shown head_text printed
frame_printed line c g e =
    let i = g.session in
    let s = get_or c.rests i [] ++ g.input in
    let p = rest_printed (frame_answers c g) (requests (length s) i s c.state) (requests_printed (length s) i s c.state) in
    record {
      replies = p.told;
      mark = p.mark;
      each = p.each;
      out = ap (λ (o : Option Given). (answer_given o c).out) e ∙ (λ z. head_text i ++ or_dash (hex (p.replies z) ++ p.marked z));
    }

-- HEXADECIMAL DIGITS are apart from each other, from `!` (33) and from `-` (45)
digit_low : (n : ℕ) → n ≤ 9 → hex_digit n ≡ 48 + n
unfolding hex_digit
digit_low n h = rw (le-leb n 9 h) refl

digit_high : (n : ℕ) → 9 < n → hex_digit n ≡ 87 + n
unfolding hex_digit
digit_high n h = rw (lt-leb n 9 h) refl

digit_least : (n : ℕ) → 48 ≤ hex_digit n
digit_least n = go (dec_le n 9)
  where
    go : Dec (n ≤ 9) → 48 ≤ hex_digit n
    go (yes h) = omega (arith, digit_low n h)
    go (no h) = let k : 9 < n = omega arith in omega (arith, digit_high n k)

digit_apart : (n k : ℕ) → hex_digit n ≡ hex_digit k → n ≡ k
digit_apart n k e = go (dec_le n 9) (dec_le k 9)
  where
    go : Dec (n ≤ 9) → Dec (k ≤ 9) → n ≡ k
    go (yes a) (yes b) = omega (arith, digit_low n a, digit_low k b)
    go (yes a) (no b) = let above : 9 < k = omega arith in omega (arith, digit_low n a, digit_high k above)
    go (no a) (yes b) = let above : 9 < n = omega arith in omega (arith, digit_high n above, digit_low k b)
    go (no a) (no b) =
        let above : 9 < n = omega arith in
        let too : 9 < k = omega arith in
        omega (arith, digit_high n above, digit_high k too)

-- a mark is nothing, or begins with `!`
mark_first : (m : Mark) → get_or (mark_text m) 0 0 ≤ 33
unfolding mark_text number_text
mark_first NoMark = omega arith
mark_first (Number n) = omega arith
mark_first Dropped = omega arith

mark_apart : (m n : Mark) → mark_text m ≡ mark_text n → m ≡ n
unfolding mark_text number_text
mark_apart NoMark NoMark e = refl
mark_apart NoMark (Number n) e = let z : 0 ≡ length (bytes "!" ++ digits n) = ap length e in absurd (omega arith)
mark_apart NoMark Dropped e = let z : 0 ≡ length (bytes "!") = ap length e in absurd (omega arith)
mark_apart (Number n) NoMark e = let z : length (bytes "!" ++ digits n) ≡ 0 = ap length e in absurd (omega arith)
mark_apart (Number n) (Number k) e =
    let value : Some n ≡ Some k = sym (value_back n) ∙ ap value_of (ap (drop 1) e) ∙ value_back k in
    let same : n ≡ k = cc in
    ap Number same
mark_apart (Number n) Dropped e = let z : length (digits n) ≡ 0 = ap length (ap (drop 1) e) in absurd (omega (arith, (reads n).some_byte))
mark_apart Dropped NoMark e = let z : length (bytes "!") ≡ 0 = ap length e in absurd (omega arith)
mark_apart Dropped (Number n) e = let z : 0 ≡ length (digits n) = ap length (ap (drop 1) e) in absurd (omega (arith, (reads n).some_byte))
mark_apart Dropped Dropped e = refl

-- so hexadecimal is told from the mark behind it
hex_apart : (s t : Bytes) (m n : Mark) → hex s ++ mark_text m ≡ hex t ++ mark_text n → (s ≡ t) × (mark_text m ≡ mark_text n)
unfolding hex
hex_apart [] [] m n e = (refl, e)
hex_apart [] (y ∷ t) m n e =
    let one : get_or (mark_text m) 0 0 ≡ hex_digit (y / 16) = ap (λ (l : Bytes). get_or l 0 0) e in
    absurd (omega (arith, mark_first m, digit_least (y / 16)))
hex_apart (x ∷ s) [] m n e =
    let one : hex_digit (x / 16) ≡ get_or (mark_text n) 0 0 = ap (λ (l : Bytes). get_or l 0 0) e in
    absurd (omega (arith, mark_first n, digit_least (x / 16)))
hex_apart (x ∷ s) (y ∷ t) m n e =
    let high : x / 16 ≡ y / 16 = digit_apart (x / 16) (y / 16) (ap (λ (l : Bytes). get_or l 0 0) e) in
    let low : x % 16 ≡ y % 16 = digit_apart (x % 16) (y % 16) (ap (λ (l : Bytes). get_or l 1 0) e) in
    let same : x ≡ y = omega arith in
    let more = hex_apart s t m n (ap (drop 2) e) in
    (ap₂ ◌∷◌ same more.0, more.1)

-- and neither begins with `-`
no_dash : (s : Bytes) (m : Mark) → get_or (hex s ++ mark_text m) 0 0 ≡ 45 → ⊥
unfolding hex
no_dash [] m e = omega (arith, mark_first m)
no_dash (b ∷ s) m e = omega (arith, digit_least (b / 16))

dash_apart : (a b : Bytes) → (get_or a 0 0 ≡ 45 → ⊥) → (get_or b 0 0 ≡ 45 → ⊥) → or_dash a ≡ or_dash b → a ≡ b
dash_apart [] [] f g e = refl
dash_apart [] (y ∷ b) f g e = absurd (g (sym (ap (λ (l : Bytes). get_or l 0 0) e)))
dash_apart (x ∷ a) [] f g e = absurd (f (ap (λ (l : Bytes). get_or l 0 0) e))
dash_apart (x ∷ a) (y ∷ b) f g e = e

-- THE THEOREM
pub line_tells : LineTells
unfolding printed head_text
line_tells i j rs qs m n e =
    let tens : 48 + i / 10 ≡ 48 + j / 10 = ap (λ (l : Bytes). get_or l 0 0) e in
    let ones : 48 + i % 10 ≡ 48 + j % 10 = ap (λ (l : Bytes). get_or l 1 0) e in
    let text = dash_apart (hex (stream rs) ++ mark_text m) (hex (stream qs) ++ mark_text n) (no_dash (stream rs) m) (no_dash (stream qs) n) (ap (drop 3) e) in
    let both = hex_apart (stream rs) (stream qs) m n text in
    (omega arith, same_pieces rs qs both.0, mark_apart m n both.1)
