-- A whole frame: its requests, its rest and its pieces are the answer of the definition. Assumes nothing.
use Prim.Native.Nat.{ℕ, suc, ◌-◌, ◌≤◌, ◌<◌}
use native.Mathlib.Decide.{dec_le}
use native.Mathlib.Omega.{arith}
use mathlib.Core.Path.{◌≡◌, refl, sym, ap, ap₂, ◌∙◌}
use mathlib.Core.Bool.{Bool, false}
use mathlib.Core.List.{List, [], ◌∷◌, ◌++◌, append_assoc}
use Rattle.std.specs.Prelude.{None, Some}
use lib.ListN.{length, get_or, set, length-append}
use lib.Seq.{set_out}
use borrow.Author.Tests.{le-leb, lt-leb}
use Rattle.base_key.specs.Bytes.{Bytes, bytes}
use Rattle.base_number.specs.Decimal.{digits, digits_within}
use Rattle.call_spec.specs.Serve.{State}
use Rattle.call_spec.specs.Calls.{Lent}
use Rattle.call_spec.specs.Frames.{Frame, requests, held_rest, hex, shown, Given, Console, answer_given, stops}
use Rattle.frames_lines.specs.declared.pieces.Mark.{Mark}
use Rattle.frames_lines.specs.declared.pieces.Mark.TheVariants.{Number}
use Rattle.frames_lines.specs.Pieces.{head_text, number_text, malformed_text, mark_text, mark_or_dash, end_text, some?}
use Rattle.frames_lines.specs.Rest.{rest_of}
use Rattle.frames_lines.specs.Served.{state_in, requests_left, or_some, FrameServed, mark_after, Answered}
use Rattle.frames_lines.proofs.AnswerLaws.{dash_is}
use Rattle.frames_lines.proofs.ServedLaws.{no_session}

-- the line of a frame, from its pieces
line_is : (i : ℕ) (replies rest : Bytes) (m : Mark) (st : State) → shown i (record { replies = replies; mark = mark_text m; rest = rest; state = st }) ++ 10 ∷ [] ≡ head_text i ++ (hex replies ++ end_text (some? replies) m)
unfolding shown head_text end_text
line_is i replies rest m st =
    ap (λ (l : Bytes). head_text i ++ l) (ap (λ (l : Bytes). l ++ 10 ∷ []) (sym (dash_is replies m)) ∙ append_assoc (hex replies) (mark_or_dash (some? replies) m) (10 ∷ []))

-- the rest that is kept, with its mark
rest_marked : (replies rest : Bytes) (m : Mark) (st : State) → held_rest (record { replies = replies; mark = mark_text m; rest = rest; state = st }) ≡ record { replies = replies; mark = mark_text (mark_after m rest); rest = rest_of rest; state = st }
unfolding held_rest mark_after rest_of mark_text
rest_marked replies rest m st = go (dec_le (length rest) 4096)
  where
    go : Dec (length rest ≤ 4096) → held_rest (record { replies = replies; mark = mark_text m; rest = rest; state = st }) ≡ record { replies = replies; mark = mark_text (mark_after m rest); rest = rest_of rest; state = st }
    go (yes h) = rw (le-leb (length rest) 4096 h)
    go (no h) = let k : 4096 < length rest = omega arith in rw (lt-leb (length rest) 4096 k)

-- a frame of a session below 16: its requests are served behind `t` and its session
pub frame_answered : (g : Given) (c : Console) (t : Bytes) {s t' : Bytes} {l l' : Lent} {replied : Bool} {mark : Mark} {rest : Bytes} → c.state ≡ state_in l → s ≡ get_or c.rests g.session [] ++ g.input
    → FrameServed g.session s l false (t ++ head_text g.session) mark rest l' replied t'
    → Answered (Some g) c t (record { state = state_in l'; rests = set c.rests g.session (rest_of rest) }) (t' ++ end_text replied (mark_after mark rest))
unfolding answer_given requests_left or_some
frame_answered g c t {s} {t'} {l} {l'} {replied} {mark} {rest} state bytes f =
    record { out = pieces_are ∙ ap (λ (x : Bytes). t ++ x) (sym (ap (λ (x : Frame). shown i x ++ 10 ∷ []) whole ∙ line_is i f.replies (rest_of rest) (mark_after mark rest) (state_in l'))); console = ap (λ (x : Frame). record { state = x.state; rests = set c.rests i x.rest }) whole }
  where
    i : ℕ
    i = g.session

    whole : held_rest (requests (length (get_or c.rests g.session [] ++ g.input)) g.session (get_or c.rests g.session [] ++ g.input) c.state) ≡ record { replies = f.replies; mark = mark_text (mark_after mark rest); rest = rest_of rest; state = state_in l' }
    whole = (λ z. held_rest (requests (length (sym bytes z)) g.session (sym bytes z) (state z))) ∙ ap held_rest f.is ∙ rest_marked f.replies rest mark (state_in l')

    pieces_are : t' ++ end_text replied (mark_after mark rest) ≡ t ++ (head_text g.session ++ (hex f.replies ++ end_text (some? f.replies) (mark_after mark rest)))
    pieces_are =
        ap₂ (λ (x : Bytes) (b : Bool). x ++ end_text b (mark_after mark rest)) (f.text ∙ append_assoc t (head_text g.session) (hex f.replies)) f.told
        ∙ append_assoc t (head_text g.session ++ hex f.replies) (end_text (some? f.replies) (mark_after mark rest))
        ∙ ap (λ (x : Bytes). t ++ x) (append_assoc (head_text g.session) (hex f.replies) (end_text (some? f.replies) (mark_after mark rest)))

-- no rest is no rest above 4,096 bytes
nothing_held : (mark : Bytes) (st : State) → held_rest (stops mark [] st) ≡ stops mark [] st
unfolding held_rest
nothing_held mark st = refl

-- a frame of a session above 15
pub frame_refused : (g : Given) (c : Console) → 16 ≤ g.session → 1 ≤ length g.input → length c.rests ≡ 16 → (t : Bytes) → Answered (Some g) c t c (t ++ (head_text g.session ++ end_text false (Number 1)))
unfolding answer_given mark_text number_text digits digits_within hex
frame_refused g c above some_bytes many t =
    record { out = ap (λ (x : Bytes). t ++ x) (sym (ap (λ (x : Frame). shown g.session x ++ 10 ∷ []) whole ∙ line_is g.session [] [] (Number 1) c.state)); console = ap (λ (x : Frame). record { state = x.state; rests = set c.rests g.session x.rest }) whole ∙ ap (λ (r : List Bytes). record { state = c.state; rests = r }) (set_out c.rests g.session [] (omega arith)) }
  where
    size : length (get_or c.rests g.session [] ++ g.input) ≡ suc (length (get_or c.rests g.session [] ++ g.input) - 1)
    size = omega (arith, length-append (get_or c.rests g.session []) g.input)

    whole : held_rest (requests (length (get_or c.rests g.session [] ++ g.input)) g.session (get_or c.rests g.session [] ++ g.input) c.state) ≡ record { replies = []; mark = mark_text (Number 1); rest = []; state = c.state }
    whole =
        ap (λ (k : ℕ). held_rest (requests k g.session (get_or c.rests g.session [] ++ g.input) c.state)) size
        ∙ ap held_rest (no_session (length (get_or c.rests g.session [] ++ g.input) - 1) g.session (get_or c.rests g.session [] ++ g.input) c.state above)
        ∙ nothing_held (mark_text (Number 1)) c.state

-- a line of another form
pub malformed_line : (c : Console) (t : Bytes) → Answered None c t c (t ++ malformed_text)
unfolding answer_given malformed_text
malformed_line c t = record { out = refl; console = refl }
