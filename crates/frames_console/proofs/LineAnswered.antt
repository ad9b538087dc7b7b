-- A line: the calls that answer it put exactly the line of the definition. Assumes nothing.
use Prim.Native.Nat.{ℕ, zero, suc, ◌+◌, ◌-◌, ◌*◌, ◌≤◌, ◌<◌}
use native.Mathlib.Omega.{arith}
use mathlib.Core.Path.{◌≡◌, refl, sym, ap, ◌∙◌}
use mathlib.Core.Bool.{Bool, true, false, cond}
use mathlib.Core.List.{List, [], ◌∷◌, ◌++◌}
use Rattle.std.specs.Prelude.{Option, None, Some}
use lib.Dec.{ltb}
use lib.ListN.{length, take, drop, set}
use lib.Seq.{drop-drop, take_all}
use borrow.Author.Tests.{ltb-true, ltb-false}
use Rattle.base_key.specs.Bytes.{Bytes, part}
use Rattle.call_spec.specs.Calls.{Lent}
use Rattle.call_spec.specs.Frames as F
use Rattle.frames_lines.specs.declared.pieces.Mark.{Mark}
use Rattle.frames_console.specs.declared.serve.Progress.{Progress}
use Rattle.frames_console.specs.declared.frame.Begun.{Begun}
use Rattle.frames_console.specs.declared.frame.Begun.TheVariants.{Answered as Put, Serve}
use Rattle.frames_lines.specs.Pieces.{head_text, end_text}
use Rattle.frames_lines.specs.Held.{count_at, held_at, rests_in}
use Rattle.frames_lines.specs.Rest.{rest_of}
use Rattle.frames_console.specs.Page.{Added}
use Rattle.frames_lines.specs.Served.{state_in, FrameServed, mark_after, Answered}
use Rattle.frames_console.specs.Lines.{refused_text, begin_text, begun_as, Begins, rest_in, Ends}
use Rattle.frames_console.specs.Answers.{console_in, Output, TurnsServed, LineAnswered}
use Rattle.frames_lines.proofs.HeldLaws.{rest_of_lem, rests_many}
use Rattle.frames_lines.proofs.FrameLaws.{frame_answered, frame_refused, malformed_line}
use Rattle.frames_console.proofs.BeginLaws.{given_bounds}
use Rattle.frames_console.proofs.OutputLaws.{output_page, output_more}

-- THE REST of a frame is behind the bytes that are done with
drop_front : (k n : ℕ) (l : Bytes) → drop k (take n l) ≡ take (n - k) (drop k l)
drop_front zero n l = let e : n ≡ n - 0 = omega arith in ap (λ (j : ℕ). take j l) e
drop_front (suc k) zero l = let e : 0 ≡ 0 - suc k = omega arith in ap (λ (j : ℕ). take j (drop (suc k) l)) e
drop_front (suc k) (suc n) [] = sym (take_all (suc n - suc k) [] (omega arith))
drop_front (suc k) (suc n) (x ∷ l) = let e : n - k ≡ suc n - suc k = omega arith in drop_front k n l ∙ ap (λ (j : ℕ). take j (drop k l)) e

rest_is : (i from to : ℕ) (held : Bytes) → rest_in i from to held ≡ drop from (part (i * 8192) to held)
rest_is i from to held = ap (take (to - from)) (sym (drop-drop from (i * 8192) held)) ∙ sym (drop_front from to (drop (i * 8192) held))

-- the same from what is equal
served_from : {i : ℕ} {s t t₁ rest rest₁ t' : Bytes} {l l' : Lent} {b b' : Bool} {mark : Mark} → FrameServed i s l b t mark rest l' b' t' → t ≡ t₁ → rest ≡ rest₁ → FrameServed i s l b t₁ mark rest₁ l' b' t'
served_from {i} {s} {t' = t'} {l = l} {l'} {b} {b'} {mark} x et er = coe 0 1 (z. FrameServed i s l b (et z) mark (er z) l' b' t') x

-- THE LINE
by_line : (filled : ℕ) (page : Bytes) {line : Bytes} {o : Option F.Given} {c c' : F.Console} {page' t' : Bytes} {filled' : ℕ} → F.given line ≡ o → Answered o c (take filled page) c' t' → Output t' filled' page' → LineAnswered line c filled page c' filled' page'
unfolding F.frame
by_line filled page {o = o} {c} e a p = record {
  output = record {
    written = p.written;
    is = ap (λ (g : Option F.Given). take filled page ++ ((F.answer_given g c).out ++ 10 ∷ [])) e ∙ sym a.out ∙ p.is;
  };
  console = sym a.console ∙ ap (λ (g : Option F.Given). (F.answer_given g c).console) (sym e);
}

-- the console, by what the sessions hold
console_is : (l : Lent) (counts : List ℕ) (held : Bytes) {rests : List Bytes} → rests_in counts held ≡ rests → console_in l counts held ≡ record { state = state_in l; rests = rests }
unfolding console_in
console_is l counts held e = ap (λ (r : List Bytes). record { state = state_in l; rests = r }) e

-- a session above 15
refused_line : (g : F.Given) (c : F.Console) (t : Bytes) → 16 ≤ g.session → 1 ≤ length g.input → length c.rests ≡ 16 → Answered (Some g) c t c (t ++ refused_text g.session)
unfolding refused_text
refused_line g c t above some_bytes many = frame_refused g c above some_bytes many t

module _ (l : Lent) (counts : List ℕ) (held : Bytes) {line page page' held' : Bytes} {filled n : ℕ} (b : Begins line filled page counts held (Put n) page' held') where
  same_console : console_in l counts held ≡ console_in l counts held'
  unfolding console_in
  same_console = ap (λ (r : List Bytes). record { state = state_in l; rests = r }) (sym b.rests)

  whole_line : (o : Option F.Given) {text : Bytes} → F.given line ≡ o → Added text filled page n page' → Answered o (console_in l counts held) (take filled page) (console_in l counts held) (take filled page ++ text) → LineAnswered line (console_in l counts held) filled page (console_in l counts held') n page'
  whole_line o e a x =
      let y = by_line filled page e x (output_more (output_page filled page) a) in
      record { output = y.output; console = sym same_console ∙ y.console }

  by_session : (g : F.Given) (d : Bool) → ltb g.session 16 ≡ d → F.given line ≡ Some g
      → Put n ≡ cond d (Serve g.session (count_at counts g.session + length g.input) n) (Put n)
      → Added (cond d (head_text g.session) (refused_text g.session)) filled page n page' → LineAnswered line (console_in l counts held) filled page (console_in l counts held') n page'
  unfolding console_in
  by_session g true u e r a = let z : ◌≡◌ {A = ℕ} 0 1 = cc in absurd (omega arith)
  by_session g false u e r a =
      whole_line (Some g) e a (refused_line g (console_in l counts held) (take filled page) (ltb-false g.session 16 u) (given_bounds line g e).some_bytes (rests_many counts held))

  at_once : LineAnswered line (console_in l counts held) filled page (console_in l counts held') n page'
  unfolding begin_text begun_as
  at_once = go (F.given line) refl b.answer b.added
    where
      go : (o : Option F.Given) → F.given line ≡ o → Put n ≡ begun_as o counts n → Added (begin_text o) filled page n page' → LineAnswered line (console_in l counts held) filled page (console_in l counts held') n page'
      go None e r a = whole_line None e a (malformed_line (console_in l counts held) (take filled page))
      go (Some g) e r a = by_session g (ltb g.session 16) refl e r a

-- a frame that is served
pub record ServeIs (line : Bytes) (counts : List ℕ) (i to : ℕ) : Type 0 where
  pub input : Bytes
  pub given : F.given line ≡ Some (record { session = i; input = input })
  pub below : i < 16
  pub end : to ≡ count_at counts i + length input
  pub text : begin_text (Some (record { session = i; input = input })) ≡ head_text i

serve_is : {line page page' held held' : Bytes} {counts : List ℕ} {filled i to n : ℕ} → Begins line filled page counts held (Serve i to n) page' held' → ServeIs line counts i to
unfolding begin_text begun_as
serve_is {line} {counts = counts} {i = i} {to} {n} b = go (F.given line) refl b.answer
  where
    by_test : (g : F.Given) (d : Bool) → ltb g.session 16 ≡ d → F.given line ≡ Some g → Serve i to n ≡ cond d (Serve g.session (count_at counts g.session + length g.input) n) (Put n) → ServeIs line counts i to
    by_test g false u e r = let z : ◌≡◌ {A = ℕ} 0 1 = cc in absurd (omega arith)
    by_test g true u e r =
        let session : i ≡ g.session = cc in
        let end : to ≡ count_at counts g.session + length g.input = cc in
        let test : ltb i 16 ≡ true = ap (λ (k : ℕ). ltb k 16) session ∙ u in
        record {
          input = g.input;
          given = e ∙ (λ z. Some (record { session = sym session z; input = g.input }));
          below = ltb-true i 16 test;
          end = end ∙ ap (λ (k : ℕ). count_at counts k + length g.input) (sym session);
          text = rw test refl;
        }

    go : (o : Option F.Given) → F.given line ≡ o → Serve i to n ≡ begun_as o counts n → ServeIs line counts i to
    go None e r = let z : ◌≡◌ {A = ℕ} 0 1 = cc in absurd (omega arith)
    go (Some g) e r = by_test g (ltb g.session 16) refl e r

module _ {line page page₁ page₂ page' held held₁ held' : Bytes} {counts counts' : List ℕ} {filled i to n filled' : ℕ} {l l' : Lent} {at : Progress} (b : Begins line filled page counts held (Serve i to n) page₁ held₁)
    (s : TurnsServed i (part (i * 8192) to held₁) n page₁ l at page₂ l') (f : Ends i to at page₂ counts held₁ filled' page' counts' held') where
  frame_bytes : part (i * 8192) to held₁ ≡ held_at counts held i ++ (serve_is b).input
  frame_bytes = ap (λ (k : ℕ). part (i * 8192) k held₁) (serve_is b).end ∙ b.bytes (record { session = i; input = (serve_is b).input }) (serve_is b).given (serve_is b).below

  all_served : FrameServed i (part (i * 8192) to held₁) l false (take filled page ++ head_text i) at.mark (rest_in i at.from to held₁) l' at.replied s.out
  all_served =
      let head : Added (head_text i) filled page n page₁ = rw (ap begin_text (serve_is b).given ∙ (serve_is b).text) at b.added in
      served_from s.served head.front (sym (rest_is i at.from to held₁))

  by_frame : Answered (Some (record { session = i; input = (serve_is b).input })) (console_in l counts held) (take filled page) (record { state = state_in l'; rests = set (rests_in counts held) i (rest_of (rest_in i at.from to held₁)) }) (s.out ++ end_text at.replied (mark_after at.mark (rest_in i at.from to held₁)))
  unfolding console_in
  by_frame =
      frame_answered (record { session = i; input = (serve_is b).input }) (console_in l counts held) (take filled page) refl
      (frame_bytes ∙ ap (λ (u : Bytes). u ++ (serve_is b).input) (sym (rest_of_lem counts held i (serve_is b).below))) all_served

  in_turns : LineAnswered line (console_in l counts held) filled page (console_in l' counts' held') filled' page'
  in_turns =
      let y = by_line filled page (serve_is b).given by_frame (output_more s.output f.added) in
      let rests : rests_in counts' held' ≡ set (rests_in counts held) i (rest_of (rest_in i at.from to held₁)) = f.rests ∙ ap (λ (r : List Bytes). set r i (rest_of (rest_in i at.from to held₁))) b.rests in
      record { output = y.output; console = console_is l' counts' held' rests ∙ y.console }

-- A LINE that is answered at once: its answer is exactly the line of the definition, with LF, and the console after it is the definition's
pub line_answered : (l : Lent) {line page page' held held' : Bytes} {counts : List ℕ} {filled n : ℕ} {r : Begun} → Begins line filled page counts held r page' held' → r ≡ Put n → LineAnswered line (console_in l counts held) filled page (console_in l counts held') n page'
line_answered l {held = held} {counts = counts} b e = at_once l counts held (rw e at b)

-- A LINE that is begun, served in turns and ended
pub line_served : {line page page₁ page₂ page' held held₁ held' : Bytes} {counts counts' : List ℕ} {filled i to n filled' : ℕ} {l l' : Lent} {r : Begun} {at : Progress} → Begins line filled page counts held r page₁ held₁ → r ≡ Serve i to n
    → TurnsServed i (part (i * 8192) to held₁) n page₁ l at page₂ l' → Ends i to at page₂ counts held₁ filled' page' counts' held' → LineAnswered line (console_in l counts held) filled page (console_in l' counts' held') filled' page'
line_served b e s f = in_turns (rw e at b) s f
