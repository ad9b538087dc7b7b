-- How the answer to a line is begun and ended. Assumes nothing.
use Prim.Native.Nat.{ℕ, ◌+◌, ◌-◌, ◌*◌, ◌≤◌, ◌<◌}
use native.Mathlib.Omega.{arith}
use mathlib.Core.Path.{◌≡◌, refl, sym, ap, ap₂, ◌∙◌}
use mathlib.Core.Bool.{Bool, true, false, cond, ◌&&◌}
use mathlib.Core.List.{List, [], ◌∷◌, ◌++◌, append_assoc}
use Rattle.std.specs.Prelude.{Option, None, Some}
use Rattle.std.proofs.lemmas.Option.{some_pair_parts}
use lib.Dec.{leb, ltb, eqb}
use lib.ListN.{length, take, set, length-append}
use borrow.Author.Tests.{leb-true, lt-ltb, le-ltb}
use Rattle.base_key.specs.Bytes.{Bytes, part}
use Rattle.call_spec.specs.Frames as F
use Rattle.frames_lines.specs.declared.pieces.Mark.{Mark}
use Rattle.frames_lines.specs.declared.pieces.Mark.TheVariants.{Number, Dropped}
use Rattle.frames_console.specs.declared.serve.Progress.{Progress}
use Rattle.frames_console.specs.declared.frame.Begun.TheVariants.{Answered, Serve}
use Rattle.frames_lines.specs.Pieces.{MarkFits, head_text, end_text, malformed_text}
use Rattle.frames_lines.specs.Line.{given_as}
use Rattle.frames_lines.specs.Held.{Memory, count_at, held_at, slot_of, FrameRead, RestAt, RestKept}
use Rattle.frames_lines.specs.Rest.{kept_of, held_of}
use Rattle.frames_lines.specs.Served.{mark_after}
use Rattle.frames_console.specs.Page.{Added, Free}
use Rattle.frames_console.specs.Lines.{refused_text, begin_text, begun_as, Begins, mark_kept, rest_in, Ends}
use Rattle.frames_lines.proofs.HeldLaws.{session_is, input_size}
use Rattle.frames_lines.proofs.RestLaws.{part_length}

-- WHAT A LINE OF THE FORM TELLS
pub record GivenBounds (g : F.Given) : Type 0 where
  pub session : g.session < 100
  pub some_bytes : 1 ≤ length g.input
  pub most : length g.input ≤ 4096

input_some : (i : ℕ) (o : Option Bytes) (g : F.Given) → F.given_of true i o ≡ Some g → 1 ≤ length g.input
unfolding F.given_of
input_some i None g e = let z : ◌≡◌ {A = ℕ} 0 1 = cc in absurd (omega arith)
input_some i (Some s) g e = go (leb 1 (length s)) (leb (length s) 4096) refl e
  where
    go : (b c : Bool) → leb 1 (length s) ≡ b → cond (b && c) (Some (record { session = i; input = s })) None ≡ Some g → 1 ≤ length g.input
    go true true t e = let f : record { session = i; input = s } ≡ g = cc in omega (arith, leb-true 1 (length s) t, ap (λ (x : F.Given). length x.input) f)
    go true false t e = let z : ◌≡◌ {A = ℕ} 0 1 = cc in absurd (omega arith)
    go false c t e = let z : ◌≡◌ {A = ℕ} 0 1 = cc in absurd (omega arith)

no_given : (i : ℕ) (o : Option Bytes) (g : F.Given) → F.given_of false i o ≡ Some g → ⊥
unfolding F.given_of
no_given i o g e = let z : ◌≡◌ {A = ℕ} 0 1 = cc in omega arith

head_bounds : (a b : ℕ) (q : Bool) (o : Option Bytes) (g : F.Given) (p p' r r' : Bool) → leb a 57 ≡ p' → leb b 57 ≡ r' → F.given_of (((p && p') && (r && r')) && q) ((a - 48) * 10 + (b - 48)) o ≡ Some g → GivenBounds g
head_bounds a b q o g false p' r r' t u e = absurd (no_given ((a - 48) * 10 + (b - 48)) o g e)
head_bounds a b q o g true false r r' t u e = absurd (no_given ((a - 48) * 10 + (b - 48)) o g e)
head_bounds a b q o g true true false r' t u e = absurd (no_given ((a - 48) * 10 + (b - 48)) o g e)
head_bounds a b q o g true true true false t u e = absurd (no_given ((a - 48) * 10 + (b - 48)) o g e)
head_bounds a b false o g true true true true t u e = absurd (no_given ((a - 48) * 10 + (b - 48)) o g e)
head_bounds a b true o g true true true true t u e = record {
  session = omega (arith, session_is ((a - 48) * 10 + (b - 48)) o g e, leb-true a 57 t, leb-true b 57 u);
  some_bytes = input_some ((a - 48) * 10 + (b - 48)) o g e;
  most = input_size ((a - 48) * 10 + (b - 48)) o g e;
}

pub given_bounds : (line : Bytes) (g : F.Given) → F.given line ≡ Some g → GivenBounds g
unfolding F.given
given_bounds [] g e = let z : ◌≡◌ {A = ℕ} 0 1 = cc in absurd (omega arith)
given_bounds (a ∷ []) g e = let z : ◌≡◌ {A = ℕ} 0 1 = cc in absurd (omega arith)
given_bounds (a ∷ b ∷ []) g e = let z : ◌≡◌ {A = ℕ} 0 1 = cc in absurd (omega arith)
given_bounds (a ∷ b ∷ c ∷ s) g e = head_bounds a b (eqb c 32) (F.unhex s) g (leb 48 a) (leb a 57) (leb 48 b) (leb b 57) refl refl e

-- the frame that was read
pub record FrameIs (line : Bytes) (i k : ℕ) : Type 0 where
  pub given : F.Given
  pub is : F.given line ≡ Some given
  pub session : given.session ≡ i
  pub count : length given.input ≡ k
  pub bounds : GivenBounds given

module _ {line : Bytes} {counts : List ℕ} {held held' : Bytes} {r : Option (ℕ × ℕ)} (f : FrameRead line counts held r held') where
  frame_is : {i k : ℕ} → r ≡ Some (i, k) → FrameIs line i k
  frame_is {i} {k} e = go (F.given line) refl (sym e ∙ f.answer)
    where
      go : (o : Option F.Given) → F.given line ≡ o → Some (i, k) ≡ given_as o → FrameIs line i k
      go None t u = let z : ◌≡◌ {A = ℕ} 0 1 = cc in absurd (omega arith)
      go (Some g) t u =
          let parts = some_pair_parts i g.session k (length g.input) u in
          record { given = g; is = t; session = sym parts.0; count = sym parts.1; bounds = given_bounds line g t }

  none_is : r ≡ None → F.given line ≡ None
  none_is e = go (F.given line) refl (sym e ∙ f.answer)
    where
      go : (o : Option F.Given) → F.given line ≡ o → None ≡ given_as o → F.given line ≡ None
      go None t u = t
      go (Some g) t u = let z : ◌≡◌ {A = ℕ} 0 1 = cc in absurd (omega arith)

  pub frame_session : {i k : ℕ} → r ≡ Some (i, k) → i < 100
  frame_session e = let x = frame_is e in omega (arith, x.session, x.bounds.session)

  pub frame_count : {i k : ℕ} → r ≡ Some (i, k) → k ≤ 4096
  frame_count e = let x = frame_is e in omega (arith, x.count, x.bounds.most)

  own_bytes : (g : F.Given) → F.given line ≡ Some g → g.session < 16 → part (g.session * 8192) (count_at counts g.session + length g.input) held' ≡ held_at counts held g.session ++ g.input
  own_bytes g e h =
      let slot : slot_of g.session ≡ g.session = omega arith in
      rw slot at (f.bytes g e)

  module _ {filled n : ℕ} {page page' : Bytes} where
    -- a line of another form
    pub begin_malformed : r ≡ None → Added malformed_text filled page n page' → Begins line filled page counts held (Answered n) page' held'
    unfolding begin_text begun_as
    begin_malformed e a =
        let o = none_is e in
        record { answer = rw o refl; added = rw o a; rests = f.rests; bytes = λ g t h. own_bytes g t h }

    -- a frame of a session below 16
    pub begin_serve : {i k m : ℕ} → r ≡ Some (i, k) → i < 16 → m ≡ count_at counts i → Added (head_text i) filled page n page' → Begins line filled page counts held (Serve i (m + k) n) page' held'
    unfolding begin_text begun_as
    begin_serve {i} {k} {m} e below count a =
        let x = frame_is e in
        let test : ltb x.given.session 16 ≡ true = lt-ltb x.given.session 16 (omega (arith, x.session)) in
        let text : begin_text (Some x.given) ≡ head_text i = rw test (ap head_text x.session) in
        let to : m + k ≡ count_at counts x.given.session + length x.given.input = ap₂ ◌+◌ (count ∙ ap (count_at counts) (sym x.session)) (sym x.count) in
        let said : Serve i (m + k) n ≡ begun_as (Some x.given) counts n = rw test (λ z. Serve (sym x.session z) (to z) n) in
        record { answer = rw x.is said; added = rw (x.is, text) a; rests = f.rests; bytes = λ g t h. own_bytes g t h }

    -- a frame of a session above 15
    pub begin_refused : {i k : ℕ} → r ≡ Some (i, k) → 16 ≤ i → Added (refused_text i) filled page n page' → Begins line filled page counts held (Answered n) page' held'
    unfolding begin_text begun_as
    begin_refused {i} {k} e above a =
        let x = frame_is e in
        let test : ltb x.given.session 16 ≡ false = le-ltb x.given.session 16 (omega (arith, x.session)) in
        let text : begin_text (Some x.given) ≡ refused_text i = rw test (ap refused_text x.session) in
        let said : Answered n ≡ begun_as (Some x.given) counts n = rw test refl in
        record { answer = rw x.is said; added = rw (x.is, text) a; rests = f.rests; bytes = λ g t h. own_bytes g t h }

-- one text behind another
pub added_more : {a b page page₁ page₂ : Bytes} {filled n m : ℕ} → Added a filled page n page₁ → Added b n page₁ m page₂ → Added (a ++ b) filled page m page₂
added_more {a} {b} {page} {filled = filled} x y = record {
  front = y.front ∙ ap (λ (l : Bytes). l ++ b) x.front ∙ append_assoc (take filled page) a b;
  count = omega (arith, x.count, y.count, length-append a b);
  within = omega (arith, y.within, x.size);
  size = y.size ∙ x.size;
}

-- the session and `!1` are the line of a session above 15
pub refused_added : (i : ℕ) {page page₁ page₂ : Bytes} {filled n m : ℕ} → Added (head_text i) filled page n page₁ → Added (end_text false (Number 1)) n page₁ m page₂ → Added (refused_text i) filled page m page₂
unfolding refused_text
refused_added i x y = added_more x y

-- behind the session there is room for the end
pub head_room : (i : ℕ) {page page₁ : Bytes} {filled n : ℕ} → Added (head_text i) filled page n page₁ → Free 64 filled page → Free 32 n page₁
unfolding head_text
head_room i x h = record { room = omega (arith, x.count, x.size, h.room) }

-- THE END
pub mark_fits : {m : Mark} (mark : Mark) (k : Option ℕ) → m ≡ mark_kept mark k → MarkFits mark → MarkFits m
unfolding mark_kept MarkFits
mark_fits mark (Some n) e h = rw e h
mark_fits mark None e h = rw e tt

pub one_fits : MarkFits (Number 1)
unfolding MarkFits
one_fits = omega arith

mark_is : (mark : Mark) (rest : Bytes) (n : ℕ) → length rest ≡ n → mark_kept mark (kept_of n) ≡ mark_after mark rest
unfolding kept_of mark_kept mark_after
mark_is mark rest n e = go (leb n 4096) ∙ ap (λ (k : ℕ). cond (leb k 4096) mark Dropped) (sym e)
  where
    go : (b : Bool) → mark_kept mark (cond b (Some n) None) ≡ cond b mark Dropped
    go true = refl
    go false = refl

pub line_ended : {i to r : ℕ} {at : Progress} {page page' held held' : Bytes} {counts counts' : List ℕ} {k : Option ℕ} {m : Mark} → Memory counts held → RestAt i at.from to → RestKept i at.from to counts held k counts' held' → m ≡ mark_kept at.mark k → Added (end_text at.replied m) at.filled page r page' → Ends i to at page counts held r page' counts' held'
line_ended {i} {to} {at = at} {held = held} {counts = counts} mem p x e a =
    let size : length (rest_in i at.from to held) ≡ to - at.from = part_length (i * 8192 + at.from) (to - at.from) held (omega (arith, mem.bytes, p.session, p.order, p.size)) in
    let same = e ∙ ap (mark_kept at.mark) x.answer ∙ mark_is at.mark (rest_in i at.from to held) (to - at.from) size in
    record { added = rw same at a; rests = x.rests; words = x.words ∙ ap (λ (q : Option ℕ). set counts i (held_of q)) x.answer }
