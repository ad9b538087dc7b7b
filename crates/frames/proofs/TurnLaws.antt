-- The turns of a frame: each ends it or goes on behind where it began. Assumes nothing.
use Prim.Native.Nat.{ℕ, suc, ◌+◌, ◌-◌, ◌*◌, ◌≤◌, ◌<◌}
use native.Mathlib.Omega.{arith}
use mathlib.Core.Path.{◌≡◌, refl, sym, ◌∙◌}
use mathlib.Core.Bool.{Bool, true, false, cond}
use mathlib.Core.List.{List}
use Rattle.std.specs.Prelude.{Option, None, Some}
use lib.Dec.{ltb}
use lib.ListN.{length}
use borrow.Author.Tests.{ltb-true}
use borrow.Rule.Slice.PartMut.{mid_of, mid_len}
use Rattle.base_key.specs.Bytes.{Bytes, part}
use Rattle.call_spec.specs.Calls.{Lent}
use Rattle.frames_console.specs.declared.serve.Progress.{Progress}
use Rattle.frames_lines.specs.declared.pieces.Mark.TheVariants.{NoMark}
use Rattle.frames_lines.specs.Pieces.{MarkFits}
use Rattle.frames_console.specs.Steps.{Fit, Reached, SomeServed}
use Rattle.frames_console.specs.Answers.{room_made}
use Rattle.frames_console.specs.declared.frame.Begun.{Begun}
use Rattle.frames_console.specs.declared.frame.Begun.TheVariants.{Answered, Serve}
use Rattle.frames_lines.specs.Held.{count_at}
use Rattle.frames_console.specs.Lines.{filled_of, begun_as, Begins}
use Rattle.frames_console.proofs.BeginLaws.{given_bounds}
use Rattle.frames_console.proofs.TurnLaws.{InTurns, turns_none, turns_more}
use Rattle.call_spec.specs.Frames as F

-- in front of a turn: what is within its buffers
pub record TurnBounds (session to start end : ℕ) (at : Progress) : Type 0 where
  pub below : session < 16
  pub small : to ≤ 8192
  pub first : start ≡ session * 8192
  pub last : end ≡ start + to
  pub from : at.from ≤ to
  pub filled : at.filled ≤ 131072
  pub mark : MarkFits at.mark

-- IN FRONT OF A TURN of a frame that was begun with `filled` bytes of `page` in use
pub record InLoop (session to filled start end : ℕ) (held page : Bytes) (l : Lent) (at : Progress) (page' : Bytes) (l' : Lent) (reply : Bytes) : Type 0 where
  pub bounds : TurnBounds session to start end at
  pub fit : Fit l' reply
  pub turns : InTurns session (part (session * 8192) to held) filled page l at page' l'

-- what is left of the turns
abbrev pub turns_left : ℕ → Progress → ℕ
turns_left to at = cond at.full (suc (to - at.from)) 0

no_mark : MarkFits NoMark
unfolding MarkFits
no_mark = tt

pub loop_start : {session to filled : ℕ} (held page : Bytes) {l : Lent} {reply : Bytes} → session < 16 → to ≤ 8192 → filled ≤ 131072 → Fit l reply
    → InLoop session to filled (session * 8192) (session * 8192 + to) held page l (record { from = 0; replied = false; filled = filled; full = true; mark = NoMark }) page l reply
loop_start {session} {to} {filled} held page below small room fit = record {
  bounds = record { below = below; small = small; first = refl; last = refl; from = omega arith; filled = room; mark = no_mark };
  fit = fit;
  turns = turns_none session (part (session * 8192) to held) filled page NoMark fit.fit;
}

module _ {session to filled start end room : ℕ} {at r : Progress} {page page₁ page₂ reply : Bytes} {l l₁ l₂ : Lent} (held : Bytes) (x : InLoop session to filled start end held page l at page₁ l₁ reply) (size : length held ≡ 131072)
    (p : SomeServed session (mid_of start (end - start) held) at.from at.replied room page₁ l₁ r page₂ l₂) (t : at.full ≡ true) where
  abbrev b : TurnBounds session to start end at
  b = x.bounds

  frame_is : mid_of start (end - start) held ≡ part (session * 8192) to held
  frame_is = let n : end - start ≡ to = omega (arith, b.last) in λ z. part (b.first z) (n z) held

  frame_length : length (mid_of start (end - start) held) ≡ to
  frame_length = mid_len start end held (omega (arith, b.below, b.small, b.first, b.last)) ∙ omega (arith, b.last)

  pub turn_less : turns_left to r < turns_left to at
  unfolding Reached
  turn_less = rw t (go r.full p.reached)
    where
      go : (c : Bool) → Reached c session (mid_of start (end - start) held) at.from at.replied room page₁ l₁ r page₂ l₂ → cond c (suc (to - r.from)) 0 < suc (to - at.from)
      go true y = omega (arith, y.ahead, p.within, frame_length)
      go false y = omega arith

  pub turn_again : {reply' : Bytes} → room ≡ room_made 131072 at.filled 65536 → length page₁ ≡ 131072 → Fit l₂ reply' → InLoop session to filled start end held page l r page₂ l₂ reply'
  turn_again e whole fit = record {
    bounds = record {
      below = b.below;
      small = b.small;
      first = b.first;
      last = b.last;
      from = omega (arith, p.within, frame_length);
      filled = omega (arith, p.inside);
      mark = p.mark;
    };
    fit = fit;
    turns = turns_more 131072 65536 x.turns t e (coe 0 1 (z. SomeServed session (frame_is z) at.from at.replied room page₁ l₁ r page₂ l₂) p);
  }

-- a frame to serve
pub record ServeBounds (i to n size : ℕ) : Type 0 where
  pub below : i < 16
  pub small : to ≤ 8192
  pub filled : n ≤ size

module _ {line page page' held held' : Bytes} {counts : List ℕ} {filled : ℕ} {r : Begun} (b : Begins line filled page counts held r page' held') where
  pub serve_bounds : {i to n : ℕ} → r ≡ Serve i to n → ServeBounds i to n (length page)
  unfolding begun_as
  serve_bounds {i} {to} {n} e = go (F.given line) refl (sym e ∙ b.answer)
    where
      by_test : (g : F.Given) (d : Bool) → ltb g.session 16 ≡ d → F.given line ≡ Some g → Serve i to n ≡ cond d (Serve g.session (count_at counts g.session + length g.input) (filled_of r)) (Answered (filled_of r)) → ServeBounds i to n (length page)
      by_test g false u t y = let z : ◌≡◌ {A = ℕ} 0 1 = cc in absurd (omega arith)
      by_test g true u t y =
          let session : i ≡ g.session = cc in
          let end : to ≡ count_at counts g.session + length g.input = cc in
          let size : n ≡ filled_of r = cc in
          record { below = omega (arith, session, ltb-true g.session 16 u); small = omega (arith, end, (given_bounds line g t).most); filled = omega (arith, size, b.added.within) }

      go : (o : Option F.Given) → F.given line ≡ o → Serve i to n ≡ begun_as o counts (filled_of r) → ServeBounds i to n (length page)
      go None t y = let z : ◌≡◌ {A = ℕ} 0 1 = cc in absurd (omega arith)
      go (Some g) t y = by_test g (ltb g.session 16) refl t y
