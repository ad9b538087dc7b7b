-- The requests of a frame, served in turns: a turn that ends with a full page is followed by another. Assumes nothing.
use Prim.Native.Nat.{ℕ}
use native.Mathlib.Omega.{arith}
use mathlib.Core.Path.{◌≡◌, refl, sym, ap, ◌∙◌}
use mathlib.Core.Bool.{Bool, true, false}
use mathlib.Core.List.{◌++◌, append_assoc}
use lib.ListN.{take, drop}
use Rattle.base_key.specs.Bytes.{Bytes}
use Rattle.call_spec.specs.Calls.{Lent, valid}
use Rattle.call_spec.specs.Frames.{hex}
use Rattle.frames_lines.specs.declared.pieces.Mark.{Mark}
use Rattle.frames_lines.specs.Served.{Serving, FrameServed}
use Rattle.frames_lines.proofs.ServedLaws.{serving_start, serving_more, serving_last}
use Rattle.frames_console.specs.declared.serve.Progress.{Progress}
use Rattle.frames_console.specs.Steps.{Paused, Over, Reached, SomeServed}
use Rattle.frames_console.specs.Answers.{room_made, Output, TurnsServed}
use Rattle.frames_console.proofs.OutputLaws.{output_page, output_on, output_room}

-- THE OUTPUT in front of the page
text_behind : (w t : Bytes) {t' : Bytes} (replies : Bytes) → t' ≡ t ++ hex replies → w ++ t' ≡ (w ++ t) ++ hex replies
text_behind w t replies e = ap (λ (u : Bytes). w ++ u) e ∙ sym (append_assoc w t (hex replies))

some_behind : (w : Bytes) {i : ℕ} {s t s' t' : Bytes} {l l' : Lent} {b b' : Bool} → Serving i s l b t s' l' b' t' → Serving i s l b (w ++ t) s' l' b' (w ++ t')
some_behind w x = record { replies = x.replies; fit = x.fit; told = x.told; text = text_behind w _ _ x.text; is = x.is }

all_behind : (w : Bytes) {i : ℕ} {s t rest t' : Bytes} {l l' : Lent} {b b' : Bool} {mark : Mark} → FrameServed i s l b t mark rest l' b' t' → FrameServed i s l b (w ++ t) mark rest l' b' (w ++ t')
all_behind w x = record { replies = x.replies; fit = x.fit; told = x.told; text = text_behind w _ _ x.text; is = x.is }

-- WHAT A TURN HAS REACHED
paused_is : {i from₀ filled₀ : ℕ} {held page page' : Bytes} {replied₀ : Bool} {l l' : Lent} {r : Progress} → SomeServed i held from₀ replied₀ filled₀ page l r page' l' → r.full ≡ true → Paused i held from₀ replied₀ filled₀ page l r page' l'
unfolding Reached
paused_is {i} {from₀} {filled₀} {held} {page} {page'} {replied₀} {l} {l'} {r} x e = go r.full e x.reached
  where
    go : (b : Bool) → b ≡ true → Reached b i held from₀ replied₀ filled₀ page l r page' l' → Paused i held from₀ replied₀ filled₀ page l r page' l'
    go true e y = y
    go false e y = let z : ◌≡◌ {A = ℕ} 0 1 = cc in absurd (omega arith)

over_is : {i from₀ filled₀ : ℕ} {held page page' : Bytes} {replied₀ : Bool} {l l' : Lent} {r : Progress} → SomeServed i held from₀ replied₀ filled₀ page l r page' l' → r.full ≡ false → Over i held from₀ replied₀ filled₀ page l r page' l'
unfolding Reached
over_is {i} {from₀} {filled₀} {held} {page} {page'} {replied₀} {l} {l'} {r} x e = go r.full e x.reached
  where
    go : (b : Bool) → b ≡ false → Reached b i held from₀ replied₀ filled₀ page l r page' l' → Over i held from₀ replied₀ filled₀ page l r page' l'
    go false e y = y
    go true e y = let z : ◌≡◌ {A = ℕ} 0 1 = cc in absurd (omega arith)

-- BETWEEN TWO TURNS of a frame whose bytes are `s`: `at` says how far it has come
pub record InTurns (i : ℕ) (s : Bytes) (filled : ℕ) (page : Bytes) (l : Lent) (at : Progress) (page' : Bytes) (l' : Lent) : Type 0 where
  pub out : Bytes
  pub output : Output out at.filled page'
  pub going : at.full ≡ true → Serving i s l false (take filled page) (drop at.from s) l' at.replied out
  pub over : at.full ≡ false → FrameServed i s l false (take filled page) at.mark (drop at.from s) l' at.replied out

pub turns_none : (i : ℕ) (s : Bytes) (filled : ℕ) (page : Bytes) {l : Lent} (mark : Mark) → valid l ≡ true → InTurns i s filled page l (record { from = 0; replied = false; filled = filled; full = true; mark = mark }) page l
turns_none i s filled page {l} mark ok = record {
  out = take filled page;
  output = output_page filled page;
  going = λ e. serving_start i s l false (take filled page) ok;
  over = λ e. let z : ◌≡◌ {A = ℕ} 0 1 = cc in absurd (omega arith);
}

-- room is made, and a turn is taken
pub turns_more : (size need : ℕ) {i : ℕ} {s page page₁ page₂ : Bytes} {filled room : ℕ} {at r : Progress} {l l₁ l₂ : Lent} → InTurns i s filled page l at page₁ l₁ → at.full ≡ true → room ≡ room_made size at.filled need
    → SomeServed i s at.from at.replied room page₁ l₁ r page₂ l₂ → InTurns i s filled page l r page₂ l₂
turns_more size need {i} {s} {page} {page₁} {page₂} {filled} {room} {at} {r} {l} {l₁} x t e p = record {
  out = o.written ++ take r.filled page₂;
  output = record { written = o.written; is = refl };
  going = λ u. serving_more so_far (some_behind o.written (paused_is p u).served);
  over = λ u. serving_last so_far (all_behind o.written (over_is p u).served);
}
  where
    o : Output x.out room page₁
    o = output_on x.output (output_room page₁ size at.filled need e)

    so_far : Serving i s l false (take filled page) (drop at.from s) l₁ at.replied (o.written ++ take room page₁)
    so_far = coe 0 1 (z. Serving i s l false (take filled page) (drop at.from s) l₁ at.replied (o.is z)) (x.going t)

-- the frame is over, and room is made
pub turns_over : (size need : ℕ) {i : ℕ} {s page page' : Bytes} {filled room : ℕ} {at : Progress} {l l' : Lent} → InTurns i s filled page l at page' l' → at.full ≡ false → room ≡ room_made size at.filled need
    → TurnsServed i s filled page l (record { from = at.from; replied = at.replied; filled = room; full = at.full; mark = at.mark }) page' l'
turns_over size need {page' = page'} {at = at} x t e = record { out = x.out; output = output_on x.output (output_room page' size at.filled need e); served = x.over t }
