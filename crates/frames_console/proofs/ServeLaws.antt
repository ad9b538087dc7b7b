-- The loop over the requests of a frame: what holds in front of each. Assumes nothing.
use Prim.Native.Nat.{ℕ, suc, ◌+◌, ◌-◌, ◌≤◌, ◌<◌}
use native.Mathlib.Omega.{arith}
use mathlib.Core.Bool.{Bool, true, false, cond}
use mathlib.Core.List.{List}
use mathlib.Core.Path.{◌≡◌, refl, sym, ◌∙◌}
use lib.Dec.{leb, ltb}
use lib.ListN.{length}
use borrow.Author.Tests.{leb-true, leb-false, ltb-true, ltb-false}
use Rattle.base_key.specs.Bytes.{Bytes}
use Rattle.call_spec.specs.Calls.{Lent}
use Rattle.frames_lines.specs.declared.pieces.Mark.TheVariants.{NoMark}
use Rattle.frames_lines.specs.Pieces.{MarkFits}
use Rattle.frames_console.specs.declared.serve.Progress.{Progress}
use Rattle.frames_console.specs.Steps.{Fit, Serves, Stepping, Reached, SomeServed, NextServed, goes_on}
use Rattle.frames_lines.proofs.ServedLaws.{serving_last, serving_more}
use Rattle.frames_console.proofs.StepLaws.{stepping_start, stepping_end, next_fit, next_left, next_served}

-- a bound on the requests that are left
pub left_of : Bytes → Progress → ℕ
left_of held at = cond at.full (suc (length held - at.from)) 0

-- BETWEEN REQUESTS: `at₀` and `at` say how far the frame had come and has come now, and `at.full` that it is not over
pub record Progressing (i : ℕ) (held : Bytes) (at₀ : Progress) (g₀ : Bytes) (l₀ : Lent) (at : Progress) (g : Bytes) (l : Lent) : Type 0 where
  pub inside : at.filled ≤ length g₀
  pub mark : MarkFits at.mark
  pub more : at.full ≡ true → at.from < length held
  pub stepping : at.full ≡ true → Stepping i held at₀.from at₀.replied at₀.filled g₀ l₀ at.from at.replied at.filled g l
  pub over : at.full ≡ false → SomeServed i held at₀.from at₀.replied at₀.filled g₀ l₀ at g l

progress_start : {i from filled : ℕ} {held page : Bytes} {replied : Bool} {l : Lent} {table : List ℕ} {buffer : Bytes} → Serves i held from filled page table buffer → Fit l buffer
    → (at : Progress) → at ≡ record { from = from; replied = replied; filled = filled; full = ltb from (length held); mark = NoMark } → Progressing i held at page l at page l
unfolding MarkFits
progress_start {i} {from} {filled} {held} {page} {replied} {l} x f at e =
    let here = stepping_start i held from replied filled page l x f in
    rw e (record {
      inside = here.inside;
      mark = tt;
      more = λ t. ltb-true from (length held) t;
      stepping = λ t. here;
      over = λ t. rw t (stepping_end here x.session (ltb-false from (length held) t));
    })

module _ (size : ℕ) {i : ℕ} {held : Bytes} {at₀ at : Progress} {g₀ g : Bytes} {l₀ l : Lent} (x : Progressing i held at₀ g₀ l₀ at g l) where
  -- it goes on: requests are left, and the page has room for a reply
  goes_told : goes_on at size ≡ true → (at.full ≡ true) × (65536 ≤ size - at.filled)
  unfolding goes_on
  goes_told = go at.full refl
    where
      go : (b : Bool) → at.full ≡ b → cond b (leb 65536 (size - at.filled)) false ≡ true → (at.full ≡ true) × (65536 ≤ size - at.filled)
      go true e t = (e, leb-true 65536 (size - at.filled) t)
      go false e t = let z : ◌≡◌ {A = ℕ} 0 1 = cc in absurd (omega arith)

  -- the frame is over, or the page is full
  progress_over : at₀.filled + 65536 ≤ length g₀ → size ≡ length g₀ → goes_on at size ≡ false → SomeServed i held at₀.from at₀.replied at₀.filled g₀ l₀ at g l
  unfolding goes_on Reached
  progress_over free same = go at.full refl
    where
      go : (b : Bool) → at.full ≡ b → cond b (leb 65536 (size - at.filled)) false ≡ false → SomeServed i held at₀.from at₀.replied at₀.filled g₀ l₀ at g l
      go false e t = x.over e
      go true e t =
          let y = x.stepping e in
          let short = leb-false 65536 (size - at.filled) t in
          record {
            within = y.within;
            inside = y.inside;
            size = y.size;
            mark = x.mark;
            reached = rw e (record { ahead = y.ahead (omega (arith, short, same, free)); served = y.served });
          }

  -- one more request
  module _ (goes : goes_on at size ≡ true) where
    not_over : at.full ≡ true
    not_over = (goes_told goes).0

    progress_more : at.from < length held
    progress_more = x.more not_over

    module _ {r : Progress} {g' : Bytes} {l' : Lent} (n : SomeServed i held at.from at.replied at.filled g l r g' l') where
      progress_less : left_of held r < left_of held at
      unfolding left_of Reached
      progress_less = rw not_over (go r.full n.reached)
        where
          go : (b : Bool) → Reached b i held at.from at.replied at.filled g l r g' l' → cond b (suc (length held - r.from)) 0 < suc (length held - at.from)
          go true p = omega (arith, p.ahead, n.within, progress_more)
          go false p = omega arith

      progress_next : (r.full ≡ true → r.from < length held) → Progressing i held at₀ g₀ l₀ r g' l'
      unfolding Reached
      progress_next left = record {
        inside = omega (arith, n.inside, y.size);
        mark = n.mark;
        more = left;
        stepping = λ e.
            let p = rw e at n.reached in
            record {
              within = n.within;
              onward = omega (arith, y.onward, p.ahead);
              ahead = λ h. omega (arith, y.onward, p.ahead);
              inside = omega (arith, n.inside, y.size);
              size = n.size ∙ y.size;
              served = serving_more y.served p.served;
            };
        over = λ e.
            let p = rw e at n.reached in
            record {
              within = n.within;
              inside = omega (arith, n.inside, y.size);
              size = n.size ∙ y.size;
              mark = n.mark;
              reached = rw e (record { served = serving_last y.served p.served });
            };
      }
        where
          y : Stepping i held at₀.from at₀.replied at₀.filled g₀ l₀ at.from at.replied at.filled g l
          y = x.stepping not_over

-- the buffers keep their length
pub record Sizes (g₀ p₀ r₀ g p r : List ℕ) : Type 0 where
  pub page : length g ≡ length g₀
  pub places : length p ≡ length p₀
  pub reply : length r ≡ length r₀

-- in front of a request
pub record InLoop (i : ℕ) (held g₀ p₀ r₀ : List ℕ) (l₀ : Lent) (size : ℕ) (at₀ : Progress) (g p r : List ℕ) (l : Lent) (at : Progress) : Type 0 where
  pub session : i < 16
  pub small : length held ≤ 8192
  pub free : at₀.filled + 65536 ≤ length g₀
  pub whole : size ≡ length g₀
  pub places : length p ≡ 2048
  pub room : length r ≡ 32768
  pub fit : Fit l r
  pub sizes : Sizes g₀ p₀ r₀ g p r
  pub progress : Progressing i held at₀ g₀ l₀ at g l

-- before the first
pub loop_start : {i : ℕ} {held g p r : List ℕ} {l : Lent} (begun : Progress) → Serves i held begun.from begun.filled g p r → Fit l r
    → (at : Progress) → at ≡ record { from = begun.from; replied = begun.replied; filled = begun.filled; full = ltb begun.from (length held); mark = NoMark } → InLoop i held g p r l (length g) at g p r l at
loop_start begun x f at e = record {
  session = x.session;
  small = x.size;
  free = rw e x.free;
  whole = refl;
  places = x.places;
  room = x.room;
  fit = f;
  sizes = record { page = refl; places = refl; reply = refl };
  progress = progress_start x f at e;
}

module _ {i size : ℕ} {held g₀ p₀ r₀ g p r : List ℕ} {l₀ l : Lent} {at₀ at : Progress} (x : InLoop i held g₀ p₀ r₀ l₀ size at₀ g p r l at) where
  -- behind the last
  pub loop_over : {c : Bool} → c ≡ goes_on at size → c ≡ false → SomeServed i held at₀.from at₀.replied at₀.filled g₀ l₀ at g l
  loop_over e t = progress_over size x.progress x.free x.whole (sym e ∙ t)

  module _ {c : Bool} (e : c ≡ goes_on at size) (t : c ≡ true) where
    pub loop_more : at.from < length held
    loop_more = progress_more size x.progress (sym e ∙ t)

    pub loop_serves : Serves i held at.from at.filled g p r
    loop_serves = record {
      session = x.session;
      size = x.small;
      start = omega (arith, loop_more);
      free = omega (arith, (goes_told size x.progress (sym e ∙ t)).1, x.whole, x.sizes.page);
      places = x.places;
      room = x.room;
    }

    module _ {g' r' : List ℕ} {l' : Lent} {at' : Progress} (n : NextServed i held at r g l at' r' g' l') where
      served : SomeServed i held at.from at.replied at.filled g l at' g' l'
      served = next_served at loop_serves x.fit loop_more n

      pub loop_fewer : left_of held at' < left_of held at
      loop_fewer = progress_less size x.progress (sym e ∙ t) served

      pub loop_next : {p' : List ℕ} → Sizes g p r g' p' r' → InLoop i held g₀ p₀ r₀ l₀ size at₀ g' p' r' l' at'
      loop_next same = record {
        session = x.session;
        small = x.small;
        free = x.free;
        whole = x.whole;
        places = same.places ∙ x.places;
        room = same.reply ∙ x.room;
        fit = next_fit at loop_serves x.fit loop_more n;
        sizes = record {
          page = same.page ∙ x.sizes.page;
          places = same.places ∙ x.sizes.places;
          reply = same.reply ∙ x.sizes.reply;
        };
        progress = progress_next size x.progress (sym e ∙ t) served (next_left at loop_serves x.fit loop_more n);
      }
