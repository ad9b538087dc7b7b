-- The laws of how text is shown: its letters, CR and LF as spaces, and what is not UTF-8 as U+FFFD. Assumes nothing.
use mathlib.Core.Path.{◌≡◌, refl, sym, ap, ◌∙◌}
use mathlib.Core.List.{[], ◌∷◌, ◌++◌, map, map-append, append_assoc, append-nil}
use Prim.Native.Nat.{ℕ, ◌+◌, ◌-◌, ◌≤◌, ◌<◌}
use native.Mathlib.Omega.{arith}
use native.Mathlib.Numerals.{add-one}
use lib.ListN.{length, take, drop, set, get_or, replicate, length-map, length-set, drop_of_length-le}
use lib.Seq.{take-suc, take_all}
use Rattle.base_key.specs.Bytes.{Bytes}
use Rattle.base_writing.specs.Puts.{Puts, Adds}
use Rattle.base_writing.proofs.Puts.{Written, stored, full, done, puts_nothing, then_puts, full_longer, same_text}
use Rattle.resp_spec.specs.Utf8.{between, replacement, lossy_from, lossy}
use Rattle.resp_spec.specs.declared.Letters.{Letters}
use Rattle.resp_spec.specs.declared.Letters.TheVariants.{AsSent, Capitals, Small}
use Rattle.resp_spec.specs.Letters.{letter_as, shown_as}
use Rattle.resp_spec.specs.Reply.{clean}
use Rattle.resp_utf8.specs.Pieces.{piece_of}
use Rattle.base_writing.proofs.Lent.{rest}
use Rattle.resp_utf8.proofs.Pieces.{size, shown, lossy_at, inside_at}
use Rattle.std.specs.Prelude.{Option, None, Some, Result, Ok, Err}

-- a text whose letters are changed first
pub shown_letters : (letters : Letters) (s : Bytes) → map clean (map (letter_as letters) s) ≡ map (shown_as letters) s
shown_letters letters [] = refl
shown_letters letters (b ∷ s) = ap (λ (l : Bytes). shown_as letters b ∷ l) (shown_letters letters s)

-- the first i bytes of a text that fits are written
pub record Copied (letters : Letters) (text entry : Bytes) (i : ℕ) (out : Bytes) : Type 0 where
  pub inside : i ≤ length text
  pub fits : length text ≤ length entry
  pub size : length out ≡ length entry
  pub written : Written (map (shown_as letters) (take i text)) entry i out

pub copied_too_long : (letters : Letters) (text : Bytes) {entry exit : Bytes} → length entry < length text → exit ≡ replicate (length entry) 0 → Puts (map (shown_as letters) text) entry None exit
copied_too_long letters text h zeros = full (simp length-map (omega arith)) zeros

module _ {letters : Letters} {text entry out : Bytes} {i : ℕ} (g : Copied letters text entry i out) where
  pub copied_all : length text ≤ i → Puts (map (shown_as letters) text) entry (Some (length text)) out
  copied_all h =
      let e : i ≡ length text = omega (arith, g.inside) in
      rw (← e) (done g.written (ap (map (shown_as letters)) (sym (take_all i text h))))

  pub copied_more : {b : ℕ} → i < length text → b ≡ shown_as letters (get_or text i 0) → Copied letters text entry (i + 1) (set out i b)
  copied_more {b} h is =
      let longer : map (shown_as letters) (take (i + 1) text) ≡ map (shown_as letters) (take i text) ++ b ∷ [] = ap (λ (k : ℕ). map (shown_as letters) (take k text)) (add-one i) ∙ ap (map (shown_as letters)) (take-suc text i 0 h) ∙ map-append (shown_as letters) (take i text) (get_or text i 0 ∷ []) ∙ ap (λ (d : ℕ). map (shown_as letters) (take i text) ++ d ∷ []) (sym is) in
      record {
        inside = omega arith;
        fits = g.fits;
        size = length-set out i b ∙ g.size;
        written = stored g.written (omega (arith, g.fits)) b longer;
      }

-- U+FFFD is shown as it is
replacement_shown : (letters : Letters) → map (shown_as letters) replacement ≡ replacement
replacement_shown AsSent = refl
replacement_shown Capitals = refl
replacement_shown Small = refl

-- what is written, and what is left of the text from `at` on
pub record Shown (letters : Letters) (text : Bytes) (at : ℕ) (entry : Bytes) (put : Option ℕ) (out : Bytes) : Type 0 where
  pub written : Bytes
  pub left : map (shown_as letters) (lossy text) ≡ written ++ map (shown_as letters) (lossy_from between (drop at text))
  pub puts : Puts written entry put out
  pub inside : at ≤ length text

pub shown_none : (letters : Letters) (text entry : Bytes) → Shown letters text 0 entry (Some 0) entry
unfolding lossy
shown_none letters text entry = record { written = []; left = refl; puts = puts_nothing entry; inside = omega arith }

module _ {letters : Letters} {text entry out : Bytes} {at : ℕ} {put : Option ℕ} (g : Shown letters text at entry put out) where
  pub shown_all : length text ≤ at → Puts (map (shown_as letters) (lossy text)) entry put out
  unfolding lossy_from
  shown_all h = same_text (g.left ∙ rw (drop_of_length-le text {i = at} h) (append-nil g.written)) g.puts

  -- what is written so far does not fit
  pub shown_full : {after : Option ℕ} → put ≡ None → after ≡ None → Puts (map (shown_as letters) (lossy text)) entry after out
  shown_full told is = rw is (full_longer (map (shown_as letters) (lossy_from between (drop at text))) g.left g.puts told)

  module _ (h : at < length text) {p : Result ℕ ℕ} (is : p ≡ piece_of (rest at text)) where
    shown_more : {exit : Bytes} {after : Option ℕ} (more : Bytes) → more ≡ map (shown_as letters) (shown p (drop at text)) → Adds more put out after exit → Shown letters text (at + size p) entry after exit
    shown_more more e a =
        let behind : Bytes = lossy_from between (drop (at + size p) text) in
        record {
          written = g.written ++ more;
          left =
              g.left
              ∙ ap (λ (l : Bytes). g.written ++ map (shown_as letters) l) (lossy_at text at h is)
              ∙ ap (λ (l : Bytes). g.written ++ l) (map-append (shown_as letters) (shown p (drop at text)) behind)
              ∙ sym (append_assoc g.written (map (shown_as letters) (shown p (drop at text))) (map (shown_as letters) behind))
              ∙ ap (λ (l : Bytes). (g.written ++ l) ++ map (shown_as letters) behind) (sym e);
          puts = then_puts g.puts a;
          inside = inside_at text at h is;
        }

    pub shown_whole : {exit : Bytes} {after : Option ℕ} {n : ℕ} → p ≡ Ok n → Adds (map (shown_as letters) (take (at + n - at) (drop at text))) put out after exit → Shown letters text (at + n) entry after exit
    shown_whole {n = n} e a =
        let size_is : at + n - at ≡ n = omega arith in
        rw (← ap size e) (shown_more (map (shown_as letters) (take (at + n - at) (drop at text))) (rw (e, size_is) refl) a)

    pub shown_broken : {exit : Bytes} {after : Option ℕ} {n : ℕ} → p ≡ Err n → Adds replacement put out after exit → Shown letters text (at + n) entry after exit
    shown_broken e a = rw (← ap size e) (shown_more replacement (rw e (sym (replacement_shown letters))) a)
