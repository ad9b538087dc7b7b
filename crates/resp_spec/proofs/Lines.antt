-- The laws of reading a line. Assumes nothing.
use mathlib.Core.Path.{◌≡◌, refl, sym, ap, ◌∙◌}
use mathlib.Core.Bool.{Bool, true, false, cond, not, ◌&&◌}
use mathlib.Core.List.{[], ◌∷◌}
use Rattle.std.specs.Prelude.{Option, None, Some, option_map}
use Prim.Native.Nat.{ℕ, zero, suc, min, ◌+◌, ◌-◌, ◌≤◌, ◌<◌}
use native.Mathlib.Omega.{arith}
use lib.Dec.{eqb, leb}
use Rattle.std.specs.List.{position, position_or_len, ends_with}
use Rattle.std.proofs.Common.{Some, None}
use Rattle.std.proofs.lemmas.Bool.Decides.{nat_tests}
use Rattle.std.proofs.lemmas.Grind.{common_steps}
use native.Mathlib.Decide.{dec_le}
use lib.ListN.{length, take, drop, get_or, length-take}
use lib.Seq.{length-take-le, take-take}
use Rattle.std.specs.Cmp.Lexicographic.{pointwise}
use borrow.Author.Tests.{le-leb, lt-leb, eq-eqb, ne_eqb}
use Rattle.base_key.specs.Bytes.{Bytes}
use Rattle.resp_spec.specs.declared.line.Feed.TheVariants.{At, NotYet, TooFar}
use Rattle.resp_spec.specs.Request.{Line, line, unfinished, too_long, feed_at, without_cr, line_at, line_of}
use Rattle.resp_spec.specs.Steps.{FeedIs, FeedIn, TextLen}

-- THE LF
abbrev is_feed : ℕ → Bool
is_feed b = eqb b 10

-- the first, or the length where there is none
abbrev first_feed : Bytes → ℕ
first_feed s = position_or_len is_feed s

pub feed_first : (b : ℕ) (s : Bytes) → b ≡ 10 → feed_at (b ∷ s) ≡ Some 0
unfolding feed_at
feed_first b s e = rw (eq-eqb b 10 e, feed_at) refl

pub feed_later : (b : ℕ) (s : Bytes) → (b ≡ 10 → ⊥) → feed_at (b ∷ s) ≡ option_map suc (feed_at s)
unfolding feed_at
feed_later b s e = rw (ne_eqb b 10 e, feed_at) refl

feed_found : (s : Bytes) → first_feed s < length s → feed_at s ≡ Some (first_feed s)
unfolding feed_at
feed_found [] h = absurd (omega arith)
feed_found (b ∷ s) h = go (eqb b 10) refl h (feed_found s)
  where
    go : (t : Bool) → eqb b 10 ≡ t → first_feed (b ∷ s) < length (b ∷ s) → (first_feed s < length s → feed_at s ≡ Some (first_feed s)) → feed_at (b ∷ s) ≡ Some (first_feed (b ∷ s))
    go true e h more = rw (e, feed_at) refl
    go false e h more = let later : first_feed s < length s = omega (arith, rw e at h) in rw (e, feed_at, more later) (ap Some (omega arith))

feed_missing : (s : Bytes) → length s ≤ first_feed s → feed_at s ≡ None
unfolding feed_at
feed_missing [] h = refl
feed_missing (b ∷ s) h = go (eqb b 10) refl h (feed_missing s)
  where
    go : (t : Bool) → eqb b 10 ≡ t → length (b ∷ s) ≤ first_feed (b ∷ s) → (length s ≤ first_feed s → feed_at s ≡ None) → feed_at (b ∷ s) ≡ None
    go true e h more = absurd (omega (arith, rw e at h))
    go false e h more = let later : length s ≤ first_feed s = omega (arith, rw e at h) in rw (e, feed_at, more later) refl

feed_near : (n : ℕ) (s : Bytes) → first_feed (take n s) ≡ min n (first_feed s)
feed_near zero s = omega arith
feed_near (suc n) [] = omega arith
feed_near (suc n) (b ∷ s) = go (eqb b 10) (feed_near n s)
  where
    go : (t : Bool) → first_feed (take n s) ≡ min n (first_feed s) → cond (not t) (1 + first_feed (take n s)) 0 ≡ min (suc n) (cond (not t) (1 + first_feed s) 0)
    go true e = omega arith
    go false e = omega arith

-- where `position` finds it in n bytes, or does not
module _ (n : ℕ) (s : Bytes) where
  near_here : {i : ℕ} → position is_feed (take n s) ≡ Some i → (i < n) × (i < length s) × (first_feed s ≡ i)
  near_here {i} e =
      let there : first_feed (take n s) ≡ i = grind (arith, common_steps, nat_tests) in
      let inside : i < length (take n s) = grind (arith, common_steps, nat_tests) in
      (omega (arith, length-take n s), omega (arith, length-take n s), omega (arith, feed_near n s, length-take n s))

  near_none : position is_feed (take n s) ≡ None → min n (length s) ≤ first_feed s
  near_none e = let all : length (take n s) ≤ first_feed (take n s) = grind (arith, common_steps, nat_tests) in omega (arith, feed_near n s, length-take n s)

module _ {s : Bytes} {r : _} (found : r ≡ position is_feed (take 65537 s)) where
  pub feed_here : {i : ℕ} → r ≡ Some i → FeedIs s (At i)
  unfolding line_of line_at
  feed_here {i} e =
      let near_one = near_here 65537 s (sym found ∙ e) in
      let inside : i < length s = near_one.1 in
      let near : i ≤ 65536 = omega (arith, near_one.0) in
      let here : feed_at s ≡ Some i = feed_found s (rw near_one.2 inside) ∙ ap {B = Option ℕ} Some near_one.2 in
      record { same = sym (rw (here, le-leb i 65536 near) refl); inside = omega arith }

  module _ (e : r ≡ None) where
    pub feed_not_yet : length s ≤ 65536 → FeedIs s NotYet
    unfolding line_of line_at
    feed_not_yet near =
        let missing : feed_at s ≡ None = feed_missing s (omega (arith, near_none 65537 s (sym found ∙ e))) in
        record { same = sym (rw (missing, le-leb (length s) 65536 near) refl); inside = omega arith }

    pub feed_too_far : 65536 < length s → FeedIs s TooFar
    unfolding line_of line_at
    feed_too_far long = record { same = sym (go (dec_le (length s) (first_feed s))); inside = omega arith }
      where
        far : 65536 < first_feed s
        far = omega (arith, near_none 65537 s (sym found ∙ e))

        go : Dec (length s ≤ first_feed s) → line_of s ≡ too_long
        go (yes h) = rw (feed_missing s h, lt-leb (length s) 65536 long) refl
        go (no h) = let here : first_feed s < length s = omega arith in rw (feed_found s here, lt-leb (first_feed s) 65536 far) refl

-- THE CR
abbrev ends_cr : Bytes → Bool
ends_cr l = ends_with eqb l (13 ∷ [])

less_one : (n : ℕ) → suc n - 1 ≡ n
less_one n = omega arith

-- a text is cut at its last byte
cr_last : (l : Bytes) → without_cr l ≡ cond (ends_cr l) (take (length l - 1) l) l
unfolding without_cr
cr_last [] = refl
cr_last (x ∷ []) = let turned : (eqb 13 x && true) ≡ eqb x 13 = grind (arith, nat_tests) in rw turned refl
cr_last (x ∷ y ∷ l) = ap (λ (r : Bytes). x ∷ r) (cr_last (y ∷ l)) ∙ simp less_one (go (pointwise eqb (13 ∷ []) (drop (length l) (y ∷ l))))
  where
    go : (t : Bool) → x ∷ cond t (take (length l) (y ∷ l)) (y ∷ l) ≡ cond t (x ∷ take (length l) (y ∷ l)) (x ∷ y ∷ l)
    go true = refl
    go false = refl

module _ {s : Bytes} {n : ℕ} (f : FeedIn s n) {t : Bool} (is : t ≡ ends_cr (take n s)) where
  pub text_cr : t ≡ true → TextLen s n (n - 1)
  text_cr e =
      let size : length (take n s) ≡ n = length-take-le n s (omega (arith, f.inside)) in
      let shorter : n - 1 ≤ n = omega arith in
      record { same = sym (cr_last (take n s) ∙ rw (← is, e, size, take-take) refl); inside = omega arith; feed = f.inside }

  pub text_plain : t ≡ false → TextLen s n n
  text_plain e = record { same = sym (cr_last (take n s) ∙ rw (← is, e) refl); inside = omega arith; feed = f.inside }

-- A LINE THAT BEGINS WITH `*` HAS A TEXT
star_text : (s : Bytes) → 1 ≤ length (without_cr (42 ∷ s))
unfolding without_cr
star_text [] = omega arith
star_text (b ∷ s) = omega arith

-- the text of a line, and of nothing where there is none
abbrev text_length : Line → ℕ
text_length (line text used) = length text
text_length unfinished = 1
text_length too_long = 1

star_line : (s : Bytes) → 1 ≤ text_length (line_of (42 ∷ s))
unfolding line_of line_at feed_at
star_line s = go (feed_at s)
  where
    short : (b : Bool) → 1 ≤ text_length (cond b unfinished too_long)
    short true = omega arith
    short false = omega arith

    text : (b : Bool) (n : ℕ) → 1 ≤ text_length (cond b (line (without_cr (42 ∷ take n s)) (suc (suc n))) too_long)
    text true n = star_text (take n s)
    text false n = omega arith

    go : (o : Option ℕ) → 1 ≤ text_length (line_at (option_map suc o) (42 ∷ s))
    go None = short (leb (length (42 ∷ s)) 65536)
    go (Some n) = text (leb (suc n) 65536) n

pub line_not_empty : (s : Bytes) (len used : ℕ) → (length s ≡ 0 → ⊥) → get_or s 0 0 ≡ 42 → line (take len s) used ≡ line_of s → 1 ≤ len
line_not_empty [] len used some_byte star is = absurd (some_byte refl)
line_not_empty (b ∷ s) len used some_byte star is =
    let there : 1 ≤ text_length (line_of (b ∷ s)) = rw star (star_line s) in
    omega (arith, ap text_length is, length-take len (b ∷ s))
