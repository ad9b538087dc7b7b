-- The form of a line, and what reading it leaves. Assumes nothing.
use Prim.Native.Nat.{ℕ, ◌+◌, ◌-◌, ◌*◌, ◌≤◌, ◌<◌}
use native.Mathlib.Omega.{arith}
use mathlib.Core.Path.{◌≡◌, refl, sym, ap, ◌∙◌}
use mathlib.Core.Bool.{Bool, true, false, cond, ◌&&◌}
use mathlib.Core.List.{[], ◌∷◌, ◌++◌, append-nil}
use Rattle.std.specs.Prelude.{Option, None, Some}
use lib.Dec.{leb, eqb}
use lib.ListN.{length, take, drop, get_or, length-drop, drop_of_length-le}
use lib.Seq.{take_all, take-append-add, length-take-le}
use borrow.Rule.Slice.PartMut.{same_len_mid}
use borrow.Author.Tests.{le-leb, lt-leb, leb-true, leb-false, eq-eqb, ne_eqb}
use Rattle.base_key.specs.Bytes.{Bytes}
use Rattle.base_writing.proofs.Lent.{rest, with_rest}
use Rattle.call_spec.specs.Frames as F
use Rattle.frames_lines.specs.Line.{count_of, or_nothing, Decodes, head_of, Room, LineRead}
use Rattle.frames_lines.proofs.HexLaws.{unhex_length}

-- A LINE OF ANOTHER FORM
no_bytes : (t : Bool) (i : ℕ) → F.given_of t i None ≡ None
unfolding F.given_of
no_bytes false i = refl
no_bytes true i = refl

no_digits : (t : Bool) (i : ℕ) → F.given_of t i (Some []) ≡ None
unfolding F.given_of
no_digits false i = refl
no_digits true i = refl

too_many_lem : (t : Bool) (i : ℕ) (s : Bytes) → 4096 < length s → F.given_of t i (Some s) ≡ None
unfolding F.given_of
too_many_lem false i s h = refl
too_many_lem true i s h = let one : 1 ≤ length s = omega arith in rw (le-leb 1 (length s) one, lt-leb (length s) 4096 h)

given_short : (t : Bool) (i : ℕ) (s : Bytes) → length s < 2 → F.given_of t i (F.unhex s) ≡ None
unfolding F.unhex
given_short t i [] h = no_digits t i
given_short t i (d ∷ []) h = no_bytes t i
given_short t i (d ∷ e ∷ s) h = absurd (omega arith)

given_long : (t : Bool) (i : ℕ) (s : Bytes) → 8192 < length s → F.given_of t i (F.unhex s) ≡ None
given_long t i s h = go (F.unhex s) refl
  where
    go : (o : Option Bytes) → F.unhex s ≡ o → F.given_of t i o ≡ None
    go None e = no_bytes t i
    go (Some u) e = too_many_lem t i u (omega (arith, unhex_length s e))

given_other : (i : ℕ) (o : Option Bytes) → F.given_of false i o ≡ None
unfolding F.given_of
given_other i o = refl

-- THE HEAD OF A LINE, by the tests of the code
pub head_short : (line : Bytes) → length line < 5 → None ≡ head_of line
unfolding head_of
head_short [] h = refl
head_short (a ∷ []) h = refl
head_short (a ∷ b ∷ []) h = refl
head_short (a ∷ b ∷ c ∷ s) h = go (F.is_digit a && F.is_digit b && eqb c 32)
  where
    go : (t : Bool) → None ≡ cond (t && leb 2 (length s) && leb (length s) 8192) (Some ((a - 48) * 10 + (b - 48))) None
    go true = rw (lt-leb 2 (length s) (omega arith))
    go false = refl

pub head_long : (line : Bytes) → 8195 < length line → None ≡ head_of line
unfolding head_of
head_long [] h = refl
head_long (a ∷ []) h = refl
head_long (a ∷ b ∷ []) h = refl
head_long (a ∷ b ∷ c ∷ s) h = go (F.is_digit a && F.is_digit b && eqb c 32 && leb 2 (length s))
  where
    go : (t : Bool) → None ≡ cond (t && leb (length s) 8192) (Some ((a - 48) * 10 + (b - 48))) None
    go true = rw (lt-leb (length s) 8192 (omega arith))
    go false = refl

module _ {t : Bool} (line : Bytes) (t-is : t ≡ F.is_digit (get_or line 0 0)) where
  pub head_tens : t ≡ false → None ≡ head_of line
  unfolding head_of
  head_tens h = go line (sym t-is ∙ h)
    where
      go : (l : Bytes) → F.is_digit (get_or l 0 0) ≡ false → None ≡ head_of l
      go [] e = refl
      go (a ∷ []) e = refl
      go (a ∷ b ∷ []) e = refl
      go (a ∷ b ∷ c ∷ s) e = rw e

  module _ {o : Bool} (o-is : o ≡ F.is_digit (get_or line 1 0)) (tens : t ≡ true) where
    pub head_ones : o ≡ false → None ≡ head_of line
    unfolding head_of
    head_ones h = go line (sym t-is ∙ tens) (sym o-is ∙ h)
      where
        go : (l : Bytes) → F.is_digit (get_or l 0 0) ≡ true → F.is_digit (get_or l 1 0) ≡ false → None ≡ head_of l
        go [] e f = refl
        go (a ∷ []) e f = refl
        go (a ∷ b ∷ []) e f = refl
        go (a ∷ b ∷ c ∷ s) e f = rw (e, f)

    module _ (ones : o ≡ true) where
      pub head_no_space : (get_or line 2 0 ≡ 32 → ⊥) → None ≡ head_of line
      unfolding head_of
      head_no_space n = go line (sym t-is ∙ tens) (sym o-is ∙ ones) n
        where
          go : (l : Bytes) → F.is_digit (get_or l 0 0) ≡ true → F.is_digit (get_or l 1 0) ≡ true → (get_or l 2 0 ≡ 32 → ⊥) → None ≡ head_of l
          go [] e f n = refl
          go (a ∷ []) e f n = refl
          go (a ∷ b ∷ []) e f n = refl
          go (a ∷ b ∷ c ∷ s) e f n = rw (e, f, ne_eqb c 32 n)

      pub head_is : 5 ≤ length line → length line ≤ 8195 → get_or line 2 0 ≡ 32 → Some ((get_or line 0 0 - 48) * 10 + (get_or line 1 0 - 48)) ≡ head_of line
      unfolding head_of
      head_is least most n = go line (sym t-is ∙ tens) (sym o-is ∙ ones) least most n
        where
          go : (l : Bytes) → F.is_digit (get_or l 0 0) ≡ true → F.is_digit (get_or l 1 0) ≡ true → 5 ≤ length l → length l ≤ 8195 → get_or l 2 0 ≡ 32
              → Some ((get_or l 0 0 - 48) * 10 + (get_or l 1 0 - 48)) ≡ head_of l
          go [] e f least most n = absurd (omega arith)
          go (a ∷ []) e f least most n = absurd (omega arith)
          go (a ∷ b ∷ []) e f least most n = absurd (omega arith)
          go (a ∷ b ∷ c ∷ s) e f least most n = rw (e, f, eq-eqb c 32 n, le-leb 2 (length s) (omega arith), le-leb (length s) 8192 (omega arith))

-- WHAT THE HEAD TELLS
-- a line whose first three bytes and whose length have the form
pub record Headed (line : Bytes) (i : ℕ) : Type 0 where
  pub least : 5 ≤ length line
  pub most : length line ≤ 8195
  pub is : F.given line ≡ F.given_of true i (F.unhex (drop 3 line))

head_session : (line : Bytes) (i : ℕ) → head_of line ≡ Some i → Headed line i
unfolding head_of F.given
head_session [] i e = let z : ◌≡◌ {A = ℕ} 0 1 = cc in absurd (omega arith)
head_session (a ∷ []) i e = let z : ◌≡◌ {A = ℕ} 0 1 = cc in absurd (omega arith)
head_session (a ∷ b ∷ []) i e = let z : ◌≡◌ {A = ℕ} 0 1 = cc in absurd (omega arith)
head_session (a ∷ b ∷ c ∷ s) i e = go (F.is_digit a && F.is_digit b && eqb c 32) (leb 2 (length s)) (leb (length s) 8192) refl refl refl e
  where
    go : (t u v : Bool) → F.is_digit a && F.is_digit b && eqb c 32 ≡ t → leb 2 (length s) ≡ u → leb (length s) 8192 ≡ v → cond (t && u && v) (Some ((a - 48) * 10 + (b - 48))) None ≡ Some i
        → Headed (a ∷ b ∷ c ∷ s) i
    go true true true t u v e =
        let same : (a - 48) * 10 + (b - 48) ≡ i = cc in
        record { least = omega (arith, leb-true 2 (length s) u); most = omega (arith, leb-true (length s) 8192 v); is = (λ z. F.given_of (t z) (same z) (F.unhex s)) }
    go true true false t u v e = let z : ◌≡◌ {A = ℕ} 0 1 = cc in absurd (omega arith)
    go true false w t u v e = let z : ◌≡◌ {A = ℕ} 0 1 = cc in absurd (omega arith)
    go false y w t u v e = let z : ◌≡◌ {A = ℕ} 0 1 = cc in absurd (omega arith)

head_none : (line : Bytes) → head_of line ≡ None → F.given line ≡ None
unfolding head_of F.given
head_none [] e = refl
head_none (a ∷ []) e = refl
head_none (a ∷ b ∷ []) e = refl
head_none (a ∷ b ∷ c ∷ s) e = go (F.is_digit a && F.is_digit b && eqb c 32) (leb 2 (length s)) (leb (length s) 8192) refl refl e
  where
    i : ℕ
    i = (a - 48) * 10 + (b - 48)

    go : (t u v : Bool) → leb 2 (length s) ≡ u → leb (length s) 8192 ≡ v → cond (t && u && v) (Some i) None ≡ None → F.given_of t i (F.unhex s) ≡ None
    go true true true u v e = let z : ◌≡◌ {A = ℕ} 0 1 = cc in absurd (omega arith)
    go true true false u v e = given_long true i s (leb-false (length s) 8192 v)
    go true false w u v e = given_short true i s (leb-false 2 (length s) u)
    go false y w u v e = given_other i (F.unhex s)

pub headed : (line : Bytes) (r : Option ℕ) → r ≡ head_of line → (i : ℕ) → r ≡ Some i → Headed line i
headed line r read i e = head_session line i (sym read ∙ e)

pub not_given : (line : Bytes) (r : Option ℕ) → r ≡ head_of line → r ≡ None → F.given line ≡ None
not_given line r read e = head_none line (sym read ∙ e)

-- WHAT READING A LINE LEAVES
count_none : (o : Option Bytes) → count_of o ≡ None → o ≡ None
count_none None e = refl
count_none (Some s) e = let z : ◌≡◌ {A = ℕ} 0 1 = cc in absurd (omega arith)

count_some : (o : Option Bytes) (n : ℕ) → count_of o ≡ Some n → o ≡ Some (or_nothing o)
count_some None n e = let z : ◌≡◌ {A = ℕ} 0 1 = cc in absurd (omega arith)
count_some (Some s) n e = refl

given_whole : (i : ℕ) (s : Bytes) → 1 ≤ length s → length s ≤ 4096 → F.given_of true i (Some s) ≡ Some (record { session = i; input = s })
unfolding F.given_of
given_whole i s h k = rw (le-leb 1 (length s) h, le-leb (length s) 4096 k)

-- the part that is lent, and the whole with what was left there
pub lent_is : (n : ℕ) (whole : Bytes) → rest n whole ≡ drop n whole
lent_is n whole = take_all (length whole - n) (drop n whole) (simp length-drop (omega arith))

back_is : (n : ℕ) (whole part : Bytes) → with_rest n whole part ≡ take n whole ++ part
back_is n whole part =
    ap (λ (l : Bytes). take n whole ++ (part ++ l)) (drop_of_length-le (drop n whole) {i = length whole - n} (simp length-drop (omega arith))) ∙ rw append-nil refl

-- what the call of `decode` asks
pub behind_head : (line : Bytes) {r : Option ℕ} {i : ℕ} → r ≡ head_of line → r ≡ Some i → 3 ≤ length line
behind_head line {r} {i} read told = omega (arith, (headed line r read i told).least)

pub digits_fit : (line : Bytes) (at : ℕ) (entry : Bytes) {r : Option ℕ} {i : ℕ} → Room at entry → r ≡ head_of line → r ≡ Some i → length (rest 3 line) ≤ 2 * length (rest at entry)
digits_fit line at entry {r} {i} room read told =
    omega (arith, (headed line r read i told).most, ap length (lent_is 3 line), length-drop 3 line, ap length (lent_is at entry), length-drop at entry, room.behind)

pub line_malformed : (line : Bytes) (at : ℕ) (entry : Bytes) {r : Option ℕ} → r ≡ head_of line → r ≡ None → LineRead line at entry None entry
line_malformed line at entry {r} read e =
    let g = not_given line r read e in
    let start : at + 0 ≡ at = omega arith in
    record { answer = rw g; held = rw g (ap (λ (n : ℕ). take n entry) start ∙ sym (append-nil (take at entry))); size = refl }

module _ (line : Bytes) (at : ℕ) (entry : Bytes) {r : Option ℕ} {d : Option ℕ} {i : ℕ} {last : Bytes} (room : Room at entry) (read : r ≡ head_of line) (told : r ≡ Some i) (dec : Decodes (rest 3 line) (rest at entry) d last) where
  given_is : F.given line ≡ F.given_of true i (F.unhex (rest 3 line))
  given_is = (headed line r read i told).is ∙ ap (λ (l : Bytes). F.given_of true i (F.unhex l)) (sym (lent_is 3 line))

  front_length : length (take at entry) ≡ at
  front_length = length-take-le at entry (omega (arith, room.behind))

  left_held : (n : ℕ) → take (at + n) (with_rest at entry last) ≡ take at entry ++ take n last
  left_held n = ap (take (at + n)) (back_is at entry last) ∙ ap (λ (k : ℕ). take (k + n) (take at entry ++ last)) (sym front_length) ∙ take-append-add (take at entry) last n

  kept_size : length (with_rest at entry last) ≡ length entry
  kept_size = same_len_mid at (length entry - at) entry last dec.size

  pub line_undecoded : d ≡ None → LineRead line at entry None (with_rest at entry last)
  line_undecoded e =
      let none-there = count_none (F.unhex (rest 3 line)) (sym dec.answer ∙ e) in
      let g : F.given line ≡ None = given_is ∙ ap (F.given_of true i) none-there ∙ no_bytes true i in
      record { answer = rw g; held = rw g (left_held 0 ∙ refl); size = kept_size }

  pub line_frame : {n : ℕ} → d ≡ Some n → LineRead line at entry (Some (i, n)) (with_rest at entry last)
  line_frame {n} e =
      let s = or_nothing (F.unhex (rest 3 line)) in
      let is : F.unhex (rest 3 line) ≡ Some s = count_some (F.unhex (rest 3 line)) n (sym dec.answer ∙ e) in
      let size : length (rest 3 line) ≡ length s * 2 = unhex_length (rest 3 line) is in
      let all : length (rest 3 line) ≡ length line - 3 = ap length (lent_is 3 line) ∙ length-drop 3 line in
      let h = headed line r read i told in
      let g : F.given line ≡ Some (record { session = i; input = s }) = given_is ∙ ap (F.given_of true i) is ∙ given_whole i s (omega (arith, h.least)) (omega (arith, h.most)) in
      let count : Some n ≡ Some (length s) = sym e ∙ dec.answer ∙ ap count_of is in
      let same : n ≡ length s = cc in
      record { answer = rw g (ap (λ (k : ℕ). Some (i, k)) same); held = rw g (left_held (length s) ∙ ap (λ (l : Bytes). take at entry ++ l) dec.front); size = kept_size }
