-- What the sessions hold, before and after a change of one session's part. Assumes nothing.
use Prim.Native.Nat.{ℕ, ◌+◌, ◌*◌, ◌-◌, ◌≤◌, ◌<◌, min}
use native.Mathlib.Decide.{dec_le, ℕ_discrete}
use native.Mathlib.Omega.{arith}
use mathlib.Core.Path.{◌≡◌, refl, sym, ap, ap₂, ◌∙◌}
use mathlib.Core.Bool.{Bool, true, false, cond, ◌&&◌}
use mathlib.Core.List.{List, [], ◌++◌}
use Rattle.std.specs.Prelude.{Option, None, Some}
use Rattle.std.specs.Option.{unwrap_or}
use lib.ListN.{length, take, drop, get_or, set, length-drop, length-set}
use lib.Dec.{leb}
use lib.Seq.{drop_at, drop-append-le, take-append-le, ext_get_or, take_at, take-take, drop-drop, get_or-drop, get_or-take, get_or-set_same, get_or-set_other, length-take-le}
use borrow.Author.Tests.{leb-true}
use borrow.Rule.Slice.PartMut.{mid_of, put_mid, same_len_mid, mid_len, take_put, drop_put}
use Rattle.base_key.specs.Bytes.{Bytes, part}
use Rattle.call_spec.specs.Frames as F
use Rattle.frames_lines.specs.Line.{head_of, input_of, LineRead}
use Rattle.frames_lines.specs.Rest.{kept_of, held_of, rest_of, Keeps}
use Rattle.frames_lines.specs.Held.{Memory, count_at, held_at, rests_in, slot_of, FrameRead, RestAt, RestKept}
use Rattle.frames_lines.proofs.LineLaws.{Headed, headed, not_given}
use Rattle.frames_lines.proofs.RestLaws.{part_length}
use Rattle.frames_lines.proofs.ServedLaws.{listed_length, listed_at}

-- A PART in front of a place, and behind one
part_front : (a b c : ℕ) (l : Bytes) → b + c ≤ a → a ≤ length l → part b c (take a l) ≡ part b c l
part_front a b c l h k =
    ext_get_or 0 (part b c (take a l)) (part b c l) (short ∙ sym long) (λ i below. at i (omega (arith, short)))
  where
    short : length (part b c (take a l)) ≡ c
    short = part_length b c (take a l) (omega (arith, length-take-le a l k))

    long : length (part b c l) ≡ c
    long = part_length b c l (omega arith)

    at : (i : ℕ) → i < c → get_or (part b c (take a l)) i 0 ≡ get_or (part b c l) i 0
    at i below =
        get_or-take c (drop b (take a l)) i 0 below ∙ get_or-drop b (take a l) i 0 ∙ get_or-take a l (b + i) 0 (omega arith)
        ∙ sym (get_or-take c (drop b l) i 0 below ∙ get_or-drop b l i 0)

part_behind : (e b c : ℕ) (l : Bytes) → e ≤ b → part (b - e) c (drop e l) ≡ part b c l
part_behind e b c l h =
    let sum : e + (b - e) ≡ b = omega arith in
    ap (take c) (drop-drop (b - e) e l) ∙ ap (λ (k : ℕ). part k c l) sum

-- THE PART OF A SESSION put back
module _ (a : ℕ) (held last : Bytes) (inside : a + 8192 ≤ length held) (same : length last ≡ length (mid_of a (a + 8192 - a) held)) where
  size_of : length last ≡ 8192
  size_of = same ∙ mid_len a (a + 8192) held inside ∙ omega arith

  kept_length : length (put_mid a (a + 8192 - a) held last) ≡ length held
  kept_length = same_len_mid a (a + 8192 - a) held last same

  before_same : (b c : ℕ) → b + c ≤ a → part b c (put_mid a (a + 8192 - a) held last) ≡ part b c held
  before_same b c h =
      sym (part_front a b c (put_mid a (a + 8192 - a) held last) h (omega (arith, kept_length)))
      ∙ ap (part b c) (take_put a (a + 8192 - a) held last (omega arith))
      ∙ part_front a b c held h (omega arith)

  behind_same : (b c : ℕ) → a + 8192 ≤ b → part b c (put_mid a (a + 8192 - a) held last) ≡ part b c held
  behind_same b c h =
      sym (part_behind (a + 8192) b c (put_mid a (a + 8192 - a) held last) h)
      ∙ ap (part (b - (a + 8192)) c) (drop_put a (a + 8192) held last (omega arith) inside (size_of ∙ omega arith))
      ∙ part_behind (a + 8192) b c held h

  own_part : (b c : ℕ) → b + c ≤ 8192 → part (a + b) c (put_mid a (a + 8192 - a) held last) ≡ part b c last
  own_part b c h =
      let post = drop (a + 8192 - a) (drop a held) in
      let front : drop a (put_mid a (a + 8192 - a) held last) ≡ last ++ post = drop_at (take a held) (last ++ post) a (length-take-le a held (omega arith)) in
      ap (take c) (sym (drop-drop b a (put_mid a (a + 8192 - a) held last)) ∙ ap (drop b) front ∙ drop-append-le b last post (omega (arith, size_of)))
      ∙ take-append-le c (drop b last) post (omega (arith, length-drop b last, size_of))

own_before : (a b c : ℕ) (held : Bytes) → a + 8192 ≤ length held → b + c ≤ 8192 → part b c (mid_of a (a + 8192 - a) held) ≡ part (a + b) c held
own_before a b c held inside h =
    let whole : a + 8192 - a ≡ 8192 = omega arith in
    ap (λ (k : ℕ). part b c (take k (drop a held))) whole
    ∙ part_front 8192 b c (drop a held) h (omega (arith, length-drop a held))
    ∙ ap (take c) (drop-drop b a held)

-- THE RESTS, by what each session holds
pub rest_of_lem : (counts : List ℕ) (held : Bytes) (j : ℕ) → j < 16 → get_or (rests_in counts held) j [] ≡ held_at counts held j
unfolding rests_in
rest_of_lem counts held j h =
    let e : 0 + j ≡ j = omega arith in
    listed_at (held_at counts held) 16 0 j [] h ∙ ap (held_at counts held) e

pub rests_many : (counts : List ℕ) (held : Bytes) → length (rests_in counts held) ≡ 16
unfolding rests_in
rests_many counts held = listed_length (held_at counts held) 16 0

pub rests_same : (counts counts' : List ℕ) (held held' : Bytes) → ((j : ℕ) → j < 16 → held_at counts' held' j ≡ held_at counts held j) → rests_in counts' held' ≡ rests_in counts held
rests_same counts counts' held held' f =
    ext_get_or [] (rests_in counts' held') (rests_in counts held) (rests_many counts' held' ∙ sym (rests_many counts held))
    (λ j h. let k : j < 16 = omega (arith, rests_many counts' held') in rest_of_lem counts' held' j k ∙ f j k ∙ sym (rest_of_lem counts held j k))

pub rests_changed : (counts counts' : List ℕ) (held held' : Bytes) (i : ℕ) (x : Bytes) → i < 16 → held_at counts' held' i ≡ x → ((j : ℕ) → j < 16 → (j ≡ i → ⊥) → held_at counts' held' j ≡ held_at counts held j)
    → rests_in counts' held' ≡ set (rests_in counts held) i x
rests_changed counts counts' held held' i x below own others =
    ext_get_or [] (rests_in counts' held') (set (rests_in counts held) i x) (rests_many counts' held' ∙ sym (length-set (rests_in counts held) i x ∙ rests_many counts held))
    (λ j h. let k : j < 16 = omega (arith, rests_many counts' held') in rest_of_lem counts' held' j k ∙ which j k (ℕ_discrete j i))
  where
    which : (j : ℕ) → j < 16 → Dec (j ≡ i) → held_at counts' held' j ≡ get_or (set (rests_in counts held) i x) j []
    which j k (yes e) =
        ap (held_at counts' held') e ∙ own
        ∙ sym (ap (λ (n : ℕ). get_or (set (rests_in counts held) i x) n []) e ∙ get_or-set_same (rests_in counts held) i x [] (omega (arith, rests_many counts held)))
    which j k (no n) = others j k n ∙ sym (rest_of_lem counts held j k) ∙ sym (get_or-set_other (rests_in counts held) i j x [] n)

-- another session's part is not touched
module _ (counts : List ℕ) (held last : Bytes) (i : ℕ) (below : i < 16) (size : length held ≡ 131072) (same : length last ≡ length (mid_of (i * 8192) (i * 8192 + 8192 - i * 8192) held)) where
  inside : i * 8192 + 8192 ≤ length held
  inside = omega arith

  others_same : (j : ℕ) → (j ≡ i → ⊥) → held_at counts (put_mid (i * 8192) (i * 8192 + 8192 - i * 8192) held last) j ≡ held_at counts held j
  unfolding held_at
  others_same j n = go (dec_le (j + 1) i) (dec_le (i + 1) j)
    where
      go : Dec (j + 1 ≤ i) → Dec (i + 1 ≤ j) → part (j * 8192) (count_at counts j) (put_mid (i * 8192) (i * 8192 + 8192 - i * 8192) held last) ≡ part (j * 8192) (count_at counts j) held
      go (yes h) k = before_same (i * 8192) held last inside same (j * 8192) (count_at counts j) (omega arith)
      go (no h) (yes k) = behind_same (i * 8192) held last inside same (j * 8192) (count_at counts j) (omega arith)
      go (no h) (no k) = let e : j ≡ i = omega arith in absurd (n e)

-- READING A LINE into a session's part
pub session_is : (i : ℕ) (o : Option Bytes) (g : F.Given) → F.given_of true i o ≡ Some g → g.session ≡ i
unfolding F.given_of
session_is i None g e = let z : ◌≡◌ {A = ℕ} 0 1 = cc in absurd (omega arith)
session_is i (Some s) g e = go (leb 1 (length s) && leb (length s) 4096) e
  where
    go : (b : Bool) → cond b (Some (record { session = i; input = s })) None ≡ Some g → g.session ≡ i
    go true e = let f : record { session = i; input = s } ≡ g = cc in sym (ap (λ (x : F.Given). x.session) f)
    go false e = let z : ◌≡◌ {A = ℕ} 0 1 = cc in absurd (omega arith)

pub input_size : (i : ℕ) (o : Option Bytes) (g : F.Given) → F.given_of true i o ≡ Some g → length g.input ≤ 4096
unfolding F.given_of
input_size i None g e = let z : ◌≡◌ {A = ℕ} 0 1 = cc in absurd (omega arith)
input_size i (Some s) g e = go (leb 1 (length s)) (leb (length s) 4096) refl e
  where
    go : (b c : Bool) → leb (length s) 4096 ≡ c → cond (b && c) (Some (record { session = i; input = s })) None ≡ Some g → length g.input ≤ 4096
    go true true t e = let f : record { session = i; input = s } ≡ g = cc in omega (arith, leb-true (length s) 4096 t, ap (λ (x : F.Given). length x.input) f)
    go true false t e = let z : ◌≡◌ {A = ℕ} 0 1 = cc in absurd (omega arith)
    go false c t e = let z : ◌≡◌ {A = ℕ} 0 1 = cc in absurd (omega arith)

whole_input : (line : Bytes) {i : ℕ} → Headed line i → (g : F.Given) → F.given line ≡ Some g → length g.input ≤ 4096
whole_input line {i} h g e = input_size i (F.unhex (drop 3 line)) g (sym h.is ∙ e)

pub frame_malformed : (line : Bytes) (counts : List ℕ) (held : Bytes) {r : Option ℕ} → r ≡ head_of line → r ≡ None → FrameRead line counts held None held
frame_malformed line counts held {r} read e =
    let g = not_given line r read e in
    record {
      answer = rw g;
      rests = refl;
      bytes = λ x h. let z : ◌≡◌ {A = ℕ} 0 1 = cc in absurd (omega arith);
      size = refl;
    }

module _ (line : Bytes) (counts : List ℕ) (held : Bytes) {h : Option ℕ} {i slot at : ℕ} {r : Option (ℕ × ℕ)} {last : Bytes} (m : Memory counts held) (read : h ≡ head_of line) (told : h ≡ Some i) (place : slot ≡ slot_of i) (count : at ≡ count_at counts slot)
    (is : LineRead line at (mid_of (slot * 8192) (slot * 8192 + 8192 - slot * 8192) held) r last) where
  below16 : slot < 16
  below16 = omega arith

  own_inside : slot * 8192 + 8192 ≤ length held
  own_inside = omega (arith, m.bytes)

  own_is : (n : ℕ) → n ≤ 8192 → part (slot * 8192) n (put_mid (slot * 8192) (slot * 8192 + 8192 - slot * 8192) held last) ≡ take n last
  own_is n fits =
      let e : slot * 8192 + 0 ≡ slot * 8192 = omega arith in
      ap (λ (k : ℕ). part k n (put_mid (slot * 8192) (slot * 8192 + 8192 - slot * 8192) held last)) (sym e)
      ∙ own_part (slot * 8192) held last own_inside is.size 0 n (omega arith)

  own_was : (n : ℕ) → n ≤ 8192 → take n (mid_of (slot * 8192) (slot * 8192 + 8192 - slot * 8192) held) ≡ part (slot * 8192) n held
  own_was n fits =
      let e : slot * 8192 + 0 ≡ slot * 8192 = omega arith in
      own_before (slot * 8192) 0 n held own_inside (omega arith) ∙ ap (λ (k : ℕ). part k n held) e

  last_size : length last ≡ 8192
  last_size = is.size ∙ mid_len (slot * 8192) (slot * 8192 + 8192) held own_inside ∙ omega arith

  own_kept : held_at counts (put_mid (slot * 8192) (slot * 8192 + 8192 - slot * 8192) held last) slot ≡ held_at counts held slot
  unfolding held_at
  own_kept =
      let x = input_of (F.given line) in
      let n : at ≤ at + length x = omega arith in
      let w = take at (mid_of (slot * 8192) (slot * 8192 + 8192 - slot * 8192) held) in
      let front : take at last ≡ w = sym (take-take at (at + length x) last n) ∙ ap (take at) is.held ∙ take_at w x at (length-take-le at (mid_of (slot * 8192) (slot * 8192 + 8192 - slot * 8192) held) (omega (arith, is.size, last_size))) in
      ap (λ (k : ℕ). part (slot * 8192) k (put_mid (slot * 8192) (slot * 8192 + 8192 - slot * 8192) held last)) (sym count)
      ∙ own_is at (omega arith) ∙ front ∙ own_was at (omega arith)
      ∙ ap (λ (k : ℕ). part (slot * 8192) k held) count

  at_slot : (g : F.Given) → F.given line ≡ Some g → part (slot * 8192) (count_at counts slot + length g.input) (put_mid (slot * 8192) (slot * 8192 + 8192 - slot * 8192) held last) ≡ held_at counts held slot ++ g.input
  unfolding held_at
  at_slot g e =
      let input = whole_input line (headed line h read i told) g e in
      let all : take (at + length g.input) last ≡ take at (mid_of (slot * 8192) (slot * 8192 + 8192 - slot * 8192) held) ++ g.input = rw e at is.held in
      ap (λ (k : ℕ). part (slot * 8192) (k + length g.input) (put_mid (slot * 8192) (slot * 8192 + 8192 - slot * 8192) held last)) (sym count)
      ∙ own_is (at + length g.input) (omega arith) ∙ all
      ∙ ap (λ (l : Bytes). l ++ g.input) (own_was at (omega arith) ∙ ap (λ (k : ℕ). part (slot * 8192) k held) count)

  pub frame_read : FrameRead line counts held r (put_mid (slot * 8192) (slot * 8192 + 8192 - slot * 8192) held last)
  frame_read = record {
    answer = is.answer;
    rests = rests_same counts counts held (put_mid (slot * 8192) (slot * 8192 + 8192 - slot * 8192) held last) (λ j k. which j (ℕ_discrete j slot));
    bytes = λ g e. frame_bytes g e;
    size = kept_length (slot * 8192) held last own_inside is.size;
  }
    where
      which : (j : ℕ) → Dec (j ≡ slot) → held_at counts (put_mid (slot * 8192) (slot * 8192 + 8192 - slot * 8192) held last) j ≡ held_at counts held j
      which j (yes e) = rw e own_kept
      which j (no n) = others_same counts held last slot below16 m.bytes is.size j n

      frame_bytes : (g : F.Given) → F.given line ≡ Some g
          → part (slot_of g.session * 8192) (count_at counts (slot_of g.session) + length g.input) (put_mid (slot * 8192) (slot * 8192 + 8192 - slot * 8192) held last) ≡ held_at counts held (slot_of g.session) ++ g.input
      frame_bytes g e =
          let own : g.session ≡ i = session_is i (F.unhex (drop 3 line)) g (sym (headed line h read i told).is ∙ e) in
          let s : slot_of g.session ≡ slot = ap slot_of own ∙ sym place in
          rw s (at_slot g e)

-- KEEPING A REST in a session's part
count_fits : (n k : ℕ) → kept_of n ≡ Some k → k ≤ 4096
unfolding kept_of
count_fits n k e = go (leb n 4096) refl e
  where
    go : (b : Bool) → leb n 4096 ≡ b → cond b (Some n) None ≡ Some k → k ≤ 4096
    go true t e = let f : n ≡ k = cc in omega (arith, leb-true n 4096 t)
    go false t e = let z : ◌≡◌ {A = ℕ} 0 1 = cc in absurd (omega arith)

module _ (counts : List ℕ) (held : Bytes) (i from to : ℕ) {r : Option ℕ} {last : Bytes} (m : Memory counts held) (p : RestAt i from to) (k : Keeps from to (mid_of (i * 8192) (i * 8192 + 8192 - i * 8192) held) r last) where
  part_inside : i * 8192 + 8192 ≤ length held
  part_inside = omega (arith, m.bytes, p.session)

  other_counts : (n j : ℕ) → (j ≡ i → ⊥) → held_at (set counts i n) (put_mid (i * 8192) (i * 8192 + 8192 - i * 8192) held last) j ≡ held_at counts held j
  unfolding held_at
  other_counts n j ne =
      ap (λ (c : ℕ). part (j * 8192) (min c 4096) (put_mid (i * 8192) (i * 8192 + 8192 - i * 8192) held last)) (get_or-set_other counts i j n 0 ne)
      ∙ others_same counts held last i p.session m.bytes k.size j ne

  own_rest : (n : ℕ) → n ≤ 4096 → held_at (set counts i n) (put_mid (i * 8192) (i * 8192 + 8192 - i * 8192) held last) i ≡ take n last
  unfolding held_at
  own_rest n fits =
      let start : i * 8192 ≡ i * 8192 + 0 = omega arith in
      let same : min n 4096 ≡ n = omega arith in
      ap (λ (c : ℕ). part (i * 8192) (min c 4096) (put_mid (i * 8192) (i * 8192 + 8192 - i * 8192) held last)) (get_or-set_same counts i n 0 (omega (arith, m.words, p.session)))
      ∙ ap₂ (λ (a c : ℕ). part a c (put_mid (i * 8192) (i * 8192 + 8192 - i * 8192) held last)) start same
      ∙ own_part (i * 8192) held last part_inside k.size 0 n (omega arith)

  rest_was : rest_of (part from (to - from) (mid_of (i * 8192) (i * 8192 + 8192 - i * 8192) held)) ≡ rest_of (part (i * 8192 + from) (to - from) held)
  rest_was = ap rest_of (own_before (i * 8192) from (to - from) held part_inside (omega (arith, p.order, p.size)))

  kept_as : (n : ℕ) → held_of r ≡ n → n ≤ 4096 → RestKept i from to counts held r (set counts i n) (put_mid (i * 8192) (i * 8192 + 8192 - i * 8192) held last)
  kept_as n e fits = record {
    answer = k.answer;
    rests =
        rests_changed counts (set counts i n) held (put_mid (i * 8192) (i * 8192 + 8192 - i * 8192) held last) i (rest_of (part (i * 8192 + from) (to - from) held)) p.session
        (own_rest n fits ∙ ap (λ (c : ℕ). take c last) (sym e) ∙ k.held ∙ rest_was)
        (λ j h ne. other_counts n j ne);
    words = ap (set counts i) (sym e);
    bytes = kept_length (i * 8192) held last part_inside k.size;
  }

  kept_fits : (q : Option ℕ) → q ≡ kept_of (to - from) → held_of q ≤ 4096
  kept_fits (Some n) e = count_fits (to - from) n (sym e)
  kept_fits None e = omega arith

  or_none : (q : Option ℕ) → unwrap_or q 0 ≡ held_of q
  or_none (Some n) = refl
  or_none None = refl

  pub rest_kept : {n : ℕ} → n ≡ unwrap_or r 0 → RestKept i from to counts held r (set counts i n) (put_mid (i * 8192) (i * 8192 + 8192 - i * 8192) held last)
  rest_kept {n} e = let same : held_of r ≡ n = sym (e ∙ or_none r) in kept_as n same (omega (arith, kept_fits r k.answer))
