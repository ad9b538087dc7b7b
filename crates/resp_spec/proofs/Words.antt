-- The laws of inline words. Assumes nothing.
use mathlib.Core.Path.{◌≡◌, refl, sym, ap, ◌∙◌}
use mathlib.Core.Bool.{Bool, true, false}
use mathlib.Core.List.{List, [], ◌∷◌, ◌++◌, append_assoc, append-nil}
use Rattle.std.specs.Prelude.{None, Some}
use Prim.Native.Nat.{ℕ, suc, ◌+◌, ◌-◌, ◌/◌, ◌≤◌, ◌<◌}
use native.Mathlib.Numerals.{unary_clauses}
use native.Mathlib.Omega.{arith}
use lib.ListN.{length, take, drop, get_or, length-append, drop_of_length-le}
use lib.Seq.{drop-cons}
use Rattle.std.specs.List.{prefix_len, position_or_len}
use Rattle.std.proofs.lemmas.List.{take_rest, drop-drop, get_or-drop, length-drop}
use Rattle.std.proofs.lemmas.List.Sums.{prefix_len_stops}
use borrow.Author.Tests.{le-leb, lt-leb}
use Rattle.base_key.specs.Bytes.{Bytes}
use Rattle.resp_spec.specs.declared.Span.{Span}
use Rattle.resp_spec.specs.declared.Read.TheVariants.{TooMany, Whole}
use Rattle.resp_spec.specs.Request.{span, is_space, words_from}
use Rattle.resp_spec.specs.Steps.{WordStart, StartsWord, WordEnd, ReadIs, reading_of_words, with_place}
use Rattle.resp_spec.proofs.Places.{Held, held_none, held_more, read_whole, read_too_many}

-- ONE BYTE
module _ (at b : ℕ) (s : Bytes) where
  pub space_between : is_space b ≡ true → words_from at None (b ∷ s) ≡ words_from (suc at) None s
  unfolding words_from
  space_between e = rw (e, words_from) refl

  pub word_begins : is_space b ≡ false → words_from at None (b ∷ s) ≡ words_from (suc at) (Some at) s
  unfolding words_from
  word_begins e = rw (e, words_from) refl

  module _ (a : ℕ) where
    pub word_ends : is_space b ≡ true → words_from at (Some a) (b ∷ s) ≡ span a (at - a) ∷ words_from (suc at) None s
    unfolding words_from
    word_ends e = rw (e, words_from) refl

    pub word_goes_on : is_space b ≡ false → words_from at (Some a) (b ∷ s) ≡ words_from (suc at) (Some a) s
    unfolding words_from
    word_goes_on e = rw (e, words_from) refl

no_word : (at : ℕ) → words_from at None [] ≡ []
unfolding words_from
no_word at = refl

word_last : (at a : ℕ) → words_from at (Some a) [] ≡ span a (at - a) ∷ []
unfolding words_from
word_last at a = refl

-- a word that has begun is a word
some_word : (at a : ℕ) (s : Bytes) → 1 ≤ length (words_from at (Some a) s)
unfolding words_from
some_word at a [] = omega arith
some_word at a (b ∷ s) = go (is_space b) refl (some_word (suc at) a s)
  where
    go : (t : Bool) → is_space b ≡ t → 1 ≤ length (words_from (suc at) (Some a) s) → 1 ≤ length (words_from at (Some a) (b ∷ s))
    go true e h = rw (word_ends at b s a e) (omega arith)
    go false e h = rw (word_goes_on at b s a e) h

-- THE BYTES IN FRONT of a place: space is passed over, and a word ends at space
module _ (at b : ℕ) (s : Bytes) (n : ℕ) where
  past_more : words_from (suc at + n) None (drop n s) ≡ words_from (at + (1 + n)) None (drop (1 + n) (b ∷ s))
  past_more = let place : at + (1 + n) ≡ suc at + n = omega arith in let more : 1 + n ≡ suc n = omega arith in rw (place, more) refl

past_space : (at : ℕ) (s : Bytes) → words_from at None s ≡ words_from (at + prefix_len is_space s) None (drop (prefix_len is_space s) s)
past_space at [] = simp unary_clauses
past_space at (b ∷ s) = go (is_space b) refl (past_space (suc at) s)
  where
    go : (t : Bool) → is_space b ≡ t → words_from (suc at) None s ≡ words_from (suc at + prefix_len is_space s) None (drop (prefix_len is_space s) s) → words_from at None (b ∷ s) ≡ words_from (at + prefix_len is_space (b ∷ s)) None (drop (prefix_len is_space (b ∷ s)) (b ∷ s))
    go true e more = rw e (space_between at b s e ∙ more ∙ past_more at b s (prefix_len is_space s))
    go false e more = rw e (simp unary_clauses)

past_word : (at a : ℕ) (s : Bytes) → words_from at (Some a) s ≡ span a (at + position_or_len is_space s - a) ∷ words_from (at + position_or_len is_space s) None (drop (position_or_len is_space s) s)
past_word at a [] = word_last at a ∙ simp (unary_clauses, no_word) refl
past_word at a (b ∷ s) = go (is_space b) refl (past_word (suc at) a s)
  where
    go : (t : Bool) → is_space b ≡ t → words_from (suc at) (Some a) s ≡ span a (suc at + position_or_len is_space s - a) ∷ words_from (suc at + position_or_len is_space s) None (drop (position_or_len is_space s) s) → words_from at (Some a) (b ∷ s) ≡ span a (at + position_or_len is_space (b ∷ s) - a) ∷ words_from (at + position_or_len is_space (b ∷ s)) None (drop (position_or_len is_space (b ∷ s)) (b ∷ s))
    go true e more = rw e (word_ends at b s a e ∙ simp unary_clauses (ap (λ (l : List Span). span a (at - a) ∷ l) (sym (space_between at b s e))))
    go false e more =
        let size : suc at + position_or_len is_space s ≡ at + (1 + position_or_len is_space s) = omega arith in
        rw e (word_goes_on at b s a e ∙ more ∙ ap (λ (l : List Span). span a (suc at + position_or_len is_space s - a) ∷ l) (past_more at b s (position_or_len is_space s)) ∙ rw size refl)

-- what the two counts say, each of what stands behind a place
abbrev pub rest : Bytes → ℕ → Bytes
rest text at = take (length text - at) (drop at text)

module _ {text : Bytes} {at n : ℕ} (inside : n ≤ length (rest text at)) where
  word_start : at ≤ length text → n ≡ prefix_len is_space (rest text at) → WordStart text at (at + n)
  word_start place count =
      let gap : n ≡ prefix_len is_space (drop at text) = rw take_rest at count in
      let within : at + n ≤ length text = omega (arith, rw (take_rest, length-drop) at inside) in
      record {
        same = past_space at (drop at text) ∙ rw (← gap, drop-drop) refl;
        onward = omega arith;
        inside = within;
        starts = λ h. rw (← get_or-drop at text n 0, gap) (prefix_len_stops is_space (drop at text) 0 (rw (← gap, length-drop) (omega arith)));
      }

  word_end : StartsWord text at → n ≡ position_or_len is_space (rest text at) → WordEnd text at (at + n)
  word_end w count =
      let len : n ≡ position_or_len is_space (drop at text) = rw take_rest at count in
      let first : drop at text ≡ get_or text at 0 ∷ drop (suc at) text = drop-cons text at 0 w.inside in
      let some_count : 1 ≤ n = rw (len, first, w.starts) (omega arith) in
      record {
        same =
            ap (words_from at None) first
            ∙ word_begins at (get_or text at 0) (drop (suc at) text) w.starts
            ∙ sym (ap (words_from at (Some at)) first ∙ word_goes_on at (get_or text at 0) (drop (suc at) text) at w.starts)
            ∙ past_word at at (drop at text)
            ∙ rw (← len, drop-drop) refl;
        some_byte = omega arith;
        inside = omega (arith, w.inside, rw (take_rest, length-drop) at inside);
      }

-- ALL WORDS
-- n words, before `at`, stand in the table; the next starts at `at`, or none does
pub record Worded (text entry table : List ℕ) (n at : ℕ) : Type 0 where
  pub spans : List Span
  pub held : Held entry table n spans
  pub same : words_from 0 None text ≡ spans ++ words_from at None (drop at text)
  pub fits : n ≤ length entry / 2
  pub inside : at ≤ length text
  pub starts : at < length text → is_space (get_or text at 0) ≡ false

pub words_begin : {text entry : List ℕ} {at : ℕ} → at ≡ prefix_len is_space text → at ≤ length text → Worded text entry entry 0 at
words_begin {text} {entry} {at} count inside =
    record {
      spans = [];
      held = held_none entry;
      same = let place : 0 + prefix_len is_space text ≡ at = omega arith in past_space 0 text ∙ rw (place, ← count) refl;
      fits = omega arith;
      inside = inside;
      starts = λ h. rw count (prefix_len_stops is_space text 0 (rw (← count) h));
    }

module _ {text entry table : List ℕ} {n at : ℕ} (g : Worded text entry table n at) where
  pub words_end : (used : ℕ) → length text ≤ at → ReadIs (reading_of_words (length entry / 2) (words_from 0 None text) used) (Whole n used) table
  unfolding words_from
  words_end used h =
      let all : words_from 0 None text ≡ g.spans = g.same ∙ rw (drop_of_length-le text {i = at} h) (append-nil g.spans) in
      let room : length g.spans ≤ length entry / 2 = omega (arith, g.held.many, g.fits) in
      read_whole g.held {used = used} (rw (all, le-leb (length g.spans) (length entry / 2) room) refl)

  module _ (h : at < length text) where
    pub words_too_many : (used : ℕ) → length entry / 2 ≤ n → ReadIs (reading_of_words (length entry / 2) (words_from 0 None text) used) TooMany table
    words_too_many used full =
        let next : words_from at None (drop at text) ≡ words_from (suc at) (Some at) (drop (suc at) text) = ap (words_from at None) (drop-cons text at 0 h) ∙ word_begins at (get_or text at 0) (drop (suc at) text) (g.starts h) in
        let more : 1 ≤ length (words_from at None (drop at text)) = rw next (some_word (suc at) at (drop (suc at) text)) in
        let over : length entry / 2 < length (words_from 0 None text) = rw g.same (simp length-append (omega (arith, g.held.many, more))) in
        read_too_many (rw (lt-leb (length (words_from 0 None text)) (length entry / 2) over) refl)

    pub words_more : {len gap : ℕ} {after : List ℕ} → n < length entry / 2 → len ≤ length (rest text at) → len ≡ position_or_len is_space (rest text at) → after ≡ with_place n at len table → gap ≤ length (rest text (at + len)) → gap ≡ prefix_len is_space (rest text (at + len)) → Worded text entry after (n + 1) (at + len + gap)
    words_more {len} {gap} room len_in len_is put gap_in gap_is =
        let end : WordEnd text at (at + len) = word_end len_in (record { inside = h; starts = g.starts h }) len_is in
        let next : WordStart text (at + len) (at + len + gap) = word_start gap_in end.inside gap_is in
        let size : at + len - at ≡ len = omega arith in
        record {
          spans = g.spans ++ span at len ∷ [];
          held = held_more g.held at len room put;
          same =
              g.same
              ∙ ap (λ (l : List Span). g.spans ++ l) (end.same ∙ rw size (ap (λ (l : List Span). span at len ∷ l) next.same))
              ∙ sym (append_assoc g.spans (span at len ∷ []) (words_from (at + len + gap) None (drop (at + len + gap) text)));
          fits = omega arith;
          inside = next.inside;
          starts = next.starts;
        }
