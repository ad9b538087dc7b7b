-- What a whole request gives lies in its bytes: the bytes used, and the part of each argument. Assumes nothing.
use mathlib.Core.Path.{◌≡◌, refl}
use mathlib.Core.Bool.{Bool, true, false, cond}
use mathlib.Core.List.{List, [], ◌∷◌}
use Rattle.std.specs.Prelude.{Option, None, Some, option_map, Result, Ok, Err}
use Prim.Native.Nat.{ℕ, zero, suc, ◌+◌, ◌≤◌, ◌<◌}
use native.Mathlib.Decide.{dec_le}
use native.Mathlib.Omega.{arith}
use lib.Dec.{eqb, leb}
use lib.ListN.{length, take, drop, length-drop, length-take}
use borrow.Author.Tests.{eqb-true, eqb-false}
use Rattle.base_key.specs.Bytes.{Bytes}
use Rattle.resp_spec.specs.declared.Fault.{Fault}
use Rattle.resp_spec.specs.declared.Span.{Span}
use Rattle.resp_spec.specs.declared.Header.TheVariants.{Multibulk, Bulk}
use Rattle.resp_spec.specs.Request.{span, Line, line, unfinished, too_long, feed_at, without_cr, line_at, line_of, header_of, Reading, waits, faulty, too_many, whole, with_span, begins_cr_lf, bulk_body, argument_line, read_arguments, array_of, read_array, is_space, words_from, read_inline, read_request}
use Rattle.resp_spec.specs.Steps.{Next}
use Rattle.resp_spec.proofs.Lines.{feed_first, feed_later}
use Rattle.resp_spec.proofs.Arguments.{body_waits, body_ends, body_other}
use Rattle.resp_spec.proofs.Words.{space_between, word_begins, word_ends, word_goes_on}

-- every part ends within the first n bytes
abbrev pub SpansIn : ℕ → List Span → Type 0
SpansIn n [] = Unit {0}
SpansIn n (p ∷ ps) = (p.start + p.len ≤ n) × SpansIn n ps

pub record WholeIn (n : ℕ) (ps : List Span) (used : ℕ) : Type 0 where
  pub used_in : used ≤ n
  pub spans_in : SpansIn n ps

-- what a whole reading gives
abbrev pub ReadingIn : ℕ → Reading → Type 0
ReadingIn n waits = Unit {0}
ReadingIn n (faulty f) = Unit {0}
ReadingIn n too_many = Unit {0}
ReadingIn n (whole ps used) = WholeIn n ps used

-- LINES
abbrev FeedIn : ℕ → Option ℕ → Type 0
FeedIn n None = Unit {0}
FeedIn n (Some i) = i < n

feed_next : (n : ℕ) (o : Option ℕ) → FeedIn n o → FeedIn (suc n) (option_map suc o)
feed_next n None h = tt
feed_next n (Some i) h = omega arith

feed_in : (s : Bytes) → FeedIn (length s) (feed_at s)
unfolding feed_at
feed_in [] = tt
feed_in (b ∷ s) = go (eqb b 10) refl (feed_in s)
  where
    go : (t : Bool) → eqb b 10 ≡ t → FeedIn (length s) (feed_at s) → FeedIn (suc (length s)) (feed_at (b ∷ s))
    go true e h = rw (feed_first b s (eqb-true b 10 e)) (omega arith)
    go false e h = rw (feed_later b s (eqb-false b 10 e)) (feed_next (length s) (feed_at s) h)

pub without_cr_length : (s : Bytes) → length (without_cr s) ≤ length s
unfolding without_cr
without_cr_length [] = omega arith
without_cr_length (b ∷ []) = go (eqb b 13)
  where
    go : (t : Bool) → length (cond t [] (b ∷ [])) ≤ 1
    go true = omega arith
    go false = omega arith
without_cr_length (b ∷ c ∷ s) = let h : length (without_cr (c ∷ s)) ≤ length (c ∷ s) = without_cr_length (c ∷ s) in omega arith

record LineIn (n : ℕ) (text : Bytes) (used : ℕ) : Type 0 where
  text_in : length text ≤ n
  used_in : used ≤ n

abbrev LineBound : ℕ → Line → Type 0
LineBound n (line text used) = LineIn n text used
LineBound n unfinished = Unit {0}
LineBound n too_long = Unit {0}

line_in : (s : Bytes) → LineBound (length s) (line_of s)
unfolding line_of line_at
line_in s = go (feed_at s) (feed_in s)
  where
    short : (t : Bool) → LineBound (length s) (cond t unfinished too_long)
    short true = tt
    short false = tt

    found : (t : Bool) (i : ℕ) → i < length s → LineBound (length s) (cond t (line (without_cr (take i s)) (suc i)) too_long)
    found true i h = record { text_in = omega (arith, without_cr_length (take i s), length-take i s); used_in = omega arith }
    found false i h = tt

    go : (o : Option ℕ) → FeedIn (length s) o → LineBound (length s) (line_at o s)
    go None h = short (leb (length s) 65536)
    go (Some i) h = found (leb i 65536) i h

-- ARGUMENTS
with_in : (n : ℕ) (p : Span) (r : Reading) → p.start + p.len ≤ n → ReadingIn n r → ReadingIn n (with_span p r)
unfolding with_span
with_in n p waits h i = tt
with_in n p (faulty f) h i = tt
with_in n p too_many h i = tt
with_in n p (whole ps used) h i = record { used_in = i.used_in; spans_in = (h, i.spans_in) }

-- what is read from `at` on, where `s` stands, lies in the first n bytes
abbrev Stays : ℕ → Next → Type 0
Stays n next = (at : ℕ) (s : Bytes) → at + length s ≤ n → ReadingIn n (next at s)

body_in : (n : ℕ) (next : Next) → Stays n next → (at : ℕ) (s : Bytes) (c : Result ℕ Fault) → at + length s ≤ n → ReadingIn n (bulk_body next at s c)
unfolding bulk_body
body_in n next stays at s (Err f) h = tt
body_in n next stays at s (Ok k) h = sized (dec_le (k + 2) (length s))
  where
    tested : (t : Bool) → begins_cr_lf (drop k s) ≡ t → k + 2 ≤ length s → ReadingIn n (bulk_body next at s (Ok k))
    tested true e fits = rw (body_ends next at k s fits e) (with_in n (span at k) (next (at + k + 2) (drop (k + 2) s)) (omega arith) (stays (at + k + 2) (drop (k + 2) s) (simp length-drop (omega arith))))
    tested false e fits = rw (body_other next at k s fits e) tt

    sized : Dec (k + 2 ≤ length s) → ReadingIn n (bulk_body next at s (Ok k))
    sized (yes fits) = tested (begins_cr_lf (drop k s)) refl fits
    sized (no short) = let less : length s < k + 2 = omega arith in rw (body_waits next at k s less) tt

argument_in : (n : ℕ) (next : Next) → Stays n next → (at : ℕ) (s : Bytes) (l : Line) → LineBound (length s) l → at + length s ≤ n → ReadingIn n (argument_line next at s l)
unfolding argument_line
argument_in n next stays at s unfinished b h = tt
argument_in n next stays at s too_long b h = tt
argument_in n next stays at s (line [] used) b h = tt
argument_in n next stays at s (line (c ∷ text) used) b h = go (eqb c 36) refl
  where
    go : (t : Bool) → eqb c 36 ≡ t → ReadingIn n (argument_line next at s (line (c ∷ text) used))
    go true e = rw (e, argument_line) (body_in n next stays (at + used) (drop used s) (header_of Bulk (at + 1) text) (simp length-drop (omega (arith, b.used_in))))
    go false e = rw (e, argument_line) tt

arguments_in : (n count : ℕ) → Stays n (read_arguments count)
unfolding read_arguments
arguments_in n zero at s h = record { used_in = omega arith; spans_in = tt }
arguments_in n (suc count) at s h = argument_in n (read_arguments count) (arguments_in n count) at s (line_of s) (line_in s) h

array_of_in : (places used : ℕ) (s : Bytes) (c : Result ℕ Fault) → used ≤ length s → ReadingIn (length s) (array_of places used s c)
unfolding array_of
array_of_in places used s (Err f) h = tt
array_of_in places used s (Ok k) h = go (leb k places) refl
  where
    go : (t : Bool) → leb k places ≡ t → ReadingIn (length s) (array_of places used s (Ok k))
    go true e = rw (e, array_of) (arguments_in (length s) k used (drop used s) (simp length-drop (omega arith)))
    go false e = rw (e, array_of) tt

array_in : (places : ℕ) (s : Bytes) (l : Line) → LineBound (length s) l → ReadingIn (length s) (read_array places s l)
unfolding read_array
array_in places s unfinished b = tt
array_in places s too_long b = tt
array_in places s (line text used) b = array_of_in places used s (header_of Multibulk 1 (drop 1 text)) b.used_in

-- WORDS
-- a word that has begun starts at or before `at`
abbrev Begins : ℕ → Option ℕ → Type 0
Begins at None = Unit {0}
Begins at (Some a) = a ≤ at

words_in : (n at : ℕ) (o : Option ℕ) (s : Bytes) → Begins at o → at + length s ≤ n → SpansIn n (words_from at o s)
unfolding words_from
words_in n at None [] b h = tt
words_in n at (Some a) [] b h = (omega arith, tt)
words_in n at None (x ∷ s) b h = go (is_space x) refl (words_in n (suc at) None s tt (omega arith)) (words_in n (suc at) (Some at) s (omega arith) (omega arith))
  where
    go : (t : Bool) → is_space x ≡ t → SpansIn n (words_from (suc at) None s) → SpansIn n (words_from (suc at) (Some at) s) → SpansIn n (words_from at None (x ∷ s))
    go true e p q = rw (space_between at x s e) p
    go false e p q = rw (word_begins at x s e) q
words_in n at (Some a) (x ∷ s) b h = go (is_space x) refl (words_in n (suc at) None s tt (omega arith)) (words_in n (suc at) (Some a) s (omega arith) (omega arith))
  where
    go : (t : Bool) → is_space x ≡ t → SpansIn n (words_from (suc at) None s) → SpansIn n (words_from (suc at) (Some a) s) → SpansIn n (words_from at (Some a) (x ∷ s))
    go true e p q = rw (word_ends at x s a e) (omega arith, p)
    go false e p q = rw (word_goes_on at x s a e) q

inline_in : (places n : ℕ) (l : Line) → LineBound n l → ReadingIn n (read_inline places l)
unfolding read_inline
inline_in places n unfinished b = tt
inline_in places n too_long b = tt
inline_in places n (line text used) b = go (leb (length (words_from 0 None text)) places)
  where
    go : (t : Bool) → ReadingIn n (cond t (whole (words_from 0 None text) used) too_many)
    go true = record { used_in = b.used_in; spans_in = words_in n 0 None text tt (omega (arith, b.text_in)) }
    go false = tt

pub request_in : (places : ℕ) (input : Bytes) → ReadingIn (length input) (read_request places input)
unfolding read_request
request_in places [] = tt
request_in places (b ∷ s) = go (eqb b 42)
  where
    go : (t : Bool) → ReadingIn (length (b ∷ s)) (cond t (read_array places (b ∷ s) (line_of (b ∷ s))) (read_inline places (line_of (b ∷ s))))
    go true = array_in places (b ∷ s) (line_of (b ∷ s)) (line_in (b ∷ s))
    go false = inline_in places (length (b ∷ s)) (line_of (b ∷ s)) (line_in (b ∷ s))
