-- The laws of reading a request. Assumes nothing.
use mathlib.Core.Path.{◌≡◌, refl, sym, ap, ◌∙◌}
use mathlib.Core.Bool.{Bool, true, false, cond}
use Rattle.std.specs.Prelude.{None}
use mathlib.Core.List.{List, [], ◌∷◌, ◌++◌, append-nil}
use Prim.Native.Nat.{ℕ, zero, suc, ◌+◌, ◌-◌, ◌/◌, ◌≤◌, ◌<◌}
use native.Mathlib.Nat.{sub-zero}
use native.Mathlib.Omega.{arith}
use lib.Dec.{eqb}
use lib.ListN.{length, take, drop, get_or}
use lib.Seq.{take-nil}
use borrow.Author.Tests.{le-leb, lt-leb, eq-eqb, ne_eqb}
use Rattle.base_key.specs.Bytes.{Bytes}
use Rattle.resp_spec.specs.declared.Span.{Span}
use Rattle.resp_spec.specs.declared.Fault.{Fault}
use Rattle.resp_spec.specs.declared.Read.{Read}
use Rattle.resp_spec.specs.declared.Read.TheVariants.{Wait, Faulty, TooMany, Whole}
use Rattle.resp_bulk.specs.declared.Argument.{Argument}
use Rattle.resp_bulk.specs.declared.Argument.TheVariants.{Unread, Faulty as FaultyArgument, Part}
use Rattle.resp_spec.specs.declared.line.Line.{Line as LineAnswer}
use Rattle.resp_spec.specs.declared.line.Line.TheVariants.{Text, Unfinished, TooLong}
use Rattle.resp_spec.specs.declared.Header.TheVariants.{Multibulk}
use Rattle.resp_spec.specs.declared.Fault.TheVariants.{LineTooLong}
use Rattle.resp_spec.specs.Request.{span, Reading, waits, faulty, whole, with_span, read_arguments, line, line_of, header_of, array_of, read_array, words_from, read_inline, read_request}
use Rattle.resp_spec.specs.Steps.{ReadIs, with_place, LineIs, reading_of_words}
use Rattle.resp_spec.proofs.Lines.{line_not_empty}
use Rattle.resp_spec.proofs.Places.{Held, held_none, held_more, read_whole, read_wait, read_faulty, read_too_many}
use Rattle.resp_bulk.specs.Arguments.{ArgumentIs, argument_at, goes_on}
use Rattle.resp_parse.specs.Requests.{ArgumentsIn, ArrayLine}
use Rattle.std.specs.Prelude.{Result, Ok, Err}

-- ARGUMENTS
-- arguments in front of those that a reading gives
abbrev prefixed : List Span → Reading → Reading
prefixed [] r = r
prefixed (p ∷ ps) r = with_span p (prefixed ps r)

prefixed_more : (ps : List Span) (p : Span) (r : Reading) → prefixed (ps ++ p ∷ []) r ≡ prefixed ps (with_span p r)
prefixed_more [] p r = refl
prefixed_more (q ∷ ps) p r = ap (with_span q) (prefixed_more ps p r)

prefixed_waits : (ps : List Span) → prefixed ps waits ≡ waits
unfolding with_span
prefixed_waits [] = refl
prefixed_waits (p ∷ ps) = rw (prefixed_waits ps) refl

prefixed_faulty : (ps : List Span) (f : Fault) → prefixed ps (faulty f) ≡ faulty f
unfolding with_span
prefixed_faulty [] f = refl
prefixed_faulty (p ∷ ps) f = rw (prefixed_faulty ps f) refl

prefixed_whole : (ps qs : List Span) (used : ℕ) → prefixed ps (whole qs used) ≡ whole (ps ++ qs) used
unfolding with_span
prefixed_whole [] qs used = refl
prefixed_whole (p ∷ ps) qs used = rw (prefixed_whole ps qs used) refl

-- i of `count` arguments are read and stand in the table; the next is at `at`
pub record Passed (input entry table : List ℕ) (count from i at : ℕ) : Type 0 where
  pub spans : List Span
  pub held : Held entry table i spans
  pub same : read_arguments count from (drop from input) ≡ prefixed spans (read_arguments (count - i) at (drop at input))
  pub within : i ≤ count
  pub inside : at ≤ length input

pub passed_none : {input entry : List ℕ} {count from : ℕ} → ArgumentsIn input entry count from → Passed input entry entry count from 0 from
passed_none {input} {entry} {count} {from} w =
    record { spans = []; held = held_none entry; same = rw sub-zero refl; within = omega arith; inside = w.inside }

module _ {input entry table : List ℕ} {count from i at : ℕ} (g : Passed input entry table count from i at) where
  pub passed_all : count ≤ i → ReadIs (read_arguments count from (drop from input)) (Whole count at) table
  unfolding read_arguments
  passed_all h =
      let last : i ≡ count = omega (arith, g.within) in
      let none : count - i ≡ 0 = omega arith in
      rw (← last) (read_whole g.held (rw last (g.same ∙ rw none (prefixed_whole g.spans [] at ∙ ap (λ (l : List Span). whole l at) (append-nil g.spans)))))

  module _ (h : i < count) {r : Argument} (a : ArgumentIs (argument_at at input) input r) where
    next : read_arguments (count - i) at (drop at input) ≡ goes_on (read_arguments (count - (i + 1))) input r
    unfolding read_arguments argument_at
    next = let one : count - i ≡ suc (count - (i + 1)) = omega arith in rw one (a.same (read_arguments (count - (i + 1))))

    pub passed_unread : r ≡ Unread → ReadIs (read_arguments count from (drop from input)) Wait table
    passed_unread e = read_wait (g.same ∙ ap (prefixed g.spans) (next ∙ rw e refl) ∙ prefixed_waits g.spans)

    pub passed_faulty : {f : Fault} → r ≡ FaultyArgument f → ReadIs (read_arguments count from (drop from input)) (Faulty f) table
    passed_faulty {f} e = read_faulty f (g.same ∙ ap (prefixed g.spans) (next ∙ rw e refl) ∙ prefixed_faulty g.spans f)

    module _ (w : ArgumentsIn input entry count from) where
      pub passed_more : {start len : ℕ} {after : List ℕ} → r ≡ Part start len → after ≡ with_place i start len table → Passed input entry after count from (i + 1) (start + len + 2)
      passed_more {start} {len} e put =
          record {
            spans = g.spans ++ span start len ∷ [];
            held = held_more g.held start len (omega (arith, w.places)) put;
            same = g.same ∙ ap (prefixed g.spans) (next ∙ rw e refl) ∙ sym (prefixed_more g.spans (span start len) (read_arguments (count - (i + 1)) (start + len + 2) (drop (start + len + 2) input)));
            within = omega arith;
            inside = (a.inside start len e).inside;
          }

-- AN ARRAY
-- the text behind the `*`
behind_star_lem : (input : Bytes) (len : ℕ) → 1 ≤ len → take (len - 1) (drop 1 input) ≡ drop 1 (take len input)
behind_star_lem input zero h = absurd (omega arith)
behind_star_lem [] (suc n) h = let e : suc n - 1 ≡ n = omega arith in rw e (take-nil n)
behind_star_lem (b ∷ s) (suc n) h = let e : suc n - 1 ≡ n = omega arith in rw e refl

module _ (input entry : List ℕ) (len used : ℕ) (w : ArrayLine input len used) (r : Result ℕ Fault) (h : r ≡ header_of Multibulk 1 (take (len - 1) (drop 1 input))) where
  array_is : read_array (length entry / 2) input (line (take len input) used) ≡ array_of (length entry / 2) used input r
  unfolding read_array
  array_is = ap (λ (text : Bytes). array_of (length entry / 2) used input (header_of Multibulk 1 text)) (sym (behind_star_lem input len w.some_byte)) ∙ rw (← h) refl

  pub array_wrong : {table : List ℕ} {f : Fault} → r ≡ Err f → ReadIs (read_array (length entry / 2) input (line (take len input) used)) (Faulty f) table
  unfolding array_of
  array_wrong {f = f} e = read_faulty f (array_is ∙ rw e refl)

  module _ {n : ℕ} (e : r ≡ Ok n) where
    pub array_too_many : {table : List ℕ} → length entry / 2 < n → ReadIs (read_array (length entry / 2) input (line (take len input) used)) TooMany table
    unfolding array_of
    array_too_many over = read_too_many (array_is ∙ rw (e, lt-leb n (length entry / 2) over, array_of) refl)

    pub array_arguments : {table : List ℕ} {a : Read} → n ≤ length entry / 2 → ReadIs (read_arguments n used (drop used input)) a table → ReadIs (read_array (length entry / 2) input (line (take len input) used)) a table
    unfolding array_of
    array_arguments room is =
        let reading : array_of (length entry / 2) used input r ≡ read_arguments n used (drop used input) = rw (e, le-leb n (length entry / 2) room, array_of) refl in
        rw (array_is ∙ reading) is

-- A REQUEST
pub request_none : (places : ℕ) (input : Bytes) {table : List ℕ} → length input < 1 → ReadIs (read_request places input) Wait table
unfolding read_request
request_none places [] h = read_wait refl
request_none places (b ∷ s) h = absurd (omega arith)

-- by its first byte
by_first : (places : ℕ) (input : Bytes) → 1 ≤ length input → read_request places input ≡ cond (eqb (get_or input 0 0) 42) (read_array places input (line_of input)) (read_inline places (line_of input))
unfolding read_request
by_first places [] h = absurd (omega arith)
by_first places (b ∷ s) h = refl

module _ (places : ℕ) (input : Bytes) (some_byte : 1 ≤ length input) {r : LineAnswer} (l : LineIs input r) where
  -- either way, where the line is not there
  either : (e : Reading) → read_array places input (line_of input) ≡ e → read_inline places (line_of input) ≡ e → read_request places input ≡ e
  either e p q = by_first places input some_byte ∙ go (eqb (get_or input 0 0) 42)
    where
      go : (t : Bool) → cond t (read_array places input (line_of input)) (read_inline places (line_of input)) ≡ e
      go true = p
      go false = q

  pub request_unfinished : {table : List ℕ} → r ≡ Unfinished → ReadIs (read_request places input) Wait table
  unfolding read_array read_inline
  request_unfinished e = read_wait (either waits (rw (← l.same, e) refl) (rw (← l.same, e) refl))

  pub request_too_long : {table : List ℕ} → r ≡ TooLong → ReadIs (read_request places input) (Faulty LineTooLong) table
  unfolding read_array read_inline
  request_too_long e = read_faulty LineTooLong (either (faulty LineTooLong) (rw (← l.same, e) refl) (rw (← l.same, e) refl))

  module _ {len used : ℕ} (e : r ≡ Text len used) where
    line_is : line (take len input) used ≡ line_of input
    line_is = rw e at l.same

    pub request_array_line : get_or input 0 0 ≡ 42 → ArrayLine input len used
    request_array_line star =
        let i = l.inside len used e in
        record { some_byte = line_not_empty input len used (λ z. omega arith) star line_is; text = i.text; inside = i.inside }

    pub request_array : {table : List ℕ} {a : Read} → get_or input 0 0 ≡ 42 → ReadIs (read_array places input (line (take len input) used)) a table → ReadIs (read_request places input) a table
    request_array star is = rw (by_first places input some_byte, eq-eqb (get_or input 0 0) 42 star, ← line_is) is

    pub request_inline : {table : List ℕ} {a : Read} → (get_or input 0 0 ≡ 42 → ⊥) → ReadIs (reading_of_words places (words_from 0 None (take len input)) used) a table → ReadIs (read_request places input) a table
    unfolding read_inline
    request_inline other is = rw (by_first places input some_byte, ne_eqb (get_or input 0 0) 42 other, ← line_is) is
