-- A whole request uses some of its bytes, and no reply is empty. Assumes nothing.
use Prim.Native.Nat.{ℕ, zero, suc, ◌+◌, ◌≤◌, ◌<◌}
use native.Mathlib.Decide.{dec_le}
use native.Mathlib.Omega.{arith}
use mathlib.Core.Path.{◌≡◌, refl}
use mathlib.Core.Bool.{Bool, true, false, cond}
use mathlib.Core.List.{[], ◌∷◌}
use Rattle.std.specs.Prelude.{Option, None, Some, Result, Ok, Err}
use lib.Dec.{eqb, leb}
use lib.ListN.{length, take, drop}
use Rattle.base_key.specs.Bytes.{Bytes}
use Rattle.resp_spec.specs.declared.Fault.{Fault}
use Rattle.resp_spec.specs.declared.Span.{Span}
use Rattle.resp_spec.specs.declared.Header.TheVariants.{Multibulk, Bulk}
use Rattle.resp_spec.specs.Request.{Line, line, unfinished, too_long, feed_at, without_cr, line_at, line_of, header_of, Reading, waits, faulty, too_many, whole, with_span, span, begins_cr_lf, bulk_body, argument_line, read_arguments, array_of, read_array, words_from, read_inline, read_request}
use Rattle.resp_spec.specs.Reply.{Reply, Simple, Error, Integer, BulkString, Nil, NilArray, Array, head, encode}
use Rattle.resp_spec.specs.Steps.{Next}
use Rattle.resp_spec.proofs.Arguments.{body_waits, body_ends, body_other}

-- a whole request uses n bytes or more
abbrev pub UsesMost : ℕ → Reading → Type 0
UsesMost n waits = Unit {0}
UsesMost n (faulty f) = Unit {0}
UsesMost n too_many = Unit {0}
UsesMost n (whole ps used) = n ≤ used

with_uses : (n : ℕ) (p : Span) (r : Reading) → UsesMost n r → UsesMost n (with_span p r)
unfolding with_span
with_uses n p waits h = tt
with_uses n p (faulty f) h = tt
with_uses n p too_many h = tt
with_uses n p (whole ps used) h = h

-- ARGUMENTS behind the first n bytes
abbrev Behind : ℕ → Next → Type 0
Behind n next = (at : ℕ) (s : Bytes) → n ≤ at → UsesMost n (next at s)

body_uses : (n : ℕ) (next : Next) → Behind n next → (at : ℕ) (s : Bytes) (c : Result ℕ Fault) → n ≤ at → UsesMost n (bulk_body next at s c)
unfolding bulk_body
body_uses n next behind at s (Err f) h = tt
body_uses n next behind at s (Ok k) h = sized (dec_le (k + 2) (length s))
  where
    tested : (t : Bool) → begins_cr_lf (drop k s) ≡ t → k + 2 ≤ length s → UsesMost n (bulk_body next at s (Ok k))
    tested true e fits = rw (body_ends next at k s fits e) (with_uses n (span at k) (next (at + k + 2) (drop (k + 2) s)) (behind (at + k + 2) (drop (k + 2) s) (omega arith)))
    tested false e fits = rw (body_other next at k s fits e) tt

    sized : Dec (k + 2 ≤ length s) → UsesMost n (bulk_body next at s (Ok k))
    sized (yes fits) = tested (begins_cr_lf (drop k s)) refl fits
    sized (no short) = let less : length s < k + 2 = omega arith in rw (body_waits next at k s less) tt

argument_uses : (n : ℕ) (next : Next) → Behind n next → (at : ℕ) (s : Bytes) (l : Line) → n ≤ at → UsesMost n (argument_line next at s l)
unfolding argument_line
argument_uses n next behind at s unfinished h = tt
argument_uses n next behind at s too_long h = tt
argument_uses n next behind at s (line [] used) h = tt
argument_uses n next behind at s (line (c ∷ text) used) h = go (eqb c 36) refl
  where
    go : (t : Bool) → eqb c 36 ≡ t → UsesMost n (argument_line next at s (line (c ∷ text) used))
    go true e = rw (e, argument_line) (body_uses n next behind (at + used) (drop used s) (header_of Bulk (at + 1) text) (omega arith))
    go false e = rw (e, argument_line) tt

arguments_use : (n count : ℕ) → Behind n (read_arguments count)
unfolding read_arguments
arguments_use n zero at s h = h
arguments_use n (suc count) at s h = argument_uses n (read_arguments count) (arguments_use n count) at s (line_of s) h

-- LINES
abbrev LineUses : Line → Type 0
LineUses (line text used) = 1 ≤ used
LineUses unfinished = Unit {0}
LineUses too_long = Unit {0}

line_uses : (s : Bytes) → LineUses (line_of s)
unfolding line_of line_at
line_uses s = go (feed_at s)
  where
    short : (t : Bool) → LineUses (cond t unfinished too_long)
    short true = tt
    short false = tt

    found : (t : Bool) (i : ℕ) → LineUses (cond t (line (without_cr (take i s)) (suc i)) too_long)
    found true i = omega arith
    found false i = tt

    go : (o : Option ℕ) → LineUses (line_at o s)
    go None = short (leb (length s) 65536)
    go (Some i) = found (leb i 65536) i

array_uses : (places : ℕ) (s : Bytes) (l : Line) → LineUses l → UsesMost 1 (read_array places s l)
unfolding read_array array_of
array_uses places s unfinished h = tt
array_uses places s too_long h = tt
array_uses places s (line text used) h = counted (header_of Multibulk 1 (drop 1 text))
  where
    counted : (c : Result ℕ Fault) → UsesMost 1 (array_of places used s c)
    counted (Err f) = tt
    counted (Ok k) = go (leb k places) refl
      where
        go : (t : Bool) → leb k places ≡ t → UsesMost 1 (array_of places used s (Ok k))
        go true e = rw (e, array_of) (arguments_use 1 k used (drop used s) h)
        go false e = rw (e, array_of) tt

inline_uses : (places : ℕ) (l : Line) → LineUses l → UsesMost 1 (read_inline places l)
unfolding read_inline
inline_uses places unfinished h = tt
inline_uses places too_long h = tt
inline_uses places (line text used) h = go (leb (length (words_from 0 None text)) places)
  where
    go : (t : Bool) → UsesMost 1 (cond t (whole (words_from 0 None text) used) too_many)
    go true = h
    go false = tt

pub request_uses : (places : ℕ) (input : Bytes) → UsesMost 1 (read_request places input)
unfolding read_request
request_uses places [] = tt
request_uses places (b ∷ s) = go (eqb b 42)
  where
    go : (t : Bool) → UsesMost 1 (cond t (read_array places (b ∷ s) (line_of (b ∷ s))) (read_inline places (line_of (b ∷ s))))
    go true = array_uses places (b ∷ s) (line_of (b ∷ s)) (line_uses (b ∷ s))
    go false = inline_uses places (line_of (b ∷ s)) (line_uses (b ∷ s))

-- A REPLY has a byte at least
pub encode_some : (r : Reply) → 1 ≤ length (encode r)
unfolding encode head
encode_some (Simple text) = omega arith
encode_some (Error text) = omega arith
encode_some (Integer z) = omega arith
encode_some (BulkString text) = omega arith
encode_some Nil = omega arith
encode_some NilArray = omega arith
encode_some (Array is) = omega arith
