-- What the encoder's lines are to the reader: a line by its text, digits, numbers. Assumes nothing.
use mathlib.Core.Path.{◌≡◌, refl, sym, ap, ◌∙◌}
use mathlib.Core.Bool.{Bool, true, false, cond, ◌&&◌, ◌||◌}
use mathlib.Core.List.{[], ◌∷◌, ◌++◌, map, append_assoc}
use Rattle.std.specs.Prelude.{Option, None, Some, option_map}
use Prim.Native.Nat.{ℕ, suc, ◌+◌, ◌*◌, ◌-◌, ◌^◌, ◌≤◌, ◌<◌}
use native.Mathlib.Omega.{arith}
use lib.Dec.{eqb, leb}
use lib.IntN.{ℤ, pos, negsuc}
use lib.ListN.{length, take, get_or, length-append}
use lib.Seq.{take_at}
use borrow.Author.Tests.{le-leb, leb-true, ne_eqb, eqb-false}
use Rattle.base_key.specs.Bytes.{Bytes, same_bytes, ◌and◌}
use Rattle.base_number.specs.Decimal.{digits, decimal}
use Rattle.base_number.specs.Number.{value_from}
use Rattle.base_number.proofs.RoundTrip.{reads, length_back}
use Rattle.resp_spec.specs.declared.Header.{Header}
use Rattle.resp_spec.specs.Utf8.{between, leads, decode_byte, utf8_from, is_utf8}
use Rattle.resp_spec.specs.Reply.{clean}
use Rattle.resp_spec.specs.Request.{most_line, line, line_of, line_at, feed_at, without_cr, limit_of, header_within, header_of}
use Rattle.resp_spec.proofs.Lines.{feed_later}
use Rattle.reply_item.specs.declared.Size.TheVariants.{Of}
use Rattle.reply_item.specs.Replies.{counted_size, reply_size}
use Rattle.std.specs.Prelude.{Ok}

-- LINES
-- a text without LF
pub data Free : Bytes → Type 0 where
  free_none : Free []
  free_more : {b : ℕ} {s : Bytes} → (b ≡ 10 → ⊥) → Free s → Free (b ∷ s)

pub free_append : {s t : Bytes} → Free s → Free t → Free (s ++ t)
free_append free_none g = g
free_append (free_more e f) g = free_more e (free_append f g)

feed_behind : {s : Bytes} (rest : Bytes) → Free s → feed_at (s ++ 10 ∷ rest) ≡ Some (length s)
unfolding feed_at
feed_behind rest free_none = refl
feed_behind rest (free_more {b} {s} e f) = feed_later b (s ++ 10 ∷ rest) e ∙ ap (option_map suc) (feed_behind rest f)

cr_dropped : (s : Bytes) → without_cr (s ++ 13 ∷ []) ≡ s
unfolding without_cr
cr_dropped [] = refl
cr_dropped (b ∷ []) = refl
cr_dropped (b ∷ c ∷ s) = ap (λ (l : Bytes). b ∷ l) (cr_dropped (c ∷ s))

-- a text and CR LF are a line
pub line_of_lem : (text rest : Bytes) → Free text → length text + 1 ≤ most_line → line_of (text ++ 13 ∷ 10 ∷ rest) ≡ line text (length text + 2)
unfolding line_of line_at
line_of_lem text rest f h =
    let parts : text ++ 13 ∷ 10 ∷ rest ≡ (text ++ 13 ∷ []) ++ 10 ∷ rest = sym (append_assoc text (13 ∷ []) (10 ∷ rest)) in
    let size : length (text ++ 13 ∷ []) ≡ length text + 1 = length-append text (13 ∷ []) in
    let feed : feed_at (text ++ 13 ∷ 10 ∷ rest) ≡ Some (length text + 1) = ap feed_at parts ∙ feed_behind rest (free_append f (free_more (λ e. omega arith) free_none)) ∙ ap {B = Option ℕ} Some size in
    let front : take (length text + 1) (text ++ 13 ∷ 10 ∷ rest) ≡ text ++ 13 ∷ [] = ap (take (length text + 1)) parts ∙ take_at (text ++ 13 ∷ []) (10 ∷ rest) (length text + 1) size in
    let used : suc (length text + 1) ≡ length text + 2 = omega arith in
    rw (feed, le-leb (length text + 1) most_line h, front, cr_dropped text, used) refl

-- TEXTS
clean_not : (b : ℕ) → clean b ≡ 10 → ⊥
clean_not b = go (eqb b 13) (eqb b 10) refl
  where
    go : (t u : Bool) → eqb b 10 ≡ u → cond (t || u) 32 b ≡ 10 → ⊥
    go true u e h = omega arith
    go false true e h = omega arith
    go false false e h = eqb-false b 10 e h

pub free_clean : (text : Bytes) → Free (map clean text)
free_clean [] = free_none
free_clean (b ∷ text) = free_more (clean_not b) (free_clean text)

-- DIGITS
pub data Digital : Bytes → Type 0 where
  digital_none : Digital []
  digital_more : {b : ℕ} {s : Bytes} → 48 ≤ b → b ≤ 57 → Digital s → Digital (b ∷ s)

digital_value : (text : Bytes) (v n : ℕ) → value_from v text ≡ Some n → Digital text
unfolding value_from
digital_value [] v n e = digital_none
digital_value (b ∷ text) v n e = go (leb 48 b) (leb b 57) refl refl (digital_value text (v * 10 + (b - 48)) n) e
  where
    go : (low high : Bool) → leb 48 b ≡ low → leb b 57 ≡ high → (value_from (v * 10 + (b - 48)) text ≡ Some n → Digital text) → cond (low && high) (value_from (v * 10 + (b - 48)) text) None ≡ Some n → Digital (b ∷ text)
    go true true l u again is = digital_more (leb-true 48 b l) (leb-true b 57 u) (again is)
    go true false l u again is = let z : ◌≡◌ {A = ℕ} 0 1 = cc in absurd (omega arith)
    go false high l u again is = let z : ◌≡◌ {A = ℕ} 0 1 = cc in absurd (omega arith)

pub digital_digits : (n : ℕ) → Digital (digits n)
digital_digits n = digital_value (digits n) 0 n (reads n).value

not_feed : (b : ℕ) → 48 ≤ b → b ≡ 10 → ⊥
not_feed b low e = omega arith

pub free_digital : {text : Bytes} → Digital text → Free text
free_digital digital_none = free_none
free_digital (digital_more {b} {s} low high d) = free_more (not_feed b low) (free_digital d)

pub free_decimal : (z : ℤ) → Free (decimal z)
unfolding decimal
free_decimal (pos n) = free_digital (digital_digits n)
free_decimal (negsuc n) = free_more (eqb-false 45 10 refl) (free_digital (digital_digits (suc n)))

utf8_digital : {text : Bytes} → Digital text → utf8_from between text ≡ true
unfolding utf8_from decode_byte leads
utf8_digital digital_none = refl
utf8_digital (digital_more {b} {s} low high d) = let small : b ≤ 127 = omega arith in rw (le-leb b 127 small) (utf8_digital d)

-- A LENGTH OR A COUNT
header_back : (kind : Header) (n : ℕ) → n ≤ limit_of kind → n < 2 ^ 64 → header_of kind 0 (digits n) ≡ Ok n
unfolding header_of header_within is_utf8
header_back kind n h small = rw (utf8_digital (digital_digits n), length_back n small, le-leb n (limit_of kind) h) refl

no_sign : (kind : Header) (b : ℕ) (t : Bytes) → 48 ≤ b → reply_size kind (b ∷ t) ≡ counted_size (header_of kind 0 (b ∷ t))
unfolding reply_size same_bytes ◌and◌
no_sign kind b t low = rw (ne_eqb b 45 (λ e. omega arith), ne_eqb b 43 (λ e. omega arith)) refl

pub size_back : (kind : Header) (n : ℕ) → n ≤ limit_of kind → n < 2 ^ 64 → reply_size kind (digits n) ≡ Of n
unfolding counted_size
size_back kind n h small = go (digits n) (reads n).some_byte (reads n).first ∙ ap counted_size (header_back kind n h small)
  where
    go : (text : Bytes) → 0 < length text → 48 ≤ get_or text 0 0 → reply_size kind text ≡ counted_size (header_of kind 0 text)
    go [] some_byte first = absurd (omega arith)
    go (b ∷ t) some_byte first = no_sign kind b t first
