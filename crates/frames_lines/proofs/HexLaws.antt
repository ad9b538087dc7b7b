-- Hexadecimal, digit by digit and byte by byte. Assumes nothing.
use Prim.Native.Nat.{ℕ, suc, ◌+◌, ◌*◌, ◌/◌, ◌≤◌, ◌<◌}
use native.Mathlib.Numerals.{add-one}
use native.Mathlib.Omega.{arith}
use mathlib.Core.Path.{◌≡◌, refl, sym, ap, ◌∙◌}
use mathlib.Core.List.{[], ◌∷◌, ◌++◌, append_assoc, append-nil}
use Rattle.std.specs.Prelude.{Option, None, Some}
use lib.ListN.{length, take, drop, set, get_or, drop_of_length-le}
use lib.Seq.{drop-cons, take_at}
use Rattle.base_key.specs.Bytes.{Bytes}
use Rattle.base_writing.proofs.Puts.{Written, stored, same_length}
use Rattle.call_spec.specs.Frames.{hex_value, join_hex, unhex}
use Rattle.frames_lines.specs.Line.{pair_of, Decodes}

-- A TEXT. Bytes in front of those that the rest of a text gives
abbrev prefixed : Bytes → Option Bytes → Option Bytes
prefixed s None = None
prefixed s (Some t) = Some (s ++ t)

prefixed_nil : (o : Option Bytes) → o ≡ prefixed [] o
prefixed_nil None = refl
prefixed_nil (Some t) = refl

prefixed_more : (s : Bytes) (b : ℕ) (o : Option Bytes) → prefixed s (prefixed (b ∷ []) o) ≡ prefixed (s ++ b ∷ []) o
prefixed_more s b None = refl
prefixed_more s b (Some t) = ap Some (sym (append_assoc s (b ∷ []) t))

join_byte : (o p : Option ℕ) (r : Option Bytes) {b : ℕ} → pair_of o p ≡ Some b → join_hex o p r ≡ prefixed (b ∷ []) r
unfolding pair_of join_hex
join_byte None p r e = let z : ◌≡◌ {A = ℕ} 0 1 = cc in absurd (omega arith)
join_byte (Some h) None r e = let z : ◌≡◌ {A = ℕ} 0 1 = cc in absurd (omega arith)
join_byte (Some h) (Some l) None e = refl
join_byte (Some h) (Some l) (Some s) {b} e = let k : h * 16 + l ≡ b = cc in ap (λ (x : ℕ). Some (x ∷ s)) k

join_none : (o p : Option ℕ) (r : Option Bytes) → pair_of o p ≡ None → join_hex o p r ≡ None
unfolding pair_of join_hex
join_none None p r e = refl
join_none (Some h) None r e = refl
join_none (Some h) (Some l) r e = let z : ◌≡◌ {A = ℕ} 0 1 = cc in absurd (omega arith)

-- two digits more
two_digits : (text : Bytes) (n : ℕ) → n * 2 + 1 < length text
    → unhex (drop (n * 2) text) ≡ join_hex (hex_value (get_or text (n * 2) 0)) (hex_value (get_or text (n * 2 + 1) 0)) (unhex (drop ((n + 1) * 2) text))
unfolding unhex
two_digits text n h =
    let first : drop (n * 2) text ≡ get_or text (n * 2) 0 ∷ drop (n * 2 + 1) text = drop-cons text (n * 2) 0 (omega arith) ∙ rw (add-one (n * 2)) refl in
    let second : drop (n * 2 + 1) text ≡ get_or text (n * 2 + 1) 0 ∷ drop (n * 2 + 1 + 1) text = drop-cons text (n * 2 + 1) 0 h ∙ rw (add-one (n * 2 + 1)) refl in
    let next : n * 2 + 1 + 1 ≡ (n + 1) * 2 = omega arith in
    ap unhex (first ∙ ap (λ (l : Bytes). get_or text (n * 2) 0 ∷ l) (second ∙ ap (λ (k : ℕ). get_or text (n * 2 + 1) 0 ∷ drop k text) next))

-- THE LOOP: the first n of `count` bytes are decoded.
pub record Decoding (text entry : Bytes) (count n : ℕ) (out : Bytes) : Type 0 where
  pub even : length text ≤ count * 2
  pub within : count * 2 ≤ length text
  pub room : length text ≤ 2 * length entry
  pub size : length out ≡ length entry
  pub front : Bytes
  pub is : unhex text ≡ prefixed front (unhex (drop (n * 2) text))
  pub written : Written front entry n out

module _ {text entry out : Bytes} {count n : ℕ} (d : Decoding text entry count n out) where
  pub decoding_more : {p : Option ℕ} {b : ℕ} → n < count → p ≡ pair_of (hex_value (get_or text (n * 2) 0)) (hex_value (get_or text (n * 2 + 1) 0)) → p ≡ Some b → Decoding text entry count (n + 1) (set out n b)
  decoding_more {p} {b} below is told =
      let more = unhex (drop ((n + 1) * 2) text) in
      let w = stored d.written (omega (arith, d.even, d.within, d.room)) b refl in
      record {
        even = d.even;
        within = d.within;
        room = d.room;
        size = same_length w;
        front = d.front ++ b ∷ [];
        is =
            d.is
            ∙ ap (prefixed d.front) (two_digits text n (omega (arith, d.within)) ∙ join_byte (hex_value (get_or text (n * 2) 0)) (hex_value (get_or text (n * 2 + 1) 0)) more (sym is ∙ told))
            ∙ prefixed_more d.front b more;
        written = w;
      }

  decoding_bad : {p : Option ℕ} → n < count → p ≡ pair_of (hex_value (get_or text (n * 2) 0)) (hex_value (get_or text (n * 2 + 1) 0)) → p ≡ None → unhex text ≡ None
  decoding_bad below is told =
      d.is
      ∙ ap (prefixed d.front) (two_digits text n (omega (arith, d.within)) ∙ join_none (hex_value (get_or text (n * 2) 0)) (hex_value (get_or text (n * 2 + 1) 0)) (unhex (drop ((n + 1) * 2) text)) (sym is ∙ told))

  decoding_whole : count ≤ n → unhex text ≡ Some d.front
  unfolding unhex
  decoding_whole all = d.is ∙ ap (λ (l : Bytes). prefixed d.front (unhex l)) (drop_of_length-le text {i = n * 2} (omega (arith, d.even))) ∙ ap Some (append-nil d.front)

  pub decodes_bad : {p : Option ℕ} → n < count → p ≡ pair_of (hex_value (get_or text (n * 2) 0)) (hex_value (get_or text (n * 2 + 1) 0)) → p ≡ None → Decodes text entry None out
  decodes_bad below is told = let e = decoding_bad below is told in record { answer = rw e; front = rw e; size = d.size }

  pub decodes_whole : n ≤ count → count ≤ n → Decodes text entry (Some count) out
  decodes_whole most all =
      let e = decoding_whole all in
      let w = d.written in
      record {
        answer = rw e (ap Some (omega arith ∙ w.count));
        front = rw e (ap (take (length d.front)) w.buffer ∙ take_at d.front (drop n entry) (length d.front) refl);
        size = d.size;
      }

-- the digits of bytes are twice as many
joined_length : (o p : Option ℕ) (r : Option Bytes) {t : Bytes} → join_hex o p r ≡ Some t → (n : ℕ) → ((u : Bytes) → r ≡ Some u → n ≡ length u * 2) → suc (suc n) ≡ length t * 2
unfolding join_hex
joined_length None p r e n k = let z : ◌≡◌ {A = ℕ} 0 1 = cc in absurd (omega arith)
joined_length (Some h) None r e n k = let z : ◌≡◌ {A = ℕ} 0 1 = cc in absurd (omega arith)
joined_length (Some h) (Some l) None e n k = let z : ◌≡◌ {A = ℕ} 0 1 = cc in absurd (omega arith)
joined_length (Some h) (Some l) (Some s) {t} e n k = let f : (h * 16 + l) ∷ s ≡ t = cc in omega (arith, k s refl, ap length f)

pub unhex_length : (s : Bytes) {t : Bytes} → unhex s ≡ Some t → length s ≡ length t * 2
unfolding unhex
unhex_length [] {t} e = let f : [] ≡ t = cc in omega (arith, ap length f)
unhex_length (h ∷ []) e = let z : ◌≡◌ {A = ℕ} 0 1 = cc in absurd (omega arith)
unhex_length (h ∷ l ∷ s) e = joined_length (hex_value h) (hex_value l) (unhex s) e (length s) (λ u f. unhex_length s f)

-- an odd count of digits
unhex_odd : (s : Bytes) (k : ℕ) → k * 2 < length s → length s < k * 2 + 2 → unhex s ≡ None
unhex_odd s k h h2 = go (unhex s) refl
  where
    go : (o : Option Bytes) → unhex s ≡ o → o ≡ None
    go None e = refl
    go (Some t) e = absurd (omega (arith, unhex_length s e))

pub decodes_odd : (text entry : Bytes) → length text / 2 * 2 < length text → Decodes text entry None entry
decodes_odd text entry h = let e = unhex_odd text (length text / 2) h (omega arith) in record { answer = rw e; front = rw e; size = refl }
