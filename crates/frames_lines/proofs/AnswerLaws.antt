-- The pieces of an output line: how each is written, and that they make the line. Assumes nothing.
use Prim.Native.Nat.{ℕ, ◌+◌, ◌*◌, ◌/◌, ◌%◌, ◌≤◌, ◌<◌}
use native.Mathlib.Numerals.{add-one}
use native.Mathlib.Omega.{arith}
use mathlib.Core.Path.{◌≡◌, refl, sym, ap, ap₂, ◌∙◌, subst}
use mathlib.Core.Bool.{Bool, true}
use mathlib.Core.List.{List, [], ◌∷◌, ◌++◌, map, append_assoc, append-nil}
use lib.ListN.{length, take, set, get_or, replicate}
use lib.Seq.{take-suc, take_all}
use Rattle.base_key.specs.Bytes.{Bytes, concat}
use Rattle.base_number.specs.Decimal.{digits}
use Rattle.base_writing.specs.Puts.{Puts, Adds}
use Rattle.base_writing.proofs.Puts.{Written, nothing, stored, full, done, same_length, then_puts, puts_nothing}
use Rattle.call_spec.specs.Frames.{hex_digit, hex, or_dash, shown, Frame}
use Rattle.frames_lines.specs.declared.pieces.Mark.{Mark}
use Rattle.frames_lines.specs.declared.pieces.Mark.TheVariants.{NoMark, Number, Dropped}
use Rattle.frames_lines.specs.Pieces.{head_text, number_text, mark_text, mark_or_dash, end_text, some?, pieces}
use Rattle.std.specs.Prelude.{Option, None, Some}

-- HEXADECIMAL of bytes
pub hex_append : (s t : Bytes) → hex (s ++ t) ≡ hex s ++ hex t
unfolding hex
hex_append [] t = refl
hex_append (b ∷ s) t = ap (λ (l : Bytes). hex_digit (b / 16) ∷ hex_digit (b % 16) ∷ l) (hex_append s t)

pub hex_length : (s : Bytes) → length (hex s) ≡ length s * 2
unfolding hex
hex_length [] = refl
hex_length (b ∷ s) = omega (arith, hex_length s)

hex_more : (s : Bytes) (i : ℕ) → i < length s → hex (take (i + 1) s) ≡ (hex (take i s) ++ hex_digit (get_or s i 0 / 16) ∷ []) ++ hex_digit (get_or s i 0 % 16) ∷ []
unfolding hex
hex_more s i h =
    ap (λ (k : ℕ). hex (take k s)) (add-one i) ∙ ap hex (take-suc s i 0 h) ∙ hex_append (take i s) (get_or s i 0 ∷ [])
    ∙ sym (append_assoc (hex (take i s)) (hex_digit (get_or s i 0 / 16) ∷ []) (hex_digit (get_or s i 0 % 16) ∷ []))

-- THE LOOP: the first i bytes of a reply are written.
pub record Hexing (reply entry : Bytes) (i : ℕ) (out : Bytes) : Type 0 where
  pub within : i ≤ length reply
  pub room : length reply * 2 ≤ length entry
  pub size : length out ≡ length entry
  pub written : Written (hex (take i reply)) entry (i * 2) out

pub hexing_none : (reply entry : Bytes) → length reply ≤ length entry / 2 → Hexing reply entry 0 entry
unfolding hex
hexing_none reply entry h = record { within = omega arith; room = omega arith; size = refl; written = nothing entry }

pub hexing_more : {reply entry out : Bytes} {i h l : ℕ} → Hexing reply entry i out → i < length reply → h ≡ hex_digit (get_or reply i 0 / 16) → l ≡ hex_digit (get_or reply i 0 % 16) → Hexing reply entry (i + 1) (set (set out (i * 2) h) (i * 2 + 1) l)
hexing_more {reply} {entry} {out} {i} {h} {l} x below eh el =
    let first = stored x.written (omega (arith, x.room)) h refl in
    let longer : hex (take (i + 1) reply) ≡ (hex (take i reply) ++ h ∷ []) ++ l ∷ [] = hex_more reply i below ∙ rw (eh, el) refl in
    let second = stored first (omega (arith, x.room)) l longer in
    let count : i * 2 + 1 + 1 ≡ (i + 1) * 2 = omega arith in
    record {
      within = omega arith;
      room = x.room;
      size = same_length second;
      written = rw count at second;
    }

pub hexing_whole : {reply entry out : Bytes} {i : ℕ} → Hexing reply entry i out → length reply ≤ i → Puts (hex reply) entry (Some (length reply * 2)) out
hexing_whole {reply} {entry} {out} {i} x all =
    let e : i ≡ length reply = omega (arith, x.within) in
    subst (λ (n : ℕ). Puts (hex reply) entry (Some (n * 2)) out) e (done x.written (ap hex (sym (take_all i reply all))))

pub hex_too_long : (reply : Bytes) {entry exit : Bytes} → length entry / 2 < length reply → exit ≡ replicate (length entry) 0 → Puts (hex reply) entry None exit
hex_too_long reply {entry} long e = full (omega (arith, hex_length reply)) e

-- THE SMALL PIECES
pub session_text : (i : ℕ) {start a b exit : Bytes} {p q r : Option ℕ} → Puts ((48 + i / 10) ∷ []) start p a → Adds ((48 + i % 10) ∷ []) p a q b → Adds (32 ∷ []) q b r exit → Puts (head_text i) start r exit
unfolding head_text
session_text i p a b = then_puts (then_puts p a) b

pub number_text_lem : (n : ℕ) {start a exit : Bytes} {p q : Option ℕ} → Puts (33 ∷ []) start p a → Adds (digits n) p a q exit → Puts (number_text n) start q exit
unfolding number_text
number_text_lem n p a = then_puts p a

pub no_mark_text : {replied : Bool} {m : Mark} {start : Bytes} → replied ≡ true → m ≡ NoMark → Puts (mark_or_dash replied m) start (Some 0) start
unfolding mark_or_dash
no_mark_text {start = start} t e = rw (t, e) (puts_nothing start)

pub end_text_lem : (replied : Bool) (m : Mark) {start a exit : Bytes} {p q : Option ℕ} → Puts (mark_or_dash replied m) start p a → Adds (10 ∷ []) p a q exit → Puts (end_text replied m) start q exit
unfolding end_text
end_text_lem replied m p a = then_puts p a

-- THE LINE. The pieces in their order are the line that `shown` says, and its end.
hex_concat : (replies : List Bytes) → concat (map hex replies) ≡ hex (concat replies)
unfolding concat hex
hex_concat [] = refl
hex_concat (r ∷ rs) = ap (λ (l : Bytes). hex r ++ l) (hex_concat rs) ∙ sym (hex_append r (concat rs))

concat_append : (a b : List Bytes) → concat (a ++ b) ≡ concat a ++ concat b
unfolding concat
concat_append [] b = refl
concat_append (x ∷ a) b = ap (λ (l : Bytes). x ++ l) (concat_append a b) ∙ sym (append_assoc x (concat a) (concat b))

concat_one : (s : Bytes) → concat (s ∷ []) ≡ s
unfolding concat
concat_one s = append-nil s

concat_front : (x : Bytes) (l : List Bytes) → concat (x ∷ l) ≡ x ++ concat l
unfolding concat
concat_front x l = refl

pub dash_is : (s : Bytes) (m : Mark) → hex s ++ mark_or_dash (some? s) m ≡ or_dash (hex s ++ mark_text m)
unfolding hex mark_or_dash mark_text number_text
dash_is [] NoMark = refl
dash_is [] (Number n) = refl
dash_is [] Dropped = refl
dash_is (b ∷ s) NoMark = refl
dash_is (b ∷ s) (Number n) = refl
dash_is (b ∷ s) Dropped = refl

pub pieces_shown : (i : ℕ) (replies : List Bytes) (m : Mark) (f : Frame) → f.replies ≡ concat replies → f.mark ≡ mark_text m → concat (pieces i replies m) ≡ shown i f ++ 10 ∷ []
unfolding pieces head_text end_text shown
pieces_shown i replies m f er em =
    let s = concat replies in
    let line : concat (map hex replies ++ end_text (some? s) m ∷ []) ≡ hex s ++ (mark_or_dash (some? s) m ++ 10 ∷ []) = concat_append (map hex replies) (end_text (some? s) m ∷ []) ∙ ap₂ ◌++◌ (hex_concat replies) (concat_one (end_text (some? s) m)) in
    let whole : hex s ++ (mark_or_dash (some? s) m ++ 10 ∷ []) ≡ or_dash (hex s ++ mark_text m) ++ 10 ∷ [] = sym (append_assoc (hex s) (mark_or_dash (some? s) m) (10 ∷ [])) ∙ ap (λ (l : Bytes). l ++ 10 ∷ []) (dash_is s m) in
    rw (er, em) (concat_front (head_text i) (map hex replies ++ end_text (some? s) m ∷ []) ∙ ap (λ (l : Bytes). head_text i ++ l) (line ∙ whole))
