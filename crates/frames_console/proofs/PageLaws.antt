-- Texts put behind the bytes of a page that are in use. Assumes nothing.
use Prim.Native.Nat.{ℕ, ◌+◌, ◌-◌, ◌^◌, ◌≤◌, ◌<◌}
use native.Mathlib.Omega.{arith}
use mathlib.Core.Path.{◌≡◌, refl, sym, ap, ◌∙◌}
use mathlib.Core.Bool.{Bool, true, false}
use mathlib.Core.List.{[], ◌∷◌, ◌++◌, append_assoc}
use lib.ListN.{length, take, drop, length-append, length-drop}
use lib.Seq.{take_at, length-take-le}
use borrow.Rule.Slice.PartMut.{same_len_mid}
use Rattle.base_key.specs.Bytes.{Bytes}
use Rattle.base_number.specs.Decimal.{digits}
use Rattle.base_number.proofs.Decimals.{digits_few}
use Rattle.base_writing.specs.Puts.{Puts}
use Rattle.base_writing.proofs.Lent.{rest, with_rest, rest_is, with_rest_is}
use Rattle.base_writing.proofs.Puts.{was_wrote, was_full, length_kept}
use Rattle.call_spec.specs.Frames.{hex}
use Rattle.frames_lines.specs.declared.pieces.Mark.{Mark}
use Rattle.frames_lines.specs.declared.pieces.Mark.TheVariants.{NoMark, Number, Dropped}
use Rattle.frames_lines.specs.Pieces.{MarkFits, head_text, number_text, mark_or_dash, end_text, malformed_text}
use Rattle.frames_console.specs.Page.{Added, ReplyFits, Free}
use Rattle.frames_lines.proofs.AnswerLaws.{hex_length}
use Rattle.std.specs.Prelude.{Option, None, Some}
use Rattle.std.specs.Option.{unwrap_or}

module _ {text last : Bytes} (page : Bytes) (filled : ℕ) {put : Option ℕ} (p : Puts text (rest filled page) put last) where
  rest_length : length (rest filled page) ≡ length page - filled
  rest_length = ap length (rest_is filled page) ∙ length-drop filled page

  added : {n : ℕ} → filled ≤ length page → put ≡ Some n → Added text filled page (filled + n) (with_rest filled page last)
  added {n} h e =
      let w = was_wrote p e in
      let size = length-take-le filled page h in
      let whole : with_rest filled page last ≡ (take filled page ++ text) ++ drop n (rest filled page) = with_rest_is filled page last ∙ ap (λ (l : Bytes). take filled page ++ l) w.buffer ∙ sym (append_assoc (take filled page) text (drop n (rest filled page))) in
      record {
        front = ap (take (filled + n)) whole ∙ take_at (take filled page ++ text) (drop n (rest filled page)) (filled + n) (length-append (take filled page) text ∙ omega (arith, size, w.count));
        count = omega (arith, w.count);
        within = omega (arith, w.fits, rest_length);
        size = same_len_mid filled (length page - filled) page last (length_kept p);
      }

  fitting_added : filled + length text ≤ length page → Added text filled page (filled + unwrap_or put 0) (with_rest filled page last)
  fitting_added h = go put refl
    where
      go : (q : Option ℕ) → put ≡ q → Added text filled page (filled + unwrap_or q 0) (with_rest filled page last)
      go (Some n) e = added (omega arith) e
      go None e = absurd (omega (arith, (was_full p e).long, rest_length))

-- A REPLY
pub reply_added : {page last reply : Bytes} {count filled : ℕ} {put : Option ℕ} → ReplyFits count reply filled page → Puts (hex (take count reply)) (rest filled page) put last → Added (hex (take count reply)) filled page (filled + unwrap_or put 0) (with_rest filled page last)
reply_added {page} {reply = reply} {count} {filled} f p = fitting_added page filled p (omega (arith, f.room, hex_length (take count reply), length-take-le count reply f.there))

-- SHORT TEXTS: at most 32 bytes
pub short_added : {text page last : Bytes} {filled : ℕ} {put : Option ℕ} → Free 32 filled page → Puts text (rest filled page) put last → length text ≤ 32 → Added text filled page (filled + unwrap_or put 0) (with_rest filled page last)
short_added {page = page} {filled = filled} room p short = fitting_added page filled p (omega (arith, room.room))

pub head_short : (i : ℕ) → length (head_text i) ≤ 32
unfolding head_text
head_short i = omega arith

pub malformed_short : length malformed_text ≤ 32
unfolding malformed_text
malformed_short = omega arith

number_short : (n : ℕ) → n < 2 ^ 64 → length (number_text n) ≤ 31
unfolding number_text
number_short n h = omega (arith, length-append (33 ∷ []) (digits n), digits_few 19 n (omega arith))

mark_short : (replied : Bool) (m : Mark) → MarkFits m → length (mark_or_dash replied m) ≤ 31
unfolding mark_or_dash MarkFits
mark_short true NoMark h = omega arith
mark_short false NoMark h = omega arith
mark_short true (Number n) h = number_short n h
mark_short false (Number n) h = number_short n h
mark_short true Dropped h = omega arith
mark_short false Dropped h = omega arith

pub end_short : (replied : Bool) (m : Mark) → MarkFits m → length (end_text replied m) ≤ 32
unfolding end_text
end_short replied m h = omega (arith, length-append (mark_or_dash replied m) (10 ∷ []), mark_short replied m h)
