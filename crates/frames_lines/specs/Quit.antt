-- Whether a word names QUIT, and what the answer to a request tells of it.
use Rattle.std.specs.Prelude.{ℕ, ◌<◌, Bool, true, false, List, ◌≡◌, length, get_or}
use Rattle.base_key.specs.Bytes.{Bytes}
use Rattle.resp_spec.specs.declared.Span.{Span}
use Rattle.resp_spec.specs.Request.{Reading, read_request, span, spanned}
use Rattle.command_spec.specs.Numbers.{AnswerNumbers}
use Rattle.call_spec.specs.Frames.{closes}
use Rattle.command_names.specs.declared.Control.{Control as Said}
use Rattle.command_spec.specs.Names.{row_of, Control, MULTI, EXEC, DISCARD, WATCH, UNWATCH, QUIT, other, control_of}
use Rattle.command_names.specs.Rows.{control_said}

abbrev pub is_quit : Control → Bool
is_quit MULTI = false
is_quit EXEC = false
is_quit DISCARD = false
is_quit WATCH = false
is_quit UNWATCH = false
is_quit QUIT = true
is_quit other = false

-- of the code's answer
abbrev pub quits_said : Said → Bool
quits_said r = is_quit (control_said r)

-- of a word
unfoldable pub quits : Bytes → Bool
quits w = is_quit (control_of (row_of w).name)

-- the place of the first argument, in front of the argument table
abbrev pub first_span : List ℕ → Span
first_span table = span (get_or table 0 0) (get_or table 1 0)

-- whether a request drops the rest, where it leaves bytes: not one without reply; else it is QUIT by its first argument
pub record Drops (s : Bytes) (x : Reading) (used reply : ℕ) (table : List ℕ) : Type 0 where
  pub unanswered : used < length s → reply ≡ 0 → closes s x ≡ false
  pub named : used < length s → (reply ≡ 0 → ⊥) → quits (spanned s (first_span table)) ≡ closes s x

-- the same of an answer that used bytes
pub record Told (s : Bytes) (a : AnswerNumbers) (table : List ℕ) : Type 0 where
  pub drops : a.number ≡ 0 → (a.used ≡ 0 → ⊥) → Drops s (read_request 1024 s) a.used a.reply table
