-- What the steps of reading an argument answer: each code answer is turned into what the definitions of requests say.
use Rattle.std.specs.Prelude.{◌≡◌, Bool, true, false, [], ◌∷◌, ℕ, ◌+◌, ◌≤◌, ◌<◌, eqb, length, take, drop}
use Rattle.base_key.specs.Bytes.{Bytes, ◌and◌}
use Rattle.resp_spec.specs.Request.{line, line_of, Reading, waits, faulty, with_span, span, bulk_body, argument_line}
use Rattle.resp_spec.specs.Steps.{Next}
use Rattle.resp_bulk.specs.declared.Argument.{Argument}
use Rattle.resp_bulk.specs.declared.Argument.TheVariants.{Unread, Faulty, Part}
use Rattle.std.specs.Prelude.{Ok}

-- whether a text stands at the front of the bytes
unfoldable pub begins_with : Bytes → Bytes → Bool
begins_with s [] = true
begins_with [] (t ∷ text) = false
begins_with (b ∷ s) (t ∷ text) = eqb b t and begins_with s text

-- the reading of an answer: behind a part, which CR LF ends, the next is read
abbrev pub goes_on : Next → Bytes → Argument → Reading
goes_on next input Unread = waits
goes_on next input (Faulty f) = faulty f
goes_on next input (Part start len) = with_span (span start len) (next (start + len + 2) (drop (start + len + 2) input))

-- the part and its CR LF lie in the bytes
pub record PartIn (input : Bytes) (start len : ℕ) : Type 0 where
  pub inside : start + len + 2 ≤ length input

pub record ArgumentIs (reading : Next → Reading) (input : Bytes) (r : Argument) : Type 0 where
  pub same : (next : Next) → reading next ≡ goes_on next input r
  pub inside : (start len : ℕ) → r ≡ Part start len → PartIn input start len

-- the argument that stands at `at`, from its line, from the text and the size of that line, and from its own size
unfoldable pub argument_at : ℕ → Bytes → Next → Reading
argument_at at input next = argument_line next at (drop at input) (line_of (drop at input))

unfoldable pub argument_of_line : ℕ → ℕ → ℕ → Bytes → Next → Reading
argument_of_line at len used input next = argument_line next at (drop at input) (line (take len (drop at input)) used)

unfoldable pub argument_of_size : ℕ → ℕ → Bytes → Next → Reading
argument_of_size at n input next = bulk_body next at (drop at input) (Ok n)

-- a line that starts at `at`
pub record LineFrom (input : Bytes) (at len used : ℕ) : Type 0 where
  pub text : len < used
  pub inside : at + used ≤ length input
