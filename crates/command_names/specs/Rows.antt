-- What the code's rows mean (`specs/Names.antt` of `command_spec`).
use Rattle.std.specs.Prelude.{ℕ, ◌≡◌, List, [], ◌∷◌, ◌++◌, map, get_or}
use Rattle.base_key.specs.Bytes.{Bytes}
use Rattle.command_names.specs.declared.Row.{Row as CodeRow}
use Rattle.command_names.specs.declared.Control.{Control as Said}
use Rattle.command_names.specs.declared.Control.TheVariants as said
use Rattle.command_spec.specs.Names.{Row, row, rows, row_of, unknown_row, Control, MULTI, EXEC, DISCARD, WATCH, UNWATCH, QUIT, other}

-- a row by its place; behind the last stands the row of an unknown name
unfoldable pub row_at : ℕ → Row
row_at k = get_or rows k unknown_row

-- a row
abbrev pub row_meant : CodeRow → Row
row_meant r = row r.text.now r.name r.least r.most r.pairs r.queueable

-- THE RULE of the code's table: its rows are those of `command_spec` and the one of an unknown name
pub record TableRight (table : List CodeRow) : Type 0 where
  pub meant : map row_meant table ≡ rows ++ unknown_row ∷ []

-- what a look-up of a word answers: its row
pub record Looked (word : Bytes) (r : CodeRow) : Type 0 where
  pub is : row_meant r ≡ row_of word

-- the code's answer in the words of `command_spec`
abbrev pub control_said : Said → Control
control_said said.Multi = MULTI
control_said said.Exec = EXEC
control_said said.Discard = DISCARD
control_said said.Watch = WATCH
control_said said.Unwatch = UNWATCH
control_said said.Quit = QUIT
control_said said.Other = other
