use lib.ListN.{length}
use borrow.Author.Tests.{ne_eqb}
use mathlib.Core.Path.{◌∙◌}
use Rattle.command_names.proofs.Lookup.{other_length, by_places}
use Rattle.command_names.proofs.same.Goals as goal

pub returns-then-word-text : goal.returns-then-word-text
returns-then-word-text c = c.alike.ensures ∙ by_places c.args.word.now c.args.text.now c.if-word-text.true

pub returns-else-word-text : goal.returns-else-word-text
returns-else-word-text c = rw (ne_eqb (length c.args.word.now) (length c.args.text.now) c.if-word-text.false) (search other_length)
