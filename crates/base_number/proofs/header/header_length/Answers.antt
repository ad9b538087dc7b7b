-- `base_number::header::header_length` meets its contract. With `+` and without. Assumes nothing.
use Rattle.std.proofs.Common.{[], ◌∷◌, Some, None, ◌∙◌}
use Rattle.std.proofs.lemmas.Bool.Decides.{Decides-eqb}
use Rattle.std.proofs.lemmas.Slice.Eq.{strip_prefix_is}
use Rattle.base_number.proofs.Lengths.{header_plus, header_digits}
use Rattle.base_number.proofs.header.header_length.Goals as goal

pub returns-in-Some : goal.returns-in-Some
returns-in-Some c = c.digits_value.ensures ∙ header_plus (strip_prefix_is Decides-eqb c.args.text.now (43 ∷ []) (Some c.in-Some.digits) c.in-Some.ensures.cases)

pub returns-in-None : goal.returns-in-None
returns-in-None c = c.digits_value-in-None.ensures ∙ header_digits _ (strip_prefix_is Decides-eqb c.args.text.now (43 ∷ []) None c.in-None.ensures.cases)
