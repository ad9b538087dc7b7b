-- `base_number::integer::int_arg` meets its contract. Assumes nothing.
use Rattle.std.proofs.Common.{[], ◌∷◌, Some, None, sym, ◌∙◌}
use Rattle.std.proofs.lemmas.Bool.Decides.{Decides-eqb}
use Rattle.std.proofs.lemmas.Slice.Eq.{strip_prefix_is}
use Rattle.std.specs.Cmp.Lexicographic.{same_text, other_text}
use Rattle.base_number.proofs.Integers.{size_positive, with_minus, zero_read, no_sign}
use Rattle.base_number.proofs.integer.int_arg.Goals as goal

pub number_from-requires : goal.number_from-requires
number_from-requires c = search size_positive

pub returns-in-Some : goal.returns-in-Some
returns-in-Some c = with_minus (strip_prefix_is Decides-eqb c.args.text.now (45 ∷ []) (Some c.in-Some.digits) c.in-Some.ensures.cases) c.from_one.ensures c.number_from.ensures

pub returns-then-eq : goal.returns-then-eq
returns-then-eq c = zero_read (same_text _ _ c.if-eq.ensures ∙ c.as_slice.ensures)

pub number_from-requires-2 : goal.number_from-requires-2
number_from-requires-2 c = search size_positive

pub returns : goal.returns
returns c =
    no_sign c.args.text.now (strip_prefix_is Decides-eqb c.args.text.now (45 ∷ []) None c.in_default.ensures.cases)
    (λ e. other_text _ _ c.if-eq.ensures (e ∙ sym c.as_slice.ensures)) c.from_one-2.ensures c.number_from-2.ensures
