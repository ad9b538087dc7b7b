-- `frames::line_end` meets its contract. Assumes nothing.
use borrow.Author.Tests.{tests}
use mathlib.Core.Path.{ap, ◌∙◌}
use Prim.Native.Nat.{ℕ, ◌+◌}
use lib.Dec.{eqb}
use Rattle.std.proofs.Common.{rules}
use Rattle.std.proofs.lemmas.Iterator.{YieldsList-from_slice}
use Rattle.std.proofs.lemmas.Iterator.Search.{position_from_yields_List}
use Rattle.frames.proofs.InputLaws.{line_found}
use Rattle.frames.proofs.line_end.Goals as goal

pub returns-clause-value : goal.returns-clause-value
returns-clause-value c =
    ap (λ (n : ℕ). c.args.from + n) (c.unwrap_or.ensures
    ∙ line_found c.args.part.now c.args.from c.args.got c.requires.from_le_got c.requires.got_in_bounds
    (position_from_yields_List (λ b. eqb b 10) _ _ _ c.position-length.ensures.ran (YieldsList-from_slice _ c.iter.ensures.rest) (λ x b q k. search (rules, tests))))
