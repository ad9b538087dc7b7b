-- `session_validity::counts_positive` meets its contract. Assumes nothing.
use borrow.Author.Tests.{tests}
use mathlib.Core.Path.{◌≡◌, ap, ◌∙◌}
use Prim.Native.Nat.{ℕ, ◌+◌, ◌-◌}
use native.Mathlib.Omega.{arith}
use mathlib.Core.Bool.{not}
use lib.Dec.{eqb}
use Rattle.std.proofs.Common.{rules}
use Rattle.std.proofs.lemmas.Iterator.{YieldsList-from_slice}
use Rattle.std.proofs.lemmas.Iterator.Search.{all_from_yields_List}
use Rattle.base_key.specs.Bytes.{part}
use Rattle.session_validity.proofs.Validity.{all_positive_is}
use Rattle.session_validity.proofs.counts_positive.Goals as goal

pub returns : goal.returns
returns c =
    let e : 68 + c.args.count - 68 ≡ c.args.count = omega arith in
    all_from_yields_List (λ n. not (eqb n 0)) _ _ _ c.all.ensures.ran (YieldsList-from_slice _ (c.iter.ensures.rest ∙ ap (λ (n : ℕ). part 68 n c.args.words.now) e)) (λ x b q k. search (rules, tests)) ∙ all_positive_is _
