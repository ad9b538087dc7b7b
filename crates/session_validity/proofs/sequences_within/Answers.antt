-- `session_validity::sequences_within` meets its contract. Assumes nothing.
use borrow.Author.Tests.{tests}
use mathlib.Core.Path.{◌≡◌, ap, ◌∙◌}
use Prim.Native.Nat.{ℕ, ◌+◌, ◌-◌}
use native.Mathlib.Omega.{arith}
use lib.Dec.{leb}
use Rattle.std.proofs.Common.{rules}
use Rattle.std.proofs.lemmas.Iterator.{YieldsList-from_slice}
use Rattle.std.proofs.lemmas.Iterator.Search.{all_from_yields_List}
use Rattle.base_key.specs.Bytes.{part}
use Rattle.session_validity.proofs.Validity.{none_above_is}
use Rattle.session_validity.proofs.sequences_within.Goals as goal

pub returns : goal.returns
returns c =
    let e : 36 + c.args.count - 36 ≡ c.args.count = omega arith in
    all_from_yields_List (λ n. leb n c.args.last) _ _ _ c.all.ensures.ran (YieldsList-from_slice _ (c.iter.ensures.rest ∙ ap (λ (n : ℕ). part 36 n c.args.words.now) e)) (λ x b q k. search (rules, tests)) ∙ none_above_is c.args.last _
