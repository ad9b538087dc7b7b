use Rattle.std.proofs.Common.{arith}
use Rattle.resp_utf8.proofs.Pieces.{piece_cut, piece_low, piece_high, piece_whole, piece_goes_on}
use Rattle.resp_utf8.proofs.piece_of_several.Goals as goal
use Rattle.resp_utf8.proofs.piece_of_several.Goals.{then-text-n-via-then-text-n, then-text-n-via-else-text-n+then-high-text}

pub returns-then-text-n : goal.returns-then-text-n
returns-then-text-n c =
    elim c.then-text-n.branch [
      | then-text-n-via-then-text-n w ↦ piece_low c.loop-n.invariant c.loop-n-test.true w.if-text-n.true
      | then-text-n-via-else-text-n+then-high-text w ↦ piece_high c.loop-n.invariant c.loop-n-test.true w.if-text-n.false w.if-high-text.true
    ]

pub returns-then-left-eq0 : goal.returns-then-left-eq0
returns-then-left-eq0 c = search piece_whole

pub loop-n-preserved : goal.loop-n-preserved
loop-n-preserved c = search piece_goes_on

pub returns : goal.returns
returns c = search (arith, piece_cut)
