use Rattle.frames_lines.proofs.HexLaws.{decoding_more, decodes_odd, decodes_bad, decodes_whole}
use Rattle.frames_lines.proofs.line.decode.Goals as goal

pub returns-then-count-text : goal.returns-then-count-text
returns-then-count-text c = search decodes_odd

pub loop-n-preserved : goal.loop-n-preserved
loop-n-preserved c = search (decoding_more, c.in_ok-out.was)

pub returns-in_err-out : goal.returns-in_err-out
returns-in_err-out c = rw c.from_residual.ensures (search (decodes_bad, c.in_err-out.was))

pub returns : goal.returns
returns c = search decodes_whole
