use Rattle.frames_lines.proofs.AnswerLaws.{hexing_none, hexing_more, hexing_whole, hex_too_long}
use Rattle.frames_lines.proofs.pieces.put_hex.Goals as goal

pub returns-then-out-reply : goal.returns-then-out-reply
returns-then-out-reply c = search hex_too_long

pub loop-i-init : goal.loop-i-init
loop-i-init c = search hexing_none

pub loop-i-preserved : goal.loop-i-preserved
loop-i-preserved c = search hexing_more

pub returns : goal.returns
returns c = search hexing_whole
