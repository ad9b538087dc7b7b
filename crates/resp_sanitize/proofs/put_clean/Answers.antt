use Rattle.resp_sanitize.proofs.Letters.{copied_more, copied_all, copied_too_long}
use Rattle.resp_sanitize.proofs.put_clean.Goals as goal

pub returns-then-out-text : goal.returns-then-out-text
returns-then-out-text c = search copied_too_long

pub loop-i-preserved : goal.loop-i-preserved
loop-i-preserved c = search copied_more

pub returns : goal.returns
returns c = search copied_all
