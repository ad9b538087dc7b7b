use Rattle.resp_spec.proofs.Words.{words_begin, words_end, words_too_many, words_more}
use Rattle.resp_spec.proofs.inline.read_words.Goals as goal

pub loop-at-init : goal.loop-at-init
loop-at-init c = search words_begin

pub returns-then-room-n : goal.returns-then-room-n
returns-then-room-n c = search words_too_many

pub loop-at-preserved : goal.loop-at-preserved
loop-at-preserved c = search words_more

pub returns : goal.returns
returns c = search words_end
