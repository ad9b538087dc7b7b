use Rattle.session_validity.proofs.SessionTests.{short_words, short_bytes, checked_none, checked_more, session_wrong, checked_all}
use Rattle.session_validity.proofs.sessions_ok.Goals as goal

pub returns-then-words : goal.returns-then-words
returns-then-words c = search short_words

pub returns-then-bytes : goal.returns-then-bytes
returns-then-bytes c = search short_bytes

pub loop-i-init : goal.loop-i-init
loop-i-init c = search checked_none

pub loop-i-preserved : goal.loop-i-preserved
loop-i-preserved c = search checked_more

pub returns-then-not-session_ok : goal.returns-then-not-session_ok
returns-then-not-session_ok c = search session_wrong

pub returns : goal.returns
returns c = search checked_all
