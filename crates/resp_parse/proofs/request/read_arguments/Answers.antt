use Rattle.resp_parse.proofs.Requests.{passed_none, passed_unread, passed_faulty, passed_more, passed_all}
use Rattle.resp_parse.proofs.request.read_arguments.Goals as goal

pub loop-i-init : goal.loop-i-init
loop-i-init c = search passed_none

pub returns-in-Unread : goal.returns-in-Unread
returns-in-Unread c = search passed_unread

pub returns-in-Faulty : goal.returns-in-Faulty
returns-in-Faulty c = search passed_faulty

pub loop-i-preserved : goal.loop-i-preserved
loop-i-preserved c = search passed_more

pub returns : goal.returns
returns c = search passed_all
