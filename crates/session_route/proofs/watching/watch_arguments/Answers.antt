-- `session_route::watching::watch_arguments` meets its contract. By what adding the keys gave, and by what was put. Assumes nothing.
use Rattle.session_route.proofs.Answering.{put_wrote, put_full}
use Rattle.session_route.proofs.WatchAnswers.{watch_refused, watch_full, watch_wrote}
use Rattle.session_route.proofs.watching.watch_arguments.Goals as goal

pub returns-in_default : goal.returns-in_default
returns-in_default c = watch_refused _ c.add_keys.new.self c.of-watch.ensures _ _ _ c.add_keys.ensures c.requires.out_value c.in_default.is

pub returns-in_err-answer : goal.returns-in_err-answer
returns-in_err-answer c =
    watch_full _ c.add_keys.new.self c.of-watch.ensures _ _ _ c.add_keys.ensures c.in-Some.is c.requires.out_value c.put_fixed-put.ensures (put_full _ _ _ c.in_err-answer.ensures c.from_residual.ensures.1)

pub returns : goal.returns
returns c = watch_wrote _ c.add_keys.new.self c.of-watch.ensures _ _ _ c.add_keys.ensures c.in-Some.is c.requires.out_value c.put_fixed-put.ensures (put_wrote _ c.in_ok-answer.ensures) c.keep.ensures
