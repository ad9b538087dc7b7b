-- `exec_queued::live::then_live` meets its contract. Assumes nothing.
use Rattle.exec_queued.proofs.LiveLaws.{live_replied}
use Rattle.exec_queued.proofs.live.then_live.Goals as goal

pub returns : goal.returns
returns c = search live_replied
