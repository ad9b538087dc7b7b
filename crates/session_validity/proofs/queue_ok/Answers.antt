-- `session_validity::queue_ok` meets its contract. One law for each way out. Assumes nothing.
use Rattle.session_validity.proofs.SessionTests.{sizes_wrong, queue_in_lem, name_wrong, outside, inside}
use Rattle.session_validity.proofs.queue_ok.Goals as goal

pub returns-then-not-queue_fits : goal.returns-then-not-queue_fits
returns-then-not-queue_fits c = search sizes_wrong

pub commands_queueable-requires : goal.commands_queueable-requires
commands_queueable-requires c = search queue_in_lem

pub returns-then-words-ne0 : goal.returns-then-words-ne0
returns-then-words-ne0 c = search inside

pub returns-else-words-ne0 : goal.returns-else-words-ne0
returns-else-words-ne0 c = search outside

pub returns-else-commands_queueable : goal.returns-else-commands_queueable
returns-else-commands_queueable c = search name_wrong
