-- `session_validity::queue_fits` meets its contract. One law for each way out. Assumes nothing.
use Rattle.session_validity.proofs.SessionTests.{many_queued, many_arguments, long_arguments, sizes_test}
use Rattle.session_validity.proofs.queue_fits.Goals as goal

pub returns-then-queued-gt-MOST_QUEUED : goal.returns-then-queued-gt-MOST_QUEUED
returns-then-queued-gt-MOST_QUEUED c = search many_queued

pub returns-then-arguments-gt-MOST_ARGUMENTS : goal.returns-then-arguments-gt-MOST_ARGUMENTS
returns-then-arguments-gt-MOST_ARGUMENTS c = search many_arguments

pub returns-then-sum_within-gt-MOST_ARGUMENT_BYTES : goal.returns-then-sum_within-gt-MOST_ARGUMENT_BYTES
returns-then-sum_within-gt-MOST_ARGUMENT_BYTES c = search long_arguments

pub returns : goal.returns
returns c = search sizes_test
