-- `session_validity::watch_ok` meets its contract. One law for each way out. Assumes nothing.
use Rattle.session_validity.proofs.SessionTests.{many_watched, long_keys, keys_in_lem, not_ascending, sequences_test}
use Rattle.session_validity.proofs.watch_ok.Goals as goal

pub returns-then-watched-gt-MOST_WATCHED : goal.returns-then-watched-gt-MOST_WATCHED
returns-then-watched-gt-MOST_WATCHED c = search many_watched

pub returns-then-sum_within-gt-MOST_KEY_BYTES : goal.returns-then-sum_within-gt-MOST_KEY_BYTES
returns-then-sum_within-gt-MOST_KEY_BYTES c = search long_keys

pub keys_ascending-requires : goal.keys_ascending-requires
keys_ascending-requires c = search keys_in_lem

pub returns-then-keys_ascending : goal.returns-then-keys_ascending
returns-then-keys_ascending c = search sequences_test

pub returns-else-keys_ascending : goal.returns-else-keys_ascending
returns-else-keys_ascending c = search not_ascending
