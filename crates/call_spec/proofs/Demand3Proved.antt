-- Demand 3 whole is proved of the published calls' definitions.
use Rattle.call_spec.specs.Demand3.{Demand3Holds}
use Rattle.call_spec.proofs.CounterLaws.{counters, counter_replies_lem}
use Rattle.call_spec.proofs.IsolationClaim.{quiet_leaves, isolation, isolation_until_exec, always_valid}
use Rattle.call_spec.proofs.IsolationLaws.{isolated}
use Rattle.call_spec.proofs.Posting.{claim, stays_valid_lem, no_exec_after_move, no_exec_after_write, verdicts_caused}
use Rattle.call_spec.proofs.EveryKind.{fed, quiet}
use Rattle.call_spec.proofs.StateLaws.{request_is, group_is, preview_is_lem}

pub demand_3 : Demand3Holds
demand_3 = record {
  calls = record { requests = request_is; groups = group_is; previews = preview_is_lem };
  claim = claim;
  fed = fed;
  counters = counters;
  counter_replies = counter_replies_lem;
  watches = no_exec_after_move;
  posted_watches = no_exec_after_write;
  verdicts = verdicts_caused;
  quiet = quiet;
  quiet_calls = quiet_leaves;
  isolated = isolated;
  isolation = isolation;
  until_exec = isolation_until_exec;
  stays_valid = stays_valid_lem;
  validity = always_valid;
}
