-- `call_serve::respond::respond` meets its contract. Each route in its arm. Assumes nothing.
use mathlib.Core.Path.{refl}
use Rattle.session_route.proofs.Routing.{way_asks}
use Rattle.call_serve.proofs.RespondLaws.{ready_held, here_left, exec_left, run_left}
use Rattle.call_serve.proofs.respond.respond.Goals as goal

pub answer-requires-clause-held : goal.answer-requires-clause-held
answer-requires-clause-held c = ready_held c.requires

pub answer-requires-clause-taken : goal.answer-requires-clause-taken
answer-requires-clause-taken c = way_asks _ _ _ c.route_of.ensures c.in-Here.is

pub returns-in-Here-clause-left : goal.returns-in-Here-clause-left
returns-in-Here-clause-left c = here_left _ _ _ _ _ _ _ c.requires c.args.named.now.looked c.route_of.ensures c.in-Here.is refl c.answer.ensures

pub returns-in-Exec-clause-left : goal.returns-in-Exec-clause-left
returns-in-Exec-clause-left c = exec_left _ _ _ _ _ _ _ c.requires c.args.named.now.looked c.route_of.ensures c.in-Exec.is c.exec.ensures.leaves

pub returns-in-Run-clause-left : goal.returns-in-Run-clause-left
returns-in-Run-clause-left c = run_left _ _ _ _ _ _ _ c.requires c.args.named.now.looked c.route_of.ensures c.in-Run.is c.run_command.ensures.answers
