-- `resp_parse::request::read_arguments` meets its contract. The invariant: i arguments stand in the table, `Passed`. Assumes nothing.
use Rattle.resp_parse.proofs.Requests.{Passed}
use Rattle.resp_parse.proofs.request.read_arguments.Given as goal

abbrev pub invariant-loop-i : goal.invariant-loop-i
invariant-loop-i l = Passed l.input l.initial.places l.places l.count l.from l.i l.at
