-- `registry::request::request` meets its contract. Assumes nothing.
use mathlib.Core.Path.{refl, ap, ◌∙◌}
use Rattle.std.proofs.lemmas.Result.{err_from_is_err_and}
use Rattle.exec_decision.proofs.Executes.{error_numbered}
use Rattle.call_numbers.specs.Numbers.{request_number}
use Rattle.registry.proofs.RequestCall.{request_ready, request_refused, request_unread}
use Rattle.registry.proofs.request.request.Goals as goal

pub serve_session-requires : goal.serve_session-requires
serve_session-requires c = request_ready _ _ _ _ _ (c.in_ok-check_request.ensures ∙ ap (request_number _) c.read.ensures) c.args.out.now c.clear.ensures refl

pub returns-in_err-check_request-clause-request_promise : goal.returns-in_err-check_request-clause-request_promise
returns-in_err-check_request-clause-request_promise c =
    let p = err_from_is_err_and c.from_residual.result c.from_residual.ensures.1 in
    rw (p.1, p.2) (request_refused _ _ _ _ _ (c.in_err-check_request.ensures ∙ ap (request_number _) c.read.ensures) _ c.clear.ensures _ _ (error_numbered _) refl)

pub returns-in_err-check_request-clause-table_promise : goal.returns-in_err-check_request-clause-table_promise
returns-in_err-check_request-clause-table_promise c = request_unread _ _ _ _ _ (c.in_err-check_request.ensures ∙ ap (request_number _) c.read.ensures) _ _ (error_numbered _)
