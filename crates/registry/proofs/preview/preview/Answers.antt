-- `registry::preview::preview` meets its contract. Assumes nothing.
use mathlib.Core.Path.{refl}
use Rattle.std.proofs.lemmas.Result.{err_from_is_err_and}
use Rattle.exec_decision.proofs.Executes.{error_numbered}
use Rattle.registry.proofs.RequestCall.{request_ready}
use Rattle.registry.proofs.PreviewCall.{preview_refused}
use Rattle.registry.proofs.preview.preview.Goals as goal

pub preview_session-requires : goal.preview_session-requires
preview_session-requires c = request_ready _ _ _ _ _ c.in_ok-check_request.ensures c.args.out.now c.clear.ensures refl

pub returns-in_err-check_request : goal.returns-in_err-check_request
returns-in_err-check_request c =
    let p = err_from_is_err_and c.from_residual.result c.from_residual.ensures.1 in
    rw (p.1, p.2) (preview_refused _ _ _ _ _ c.in_err-check_request.ensures _ c.clear.ensures (error_numbered _) refl)
