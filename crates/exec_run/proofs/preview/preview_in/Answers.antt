-- `exec_run::preview::preview_in` meets its contract. Assumes nothing.
use Rattle.std.proofs.lemmas.Result.{err_from_is_err_and}
use Rattle.exec_run.proofs.PreviewLaws.{previews, previews_error}
use Rattle.exec_run.proofs.preview.preview_in.Goals as goal

pub returns-in_err-prepared : goal.returns-in_err-prepared
returns-in_err-prepared c = let p = err_from_is_err_and c.from_residual.result c.from_residual.ensures.1 in rw (p.1, p.2) (previews_error _ _ _ _ _ _ c.in_err-prepared.ensures)

pub returns : goal.returns
returns c = previews _ _ _ _ _ c.in_ok-prepared.ensures c.preview_of.ensures
