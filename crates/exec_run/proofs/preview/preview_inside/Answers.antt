-- `exec_run::preview::preview_inside` meets its contract. Assumes nothing.
use Rattle.std.proofs.lemmas.Result.{err_from_is_err_and}
use Rattle.exec_run.proofs.ExecLaws.{known_some}
use Rattle.exec_run.proofs.PreviewLaws.{previews_known, known_error, known_room}
use Rattle.exec_run.proofs.preview.preview_inside.Goals as goal

pub returns-in_err-prepared : goal.returns-in_err-prepared
returns-in_err-prepared c = let p = err_from_is_err_and c.from_residual.result c.from_residual.ensures.1 in rw (p.1, p.2) (known_error _ _ _ _ _ _ c.in_err-prepared.ensures)

pub preview_of-requires : goal.preview_of-requires
preview_of-requires c = known_room _ _ _ _ _ _ (known_some _ _ _ _ _ _ c.in_ok-prepared.ensures c.in-Some.is)

pub returns : goal.returns
returns c = previews_known _ _ _ _ _ _ (known_some _ _ _ _ _ _ c.in_ok-prepared.ensures c.in-Some.is) c.preview_of.ensures
