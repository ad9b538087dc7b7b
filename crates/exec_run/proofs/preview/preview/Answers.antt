-- `exec_run::preview::preview` meets its contract. Assumes nothing.
use native.Mathlib.Omega.{arith}
use Rattle.std.proofs.lemmas.Result.{err_from_is_err_and}
use Rattle.group_spec.specs.Group.{verdict_byte}
use Rattle.exec_run.proofs.PreviewLaws.{alone_room, previews_inside, previews_outside, outside_error}
use Rattle.exec_run.proofs.preview.preview.Goals as goal

pub returns-then-in_multi : goal.returns-then-in_multi
returns-then-in_multi c = previews_inside _ _ _ _ _ c.in_multi.ensures c.if-in_multi.true c.preview_inside.ensures

pub returns-in_err-prepared : goal.returns-in_err-prepared
returns-in_err-prepared c = let p = err_from_is_err_and c.from_residual.result c.from_residual.ensures.1 in rw (p.1, p.2) (outside_error _ _ _ _ _ c.in_multi.ensures _ c.if-in_multi.false c.args.store.now.valid (omega arith) c.requires.out_value c.put_fixed-put.ensures (c.in_err-prepared.ensures.numbers verdict_byte))

pub preview_of-requires : goal.preview_of-requires
preview_of-requires c = alone_room c.args.session.now.words.now c.args.session.now.bytes.now c.args.store.now.words.now c.args.store.now.bytes.now _ c.args.store.now.valid (omega arith) c.requires.out_value c.put_fixed-put.ensures _ (c.in_ok-prepared.ensures.numbers verdict_byte)

pub returns : goal.returns
returns c = previews_outside _ _ _ _ _ c.in_multi.ensures c.if-in_multi.false c.args.store.now.valid (omega arith) c.requires.out_value c.put_fixed-put.ensures (c.in_ok-prepared.ensures.numbers verdict_byte) c.preview_of.ensures
