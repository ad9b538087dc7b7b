-- `exec_run::decide::before_queue` meets its contract. Assumes nothing.
use native.Mathlib.Omega.{arith}
use mathlib.Core.Path.{refl}
use Rattle.std.proofs.lemmas.Result.{err_from_is_err_and}
use Rattle.group_spec.specs.Group.{verdict_byte}
use Rattle.exec_run.proofs.ExecLaws.{exec_failed, exec_watched, exec_ready, known_before, runs_before}
use Rattle.exec_run.proofs.decide.before_queue.Goals as goal

pub returns-in_err-prepare_any : goal.returns-in_err-prepare_any
returns-in_err-prepare_any c = let p = err_from_is_err_and c.from_residual.result c.from_residual.ensures.1 in rw (p.1, p.2) (known_before _ _ _ _ _ (λ own d. exec_failed _ _ _ _ own d _ c.args.store.now.valid (omega arith) c.requires.out_value c.failed.ensures c.if-failed.true c.put_fixed-put.ensures (c.in_err-prepare_any.ensures.numbers verdict_byte)))

pub returns-then-failed : goal.returns-then-failed
returns-then-failed c = known_before _ _ _ _ _ (λ own d. exec_failed _ _ _ _ own d _ c.args.store.now.valid (omega arith) c.requires.out_value c.failed.ensures c.if-failed.true c.put_fixed-put.ensures (c.in_ok-prepare_any.ensures.numbers verdict_byte))

pub returns-in_err-prepare_any-2 : goal.returns-in_err-prepare_any-2
returns-in_err-prepare_any-2 c = let p = err_from_is_err_and c.from_residual-in_err-prepare_any-2.result c.from_residual-in_err-prepare_any-2.ensures.1 in rw (p.1, p.2) (known_before _ _ _ _ _ (λ own d. exec_watched _ _ _ _ own d _ c.args.store.now.valid (omega arith) c.requires.out_value c.failed.ensures c.if-failed.false c.watched_moved.ensures c.if-watched_moved.true c.put_nil_array-put.ensures (c.in_err-prepare_any-2.ensures.numbers verdict_byte)))

pub returns-then-watched_moved : goal.returns-then-watched_moved
returns-then-watched_moved c = known_before _ _ _ _ _ (λ own d. exec_watched _ _ _ _ own d _ c.args.store.now.valid (omega arith) c.requires.out_value c.failed.ensures c.if-failed.false c.watched_moved.ensures c.if-watched_moved.true c.put_nil_array-put.ensures (c.in_ok-prepare_any-2.ensures.numbers verdict_byte))

pub returns : goal.returns
returns c = runs_before _ _ _ _ _ refl (exec_ready _ _ _ _ _ _ c.args.session.now.held c.requires.session_valid c.args.store.now.valid c.requires.out_value c.failed.ensures c.if-failed.false c.watched_moved.ensures c.if-watched_moved.false)
