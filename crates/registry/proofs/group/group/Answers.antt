-- `registry::group::group` meets its contract: the number by its tests, what is settled without one, and what stays with one.
-- Assumes nothing.
use mathlib.Core.Path.{refl}
use Rattle.std.proofs.lemmas.Result.{err_from_is_err_and}
use Rattle.exec_decision.proofs.Executes.{error_numbered}
use Rattle.registry.proofs.GroupCall.{group_words, group_ready, group_done, group_refused}
use Rattle.registry.proofs.group.group.Goals as goal

pub bounds-words-2 : goal.bounds-words-2
bounds-words-2 c =
    group_words c.args.members.now c.args.parts.now c.args.«data».now c.args.verdicts.now c.args.words.now c.args.bytes.now
    c.members_inside-inside.ensures c.in_ok-check_group.ensures refl

pub settle_all-requires : goal.settle_all-requires
settle_all-requires c =
    group_ready c.args.members.now c.args.parts.now c.args.«data».now c.args.verdicts.now c.args.words.now c.args.bytes.now
    c.members_inside-inside.ensures c.in_ok-check_group.ensures refl refl

pub returns : goal.returns
returns c =
    group_done c.args.members.now c.args.parts.now c.args.«data».now c.args.verdicts.now c.args.words.now c.args.bytes.now
    c.members_inside-inside.ensures c.in_ok-check_group.ensures refl c.settle_all.ensures

pub returns-in_err-check_group : goal.returns-in_err-check_group
returns-in_err-check_group c =
    let p = err_from_is_err_and c.from_residual.result c.from_residual.ensures.1 in
    rw (p.1, p.2)
    (group_refused c.args.members.now c.args.parts.now c.args.«data».now c.args.verdicts.now c.args.words.now c.args.bytes.now
    c.members_inside-inside.ensures c.in_err-check_group.ensures (error_numbered _))
