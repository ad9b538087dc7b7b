use native.Mathlib.Omega.{arith}
use Rattle.command_spec.proofs.PlaceLaws.{arguments_count}
use Rattle.command_meaning.proofs.OptionLaws.{scanning_none, scanning_match, scanning_count, scanning_wrong, scanning_odd, scanning_all}
use Rattle.command_meaning.proofs.options.scan_options.Goals as goal
use Rattle.command_meaning.proofs.options.scan_options.Goals.{in-Match, in-Count}

pub loop-pair-init : goal.loop-pair-init
loop-pair-init c = search scanning_none

pub returns-in-Wrong : goal.returns-in-Wrong
returns-in-Wrong c = scanning_wrong c.loop-pair.invariant c.scan_option.ensures (omega arith) c.in-Wrong.is

pub loop-pair-preserved : goal.loop-pair-preserved
loop-pair-preserved c =
    elim c.match-scan_option.branch [
      | in-Match w ↦ rw (w.pattern-is, w.most-is) (scanning_match c.loop-pair.invariant c.scan_option.ensures (omega arith) (omega arith) w.in-Match.is)
      | in-Count w ↦ rw (w.pattern-is, w.most-is) (scanning_count c.loop-pair.invariant c.scan_option.ensures (omega arith) (omega arith) w.in-Count.is)
    ]

pub returns-then-request-eq1 : goal.returns-then-request-eq1
returns-then-request-eq1 c =
    scanning_odd c.loop-pair.invariant (arguments_count 0 c.args.request.now.count c.args.request.now.places.now c.args.request.now.input.now) (omega arith) (omega arith)

pub returns : goal.returns
returns c = scanning_all c.loop-pair.invariant (arguments_count 0 c.args.request.now.count c.args.request.now.places.now c.args.request.now.input.now) (omega arith)
