-- `command_direct::run::run_number` meets its contract. Assumes nothing.
use lib.Seq.{length-take-le}
use mathlib.Core.Path.{refl, sym}
use mir.Facts.{to_z-of_z}
use native.Mathlib.Omega.{arith}
use Rattle.command_direct.proofs.Commands.{number_fits, number_within, number_text_lem, number_runs}
use Rattle.command_direct.proofs.run.run_number.Goals as goal

pub returns-in_err-len : goal.returns-in_err-len
returns-in_err-len c = number_fits (to_z-of_z c.ranges.number) c.ranges.number.sfits refl c.put_decimal.ensures c.in_err-len.ensures.ok_part

pub slice_bounds-text-end : goal.slice_bounds-text-end
slice_bounds-text-end c = omega (arith, number_within (to_z-of_z c.ranges.number) c.ranges.number.sfits refl c.put_decimal.ensures c.in_ok-len.ensures.ok_part)

pub slice_bounds-run_text-end : goal.slice_bounds-run_text-end
slice_bounds-run_text-end c = sym (length-take-le _ _ (number_within (to_z-of_z c.ranges.number) c.ranges.number.sfits refl c.put_decimal.ensures c.in_ok-len.ensures.ok_part))

pub returns-clause-runs : goal.returns-clause-runs
returns-clause-runs c = number_runs _ _ _ (number_text_lem (to_z-of_z c.ranges.number) c.ranges.number.sfits refl c.put_decimal.ensures c.in_ok-len.ensures.ok_part) c.run_text.ensures.runs
