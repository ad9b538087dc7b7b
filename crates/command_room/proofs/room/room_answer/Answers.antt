-- `command_room::room::room_answer` meets its contract. Assumes nothing.
use mathlib.Core.Path.{◌≡◌, ap}
use Rattle.command_spec.specs.Numbers.{error_number}
use Rattle.command_spec.specs.declared.CallError.TheVariants.{ReplyTooLong}
use Rattle.command_room.proofs.Checked.{buffer_left, numbers_answered}
use Rattle.command_room.proofs.Served.{error_some}
use Rattle.command_room.proofs.room.room_answer.Goals as goal

pub returns-clause-value : goal.returns-clause-value
returns-clause-value c = numbers_answered error_number (λ e. e ≡ ReplyTooLong) (λ e. ap error_number) _ (λ e _. error_some e) _ _ _ c.checked_answer.ensures.refused c.checked_answer.ensures.answered c.checked_answer.ensures.too_long

pub returns-clause-out_after : goal.returns-clause-out_after
returns-clause-out_after c = buffer_left error_number (λ e. e ≡ ReplyTooLong) (λ e. ap error_number) _ (λ e _. error_some e) c.args.put c.args.used _ _ c.checked_answer.ensures.cleared c.checked_answer.ensures.kept
