-- `call_numbers::check_group` meets its contract. Assumes nothing.
use Rattle.call_numbers.proofs.NumberLaws.{number_nine, number_many, number_few, number_inside, number_outside}
use Rattle.call_numbers.proofs.check_group.Goals as goal
use Rattle.call_numbers.proofs.check_group.Goals.{then-members-gt64-via-then-members-gt64, then-members-gt64-via-else-members-gt64+then-verdicts-members, then-members-gt64-via-else-members-gt64+else-verdicts-members+then-not-inside}

pub returns-then-not-validate : goal.returns-then-not-validate
returns-then-not-validate c = search number_nine

pub returns-then-members-gt64 : goal.returns-then-members-gt64
returns-then-members-gt64 c =
    elim c.then-members-gt64.branch [
      | then-members-gt64-via-then-members-gt64 w ↦ search number_many
      | then-members-gt64-via-else-members-gt64+then-verdicts-members w ↦ search number_few
      | then-members-gt64-via-else-members-gt64+else-verdicts-members+then-not-inside w ↦ search number_outside
    ]

pub returns : goal.returns
returns c = search number_inside
