-- `command_direct::listings::answer_listing` meets its contract. Assumes nothing.
use Rattle.command_direct.proofs.Listed.{lists_answer}
use Rattle.command_direct.proofs.listings.answer_listing.Goals as goal

pub returns : goal.returns
returns c = search lists_answer
