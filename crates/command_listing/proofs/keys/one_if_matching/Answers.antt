-- `command_listing::keys::one_if_matching` meets its contract. Assumes nothing.
use Rattle.command_listing.proofs.Matching.{one_matches, none_matches}
use Rattle.command_listing.proofs.keys.one_if_matching.Goals as goal

pub returns-in-Matches : goal.returns-in-Matches
returns-in-Matches c = search one_matches

pub returns-in_default : goal.returns-in_default
returns-in_default c = search none_matches
