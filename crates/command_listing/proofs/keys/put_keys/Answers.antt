-- `command_listing::keys::put_keys` meets its contract. Assumes nothing.
use Rattle.command_listing.proofs.Matching.{seen_fits, keys_answer}
use Rattle.command_listing.proofs.keys.put_keys.Goals as goal

pub put_matches-requires : goal.put_matches-requires
put_matches-requires c = search seen_fits

pub returns : goal.returns
returns c = rw (← c.new-pattern.ensures) (search keys_answer)
