-- `command_glob::place_of` meets its contract. One law for each way out. Assumes nothing.
use Rattle.command_glob.proofs.Globbing.{place_found, place_missing}
use Rattle.command_glob.proofs.place_of.Goals as goal

pub returns-in-Some : goal.returns-in-Some
returns-in-Some c = search place_found

pub returns-in-None : goal.returns-in-None
returns-in-None c = search place_missing
