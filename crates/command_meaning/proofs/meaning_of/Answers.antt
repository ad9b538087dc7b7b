-- `command_meaning::meaning_of` meets its contract. One law for each arm. Assumes nothing.
use Rattle.command_spec.proofs.PlaceLaws.{arguments_count}
use Rattle.command_meaning.proofs.NameLaws.{queueable_means, scan_count, range_count, dbsize_means, keys_means, other_means}
use borrow.Author.Rules.{rules}
use Rattle.command_meaning.proofs.meaning_of.Goals as goal

pub scan-requires : goal.scan-requires
scan-requires c = search (scan_count, rules)

pub range-requires : goal.range-requires
range-requires c = search (range_count, rules)

pub returns-in-Queueable : goal.returns-in-Queueable
returns-in-Queueable c = search (queueable_means, arguments_count)

pub returns-in-Dbsize : goal.returns-in-Dbsize
returns-in-Dbsize c = search dbsize_means

pub returns-in-Keys : goal.returns-in-Keys
returns-in-Keys c = search keys_means

pub returns-in_default : goal.returns-in_default
returns-in_default c = other_means _ _ _ c.in_default.not-Queueable c.in_default.not-Dbsize c.in_default.not-Keys c.in_default.not-Scan c.in_default.not-Range
