-- `command_meaning::options::scan_options` meets its contract. The invariant: the options before this pair are read, `Scanning`. Assumes nothing.
use Prim.Native.Nat.{◌*◌}
use Rattle.command_spec.specs.Requests.{arguments_of}
use Rattle.command_meaning.proofs.OptionLaws.{Scanning}
use Rattle.command_meaning.proofs.options.scan_options.Given as goal

abbrev pub invariant-loop-pair : goal.invariant-loop-pair
invariant-loop-pair l = Scanning (arguments_of l.request) l.request.count l.from (2 * l.pair) l.pattern l.most
