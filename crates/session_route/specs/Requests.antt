-- A request with the row of its name.
use Rattle.command_names.specs.declared.named.NamedRequest.{NamedRequest}
use Rattle.command_spec.specs.Names.{Row, row_of, name_word}
use Rattle.command_spec.specs.Requests.{arguments_of}

-- the row of its name
abbrev pub row_asked : NamedRequest → Row
row_asked n = row_of (name_word (arguments_of n.request))
