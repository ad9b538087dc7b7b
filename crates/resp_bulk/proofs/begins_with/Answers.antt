-- `resp_bulk::begins_with` meets its contract: it is the library's `starts_with`. Assumes nothing.
use Rattle.std.proofs.Common.{◌∙◌}
use Rattle.resp_bulk.proofs.Arguments.{starts_begins}
use Rattle.resp_bulk.proofs.begins_with.Goals as goal

pub returns : goal.returns
returns c = c.starts_with.ensures.value ∙ starts_begins _ _
