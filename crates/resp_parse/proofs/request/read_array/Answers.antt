-- `resp_parse::request::read_array` meets its contract. By the count. Assumes nothing.
use Rattle.resp_parse.proofs.Requests.{array_wrong, array_too_many, array_arguments}
use Rattle.resp_parse.proofs.request.read_array.Goals as goal

pub returns-then-places-count : goal.returns-then-places-count
returns-then-places-count c = search array_too_many

pub returns-else-places-count : goal.returns-else-places-count
returns-else-places-count c = search array_arguments

pub returns-in-Err : goal.returns-in-Err
returns-in-Err c = search array_wrong
