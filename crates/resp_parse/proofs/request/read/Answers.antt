-- `resp_parse::request::read` meets its contract. By the line, and by the first byte. Assumes nothing.
use Rattle.resp_parse.proofs.Requests.{request_none, request_unfinished, request_too_long, request_array_line, request_array, request_inline}
use Rattle.resp_parse.proofs.request.read.Goals as goal

pub returns-in_default : goal.returns-in_default
returns-in_default c = search request_none

pub read_array-requires : goal.read_array-requires
read_array-requires c = search request_array_line

pub returns-in-Text : goal.returns-in-Text
returns-in-Text c = search request_array

pub returns-in-Text-2 : goal.returns-in-Text-2
returns-in-Text-2 c = search request_inline

pub returns-in-Unfinished : goal.returns-in-Unfinished
returns-in-Unfinished c = search request_unfinished

pub returns-in-TooLong : goal.returns-in-TooLong
returns-in-TooLong c = search request_too_long
