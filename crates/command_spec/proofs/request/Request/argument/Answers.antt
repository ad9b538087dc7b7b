-- `command_spec::request::Request::argument` meets its contract. The part of the argument's places. Assumes nothing.
use Rattle.command_spec.proofs.PlaceLaws.{argument_is}
use Rattle.command_spec.proofs.request.Request.argument.Goals as goal

pub returns : goal.returns
returns c = search argument_is
