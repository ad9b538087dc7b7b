-- A lent request.
use Rattle.command_spec.specs.Names.{Args}
use Rattle.command_spec.specs.Places.{arguments_at}
use Rattle.command_spec.specs.declared.request.Request.{Request}

-- the name, and the arguments behind it
abbrev pub arguments_of : Request → Args
arguments_of r = arguments_at 0 r.count r.places.now r.input.now
