-- `session_route::local::answer` meets its contract. Each way in its arm. Assumes nothing.
use mathlib.Core.Path.{ap}
use Rattle.command_spec.specs.Names.{row_of}
use Rattle.session_route.proofs.Requested.{way_steers, way_watches, way_queues, way_refuses}
use Rattle.session_route.proofs.local.answer.Goals as goal

pub returns-in-Steer : goal.returns-in-Steer
returns-in-Steer c = search way_steers

pub returns-in-Watch : goal.returns-in-Watch
returns-in-Watch c = let e = ap row_of c.name.ensures in search way_watches

pub returns-in-Queue : goal.returns-in-Queue
returns-in-Queue c = let e = ap row_of c.name-in-Queue.ensures in search way_queues

pub returns-in-NotQueueable : goal.returns-in-NotQueueable
returns-in-NotQueueable c = search way_refuses
