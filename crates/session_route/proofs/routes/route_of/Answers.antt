-- `session_route::routes::route_of` meets its contract. By the flag of MULTI. Assumes nothing.
use Rattle.session_route.proofs.Routing.{route_inside, route_outside}
use Rattle.session_route.proofs.routes.route_of.Goals as goal

pub returns-then-in_multi : goal.returns-then-in_multi
returns-then-in_multi c = search route_inside

pub returns : goal.returns
returns c = search route_outside
