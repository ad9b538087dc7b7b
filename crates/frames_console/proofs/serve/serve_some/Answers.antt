use mathlib.Core.Path.{refl}
use borrow.Author.Rules.{rules}
use Rattle.frames_console.proofs.ServeLaws.{loop_start, loop_serves, loop_more, loop_fewer, loop_next, loop_over}
use Rattle.frames_console.proofs.serve.serve_some.Goals as goal

pub loop-page-init : goal.loop-page-init
loop-page-init c = (search rules, loop_start c.args.begun c.requires.serves c.requires.fit _ refl)

pub serve_next-at-requires-clause-serves : goal.serve_next-at-requires-clause-serves
serve_next-at-requires-clause-serves c = loop_serves c.loop-page.invariant.1 c.goes_on.ensures c.loop-page-test.true

pub serve_next-at-requires-clause-from_in_bounds : goal.serve_next-at-requires-clause-from_in_bounds
serve_next-at-requires-clause-from_in_bounds c = loop_more c.loop-page.invariant.1 c.goes_on.ensures c.loop-page-test.true

pub loop-page-smaller : goal.loop-page-smaller
loop-page-smaller c = loop_fewer c.loop-page.invariant.1 c.goes_on.ensures c.loop-page-test.true c.serve_next-at.ensures.next_served

pub loop-page-preserved : goal.loop-page-preserved
loop-page-preserved c = (search rules, loop_next c.loop-page.invariant.1 c.goes_on.ensures c.loop-page-test.true c.serve_next-at.ensures.next_served (record { page = c.page-1.given; places = c.places-1.given; reply = c.reply-1.given }))

pub returns-clause-some_served : goal.returns-clause-some_served
returns-clause-some_served c = loop_over c.loop-page.invariant.1 c.goes_on.ensures c.loop-page-test.false
