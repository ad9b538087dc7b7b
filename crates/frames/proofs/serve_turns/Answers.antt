use Rattle.frames_console.proofs.TurnLaws.{turns_over}
use Rattle.frames.proofs.TurnLaws.{loop_start, turn_less, turn_again}
use borrow.Author.Rules.{rules}
use Rattle.frames.proofs.serve_turns.Goals as goal

pub loop-at-init : goal.loop-at-init
loop-at-init c = (search rules, loop_start _ _ (search rules) (search rules) (search rules) (search rules))

pub loop-at-smaller : goal.loop-at-smaller
loop-at-smaller c = turn_less c.args.held.now c.loop-at.invariant.1 c.requires.held_len c.serve_some-at.ensures.some_served c.loop-at-test.true

pub loop-at-preserved : goal.loop-at-preserved
loop-at-preserved c = (search rules, turn_again c.args.held.now c.loop-at.invariant.1 c.requires.held_len c.serve_some-at.ensures.some_served c.loop-at-test.true c.make_room.ensures.value (search rules) c.serve_some-at.ensures.fit_2)

pub returns-clause-turns_served : goal.returns-clause-turns_served
returns-clause-turns_served c = turns_over 131072 64 c.loop-at.invariant.1.turns c.loop-at-test.false c.make_room-2.ensures.value
