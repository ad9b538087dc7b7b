-- `frames_console::serve::serve_next` meets its contract. Assumes nothing.
use Rattle.frames_lines.proofs.QuitLaws.{table_told}
use Rattle.frames_console.proofs.StepLaws.{told_ok, steps_numbered, step_taken, step_fits}
use Rattle.frames_console.proofs.serve.serve_next.Goals as goal

pub step_of_any-step-requires-clause-told : goal.step_of_any-step-requires-clause-told
step_of_any-step-requires-clause-told c = told_ok _ _ (table_told _ c.requires.serves.session c.requires.fit.fit c.requires.serves.places c.serve_session-answer.ensures.request_promise c.serve_session-answer.ensures.table_promise)

pub after_step-requires : goal.after_step-requires
after_step-requires c = step_fits _ c.requires.serves c.requires.fit c.requires.from_in_bounds c.reply-1.given (step_taken c.args.at.from c.args.held.now _ c.requires.serves.places c.serve_session-answer.ensures.request_promise (steps_numbered _ c.serve_session-answer.result c.step_of_any-step.ensures))

pub returns-clause-next_served : goal.returns-clause-next_served
returns-clause-next_served c = record {
  step = c.step_of_any-step.result;
  reply = c.serve_session-answer.new.out;
  size = c.reply-1.given;
  call = step_taken c.args.at.from c.args.held.now _ c.requires.serves.places c.serve_session-answer.ensures.request_promise (steps_numbered _ c.serve_session-answer.result c.step_of_any-step.ensures);
  after = c.after_step.ensures;
}
