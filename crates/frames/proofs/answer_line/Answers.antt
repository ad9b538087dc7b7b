-- `frames::answer_line` meets its contract. Assumes nothing.
use native.Mathlib.Omega.{arith}
use Rattle.frames_console.proofs.LineAnswered.{line_answered, line_served}
use Rattle.frames.proofs.TurnLaws.{serve_bounds}
use Rattle.frames.proofs.answer_line.Goals as goal

pub serve_turns-at-requires-clause-session_bound : goal.serve_turns-at-requires-clause-session_bound
serve_turns-at-requires-clause-session_bound c = (serve_bounds c.begin.ensures.begins c.in-Serve.is).below

pub serve_turns-at-requires-clause-to_bound : goal.serve_turns-at-requires-clause-to_bound
serve_turns-at-requires-clause-to_bound c = (serve_bounds c.begin.ensures.begins c.in-Serve.is).small

pub end-requires-clause-rest_at : goal.end-requires-clause-rest_at
end-requires-clause-rest_at c = record { session = omega (arith, (serve_bounds c.begin.ensures.begins c.in-Serve.is).below); order = c.serve_turns-at.ensures.served.from; size = (serve_bounds c.begin.ensures.begins c.in-Serve.is).small }

pub returns-in-Answered-clause-line_answered : goal.returns-in-Answered-clause-line_answered
returns-in-Answered-clause-line_answered c = rw c.begin.ensures.same_counts (line_answered _ c.begin.ensures.begins c.in-Answered.is)

pub returns-in-Serve-clause-line_answered : goal.returns-in-Serve-clause-line_answered
returns-in-Serve-clause-line_answered c = line_served c.begin.ensures.begins c.in-Serve.is c.serve_turns-at.ensures.turns_served (rw c.begin.ensures.same_counts at c.end.ensures)
