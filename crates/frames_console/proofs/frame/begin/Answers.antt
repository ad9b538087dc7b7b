-- `frames_console::frame::begin` meets its contract. Assumes nothing.
use native.Mathlib.Omega.{arith}
use mathlib.Core.Path.{ap, ◌∙◌}
use mathlib.Core.List.{List}
use Prim.Native.Nat.{ℕ}
use Rattle.frames_lines.specs.Held.{count_at}
use Rattle.frames_console.proofs.BeginLaws.{frame_session, frame_count, begin_malformed, begin_serve, begin_refused}
use Rattle.frames_console.proofs.frame.begin.Goals as goal

pub returns-then-session-lt16-clause-begins : goal.returns-then-session-lt16-clause-begins
returns-then-session-lt16-clause-begins c = begin_serve c.read_frame.ensures.frame_read c.in-Some.is c.if-session-lt16.true (c.count_at.ensures ∙ ap (λ (k : List ℕ). count_at k c.in-Some.session) c.read_frame.ensures.same_counts) c.add_session.ensures

pub overflow_add-to : goal.overflow_add-to
overflow_add-to c = omega (arith, frame_count c.read_frame.ensures.frame_read c.in-Some.is)

pub add_refused-requires-clause-session_bound : goal.add_refused-requires-clause-session_bound
add_refused-requires-clause-session_bound c = frame_session c.read_frame.ensures.frame_read c.in-Some.is

pub returns-in-None-clause-begins : goal.returns-in-None-clause-begins
returns-in-None-clause-begins c = begin_malformed c.read_frame.ensures.frame_read c.in-None.is c.add_malformed.ensures

pub returns-else-session-lt16-clause-begins : goal.returns-else-session-lt16-clause-begins
returns-else-session-lt16-clause-begins c = begin_refused c.read_frame.ensures.frame_read c.in-Some.is c.if-session-lt16.false c.add_refused.ensures
