-- `frames_lines::line::read_head` meets its contract. By the tests of the form. Assumes nothing.
use Rattle.frames_lines.proofs.LineLaws.{head_short, head_long, head_tens, head_ones, head_is, head_no_space}
use Rattle.frames_lines.proofs.line.read_head.Goals as goal

pub returns-then-line-lt5 : goal.returns-then-line-lt5
returns-then-line-lt5 c = search head_short

pub returns-then-line-gt8195 : goal.returns-then-line-gt8195
returns-then-line-gt8195 c = search head_long

pub returns-then-not-is_ascii_digit : goal.returns-then-not-is_ascii_digit
returns-then-not-is_ascii_digit c = search head_tens

pub returns-then-not-is_ascii_digit-2 : goal.returns-then-not-is_ascii_digit-2
returns-then-not-is_ascii_digit-2 c = search head_ones

pub returns-then-line-ne32 : goal.returns-then-line-ne32
returns-then-line-ne32 c = search head_no_space

pub returns : goal.returns
returns c = search head_is
