-- `frames::main` meets its contract: an opened store beside zeroed sessions is what the definition opens with. Assumes nothing.
use Rattle.frames.proofs.OpenLaws.{opened_number, opened_fit, opened_console}
use Rattle.frames.proofs.main.Goals as goal

pub answer_all-filled-requires-clause-fit : goal.answer_all-filled-requires-clause-fit
answer_all-filled-requires-clause-fit c = opened_fit (opened_number _ c.is_err.ensures.value c.if-is_err.false) c.«open».ensures

pub answer_all-filled-requires-clause-held_value : goal.answer_all-filled-requires-clause-held_value
answer_all-filled-requires-clause-held_value c = opened_console 131072 (opened_number _ c.is_err.ensures.value c.if-is_err.false) c.«open».ensures
