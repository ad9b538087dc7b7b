-- `call_serve::preview_session` meets its contract. Assumes nothing.
use Rattle.session_memory.proofs.Kept.{held_by_tests}
use Rattle.call_serve.proofs.ServingLaws.{session_words_lem, session_bytes_lem, session_lent, session_previewed}
use native.Mathlib.Omega.{arith}
use Rattle.call_serve.proofs.preview_session.Goals as goal

pub slice_bounds-held-end : goal.slice_bounds-held-end
slice_bounds-held-end c = omega (arith, session_words_lem _ _ _ _ _ _ c.requires)

pub slice_bounds-held-end-2 : goal.slice_bounds-held-end-2
slice_bounds-held-end-2 c = omega (arith, session_bytes_lem _ _ _ _ _ _ c.requires)

pub invariant_of-held : goal.invariant_of-held
invariant_of-held c = let l = session_lent _ _ _ _ _ _ c.requires in record { held = held_by_tests _ _ _ l.one l.ok }

pub invariant_of-store : goal.invariant_of-store
invariant_of-store c = record { valid = (session_lent _ _ _ _ _ _ c.requires).valid }

pub preview-requires : goal.preview-requires
preview-requires c = let l = session_lent _ _ _ _ _ _ c.requires in record { session_valid = l.ok; out_value = l.cleared }

pub returns : goal.returns
returns c = session_previewed _ _ _ _ _ _ c.requires c.preview.ensures
