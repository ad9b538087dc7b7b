-- `call_serve::serve_session` meets its contract. Assumes nothing.
use Rattle.call_serve.proofs.ServingLaws.{session_words_lem, session_bytes_lem, session_lent, session_served, session_table}
use native.Mathlib.Omega.{arith}
use Rattle.call_serve.proofs.serve_session.Goals as goal

pub slice_bounds-serve_words-end-3 : goal.slice_bounds-serve_words-end-3
slice_bounds-serve_words-end-3 c = omega (arith, session_words_lem _ _ _ _ _ _ c.requires)

pub slice_bounds-serve_words-end-4 : goal.slice_bounds-serve_words-end-4
slice_bounds-serve_words-end-4 c = omega (arith, session_bytes_lem _ _ _ _ _ _ c.requires)

pub serve_words-requires : goal.serve_words-requires
serve_words-requires c = search session_lent

pub returns-clause-request_promise : goal.returns-clause-request_promise
returns-clause-request_promise c = search session_served

pub returns-clause-table_promise : goal.returns-clause-table_promise
returns-clause-table_promise c = search session_table
