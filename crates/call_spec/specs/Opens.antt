-- Every definition of this crate, opened at once: for facts that antt computes.
use Rattle.base_key.specs.Opens.{base_key_opens}
use Rattle.base_number.specs.Opens.{base_number_opens}
use Rattle.resp_spec.specs.Opens.{resp_spec_opens}
use Rattle.store_memtable.specs.Opens.{store_memtable_opens}
use Rattle.group_spec.specs.Opens.{group_spec_opens}
use Rattle.command_spec.specs.Opens.{command_spec_opens}
use Rattle.command_spec.specs.Finish.{fitted, finish_by, finish, reply_buffer}
use Rattle.exec_decision.specs.Decided.{decided_reply, decided_by, decide_queue, decide_by, decide_exec, applied, preview_decided}
use Rattle.call_spec.specs.Serve.{protocol_error, serve_reading, serve, open_state, previewed, request_on, preview_on}
use Rattle.call_spec.specs.Calls.{valid, leave_store, leave_session, open_call, leave_served, request_call, preview_call, group_call, verdict_buffer, group_on, step, outcomes_on, final_on, first_number, sessions_from, state_in, touched, leave_sessions, leave, call, outcomes, final}
use Rattle.call_spec.specs.Posting.{asked_by, is_array, turn_exec, turn_by, turn_asked, accepted_in, told, events, enter, enter_all, closed_clients, posted, post_queue, post_replies, post, post_all}
use Rattle.call_spec.specs.Verdicts.{set_keys, item_keys, written_in, marks, marked_after, exec_reply}
use Rattle.call_spec.specs.Demand3.{increment, increment_by, sum_queue, sum, increments, clients_after, without, to_others, kept_calls, kept_outcomes}
use Rattle.call_spec.specs.Captures.{answers_to}
use Rattle.call_spec.specs.Previews.{answer_verdict, without_previews, not_previewed}
use Rattle.call_spec.specs.Frames.{open_console, closes, requests, held_rest, hex_value, join_hex, unhex, hex_digit, hex, given_of, given, shown, answer_given, frame, frames}

unfoldable pub call_spec_opens : Unit {0}
unfolding base_key_opens base_number_opens resp_spec_opens store_memtable_opens group_spec_opens command_spec_opens fitted finish_by finish protocol_error serve_reading serve open_state reply_buffer decided_reply decided_by decide_queue decide_by decide_exec applied preview_decided previewed request_on preview_on valid leave_store leave_session open_call leave_served request_call preview_call group_call verdict_buffer group_on step outcomes_on final_on first_number sessions_from state_in touched leave_sessions leave call outcomes final asked_by is_array turn_exec turn_by turn_asked accepted_in told events enter enter_all closed_clients posted post_queue post_replies post post_all set_keys item_keys written_in marks marked_after exec_reply increment increment_by sum_queue sum increments clients_after without to_others kept_calls kept_outcomes answers_to answer_verdict without_previews not_previewed open_console closes requests held_rest hex_value join_hex unhex hex_digit hex given_of given shown answer_given frame frames
call_spec_opens = tt
