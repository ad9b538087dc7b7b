-- Every definition of this crate, opened at once: for facts that antt computes.
use Rattle.base_key.specs.Opens.{base_key_opens}
use Rattle.base_number.specs.Opens.{base_number_opens}
use Rattle.resp_spec.specs.Opens.{resp_spec_opens}
use Rattle.store_memtable.specs.Opens.{store_memtable_opens}
use Rattle.group_spec.specs.Opens.{group_spec_opens}
use Rattle.command_spec.specs.Names.{rows, queueable_texts, same_name, row_in, row_of, count_right, with_options, may_queue, request_queueable, arity}
use Rattle.command_spec.specs.Glob.{tokens, some_tail, matches, glob, after_last_star, end_missing, glob_told}
use Rattle.command_spec.specs.Command.{pairs_of, scan_options, range_options, command_as, executed_as, executed_of, command_of, live, summed, raised, run, keep, scanned, pair_replies, answer_listing, run_queue}
use Rattle.command_spec.specs.Session.{committed, direct, add_key, add_keys, watch_fits, watching, outside_multi, queue_fits, enqueue, queue_up, not_queueable, any_moved, verdict_exec, decided, decide, apply, execute, inside_multi, respond_by, respond}
use Rattle.command_spec.specs.Sessions.{split_by, keys_in, queue_in, paired, session_from, ascending_after, all_queueable, all_positive, none_above, watch_ok, queue_ok, session_ok, flag_word, session_words, session_bytes, words_of_session, bytes_of_session, session_at, sessions_ok_in, valid_sessions, leave_session_words, leave_session_bytes}

unfoldable pub command_spec_opens : Unit {0}
unfolding base_key_opens base_number_opens resp_spec_opens store_memtable_opens group_spec_opens rows queueable_texts same_name row_in row_of count_right with_options may_queue request_queueable arity tokens some_tail matches glob after_last_star end_missing glob_told pairs_of scan_options range_options command_as executed_as executed_of command_of live summed raised run keep scanned pair_replies answer_listing run_queue committed direct add_key add_keys watch_fits watching outside_multi queue_fits enqueue queue_up not_queueable any_moved verdict_exec decided decide apply execute inside_multi respond_by respond split_by keys_in queue_in paired session_from ascending_after all_queueable all_positive none_above watch_ok queue_ok session_ok flag_word session_words session_bytes words_of_session bytes_of_session session_at sessions_ok_in valid_sessions leave_session_words leave_session_bytes
command_spec_opens = tt
