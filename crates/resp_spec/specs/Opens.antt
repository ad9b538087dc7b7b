-- Every definition of this crate, opened at once: for facts that antt computes.
use Rattle.base_key.specs.Opens.{base_key_opens}
use Rattle.base_number.specs.Opens.{base_number_opens}
use Rattle.resp_spec.specs.Utf8.{leads, continues, breaks, decode_byte, lossy_from, lossy, utf8_from, is_utf8}
use Rattle.resp_spec.specs.Request.{feed_at, without_cr, line_at, line_of, header_within, header_of, with_span, begins_cr_lf, bulk_body, argument_line, read_arguments, array_of, read_array, words_from, read_inline, read_request, fault_text}
use Rattle.resp_spec.specs.Reply.{head, count_items, items, encode, written, depth}

unfoldable pub resp_spec_opens : Unit {0}
unfolding base_key_opens base_number_opens leads continues breaks decode_byte lossy_from lossy utf8_from is_utf8 feed_at without_cr line_at line_of header_within header_of with_span begins_cr_lf bulk_body argument_line read_arguments array_of read_array words_from read_inline read_request fault_text head count_items items encode written depth
resp_spec_opens = tt
