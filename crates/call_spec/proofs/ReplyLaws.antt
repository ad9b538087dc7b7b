-- What the bytes of a reply tell: the tests of posting's history decide what was answered.
use Prim.Native.Nat.{◌≤◌, ◌<◌}
use native.Mathlib.Omega.{arith}
use mathlib.Core.List.{List, [], ◌∷◌, ◌++◌, append_assoc}
use mathlib.Core.Bool.{true, false, not}
use mathlib.Core.Path.{◌≡◌, refl, ap, ◌∙◌}
use lib.ListN.{length, get_or}
use borrow.Author.Tests.{ne_eqb}
use Rattle.base_key.specs.Bytes.{Bytes, ◌and◌, same_bytes}
use Rattle.base_number.specs.Decimal.{digits}
use Rattle.base_number.proofs.RoundTrip.{reads}
use Rattle.resp_spec.specs.Reply.{Reply, Error, NilArray, array, items, ok, head, crlf, count_items, encode, encode_all}
use Rattle.command_spec.specs.Session.{queued_reply, exec_abort}
use Rattle.call_spec.specs.Posting.{is_reply, is_array}

pub ok_told : is_reply ok (encode ok) ≡ true
unfolding encode same_bytes ◌and◌
ok_told = refl

pub queued_told : is_reply queued_reply (encode queued_reply) ≡ true
unfolding encode same_bytes ◌and◌
queued_told = refl

-- an error is neither `+OK` nor `+QUEUED` nor an array
pub error_not_ok : (text : Bytes) → is_reply ok (encode (Error text)) ≡ false
unfolding encode same_bytes ◌and◌
error_not_ok text = refl

pub error_not_queued : (text : Bytes) → is_reply queued_reply (encode (Error text)) ≡ false
unfolding encode same_bytes ◌and◌
error_not_queued text = refl

pub error_no_array : (text : Bytes) → is_array (encode (Error text)) ≡ false
unfolding encode is_array
error_no_array text = refl

pub abort_told : is_reply exec_abort (encode exec_abort) ≡ true
unfolding encode same_bytes ◌and◌
abort_told = refl

-- `*-1` is told from an array
pub nil_array_told : is_reply NilArray (encode NilArray) ≡ true
unfolding encode same_bytes ◌and◌
nil_array_told = refl

pub nil_array_no_array : is_array (encode NilArray) ≡ false
unfolding encode same_bytes ◌and◌ is_array
nil_array_no_array = refl

digit_first : (l t r : Bytes) → 0 < length l → 48 ≤ get_or l 0 0 → same_bytes (l ++ t) (45 ∷ r) ≡ false
unfolding same_bytes ◌and◌
digit_first [] t r h k = absurd (omega arith)
digit_first (b ∷ l) t r h k = rw (ne_eqb b 45 (λ e. omega arith))

pub array_told : (rs : List Reply) → is_array (encode (array rs)) ≡ true
unfolding encode head is_array same_bytes ◌and◌
array_told rs =
    let n = count_items (items rs) in
    let d = reads n in
    let e : same_bytes (digits n ++ crlf ++ encode_all (items rs)) (45 ∷ 49 ∷ crlf) ≡ false =
    ap (λ (x : Bytes). same_bytes x (45 ∷ 49 ∷ crlf)) (append_assoc (digits n) crlf (encode_all (items rs))) ∙ digit_first (digits n) (crlf ++ encode_all (items rs)) (49 ∷ crlf) d.some_byte d.first in
    ap not e
