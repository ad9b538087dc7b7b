-- The commands that write, from what their steps answer. Assumes nothing.
use Prim.Native.Nat.{ℕ, ◌+◌, ◌-◌, ◌*◌, ◌^◌, ◌≤◌, ◌<◌}
use native.Mathlib.Nat.{add-zero}
use native.Mathlib.Omega.{arith}
use mathlib.Core.Path.{◌≡◌, refl, sym, ap, ◌∙◌, subst}
use mathlib.Core.Bool.{true}
use mathlib.Core.List.{List, [], ◌∷◌, ◌++◌}
use Rattle.std.specs.Prelude.{Some}
use lib.ListN.{length, take, drop, replicate}
use lib.Seq.{take_at}
use lib.Signed.{mag}
use Rattle.base_key.specs.Bytes.{Bytes, total}
use Rattle.base_key.specs.Keys.{Key}
use Rattle.base_number.specs.Decimal.{decimal}
use Rattle.base_number.proofs.Decimals.{decimal_few}
use Rattle.base_writing.specs.Puts.{Puts, Adds}
use lib.IntN.{ℤ, pos, ◌+ℤ◌}
use Rattle.base_writing.proofs.Puts.{same_text, then_puts, was_wrote, was_full, length_kept}
use Rattle.resp_spec.specs.Reply.{Reply, Integer, ok, crlf, encode}
use Rattle.store_memtable.specs.Table.{Write}
use Rattle.store_memtable.specs.Versions.{bytes_of, writes_size, commit_one, commit}
use Rattle.store_memtable.specs.Layout.{used_word, most_bytes_word, store_in, leave_words, leave_bytes}
use Rattle.store_memtable.specs.Rows.{Valid, RoomForOne, value_if, bytes_left}
use Rattle.group_spec.specs.declared.Verdict.{Verdict}
use Rattle.command_spec.specs.Numbers.{AnswerNumbers}
use Rattle.base_number.specs.Number.{number_of}
use Rattle.command_lookup.proofs.Counters.{raised_bad, raised_over, raised_to}
use Rattle.command_spec.specs.declared.Fixed.TheVariants.{Ok, NotInteger, Overflow}
use Rattle.command_room.specs.Reading.{last_reader}
use Rattle.store_memtable.specs.Table.{Reader}
use Rattle.store_memtable.specs.Versions.{read_at}
use Rattle.store_memtable.specs.Rows.{versions_in}
use Rattle.store_memtable.specs.Layout.{last_word}
use Rattle.command_lookup.proofs.Arguments.{live_within}
use Rattle.command_direct.proofs.LastReader.{last_is}
use Rattle.group_spec.specs.Group.{verdict_byte}
use Rattle.command_spec.specs.Command.{Effect, put, live, held, raised}
use Rattle.command_spec.specs.Errors.{fixed_reply}
use Rattle.command_spec.specs.Places.{arguments_at, lengths_at, tombstones_at, pairs_at, PartsIn}
use Rattle.command_spec.proofs.PlaceLaws.{tombstones_count, tombstones_size, pairs_count, pairs_size}
use Rattle.command_room.specs.Writes.{RoomForAll, verdict_left, verdict_answer}
use Rattle.command_room.specs.Served.{buffer_after, Runs, Admitted, deletion, counted, integer_text, AdmittedText, RunsText}
use Rattle.command_room.proofs.Writes.{pair_room, pair_words, pair_bytes}
use Rattle.command_answer.proofs.Finish.{Cleared}
use Rattle.command_room.proofs.Served.{verdict_is, accepted_room, runs_written, runs_refused, answer_accepted}
use Rattle.std.specs.Prelude.{Option, None}

-- what was admitted, and then committed
module _ {p : Reply} {ws : List Write} {used : ℕ} {out : Bytes} {w b : List ℕ} {r : AnswerNumbers} {out' : Bytes} (a : Admitted (p, ws) used out w b r out') where
  pub admitted_written : {w' b' : List ℕ} → r.number ≡ 0 → w' ≡ leave_words (commit ws (store_in w b)) w
      → b' ≡ leave_bytes (commit ws (store_in w b)) b → Runs (p, ws) used out w b r out' w' b'
  admitted_written z w-is b-is = rw (w-is, b-is) (a.written z)

-- ADMITTING writes of `n` versions, by the steps that the code takes
pub admits : (e : Effect) (w b : List ℕ) (used n : ℕ) {out mid out' : Bytes} {put : Option ℕ} {left : Option ℕ} {m : ℕ} {r : AnswerNumbers}
    → Puts (encode e.0) out put mid → n ≡ length e.1 → left ≡ bytes_left (most_bytes_word w - used_word w) (writes_size e.1) → m ≡ verdict_byte (verdict_left w n left)
    → ((x : Verdict) → m ≡ verdict_byte x → r ≡ verdict_answer x put used) → ((x : Verdict) → m ≡ verdict_byte x → out' ≡ buffer_after x mid)
    → Valid w b → Cleared out → Admitted e used out w b r out'
admits e w b used n {put = put} {left = left} puts n-is left_is v-is r-is o_is valid c =
    let w-is = verdict_is w b valid e.1 n-is left_is in
    let r-here = r-is (verdict_left w n left) v-is in
    let o-here = o_is (verdict_left w n left) v-is in
    record {
      room = λ z. accepted_room w e.1 n-is left_is valid.used_fits (answer_accepted (verdict_left w n left) put used r-here z);
      written = λ z. runs_written e w b used puts w-is c r-here z o-here refl refl;
      refused = λ z. runs_refused e w b used puts w-is valid r-here z o-here;
    }

-- SET and MSET
pub admits_pairs : (p : List ℕ) (s : Bytes) (count pairs used : ℕ) (w b : List ℕ) {out mid out' : Bytes} {put : Option ℕ} {free : ℕ} {left : Option ℕ} {m : ℕ} {r : AnswerNumbers}
    → Puts (encode (fixed_reply Ok)) out put mid → free ≡ most_bytes_word w - used_word w
    → left ≡ bytes_left free (total (lengths_at 1 (1 + 2 * pairs - 1) p)) → m ≡ verdict_byte (verdict_left w pairs left)
    → ((x : Verdict) → m ≡ verdict_byte x → r ≡ verdict_answer x put used) → ((x : Verdict) → m ≡ verdict_byte x → out' ≡ buffer_after x mid)
    → Valid w b → 1 + 2 * pairs ≤ count → PartsIn p s count → out ≡ replicate (length out) 0 → Admitted (ok, pairs_at 1 (2 * pairs) p s) used out w b r out'
unfolding fixed_reply
admits_pairs p s count pairs used w b puts free-is left_is v-is r-is o_is valid h q c =
    let n : 1 + 2 * pairs - 1 ≡ 2 * pairs = omega arith in
    admits (ok, pairs_at 1 (2 * pairs) p s) w b used pairs puts (sym (pairs_count 1 pairs p s))
    (left_is ∙ (λ z. bytes_left (free-is z) ((ap (λ (m : ℕ). total (lengths_at 1 m p)) n ∙ sym (pairs_size q 1 pairs (omega arith))) z)))
    v-is r-is o_is valid c

-- EXISTS and DEL
pub live_fits : (g : Reader) (p : List ℕ) (s : Bytes) (count : ℕ) {n : ℕ} → n ≡ live g (arguments_at 1 (count - 1) p s) → PartsIn p s count → length p < 2 ^ 64 → n < 2 ^ 63
live_fits g p s count n-is q h = omega (arith, live_within g 1 (count - 1) p s, q.table)

pub live_put : (g : Reader) (ks : List Key) {n : ℕ} {z : ℤ} {out out' : Bytes} {put : Option ℕ} → n ≡ live g ks → z ≡ pos n → Puts (encode (Integer z)) out put out'
    → Puts (encode (Integer (pos (live g ks)))) out put out'
live_put g ks n-is z-is puts = same_text (ap (λ (x : ℤ). encode (Integer x)) (sym (z-is ∙ ap pos n-is))) puts

pub admits_tombstones : (p : List ℕ) (s : Bytes) (count used : ℕ) (w b : List ℕ) {g : Reader} {out mid out' : Bytes} {put : Option ℕ} {free : ℕ} {left : Option ℕ} {m : ℕ} {r : AnswerNumbers}
    → g ≡ read_at (last_word w) (versions_in w b) → Puts (encode (Integer (pos (live g (arguments_at 1 (count - 1) p s))))) out put mid
    → free ≡ most_bytes_word w - used_word w → left ≡ bytes_left free (total (lengths_at 1 (count - 1) p)) → m ≡ verdict_byte (verdict_left w (count - 1) left)
    → ((x : Verdict) → m ≡ verdict_byte x → r ≡ verdict_answer x put used) → ((x : Verdict) → m ≡ verdict_byte x → out' ≡ buffer_after x mid)
    → Valid w b → 1 ≤ count → PartsIn p s count → out ≡ replicate (length out) 0 → Admitted (deletion count p s w b) used out w b r out'
unfolding deletion
admits_tombstones p s count used w b {out = out} {mid} {put = put} g-is puts free-is left_is v-is r-is o_is valid h q c =
    let e = last_is w b refl refl g-is in
    admits (Integer (pos (live (last_reader w b) (arguments_at 1 (count - 1) p s))), tombstones_at 1 (count - 1) p s) w b used (count - 1)
    (same_text (ap (λ (x : Reader). encode (Integer (pos (live x (arguments_at 1 (count - 1) p s))))) (sym e)) puts)
    (sym (tombstones_count 1 (count - 1) p s))
    (left_is ∙ (λ z. bytes_left (free-is z) (sym (tombstones_size q 1 (count - 1) (omega arith)) z)))
    v-is r-is o_is valid c

module _ (p : List ℕ) (s : Bytes) (count used : ℕ) {out : Bytes} {w b : List ℕ} {r : AnswerNumbers} {out' : Bytes} (a : Admitted (deletion count p s w b) used out w b r out') where
  pub deletion_room : r.number ≡ 0 → RoomForAll w (tombstones_at 1 (count - 1) p s)
  unfolding deletion
  deletion_room z = a.room z

  pub deletion_written : {w' b' : List ℕ} → r.number ≡ 0 → w' ≡ leave_words (commit (tombstones_at 1 (count - 1) p s) (store_in w b)) w
      → b' ≡ leave_bytes (commit (tombstones_at 1 (count - 1) p s) (store_in w b)) b → Runs (deletion count p s w b) used out w b r out' w' b'
  unfolding deletion
  deletion_written z w-is b-is = admitted_written a z w-is b-is

-- COUNTERS
pub integer_text_lem : (text : Bytes) {out m₁ m₂ out' : Bytes} {p q r : Option ℕ} → Puts (58 ∷ []) out p m₁ → Adds text p m₁ q m₂ → Adds (13 ∷ 10 ∷ []) q m₂ r out' → Puts (integer_text text) out r out'
unfolding integer_text
integer_text_lem text a b c = same_text refl (then_puts (then_puts a b) c)

one_size : (k text : Bytes) → length k + length text ≡ writes_size ((k, Some text) ∷ [])
unfolding writes_size
one_size k text = sym (add-zero (length k + length text))

module _ (k text : Bytes) (used : ℕ) (w b : List ℕ) {out : Bytes} where
  pub admits_text : {mid out' : Bytes} {put : Option ℕ} {free : ℕ} {left : Option ℕ} {m : ℕ} {r : AnswerNumbers}
      → Puts (integer_text text) out put mid → free ≡ most_bytes_word w - used_word w → left ≡ bytes_left free (length k + length text)
      → m ≡ verdict_byte (verdict_left w 1 left)
      → ((x : Verdict) → m ≡ verdict_byte x → r ≡ verdict_answer x put used) → ((x : Verdict) → m ≡ verdict_byte x → out' ≡ buffer_after x mid)
      → Valid w b → out ≡ replicate (length out) 0 → AdmittedText k text used out w b r out'
  unfolding counted integer_text encode
  admits_text {put = put} {free} {left} puts free-is left_is v-is r-is o_is valid c =
      let l : left ≡ bytes_left (most_bytes_word w - used_word w) (writes_size ((k, Some text) ∷ [])) = left_is ∙ (λ i. bytes_left (free-is i) (one_size k text i)) in
      record {
        is = λ n e. admits (Integer n, (k, Some (decimal n)) ∷ []) w b used 1 (same_text (ap (λ (x : Bytes). 58 ∷ x ++ crlf) (sym e)) puts) refl
            (l ∙ ap (λ (x : Bytes). bytes_left (most_bytes_word w - used_word w) (writes_size ((k, Some x) ∷ []))) e) v-is r-is o_is valid c;
        room = λ z. accepted_room w ((k, Some text) ∷ []) refl l valid.used_fits (answer_accepted (verdict_left w 1 left) put used (r-is (verdict_left w 1 left) v-is) z);
      }

  module _ {r : AnswerNumbers} {out' : Bytes} (a : AdmittedText k text used out w b r out') where
    pub text_room : r.number ≡ 0 → RoomForOne w k (bytes_of (value_if true text))
    text_room z = pair_room refl refl (a.room z)

    pub text_written : {w' b' : List ℕ} → r.number ≡ 0 → w' ≡ leave_words (commit_one (k, value_if true text) (store_in w b)) w
        → b' ≡ leave_bytes (commit_one (k, value_if true text) (store_in w b)) b → RunsText k text used out w b r out' w' b'
    unfolding counted commit
    text_written z w-is b-is = record { is = λ n e. admitted_written (a.is n e) z (pair_words w b refl e w-is) (pair_bytes w b refl e b-is) }

-- the text of a number of i64 fits into 20 bytes
module _ {z n : ℤ} {entry exit : Bytes} {put : Option ℕ} (z-is : z ≡ n) (small : mag n < 2 ^ 63) (long : length entry ≡ 20) (p : Puts (decimal z) entry put exit) where
  pub number_fits : {A : Type 0} → put ≡ None → A
  number_fits e = let f = decimal_few n small in let g = ap (λ (x : ℤ). length (decimal x)) z-is in let h = (was_full p e).long in absurd (omega arith)

  module _ {len : ℕ} (e : put ≡ Some len) where
    pub number_within : len ≤ length exit
    number_within = let w = was_wrote p e in let k = length_kept p in omega (arith, w.fits)

    pub number_text_lem : take len exit ≡ decimal n
    number_text_lem =
        let w = was_wrote p e in
        ap (take len) w.buffer ∙ take_at (decimal z) (drop len entry) len (sym w.count) ∙ ap decimal z-is

pub number_runs : (k : Key) (n : ℤ) (text : Bytes) {used : ℕ} {out : Bytes} {w b : List ℕ} {r : AnswerNumbers} {out' w' b' : List ℕ} → text ≡ decimal n
    → RunsText k text used out w b r out' w' b' → Runs (counted k n) used out w b r out' w' b'
number_runs k n text e a = a.is n e

-- COUNTERS by the number read and the checked sum
module _ (k : Key) (by : ℤ) (w b : List ℕ) (used : ℕ) {out : Bytes} {g : Reader} (g-is : g ≡ last_reader w b) {h : Option ℤ} (h-is : h ≡ held (g k)) {r : AnswerNumbers} {out' : Bytes} where
  raised_as : {e : Effect} {w' b' : List ℕ} → raised k by h ≡ e → Runs e used out w b r out' w' b' → Runs (raised k by (held (last_reader w b k))) used out w b r out' w' b'
  raised_as {w' = w'} {b'} e-is a = subst (λ (f : Effect). Runs f used out w b r out' w' b') (sym e-is ∙ (λ z. raised k by ((h-is ∙ ap (λ (x : Reader). held (x k)) g-is) z))) a

  pub raised_no_integer : h ≡ None → Runs (fixed_reply NotInteger, []) used out w b r out' w b → Runs (raised k by (held (last_reader w b k))) used out w b r out' w b
  unfolding fixed_reply
  raised_no_integer e a = raised_as (raised_bad k by e) a

  -- m and c are n and `by` as the sum reads them
  module _ {n m c : ℤ} {sum : Option ℤ} (is : h ≡ Some n) (m-is : m ≡ n) (c-is : c ≡ by) (sum_is_lem : sum ≡ number_of (m +ℤ c)) where
    pub raised_overflow : sum ≡ None → Runs (fixed_reply Overflow, []) used out w b r out' w b → Runs (raised k by (held (last_reader w b k))) used out w b r out' w b
    unfolding fixed_reply
    raised_overflow e a = raised_as (raised_over k by is m-is c-is sum_is_lem e) a

    pub raised_runs : {x y : ℤ} {w' b' : List ℕ} → sum ≡ Some x → y ≡ x → Runs (counted k y) used out w b r out' w' b' → Runs (raised k by (held (last_reader w b k))) used out w b r out' w' b'
    unfolding counted
    raised_runs e y-is a = raised_as (raised_to k by is m-is c-is sum_is_lem e ∙ sym (ap (counted k) y-is)) a
