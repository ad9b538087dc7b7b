-- What the verdict, the reply and the commit of a command make together: what `effect_served` says. Assumes nothing.
use Prim.Native.Nat.{ℕ, ◌+◌, ◌-◌, ◌^◌, ◌≤◌, ◌<◌}
use native.Mathlib.Omega.{arith}
use mathlib.Core.Path.{◌≡◌, refl, sym, ap, ◌∙◌}
use mathlib.Core.Bool.{Bool, true, false, cond, ◌&&◌}
use mathlib.Core.List.{List, []}
use lib.Dec.{leb, ltb}
use lib.ListN.{length, replicate}
use borrow.Author.Tests.{le-leb, lt-leb, lt-ltb, leb-true, ltb-true}
use Rattle.base_key.specs.Bytes.{Bytes}
use Rattle.base_writing.specs.Puts.{Puts}
use Rattle.base_writing.proofs.Puts.{length_kept}
use Rattle.resp_spec.specs.Reply.{Reply, encode}
use Rattle.store_memtable.specs.Table.{Write}
use Rattle.store_memtable.specs.Versions.{writes_size, commit}
use Rattle.store_memtable.specs.Layout.{count_word, used_word, last_word, most_versions_word, most_bytes_word, store_in, leave_words, leave_bytes}
use Rattle.store_memtable.specs.Rows.{Valid, room_in, bytes_left}
use Rattle.store_memtable.proofs.Opening.{room_is}
use Rattle.store_memtable.proofs.Sequence.{leave_words_same, leave_bytes_same}
use Rattle.group_spec.specs.declared.Verdict.{Verdict}
use Rattle.group_spec.specs.declared.Verdict.TheVariants.{Accepted, Conflict, NoRoom, NoSequence, NotTaken}
use Rattle.group_spec.specs.Group.{plain, conflicts, has_room, has_sequences, judge, verdict_alone, verdict_byte}
use Rattle.group_spec.proofs.SizeLaws.{left_rest, rest_within, short_above}
use Rattle.command_spec.specs.Numbers.{AnswerNumbers, error_number, number_with}
use Rattle.command_spec.specs.declared.CallError.{CallError}
use Rattle.command_spec.specs.declared.CallError.TheVariants.{NoSession, TooManyArguments, ReplyTooLong, QueueFull, WatchFull, GroupUnfit, MemoryUnfit}
use Rattle.command_spec.specs.declared.CallError.TheVariants as error
use Rattle.command_spec.specs.Command.{Effect}
use Rattle.command_spec.specs.Session.{Session, committed}
use Rattle.command_spec.specs.Finish.{silent, finish, finish_by, Says, StoreLeft}
use Rattle.command_room.specs.Writes.{RoomForAll, verdict_left, verdict_answer}
use Rattle.command_answer.specs.Answers.{refusal, put_answer}
use Rattle.command_room.specs.Served.{buffer_after, effect_served, Runs}
use Rattle.command_answer.proofs.Finish.{Cleared, finish_wrote, says_wrote, finish_full, full_cleared, says_number}
use Rattle.std.specs.Prelude.{Option, None, Some, Result, Ok, Err}

-- THE VERDICT of writes without a read sequence
module _ (w b : List ℕ) (v : Valid w b) (ws : List Write) where
  alone_is : verdict_alone (store_in w b) (plain ws)
      ≡ cond (room_in w (length ws) (writes_size ws)) (cond (ltb (last_word w + length ws) (2 ^ 64)) Accepted NoSequence) NoRoom
  unfolding verdict_alone judge conflicts has_room has_sequences store_in
  alone_is = ap (λ (t : Bool). cond t (cond (ltb (last_word w + length ws) (2 ^ 64)) Accepted NoSequence) NoRoom) (sym (room_is w b (length ws) (writes_size ws) v))

  pub verdict_is : {n : ℕ} {l : Option ℕ} → n ≡ length ws → l ≡ bytes_left (most_bytes_word w - used_word w) (writes_size ws)
      → verdict_left w n l ≡ verdict_alone (store_in w b) (plain ws)
  unfolding verdict_left room_in
  verdict_is {n} {l} n-is l-is = ap (λ (m : ℕ). verdict_left w m l) n-is ∙ go l l-is ∙ sym alone_is
    where
      and_true : (t : Bool) → (t && true) ≡ t
      and_true true = refl
      and_true false = refl

      and-false : (t : Bool) → (t && false) ≡ false
      and-false true = refl
      and-false false = refl

      ends : Verdict
      ends = cond (ltb (last_word w + length ws) (2 ^ 64)) Accepted NoSequence

      rows : Bool
      rows = leb (count_word w + length ws) (most_versions_word w)

      go : (o : Option ℕ) → o ≡ bytes_left (most_bytes_word w - used_word w) (writes_size ws)
          → verdict_left w (length ws) o ≡ cond (rows && leb (used_word w + writes_size ws) (most_bytes_word w)) ends NoRoom
      go (Some k) e =
          let r = rest_within (most_bytes_word w - used_word w) (writes_size ws) k (sym e) in
          let u = v.used_fits in
          rw (le-leb (used_word w + writes_size ws) (most_bytes_word w) (omega (arith, r.0))) (ap (λ (t : Bool). cond t ends NoRoom) (sym (and_true rows)))
      go None e =
          let r = short_above (most_bytes_word w - used_word w) (writes_size ws) (sym e) in
          rw (lt-leb (used_word w + writes_size ws) (most_bytes_word w) (omega (arith, r))) (ap (λ (t : Bool). cond t ends NoRoom) (sym (and-false rows)))

-- room where the writes are accepted
pub accepted_room : (w : List ℕ) (ws : List Write) {n : ℕ} {l : Option ℕ} → n ≡ length ws → l ≡ bytes_left (most_bytes_word w - used_word w) (writes_size ws)
    → used_word w ≤ most_bytes_word w → verdict_left w n l ≡ Accepted → RoomForAll w ws
unfolding verdict_left
accepted_room w ws {n} {l} n-is l-is u e = go l l-is e (leb (count_word w + n) (most_versions_word w)) refl (ltb (last_word w + n) (2 ^ 64)) refl
  where
    no : {A : Type 0} {x : Verdict} → (x ≡ NoRoom) → (x ≡ Accepted) → A
    no p q = let z : ◌≡◌ {A = ℕ} 0 1 = cc in absurd (omega arith)

    go : (o : Option ℕ) → o ≡ bytes_left (most_bytes_word w - used_word w) (writes_size ws) → verdict_left w n o ≡ Accepted
        → (r : Bool) → leb (count_word w + n) (most_versions_word w) ≡ r → (t : Bool) → ltb (last_word w + n) (2 ^ 64) ≡ t → RoomForAll w ws
    go (Some k) p q true r true t =
        let f = rest_within (most_bytes_word w - used_word w) (writes_size ws) k (sym p) in
        let a = leb-true (count_word w + n) (most_versions_word w) r in
        let c = ltb-true (last_word w + n) (2 ^ 64) t in
        record { rows_free = omega (arith, a); bytes_free = omega (arith, f.0); seqs_free = omega (arith, c) }
    go (Some k) p q true r false t = let x = rw (r, t) at q in let z : ◌≡◌ {A = ℕ} 0 1 = cc in absurd (omega arith)
    go (Some k) p q false r s t = let x = rw r at q in let z : ◌≡◌ {A = ℕ} 0 1 = cc in absurd (omega arith)
    go None p q r a t c = let z : ◌≡◌ {A = ℕ} 0 1 = cc in absurd (omega arith)

-- THE CALL: a reply put into a cleared buffer, a verdict, and the answer that they make
module _ (e : Effect) (w b : List ℕ) (used : ℕ) {out mid : Bytes} {put : Option ℕ} {v : Verdict}
    (p : Puts (encode e.0) out put mid) (v-is : v ≡ verdict_alone (store_in w b) (plain e.1)) where
  served : (s : Session) → effect_served (length out) used e (store_in w b) s ≡ finish (length out) used (committed v e (store_in w b) s) (store_in w b) s
  unfolding effect_served
  served s = ap (λ (x : Verdict). finish (length out) used (committed x e (store_in w b) s) (store_in w b) s) (sym v-is)

  -- a number that leaves all
  refused : (n : ℕ) (s : Session) {r : AnswerNumbers} {out' : Bytes} → Valid w b → finish (length out) used (committed v e (store_in w b) s) (store_in w b) s ≡ silent n 0 (store_in w b) s
      → r ≡ refusal n → out' ≡ replicate (length out) 0
      → Says (effect_served (length out) used e (store_in w b) s) out r out' × StoreLeft (effect_served (length out) used e (store_in w b) s) w b w b
  refused n s {r} {out'} val f r-is o_is =
      rw (served s, f) (
        rw r-is (says_number n (store_in w b) s out out' o_is),
        record { words = sym (leave_words_same w b val); bytes = sym (leave_bytes_same w b val) },
      )

  runs_by : {r : AnswerNumbers} {out' w' b' : List ℕ}
      → ((s : Session) → Says (effect_served (length out) used e (store_in w b) s) out r out' × StoreLeft (effect_served (length out) used e (store_in w b) s) w b w' b')
      → Runs e used out w b r out' w' b'
  runs_by f = record { says = λ s. (f s).0; left = λ s. (f s).1 }

  buffer_cleared : {out' : Bytes} (x : Verdict) → out' ≡ buffer_after x mid → buffer_after x mid ≡ replicate (length mid) 0 → out' ≡ replicate (length out) 0
  buffer_cleared x o_is c = o_is ∙ c ∙ ap (λ (n : ℕ). replicate n 0) (length_kept p)

  -- number 0: the writes are accepted, the reply fits, and the writes are committed
  pub runs_written : {r : AnswerNumbers} {out' w' b' : List ℕ} → Cleared out → r ≡ verdict_answer v put used → r.number ≡ 0 → out' ≡ buffer_after v mid
      → w' ≡ leave_words (commit e.1 (store_in w b)) w → b' ≡ leave_bytes (commit e.1 (store_in w b)) b → Runs e used out w b r out' w' b'
  unfolding verdict_answer put_answer buffer_after
  runs_written {r} {out'} {w'} {b'} cleared r-is zero o_is w-is b-is = runs_by (λ s. go v refl put refl s r-is (ap (λ (x : AnswerNumbers). x.number) (sym r-is) ∙ zero) o_is)
    where
      Both : Session → Type 0
      Both s = Says (effect_served (length out) used e (store_in w b) s) out r out' × StoreLeft (effect_served (length out) used e (store_in w b) s) w b w' b'

      go : (x : Verdict) → v ≡ x → (q : Option ℕ) → put ≡ q → (s : Session) → r ≡ verdict_answer x q used → (verdict_answer x q used).number ≡ 0 → out' ≡ buffer_after x mid → Both s
      go Accepted x-is (Some k) q-is s a z o =
          rw (served s, x-is) (unfold committed in
          rw (finish_wrote e.0 p used (store_in w b) (commit e.1 (store_in w b)) s s q-is, a, o)
          (says_wrote e.0 p used (store_in w b) (commit e.1 (store_in w b)) s s q-is cleared, record { words = w-is; bytes = b-is }))
      go Accepted x-is None q-is s a z o = absurd (omega arith)
      go Conflict x-is q q-is s a z o = absurd (omega arith)
      go NoRoom x-is q q-is s a z o = absurd (omega arith)
      go NoSequence x-is q q-is s a z o = absurd (omega arith)
      go NotTaken x-is q q-is s a z o = absurd (omega arith)

  -- any other number leaves all
  pub runs_refused : {r : AnswerNumbers} {out' : List ℕ} → Valid w b → r ≡ verdict_answer v put used → (r.number ≡ 0 → ⊥) → out' ≡ buffer_after v mid
      → Runs e used out w b r out' w b
  unfolding verdict_answer put_answer buffer_after
  runs_refused {r} {out'} val r-is some o_is = runs_by (λ s. go v refl put refl s r-is o_is)
    where
      Both : Session → Type 0
      Both s = Says (effect_served (length out) used e (store_in w b) s) out r out' × StoreLeft (effect_served (length out) used e (store_in w b) s) w b w b

      go : (x : Verdict) → v ≡ x → (q : Option ℕ) → put ≡ q → (s : Session) → r ≡ verdict_answer x q used → out' ≡ buffer_after x mid → Both s
      go Accepted x-is (Some k) q-is s a o = absurd (some (ap (λ (y : AnswerNumbers). y.number) a))
      go Accepted x-is None q-is s a o =
          refused 3 s val (rw x-is (unfold committed in finish_full e.0 p used (store_in w b) (commit e.1 (store_in w b)) s s q-is)) a
          (o ∙ full_cleared e.0 p used (store_in w b) (commit e.1 (store_in w b)) s s q-is)
      go Conflict x-is q q-is s a o = refused 1 s val (rw x-is (unfold committed finish finish_by in refl)) a (buffer_cleared Conflict o refl)
      go NoRoom x-is q q-is s a o = refused 6 s val (rw x-is (unfold committed finish finish_by in refl)) a (buffer_cleared NoRoom o refl)
      go NoSequence x-is q q-is s a o = refused 7 s val (rw x-is (unfold committed finish finish_by in refl)) a (buffer_cleared NoSequence o refl)
      go NotTaken x-is q q-is s a o = refused 255 s val (rw x-is (unfold committed finish finish_by in refl)) a (buffer_cleared NotTaken o refl)

-- number 0: the verdict is Accepted
pub answer_accepted : (v : Verdict) (put : Option ℕ) (used : ℕ) {r : AnswerNumbers} → r ≡ verdict_answer v put used → r.number ≡ 0 → v ≡ Accepted
unfolding verdict_answer
answer_accepted v put used r-is zero = go v (ap (λ (x : AnswerNumbers). x.number) (sym r-is) ∙ zero)
  where
    go : (x : Verdict) → (verdict_answer x put used).number ≡ 0 → x ≡ Accepted
    go Accepted z = refl
    go Conflict z = absurd (omega arith)
    go NoRoom z = absurd (omega arith)
    go NoSequence z = absurd (omega arith)
    go NotTaken z = absurd (omega arith)

-- THE ANSWER by what the look at the room gave
pub error_some : (e : CallError) → error_number e ≡ 0 → ⊥
error_some NoSession z = absurd (omega arith)
error_some TooManyArguments z = absurd (omega arith)
error_some ReplyTooLong z = absurd (omega arith)
error_some QueueFull z = absurd (omega arith)
error_some WatchFull z = absurd (omega arith)
error_some error.NoRoom z = absurd (omega arith)
error_some error.NoSequence z = absurd (omega arith)
error_some GroupUnfit z = absurd (omega arith)
error_some MemoryUnfit z = absurd (omega arith)

module _ {A E : Type 0} (number : E → ℕ) {checked : Result A E} {e : E} (some : number e ≡ 0 → ⊥) (is : checked ≡ Err e) (v : Verdict) (n-is : number_with number checked ≡ verdict_byte v) where
  byte_is : number e ≡ verdict_byte v
  byte_is = sym (ap (number_with number) is) ∙ n-is

  pub answer_refused : (put : Option ℕ) (used : ℕ) → refusal (number e) ≡ verdict_answer v put used
  unfolding verdict_answer
  answer_refused put used = go v byte_is
    where
      go : (x : Verdict) → number e ≡ verdict_byte x → refusal (number e) ≡ verdict_answer x put used
      go Accepted b = absurd (some b)
      go Conflict b = ap refusal b
      go NoRoom b = ap refusal b
      go NoSequence b = ap refusal b
      go NotTaken b = ap refusal b

  pub buffer_refused : (mid : Bytes) {out : Bytes} → out ≡ replicate (length mid) 0 → out ≡ buffer_after v mid
  unfolding buffer_after
  buffer_refused mid o_is = o_is ∙ go v byte_is
    where
      go : (x : Verdict) → number e ≡ verdict_byte x → replicate (length mid) 0 ≡ buffer_after x mid
      go Accepted b = absurd (some b)
      go Conflict b = refl
      go NoRoom b = refl
      go NoSequence b = refl
      go NotTaken b = refl

module _ {A E : Type 0} (number : E → ℕ) {checked : Result A E} {a : A} (is : checked ≡ Ok a) (v : Verdict) (n-is : number_with number checked ≡ verdict_byte v) where
  accepted_is : v ≡ Accepted
  accepted_is = go v (sym n-is ∙ ap (number_with number) is)
    where
      go : (x : Verdict) → verdict_byte x ≡ 0 → x ≡ Accepted
      go Accepted z = refl
      go Conflict z = absurd (omega arith)
      go NoRoom z = absurd (omega arith)
      go NoSequence z = absurd (omega arith)
      go NotTaken z = absurd (omega arith)

  pub answer_put : (put : Option ℕ) (used : ℕ) {r : AnswerNumbers} → r ≡ put_answer put used → r ≡ verdict_answer v put used
  unfolding verdict_answer
  answer_put put used r-is = r-is ∙ rw accepted_is

  pub buffer_put : (mid : Bytes) → mid ≡ buffer_after v mid
  unfolding buffer_after
  buffer_put mid = rw accepted_is

-- A COMMAND THAT WRITES NOTHING is accepted, and leaves the store
nothing_accepted : (w b : List ℕ) → Valid w b → last_word w < 2 ^ 64 → Accepted ≡ verdict_alone (store_in w b) (plain [])
unfolding verdict_left writes_size
nothing_accepted w b v h =
    let c : leb (count_word w + 0) (most_versions_word w) ≡ true = le-leb (count_word w + 0) (most_versions_word w) (omega (arith, v.count_fits)) in
    let l : ltb (last_word w + 0) (2 ^ 64) ≡ true = lt-ltb (last_word w + 0) (2 ^ 64) (omega arith) in
    sym (rw (c, l)) ∙ verdict_is w b v [] {n = 0} {l = Some (most_bytes_word w - used_word w - 0)} refl (sym (left_rest (most_bytes_word w - used_word w) 0 (omega arith)))

pub runs_quiet : (p : Reply) (w b : List ℕ) (used : ℕ) {out out' : Bytes} {put : Option ℕ} {r : AnswerNumbers} → Valid w b → last_word w < 2 ^ 64 → Cleared out
    → Puts (encode p) out put out' → r ≡ put_answer put used → Runs (p, []) used out w b r out' w b
unfolding verdict_answer buffer_after put_answer commit
runs_quiet p w b used {out} {out'} {put} {r} val h cleared puts r-is = go put refl r-is
  where
    number_wrote : {k : ℕ} → r ≡ put_answer (Some k) used → r.number ≡ 0
    number_wrote a = ap (λ (x : AnswerNumbers). x.number) a

    number_full : r ≡ put_answer None used → r.number ≡ 3
    number_full a = ap (λ (x : AnswerNumbers). x.number) a

    go : (q : Option ℕ) → put ≡ q → r ≡ put_answer q used → Runs (p, []) used out w b r out' w b
    go (Some k) e a =
        runs_written (p, []) w b used puts (nothing_accepted w b val h) cleared r-is (number_wrote a) refl
        (sym (leave_words_same w b val)) (sym (leave_bytes_same w b val))
    go None e a =
        runs_refused (p, []) w b used puts (nothing_accepted w b val h) val r-is
        (λ z. let n = number_full a in omega arith) refl
