-- The end of an EXEC, from the answer, the commit and the session cleared. Assumes nothing.
use Prim.Native.Nat.{ℕ, ◌-◌, ◌≤◌}
use native.Mathlib.Omega.{arith}
use mathlib.Core.Path.{◌≡◌, refl, sym, ap, ◌∙◌, subst}
use mathlib.Core.List.{List, ◌++◌}
use lib.ListN.{length, replicate}
use Rattle.base_key.specs.Bytes.{Bytes}
use Rattle.store_memtable.specs.Table.{Write}
use Rattle.store_memtable.specs.Versions.{Store, commit}
use Rattle.store_memtable.specs.Layout.{store_in, leave_words, leave_bytes}
use Rattle.store_memtable.specs.Rows.{Valid}
use Rattle.store_memtable.proofs.Sequence.{leave_words_same, leave_bytes_same}
use Rattle.group_spec.specs.declared.Verdict.{Verdict}
use Rattle.group_spec.specs.Group.{verdict_byte}
use Rattle.group_spec.specs.Members.{list_from, write_at}
use Rattle.command_spec.specs.declared.Answer.{Answer}
use Rattle.command_spec.specs.declared.CallError.{CallError}
use Rattle.command_spec.specs.Numbers.{AnswerNumbers, answer_numbers, answer_with, error_number}
use Rattle.command_spec.specs.Session.{clear}
use Rattle.command_spec.specs.Sessions.{session_from}
use Rattle.command_spec.specs.Held.{Held, Left, cleared}
use Rattle.command_spec.specs.Finish.{Served, silent, reply_buffer}
use Rattle.session_memory.proofs.Kept.{words_kept, bytes_kept, bytes_cleared}
use Rattle.command_writes.specs.Own.{own_writes, Own}
use Rattle.command_writes.proofs.Growing.{none_writes, own_count, own_sizes}
use Rattle.store_memtable.proofs.Sequence.{Holds, holds_first, holds_valid, holds_commit, holds_count, holds_used, holds_most_versions, holds_most_bytes}
use Rattle.group_spec.specs.Settling.{RoomFor, sizes_from}
use Rattle.command_answer.specs.Answers.{refusal, put_answer}
use Rattle.exec_decision.proofs.Executes.{applied_zero, applied_number, error_numbered}
use Rattle.exec_finish.specs.declared.Prepared.{Prepared}
use Rattle.exec_finish.specs.Numbers.{PreparedNumbers, prepared_with, prepared_numbers}
use Rattle.exec_finish.specs.Leaving.{Leaves, Closes}
use Rattle.exec_finish.specs.Deciding.{Applies, Concludes}
use Rattle.command_answer.proofs.Finish.{finish_wrote, says_wrote, finish_full, full_cleared, says_number}
use Rattle.std.specs.Prelude.{Option, None, Some, Result, Ok, Err}

-- the same call under another name
renamed : {x y : Served} (out : Bytes) (w b s : List ℕ) (sb : Bytes) {r : AnswerNumbers} {out' : Bytes} {w' b' s' : List ℕ} → x ≡ y → Leaves y out w b s sb r out' w' b' s' → Leaves x out w b s sb r out' w' b' s'
renamed out w b s sb {r} {out'} {w'} {b'} {s'} e l = subst (λ (t : Served). Leaves t out w b s sb r out' w' b' s') (sym e) l

-- a number that leaves all
all_left : (n : ℕ) (out w b s sb : Bytes) {out' : Bytes} → Valid w b → Held s sb → out' ≡ replicate (length out) 0
    → Leaves (silent n 0 (store_in w b) (session_from s sb)) out w b s sb (refusal n) out' w b s
all_left n out w b s sb {out'} v h z = record {
  says = says_number n (store_in w b) (session_from s sb) out out' z;
  store = record { words = sym (leave_words_same w b v); bytes = sym (leave_bytes_same w b v) };
  session = sym (words_kept h);
  session_bytes = sym (bytes_kept h);
}

-- WITHOUT WRITES
module _ {put : Option ℕ} (used : ℕ) {s : List ℕ} where
  closes_wrote : {s' : List ℕ} {n : ℕ} → put ≡ Some n → Left cleared s s' → Closes put used s s' (record { number = 0; used = used; reply = n })
  closes_wrote e l = record {
    leaves = λ x w b out mid sb v z p h.
        renamed out w b s sb (finish_wrote x p used (store_in w b) (store_in w b) (session_from s sb) clear e)
        (record {
          says = says_wrote x p used (store_in w b) (store_in w b) (session_from s sb) clear e z;
          store = record { words = sym (leave_words_same w b v); bytes = sym (leave_bytes_same w b v) };
          session = l.is sb h;
          session_bytes = sym (bytes_cleared h);
        });
  }

  closes_full : {r : AnswerNumbers} → put ≡ None → r ≡ refusal 3 → Closes put used s s r
  closes_full {r} e r-is = record {
    leaves = λ x w b out mid sb v z p h.
        renamed out w b s sb (finish_full x p used (store_in w b) (store_in w b) (session_from s sb) clear e)
        (rw r-is (all_left 3 out w b s sb v h (full_cleared x p used (store_in w b) (store_in w b) (session_from s sb) clear e)));
  }

-- by what the answer to the reply is
pub closes_answered : (put : Option ℕ) (used : ℕ) {s s' : List ℕ} {a : Answer} → answer_numbers (Ok a) ≡ put_answer put used → Left cleared s s' → Closes put used s s' (answer_numbers (Ok a))
unfolding put_answer
closes_answered (Some n) used {s} {s'} e l = subst (λ (x : AnswerNumbers). Closes (Some n) used s s' x) (sym e) (closes_wrote used refl l)
closes_answered None used e l = let z : ◌≡◌ {A = ℕ} 0 3 = ap (λ (x : AnswerNumbers). x.number) e in absurd (omega arith)

pub closes_stopped : (put : Option ℕ) (used : ℕ) {s : List ℕ} (e : CallError) → answer_numbers (Err e) ≡ put_answer put used → Closes put used s s (answer_numbers (Err e))
unfolding put_answer
closes_stopped (Some n) used e q = absurd (error_numbered e (ap (λ (x : AnswerNumbers). x.number) q))
closes_stopped None used e q = closes_full used refl q

-- WHAT WAS DECIDED, APPLIED
module _ (ws : List Write) (used : ℕ) (w b : List ℕ) {s : List ℕ} where
  -- a number leaves all
  pub applies_number : {d : PreparedNumbers} {r : AnswerNumbers} → (d.number ≡ 0 → ⊥) → r ≡ refusal d.number → Valid w b → Applies ws d used w b s w b s r
  unfolding reply_buffer
  applies_number nz r-is v = record {
    leaves = λ f out out' sb h n m ws-is z q.
        let nz' : f.number ≡ 0 → ⊥ = λ e. nz (n ∙ e) in
        let k : length out - 0 ≡ length out = omega arith in
        renamed out w b s sb (applied_number used f (store_in w b) (session_from s sb) nz')
        (rw (r-is, n) (all_left f.number out w b s sb v h (z ∙ ap (λ (x : Bytes). x ++ replicate (length out - length x) 0) (q nz') ∙ ap (λ (i : ℕ). replicate i 0) k)));
  }

  pub applies_error : (e : CallError) → Valid w b → Applies ws (prepared_numbers (Err e)) used w b s w b s (answer_numbers (Err e))
  applies_error e v = applies_number (error_numbered e) refl v

  pub applies_writes : {V : Type 0} (byte : V → ℕ) (p : Prepared V) {w' b' s' : List ℕ} → w' ≡ leave_words (commit ws (store_in w b)) w → b' ≡ leave_bytes (commit ws (store_in w b)) b → Left cleared s s'
      → Applies ws (prepared_with byte error_number (Ok p)) used w b s w' b' s' (record { number = 0; used = used; reply = p.reply })
  applies_writes byte p w-is b-is l = record {
    leaves = λ f out out' sb h n m ws-is z q.
        renamed out w b s sb (applied_zero used f (store_in w b) (session_from s sb) (sym n))
        (record {
          says = record { answer = ap (λ (k : ℕ). record { number = 0; used = used; reply = k }) m; reply = z };
          store = record { words = w-is ∙ ap (λ (x : List Write). leave_words (commit x (store_in w b)) w) ws-is; bytes = b-is ∙ ap (λ (x : List Write). leave_bytes (commit x (store_in w b)) b) ws-is };
          session = l.is sb h;
          session_bytes = sym (bytes_cleared h);
        });
  }

  module _ {V E : Type 0} where
    pub concludes_writes : (d : Result (Prepared V) E) (p : Prepared V) {w' b' s' : List ℕ} → d ≡ Ok p → w' ≡ leave_words (commit ws (store_in w b)) w → b' ≡ leave_bytes (commit ws (store_in w b)) b → Left cleared s s'
        → Concludes ws d used w b s w' b' s' (Ok (record { used = used; reply = p.reply }))
    concludes_writes d p e w-is b-is l = rw e (record { answer = refl; applies = λ byte. applies_writes byte p w-is b-is l })

    -- with any number for the verdict and for the error
    pub concludes_number : (byte : V → ℕ) (number : E → ℕ) (d : Result (Prepared V) E) (r : Result Answer E) {w' b' s' : List ℕ} → ((e : E) → d ≡ Err e → number e ≡ 0 → ⊥) → Valid w b → Concludes ws d used w b s w' b' s' r
        → Applies ws (prepared_with byte number d) used w b s w' b' s' (answer_with number r)
    concludes_number byte number (Ok p) r nz v k = rw k.answer (k.applies byte)
    concludes_number byte number (Err e) r nz v k = rw (k.error, k.words, k.bytes, k.session) (applies_number (nz e refl) refl v)

  -- any word for the verdict, and any but 0 for the error
  pub concludes_word : (d : Result (Prepared ℕ) ℕ) (r : Result Answer ℕ) {w' b' s' : List ℕ} → (d ≡ Err 0 → ⊥) → Valid w b → Concludes ws d used w b s w' b' s' r
      → Applies ws (prepared_with (λ n. n) (λ n. n) d) used w b s w' b' s' (answer_with (λ n. n) r)
  concludes_word d r nz v k = concludes_number (λ n. n) (λ n. n) d r (λ e is z. nz (is ∙ ap Err z)) v k

  -- a call's error
  pub concludes_error : (d : Result (Prepared Verdict) CallError) (r : Result Answer CallError) {w' b' s' : List ℕ} → Valid w b → Concludes ws d used w b s w' b' s' r
      → Applies ws (prepared_numbers d) used w b s w' b' s' (answer_numbers r)
  concludes_error (Ok p) r v k = rw k.answer (k.applies verdict_byte)
  concludes_error (Err e) r v k = rw (k.error, k.words, k.bytes, k.session) (applies_error e v)

  -- where no error is handed in
  pub concludes_applies : {E : Type 0} (p : Prepared Verdict) (r : Result Answer E) {a : Answer} {w' b' s' : List ℕ} → r ≡ Ok a → Concludes ws (Ok p) used w b s w' b' s' r
      → Applies ws (prepared_numbers (Ok p)) used w b s w' b' s' (answer_numbers (Ok a))
  concludes_applies p r {a} {w'} {b'} {s'} is k =
      let same : record { used = used; reply = p.reply } ≡ a = cc (is, k.answer) in
      subst (λ (x : Answer). Applies ws (prepared_numbers (Ok p)) used w b s w' b' s' (answer_numbers (Ok x))) same (k.applies verdict_byte)

-- THE OWN WRITES as a list: committed, they leave a valid store
pub own_committed : (own : List ℕ) (d : Bytes) (rows : ℕ) (w b : List ℕ) {w' b' : List ℕ} → Own own d rows → Valid w b → RoomFor w rows (sizes_from own 0 rows)
    → w' ≡ leave_words (commit (list_from (write_at own d) 0 rows) (store_in w b)) w → b' ≡ leave_bytes (commit (list_from (write_at own d) 0 rows) (store_in w b)) b → Valid w' b'
unfolding own_writes
own_committed own d rows w b o v r p q =
    let h : Holds (store_in w b) w b w b = holds_first w b v in
    holds_valid (holds_commit h (own_writes own d rows) (record {
      counts = omega (arith, r.rows_free, own_count own d rows, holds_count h, holds_most_versions h);
      sizes = omega (arith, r.bytes_free, own_sizes o, holds_used h, holds_most_bytes h);
    }) p q)

-- without writes the store stays
no_commit : (own : List ℕ) (d : Bytes) (rows : ℕ) (w b : List ℕ) → rows ≤ 0 → commit (own_writes own d rows) (store_in w b) ≡ store_in w b
unfolding commit
no_commit own d rows w b n = let z : rows ≡ 0 = omega arith in ap (λ (x : List Write). commit x (store_in w b)) (ap (own_writes own d) z ∙ none_writes own d)

pub none_written : (own : List ℕ) (d : Bytes) (rows : ℕ) (w b : List ℕ) → Valid w b → rows ≤ 0 → w ≡ leave_words (commit (own_writes own d rows) (store_in w b)) w
none_written own d rows w b v n = sym (ap (λ (x : Store). leave_words x w) (no_commit own d rows w b n) ∙ leave_words_same w b v)

pub none_bytes : (own : List ℕ) (d : Bytes) (rows : ℕ) (w b : List ℕ) → Valid w b → rows ≤ 0 → b ≡ leave_bytes (commit (own_writes own d rows) (store_in w b)) b
none_bytes own d rows w b v n = sym (ap (λ (x : Store). leave_bytes x b) (no_commit own d rows w b n) ∙ leave_bytes_same w b v)
