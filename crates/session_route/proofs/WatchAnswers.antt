-- Laws of WATCH: the keys are watched with its reply, or 5, or 3. Assumes nothing.
use Prim.Native.Nat.{ℕ, ◌-◌, ◌≤◌}
use mathlib.Core.Path.{◌≡◌, sym, ap, ◌∙◌}
use mathlib.Core.Bool.{Bool, true, false, cond}
use mathlib.Core.List.{List, map}
use native.Mathlib.Omega.{arith}
use borrow.Author.Tests.{le-leb}
use lib.ListN.{length, length-map}
use Rattle.base_key.specs.Bytes.{Bytes, part, total}
use Rattle.base_key.specs.Keys.{Key}
use Rattle.base_writing.specs.Puts.{Puts}
use Rattle.resp_spec.specs.Reply.{Reply, encode, ok}
use Rattle.store_memtable.specs.Table.{Entry}
use Rattle.store_memtable.specs.Versions.{Store}
use Rattle.command_spec.specs.Numbers.{AnswerNumbers, answer_numbers}
use Rattle.command_spec.specs.declared.Answer.{Answer}
use Rattle.command_spec.specs.declared.CallError.{CallError}
use Rattle.session_memory.specs.declared.session.Session.{Session}
use Rattle.session_watch.specs.declared.watch.Watch.{Watch}
use Rattle.session_watch.specs.Grown.{watch_in, Copied, Grown}
use Rattle.session_watch.proofs.Growing.{grown_full, grown_holding, copied_is, grown_here}
use Rattle.command_spec.specs.declared.Fixed.TheVariants.{Ok as Ok'}
use Rattle.command_spec.specs.Names.{arguments, row_of, count_right, arity}
use Rattle.command_names.specs.declared.Row.{Row as CodeRow}
use Rattle.command_names.specs.Rows.{row_meant, Looked}
use Rattle.command_spec.specs.Session.{Session as Meant, Watching, watched_keys, says, returns, add_keys, watch_fits}
use Rattle.command_spec.specs.Sessions.{session_from}
use Rattle.command_spec.specs.Errors.{fixed_reply, arity_of}
use Rattle.command_spec.specs.Held.{Held}
use Rattle.command_spec.specs.Places.{arguments_at}
use Rattle.command_spec.specs.Watch.{Holding, watching_with, WatchPut}
use Rattle.session_memory.proofs.Kept.{words_kept, bytes_kept}
use Rattle.command_spec.proofs.PlaceLaws.{arguments_of, arguments_count}
use Rattle.session_memory.proofs.WatchCall.{all_watched}
use Rattle.command_spec.proofs.ErrorTexts.{arity_as_sent}
use Rattle.command_answer.specs.Answers.{refusal}
use Rattle.session_route.specs.Answers.{changing, same, Answered, Unchanged}
use Rattle.session_route.specs.Routes.{watching_at, watch_done}
use Rattle.command_answer.proofs.Finish.{Cleared}
use Rattle.session_route.proofs.Answering.{Wrote, Full, replied_with, answered_same, answered_wrote, answered_full, answered_number}
use Rattle.std.specs.Prelude.{Option, None, Some, Result}

-- the two branches, by whether the keys fit
fits_watched : (ks : List Key) (last : ℕ) (st : Store) (s : Meant) → watch_fits (watched_keys (add_keys last ks s.watch)) ≡ true
    → watching_at ks last st s ≡ says (fixed_reply Ok') st (watching_with ks last s)
unfolding watching_at fixed_reply
fits_watched ks last st s e = ap (λ (v : Bool). cond v (says ok st (watching_with ks last s)) (returns 5 st s)) e

no_room : (ks : List Key) (last : ℕ) (st : Store) (s : Meant) → watch_fits (watched_keys (add_keys last ks s.watch)) ≡ false → watching_at ks last st s ≡ returns 5 st s
unfolding watching_at
no_room ks last st s e = ap (λ (v : Bool). cond v (says ok st (watching_with ks last s)) (returns 5 st s)) e

holding_fits : {js : Watching} {lens lens' seqs seqs' : List ℕ} {text text' : Bytes} {n u : ℕ} → Holding js lens lens' seqs seqs' text text' n u → watch_fits (watched_keys js) ≡ true
unfolding watch_fits
holding_fits {js} g =
    rw (le-leb (length (watched_keys js)) 32 (omega (arith, length-map js (λ (e : Entry ℕ). e.0), g.few)), le-leb (total (map length (watched_keys js))) 2048 g.short)

-- the keys added to a copy of the session's, in working memory
abbrev from : Session → Meant
from s = session_from s.words.now s.bytes.now

module _ (s : Session) {k : Watch} (n : Watch) (c : Copied s k) (ks : List Key) (last : ℕ) (r : Option Unit) (g : Grown (add_keys last ks (watch_in k)) k n r) where
  pub watch_refused : {used : ℕ} {out : Bytes} → Cleared out → r ≡ None → Answered (watching_at ks last) s.words.now s.words.now s.bytes.now s.bytes.now used out (refusal 5) out
  watch_refused {used} {out} z e =
      let full : watch_fits (watched_keys (add_keys last ks (from s).watch)) ≡ false =
      ap (λ (y : Watching). watch_fits (watched_keys (add_keys last ks y))) (sym (copied_is s c)) ∙ grown_full (add_keys last ks (watch_in k)) k n g e in
      answered_number s.held (watching_at ks last) used z 5 (from s) (λ st. no_room ks last st (from s) full) (sym (words_kept s.held)) (sym (bytes_kept s.held))

  module _ {u : Unit} (e : r ≡ Some u) where
    held_now : Holding (add_keys last ks (from s).watch) (part 4 32 s.words.now) n.lens (part 36 32 s.words.now) n.seqs (part 0 2048 s.bytes.now) n.text n.count n.used
    held_now = grown_here s n ks last c (grown_holding (add_keys last ks (watch_in k)) k n g e)

    says_watched : (st : Store) → watching_at ks last st (from s) ≡ says (fixed_reply Ok') st (watching_with ks last (from s))
    says_watched st = fits_watched ks last st (from s) (holding_fits held_now)

    module _ {used : ℕ} {out : Bytes} (z : Cleared out) {put : Option ℕ} {out' : Bytes} (p : Puts (encode (fixed_reply Ok')) out put out') where
      pub watch_wrote : {a : Answer} → Wrote put used a → {w' : List ℕ} {b' : Bytes} → WatchPut n.lens n.seqs n.text n.count s.words.now w' s.bytes.now b'
          → Answered (watching_at ks last) s.words.now w' s.bytes.now b' used out (replied_with a) out'
      watch_wrote d kept =
          let all = all_watched s.held ks last held_now n.table.table n.table.sequences n.table.bytes kept in
          answered_wrote s.held (watching_at ks last) used z (fixed_reply Ok') (watching_with ks last (from s)) says_watched p d all.words all.bytes

      pub watch_full : {a : Result Answer CallError} → Full put a → Answered (watching_at ks last) s.words.now s.words.now s.bytes.now s.bytes.now used out (answer_numbers a) out'
      watch_full d = answered_full s.held (watching_at ks last) used z (fixed_reply Ok') (watching_with ks last (from s)) says_watched p d

-- THE ARGUMENT COUNT
module _ {word : Bytes} {row : CodeRow} (l : Looked word row) (count : ℕ) (places : List ℕ) (input : Bytes) (named : 1 ≤ count) {right : Bool} (e : right ≡ count_right (row_meant row) (count - 1)) where
  abbrev ks : List Key
  ks = arguments (arguments_at 0 count places input)

  right_as : {v : Bool} → right ≡ v → count_right (row_of word) (length ks) ≡ v
  right_as f = (λ i. count_right (sym l.is i) ((ap length (arguments_of places input count named) ∙ arguments_count 1 (count - 1) places input) i)) ∙ sym e ∙ f

  module _ {w w' : List ℕ} {b b' : Bytes} (last : ℕ) {used : ℕ} {out out' : Bytes} {r : AnswerNumbers} where
    pub count_right_lem : right ≡ true → Answered (watching_at (arguments (arguments_at 0 count places input)) last) w w' b b' used out r out'
        → Answered (watch_done (row_of word) (arguments (arguments_at 0 count places input)) last) w w' b b' used out r out'
    count_right_lem f a = answered_same (watching_at ks last) (watch_done (row_of word) ks last) (λ st s. unfold watch_done in ap (λ (v : Bool). cond v (watching_at ks last st s) (says (arity (row_of word)) st s)) (right_as f)) a

  pub count_wrong : {w : List ℕ} {b : Bytes} {used : ℕ} {out out' : Bytes} {r : AnswerNumbers} (last : ℕ) {sent : Bytes} → Held w b → right ≡ false → sent ≡ word → Unchanged (changing (arity_of sent) same) used out r out'
      → Answered (watch_done (row_of word) (arguments (arguments_at 0 count places input)) last) w w b b used out r out'
  count_wrong {w} {b} last {sent} h f is a = answered_same (changing (arity_of sent) same) (watch_done (row_of word) ks last) wrong (a.is w b h)
    where
      wrong : (st : Store) (s : Meant) → watch_done (row_of word) ks last st s ≡ changing (arity_of sent) same st s
      wrong st s = unfold watch_done changing in
          ap (λ (v : Bool). cond v (watching_at ks last st s) (says (arity (row_of word)) st s)) (right_as f)
          ∙ ap (λ (x : Reply). says x st s) (arity_as_sent word (length ks) (right_as f) ∙ ap arity_of (sym is))
