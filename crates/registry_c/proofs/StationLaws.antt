-- What a reading of a table names, and the numbers of a reply that is read. Assumes nothing.
use Prim.Native.Nat.{ℕ, ◌/◌}
use mathlib.Core.Path.{◌≡◌, refl, sym, ap, ◌∙◌, subst}
use mathlib.Core.List.{List}
use mathlib.Core.Logic.{◌⊎◌, inl, inr}
use lib.ListN.{length}
use Rattle.store_memtable.specs.Versions.{find_from, read_at}
use Rattle.store_memtable.specs.Layout.{last_word}
use Rattle.store_memtable.specs.Rows.{live_found, value_found, versions_in}
use Rattle.store_memtable.proofs.Rows.{read_found}
use Rattle.reply_item.specs.declared.ReplyRead.{ReplyRead}
use Rattle.reply_item.specs.declared.ReplyRead.TheVariants.{Wait, Whole, Fault, Refused}
use Rattle.reply_item.specs.Replies.{answer_of, read_reply}
use Rattle.reply_reader.specs.Table.{ReplyRefused}
use Rattle.reply_reader.proofs.Refusing.{refused}
use Rattle.registry_c.specs.declared.ReplyAnswer.{ReplyAnswer}
use Rattle.registry_c.specs.Station.{reading_of, last_reading, value_read, reply_answer, ReplyPromise}
use Rattle.std.specs.Prelude.{Option, None, Some}

-- the value that a reading names is the one that a read at the last sequence gives
pub reading_reads : (w b k : List ℕ) → value_read b (last_reading w b k) ≡ read_at (last_word w) (versions_in w b) k
unfolding last_reading reading_of
reading_reads w b k = named (live_found w (find_from 0 (versions_in w b) k (last_word w))) ∙ sym (read_found w b k (last_word w) refl)
  where
    named : (o : Option ℕ) → value_read b (reading_of w o) ≡ value_found w b o
    named (Some i) = refl
    named None = refl

-- a reply is read with 0, or with 11 or 12 and a table of zeros
pub reply_number : {input entry exit : List ℕ} {r : ReplyAnswer} → ReplyPromise input entry r exit → (r.number ≡ 0) ⊎ ReplyRefused entry r.number exit
unfolding reply_answer
reply_number {input} {entry} {exit} {r} is = go (answer_of (read_reply (length entry / 4) input)) refl
  where
    number_is : {x : ReplyRead} → answer_of (read_reply (length entry / 4) input) ≡ x → r.number ≡ (reply_answer x).number
    number_is e = ap (λ (y : ReplyAnswer). y.number) is.answer ∙ ap (λ (y : ReplyRead). (reply_answer y).number) e

    go : (x : ReplyRead) → answer_of (read_reply (length entry / 4) input) ≡ x → (r.number ≡ 0) ⊎ ReplyRefused entry r.number exit
    go Wait e = inl (number_is e)
    go (Whole used items) e = inl (number_is e)
    go (Fault offset) e = inl (number_is e)
    go (Refused k) e = inr (subst (λ (n : ℕ). ReplyRefused entry n exit) (sym (number_is e)) (refused {input = input} {entry = entry} {exit = exit} {k = k} (record { answer = sym e; table = is.table })))
