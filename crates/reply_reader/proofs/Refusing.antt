-- The numbers that the reader returns are 11 and 12. Assumes nothing.
use mathlib.Core.Path.{◌≡◌, refl, ap, ◌∙◌}
use mathlib.Core.List.{List}
use mathlib.Core.Logic.{◌⊎◌, inl, inr}
use Prim.Native.Nat.{ℕ, ◌/◌}
use native.Mathlib.Omega.{arith}
use lib.ListN.{length}
use Rattle.base_key.specs.Bytes.{Bytes}
use Rattle.reply_item.specs.declared.Refusal.{Refusal}
use Rattle.reply_item.specs.declared.Refusal.TheVariants.{NoPlace, TooDeep}
use Rattle.reply_item.specs.declared.ReplyRead.TheVariants.{Refused}
use Rattle.reply_item.specs.Replies.{refusal_number, ReplyReading, waits, faulty, returns, whole, read_reply, answer_of, table_of}
use Rattle.reply_reader.specs.Table.{ReplyIs, ReplyRefused}

numbered : (k : Refusal) → (refusal_number k ≡ 11) ⊎ (refusal_number k ≡ 12)
unfolding refusal_number
numbered NoPlace = inl refl
numbered TooDeep = inr refl

-- THE THEOREM: no other number is returned
pub returns_number : (places : ℕ) (s : Bytes) {k : Refusal} → read_reply places s ≡ returns k → (refusal_number k ≡ 11) ⊎ (refusal_number k ≡ 12)
returns_number places s {k} e = numbered k

-- and with it the lent table is zero
pub refused : {input entry exit : List ℕ} {k : Refusal} → ReplyIs input entry (Refused k) exit → ReplyRefused entry (refusal_number k) exit
unfolding answer_of table_of
refused {input} {entry} {exit} {k} is = go (read_reply (length entry / 4) input) refl is.answer
  where
    go : (r : ReplyReading) → read_reply (length entry / 4) input ≡ r → Refused k ≡ answer_of r → ReplyRefused entry (refusal_number k) exit
    go waits e a = let z : ◌≡◌ {A = ℕ} 0 1 = cc in absurd (omega arith)
    go (faulty at) e a = let z : ◌≡◌ {A = ℕ} 0 1 = cc in absurd (omega arith)
    go (whole js end) e a = let z : ◌≡◌ {A = ℕ} 0 1 = cc in absurd (omega arith)
    go (returns m) e a = record { number = numbered k; zeros = is.table ∙ ap (table_of (length entry)) e }
