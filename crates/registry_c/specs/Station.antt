-- What the calls for C and Rust return beside the published ones: a value, or a live key, as parts of the store's bytes; an answer of the reader of replies.
use Rattle.std.specs.Prelude.{◌≡◌, ℕ, suc, ◌-◌, ◌/◌, cond, List, eqb, length}
use Rattle.std.specs.Prelude.{Option, None, Some}
use Rattle.base_key.specs.Bytes.{Bytes, part}
use Rattle.store_memtable.specs.Table.{Value}
use Rattle.store_memtable.specs.Versions.{find_from}
use Rattle.store_memtable.specs.Layout.{count_word, last_word, start_word, key_word, value_word, value_start, valid_store}
use Rattle.store_memtable.specs.Rows.{live_found, versions_in}
use Rattle.store_memtable.specs.Walk.{next_live}
use Rattle.command_spec.specs.Numbers.{AnswerNumbers}
use Rattle.reply_item.specs.declared.ReplyRead.{ReplyRead}
use Rattle.reply_item.specs.declared.ReplyRead.TheVariants.{Wait, Whole, Fault, Refused}
use Rattle.reply_item.specs.Replies.{refusal_number, answer_of, table_of, read_reply}
use Rattle.exec_decision.specs.Numbers.{PreviewNumbers}
use Rattle.registry_c.specs.declared.Answered.{Answered}
use Rattle.registry_c.specs.declared.Previewed.{Previewed}
use Rattle.registry_c.specs.declared.Reading.{Reading}
use Rattle.registry_c.specs.declared.Listed.{Listed}
use Rattle.registry_c.specs.declared.ReplyAnswer.{ReplyAnswer}

-- the struct that a request returns here, as the one that the published call returns
abbrev pub answer_in : Answered → AnswerNumbers
answer_in a = record { number = a.number; used = a.used; reply = a.reply }

-- and the struct that a preview returns here
abbrev pub preview_in : Previewed → PreviewNumbers
preview_in p = record { number = p.number; verdict = p.verdict; reply = p.reply; last = p.last }

-- no value, with this number
abbrev pub no_reading : ℕ → Reading
no_reading n = record { number = n; found = 0; start = 0; size = 0 }

-- the value of version i
abbrev pub reading_at : List ℕ → ℕ → Reading
reading_at w i = record { number = 0; found = 1; start = value_start w i; size = value_word w i - 1 }

-- the value at a place that was found
unfoldable pub reading_of : List ℕ → Option ℕ → Reading
reading_of w (Some i) = reading_at w i
reading_of w None = no_reading 0

-- the value that a read at the last sequence gives
unfoldable pub last_reading : List ℕ → Bytes → Bytes → Reading
last_reading w b k = reading_of w (live_found w (find_from 0 (versions_in w b) k (last_word w)))

-- READ. 9 where the store is not valid
unfoldable pub read_call : List ℕ → Bytes → Bytes → Reading
read_call w b k = cond (valid_store w b) (last_reading w b k) (no_reading 9)

-- the value that a reading names in the store's bytes
abbrev pub value_read : Bytes → Reading → Option Value
value_read b r = cond (eqb r.found 0) None (Some (part r.start r.size b))

-- no live key, with this number
abbrev pub no_listed : ℕ → Listed
no_listed n = record { number = n; found = 0; next = 0; key_start = 0; key_size = 0; value_start = 0; value_size = 0 }

-- key and value of version i
abbrev pub listed_at : List ℕ → ℕ → Listed
listed_at w i = record {
  number = 0;
  found = 1;
  next = suc i;
  key_start = start_word w i;
  key_size = key_word w i;
  value_start = value_start w i;
  value_size = value_word w i - 1;
}

-- the live key at a place that was found
unfoldable pub listed_of : List ℕ → Option ℕ → Listed
listed_of w (Some i) = listed_at w i
listed_of w None = no_listed 0

-- the first live key at or behind the place `from`
unfoldable pub next_listed : List ℕ → Bytes → ℕ → Listed
next_listed w b from = listed_of w (next_live w b from (count_word w - from))

-- ENTRY. 9 where the store is not valid
unfoldable pub entry_call : List ℕ → Bytes → ℕ → Listed
entry_call w b from = cond (valid_store w b) (next_listed w b from) (no_listed 9)

-- READING A REPLY. The states: wait, whole, fault, and 3 with a number.
abbrev pub reply_words : ℕ → ℕ → ℕ → ℕ → ℕ → ReplyAnswer
reply_words number state used items offset = record { number = number; state = state; used = used; items = items; offset = offset }

-- an answer of the reader, in words
unfoldable pub reply_answer : ReplyRead → ReplyAnswer
reply_answer Wait = reply_words 0 0 0 0 0
reply_answer (Whole used items) = reply_words 0 1 used items 0
reply_answer (Fault offset) = reply_words 0 2 0 0 offset
reply_answer (Refused refusal) = reply_words (refusal_number refusal) 3 0 0 0

-- the answer and the whole of the lent table are those of the definition
pub record ReplyPromise (input entry : List ℕ) (r : ReplyAnswer) (exit : List ℕ) : Type 0 where
  pub answer : r ≡ reply_answer (answer_of (read_reply (length entry / 4) input))
  pub table : exit ≡ table_of (length entry) (read_reply (length entry / 4) input)
