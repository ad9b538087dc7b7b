-- EXEC in two parts: what was decided, in lent working memory, and what applying it leaves.
use Rattle.std.specs.Prelude.{ℕ, ◌≤◌, ◌≡◌, Bool, cond, List, [], length, take, replicate}
use Rattle.base_key.specs.Bytes.{Bytes}
use Rattle.store_memtable.specs.Table.{Write}
use Rattle.store_memtable.specs.Layout.{count_word, used_word, most_versions_word, most_bytes_word, store_in}
use Rattle.group_spec.specs.Settling.{RoomFor, sizes_from}
use Rattle.command_spec.specs.declared.Answer.{Answer}
use Rattle.command_spec.specs.declared.CallError.{CallError}
use Rattle.command_spec.specs.declared.CallError.TheVariants.{ReplyTooLong}
use Rattle.command_spec.specs.Numbers.{AnswerNumbers, error_number}
use Rattle.command_spec.specs.Sessions.{session_from}
use Rattle.command_spec.specs.Held.{Held}
use Rattle.command_spec.specs.Finish.{reply_buffer}
use Rattle.command_writes.specs.Own.{own_writes, Own}
use Rattle.exec_decision.specs.Decided.{Decided, applied}
use Rattle.exec_finish.specs.declared.Prepared.{Prepared}
use Rattle.exec_finish.specs.Numbers.{PreparedNumbers, prepared_with}
use Rattle.exec_finish.specs.Leaving.{Leaves}
use Rattle.std.specs.Prelude.{Option, None, Some, Result, Ok, Err, MatchResult}

-- a number: no verdict, no reply, no writes
abbrev pub halted : ℕ → PreparedNumbers
halted n = record { number = n; verdict = 255; reply = 0; rows = 0; end = 0 }

-- a reply that was put, with its verdict and its writes, or 3
unfoldable pub prepared_by : Option ℕ → ℕ → ℕ → ℕ → PreparedNumbers
prepared_by (Some n) verdict rows end = record { number = 0; verdict = verdict; reply = n; rows = rows; end = end }
prepared_by None verdict rows end = halted 3

-- a reply that was put, with any verdict and its writes, or 3
unfoldable pub prepared_as : {V : Type 0} → Option ℕ → V → ℕ → ℕ → Result (Prepared V) CallError
prepared_as (Some n) verdict rows end = Ok (record { verdict = verdict; reply = n; rows = rows; end = end })
prepared_as None verdict rows end = Err ReplyTooLong

-- after the queue, by room and sequences
unfoldable pub judged_by : Bool → Bool → Option ℕ → ℕ → ℕ → PreparedNumbers
judged_by room sequences put rows end = cond room (cond sequences (prepared_by put 0 rows end) (halted 7)) (halted 6)

-- 6 and 7 clear the reply buffer
unfoldable pub judged_buffer : Bool → Bool → Bytes → Bytes
judged_buffer room sequences out = cond room (cond sequences out (replicate (length out) 0)) (replicate (length out) 0)

-- what is decided after the queue, and the reply buffer, before and after
pub record Judges (room sequences : Bool) (put : Option ℕ) (rows end : ℕ) (out : Bytes) (r : PreparedNumbers) (out' : Bytes) : Type 0 where
  pub prepared : r ≡ judged_by room sequences put rows end
  pub buffer : out' ≡ judged_buffer room sequences out

-- the counts of a store are within its capacities
pub record Counted (w : List ℕ) : Type 0 where
  pub words : 5 ≤ length w
  pub count_fits : count_word w ≤ most_versions_word w
  pub used_fits : used_word w ≤ most_bytes_word w

-- DECIDED: `own` and the data hold the writes, and there is room for them; the reply stands in its buffer
pub record Decides (f : Decided) (w : List ℕ) (out : Bytes) (own : List ℕ) (d : Bytes) (r : PreparedNumbers) (out' : Bytes) : Type 0 where
  pub number : r.number ≡ f.number
  pub verdict : r.verdict ≡ f.verdict
  pub size : r.reply ≡ length f.reply
  pub reply : out' ≡ reply_buffer (length out) f.reply
  pub used_in : r.end ≤ length d
  pub kept : Own own (take r.end d) r.rows
  pub writes : own_writes own (take r.end d) r.rows ≡ f.writes
  pub room : RoomFor w r.rows (sizes_from own 0 r.rows)

-- APPLIED: the answer, the store and the words of the session, where this was decided; a number comes without reply
pub record Applies (ws : List Write) (d : PreparedNumbers) (used : ℕ) (w b s w' b' s' : List ℕ) (r : AnswerNumbers) : Type 0 where
  pub leaves : (f : Decided) (out out' sb : Bytes) → Held s sb → d.number ≡ f.number → d.reply ≡ length f.reply → ws ≡ f.writes → out' ≡ reply_buffer (length out) f.reply
      → ((f.number ≡ 0 → ⊥) → f.reply ≡ []) → Leaves (applied used f (store_in w b) (session_from s sb)) out w b s sb r out' w' b' s'

-- applied, it is answered
pub record Answered {V E : Type 0} (ws : List Write) (p : Prepared V) (used : ℕ) (w b s w' b' s' : List ℕ) (r : Result Answer E) : Type 0 where
  pub answer : r ≡ Ok (record { used = used; reply = p.reply })
  pub applies : (byte : V → ℕ) → Applies ws (prepared_with byte error_number (Ok p)) used w b s w' b' s' (record { number = 0; used = used; reply = p.reply })

-- an error is told, and all stays
pub record Stays {E : Type 0} (e : E) (w b s w' b' s' : List ℕ) (r : Result Answer E) : Type 0 where
  pub error : r ≡ Err e
  pub words : w' ≡ w
  pub bytes : b' ≡ b
  pub session : s' ≡ s

-- THE END: what is prepared is applied, with any verdict, or any error stays
abbrev pub Concludes : {V E : Type 0} → List Write → Result (Prepared V) E → ℕ → List ℕ → List ℕ → List ℕ → List ℕ → List ℕ → List ℕ → Result Answer E → Type 0
Concludes ws d used w b s w' b' s' r = MatchResult d (λ p. Answered ws p used w b s w' b' s' r) (λ e. Stays e w b s w' b' s' r)
