-- Demand 1: an unfit call returns one of the nine numbers, uses no bytes, gives no reply and leaves all, save the mark of a full queue.
use Rattle.std.specs.Prelude.{ℕ, ◌≤◌, List, [], ◌⊎◌, ◌≡◌, replicate}
use Rattle.base_key.specs.Bytes.{Bytes}
use Rattle.group_spec.specs.declared.Member.{Member}
use Rattle.command_spec.specs.Session.{marked}
use Rattle.command_spec.specs.Finish.{reply_buffer}
use Rattle.call_spec.specs.Serve.{Outcome}
use Rattle.call_spec.specs.Calls.{Lent, session_of, leave_session, Called, StoreCalled, open_call, request_call, preview_call, verdict_in, group_call, verdict_buffer}

-- what a returned number comes with: the whole reply buffer is zero, no verdict byte is written, and no last sequence is told
pub record Refusal (o : Outcome) : Type 0 where
  pub one : 1 ≤ o.number
  pub nine : o.number ≤ 9
  pub used : o.used ≡ 0
  pub reply : o.reply ≡ []
  pub buffer : (room : ℕ) → reply_buffer room o.reply ≡ replicate room 0
  pub verdicts : o.verdicts ≡ []
  pub verdict_bytes : (v : Bytes) → verdict_buffer o v ≡ v
  pub last : o.last ≡ 0

-- a request call; 8 is a group's
pub record RequestRefused (i : ℕ) (l : Lent) (c : Called) : Type 0 where
  pub refusal : Refusal c.outcome
  pub number : c.outcome.number ≡ 8 → ⊥
  pub left : (c.outcome.number ≡ 4 → ⊥) → c.lent ≡ l
  pub mark : c.outcome.number ≡ 4 → c.lent ≡ leave_session i (marked (session_of i l)) l

-- a preview returns 1, 9, 6, 7 or 3, each with verdict 255
pub record PreviewRefused (l : Lent) (c : Called) : Type 0 where
  pub refusal : Refusal c.outcome
  pub number : (c.outcome.number ≡ 1) ⊎ ((c.outcome.number ≡ 9) ⊎ ((c.outcome.number ≡ 6) ⊎ ((c.outcome.number ≡ 7) ⊎ (c.outcome.number ≡ 3))))
  pub verdict : verdict_in c.outcome ≡ 255
  pub left : c.lent ≡ l

-- a call that is lent the store alone
pub record StoreRefused (w : List ℕ) (b : Bytes) (c : StoreCalled) : Type 0 where
  pub refusal : Refusal c.outcome
  pub words : c.words ≡ w
  pub bytes : c.bytes ≡ b

-- demand 1, of every call; opening returns 9 alone, and a group 8 or 9
pub record Refusals : Type 0 where
  pub opens : (last versions size : ℕ) (w : List ℕ) (b : Bytes) → ((open_call last versions size w b).outcome.number ≡ 0 → ⊥) →
      StoreRefused w b (open_call last versions size w b) × ((open_call last versions size w b).outcome.number ≡ 9)
  pub requests : (i : ℕ) (s : Bytes) (places room : ℕ) (l : Lent) → ((request_call i s places room l).outcome.number ≡ 0 → ⊥) →
      RequestRefused i l (request_call i s places room l)
  pub groups : (ms : List Member) (parts : List ℕ) (d v : Bytes) (w : List ℕ) (b : Bytes) →
      ((group_call ms parts d v w b).outcome.number ≡ 0 → ⊥) →
      StoreRefused w b (group_call ms parts d v w b)
      × (((group_call ms parts d v w b).outcome.number ≡ 8) ⊎ ((group_call ms parts d v w b).outcome.number ≡ 9))
  pub previews : (i room : ℕ) (l : Lent) → ((preview_call i room l).outcome.number ≡ 0 → ⊥) → PreviewRefused l (preview_call i room l)
