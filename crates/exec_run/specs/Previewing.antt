-- A preview of EXEC in lent memory: what it tells, and the reply buffer afterwards.
use Rattle.std.specs.Prelude.{ℕ, ◌+◌, ◌≡◌, cond, List, eqb, length}
use Rattle.base_key.specs.Bytes.{Bytes}
use Rattle.store_memtable.specs.Layout.{store_in}
use Rattle.command_spec.specs.Sessions.{session_from}
use Rattle.command_spec.specs.Finish.{reply_buffer}
use Rattle.exec_decision.specs.Numbers.{PreviewNumbers}
use Rattle.exec_decision.specs.Decided.{Decided, decide_exec, refused_preview, preview_decided}
use Rattle.exec_finish.specs.Numbers.{PreparedNumbers}

-- of what is prepared, on a store with this last sequence
unfoldable pub preview_prepared : ℕ → PreparedNumbers → PreviewNumbers
preview_prepared last p =
    cond (eqb p.number 0) (record { number = 0; verdict = p.verdict; reply = p.reply; last = last + p.rows }) (refused_preview p.number)

-- what EXEC of the session decides
unfoldable pub session_decided : ℕ → List ℕ → Bytes → List ℕ → Bytes → Decided
session_decided room s sb w b = decide_exec room (store_in w b) (session_from s sb)

-- the struct returned, and the reply buffer, before and after
pub record Previews (last : ℕ) (d : Decided) (out : Bytes) (r : PreviewNumbers) (out' : Bytes) : Type 0 where
  pub preview : r ≡ preview_decided last d
  pub reply : out' ≡ reply_buffer (length out) d.reply
