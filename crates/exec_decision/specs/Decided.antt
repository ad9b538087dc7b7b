-- EXEC as bytes in a lent reply buffer: what is decided of it, that applied, and a preview of it (document 02, R-6).
use Rattle.std.specs.Prelude.{ℕ, ◌+◌, cond, List, [], leb, eqb, length}
use Rattle.std.specs.Prelude.{Option, None, Some}
use Rattle.base_key.specs.Bytes.{Bytes, bytes}
use Rattle.resp_spec.specs.Reply.{encode, err}
use Rattle.store_memtable.specs.Table.{Write}
use Rattle.store_memtable.specs.Versions.{Store, commit}
use Rattle.group_spec.specs.declared.Verdict.{Verdict}
use Rattle.group_spec.specs.declared.Verdict.TheVariants.{Accepted, Conflict, NoRoom, NoSequence, NotTaken}
use Rattle.group_spec.specs.Group.{verdict_byte}
use Rattle.command_spec.specs.Names.{Args}
use Rattle.command_spec.specs.Session.{Session, clear, Decision, decide}
use Rattle.command_spec.specs.Finish.{Served, silent}
use Rattle.exec_decision.specs.Numbers.{PreviewNumbers}

-- EXEC DECIDED, what `decide` gives as bytes: 0 or a number, the verdict byte (255: none is reached), the reply, and the writes
pub record Decided : Type 0 where
  pub number : ℕ
  pub verdict : ℕ
  pub reply : Bytes
  pub writes : List Write

-- a number comes without verdict, reply and writes
abbrev pub stopped : ℕ → Decided
stopped n = record { number = n; verdict = 255; reply = []; writes = [] }

-- 3: a reply longer than its buffer
unfoldable pub decided_reply : ℕ → Verdict → Bytes → List Write → Decided
decided_reply room v b ws = cond (leb (length b) room) (record { number = 0; verdict = verdict_byte v; reply = b; writes = ws }) (stopped 3)

-- by the verdict; only an accepted EXEC writes
unfoldable pub decided_by : Verdict → ℕ → Decision → Decided
decided_by Accepted room d = decided_reply room Accepted (encode d.answer) d.writes
decided_by Conflict room d = decided_reply room Conflict (encode d.answer) []
decided_by NoRoom room d = stopped 6
decided_by NoSequence room d = stopped 7
decided_by NotTaken room d = decided_reply room NotTaken (encode d.answer) []

-- EXEC of a queue, by what it decides
unfoldable pub decide_queue : ℕ → List Args → Store → Session → Decided
decide_queue room q st s = let d = decide q st s in decided_by d.verdict room d

-- EXEC of a session, by its queue: without MULTI no verdict is reached
unfoldable pub decide_by : Option (List Args) → ℕ → Store → Session → Decided
decide_by None room st s = decided_reply room NotTaken (encode (err (bytes "EXEC without MULTI"))) []
decide_by (Some q) room st s = decide_queue room q st s

-- EXEC of a session
unfoldable pub decide_exec : ℕ → Store → Session → Decided
decide_exec room st s = decide_by s.queue room st s

-- EXEC OF A QUEUE APPLIED: what was decided is written, and the session cleared; a number leaves all
unfoldable pub applied : ℕ → Decided → Store → Session → Served
applied used d st s =
    cond (eqb d.number 0) (record { number = 0; used = used; reply = d.reply; store = commit d.writes st; session = clear }) (silent d.number 0 st s)

-- A PREVIEW: the struct that it returns. With a number: verdict 255 and last sequence 0
abbrev pub refused_preview : ℕ → PreviewNumbers
refused_preview n = record { number = n; verdict = 255; reply = 0; last = 0 }

-- of what was decided, on a store with this last sequence: the last sequence that EXEC would leave
unfoldable pub preview_decided : ℕ → Decided → PreviewNumbers
preview_decided last d =
    cond (eqb d.number 0) (record { number = 0; verdict = d.verdict; reply = length d.reply; last = last + length d.writes }) (refused_preview d.number)
