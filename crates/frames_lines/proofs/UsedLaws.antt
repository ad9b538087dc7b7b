-- A call that uses no bytes has no reply; one that uses some, and returns no number, has one. Assumes nothing.
use Prim.Native.Nat.{ℕ, ◌≤◌, ◌<◌}
use native.Mathlib.Omega.{arith}
use mathlib.Core.Path.{◌≡◌, refl}
use mathlib.Core.Bool.{Bool, true, false, cond}
use mathlib.Core.List.{[], ◌∷◌, map}
use lib.Dec.{leb}
use lib.ListN.{length}
use Rattle.base_key.specs.Bytes.{Bytes}
use Rattle.resp_spec.specs.Request.{Reading, waits, faulty, too_many, whole, spanned, read_request}
use Rattle.resp_spec.specs.Reply.{Reply, encode}
use Rattle.resp_spec.proofs.Used.{UsesMost, request_uses, encode_some}
use Rattle.store_memtable.specs.Versions.{Store}
use Rattle.command_spec.specs.Session.{Session, Result, number, reply, Done, clear, says, respond}
use Rattle.command_spec.specs.Finish.{Served, silent, fitted, finish_by, finish}
use Rattle.call_spec.specs.Serve.{protocol_error, serve_reading, serve}

-- NO BYTES USED, NO REPLY
finish_silent : (room used : ℕ) (d : Done) (st : Store) (s : Session) → 1 ≤ used → (finish room used d st s).used ≡ 0 → (finish room used d st s).reply ≡ []
unfolding finish finish_by fitted
finish_silent room used d st s h = go d.result
  where
    fits : (t : Bool) (b : Bytes)
        → (cond {A = Served} t (record { number = 0; used = used; reply = b; store = d.store; session = d.session }) (silent 3 0 st s)).used ≡ 0
        → (cond {A = Served} t (record { number = 0; used = used; reply = b; store = d.store; session = d.session }) (silent 3 0 st s)).reply ≡ []
    fits true b e = absurd (omega arith)
    fits false b e = refl

    go : (r : Result) → (finish_by r room used d st s).used ≡ 0 → (finish_by r room used d st s).reply ≡ []
    go (number n) e = refl
    go (reply r) e = fits (leb (length (encode r)) room) (encode r) e

reading_silent : (room : ℕ) (input : Bytes) (x : Reading) (st : Store) (s : Session) → 0 < length input → UsesMost 1 x → (serve_reading room input x st s).used ≡ 0 → (serve_reading room input x st s).reply ≡ []
unfolding serve_reading
reading_silent room input waits st s some_bytes h e = refl
reading_silent room input too_many st s some_bytes h e = refl
reading_silent room input (faulty f) st s some_bytes h e = finish_silent room (length input) (says (protocol_error input f) st clear) st s (omega arith) e
reading_silent room input (whole [] used) st s some_bytes h e = refl
reading_silent room input (whole (p ∷ ps) used) st s some_bytes h e = finish_silent room used (respond (map (spanned input) (p ∷ ps)) st s) st s h e

pub serve_silent : (places room : ℕ) (input : Bytes) (st : Store) (s : Session) → 0 < length input → (serve places room input st s).used ≡ 0 → (serve places room input st s).reply ≡ []
unfolding serve
serve_silent places room input st s some_bytes e = reading_silent room input (read_request places input) st s some_bytes (request_uses places input) e

-- BYTES USED AND NO NUMBER: the reply is not empty
pub record Finished (used : ℕ) (d : Served) : Type 0 where
  pub all_used : d.used ≡ used
  pub some_reply : 1 ≤ length d.reply

pub finish_full : (room used : ℕ) (d : Done) (st : Store) (s : Session) → (finish room used d st s).number ≡ 0 → ((finish room used d st s).used ≡ 0 → ⊥) → Finished used (finish room used d st s)
unfolding finish finish_by fitted
finish_full room used d st s = go d.result
  where
    fits : (t : Bool) (r : Reply) → (cond {A = Served} t (record { number = 0; used = used; reply = encode r; store = d.store; session = d.session }) (silent 3 0 st s)).number ≡ 0
        → Finished used (cond {A = Served} t (record { number = 0; used = used; reply = encode r; store = d.store; session = d.session }) (silent 3 0 st s))
    fits true r n = record { all_used = refl; some_reply = encode_some r }
    fits false r n = absurd (omega arith)

    go : (r : Result) → (finish_by r room used d st s).number ≡ 0 → ((finish_by r room used d st s).used ≡ 0 → ⊥) → Finished used (finish_by r room used d st s)
    go (number n) e u = absurd (u refl)
    go (reply r) e u = fits (leb (length (encode r)) room) r e
