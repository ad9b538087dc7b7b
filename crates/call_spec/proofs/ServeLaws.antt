-- A request read from bytes, on values: it keeps store and session sound, a number leaves them, and posting follows.
use Prim.Native.Nat.{ℕ, ◌≤◌}
use native.Mathlib.Omega.{arith}
use mathlib.Core.Logic.{◌⊎◌, inr}
use mathlib.Core.List.{[], ◌∷◌, map}
use mathlib.Core.Bool.{Bool, true, false, cond}
use mathlib.Core.Path.{◌≡◌, refl}
use lib.Dec.{leb}
use lib.ListN.{length}
use Rattle.base_key.specs.Bytes.{Bytes}
use Rattle.resp_spec.specs.Request.{Reading, waits, faulty, too_many, whole, read_request, spanned}
use Rattle.resp_spec.specs.Reply.{Reply, encode}
use Rattle.store_memtable.specs.Versions.{Store}
use Rattle.store_memtable.proofs.VersionLaws.{Sound, later_refl}
use Rattle.group_spec.proofs.GroupLaws.{After}
use Rattle.command_spec.specs.Names.{Args, row_of, name_word, control_of}
use Rattle.command_spec.specs.Session.{Session, clear, Result, number, reply, Done, says, respond}
use Rattle.command_spec.proofs.SessionLaws.{SessionSound, clear_sound, Refuses, WatchKept, watch_same, watch_none, Kept, says_kept, respond_kept}
use Rattle.command_spec.specs.Finish.{Served, silent, fitted, finish_by, finish}
use Rattle.call_spec.specs.Serve.{protocol_error, serve_reading, serve}
use Rattle.call_spec.specs.Posting.{Asked, nothing, broken, asks, asked_by, Client, closed, turn_asked}
use Rattle.call_spec.proofs.FollowLaws.{Mirrors, closed_clear, Follows, still, FollowedBy, respond_follows}

pub record ServeKept (st : Store) (s : Session) (v : Served) : Type 0 where
  pub store : After st v.store
  pub session : SessionSound v.store.last v.session
  pub watch : WatchKept st s.watch v.session.watch
  pub small : v.number ≤ 7
  pub numbers : (v.number ≡ 0 → ⊥) → (v.store ≡ st) × ((v.number ≡ 4) ⊎ (v.session ≡ s)) × (v.session.queue ≡ s.queue) × (v.session.watch ≡ s.watch)

-- a wait uses no byte, a protocol error all, a request its own
abbrev pub used_by : Bytes → Reading → ℕ
used_by input waits = 0
used_by input too_many = 0
used_by input (faulty f) = length input
used_by input (whole ps used) = used

module _ (st : Store) (s : Session) (sound : Sound st) (good : SessionSound st.last s) where
  silent_kept : (n used : ℕ) → n ≤ 7 → ServeKept st s (silent n used st s)
  silent_kept n used k = record { store = record { sound = sound; later = later_refl st }; session = good; watch = watch_same st s good; small = k; numbers = λ h. (refl, inr refl, refl, refl) }

  finish_kept : (room used : ℕ) (d : Done) → Kept st s d → ServeKept st s (finish room used d st s)
  unfolding finish
  finish_kept room used d k = go d.result k.numbers
    where
      fits : (b : Bytes) (t : Bool) → ServeKept st s (cond t (record { number = 0; used = used; reply = b; store = d.store; session = d.session }) (silent 3 0 st s))
      fits b true = record { store = k.store; session = k.session; watch = k.watch; small = omega arith; numbers = λ h. absurd (h refl) }
      fits b false = silent_kept 3 0 (omega arith)

      go : (r : Result) → Refuses st s d r → ServeKept st s (finish_by r room used d st s)
      go (number n) h = unfold finish_by in record { store = k.store; session = k.session; watch = k.watch; small = h.1; numbers = λ z. (h.2, h.3, h.4, h.5) }
      go (reply r) h = unfold finish_by fitted in fits (encode r) (leb (length (encode r)) room)

  reading_kept : (room : ℕ) (input : Bytes) (x : Reading) → ServeKept st s (serve_reading room input x st s)
  unfolding serve_reading
  reading_kept room input waits = silent_kept 0 0 (omega arith)
  reading_kept room input too_many = silent_kept 2 0 (omega arith)
  reading_kept room input (faulty f) = finish_kept room _ _ (says_kept st s sound good _ clear (clear_sound st.last) (watch_none st s.watch))
  reading_kept room input (whole [] used) = silent_kept 0 used (omega arith)
  reading_kept room input (whole (p ∷ ps) used) = finish_kept room used _ (respond_kept st s sound good (spanned input p) (map (spanned input) ps))

  pub serve_kept : (places room : ℕ) (input : Bytes) → ServeKept st s (serve places room input st s)
  unfolding serve
  serve_kept places room input = reading_kept room input (read_request places input)

  -- THE BYTES USED, by the reading alone
  finish_used : (room used : ℕ) (d : Done) → Kept st s d → (finish room used d st s).number ≡ 0 → (finish room used d st s).used ≡ used
  unfolding finish
  finish_used room used d k = go d.result k.numbers
    where
      fits : (b : Bytes) (t : Bool) → (cond {A = Served} t (record { number = 0; used = used; reply = b; store = d.store; session = d.session }) (silent 3 0 st s)).number ≡ 0
          → (cond {A = Served} t (record { number = 0; used = used; reply = b; store = d.store; session = d.session }) (silent 3 0 st s)).used ≡ used
      fits b true e = refl
      fits b false e = absurd (omega arith)

      go : (r : Result) → Refuses st s d r → (finish_by r room used d st s).number ≡ 0 → (finish_by r room used d st s).used ≡ used
      go (number n) h = unfold finish_by in λ z. absurd (omega (arith, h.0, z))
      go (reply r) h = unfold finish_by fitted in fits (encode r) (leb (length (encode r)) room)

  reading_used : (room : ℕ) (input : Bytes) (x : Reading) → (serve_reading room input x st s).number ≡ 0 → (serve_reading room input x st s).used ≡ used_by input x
  unfolding serve_reading
  reading_used room input waits e = refl
  reading_used room input too_many e = absurd (omega arith)
  reading_used room input (faulty f) e = finish_used room (length input) _ (says_kept st s sound good _ clear (clear_sound st.last) (watch_none st s.watch)) e
  reading_used room input (whole [] used) e = refl
  reading_used room input (whole (p ∷ ps) used) e = finish_used room used _ (respond_kept st s sound good (spanned input p) (map (spanned input) ps)) e

  pub serve_used : (places room : ℕ) (input : Bytes) → (serve places room input st s).number ≡ 0 → (serve places room input st s).used ≡ used_by input (read_request places input)
  unfolding serve
  serve_used places room input = reading_used room input (read_request places input)

  -- POSTING, by what was asked and answered
  module _ (d : Client) (m : Mirrors d s) where
    abbrev ServeFollows : Asked → Served → Type 0
    ServeFollows a v = v.number ≡ 0 → Follows st v.store v.session (turn_asked a v.reply d)

    nothing_follows : (n used : ℕ) → ServeFollows nothing (silent n used st s)
    unfolding turn_asked
    nothing_follows n used z = still st s d m

    finish_follows : (a : Asked) (room used : ℕ) (x : Done) → Kept st s x → ((r : Reply) → x.result ≡ reply r → Follows st x.store x.session (turn_asked a (encode r) d))
        → ServeFollows a (finish room used x st s)
    unfolding finish
    finish_follows a room used x k f = go x.result refl k.numbers
      where
        fits : (r : Reply) → x.result ≡ reply r → (t : Bool)
            → ServeFollows a (cond t (record { number = 0; used = used; reply = encode r; store = x.store; session = x.session }) (silent 3 0 st s))
        fits r e true z = f r e
        fits r e false z = absurd (omega arith)

        go : (r : Result) → x.result ≡ r → Refuses st s x r → ServeFollows a (finish_by r room used x st s)
        go (number n) e h = unfold finish_by in λ z. absurd (omega (arith, h.0, z))
        go (reply r) e h = unfold finish_by fitted in fits r e (leb (length (encode r)) room)

    asked_follows : (a : Args) (x : Done) → (y : Result) → x.result ≡ y → FollowedBy st d (control_of (row_of (name_word a)).name) d.queue a x y
        → (r : Reply) → x.result ≡ reply r → Follows st x.store x.session (turn_asked (asks a) (encode r) d)
    unfolding turn_asked
    asked_follows a x (number n) e f r p = let z : ◌≡◌ {A = ℕ} 0 1 = cc in absurd (omega arith)
    asked_follows a x (reply y) e f r p = let q : y ≡ r = cc in rw (← q) f

    reading_follows : (room : ℕ) (input : Bytes) (x : Reading) → ServeFollows (asked_by input x) (serve_reading room input x st s)
    unfolding serve_reading asked_by
    reading_follows room input waits = nothing_follows 0 0
    reading_follows room input too_many = nothing_follows 2 0
    reading_follows room input (faulty f) =
        finish_follows broken room (length input) (says (protocol_error input f) st clear) (says_kept st s sound good _ clear (clear_sound st.last) (watch_none st s.watch))
        (λ r e. unfold turn_asked in still st clear closed closed_clear)
    reading_follows room input (whole [] used) = nothing_follows 0 used
    reading_follows room input (whole (p ∷ ps) used) =
        let a = map (spanned input) (p ∷ ps) in
        finish_follows (asks a) room used (respond a st s) (respond_kept st s sound good (spanned input p) (map (spanned input) ps))
        (asked_follows a (respond a st s) (respond a st s).result refl (respond_follows st s d sound good m a))

    pub serve_follows : (places room : ℕ) (input : Bytes) → ServeFollows (asked_by input (read_request places input)) (serve places room input st s)
    unfolding serve
    serve_follows places room input = reading_follows room input (read_request places input)
