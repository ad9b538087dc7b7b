-- What each call gives, by the outcome of its tests, as equations.
use Prim.Native.Nat.{ℕ}
use mathlib.Core.Bool.{Bool, true, false}
use mathlib.Core.List.{List, map}
use mathlib.Core.Logic.{◌⊎◌, inl, inr}
use mathlib.Core.Path.{◌≡◌, refl}
use lib.Dec.{ltb}
use Rattle.base_key.specs.Bytes.{Bytes}
use Rattle.store_memtable.specs.Layout.{store_in, valid_store}
use Rattle.group_spec.specs.declared.Member.{Member}
use Rattle.group_spec.specs.Group.{group}
use Rattle.group_spec.specs.Members.{group_fits, pending_of}
use Rattle.call_spec.specs.Serve.{serve, answered, exec_previewed}
use Rattle.call_spec.specs.Calls.{Lent, Called, valid, store_of, session_of, leave_served, refuses, refuses_store, gives_store, judged, request_call, preview_call, group_call}

pub tested : (b : Bool) → (b ≡ true) ⊎ (b ≡ false)
tested true = inl refl
tested false = inr refl

module _ (i : ℕ) (s : Bytes) (places room : ℕ) (l : Lent) where
  pub no_session : ltb i 16 ≡ false → request_call i s places room l ≡ refuses 1 l
  unfolding request_call
  no_session e = rw (e, request_call)

  pub not_valid : ltb i 16 ≡ true → valid l ≡ false → request_call i s places room l ≡ refuses 9 l
  unfolding request_call
  not_valid e v = rw (e, v, request_call)

  -- the call on the store and the session that are lent
  abbrev pub served_call : Called
  served_call = let d = serve places room s (store_of l) (session_of i l) in record { outcome = answered d; lent = leave_served i d l }

  pub served : ltb i 16 ≡ true → valid l ≡ true → request_call i s places room l ≡ served_call
  unfolding request_call
  served e v = rw (e, v, request_call)

module _ (i room : ℕ) (l : Lent) where
  pub preview_no_session : ltb i 16 ≡ false → preview_call i room l ≡ refuses 1 l
  unfolding preview_call
  preview_no_session e = rw (e, preview_call)

  pub preview_not_valid : ltb i 16 ≡ true → valid l ≡ false → preview_call i room l ≡ refuses 9 l
  unfolding preview_call
  preview_not_valid e v = rw (e, v, preview_call)

  pub preview_valid : ltb i 16 ≡ true → valid l ≡ true → preview_call i room l ≡ record { outcome = exec_previewed room (store_of l) (session_of i l); lent = l }
  unfolding preview_call
  preview_valid e v = rw (e, v, preview_call)

module _ (ms : List Member) (parts : List ℕ) (d v : Bytes) (w : List ℕ) (b : Bytes) where
  pub not_valid_store : valid_store w b ≡ false → group_call ms parts d v w b ≡ refuses_store 9 w b
  unfolding group_call
  not_valid_store e = rw (e, group_call)

  pub not_fit : valid_store w b ≡ true → group_fits parts d ms v ≡ false → group_call ms parts d v w b ≡ refuses_store 8 w b
  unfolding group_call
  not_fit e f = rw (e, f, group_call)

  pub is_judged : valid_store w b ≡ true → group_fits parts d ms v ≡ true →
      group_call ms parts d v w b ≡ (let g = group (map (pending_of parts d) ms) (store_in w b) in gives_store (judged g) g.store w b)
  unfolding group_call
  is_judged e f = rw (e, f, group_call)
