-- Laws of opening a store and of the room in one. Assumes nothing.
use mathlib.Core.Path.{◌≡◌, refl, sym, ◌∙◌}
use mathlib.Core.Bool.{Bool, true, ◌&&◌}
use mathlib.Core.List.{List, [], ◌∷◌}
use Prim.Native.Nat.{ℕ, ◌+◌, ◌≤◌}
use native.Mathlib.Omega.{arith}
use lib.ListN.{length, set}
use lib.Dec.{leb}
use Rattle.base_key.specs.Bytes.{over_front}
use Rattle.store_memtable.specs.Versions.{versions_size}
use Rattle.store_memtable.specs.Layout.{most_versions_word, most_bytes_word, buffers_hold, store_in, row_words, version_bytes, store_words, leave_words, leave_bytes, empty_store}
use Rattle.store_memtable.specs.Rows.{Valid, room_in}
use Rattle.store_memtable.proofs.Validity.{buffers_words_in}
use Rattle.store_memtable.proofs.Encoding.{encoded, versions_size_lem}

pub header_written : (w : List ℕ) (l n m : ℕ) → 5 ≤ length w → set (set (set (set (set w 0 0) 1 0) 2 l) 3 n) 4 m ≡ leave_words (empty_store l n m) w
unfolding leave_words store_words empty_store over_front row_words version_bytes
header_written [] l n m h = absurd (omega arith)
header_written (a ∷ []) l n m h = absurd (omega arith)
header_written (a ∷ b ∷ []) l n m h = absurd (omega arith)
header_written (a ∷ b ∷ c ∷ []) l n m h = absurd (omega arith)
header_written (a ∷ b ∷ c ∷ d ∷ []) l n m h = absurd (omega arith)
header_written (a ∷ b ∷ c ∷ d ∷ e ∷ w) l n m h = refl

-- an empty store has no bytes
pub bytes_stay : (l n m : ℕ) (b : List ℕ) → leave_bytes (empty_store l n m) b ≡ b
unfolding leave_bytes empty_store over_front version_bytes
bytes_stay l n m b = refl

module _ (w b : List ℕ) (l n m : ℕ) {r : Bool} (is : r ≡ buffers_hold w b n m) where
  pub open_head : r ≡ true → 5 ≤ length w
  open_head e = omega (arith, buffers_words_in w b n m (sym is ∙ e))

-- the room that the words say is the room of the store
pub room_is : (w b : List ℕ) (n m : ℕ) → Valid w b → room_in w n m
    ≡ leb (length (store_in w b).versions + n) (store_in w b).most_versions && leb (versions_size (store_in w b).versions + m) (store_in w b).most_bytes
unfolding room_in store_in
room_is w b n m v =
    let e = encoded w b v.valid in
    let u = e.used_is ∙ sym (versions_size_lem _) in
    λ z. leb (e.counted z + n) (most_versions_word w) && leb (u z + m) (most_bytes_word w)
