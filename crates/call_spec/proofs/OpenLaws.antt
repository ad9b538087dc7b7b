-- Opening: an opened store beside clear sessions is what the claims start from, whatever its last sequence and capacities.
use Prim.Native.Nat.{ℕ, zero, suc, ◌+◌, ◌-◌, ◌*◌, ◌≤◌, ◌<◌}
use native.Mathlib.Omega.{arith}
use mathlib.Core.List.{List, ◌∷◌}
use mathlib.Core.Bool.{true}
use mathlib.Core.Path.{◌≡◌, refl, ap, ◌∙◌}
use lib.Dec.{leb}
use lib.ListN.{length, take, drop, replicate, length-replicate}
use borrow.Author.Tests.{leb-true}
use Rattle.base_key.specs.Bytes.{Bytes, ◌and◌, part, total}
use Rattle.base_key.proofs.Bytes.{and_left, and_right, and_both}
use Rattle.store_memtable.specs.Versions.{versions_size}
use Rattle.store_memtable.specs.Layout.{store_in, buffers_hold, valid_store, leave_words, leave_bytes, empty_store}
use Rattle.store_memtable.proofs.VersionLaws.{Sound}
use Rattle.store_memtable.proofs.LayoutLaws.{store_back, leave_valid}
use Rattle.command_spec.specs.Session.{clear}
use Rattle.command_spec.specs.Sessions.{split_by, keys_in, queue_in, paired, session_from, none_above, all_queueable, all_positive, watch_ok, queue_ok, session_ok, words_of_session, bytes_of_session, session_at, valid_sessions}
use Rattle.command_spec.proofs.LayoutLaws.{Sixteen, sixteen_valid}
use Rattle.call_spec.specs.Serve.{refused}
use Rattle.call_spec.specs.Calls.{Lent, lent_of, valid, store_of, StoreCalled, gives_store, open_call}
use Rattle.call_spec.specs.Demand3.{Opened}
use Rattle.call_spec.specs.Made.{ZeroClaim}

abbrev zeros : ℕ → List ℕ
zeros n = replicate n 0

-- parts of zeros
drop_zeros : (m n : ℕ) → drop m (zeros n) ≡ zeros (n - m)
drop_zeros zero n = let e : n ≡ n - 0 = omega arith in ap zeros e
drop_zeros (suc m) zero = let e : 0 ≡ 0 - suc m = omega arith in ap zeros e
drop_zeros (suc m) (suc n) = let e : n - m ≡ suc n - suc m = omega arith in drop_zeros m n ∙ ap zeros e

take_zeros : (m n : ℕ) → m ≤ n → take m (zeros n) ≡ zeros m
take_zeros zero n h = refl
take_zeros (suc m) zero h = absurd (omega arith)
take_zeros (suc m) (suc n) h = ap {B = List ℕ} (λ l. 0 ∷ l) (take_zeros m n (omega arith))

part_zeros : (start size n : ℕ) → start + size ≤ n → part start size (zeros n) ≡ zeros size
part_zeros start size n h = ap (take size) (drop_zeros start n) ∙ take_zeros size (n - start) (omega arith)

-- words that begin with four zeros are a clear session
zero_clear : (w : List ℕ) (b : Bytes) → session_from (0 ∷ 0 ∷ 0 ∷ 0 ∷ w) b ≡ clear
unfolding session_from paired keys_in split_by
zero_clear w b = refl

zero_ok : (last : ℕ) (w : List ℕ) (b : Bytes) → session_ok last (0 ∷ 0 ∷ 0 ∷ 0 ∷ w) b ≡ true
unfolding session_ok watch_ok queue_ok keys_in queue_in split_by total none_above all_positive all_queueable ◌and◌
zero_ok last w b = refl

-- ZERO WORDS are clear sessions, whatever the bytes
module _ (n : ℕ) (b : Bytes) (words : 10304 ≤ n) (bytes : 163840 ≤ length b) where
  own_words : (i : ℕ) → i < 16 → words_of_session i (zeros n) ≡ 0 ∷ 0 ∷ 0 ∷ 0 ∷ zeros 640
  unfolding words_of_session
  own_words i h = part_zeros (i * 644) 644 n (omega arith)

  zeros_clear : (i : ℕ) → i < 16 → session_at i (zeros n) b ≡ clear
  unfolding session_at
  zeros_clear i h = ap (λ (w : List ℕ). session_from w (bytes_of_session i b)) (own_words i h) ∙ zero_clear _ _

  zeros_sixteen : (last : ℕ) → Sixteen last (zeros n) b
  zeros_sixteen last = record {
    words = rw (length-replicate {A = ℕ} n 0) words;
    bytes = bytes;
    each = λ i h. ap (λ (w : List ℕ). session_ok last w (bytes_of_session i b)) (own_words i h) ∙ zero_ok last _ _;
  }

pub zeros_are_clear : ZeroClaim
zeros_are_clear last n b words bytes = (sixteen_valid _ _ _ (zeros_sixteen n b (omega (arith, words)) (omega (arith, bytes)) last), zeros_clear n b (omega (arith, words)) (omega (arith, bytes)))

-- WHAT THE OPENING CALL LEAVES, beside valid sessions that are clear
module _ (last versions size : ℕ) (w : List ℕ) (b : Bytes) (room : buffers_hold w b versions size ≡ true) (sw : List ℕ) (sb : Bytes) where
  abbrev opened_lent : Lent
  opened_lent = lent_of (open_call last versions size w b).words (open_call last versions size w b).bytes sw sb

  empty_sound : Sound (empty_store last versions size)
  unfolding empty_store versions_size
  empty_sound = record { seqs = tt; order = refl; counted = omega arith; sized = omega arith }

  empty_valid : valid_store (leave_words (empty_store last versions size) w) (leave_bytes (empty_store last versions size) b) ≡ true
  unfolding buffers_hold empty_store
  empty_valid =
      leave_valid (empty_store last versions size) w b empty_sound
      (leb-true (5 + 4 * versions) (length w) (and_left _ _ room))
      (leb-true size (length b) (and_right (leb (5 + 4 * versions) (length w)) _ room))

  gives : open_call last versions size w b ≡ gives_store (refused 0) (empty_store last versions size) w b
  unfolding open_call
  gives = rw room

  opened_store : store_of opened_lent ≡ empty_store last versions size
  opened_store = ap (λ (x : StoreCalled). store_in x.words x.bytes) gives ∙ store_back (empty_store last versions size) w b

  pub opens : valid_sessions last sw sb ≡ true → ((i : ℕ) → i < 16 → session_at i sw sb ≡ clear) → Opened opened_lent
  opens ok clears =
      let st = empty_store last versions size in
      record {
        fit = rw gives (unfold valid in and_both _ _ empty_valid (rw (store_back st w b) (unfold empty_store in ok)));
        last = last;
        versions = versions;
        size = size;
        store = opened_store;
        sessions = clears;
      }
