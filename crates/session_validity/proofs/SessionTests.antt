-- The tests of one session together, and of all sixteen. Assumes nothing.
use mathlib.Core.Path.{◌≡◌, refl, sym, ap, ◌∙◌, subst}
use mathlib.Core.Bool.{Bool, true, false, not, cond}
use mathlib.Core.List.{List}
use Prim.Native.Nat.{ℕ, suc, ◌+◌, ◌-◌, ◌*◌, ◌<◌, ◌≤◌}
use native.Mathlib.Omega.{arith}
use borrow.Author.Tests.{le-leb, lt-leb, leb-true, leb-false}
use lib.Dec.{leb, eqb}
use Rattle.std.proofs.lemmas.Bool.{ne_eqb}
use lib.ListN.{length, get_or, take, drop}
use lib.Seq.{drop-drop}
use Rattle.base_key.specs.Bytes.{Bytes, ◌and◌, part, total}
use Rattle.command_spec.specs.Sessions.{split_by, ascending, all_positive, all_queueable, yes?, none_above, keys_in, queue_in, watch_ok, queue_ok, session_ok, sessions_ok_in, valid_sessions}
use Rattle.command_spec.specs.Lent.{capped, OneSession, KeysIn, QueueIn, queue_sizes_ok}
use Rattle.command_spec.proofs.LayoutLaws.{flag_nonzero}
use Rattle.session_memory.proofs.Sums.{capped_low, capped_high}
use Rattle.session_memory.proofs.TestParts.{queue_as, sizes_in, sessions_true, sessions_false}

-- a capped number is above the limit if and only if the number is
capped_above : (limit n : ℕ) → limit < capped limit n → limit < n
capped_above limit n h = go (leb n limit) refl
  where
    go : (v : Bool) → leb n limit ≡ v → limit < n
    go true e = let k : n ≤ limit = leb-true n limit e in let c = capped_low limit n k in absurd (omega arith)
    go false e = leb-false n limit e

capped_within : (limit n : ℕ) → capped limit n ≤ limit → n ≤ limit
capped_within limit n h = go (leb n limit) refl
  where
    go : (v : Bool) → leb n limit ≡ v → n ≤ limit
    go true e = leb-true n limit e
    go false e = let c = capped_high limit n (leb-false n limit e) in absurd (omega arith)

-- THE WATCH. `n` is the count of watched keys, `s` what their lengths sum to, `v` whether they ascend.
module _ (last : ℕ) (w : List ℕ) (b : Bytes) {n : ℕ} (e : n ≡ get_or w 2 0) where
  pub many_watched : 32 < n → false ≡ watch_ok last w b
  unfolding watch_ok ◌and◌
  many_watched h = rw (← e, lt-leb n 32 h)

  module _ (few : n ≤ 32) {s : ℕ} (is : s ≡ capped 2048 (total (part 4 n w))) where
    pub long_keys : 2048 < s → false ≡ watch_ok last w b
    unfolding watch_ok ◌and◌
    long_keys h = rw (← e, le-leb n 32 few, lt-leb (total (part 4 n w)) 2048 (capped_above 2048 (total (part 4 n w)) (rw is at h)))

    module _ (short : s ≤ 2048) where
      keys_total : total (part 4 n w) ≤ 2048
      keys_total = capped_within 2048 (total (part 4 n w)) (rw is at short)

      pub keys_in_lem : OneSession w b → KeysIn w b n
      keys_in_lem o = record { words = o.words; bytes = o.bytes; few = few; room = keys_total }

      module _ {v : Bool} (a : v ≡ ascending (split_by (part 4 n w) (part 0 2048 b))) where
        pub not_ascending : v ≡ false → v ≡ watch_ok last w b
        unfolding watch_ok keys_in ◌and◌
        not_ascending f = rw (← e, le-leb n 32 few, le-leb (total (part 4 n w)) 2048 keys_total, ← a, f)

        pub sequences_test : v ≡ true → {u : Bool} → u ≡ none_above last (part 36 n w) → u ≡ watch_ok last w b
        unfolding watch_ok keys_in ◌and◌
        sequences_test t q = rw (← e, le-leb n 32 few, le-leb (total (part 4 n w)) 2048 keys_total, ← a, t) q

-- THE SIZES OF THE QUEUE. `n` is the count of commands, `s` of arguments, `t` of their bytes.
module _ (w : List ℕ) {n : ℕ} (e : n ≡ get_or w 3 0) where
  pub many_queued : 64 < n → false ≡ queue_sizes_ok w
  unfolding queue_sizes_ok ◌and◌
  many_queued h = rw (← e, lt-leb n 64 h)

  module _ (few : n ≤ 64) {s : ℕ} (is : s ≡ capped 512 (total (part 68 n w))) where
    pub many_arguments : 512 < s → false ≡ queue_sizes_ok w
    unfolding queue_sizes_ok ◌and◌
    many_arguments h = rw (← e, le-leb n 64 few, lt-leb (total (part 68 n w)) 512 (capped_above 512 (total (part 68 n w)) (rw is at h)))

    module _ (short : s ≤ 512) {t : ℕ} (ts : t ≡ capped 8192 (total (part 132 s w))) where
      arguments_total : total (part 68 n w) ≤ 512
      arguments_total = capped_within 512 (total (part 68 n w)) (rw is at short)

      arguments_are : s ≡ total (part 68 n w)
      arguments_are = is ∙ capped_low 512 (total (part 68 n w)) arguments_total

      bytes_are : t ≡ capped 8192 (total (part 132 (total (part 68 n w)) w))
      bytes_are = ts ∙ ap (λ (x : ℕ). capped 8192 (total (part 132 x w))) arguments_are

      pub long_arguments : 8192 < t → false ≡ queue_sizes_ok w
      unfolding queue_sizes_ok ◌and◌
      long_arguments h =
          rw (
            ← e,
            le-leb n 64 few,
            le-leb (total (part 68 n w)) 512 arguments_total,
            lt-leb (total (part 132 (total (part 68 n w)) w)) 8192 (capped_above 8192 (total (part 132 (total (part 68 n w)) w)) (rw bytes_are at h)),
          )

      pub sizes_test : t ≤ 8192 → {v : Bool} → v ≡ all_positive (part 68 n w) → v ≡ queue_sizes_ok w
      unfolding queue_sizes_ok ◌and◌
      sizes_test h a =
          rw (
            ← e,
            le-leb n 64 few,
            le-leb (total (part 68 n w)) 512 arguments_total,
            le-leb (total (part 132 (total (part 68 n w)) w)) 8192 (capped_within 8192 (total (part 132 (total (part 68 n w)) w)) (rw bytes_are at h)),
          ) a

-- THE QUEUE. `s` is whether its sizes are right, `v` whether its commands may be queued.
module _ (w : List ℕ) (b : Bytes) {s : Bool} (is : s ≡ queue_sizes_ok w) where
  pub sizes_wrong : s ≡ false → false ≡ queue_ok w b
  unfolding ◌and◌
  sizes_wrong f = sym (queue_as w b ∙ rw (← is, f))

  module _ (t : s ≡ true) {n : ℕ} (e : n ≡ get_or w 3 0) where
    pub queue_in_lem : OneSession w b → QueueIn w b n
    queue_in_lem o = subst (QueueIn w b) (sym e) (sizes_in w b o (sym is ∙ t))

    module _ {v : Bool} (q : v ≡ all_queueable (split_by (part 68 n w) (split_by (part 132 (total (part 68 n w)) w) (part 2048 8192 b)))) where
      queue_then : v ≡ true → queue_ok w b ≡ cond (yes? (get_or w 0 0)) true (eqb n 0)
      unfolding ◌and◌ queue_in
      queue_then f = queue_as w b ∙ rw (← is, t, ← e, ← q, f)

      pub name_wrong : v ≡ false → v ≡ queue_ok w b
      unfolding ◌and◌ queue_in
      name_wrong f = f ∙ sym (queue_as w b ∙ rw (← is, t, ← e, ← q, f))

      pub outside : v ≡ true → get_or w 0 0 ≡ 0 → eqb n 0 ≡ queue_ok w b
      outside f z = sym (queue_then f ∙ rw z)

      pub inside : v ≡ true → (get_or w 0 0 ≡ 0 → ⊥) → not (eqb (get_or w 0 0) 0) ≡ queue_ok w b
      inside f z = ap not (ne_eqb (get_or w 0 0) 0 z) ∙ sym (queue_then f ∙ rw (flag_nonzero (get_or w 0 0) z))

-- ONE SESSION.
module _ (last : ℕ) (w : List ℕ) (b : Bytes) {v : Bool} (a : v ≡ watch_ok last w b) where
  pub watch_wrong : v ≡ false → v ≡ session_ok last w b
  unfolding session_ok ◌and◌
  watch_wrong f = rw (← a, f)

  pub queue_test : v ≡ true → {q : Bool} → q ≡ queue_ok w b → q ≡ session_ok last w b
  unfolding session_ok ◌and◌
  queue_test t e = rw (← a, t) e

-- ALL SIXTEEN.
module _ (last : ℕ) (w : List ℕ) (b : Bytes) where
  pub short_words : length w < 10304 → false ≡ valid_sessions last w b
  unfolding valid_sessions ◌and◌
  short_words h = rw (lt-leb 10304 (length w) h)

  pub short_bytes : 10304 ≤ length w → length b < 163840 → false ≡ valid_sessions last w b
  unfolding valid_sessions ◌and◌
  short_bytes k h = rw (le-leb 10304 (length w) k, lt-leb 163840 (length b) h)

-- the first i sessions are valid
pub record Checked (last : ℕ) (w : List ℕ) (b : Bytes) (i : ℕ) : Type 0 where
  pub words : 10304 ≤ length w
  pub bytes : 163840 ≤ length b
  pub within : i ≤ 16
  pub is : valid_sessions last w b ≡ sessions_ok_in last (16 - i) (drop (i * 644) w) (drop (i * 10240) b)

pub checked_none : (last : ℕ) (w : List ℕ) (b : Bytes) → 10304 ≤ length w → 163840 ≤ length b → Checked last w b 0
unfolding valid_sessions ◌and◌
checked_none last w b h k = record { words = h; bytes = k; within = omega arith; is = rw (le-leb 10304 (length w) h, le-leb 163840 (length b) k) }

module _ {last : ℕ} {w : List ℕ} {b : Bytes} {i : ℕ} (c : Checked last w b i) where
  module _ (h : i < 16) {v : Bool} (a : v ≡ session_ok last (part (i * 644) (i * 644 + 644 - i * 644) w) (part (i * 10240) (i * 10240 + 10240 - i * 10240) b)) where
    checked_session : v ≡ session_ok last (take 644 (drop (i * 644) w)) (take 10240 (drop (i * 10240) b))
    checked_session =
        let e : i * 644 + 644 - i * 644 ≡ 644 = omega arith in
        let f : i * 10240 + 10240 - i * 10240 ≡ 10240 = omega arith in
        a ∙ (λ z. session_ok last (part (i * 644) (e z) w) (part (i * 10240) (f z) b))

    left_is : valid_sessions last w b ≡ sessions_ok_in last (suc (16 - (i + 1))) (drop (i * 644) w) (drop (i * 10240) b)
    left_is = let e : 16 - i ≡ suc (16 - (i + 1)) = omega arith in c.is ∙ ap (λ (n : ℕ). sessions_ok_in last n (drop (i * 644) w) (drop (i * 10240) b)) e

    pub checked_more : v ≡ true → Checked last w b (i + 1)
    checked_more t =
        let e : i * 644 + 644 ≡ (i + 1) * 644 = omega arith in
        let f : i * 10240 + 10240 ≡ (i + 1) * 10240 = omega arith in
        record {
          words = c.words;
          bytes = c.bytes;
          within = omega arith;
          is = left_is ∙ sessions_true last (16 - (i + 1)) (drop (i * 644) w) (drop (i * 10240) b) (sym checked_session ∙ t)
              ∙ (λ z. sessions_ok_in last (16 - (i + 1)) (drop-drop 644 (i * 644) w z) (drop-drop 10240 (i * 10240) b z))
              ∙ (λ z. sessions_ok_in last (16 - (i + 1)) (drop (e z) w) (drop (f z) b));
        }

    pub session_wrong : v ≡ false → false ≡ valid_sessions last w b
    session_wrong f = sym (left_is ∙ sessions_false last (16 - (i + 1)) (drop (i * 644) w) (drop (i * 10240) b) (sym checked_session ∙ f))

  pub checked_all : 16 ≤ i → true ≡ valid_sessions last w b
  unfolding sessions_ok_in
  checked_all h = let e : 16 - i ≡ 0 = omega arith in sym (c.is ∙ ap (λ (n : ℕ). sessions_ok_in last n (drop (i * 644) w) (drop (i * 10240) b)) e)
