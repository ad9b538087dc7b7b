-- The walk over the watched keys of a session. Assumes nothing.
use Prim.Native.Nat.{ℕ, ◌+◌, ◌-◌, ◌<◌, ◌≤◌}
use native.Mathlib.Nat.{zero-add}
use native.Mathlib.Omega.{arith}
use mathlib.Core.Path.{◌≡◌, sym, ap, ◌∙◌}
use mathlib.Core.Bool.{Bool, true, false, ◌||◌}
use mathlib.Core.List.{List, ◌∷◌}
use lib.ListN.{get_or, take, drop}
use lib.Seq.{drop-drop}
use Rattle.base_key.specs.Bytes.{Bytes, part, total}
use Rattle.store_memtable.specs.Versions.{Version, moved}
use Rattle.command_spec.specs.Session.{Watching, any_moved}
use Rattle.command_spec.specs.Sessions.{split_by, paired, keys_in, session_from}
use Rattle.command_spec.specs.Held.{Held}
use Rattle.command_spec.proofs.Parts.{part_next, part_none, part_start, part_part}

-- the watched keys from place i on, whose bytes start at `start`
unfoldable pub watch_after : List ℕ → Bytes → ℕ → ℕ → ℕ → Watching
watch_after w b count start i = paired (split_by (part (4 + i) (count - i) w) (drop start (part 0 2048 b))) (part (36 + i) (count - i) w)

-- the keys before place i, whose bytes end at `start`, have not moved
pub record Passing (vs : List Version) (w : List ℕ) (b : Bytes) (count start i : ℕ) : Type 0 where
  pub count_is : count ≡ get_or w 2 0
  pub within : i ≤ count
  pub room : start + total (part (4 + i) (count - i) w) ≤ 2048
  pub is : any_moved vs (session_from w b).watch ≡ any_moved vs (watch_after w b count start i)

pub passing_none : (vs : List Version) (w : List ℕ) (b : Bytes) {count : ℕ} → Held w b → count ≡ get_or w 2 0 → Passing vs w b count 0 0
unfolding session_from keys_in watch_after
passing_none vs w b {count} h e =
    let p : part 4 (get_or w 2 0) w ≡ part (4 + 0) (count - 0) w = ap (λ (n : ℕ). part 4 n w) (sym e) ∙ part_start w 4 count in
    let q : part 36 (get_or w 2 0) w ≡ part (36 + 0) (count - 0) w = ap (λ (n : ℕ). part 36 n w) (sym e) ∙ part_start w 36 count in
    record {
      count_is = e;
      within = omega arith;
      room = omega (arith, h.key_room, ap total p);
      is = λ z. any_moved vs (paired (split_by (p z) (part 0 2048 b)) (q z));
    }

module _ {vs : List Version} {w : List ℕ} {b : Bytes} {count start i : ℕ} (p : Passing vs w b count start i) (k : Held w b) (h : i < count) where
  next_lengths : part (4 + i) (count - i) w ≡ get_or w (4 + i) 0 ∷ part (4 + (i + 1)) (count - (i + 1)) w
  next_lengths = part_next w 4 count i 0 h (omega (arith, k.words, k.few_keys, p.count_is))

  next_sequences : part (36 + i) (count - i) w ≡ get_or w (36 + i) 0 ∷ part (36 + (i + 1)) (count - (i + 1)) w
  next_sequences = part_next w 36 count i 0 h (omega (arith, k.words, k.few_keys, p.count_is))

  pub passing_room : start + get_or w (4 + i) 0 ≤ 2048
  unfolding total
  passing_room = omega (arith, p.room, ap total next_lengths)

  module _ {n : ℕ} (n-is : n ≡ get_or w (4 + i) 0) where
    step : any_moved vs (session_from w b).watch ≡ (moved (get_or w (36 + i) 0) vs (part start (start + n - start) b) || any_moved vs (watch_after w b count (start + n) (i + 1)))
    unfolding split_by paired any_moved watch_after
    step =
        let m : get_or w (4 + i) 0 ≡ start + n - start = omega arith in
        let j : take (get_or w (4 + i) 0) (drop start (part 0 2048 b)) ≡ part start (start + n - start) b =
        part_part 0 2048 start (get_or w (4 + i) 0) b (omega (arith, passing_room)) ∙ (λ z. part (zero-add start z) (m z) b) in
        let d : drop (get_or w (4 + i) 0) (drop start (part 0 2048 b)) ≡ drop (start + n) (part 0 2048 b) =
        drop-drop (get_or w (4 + i) 0) start (part 0 2048 b) ∙ ap (λ (x : ℕ). drop (start + x) (part 0 2048 b)) (sym n-is) in
        p.is ∙ (λ z. any_moved vs (paired (split_by (next_lengths z) (drop start (part 0 2048 b))) (next_sequences z)))
        ∙ (λ z. moved (get_or w (36 + i) 0) vs (j z) || any_moved vs (paired (split_by (part (4 + (i + 1)) (count - (i + 1)) w) (d z)) (part (36 + (i + 1)) (count - (i + 1)) w)))

    module _ {v : Bool} (v-is : v ≡ moved (get_or w (36 + i) 0) vs (part start (start + n - start) b)) where
      pub passing_more : v ≡ false → Passing vs w b count (start + n) (i + 1)
      unfolding total
      passing_more t = record {
        count_is = p.count_is;
        within = omega arith;
        room = omega (arith, p.room, ap total next_lengths);
        is = step ∙ ap (λ (x : Bool). x || any_moved vs (watch_after w b count (start + n) (i + 1))) (sym v-is ∙ t);
      }

      pub passing_found : v ≡ true → true ≡ any_moved vs (session_from w b).watch
      passing_found t = sym (step ∙ ap (λ (x : Bool). x || any_moved vs (watch_after w b count (start + n) (i + 1))) (sym v-is ∙ t))

pub passed_all : {vs : List Version} {w : List ℕ} {b : Bytes} {count start i : ℕ} → Passing vs w b count start i → count ≤ i → false ≡ any_moved vs (session_from w b).watch
unfolding split_by paired any_moved watch_after
passed_all {vs} {w} {b} {count} {start} {i} p h =
    sym (p.is ∙ ap (λ (l : List ℕ). any_moved vs (paired (split_by l (drop start (part 0 2048 b))) (part (36 + i) (count - i) w))) (part_none w 4 count i h))
