-- The working memory of an EXEC laid out. Assumes nothing.
use Prim.Native.Nat.{ℕ, zero, suc, ◌+◌, ◌-◌, ◌*◌, ◌≤◌, ◌<◌}
use native.Mathlib.Omega.{arith}
use mathlib.Core.Path.{◌≡◌, sym, ap, ◌∙◌, subst}
use mathlib.Core.Bool.{true}
use mathlib.Core.List.{List, [], ◌∷◌, ◌++◌, map}
use lib.ListN.{length, get_or, take, drop, length-append, length-drop}
use lib.Seq.{take_at}
use Rattle.store_memtable.specs.Moves.{put_at}
use Rattle.base_key.proofs.Bytes.{length_part_lem}
use Rattle.command_spec.proofs.PlaceLaws.{places_length}
use Rattle.base_key.specs.Bytes.{Bytes, part, concat, total}
use Rattle.command_spec.specs.Names.{Args}
use Rattle.command_spec.specs.Command.{command_of}
use Rattle.command_spec.specs.Sessions.{split_by, all_positive, all_queueable, queue_in}
use Rattle.command_spec.specs.Lent.{capped}
use Rattle.command_spec.specs.Held.{Held}
use Rattle.command_spec.specs.Places.{arguments_at, PartsIn, QueueSizes, places_of}
use Rattle.command_spec.proofs.Parts.{part_add}
use Rattle.command_spec.proofs.SplitLaws.{split_whole}
use Rattle.session_memory.proofs.Kept.{queue_counts}
use Rattle.session_memory.proofs.Queueing.{arguments_are, arguments_few, bytes_are}
use Rattle.session_memory.proofs.Expanding.{expanded}
use Rattle.exec_run.specs.Progress.{Queued, requests_in, commands_in}
use Rattle.exec_run.specs.declared.layout.Sizes.{Sizes}
use Rattle.exec_run.specs.Execution.{SizesOf, LaidOut}
use Rattle.exec_run.proofs.WalkLaws.{grown_arguments}

-- each place ends before the end of them all
place_inside : (start : ℕ) (ns rest : List ℕ) (k : ℕ) → k < length ns
    → get_or (places_of start ns ++ rest) (2 * k) 0 + get_or (places_of start ns ++ rest) (2 * k + 1) 0 ≤ start + total ns
unfolding places_of total
place_inside start [] rest k h = absurd (omega arith)
place_inside start (n ∷ ns) rest zero h = omega arith
place_inside start (n ∷ ns) rest (suc k) h =
    let l : List ℕ = places_of (start + n) ns ++ rest in
    let x : get_or (start ∷ n ∷ l) (2 * suc k) 0 ≡ get_or l (2 * k) 0 = let e : 2 * suc k ≡ suc (suc (2 * k)) = omega arith in ap (λ (i : ℕ). get_or (start ∷ n ∷ l) i 0) e in
    let y : get_or (start ∷ n ∷ l) (2 * suc k + 1) 0 ≡ get_or l (2 * k + 1) 0 = let e : 2 * suc k + 1 ≡ suc (suc (2 * k + 1)) = omega arith in ap (λ (i : ℕ). get_or (start ∷ n ∷ l) i 0) e in
    omega (arith, x, y, place_inside (start + n) ns rest k (omega arith))

-- THE SIZES of a queue, as they are summed
module _ {s : List ℕ} (q : QueueSizes s) {n : ℕ} (n-is : n ≡ get_or s 3 0) {m : ℕ} (m-is : m ≡ capped 512 (total (part 68 n s))) where
  pub lengths_in : 132 + m ≤ length s
  lengths_in = omega (arith, arguments_few q n-is m-is, q.words)

  pub sizes_are : {u : ℕ} → u ≡ capped 8192 (total (part 132 m s)) → SizesOf s (record { commands = n; arguments = m; bytes = u })
  sizes_are u-is = record { commands = n-is; arguments = arguments_are q n-is m-is; bytes = bytes_are q n-is m-is u-is }

-- THE WORKING MEMORY of a queue of these sizes
module _ {s : List ℕ} {sb : Bytes} (h : Held s sb) {z : Sizes} (is : SizesOf s z) where
  lengths_are : total (part 132 z.arguments s) ≡ z.bytes
  lengths_are = ap (λ (m : ℕ). total (part 132 m s)) is.arguments ∙ sym is.bytes

  pub bytes_small : z.bytes ≤ 8192
  bytes_small = omega (arith, is.bytes, h.room)

  pub bytes_in : 2048 + z.bytes ≤ length sb
  bytes_in = omega (arith, bytes_small, h.bytes)

  -- the bytes, as `&session_bytes[start..end]` lends them
  lent : part 2048 (2048 + z.bytes - 2048) sb ≡ part 2048 z.bytes sb
  lent = let e : 2048 + z.bytes - 2048 ≡ z.bytes = omega arith in ap (λ (n : ℕ). part 2048 n sb) e

  lent_length : length (part 2048 z.bytes sb) ≡ z.bytes
  lent_length = length_part_lem 2048 z.bytes sb bytes_in

  pub laid_out : (p : List ℕ) {p' : List ℕ} (d : Bytes) {d' : Bytes} → all_positive (part 68 (get_or s 3 0) s) ≡ true → all_queueable (queue_in s sb) ≡ true
      → 2 * z.arguments ≤ length p → z.bytes + 20 * z.commands ≤ length d
      → p' ≡ put_at 0 (places_of 0 (part 132 z.arguments s)) p → d' ≡ put_at 0 (part 2048 (2048 + z.bytes - 2048) sb) d → LaidOut s sb d p' d' z.bytes
  unfolding put_at commands_in requests_in
  laid_out p {p'} d {d'} positive queueable lp ld p-is d-is =
      let t : ℕ = total (part 68 (get_or s 3 0) s) in
      let n : ℕ = z.arguments in
      let u : ℕ = z.bytes in
      let q : Bytes = part 2048 u sb in
      let ls : List ℕ = part 132 n s in
      let long : length ls ≡ n = length_part_lem 132 n s (omega (arith, is.arguments, h.words, h.few_arguments)) in
      let d-at : d' ≡ q ++ drop (0 + length q) d = d-is ∙ ap (λ (x : Bytes). x ++ drop (0 + length x) d) lent in
      let in_use : take u d' ≡ q = ap (take u) d-at ∙ take_at q (drop (0 + length q) d) u lent_length in
      let rest : List ℕ = drop (0 + length (places_of 0 ls)) p in
      let parts : PartsIn p' q t = record {
        table = omega (arith, ap length p-is, length-append (places_of 0 ls) rest, places_length 0 ls, long, is.arguments);
        inside = λ k l. omega (
          arith,
          place_inside 0 ls rest k (omega (arith, long, is.arguments)),
          lent_length,
          lengths_are,
          ap (λ (x : List ℕ). get_or x (2 * k) 0 + get_or x (2 * k + 1) 0) p-is,
        );
      } in
      let whole : q ++ part (2048 + u) (8192 - u) sb ≡ part 2048 8192 sb =
      let e : u + (8192 - u) ≡ 8192 = omega (arith, bytes_small) in sym (part_add 2048 u (8192 - u) sb) ∙ ap (λ (m : ℕ). part 2048 m sb) e in
      let all : arguments_at 0 t p' q ≡ concat (queue_in s sb) =
      sym (grown_arguments p' q (part (2048 + u) (8192 - u) sb) t 0 t parts (omega arith))
      ∙ ap (arguments_at 0 t p') whole
      ∙ ap (λ (x : List ℕ). arguments_at 0 t x (part 2048 8192 sb)) (p-is ∙ ap (λ (m : ℕ). put_at 0 (places_of 0 (part 132 m s)) p) is.arguments)
      ∙ expanded h p in
      let size : length d' ≡ length d =
      ap length d-at ∙ length-append q (drop (0 + length q) d) ∙ omega (arith, length-drop (0 + length q) d, lent_length) in
      let requests : split_by (part 68 (get_or s 3 0) s) (arguments_at 0 t p' q) ≡ queue_in s sb =
      ap (λ (x : Args). split_by (part 68 (get_or s 3 0) s) x) all ∙ ap (λ (x : List ℕ). split_by x (concat (queue_in s sb))) (sym (queue_counts h)) ∙ split_whole (queue_in s sb) in
      record {
        queued = subst (Queued s p') (sym in_use)
            (record {
              words = h.words;
              few = h.few_commands;
              few_arguments = h.few_arguments;
              positive = positive;
              parts = parts;
              queueable = ap all_queueable requests ∙ queueable;
            });
        commands = ap (λ (x : Bytes). map command_of (split_by (part 68 (get_or s 3 0) s) (arguments_at 0 t p' x))) in_use ∙ ap (map command_of) requests;
        room = omega (arith, size, is.commands);
        same_data = size;
      }
