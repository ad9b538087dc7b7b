-- Laws of the tests of one session: sequences within the last, positive counts, ascending keys, queued names. Assumes nothing.
use mathlib.Core.Path.{◌≡◌, refl, sym, ap, ◌∙◌, subst}
use mathlib.Core.Bool.{Bool, true, false, not, ◌&&◌}
use mathlib.Core.List.{List, [], ◌∷◌, ◌++◌}
use Prim.Native.Nat.{ℕ, zero, suc, ◌+◌, ◌-◌, ◌<◌, ◌≤◌}
use native.Mathlib.Nat.{add_assoc, zero-add}
use native.Mathlib.Omega.{arith}
use lib.Dec.{leb, eqb, eqb-suc-zero}
use lib.ListN.{length, get_or, take, drop}
use lib.Seq.{drop-drop}
use Rattle.std.specs.List.{list_all}
use Rattle.base_key.specs.Bytes.{Bytes, ◌and◌, part, total}
use Rattle.base_key.proofs.Bytes.{length_part_lem}
use Rattle.base_key.specs.Keys.{Key, compare_keys, key_below}
use Rattle.command_spec.proofs.OrderLaws.{below_equal, below_greater}
use Rattle.command_spec.specs.Names.{row_of, name_word, arguments, may_queue, request_queueable}
use Rattle.command_spec.specs.Sessions.{split_by, ascending, ascending_after, all_positive, all_queueable, none_above}
use Rattle.command_spec.specs.Lent.{capped, KeysIn, QueueIn}
use Rattle.command_spec.proofs.Parts.{part_cons, total_append, part_next, part_none, part_start, part_part, part_add, take_part, drop_part, split_drop}
use Rattle.session_memory.proofs.Sums.{capped_low}
use Rattle.std.specs.declared.cmp.Ordering.TheVariants.{Less, Equal, Greater}
use Rattle.std.specs.declared.cmp.Ordering.{Ordering}

-- THE TESTS OF EACH WORD.
and_is : (a b : Bool) → (a && b) ≡ (a and b)
unfolding ◌and◌
and_is true b = refl
and_is false b = refl

pub none_above_is : (last : ℕ) (l : List ℕ) → list_all (λ n. leb n last) l ≡ none_above last l
unfolding none_above
none_above_is last [] = refl
none_above_is last (n ∷ l) = and_is (leb n last) (list_all (λ n. leb n last) l) ∙ ap (λ (v : Bool). leb n last and v) (none_above_is last l)

pub all_positive_is : (l : List ℕ) → list_all (λ n. not (eqb n 0)) l ≡ all_positive l
unfolding all_positive ◌and◌
all_positive_is [] = refl
all_positive_is (zero ∷ l) = refl
all_positive_is (suc n ∷ l) = rw eqb-suc-zero (all_positive_is l)

-- any order but `Less` is not below
pub below_default : (a b : Key) (o : Ordering) → o ≡ compare_keys a b → (o ≡ Less → ⊥) → false ≡ key_below a b
below_default a b Less e h = absurd (h refl)
below_default a b Equal e h = below_equal a b e refl
below_default a b Greater e h = below_greater a b e refl

-- THE KEYS: those up to place i are ascending; the last of them lies from `start` to `end`.
pub record Rising (w : List ℕ) (b : Bytes) (count start end i : ℕ) : Type 0 where
  pub within : i ≤ count
  pub forward : start ≤ end
  pub room : end + total (part (4 + i) (count - i) w) ≤ 2048
  pub is : ascending (split_by (part 4 count w) (part 0 2048 b)) ≡ ascending_after (part start (end - start) b) (split_by (part (4 + i) (count - i) w) (drop end (part 0 2048 b)))

module _ {w : List ℕ} {b : Bytes} {count : ℕ} (k : KeysIn w b count) where
  pub no_keys : count ≡ 0 → true ≡ ascending (split_by (part 4 count w) (part 0 2048 b))
  unfolding split_by
  no_keys e = rw e

  -- the first key
  pub rising_first : {n : ℕ} → n ≡ get_or w 4 0 → (count ≡ 0 → ⊥) → Rising w b count 0 n 1
  unfolding split_by total
  rising_first {n} e ne =
      let c : part 4 count w ≡ get_or w 4 0 ∷ part (4 + 1) (count - 1) w = part_start w 4 count ∙ part_next w 4 count 0 0 (omega arith) (omega arith) in
      let t : total (part 4 count w) ≡ get_or w 4 0 + total (part (4 + 1) (count - 1) w) = ap total c in
      record {
        within = omega arith;
        forward = omega arith;
        room = omega arith;
        is = ap (λ (l : List ℕ). ascending (split_by l (part 0 2048 b))) c
            ∙ ap (λ (m : ℕ). ascending_after (take m (part 0 2048 b)) (split_by (part (4 + 1) (count - 1) w) (drop m (part 0 2048 b)))) (sym e)
            ∙ ap (λ (x : Bytes). ascending_after x (split_by (part (4 + 1) (count - 1) w) (drop n (part 0 2048 b)))) (part_part 0 2048 0 n b (omega arith) ∙ first_part n);
      }
    where
      first_part : (n : ℕ) → part (0 + 0) n b ≡ part 0 (n - 0) b
      first_part n = let e : n ≡ n - 0 = omega arith in ap (λ (m : ℕ). part 0 m b) e

  module _ {start end i : ℕ} (r : Rising w b count start end i) where
    step_is : (next : ℕ) → next ≡ end + get_or w (4 + i) 0 → i < count → ascending (split_by (part 4 count w) (part 0 2048 b))
        ≡ (key_below (part start (end - start) b) (part end (next - end) b)
        and ascending_after (part end (next - end) b) (split_by (part (4 + (i + 1)) (count - (i + 1)) w) (drop next (part 0 2048 b))))
    unfolding split_by ascending_after total
    step_is next e h =
        let c : part (4 + i) (count - i) w ≡ get_or w (4 + i) 0 ∷ part (4 + (i + 1)) (count - (i + 1)) w = part_next w 4 count i 0 h (omega (arith, k.words, k.few)) in
        let t : total (part (4 + i) (count - i) w) ≡ get_or w (4 + i) 0 + total (part (4 + (i + 1)) (count - (i + 1)) w) = ap total c in
        let m : get_or w (4 + i) 0 ≡ next - end = omega arith in
        let j : take (get_or w (4 + i) 0) (drop end (part 0 2048 b)) ≡ part end (next - end) b =
        part_part 0 2048 end (get_or w (4 + i) 0) b (omega (arith, r.room)) ∙ (λ z. part (zero-add end z) (m z) b) in
        let d : drop (get_or w (4 + i) 0) (drop end (part 0 2048 b)) ≡ drop next (part 0 2048 b) =
        drop-drop (get_or w (4 + i) 0) end (part 0 2048 b) ∙ ap (λ (n : ℕ). drop n (part 0 2048 b)) (sym e) in
        r.is ∙ ap (λ (l : List ℕ). ascending_after (part start (end - start) b) (split_by l (drop end (part 0 2048 b)))) c
        ∙ (λ z. key_below (part start (end - start) b) (j z) and ascending_after (j z) (split_by (part (4 + (i + 1)) (count - (i + 1)) w) (d z)))

    -- the next key lies in its place
    pub next_room : i < count → end + get_or w (4 + i) 0 ≤ 2048
    unfolding total
    next_room h =
        let c : part (4 + i) (count - i) w ≡ get_or w (4 + i) 0 ∷ part (4 + (i + 1)) (count - (i + 1)) w = part_next w 4 count i 0 h (omega (arith, k.words, k.few)) in
        omega (arith, r.room, ap total c)

    module _ {n : ℕ} {v : Bool} (e : n ≡ get_or w (4 + i) 0) (o : v ≡ key_below (part start (end - start) b) (part end (end + n - end) b)) (h : i < count) where
      pub rising_more : v ≡ true → Rising w b count end (end + n) (i + 1)
      unfolding total ◌and◌
      rising_more t =
          let c : part (4 + i) (count - i) w ≡ get_or w (4 + i) 0 ∷ part (4 + (i + 1)) (count - (i + 1)) w = part_next w 4 count i 0 h (omega (arith, k.words, k.few)) in
          record {
            within = omega arith;
            forward = omega arith;
            room = omega (arith, r.room, ap total c);
            is = step_is (end + n) (ap (λ (x : ℕ). end + x) e) h
                ∙ ap (λ (x : Bool). x and ascending_after (part end (end + n - end) b) (split_by (part (4 + (i + 1)) (count - (i + 1)) w) (drop (end + n) (part 0 2048 b)))) (sym o ∙ t);
          }

      pub not_rising : v ≡ false → false ≡ ascending (split_by (part 4 count w) (part 0 2048 b))
      unfolding ◌and◌
      not_rising f =
          sym (step_is (end + n) (ap (λ (x : ℕ). end + x) e) h
          ∙ ap (λ (x : Bool). x and ascending_after (part end (end + n - end) b) (split_by (part (4 + (i + 1)) (count - (i + 1)) w) (drop (end + n) (part 0 2048 b)))) (sym o ∙ f))

    pub risen : count ≤ i → true ≡ ascending (split_by (part 4 count w) (part 0 2048 b))
    unfolding split_by ascending_after
    risen h = sym (r.is ∙ ap (λ (l : List ℕ). ascending_after (part start (end - start) b) (split_by l (drop end (part 0 2048 b)))) (part_none w 4 count i h))

-- THE COMMANDS: the commands before place i may be queued; `first` is the next one's first argument, and `start` where that starts
pub record Naming (w : List ℕ) (b : Bytes) (count first start i : ℕ) : Type 0 where
  pub within : i ≤ count
  pub arguments : first + total (part (68 + i) (count - i) w) ≤ 512
  pub room : start + total (part (132 + first) (total (part (68 + i) (count - i) w)) w) ≤ 8192
  pub named : all_positive (part (68 + i) (count - i) w) ≡ true
  pub is : all_queueable (split_by (part 68 count w) (split_by (part 132 (total (part 68 count w)) w) (part 2048 8192 b)))
      ≡ all_queueable (split_by (part (68 + i) (count - i) w) (split_by (part (132 + first) (total (part (68 + i) (count - i) w)) w) (drop start (part 2048 8192 b))))

-- what the first of the counts, not 0, tells of the rest
positive_head : (n : ℕ) (ns : List ℕ) → all_positive (n ∷ ns) ≡ true → (0 < n) × (all_positive ns ≡ true)
unfolding all_positive ◌and◌
positive_head zero ns e = let z : ◌≡◌ {A = ℕ} 0 1 = cc in absurd (omega arith)
positive_head (suc n) ns e = (omega arith, e)

-- the name of a command that is cut off the front
front_name : (n : ℕ) (ls : List ℕ) (d : Bytes) → 0 < n → 0 < length ls → name_word (take n (split_by ls d)) ≡ take (get_or ls 0 0) d
unfolding split_by
front_name zero ls d h k = absurd (omega arith)
front_name (suc n) [] d h k = absurd (omega arith)
front_name (suc n) (l ∷ ls) d h k = refl

-- and how many arguments stand behind it
cut_count : (n : ℕ) (ls : List ℕ) (d : Bytes) → n ≤ length ls → length (take n (split_by ls d)) ≡ n
unfolding split_by
cut_count zero ls d h = refl
cut_count (suc n) [] d h = absurd (omega arith)
cut_count (suc n) (l ∷ ls) d h = ap suc (cut_count n ls (drop l d) (omega arith))

one_less : (n : ℕ) → n ≡ suc n - 1
one_less n = omega arith

front_count : (n : ℕ) (ls : List ℕ) (d : Bytes) → n ≤ length ls → length (arguments (take n (split_by ls d))) ≡ n - 1
unfolding split_by
front_count zero ls d h = refl
front_count (suc n) [] d h = absurd (omega arith)
front_count (suc n) (l ∷ ls) d h = cut_count n ls (drop l d) (omega arith) ∙ one_less n

module _ {w : List ℕ} {b : Bytes} {count : ℕ} (q : QueueIn w b count) {first start i : ℕ} (r : Naming w b count first start i) (h : i < count) where
  -- the counts that are left: the next, and those behind it
  next_count : part (68 + i) (count - i) w ≡ get_or w (68 + i) 0 ∷ part (68 + (i + 1)) (count - (i + 1)) w
  next_count = part_next w 68 count i 0 h (omega (arith, q.words, q.few))

  total_counts : total (part (68 + i) (count - i) w) ≡ get_or w (68 + i) 0 + total (part (68 + (i + 1)) (count - (i + 1)) w)
  unfolding total
  total_counts = ap total next_count

  head_positive : (0 < get_or w (68 + i) 0) × (all_positive (part (68 + (i + 1)) (count - (i + 1)) w) ≡ true)
  head_positive = positive_head (get_or w (68 + i) 0) (part (68 + (i + 1)) (count - (i + 1)) w) (ap all_positive (sym next_count) ∙ r.named)

  -- the lengths that are left: those of the next command's arguments, and those behind them
  behind : List ℕ
  behind = part (132 + (first + get_or w (68 + i) 0)) (total (part (68 + (i + 1)) (count - (i + 1)) w)) w

  lengths : List ℕ
  lengths = part (132 + first) (total (part (68 + i) (count - i) w)) w

  -- the next command's arguments have a length each
  pub lengths_room : 132 + first + get_or w (68 + i) 0 ≤ length w
  lengths_room = omega (arith, r.arguments, total_counts, q.words)

  lengths_as : lengths ≡ part (132 + first) (get_or w (68 + i) 0 + total (part (68 + (i + 1)) (count - (i + 1)) w)) w
  unfolding lengths
  lengths_as = ap (λ (n : ℕ). part (132 + first) n w) total_counts

  later : (n : ℕ) → part (132 + first + get_or w (68 + i) 0) n w ≡ part (132 + (first + get_or w (68 + i) 0)) n w
  later n = ap (λ (x : ℕ). part x n w) (add_assoc 132 first (get_or w (68 + i) 0))

  lengths_cut : lengths ≡ part (132 + first) (get_or w (68 + i) 0) w ++ behind
  unfolding behind
  lengths_cut = lengths_as ∙ part_add (132 + first) (get_or w (68 + i) 0) (total (part (68 + (i + 1)) (count - (i + 1)) w)) w
      ∙ ap (λ (x : List ℕ). part (132 + first) (get_or w (68 + i) 0) w ++ x) (later (total (part (68 + (i + 1)) (count - (i + 1)) w)))

  lengths_total : total lengths ≡ total (part (132 + first) (get_or w (68 + i) 0) w) + total behind
  lengths_total = ap total lengths_cut ∙ total_append (part (132 + first) (get_or w (68 + i) 0) w) behind

  lengths_drop : drop (get_or w (68 + i) 0) lengths ≡ behind
  unfolding behind
  lengths_drop = ap (drop (get_or w (68 + i) 0)) lengths_as ∙ drop_part (132 + first) (get_or w (68 + i) 0) (total (part (68 + (i + 1)) (count - (i + 1)) w)) w lengths_room
      ∙ later (total (part (68 + (i + 1)) (count - (i + 1)) w))

  lengths_take : take (get_or w (68 + i) 0) lengths ≡ part (132 + first) (get_or w (68 + i) 0) w
  lengths_take = ap (take (get_or w (68 + i) 0)) lengths_as ∙ take_part (132 + first) (get_or w (68 + i) 0) (total (part (68 + (i + 1)) (count - (i + 1)) w)) w lengths_room

  -- the first of them is the length of the name
  lengths_first : lengths ≡ get_or w (132 + first) 0 ∷ part (132 + first + 1) (total (part (68 + i) (count - i) w) - 1) w
  unfolding lengths
  lengths_first =
      let e : total (part (68 + i) (count - i) w) ≡ suc (total (part (68 + i) (count - i) w) - 1) = omega (arith, total_counts, head_positive.0) in
      ap (λ (n : ℕ). part (132 + first) n w) e ∙ part_cons w (132 + first) (total (part (68 + i) (count - i) w) - 1) 0 (omega (arith, lengths_room, head_positive.0))

  room_left : start + total lengths ≤ 8192
  unfolding lengths
  room_left = r.room

  name_fits : start + get_or w (132 + first) 0 ≤ 8192
  unfolding total
  name_fits = omega (arith, room_left, ap total lengths_first)

  -- the name lies in its place
  pub name_room : {n : ℕ} → n ≡ get_or w (68 + i) 0 → (132 + first < length w) × (2048 + start + get_or w (132 + first) 0 ≤ length b) × (1 ≤ n)
  name_room a = (omega (arith, lengths_room, head_positive.0), omega (arith, name_fits, q.bytes), omega (arith, a, head_positive.0))

  name_is : name_word (take (get_or w (68 + i) 0) (split_by lengths (drop start (part 2048 8192 b)))) ≡ part (2048 + start) (get_or w (132 + first) 0) b
  name_is =
      front_name (get_or w (68 + i) 0) lengths (drop start (part 2048 8192 b)) head_positive.0 (rw lengths_first (omega arith))
      ∙ ap (λ (l : List ℕ). take (get_or l 0 0) (drop start (part 2048 8192 b))) lengths_first ∙ part_part 2048 8192 start (get_or w (132 + first) 0) b name_fits

  lengths_long : get_or w (68 + i) 0 ≤ length lengths
  unfolding lengths
  lengths_long = omega (arith, total_counts, length_part_lem (132 + first) (total (part (68 + i) (count - i) w)) w (omega (arith, r.arguments, q.words)))

  count_is : length (arguments (take (get_or w (68 + i) 0) (split_by lengths (drop start (part 2048 8192 b))))) ≡ get_or w (68 + i) 0 - 1
  count_is = front_count (get_or w (68 + i) 0) lengths (drop start (part 2048 8192 b)) lengths_long

  rest_is : drop (get_or w (68 + i) 0) (split_by lengths (drop start (part 2048 8192 b)))
      ≡ split_by behind (drop (start + total (part (132 + first) (get_or w (68 + i) 0) w)) (part 2048 8192 b))
  rest_is =
      split_drop (get_or w (68 + i) 0) lengths (drop start (part 2048 8192 b))
      ∙ (λ z. split_by (lengths_drop z) (drop (total (lengths_take z)) (drop start (part 2048 8192 b))))
      ∙ ap (split_by behind) (drop-drop (total (part (132 + first) (get_or w (68 + i) 0) w)) start (part 2048 8192 b))

  naming_step : all_queueable (split_by (part 68 count w) (split_by (part 132 (total (part 68 count w)) w) (part 2048 8192 b)))
      ≡ (may_queue (row_of (part (2048 + start) (get_or w (132 + first) 0) b)) (get_or w (68 + i) 0 - 1)
      and all_queueable (split_by (part (68 + (i + 1)) (count - (i + 1)) w) (split_by behind (drop (start + total (part (132 + first) (get_or w (68 + i) 0) w)) (part 2048 8192 b)))))
  unfolding split_by all_queueable request_queueable lengths
  naming_step =
      r.is ∙ ap (λ (l : List ℕ). all_queueable (split_by l (split_by lengths (drop start (part 2048 8192 b))))) next_count
      ∙ (λ z. may_queue (row_of (name_is z)) (count_is z) and all_queueable (split_by (part (68 + (i + 1)) (count - (i + 1)) w) (rest_is z)))

  sum_small : total (part (132 + first) (get_or w (68 + i) 0) w) ≤ 8192
  sum_small = omega (arith, room_left, lengths_total)

  module _ {n : ℕ} (a : n ≡ get_or w (68 + i) 0) {v : Bool} (e : v ≡ may_queue (row_of (part (2048 + start) (get_or w (132 + first) 0) b)) (n - 1)) where
    told : v ≡ may_queue (row_of (part (2048 + start) (get_or w (132 + first) 0) b)) (get_or w (68 + i) 0 - 1)
    told = e ∙ ap (λ (x : ℕ). may_queue (row_of (part (2048 + start) (get_or w (132 + first) 0) b)) (x - 1)) a

    pub not_queueable_lem : v ≡ false → false ≡ all_queueable (split_by (part 68 count w) (split_by (part 132 (total (part 68 count w)) w) (part 2048 8192 b)))
    unfolding ◌and◌
    not_queueable_lem f =
        sym (naming_step ∙ ap (λ (x : Bool). x and all_queueable (split_by (part (68 + (i + 1)) (count - (i + 1)) w) (split_by behind (drop (start + total (part (132 + first) (get_or w (68 + i) 0) w)) (part 2048 8192 b))))) (sym told ∙ f))

    module _ {sum : ℕ} (s : sum ≡ capped 8192 (total (part (132 + first) n w))) where
      sum_is : sum ≡ total (part (132 + first) (get_or w (68 + i) 0) w)
      sum_is = s ∙ ap (λ (x : ℕ). capped 8192 (total (part (132 + first) x w))) a ∙ capped_low 8192 _ sum_small

      pub naming_more : v ≡ true → Naming w b count (first + n) (start + sum) (i + 1)
      unfolding ◌and◌ behind
      naming_more t =
          subst (λ (x : ℕ). Naming w b count (first + x) (start + sum) (i + 1)) (sym a)
          (subst (λ (x : ℕ). Naming w b count (first + get_or w (68 + i) 0) (start + x) (i + 1)) (sym sum_is)
          (record {
            within = omega arith;
            arguments = omega (arith, r.arguments, total_counts);
            room = omega (arith, room_left, lengths_total);
            named = head_positive.1;
            is = naming_step ∙ ap (λ (x : Bool). x and all_queueable (split_by (part (68 + (i + 1)) (count - (i + 1)) w) (split_by behind (drop (start + total (part (132 + first) (get_or w (68 + i) 0) w)) (part 2048 8192 b))))) (sym told ∙ t);
          }))

      -- the next places fit
      pub places_fit : (first + n ≤ 512) × (start + sum ≤ 8192)
      places_fit = (omega (arith, r.arguments, total_counts), omega (arith, sum_is, room_left, lengths_total))

pub all_queueable_lem : {w : List ℕ} {b : Bytes} {count first start i : ℕ} → Naming w b count first start i → count ≤ i
    → true ≡ all_queueable (split_by (part 68 count w) (split_by (part 132 (total (part 68 count w)) w) (part 2048 8192 b)))
unfolding split_by all_queueable
all_queueable_lem {w} {b} {count} {first} {start} {i} r h =
    sym (r.is ∙ ap (λ (l : List ℕ). all_queueable (split_by l (split_by (part (132 + first) (total l) w) (drop start (part 2048 8192 b))))) (part_none w 68 count i h))
