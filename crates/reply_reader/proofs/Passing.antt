-- The laws of reading the items of an array one behind the other. Assumes nothing.
use mathlib.Core.Path.{◌≡◌, refl, sym, ap, ap₂, ◌∙◌}
use mathlib.Core.List.{List, [], ◌∷◌, ◌++◌, append_assoc, append-nil}
use Prim.Native.Nat.{ℕ, zero, suc, ◌+◌, ◌*◌, ◌-◌, ◌/◌, ◌≤◌, ◌<◌}
use native.Mathlib.Nat.{sub-zero}
use native.Mathlib.Omega.{arith}
use lib.ListN.{length, take, drop, replicate, length-append, length-drop}
use lib.Seq.{take_at}
use Rattle.base_key.specs.Bytes.{Bytes}
use Rattle.base_writing.proofs.Lent.{rest, with_rest, rest_is, with_rest_is}
use Rattle.reply_item.specs.declared.Item.{Item}
use Rattle.reply_item.specs.declared.Item.TheVariants.{ArrayOf}
use Rattle.reply_item.specs.declared.Step.{Step}
use Rattle.reply_item.specs.declared.Step.TheVariants.{Wait as StepWait, Fault as StepFault, Refused as StepRefused, Next, Opens}
use Rattle.reply_item.specs.declared.Refusal.{Refusal}
use Rattle.reply_item.specs.declared.ReplyRead.{ReplyRead}
use Rattle.reply_item.specs.declared.ReplyRead.TheVariants.{Wait, Whole, Fault, Refused}
use Rattle.reply_item.specs.Replies.{ReplyReading, waits, faulty, returns, whole, with_items, Inner, followed, read_items, nested, read_item, most_depth, read_reply, answer_of, table_of, words_of}
use Rattle.reply_item.specs.Steps.{goes_on, level, StepIs, item_at}
use Rattle.reply_reader.specs.Table.{PlaceIn, ItemsIn, Standing, answer_from, item_count, ItemsAre, ReplyIs}
use Rattle.reply_reader.proofs.Tables.{words_length, standing_none, standing_length, standing_then}

-- ITEMS IN FRONT
with_none : (r : ReplyReading) → with_items [] r ≡ r
unfolding with_items
with_none waits = refl
with_none (faulty at) = refl
with_none (returns k) = refl
with_none (whole is end) = refl

with_more : (is js : List Item) (r : ReplyReading) → with_items is (with_items js r) ≡ with_items (is ++ js) r
unfolding with_items
with_more is js waits = refl
with_more is js (faulty at) = refl
with_more is js (returns k) = refl
with_more is js (whole ks end) = ap (λ (l : List Item). whole l end) (sym (append_assoc is js ks))

-- AN ITEM, by its step: an array's items are read one level deeper
deeper : ℕ → ℕ → Bytes → Inner
deeper depth places input = read_items (read_item (depth - 1) places input)

item_is : (depth places : ℕ) (input : Bytes) (n at : ℕ) → read_item depth places input n at ≡ item_at places input n at (level depth places (deeper depth places input))
unfolding read_item item_at level nested deeper
item_is zero places input n at = refl
item_is (suc d) places input n at = let less : suc d - 1 ≡ d = omega arith in rw less refl

-- an answer without items
none_are : {reading : ReplyReading} {input : Bytes} {n : ℕ} {entry : List ℕ} {r : ReplyRead} {exit : List ℕ} (q : ReplyReading) → reading ≡ q → r ≡ answer_from n q → ((is : List Item) (end : ℕ) → q ≡ whole is end → ⊥) → ItemsAre reading input n entry r exit
none_are {n = n} q e a never = record { answer = a ∙ ap (answer_from n) (sym e); items = λ is end w. absurd (never is end (sym e ∙ w)) }

-- i of `count` items are read and stand in the table, n items stand there with those before; the next begins at `at`
pub record Passed (input entry table : List ℕ) (depth count first from i n at : ℕ) : Type 0 where
  pub done : List Item
  pub same : read_items (read_item depth (length entry / 4) input) count first from ≡ with_items done (read_items (read_item depth (length entry / 4) input) (count - i) n at)
  pub standing : Standing done first entry table
  pub many : n ≡ first + length done
  pub inside : at ≤ length input
  pub within : i ≤ count
  pub places : n ≤ length entry / 4
  pub size : length table ≡ length entry

pub passed_none : {input entry : List ℕ} (depth count first from : ℕ) → ItemsIn input entry first from → Passed input entry entry depth count first from 0 first from
passed_none {input} {entry} depth count first from w =
    record {
      done = [];
      same = rw sub-zero (sym (with_none _));
      standing = standing_none first entry w.places;
      many = omega arith;
      inside = w.inside;
      within = omega arith;
      places = w.places;
      size = refl;
    }

module _ {input entry table : List ℕ} {depth count first from i n at : ℕ} (g : Passed input entry table depth count first from i n at) where
  pub passed_all : count ≤ i → ItemsAre (read_items (read_item depth (length entry / 4) input) count first from) input first entry (Whole at n) table
  unfolding read_items with_items
  passed_all h =
      let last : count - i ≡ 0 = omega arith in
      let all : read_items (read_item depth (length entry / 4) input) count first from ≡ whole g.done at =
      g.same ∙ rw last (ap (λ (l : List Item). whole l at) (append-nil g.done)) in
      record {
        answer = ap (Whole at) g.many ∙ ap (answer_from first) (sym all);
        items = λ is end w. let same-items : g.done ≡ is = cc in let same_end : at ≡ end = cc in record { standing = rw (← same-items) g.standing; inside = rw (← same_end) g.inside };
      }

  module _ (h : i < count) {s : Step} (a : StepIs (item_at (length entry / 4) input n at) input (length entry / 4) n depth s) where
    -- the item at `at`, and those behind it
    here : read_item depth (length entry / 4) input n at ≡ goes_on (deeper depth (length entry / 4) input) n s
    here = item_is depth (length entry / 4) input n at ∙ a.same (deeper depth (length entry / 4) input)

    next : read_items (read_item depth (length entry / 4) input) count first from ≡ with_items g.done (followed (goes_on (deeper depth (length entry / 4) input) n s) (λ many end. read_items (read_item depth (length entry / 4) input) (count - (i + 1)) (n + many) end))
    unfolding read_items
    next =
        let one : count - i ≡ suc (count - (i + 1)) = omega arith in
        g.same ∙ ap (with_items g.done) (rw one (ap (λ (r : ReplyReading). followed r (λ many end. read_items (read_item depth (length entry / 4) input) (count - (i + 1)) (n + many) end)) here))

    pub passed_wait : s ≡ StepWait → ItemsAre (read_items (read_item depth (length entry / 4) input) count first from) input first entry Wait table
    unfolding with_items followed
    passed_wait e = none_are waits (next ∙ rw e refl) refl (λ is end w. let z : ◌≡◌ {A = ℕ} 0 1 = cc in omega arith)

    pub passed_fault : {offset : ℕ} → s ≡ StepFault offset → ItemsAre (read_items (read_item depth (length entry / 4) input) count first from) input first entry (Fault offset) table
    unfolding with_items followed
    passed_fault {offset} e = none_are (faulty offset) (next ∙ rw e refl) refl (λ is end w. let z : ◌≡◌ {A = ℕ} 0 1 = cc in omega arith)

    pub passed_number : {k : Refusal} → s ≡ StepRefused k → ItemsAre (read_items (read_item depth (length entry / 4) input) count first from) input first entry (Refused k) table
    unfolding with_items followed
    passed_number {k} e = none_are (returns k) (next ∙ rw e refl) refl (λ is end w. let z : ◌≡◌ {A = ℕ} 0 1 = cc in omega arith)

    -- one item more
    pub passed_place : {item : Item} {end : ℕ} → s ≡ Next item end → PlaceIn table n
    passed_place {item} {end} e = record { inside = rw g.size (a.next item end e).place }

    pub passed_next : {item : Item} {end : ℕ} {after : List ℕ} → s ≡ Next item end → Standing (item ∷ []) n table after → Passed input entry after depth count first from (i + 1) (n + 1) end
    unfolding followed
    passed_next {item} {end} {after} e put =
        let in_place = a.next item end e in
        record {
          done = g.done ++ item ∷ [];
          same = next ∙ rw e (with_more g.done (item ∷ []) (read_items (read_item depth (length entry / 4) input) (count - (i + 1)) (n + 1) end));
          standing = standing_then g.standing g.many put;
          many = ap (λ (k : ℕ). k + 1) g.many ∙ sym (ap (λ (k : ℕ). first + k) (length-append g.done (item ∷ [])) ∙ omega arith);
          inside = in_place.inside;
          within = omega arith;
          places = omega (arith, in_place.place);
          size = standing_length put ∙ g.size;
        }

    -- an array
    module _ {inner start : ℕ} (e : s ≡ Opens inner start) where
      module _ {mid : List ℕ} (put : Standing (ArrayOf inner ∷ []) n table mid) where
        module _ {r : ReplyRead} {after : List ℕ} (q : ItemsAre (read_items (read_item (depth - 1) (length mid / 4) input) inner (n + 1) start) input (n + 1) mid r after) where
          inside_is : read_items (read_item (depth - 1) (length mid / 4) input) inner (n + 1) start ≡ deeper depth (length entry / 4) input inner (suc n) start
          unfolding deeper
          inside_is =
              let sizes : length mid ≡ length entry = standing_length put ∙ g.size in
              let place : n + 1 ≡ suc n = omega arith in
              λ z. read_items (read_item (depth - 1) (sizes z / 4) input) inner (place z) start

          -- by what the items of the array are
          stops : (p : ReplyReading) → read_items (read_item (depth - 1) (length mid / 4) input) inner (n + 1) start ≡ p → followed (with_items (ArrayOf inner ∷ []) p) (λ many end. read_items (read_item depth (length entry / 4) input) (count - (i + 1)) (n + many) end) ≡ p → with_items g.done p ≡ p → read_items (read_item depth (length entry / 4) input) count first from ≡ p
          stops p is stop alone =
              next
              ∙ ap (λ (x : Step). with_items g.done (followed (goes_on (deeper depth (length entry / 4) input) n x) (λ many end. read_items (read_item depth (length entry / 4) input) (count - (i + 1)) (n + many) end))) e
              ∙ ap (λ (x : ReplyReading). with_items g.done (followed (with_items (ArrayOf inner ∷ []) x) (λ many end. read_items (read_item depth (length entry / 4) input) (count - (i + 1)) (n + many) end))) (sym inside_is ∙ is)
              ∙ ap (with_items g.done) stop
              ∙ alone

          -- an answer that is not whole is handed up as it is
          pub passed_array_stops : ((end all : ℕ) → r ≡ Whole end all → ⊥) → ItemsAre (read_items (read_item depth (length entry / 4) input) count first from) input first entry r after
          unfolding with_items followed
          passed_array_stops never = go (read_items (read_item (depth - 1) (length mid / 4) input) inner (n + 1) start) refl q.answer
            where
              go : (p : ReplyReading) → read_items (read_item (depth - 1) (length mid / 4) input) inner (n + 1) start ≡ p → r ≡ answer_from (n + 1) p → ItemsAre (read_items (read_item depth (length entry / 4) input) count first from) input first entry r after
              go waits is b = none_are waits (stops waits is refl refl) b (λ js end v. let z : ◌≡◌ {A = ℕ} 0 1 = cc in omega arith)
              go (faulty o) is b = none_are (faulty o) (stops (faulty o) is refl refl) b (λ js end v. let z : ◌≡◌ {A = ℕ} 0 1 = cc in omega arith)
              go (returns k) is b = none_are (returns k) (stops (returns k) is refl refl) b (λ js end v. let z : ◌≡◌ {A = ℕ} 0 1 = cc in omega arith)
              go (whole js end) is b = absurd (never end (n + 1 + length js) b)

          pub passed_array_whole : {end all : ℕ} → r ≡ Whole end all → Passed input entry after depth count first from (i + 1) all end
          unfolding with_items followed
          passed_array_whole {end} {all} w = go (read_items (read_item (depth - 1) (length mid / 4) input) inner (n + 1) start) refl (sym q.answer ∙ w)
            where
              go : (p : ReplyReading) → read_items (read_item (depth - 1) (length mid / 4) input) inner (n + 1) start ≡ p → answer_from (n + 1) p ≡ Whole end all → Passed input entry after depth count first from (i + 1) all end
              go waits is b = let z : ◌≡◌ {A = ℕ} 0 1 = cc in absurd (omega arith)
              go (faulty o) is b = let z : ◌≡◌ {A = ℕ} 0 1 = cc in absurd (omega arith)
              go (returns k) is b = let z : ◌≡◌ {A = ℕ} 0 1 = cc in absurd (omega arith)
              go (whole js stop) is b =
                  let here_end : stop ≡ end = cc in
                  let here-all : n + 1 + length js ≡ all = cc in
                  let inner-in = q.items js stop is in
                  let sizes : length mid ≡ length entry = standing_length put ∙ g.size in
                  let count_all : n + suc (length js) ≡ all = omega arith in
                  let both : Standing (ArrayOf inner ∷ js) n table after = standing_then put refl inner-in.standing in
                  record {
                    done = g.done ++ ArrayOf inner ∷ js;
                    same =
                        next
                        ∙ ap (λ (x : Step). with_items g.done (followed (goes_on (deeper depth (length entry / 4) input) n x) (λ many end. read_items (read_item depth (length entry / 4) input) (count - (i + 1)) (n + many) end))) e
                        ∙ ap (λ (x : ReplyReading). with_items g.done (followed (with_items (ArrayOf inner ∷ []) x) (λ many end. read_items (read_item depth (length entry / 4) input) (count - (i + 1)) (n + many) end))) (sym inside_is ∙ is)
                        ∙ with_more g.done (ArrayOf inner ∷ js) (read_items (read_item depth (length entry / 4) input) (count - (i + 1)) (n + suc (length js)) stop)
                        ∙ (λ z. with_items (g.done ++ ArrayOf inner ∷ js) (read_items (read_item depth (length entry / 4) input) (count - (i + 1)) (count_all z) (here_end z)));
                    standing = standing_then g.standing g.many both;
                    many = sym count_all ∙ ap (λ (k : ℕ). k + suc (length js)) g.many ∙ sym (ap (λ (k : ℕ). first + k) (length-append g.done (ArrayOf inner ∷ js)) ∙ omega arith);
                    inside = rw (← here_end) inner-in.inside;
                    within = omega arith;
                    places = omega (arith, inner-in.standing.room, sizes);
                    size = standing_length both ∙ g.size;
                  }

-- THE REPLY
one_item : (one : ℕ → ℕ → ReplyReading) (n at : ℕ) → read_items one 1 n at ≡ one n at
unfolding read_items followed with_items
one_item one n at = go (one n at)
  where
    go : (r : ReplyReading) → followed r (λ many end. whole [] end) ≡ r
    go waits = refl
    go (faulty o) = refl
    go (returns k) = refl
    go (whole is end) = ap (λ (l : List Item). whole l end) (append-nil is)

answer_first : (r : ReplyReading) → answer_from 0 r ≡ answer_of r
unfolding answer_of
answer_first waits = refl
answer_first (faulty o) = refl
answer_first (returns k) = refl
answer_first (whole is end) = ap (Whole end) (omega arith)

module _ {input entry : List ℕ} {r : ReplyRead} {mid : List ℕ} (q : ItemsAre (read_items (read_item most_depth (length entry / 4) input) 1 0 0) input 0 entry r mid) (kept : length mid ≡ length entry) where
  reading : read_items (read_item most_depth (length entry / 4) input) 1 0 0 ≡ read_reply (length entry / 4) input
  unfolding read_reply
  reading = one_item (read_item most_depth (length entry / 4) input) 0 0

  answer : r ≡ answer_of (read_reply (length entry / 4) input)
  answer = q.answer ∙ ap (answer_from 0) reading ∙ answer_first (read_reply (length entry / 4) input)

  -- the items stand in front, and zeros behind them
  front_is : (p : ReplyReading) → read_reply (length entry / 4) input ≡ p → take (4 * item_count (answer_of p)) mid ++ replicate (length mid - 4 * item_count (answer_of p)) 0 ≡ table_of (length entry) p
  unfolding answer_of item_count table_of
  front_is waits e = let all : length mid - 0 ≡ length entry = omega arith in ap (λ (m : ℕ). replicate {A = ℕ} m 0) all
  front_is (faulty at) e = let all : length mid - 0 ≡ length entry = omega arith in ap (λ (m : ℕ). replicate {A = ℕ} m 0) all
  front_is (returns k) e = let all : length mid - 0 ≡ length entry = omega arith in ap (λ (m : ℕ). replicate {A = ℕ} m 0) all
  front_is (whole is used) e =
      let there = (q.items is used (reading ∙ e)).standing in
      ap₂ ◌++◌ (ap (take (4 * length is)) there.same ∙ take_at (words_of is) (drop (4 * (0 + length is)) entry) (4 * length is) (words_length is)) (ap (λ (k : ℕ). replicate {A = ℕ} (k - 4 * length is) 0) kept)

  -- they have room in the table
  pub kept_inside : {k : ℕ} → k ≡ item_count r → 4 * k ≤ length mid
  unfolding answer_of item_count
  kept_inside {k} e = let c = e ∙ ap item_count answer in go (read_reply (length entry / 4) input) refl c
    where
      go : (p : ReplyReading) → read_reply (length entry / 4) input ≡ p → k ≡ item_count (answer_of p) → 4 * k ≤ length mid
      go waits is c = omega arith
      go (faulty at) is c = omega arith
      go (returns n) is c = omega arith
      go (whole js used) is c = omega (arith, (q.items js used (reading ∙ is)).standing.room)

  pub reply_read : {k : ℕ} {part : List ℕ} → k ≡ item_count r → part ≡ replicate (length (rest (4 * k) mid)) 0 → ReplyIs input entry r (with_rest (4 * k) mid part)
  reply_read {k} {part} c z =
      let same : k ≡ item_count (answer_of (read_reply (length entry / 4) input)) = c ∙ ap item_count answer in
      let left : length (rest (4 * k) mid) ≡ length mid - 4 * k = ap length (rest_is (4 * k) mid) ∙ length-drop (4 * k) mid in
      record {
        answer = answer;
        table =
            with_rest_is (4 * k) mid part
            ∙ ap (λ (l : List ℕ). take (4 * k) mid ++ l) (z ∙ ap (λ (n : ℕ). replicate {A = ℕ} n 0) left)
            ∙ ap (λ (n : ℕ). take (4 * n) mid ++ replicate (length mid - 4 * n) 0) same
            ∙ front_is (read_reply (length entry / 4) input) refl;
      }
