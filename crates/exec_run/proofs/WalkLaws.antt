-- The walk over the commands of a queue. Assumes nothing.
use Prim.Native.Nat.{ℕ, zero, suc, ◌+◌, ◌-◌, ◌*◌, ◌≤◌, ◌<◌}
use native.Mathlib.Nat.{zero-add, add-zero, add-suc}
use native.Mathlib.Omega.{arith}
use mathlib.Core.Path.{◌≡◌, refl, sym, ap, ◌∙◌, subst}
use mathlib.Core.Bool.{true}
use mathlib.Core.List.{List, [], ◌∷◌, ◌++◌, map, append-nil}
use lib.ListN.{length, get_or, take, drop, replicate, length-append, length-drop, take-append-drop, drop_of_length-le}
use lib.Seq.{get_or-take, get_or-drop, take_all, take-take, length-take-le}
use Rattle.base_key.specs.Bytes.{Bytes, ◌and◌, part, total}
use Rattle.base_key.proofs.Bytes.{and_left, and_right}
use Rattle.base_writing.specs.Puts.{Puts, Adds, answered_behind, placed_behind}
use Rattle.base_writing.proofs.Lent.{rest, with_rest, rest_is, with_rest_is}
use Rattle.base_writing.proofs.Puts.{length_kept, was_full, Follows, follows_none, follows_more, then_follows}
use Rattle.resp_spec.specs.Reply.{head, encode}
use Rattle.store_memtable.specs.Rows.{versions_in}
use Rattle.command_spec.specs.Names.{Args, request_queueable}
use Rattle.command_spec.specs.Command.{Command, command_of, run}
use Rattle.command_spec.specs.Sessions.{split_by, yes?, all_positive, all_queueable}
use Rattle.command_spec.specs.Places.{arguments_at, PartsIn}
use Rattle.command_spec.proofs.Parts.{part_next, part_none, part_start}
use Rattle.command_writes.specs.Own.{own_writes, Own, reader_of}
use Rattle.command_writes.proofs.Growing.{none_writes, own_none, part_append}
use Rattle.exec_queued.specs.declared.Walked.{Walked}
use Rattle.exec_queued.specs.Walks.{MayRun, Advanced}
use Rattle.exec_run.specs.Progress.{Progress, begun, advance, advance_all, Queued, requests_in, commands_in, lent_from, QueueRan}
use Rattle.std.specs.Prelude.{Option, None, Some}

-- ARGUMENTS of a part of the table
pub take_arguments : (k n m : ℕ) (p : List ℕ) (s : Bytes) → take n (arguments_at k (n + m) p s) ≡ arguments_at k n p s
unfolding arguments_at
take_arguments k zero m p s = refl
take_arguments k (suc n) m p s =
    let e : suc n + m ≡ suc (n + m) = omega arith in
    ap (λ (x : ℕ). take (suc n) (arguments_at k x p s)) e ∙ ap (λ (l : Args). part (get_or p (2 * k) 0) (get_or p (2 * k + 1) 0) s ∷ l) (take_arguments (suc k) n m p s)

pub drop_arguments : (k n m : ℕ) (p : List ℕ) (s : Bytes) → drop n (arguments_at k (n + m) p s) ≡ arguments_at (k + n) m p s
unfolding arguments_at
drop_arguments k zero m p s = λ z. arguments_at (sym (add-zero k) z) (zero-add m z) p s
drop_arguments k (suc n) m p s =
    let e : suc n + m ≡ suc (n + m) = omega arith in
    let f : suc k + n ≡ k + suc n = omega arith in
    ap (λ (x : ℕ). drop (suc n) (arguments_at k x p s)) e ∙ drop_arguments (suc k) n m p s ∙ ap (λ (x : ℕ). arguments_at x m p s) f

part_at : (p : List ℕ) (start n i : ℕ) → i < n → get_or (take n (drop start p)) i 0 ≡ get_or p (start + i) 0
part_at p start n i h = get_or-take n (drop start p) i 0 h ∙ get_or-drop start p i 0

slice_arguments : (p : List ℕ) (s : Bytes) (first size j m : ℕ) → 2 * (j + m) ≤ size → arguments_at j m (take size (drop (2 * first) p)) s ≡ arguments_at (first + j) m p s
unfolding arguments_at
slice_arguments p s first size j zero h = refl
slice_arguments p s first size j (suc m) h =
    let a : 2 * first + 2 * j ≡ 2 * (first + j) = omega arith in
    let b : 2 * first + (2 * j + 1) ≡ 2 * (first + j) + 1 = omega arith in
    let x : get_or (take size (drop (2 * first) p)) (2 * j) 0 ≡ get_or p (2 * (first + j)) 0 = part_at p (2 * first) size (2 * j) (omega arith) ∙ ap (λ (i : ℕ). get_or p i 0) a in
    let y : get_or (take size (drop (2 * first) p)) (2 * j + 1) 0 ≡ get_or p (2 * (first + j) + 1) 0 = part_at p (2 * first) size (2 * j + 1) (omega arith) ∙ ap (λ (i : ℕ). get_or p i 0) b in
    let t : arguments_at (suc j) m (take size (drop (2 * first) p)) s ≡ arguments_at (suc (first + j)) m p s =
    slice_arguments p s first size (suc j) m (omega arith) ∙ ap (λ (i : ℕ). arguments_at i m p s) (add-suc first j) in
    λ z. part (x z) (y z) s ∷ t z

-- the same arguments in data that has grown behind
pub grown_arguments : (p : List ℕ) (d t : Bytes) (count j m : ℕ) → PartsIn p d count → j + m ≤ count → arguments_at j m p (d ++ t) ≡ arguments_at j m p d
unfolding arguments_at
grown_arguments p d t count j zero ps h = refl
grown_arguments p d t count j (suc m) ps h =
    λ z. part_append (get_or p (2 * j) 0) (get_or p (2 * j + 1) 0) d t (ps.inside j (omega arith)) z ∷ grown_arguments p d t count (suc j) m ps (omega arith) z

-- THE PART of the reply buffer that the next command is lent
pub lent_within : (put : Option ℕ) (len : ℕ) {at : ℕ} → at ≡ lent_from put len → at ≤ len
unfolding lent_from
lent_within put len {at} is = go put is
  where
    go : (u : Option ℕ) → at ≡ lent_from u len → at ≤ len
    go (Some n) e = omega arith
    go None e = omega arith

-- what was written there is written behind what was put: a reply that did not fit has left zeros, and they stay
lent_adds : {done-text text start entry last : Bytes} {put after : Option ℕ} {at : ℕ} → Puts done-text start put entry → at ≡ lent_from put (length entry)
    → Adds text put (rest at entry) after last → Adds text put entry after (with_rest at entry last)
unfolding lent_from answered_behind placed_behind
lent_adds {text = text} {start = start} {entry = entry} {last = last} {put = put} {after = after} {at = at} p is a = go put refl is
  where
    go : (u : Option ℕ) → put ≡ u → at ≡ lent_from u (length entry) → Adds text put entry after (with_rest at entry last)
    go (Some n) e is =
        let whole : rest at entry ≡ entry = rest_is at entry ∙ ap (λ (k : ℕ). drop k entry) is in
        let back : with_rest at entry last ≡ last = with_rest_is at entry last ∙ ap (λ (k : ℕ). take k entry ++ last) is in
        rw back (subst (λ (l : Bytes). Adds text put l after last) whole a)
    go None e is =
        let none : rest at entry ≡ [] = rest_is at entry ∙ ap (λ (k : ℕ). drop k entry) is ∙ drop_of_length-le entry {i = length entry} (omega arith) in
        let b : Adds text None [] after last = subst (λ (u : Option ℕ). Adds text u [] after last) e (subst (λ (l : Bytes). Adds text put l after last) none a) in
        let zeros : entry ≡ replicate (length entry) 0 = (was_full p e).buffer ∙ ap (λ (k : ℕ). replicate k 0) (sym (length_kept p)) in
        let back : with_rest at entry last ≡ entry =
        with_rest_is at entry last
        ∙ ap (λ (k : ℕ). take k entry ++ last) is
        ∙ ap (λ (l : Bytes). take (length entry) entry ++ l) b.buffer
        ∙ append-nil (take (length entry) entry)
        ∙ take_all (length entry) entry (omega arith) in
        record { answer = rw e b.answer; buffer = rw e (back ∙ zeros) }

-- THE WALK: the first i commands, of the first `first` arguments, have been run; d₀ is the data that was in use before them
pub record Walking (s p : List ℕ) (d₀ : Bytes) (w : List ℕ) (b : Bytes) (seq : ℕ) (put₀ : Option ℕ) (own₀ : List ℕ) (data₀ out₀ : Bytes) (own : List ℕ) (d out : Bytes) (a : Walked) (first i : ℕ) : Type 0 where
  pub within : i ≤ get_or s 3 0
  pub first_is : first + total (part (68 + i) (get_or s 3 0 - i) s) ≡ total (part 68 (get_or s 3 0) s)
  pub positive : all_positive (part (68 + i) (get_or s 3 0 - i) s) ≡ true
  pub queueable : all_queueable (split_by (part (68 + i) (get_or s 3 0 - i) s) (arguments_at first (total (part (68 + i) (get_or s 3 0 - i) s)) p d₀)) ≡ true
  pub kept : Own own (take a.used d) a.rows
  pub front : take (length d₀) d ≡ d₀
  pub used_more : length d₀ ≤ a.used
  pub used_room : a.used + 20 * (get_or s 3 0 - i) ≤ length d
  pub few_rows : a.rows ≤ first
  pub replies : Bytes
  pub is : advance_all seq (versions_in w b) (commands_in s p d₀) begun
      ≡ advance_all seq (versions_in w b) (map command_of (split_by (part (68 + i) (get_or s 3 0 - i) s) (arguments_at first (total (part (68 + i) (get_or s 3 0 - i) s)) p d₀)))
      (record { writes = own_writes own (take a.used d) a.rows; replies = replies })
  pub follows : Follows replies put₀ out₀ a.put out
  pub same : length own ≡ length own₀
  pub same_data : length d ≡ length data₀

pub walking_none : (s p : List ℕ) (w : List ℕ) (b : Bytes) (seq used : ℕ) (put₀ : Option ℕ) (own d out : Bytes) {n : ℕ} → n ≡ get_or s 3 0 → Queued s p (take used d) → used + 20 * get_or s 3 0 ≤ length d
    → Walking s p (take used d) w b seq put₀ own d out own d out (record { rows = 0; used = used; put = put₀ }) 0 0
unfolding commands_in requests_in
walking_none s p w b seq used put₀ own d out n-is q h =
    let e : part 68 (get_or s 3 0) s ≡ part (68 + 0) (get_or s 3 0 - 0) s = part_start s 68 (get_or s 3 0) in
    let l : length (take used d) ≡ used = length-take-le used d (omega arith) in
    record {
      within = omega arith;
      first_is = omega (arith, ap total e);
      positive = sym (ap all_positive e) ∙ q.positive;
      queueable = sym (ap (λ (l : List ℕ). all_queueable (split_by l (arguments_at 0 (total l) p (take used d)))) e) ∙ q.queueable;
      kept = own_none own (take used d);
      front = ap (λ (m : ℕ). take m d) l;
      used_more = omega arith;
      used_room = omega arith;
      few_rows = omega arith;
      replies = [];
      is = λ z. advance_all seq (versions_in w b) (map command_of (split_by (e z) (arguments_at 0 (total (e z)) p (take used d)))) (record { writes = sym (none_writes own (take used d)) z; replies = [] });
      follows = follows_none put₀ out;
      same = refl;
      same_data = refl;
    }

module _ {s p : List ℕ} {d₀ : Bytes} {w : List ℕ} {b : Bytes} {seq : ℕ} {put₀ : Option ℕ} {own₀ : List ℕ} {data₀ out₀ : Bytes} {own : List ℕ} {d out : Bytes} {a : Walked} {first i : ℕ}
    (g : Walking s p d₀ w b seq put₀ own₀ data₀ out₀ own d out a first i) (q : Queued s p d₀) where
  module _ {n count : ℕ} (n-is : n ≡ get_or s 3 0) (l : i < n) (c-is : count ≡ get_or s (68 + i) 0) where
    h : i < get_or s 3 0
    h = omega arith

    counts_next : part (68 + i) (get_or s 3 0 - i) s ≡ count ∷ part (68 + (i + 1)) (get_or s 3 0 - (i + 1)) s
    counts_next = part_next s 68 (get_or s 3 0) i 0 h (omega (arith, q.words, q.few)) ∙ ap (λ (x : ℕ). x ∷ part (68 + (i + 1)) (get_or s 3 0 - (i + 1)) s) (sym c-is)

    total_next : total (part (68 + i) (get_or s 3 0 - i) s) ≡ count + total (part (68 + (i + 1)) (get_or s 3 0 - (i + 1)) s)
    unfolding total
    total_next = ap total counts_next

    positive_next : (yes? count and all_positive (part (68 + (i + 1)) (get_or s 3 0 - (i + 1)) s)) ≡ true
    unfolding all_positive
    positive_next = sym (ap all_positive counts_next) ∙ g.positive

    -- the command has its name
    pub count_least : 1 ≤ count
    count_least = go count (and_left (yes? count) (all_positive (part (68 + (i + 1)) (get_or s 3 0 - (i + 1)) s)) positive_next)
      where
        go : (n : ℕ) → yes? n ≡ true → 1 ≤ n
        go zero e = let z : ◌≡◌ {A = ℕ} 0 1 = cc in absurd (omega arith)
        go (suc n) e = omega arith

    pub last_argument : first + count ≤ total (part 68 (get_or s 3 0) s)
    last_argument = omega (arith, g.first_is, total_next)

    pub places_in : 2 * first + 2 * count ≤ length p
    places_in = omega (arith, last_argument, q.parts.table)

    pub few_places : 2 * first + 2 * count ≤ 1024
    few_places = omega (arith, last_argument, q.few_arguments)

    used_is : take a.used d ≡ d₀ ++ drop (length d₀) (take a.used d)
    used_is =
        sym (take-append-drop (length d₀) (take a.used d))
        ∙ ap (λ (l : Bytes). l ++ drop (length d₀) (take a.used d)) (take-take (length d₀) a.used d g.used_more ∙ g.front)

    -- its arguments, as the code is lent them
    lent_arguments : arguments_at 0 count (part (2 * first) (2 * first + 2 * count - 2 * first) p) (take a.used d) ≡ arguments_at first count p d₀
    lent_arguments =
        slice_arguments p (take a.used d) first (2 * first + 2 * count - 2 * first) 0 count (omega arith)
        ∙ ap (λ (j : ℕ). arguments_at j count p (take a.used d)) (add-zero first)
        ∙ ap (arguments_at first count p) used_is
        ∙ grown_arguments p d₀ (drop (length d₀) (take a.used d)) (total (part 68 (get_or s 3 0) s)) first count q.parts last_argument

    -- it may be queued, and so may those behind it
    queueable_next : (request_queueable (arguments_at first count p d₀)
        and all_queueable (split_by (part (68 + (i + 1)) (get_or s 3 0 - (i + 1)) s) (arguments_at (first + count) (total (part (68 + (i + 1)) (get_or s 3 0 - (i + 1)) s)) p d₀)))
        ≡ true
    unfolding all_queueable split_by
    queueable_next =
        let m : ℕ = total (part (68 + (i + 1)) (get_or s 3 0 - (i + 1)) s) in
        (λ z. request_queueable (sym (take_arguments first count m p d₀) z)
        and all_queueable (split_by (part (68 + (i + 1)) (get_or s 3 0 - (i + 1)) s) (sym (drop_arguments first count m p d₀) z)))
        ∙ sym (λ z. all_queueable (split_by (counts_next z) (arguments_at first (total_next z) p d₀))) ∙ g.queueable

    pub may_queue_lem : request_queueable (arguments_at 0 count (part (2 * first) (2 * first + 2 * count - 2 * first) p) (take a.used d)) ≡ true
    may_queue_lem = ap request_queueable lent_arguments ∙ and_left (request_queueable (arguments_at first count p d₀)) _ queueable_next

    lent_parts : PartsIn (part (2 * first) (2 * first + 2 * count - 2 * first) p) (take a.used d) count
    lent_parts = record {
      table = rw (length-take-le (2 * first + 2 * count - 2 * first) (drop (2 * first) p) (rw length-drop (omega (arith, places_in)))) (omega arith);
      inside = λ k m.
          let x : 2 * first + 2 * k ≡ 2 * (first + k) = omega arith in
          let y : 2 * first + (2 * k + 1) ≡ 2 * (first + k) + 1 = omega arith in
          omega (
            arith,
            part_at p (2 * first) (2 * first + 2 * count - 2 * first) (2 * k) (omega arith) ∙ ap (λ (j : ℕ). get_or p j 0) x,
            part_at p (2 * first) (2 * first + 2 * count - 2 * first) (2 * k + 1) (omega arith) ∙ ap (λ (j : ℕ). get_or p j 0) y,
            q.parts.inside (first + k) (omega (arith, last_argument)),
            ap length used_is,
            length-append d₀ (drop (length d₀) (take a.used d)),
          );
    }

    pub may_run : 4 * total (part 68 (get_or s 3 0) s) ≤ length own₀ → MayRun (part (2 * first) (2 * first + 2 * count - 2 * first) p) count own d a
    may_run o = record {
      kept = g.kept;
      parts = lent_parts;
      rows_room = omega (arith, g.few_rows, last_argument, count_least, g.same);
      text_room = omega (arith, g.used_room, h);
    }

    pub walking_more : {own' : List ℕ} {d' last : Bytes} {r : Walked} {text start : Bytes} {at : ℕ}
        → Puts text start put₀ out₀ → at ≡ lent_from a.put (length out)
        → Advanced (run (reader_of own (take a.used d) a.rows w b seq) (command_of (arguments_at 0 count (part (2 * first) (2 * first + 2 * count - 2 * first) p) (take a.used d)))) (count - 1) own d (rest at out) a own' d' last r
        → Walking s p d₀ w b seq put₀ own₀ data₀ out₀ own' d' (with_rest at out last) r (first + count) (i + 1)
    unfolding reader_of advance_all advance split_by
    walking_more {own'} {d'} {last} {r} u lent x =
        let c : Command = command_of (arguments_at first count p d₀) in
        let same-command : command_of (arguments_at 0 count (part (2 * first) (2 * first + 2 * count - 2 * first) p) (take a.used d)) ≡ c = ap command_of lent_arguments in
        let m : ℕ = total (part (68 + (i + 1)) (get_or s 3 0 - (i + 1)) s) in
        let e = run (reader_of own (take a.used d) a.rows w b seq) (command_of (arguments_at 0 count (part (2 * first) (2 * first + 2 * count - 2 * first) p) (take a.used d))) in
        record {
          within = omega arith;
          first_is = omega (arith, g.first_is, total_next);
          positive = and_right (yes? count) (all_positive (part (68 + (i + 1)) (get_or s 3 0 - (i + 1)) s)) positive_next;
          queueable = and_right (request_queueable (arguments_at first count p d₀)) _ queueable_next;
          kept = x.kept;
          front = sym (take-take (length d₀) a.used d' g.used_more) ∙ ap (take (length d₀)) x.data_kept ∙ take-take (length d₀) a.used d g.used_more ∙ g.front;
          used_more = omega (arith, g.used_more, x.used_more);
          used_room = omega (arith, g.used_room, x.used_few, x.same_data);
          few_rows = omega (arith, g.few_rows, x.few, count_least);
          replies = g.replies ++ encode e.0;
          is = g.is
              ∙ (λ z. advance_all seq (versions_in w b) (map command_of (split_by (counts_next z) (arguments_at first (total_next z) p d₀)))
              (record { writes = own_writes own (take a.used d) a.rows; replies = g.replies }))
              ∙ (λ z. advance_all seq (versions_in w b) (map command_of (take_arguments first count m p d₀ z ∷ split_by (part (68 + (i + 1)) (get_or s 3 0 - (i + 1)) s) (drop_arguments first count m p d₀ z)))
              (record { writes = own_writes own (take a.used d) a.rows; replies = g.replies }))
              ∙ ap (λ (k : Command). advance_all seq (versions_in w b) (k ∷ map command_of (split_by (part (68 + (i + 1)) (get_or s 3 0 - (i + 1)) s) (arguments_at (first + count) m p d₀)))
              (record { writes = own_writes own (take a.used d) a.rows; replies = g.replies })) (sym same-command)
              ∙ (λ z. advance_all seq (versions_in w b) (map command_of (split_by (part (68 + (i + 1)) (get_or s 3 0 - (i + 1)) s) (arguments_at (first + count) m p d₀)))
              (record { writes = sym x.writes z; replies = g.replies ++ encode e.0 }));
          follows = follows_more g.follows (lent_adds (then_follows u g.follows) lent x.adds) refl;
          same = x.same ∙ g.same;
          same_data = x.same_data ∙ g.same_data;
        }

  pub walked_all : {start : Bytes} {n : ℕ} → n ≡ get_or s 3 0 → n ≤ i → Puts (head 42 n) start put₀ out₀ → QueueRan (advance_all seq (versions_in w b) (commands_in s p d₀) begun) (get_or s 3 0) own₀ data₀ start own d out a
  unfolding advance_all split_by
  walked_all {start} {n} n-is h u =
      let none_left : part (68 + i) (get_or s 3 0 - i) s ≡ [] = part_none s 68 (get_or s 3 0) i (omega arith) in
      let e : advance_all seq (versions_in w b) (commands_in s p d₀) begun ≡ record { writes = own_writes own (take a.used d) a.rows; replies = g.replies } =
      g.is ∙ ap (λ (l : List ℕ). advance_all seq (versions_in w b) (map command_of (split_by l (arguments_at first (total l) p d₀)))
      (record { writes = own_writes own (take a.used d) a.rows; replies = g.replies })) none_left in
      record {
        kept = g.kept;
        writes = sym (ap (λ (x : Progress). x.writes) e);
        puts = subst (λ (x : Bytes). Puts x start a.put out) (λ z. head 42 (n-is z) ++ sym (ap (λ (x : Progress). x.replies) e) z) (then_follows u g.follows);
        used_in = omega (arith, g.used_room);
        same = g.same;
        same_data = g.same_data;
      }
