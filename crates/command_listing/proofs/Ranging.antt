-- The laws of RANGE: entries up to a key, the place of the first of them, the reply. Assumes nothing.
use mathlib.Core.Path.{◌≡◌, refl, sym, ap, ◌∙◌, subst}
use mathlib.Core.Logic.{inl, inr}
use mathlib.Core.Bool.{Bool, true, false, cond, not, ◌&&◌, false≢true}
use mathlib.Core.List.{List, [], ◌∷◌, ◌++◌, append_assoc}
use Rattle.std.specs.Prelude.{Some, None}
use Prim.Native.Nat.{ℕ, zero, suc, ◌+◌, ◌-◌, ◌*◌, ◌≤◌, ◌<◌}
use native.Mathlib.Nat.{add-zero, sub-zero}
use native.Mathlib.Decide.{dec_le}
use native.Mathlib.Omega.{arith}
use lib.Dec.{leb, ltb}
use lib.ListN.{length, take, drop, replicate, length-take, length-replicate}
use lib.Seq.{take_all, take-nil, take-take, length-take-le}
use Rattle.base_key.specs.Bytes.{Bytes}
use Rattle.base_key.specs.Keys.{Key, compare_keys, order_of_versions, order_by, then_by, is_less, key_below}
use Rattle.base_key.proofs.Bytes.{and_left, and_right}
use Rattle.base_key.proofs.Keys.{Precedes, precedes, less_is, compare_trans}
use Rattle.base_writing.specs.Puts.{Puts, Adds, answered_behind, placed_behind}
use Rattle.base_writing.proofs.Puts.{same_text, then_adds, follows_more}
use Rattle.resp_spec.specs.Reply.{Reply, BulkString, array, items, head, encode, encode_all}
use Rattle.resp_encode.proofs.Replies.{Listed, listed_full, listed_all}
use Rattle.store_memtable.specs.Table.{Value, Entry, Table}
use Rattle.store_memtable.specs.Versions.{Version, table, sorted, sorted_after, before, order_of, bytes_of}
use Rattle.store_memtable.specs.Layout.{count_word, last_word, version_at, versions_from, value_part}
use Rattle.store_memtable.specs.Rows.{versions_in, Valid, order_with, place_of, count_on}
use Rattle.store_memtable.specs.Walk.{live_at, entry_at, live_from, next_live}
use Rattle.store_memtable.proofs.Rows.{part_bytes}
use Rattle.store_memtable.proofs.Walk.{live_table}
use Rattle.store_memtable.proofs.TableLaws.{Above, Ascending}
use Rattle.store_memtable.proofs.VersionLaws.{ascending_table, SeqsIn, sorted_rest}
use Rattle.store_memtable.proofs.Validity.{valid_seqs}
use Rattle.command_spec.specs.Command.{RANGE, keep, key_in_range, pair_replies, answer_listing}
use Rattle.command_listing.specs.Rest.{rest, below, pairs_reply}
use Rattle.command_listing.proofs.Matching.{relist}
use Rattle.command_listing.proofs.Rests.{rest_few, table_few, rest_none, rest_some, take_first}
use Rattle.std.specs.Prelude.{Option}
use Rattle.std.specs.declared.cmp.Ordering.TheVariants.{Less, Equal, Greater}
use Rattle.std.specs.declared.cmp.Ordering.{Ordering}

-- UP TO A KEY. A key behind one that is not below `end` is not below it either
not_below : (k j end : Key) → compare_keys k j ≡ Less → key_below k end ≡ false → key_below j end ≡ false
unfolding key_below
not_below k j end l h = go (compare_keys j end) refl
  where
    go : (o : Ordering) → compare_keys j end ≡ o → is_less o ≡ false
    go Less e = absurd (false≢true (sym h ∙ ap is_less (compare_trans k j end l e)))
    go Equal e = refl
    go Greater e = refl

keep_next : (f : Key → Bool) (e : Entry Value) (t : Table) {r : Bool} → f e.0 ≡ r → keep f (e ∷ t) ≡ cond r (e ∷ keep f t) (keep f t)
unfolding keep
keep_next f e t h = ap (λ (b : Bool). cond b (e ∷ keep f t) (keep f t)) h

below_hit : (end : Key) (e : Entry Value) (t : Table) → key_below e.0 end ≡ true → below end (e ∷ t) ≡ e ∷ below end t
unfolding below
below_hit end e t h = keep_next (λ (k : Key). key_below k end) e t h

above_none : (end k : Key) (t : Table) → Above k t → key_below k end ≡ false → below end t ≡ []
unfolding below keep
above_none end k [] a h = refl
above_none end k (e ∷ t) a h = keep_next (λ (k : Key). key_below k end) e t (not_below k e.0 end a.0 h) ∙ above_none end k t a.1 h

below_stop : (end : Key) (e : Entry Value) (t : Table) → Ascending (e ∷ t) → key_below e.0 end ≡ false → below end (e ∷ t) ≡ []
unfolding below
below_stop end e t a h = keep_next (λ (k : Key). key_below k end) e t h ∙ above_none end e.0 t a.0 h

-- so they are the first entries
below_first : (end : Key) (t : Table) → Ascending t → below end t ≡ take (length (below end t)) t
unfolding below keep
below_first end [] a = refl
below_first end (e ∷ t) a = go (key_below e.0 end) refl (below_first end t a.1)
  where
    go : (r : Bool) → key_below e.0 end ≡ r → below end t ≡ take (length (below end t)) t → below end (e ∷ t) ≡ take (length (below end (e ∷ t))) (e ∷ t)
    go true h ih = let q = below_hit end e t h in q ∙ ap (λ (l : Table). e ∷ l) ih ∙ ap (λ (l : Table). take (length l) (e ∷ t)) (sym q)
    go false h ih = let q = below_stop end e t a h in q ∙ ap (λ (l : Table). take (length l) (e ∷ t)) (sym q)

first_below : (end : Key) (limit : ℕ) (t : Table) → Ascending t → take limit (below end t) ≡ take (length (take limit (below end t))) t
first_below end limit t a = go (dec_le limit (length (below end t)))
  where
    go : Dec (limit ≤ length (below end t)) → take limit (below end t) ≡ take (length (take limit (below end t))) t
    go (yes h) =
        ap (take limit) (below_first end t a)
        ∙ take-take limit (length (below end t)) t h
        ∙ ap (λ (k : ℕ). take k t) (sym (length-take-le limit (below end t) h))
    go (no h) =
        let q = take_all limit (below end t) (omega arith) in
        q ∙ below_first end t a ∙ ap (λ (l : Table). take (length l) t) (sym q)

keep_few : (f : Key → Bool) (t : Table) → length (keep f t) ≤ length t
unfolding keep
keep_few f [] = omega arith
keep_few f (e ∷ t) = go (f e.0) (keep_few f t)
  where
    go : (r : Bool) → length (keep f t) ≤ length t → length (cond r (e ∷ keep f t) (keep f t)) ≤ suc (length t)
    go true h = omega arith
    go false h = omega arith

below_few : (end : Key) (t : Table) → length (below end t) ≤ length t
unfolding below
below_few end t = keep_few (λ (k : Key). key_below k end) t

-- ASCENDING from every place on
ascending_rest : (t : Bool) (e : Entry Value) (u : Table) → Ascending (cond t (e ∷ u) u) → Ascending u
ascending_rest true e u a = a.1
ascending_rest false e u a = a

ascending_live : (w b : List ℕ) (p i n : ℕ) → Ascending (live_from w b i n) → Ascending (live_from w b (i + p) (n - p))
unfolding live_from
ascending_live w b zero i n a = rw (add-zero i, sub-zero n) a
ascending_live w b (suc p) i zero a = let z : 0 - suc p ≡ 0 = omega arith in rw z tt
ascending_live w b (suc p) i (suc n) a =
    let e : suc i + p ≡ i + suc p = omega arith in
    let m : n - p ≡ suc n - suc p = omega arith in
    subst (λ (t : Table). Ascending t) (λ z. live_from w b (e z) (m z))
    (ascending_live w b p (suc i) n (ascending_rest (live_at w b i) (entry_at w b i) (live_from w b (suc i) n) a))

ascending_from : (w b : List ℕ) (i : ℕ) → Valid w b → Ascending (rest w b i)
unfolding rest
ascending_from w b i v =
    let z : 0 + i ≡ i = omega arith in
    subst (λ (t : Table). Ascending t) (λ x. live_from w b (z x) (count_word w - i))
    (ascending_live w b i 0 (count_word w) (subst (λ (t : Table). Ascending t) (sym (live_table w b v)) (ascending_table (versions_in w b))))

-- COUNTING. The walk at place i has passed `count` entries, all below `end`
pub record Passing (w b end : List ℕ) (from limit i count : ℕ) : Type 0 where
  pub total : length (take limit (below end (rest w b from))) ≡ count + length (take (limit - count) (below end (rest w b i)))
  pub few : count ≤ limit

module _ {w b end : List ℕ} {from limit i count : ℕ} (k : Passing w b end from limit i count) where
  passed : below end (rest w b i) ≡ [] → count ≡ length (take limit (below end (rest w b from)))
  passed over = sym (k.total ∙ ap (λ (l : Table). count + length (take (limit - count) l)) over ∙ ap (λ (l : Table). count + length l) (take-nil (limit - count)) ∙ omega arith)

  module _ {o : Option ℕ} (is : o ≡ next_live w b i (count_word w - i)) where
    module _ {j : ℕ} {name : Bytes} {r : Bool} (e : o ≡ Some j) (n : name ≡ (version_at w b j).key) (g : r ≡ key_below name end) where
      pub passing_more : count < limit → r ≡ true → Passing w b end from limit (j + 1) (count + 1)
      passing_more h f =
          let z : limit - (count + 1) ≡ limit - count - 1 = omega arith in
          let hit : key_below (entry_at w b j).0 end ≡ true = ap (λ (l : Key). key_below l end) (sym n) ∙ sym g ∙ f in
          let q : take (limit - count) (below end (rest w b i)) ≡ entry_at w b j ∷ take (limit - count - 1) (below end (rest w b (j + 1))) =
          ap (λ (l : Table). take (limit - count) (below end l)) (rest_some w b i is e)
          ∙ ap (take (limit - count)) (below_hit end (entry_at w b j) (rest w b (j + 1)) hit)
          ∙ take_first {n = limit - count} (omega arith) (entry_at w b j) (below end (rest w b (j + 1))) in
          record { total = k.total ∙ rw (q, z) (omega arith); few = omega arith }

      pub passing_stop : Valid w b → r ≡ false → count ≡ length (take limit (below end (rest w b from)))
      passing_stop v f =
          passed
          (ap (below end) (rest_some w b i is e)
          ∙ below_stop end (entry_at w b j) (rest w b (j + 1)) (subst (λ (t : Table). Ascending t) (rest_some w b i is e) (ascending_from w b i v)) (ap (λ (l : Key). key_below l end) (sym n) ∙ sym g ∙ f))

    pub passing_over : o ≡ None → count ≡ length (take limit (below end (rest w b from)))
    unfolding below keep
    passing_over e = passed (ap (below end) (rest_none w b i is e))

-- what was counted is there to be written
pub range_fits : (w b end : List ℕ) (from limit : ℕ) {count : ℕ} → count ≡ length (take limit (below end (rest w b from))) → count ≤ length (rest w b from)
range_fits w b end from limit c = omega (arith, length-take limit (below end (rest w b from)), below_few end (rest w b from))

-- WRITING keys and values in turn. A key that does not fit has left zeros, and its value does not fit either
module _ {a entry mid : Bytes} {put next : Option ℕ} (p : Adds a put entry next mid) (told : next ≡ None) where
  zeros : mid ≡ replicate (length entry) 0
  unfolding answered_behind placed_behind
  zeros = go put (sym told ∙ p.answer) p.buffer
    where
      decide : (n : ℕ) (t : Bool) → None ≡ cond t (Some (n + length a)) None → mid ≡ cond t (take n entry ++ (a ++ drop (n + length a) entry)) (replicate (length entry) 0) → mid ≡ replicate (length entry) 0
      decide n true e is = let z : ◌≡◌ {A = ℕ} 0 1 = cc in absurd (omega arith)
      decide n false e is = is

      go : (u : Option ℕ) → None ≡ answered_behind a u entry → mid ≡ placed_behind a u entry → mid ≡ replicate (length entry) 0
      go (Some n) e is = decide n (leb (n + length a) (length entry)) e is
      go None e is = is

  pub pair_full : (b : Bytes) → Adds (a ++ b) put entry None mid
  unfolding answered_behind placed_behind
  pair_full b =
      let kept : length mid ≡ length entry = ap length zeros ∙ length-replicate (length entry) 0 in
      then_adds p (record { answer = rw told refl; buffer = rw told (zeros ∙ ap (λ (k : ℕ). replicate k 0) (sym kept)) })

length_pairs : (t : Table) → length (pair_replies t) ≡ 2 * length t
unfolding pair_replies
length_pairs [] = refl
length_pairs (e ∷ t) = let ih = length_pairs t in omega arith

-- two more items, written as one text
listed_two : {whole rest : List Reply} (r s : Reply) {entry out exit : Bytes} {put next after : Option ℕ} → Listed whole (r ∷ s ∷ rest) put entry next out → Adds (encode r ++ encode s) next out after exit → Listed whole rest put entry after exit
unfolding encode_all items
listed_two {rest = rest} r s g a = record {
  written = g.written ++ (encode r ++ encode s);
  left =
      g.left
      ∙ ap (λ (l : Bytes). g.written ++ l) (sym (append_assoc (encode r) (encode s) (encode_all (items rest))))
      ∙ sym (append_assoc g.written (encode r ++ encode s) (encode_all (items rest)));
  follows = follows_more g.follows a refl;
}

-- the walk at place i, with `left` of `count` entries still to be written
pub record Pairing (w b : List ℕ) (from count i left : ℕ) (put : Option ℕ) (entry : Bytes) (after : Option ℕ) (out : Bytes) : Type 0 where
  pub listed : Listed (pair_replies (take count (rest w b from))) (pair_replies (take left (rest w b i))) put entry after out

module _ {w b : List ℕ} {from count i left : ℕ} {put next : Option ℕ} {entry mid : Bytes} (k : Pairing w b from count i left put entry next mid) where
  pub pairing_more : {o : Option ℕ} {j : ℕ} {name value : Bytes} {after : Option ℕ} {exit : Bytes} {left' : ℕ} → 0 < left → left - 1 ≡ left' → o ≡ next_live w b i (count_word w - i) → o ≡ Some j
      → name ≡ (version_at w b j).key → value ≡ value_part w b j → Adds (encode (BulkString name) ++ encode (BulkString value)) next mid after exit → Pairing w b from count (j + 1) left' put entry after exit
  unfolding pair_replies
  pairing_more {j = j} h l is e n x a =
      rw (← l)
      let q : take left (rest w b i) ≡ entry_at w b j ∷ take (left - 1) (rest w b (j + 1)) =
      ap (take left) (rest_some w b i is e) ∙ take_first h (entry_at w b j) (rest w b (j + 1)) in
      record {
        listed = listed_two (BulkString (version_at w b j).key) (BulkString (bytes_of (version_at w b j).value)) (relist (ap pair_replies q) k.listed)
            (rw (n, x ∙ sym (part_bytes w b j)) at a);
      }

  module _ {start : Bytes} (fits : count ≤ length (rest w b from)) (s : Puts (head 42 (2 * count)) start put entry) where
    counted : 2 * count ≡ length (pair_replies (take count (rest w b from)))
    counted = sym (length_pairs (take count (rest w b from)) ∙ ap (λ (l : ℕ). 2 * l) (length-take-le count (rest w b from) fits))

    pub pairing_full : next ≡ None → Puts (encode (pairs_reply (take count (rest w b from)))) start None mid
    unfolding pairs_reply
    pairing_full told = listed_full (pair_replies (take count (rest w b from))) counted s (pair_replies (take left (rest w b i))) k.listed told

    paired : take left (rest w b i) ≡ [] → Puts (encode (pairs_reply (take count (rest w b from)))) start next mid
    unfolding pairs_reply pair_replies
    paired over = listed_all (pair_replies (take count (rest w b from))) counted s (relist (ap pair_replies over) k.listed)

    pub pairing_over : {o : Option ℕ} → o ≡ next_live w b i (count_word w - i) → o ≡ None → Puts (encode (pairs_reply (take count (rest w b from)))) start next mid
    pairing_over is e = paired (ap (take left) (rest_none w b i is e) ∙ take-nil left)

    pub pairing_end : left ≤ 0 → Puts (encode (pairs_reply (take count (rest w b from)))) start next mid
    pairing_end h = let z : left ≡ 0 = omega arith in paired (ap (λ (x : ℕ). take x (rest w b i)) z)

-- so many versions there are at least
pub count_few : (w b : List ℕ) (from : ℕ) {count : ℕ} → count ≤ length (rest w b from) → count ≤ count_word w
count_few w b from h = omega (arith, rest_few w b from)

-- FROM A KEY ON. What comes before `start` at the last sequence is below it, and what does not is not
module _ (start : Key) (s : ℕ) (v : Version) where
  before_below : v.seq ≤ s → is_less (order_with start s v) ≡ true → key_below v.key start ≡ true
  unfolding order_with key_below
  before_below h e = go (precedes v.key v.seq start s (less_is _ e))
    where
      go : Precedes v.key v.seq start s → is_less (compare_keys v.key start) ≡ true
      go (inl p) = ap is_less p
      go (inr q) = absurd (omega (arith, q.1))

  after_not_below : is_less (order_with start s v) ≡ false → key_below v.key start ≡ false
  unfolding order_with order_of_versions key_below
  after_not_below e = go (compare_keys v.key start) e
    where
      go : (o : Ordering) → is_less (then_by o (order_by (ltb s v.seq) (ltb v.seq s) Equal)) ≡ false → is_less o ≡ false
      go Less h = absurd (false≢true (sym h))
      go Equal h = refl
      go Greater h = refl

next_not_below : (v u : Version) (start : Key) → before v u ≡ true → key_below v.key start ≡ false → key_below u.key start ≡ false
unfolding order_of
next_not_below v u start e h = go (precedes v.key v.seq u.key u.seq (less_is _ e))
  where
    go : Precedes v.key v.seq u.key u.seq → key_below u.key start ≡ false
    go (inl p) = not_below v.key u.key start p h
    go (inr q) = ap (λ (l : Key). key_below l start) (sym q.0) ∙ h

module _ (w b : List ℕ) (start end : Key) where
  within : (k : Key) → key_below k start ≡ false → key_in_range start end k ≡ key_below k end
  within k h = ap (λ (t : Bool). not t && key_below k end) h

  keep_within : (t : Bool) (e : Entry Value) (u : Table) → key_below e.0 start ≡ false → keep (key_in_range start end) u ≡ below end u
      → keep (key_in_range start end) (cond t (e ∷ u) u) ≡ below end (cond t (e ∷ u) u)
  unfolding below keep
  keep_within true e u h ih = (λ z. cond (within e.0 h z) (e ∷ ih z) (ih z))
  keep_within false e u h ih = ih

  keep_outside : (t : Bool) (e : Entry Value) (u : Table) → key_below e.0 start ≡ true → keep (key_in_range start end) (cond t (e ∷ u) u) ≡ keep (key_in_range start end) u
  unfolding keep
  keep_outside true e u h = ap (λ (t : Bool). cond (not t && key_below e.0 end) (e ∷ keep (key_in_range start end) u) (keep (key_in_range start end) u)) h
  keep_outside false e u h = refl

  nothing_kept : keep (key_in_range start end) [] ≡ below end []
  unfolding below keep
  nothing_kept = refl

  -- from a version on whose key is not below `start`
  all_within : (i n : ℕ) → sorted (versions_from w b i n) ≡ true → key_below (version_at w b i).key start ≡ false → keep (key_in_range start end) (live_from w b i n) ≡ below end (live_from w b i n)
  unfolding live_from versions_from sorted_after
  all_within i zero o h = nothing_kept
  all_within i (suc zero) o h = keep_within (live_at w b i) (entry_at w b i) [] h nothing_kept
  all_within i (suc (suc n)) o h =
      let v : Version = version_at w b i in
      let u : Version = version_at w b (suc i) in
      keep_within (live_at w b i) (entry_at w b i) (live_from w b (suc i) (suc n)) h
      (all_within (suc i) (suc n) (and_right (before v u) (sorted_after u (versions_from w b (suc (suc i)) n)) o)
      (next_not_below v u start (and_left (before v u) (sorted_after u (versions_from w b (suc (suc i)) n)) o) h))

  -- from the place of the first such version on
  module _ (s : ℕ) where
    place_within : (i n : ℕ) → sorted (versions_from w b i n) ≡ true → SeqsIn s (versions_from w b i n)
        → keep (key_in_range start end) (live_from w b i n) ≡ below end (live_from w b (i + place_of start s (versions_from w b i n)) (n - place_of start s (versions_from w b i n)))
    unfolding versions_from place_of live_from
    place_within i zero o q = nothing_kept ∙ ap (λ (n : ℕ). below end (live_from w b (i + 0) n)) (sym (sub-zero 0))
    place_within i (suc n) o q =
        go (is_less (order_with start s (version_at w b i))) refl (place_within (suc i) n (sorted_rest (version_at w b i) (versions_from w b (suc i) n) o) q.1)
      where
        go : (t : Bool) → is_less (order_with start s (version_at w b i)) ≡ t
            → keep (key_in_range start end) (live_from w b (suc i) n) ≡ below end (live_from w b (suc i + place_of start s (versions_from w b (suc i) n)) (n - place_of start s (versions_from w b (suc i) n)))
            → keep (key_in_range start end) (live_from w b i (suc n)) ≡ below end (live_from w b (i + count_on t (place_of start s (versions_from w b (suc i) n))) (suc n - count_on t (place_of start s (versions_from w b (suc i) n))))
        go true f ih =
            let e : suc i + place_of start s (versions_from w b (suc i) n) ≡ i + suc (place_of start s (versions_from w b (suc i) n)) = omega arith in
            let m : n - place_of start s (versions_from w b (suc i) n) ≡ suc n - suc (place_of start s (versions_from w b (suc i) n)) = omega arith in
            keep_outside (live_at w b i) (entry_at w b i) (live_from w b (suc i) n) (before_below start s (version_at w b i) q.0 f)
            ∙ ih
            ∙ (λ z. below end (live_from w b (e z) (m z)))
        go false f ih =
            let e : i ≡ i + 0 = omega arith in
            let m : suc n ≡ suc n - 0 = omega arith in
            all_within i (suc n) o (after_not_below start s (version_at w b i) f)
            ∙ (λ z. below end (live_from w b (e z) (m z)))

  range_from : {from : ℕ} → Valid w b → from ≡ place_of start (last_word w) (versions_in w b) → keep (key_in_range start end) (table (versions_in w b)) ≡ below end (rest w b from)
  unfolding rest
  range_from {from} v is =
      let p : ℕ = place_of start (last_word w) (versions_in w b) in
      let e : 0 + p ≡ from = omega arith in
      ap (keep (key_in_range start end)) (sym (live_table w b v))
      ∙ place_within (last_word w) 0 (count_word w) v.ordered (valid_seqs w b v.valid)
      ∙ (λ z. below end (live_from w b (e z) (count_word w - sym is z)))

  module _ (limit : ℕ) {from count : ℕ} (v : Valid w b) (is : from ≡ place_of start (last_word w) (versions_in w b)) (c : count ≡ length (take limit (below end (rest w b from)))) where
    pub range_answer : {entry exit : Bytes} {put : Option ℕ} → Puts (encode (pairs_reply (take count (rest w b from)))) entry put exit
        → Puts (encode (answer_listing (table (versions_in w b)) (RANGE start end (Some limit)))) entry put exit
    unfolding answer_listing pairs_reply
    range_answer a =
        same_text
        (ap (λ (t : Table). encode (array (pair_replies t)))
        (ap (take limit) (range_from v is) ∙ first_below end limit (rest w b from) (ascending_from w b from v) ∙ ap (λ (n : ℕ). take n (rest w b from)) (sym c)))
        a

-- no limit is the highest one
pub range_unlimited : (w b : List ℕ) (start end : Key) → Valid w b → count_word w ≤ 18446744073709551615
    → answer_listing (table (versions_in w b)) (RANGE start end None) ≡ answer_listing (table (versions_in w b)) (RANGE start end (Some 18446744073709551615))
unfolding answer_listing
range_unlimited w b start end v h =
    ap (λ (t : Table). array (pair_replies t))
    (sym (take_all 18446744073709551615 (keep (key_in_range start end) (table (versions_in w b))) (omega (arith, keep_few (key_in_range start end) (table (versions_in w b)), table_few w b v))))
