-- A key that only counter commands write holds the sum of the increments that got an integer reply.
use Prim.Native.Nat.{ℕ, suc, ◌^◌, ◌<◌}
use native.Mathlib.Omega.{arith}
use mathlib.Core.List.{List, [], ◌∷◌, map}
use mathlib.Core.Bool.{Bool, true, false, cond, ◌||◌, ◌&&◌}
use Rattle.std.specs.Prelude.{Option, None, Some}
use mathlib.Core.Path.{◌≡◌, refl, ap, ◌∙◌}
use lib.Dec.{ltb}
use lib.IntN.{ℤ, ◌+ℤ◌}
use lib.ListN.{length}
use lib.Signed.{mag}
use borrow.Author.Tests.{ltb-true}
use Rattle.command_spec.proofs.CommandLaws.{tombstone_keys}
use Rattle.base_key.specs.Keys.{Key, same_key}
use Rattle.base_key.proofs.Keys.{same_refl, same_is}
use Rattle.base_number.specs.Decimal.{decimal}
use Rattle.base_number.specs.Number.{number_of}
use Rattle.base_number.proofs.RoundTrip.{read_back}
use Rattle.resp_spec.specs.Reply.{Reply}
use Rattle.store_memtable.specs.Table.{Value, Entry, Reader, Write, Table, keys_of, find, overlay, over, write_all}
use Rattle.store_memtable.proofs.TableLaws.{Ascending, find_write_all, ascending_write_all, write_all_append}
use Rattle.group_spec.specs.Group.{any_key, among}
use Rattle.command_spec.specs.Command.{Command, GET, SET, DEL, EXISTS, MGET, MSET, COUNT, FIXED, Executed, runs, lists, tombstone, put, held, summed, raised, run}
use Rattle.call_spec.specs.Posting.{Item, alone, listed, exec, member, posted, post_queue, post_replies, post, post_all, AllHold}
use Rattle.call_spec.specs.Verdicts.{set_keys}
use Rattle.call_spec.specs.Demand3.{items_of, is_integer, or_zero, increment, increment_by, sum_queue, sum, NotSet, OnlyCounted, text_of, CounterClaim, increments, SumOf, CounterReplies}
use Rattle.call_spec.proofs.Posting.{claim}

-- writes to other keys leave a key as it is
over_other : (ws : List Write) (r : Reader) (k : Key) → among (keys_of ws) k ≡ false → over ws r k ≡ r k
unfolding over overlay any_key
over_other [] r k e = refl
over_other (w ∷ ws) r k e = go (same_key w.0 k) refl e (λ h. over_other ws (overlay w r) k h)
  where
    go : (b : Bool) → same_key w.0 k ≡ b → (b || among (keys_of ws) k) ≡ false → (among (keys_of ws) k ≡ false → over ws (overlay w r) k ≡ overlay w r k) → over ws (overlay w r) k ≡ r k
    go true p h ih = let z : ◌≡◌ {A = ℕ} 0 1 = cc in absurd (omega arith)
    go false p h ih = ih h ∙ ap (λ (b : Bool). cond b w.1 (r k)) p

pub put_keys : (es : List (Entry Value)) → keys_of (map put es) ≡ map (λ (e : Entry Value). e.0) es
put_keys [] = refl
put_keys (e ∷ es) = ap {B = List Key} (λ l. e.0 ∷ l) (put_keys es)

-- a counter writes no other key
summed_keys : (n : Option ℤ) (j k : Key) → same_key j k ≡ false → among (keys_of (summed j n).1) k ≡ false
unfolding summed any_key
summed_keys (Some n) j k d = rw d
summed_keys None j k d = refl

raised_keys : (n : Option ℤ) (j k : Key) (by : ℤ) → same_key j k ≡ false → among (keys_of (raised j by n).1) k ≡ false
unfolding raised any_key
raised_keys None j k by d = refl
raised_keys (Some n) j k by d = summed_keys (number_of (n +ℤ by)) j k d

-- within 64 bits
abbrev Small : Option ℤ → Type 0
Small None = Unit {0}
Small (Some n) = mag n < 2 ^ 63

-- the key `k` of the table holds the sum `n`
record Counts (k : Key) (t : Table) (n : Option ℤ) : Type 0 where
  holds : find t k ≡ text_of n
  small : Small n

module _ (k : Key) where
  other_keys : (ws : List Write) (t : Table) (n : Option ℤ) → Ascending t → Counts k t n → among (keys_of ws) k ≡ false → Counts k (write_all ws t) n
  other_keys ws t n s c e = record { holds = find_write_all ws t s k ∙ over_other ws (find t) k e ∙ c.holds; small = c.small }

  held_sum : (n : Option ℤ) → Small n → held (text_of n) ≡ Some (or_zero n)
  held_sum None f = refl
  held_sum (Some n) f = read_back n f

  -- the counter itself: the sum where it fits, and nothing where it does not
  summed_sum : (z : ℤ) (t : Table) (n : Option ℤ) → Ascending t → Counts k t n
      → Counts k (write_all (summed k (number_of z)).1 t) (cond (is_integer (summed k (number_of z)).0) (Some z) n)
  unfolding summed number_of write_all over overlay
  summed_sum z t n s c = go (ltb (mag z) (2 ^ 63)) refl
    where
      go : (b : Bool) → ltb (mag z) (2 ^ 63) ≡ b
          → Counts k (write_all (summed k (cond b (Some z) None)).1 t) (cond (is_integer (summed k (cond b (Some z) None)).0) (Some z) n)
      go true p = record { holds = find_write_all ((k, Some (decimal z)) ∷ []) t s k ∙ rw (same_refl k); small = ltb-true (mag z) (2 ^ 63) p }
      go false p = c

  count_sum : (j : Key) (by : ℤ) (t : Table) (n : Option ℤ) → Ascending t → Counts k t n
      → Counts k (write_all (run (find t) (COUNT j by)).1 t) (increment k (COUNT j by) (run (find t) (COUNT j by)).0 n)
  unfolding run increment raised
  count_sum j by t n s c = go (same_key j k) refl
    where
      go : (b : Bool) → same_key j k ≡ b
          → Counts k (write_all (raised j by (held (find t j))).1 t) (cond (same_key j k && is_integer (raised j by (held (find t j))).0) (Some (or_zero n +ℤ by)) n)
      go true p = rw (p, same_is j k p, c.holds, held_sum n c.small) (summed_sum (or_zero n +ℤ by) t n s c)
      go false p = rw p (other_keys (raised j by (held (find t j))).1 t n s c (raised_keys (held (find t j)) j k by p))

  command_sum : (c : Command) (t : Table) (n : Option ℤ) → Ascending t → Counts k t n → among (set_keys c) k ≡ false
      → Counts k (write_all (run (find t) c).1 t) (increment k c (run (find t) c).0 n)
  unfolding run increment set_keys any_key
  command_sum (GET j) t n s c e = other_keys [] t n s c refl
  command_sum (SET j v) t n s c e = other_keys ((j, Some v) ∷ []) t n s c e
  command_sum (DEL ks) t n s c e = other_keys (map tombstone ks) t n s c (rw (tombstone_keys ks) e)
  command_sum (EXISTS ks) t n s c e = other_keys [] t n s c refl
  command_sum (MGET ks) t n s c e = other_keys [] t n s c refl
  command_sum (MSET es) t n s c e = other_keys (map put es) t n s c (rw (put_keys es) e)
  command_sum (COUNT j by) t n s c e = count_sum j by t n s c
  command_sum (FIXED p) t n s c e = other_keys [] t n s c refl

  posted_sum : (x : Executed) (t : Table) (n : Option ℤ) → Ascending t → Counts k t n → NotSet k (x ∷ []) → Counts k (write_all (posted t x).1 t) (increment_by k x (posted t x).0 n)
  unfolding posted increment_by
  posted_sum (runs c) t n s h e = command_sum c t n s h e.0
  posted_sum (lists l) t n s h e = other_keys [] t n s h (unfold any_key in refl)

  first_set : (x : Executed) (q : List Executed) → NotSet k (x ∷ q) → NotSet k (x ∷ []) × NotSet k q
  first_set (runs c) q e = ((e.0, tt), e.1)
  first_set (lists l) q e = (tt, e)

  queue_sum : (q : List Executed) (t : Table) (n : Option ℤ) → Ascending t → NotSet k q → Counts k t n → Counts k (write_all (post_queue t q) t) (sum_queue k q t n)
  unfolding post_queue sum_queue write_all
  queue_sum [] t n s e c = c
  queue_sum (x ∷ q) t n s e c =
      let ws = (posted t x).1 in
      let f = first_set x q e in
      rw (write_all_append ws (post_queue (write_all ws t) q) t)
      (queue_sum q (write_all ws t) (increment_by k x (posted t x).0 n) (ascending_write_all ws t s) f.1 (posted_sum x t n s c f.0))

  ascending_post : (x : Item) (t : Table) → Ascending t → Ascending (post x t)
  unfolding post
  ascending_post (alone c b) t s = ascending_write_all (run (find t) c).1 t s
  ascending_post (listed l b) t s = s
  ascending_post (exec q b) t s = ascending_write_all (post_queue t q) t s
  ascending_post (member ws) t s = ascending_write_all ws t s

  history_sum : (xs : List Item) (t : Table) (n : Option ℤ) → Ascending t → OnlyCounted k xs → Counts k t n → Counts k (post_all xs t) (sum k xs t n)
  unfolding sum sum_queue posted increment_by post_all post
  history_sum [] t n s e c = c
  history_sum (alone x b ∷ xs) t n s e c =
      history_sum xs (post (alone x b) t) (increment k x (run (find t) x).0 n) (ascending_post (alone x b) t s) e.1 (command_sum x t n s c e.0)
  history_sum (listed l b ∷ xs) t n s e c = history_sum xs t n s e c
  history_sum (exec q b ∷ xs) t n s e c =
      history_sum xs (post (exec q b) t) (sum_queue k q t n) (ascending_post (exec q b) t s) e.1 (queue_sum q t n s e.0 c)
  history_sum (member ws ∷ xs) t n s e c =
      history_sum xs (post (member ws) t) n (ascending_post (member ws) t s) e.1 (other_keys ws t n s c e.0)

-- over any list of calls from a store just opened
pub counters : CounterClaim
unfolding find
counters cs l o k e =
    let d = claim cs l o in
    ap (λ (t : Table). find t k) d.tables ∙ (history_sum k (items_of cs l) [] None tt e (record { holds = refl; small = tt })).holds

-- THE REPLIES THEMSELVES give that sum.
module _ (k : Key) where
  -- one reply for each command, and their sum
  record Counted (q : List Executed) (ps : List Reply) (t : Table) (n : Option ℤ) : Type 0 where
    each : length ps ≡ length q
    sums : increments k q ps n ≡ sum_queue k q t n

  queue_counts : (q : List Executed) (t : Table) (n : Option ℤ) → Counted q (post_replies t q) t n
  unfolding increments sum_queue post_replies
  queue_counts [] t n = record { each = refl; sums = refl }
  queue_counts (c ∷ q) t n =
      let rest = queue_counts q (write_all (posted t c).1 t) (increment_by k c (posted t c).0 n) in
      record { each = ap suc rest.each; sums = rest.sums }

  replies_sum : (xs : List Item) (t : Table) (n : Option ℤ) → AllHold xs t → SumOf k xs n (sum k xs t n)
  unfolding sum sum_queue posted increment_by post
  replies_sum [] t n h = refl
  replies_sum (alone c b ∷ xs) t n h = ((run (find t) c).0, h.0, replies_sum xs (post (alone c b) t) (increment k c (run (find t) c).0 n) h.1)
  replies_sum (listed l b ∷ xs) t n h = replies_sum xs t n h.1
  replies_sum (exec q b ∷ xs) t n h =
      let c = queue_counts q t n in
      (post_replies t q, h.0, c.each, rw c.sums (replies_sum xs (post (exec q b) t) (sum_queue k q t n) h.1))
  replies_sum (member ws ∷ xs) t n h = replies_sum xs (post (member ws) t) n h.1

pub counter_replies_lem : CounterReplies
counter_replies_lem cs l o k = replies_sum k (items_of cs l) [] None (claim cs l o).replies
