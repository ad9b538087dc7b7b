-- Laws of the writes of a command's arguments, set one after another. Assumes nothing.
use Prim.Native.Nat.{ℕ, suc, ◌+◌, ◌-◌, ◌*◌, ◌/◌, ◌≤◌, ◌<◌}
use native.Mathlib.Numerals.{add-one}
use native.Mathlib.Omega.{arith}
use mathlib.Core.Path.{◌≡◌, refl, sym, ap, ◌∙◌}
use mathlib.Core.Bool.{true}
use mathlib.Core.List.{List, [], ◌∷◌}
use Rattle.std.specs.Prelude.{Option, None, Some}
use lib.ListN.{length, get_or}
use borrow.Author.Tests.{le-leb}
use Rattle.base_key.specs.Bytes.{Bytes}
use Rattle.base_key.specs.Keys.{Key}
use Rattle.store_memtable.specs.Table.{Value, Write, last_writes}
use Rattle.group_spec.specs.Members.{value_inside}
use Rattle.group_spec.specs.Settling.{KeyIn}
use Rattle.command_spec.specs.Places.{argument_at, tombstones_at, pairs_at}
use Rattle.command_spec.proofs.PlaceLaws.{tombstones_next, tombstones_end, pairs_next, pairs_end}
use Rattle.command_writes.specs.Own.{own_writes, Own}
use Rattle.command_writes.specs.Changes.{RowFits, OwnPut, OwnPuts}

-- ONE WRITE: its row, from the words a and x of the value's argument, and s and l of the key's
value_in_data : (p : List ℕ) (d : Bytes) (v : ℕ) {a x : ℕ} → a ≡ get_or p (2 * v) 0 → x ≡ get_or p (2 * v + 1) 0 → KeyIn p d (2 * v) → value_inside a (x + 1) d ≡ true
unfolding value_inside
value_in_data p d v {a} {x} a-is x-is i = ap (λ (y : ℕ). value_inside a y d) (add-one x) ∙ le-leb (a + x) (length d) (omega (arith, i.key_in))

pub tombstone_in : (d : Bytes) → value_inside 0 0 d ≡ true
unfolding value_inside
tombstone_in d = refl

pub pair_fits : (p : List ℕ) (d : Bytes) (k : ℕ) {s l : ℕ} → s ≡ get_or p (2 * k) 0 → l ≡ get_or p (2 * k + 1) 0
    → (v : ℕ) {a x : ℕ} → a ≡ get_or p (2 * v) 0 → x ≡ get_or p (2 * v + 1) 0 → KeyIn p d (2 * k) → KeyIn p d (2 * v) → RowFits d s l a (x + 1)
pair_fits p d k s-is l-is v a-is x-is i j = record { key_in = omega (arith, i.key_in); value_in = value_in_data p d v a-is x-is j }

-- ONE AFTER ANOTHER: `rest` of the writes is still to be set, at most `left` rows
pub record Taking (w w' : List ℕ) (d : Bytes) (n r : ℕ) (whole rest : List Write) (all left : ℕ) : Type 0 where
  pub kept : Own w' d r
  pub is : last_writes (own_writes w d n) whole ≡ last_writes (own_writes w' d r) rest
  pub more : n ≤ r
  pub most : r + left ≤ n + all
  pub same : length w' ≡ length w

module _ {w w' : List ℕ} {d : Bytes} {n r : ℕ} {whole rest : List Write} {all left : ℕ} (t : Taking w w' d n r whole rest all left) where
  taking_more : {w'' : List ℕ} {k : Key} {v : Option Value} {r' left' : ℕ} (rest' : List Write) → OwnPut w' w'' d r k v r' → rest ≡ (k, v) ∷ rest' → left ≡ suc left'
      → Taking w w'' d n r' whole rest' all left'
  unfolding last_writes
  taking_more {w''} {k} {v} {r'} {left'} rest' o e l = record {
    kept = o.kept;
    is = t.is ∙ ap (last_writes (own_writes w' d r)) e ∙ ap (λ (ws : List Write). last_writes ws rest') (sym o.is);
    more = omega (arith, t.more, o.more);
    most = omega (arith, t.most, o.most);
    same = o.same ∙ t.same;
  }

  taking_all : rest ≡ [] → OwnPuts w w' d n whole all r
  unfolding last_writes
  taking_all e = record {
    kept = t.kept;
    is = sym (t.is ∙ ap (last_writes (own_writes w' d r)) e);
    more = t.more;
    most = omega (arith, t.most);
    same = t.same;
  }

-- TOMBSTONES for the arguments before i have been set
pub record Tombstones (w w' : List ℕ) (d : Bytes) (n : ℕ) (p : List ℕ) (from to r i : ℕ) : Type 0 where
  pub low : from ≤ i
  pub high : i ≤ to
  pub taking : Taking w w' d n r (tombstones_at from (to - from) p d) (tombstones_at i (to - i) p d) (to - from) (to - i)

module _ {w w' : List ℕ} {d : Bytes} {n : ℕ} {p : List ℕ} {from to r i : ℕ} (t : Tombstones w w' d n p from to r i) where
  module _ (h : i < to) where
    pub tombstones_more : {w'' : List ℕ} {r' : ℕ} → OwnPut w' w'' d r (argument_at i p d) None r' → Tombstones w w'' d n p from to r' (i + 1)
    tombstones_more o = record {
      low = omega (arith, t.low);
      high = omega arith;
      taking = taking_more t.taking (tombstones_at (i + 1) (to - (i + 1)) p d) o (tombstones_next p d h) (omega arith);
    }

  pub tombstones_all : to ≤ i → OwnPuts w w' d n (tombstones_at from (to - from) p d) (to - from) r
  tombstones_all h = taking_all t.taking (tombstones_end p d h)

-- PAIRS: the first j have been set
pub record Pairs (w w' : List ℕ) (d : Bytes) (n : ℕ) (p : List ℕ) (from to r j : ℕ) : Type 0 where
  pub high : j ≤ (to - from) / 2
  pub taking : Taking w w' d n r (pairs_at from (to - from) p d) (pairs_at (from + 2 * j) (to - from - 2 * j) p d) ((to - from) / 2) ((to - from) / 2 - j)

module _ {w w' : List ℕ} {d : Bytes} {n : ℕ} {p : List ℕ} {from to r j : ℕ} (t : Pairs w w' d n p from to r j) where
  module _ (h : j < (to - from) / 2) where
    pub pairs_more : {w'' : List ℕ} {r' : ℕ} → OwnPut w' w'' d r (argument_at (from + 2 * j) p d) (Some (argument_at (from + 2 * j + 1) p d)) r'
        → Pairs w w'' d n p from to r' (j + 1)
    pairs_more o =
        let i : from + 2 * (j + 1) ≡ from + 2 * j + 2 = omega arith in
        record {
          high = omega arith;
          taking =
              taking_more t.taking (pairs_at (from + 2 * (j + 1)) (to - from - 2 * (j + 1)) p d) o
              (rw i (pairs_next p d (from + 2 * j) (to - from - 2 * j) (to - from - 2 * (j + 1)) (omega arith))) (omega arith);
        }

  pub pairs_all : (to - from) / 2 ≤ j → OwnPuts w w' d n (pairs_at from (to - from) p d) ((to - from) / 2) r
  pairs_all h = taking_all t.taking (pairs_end p d (from + 2 * j) (to - from - 2 * j) (omega arith))
