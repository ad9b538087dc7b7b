-- The invariant: the place lies between low and high. The measure is their distance.
use Rattle.std.proofs.Common.{ℕ, ◌≡◌, ◌-◌, ◌≤◌, ◌<◌, Bool, ltb}
use Rattle.store_memtable.proofs.search.partition_point.Given as goal

abbrev pub invariant-loop-low : goal.invariant-loop-low
invariant-loop-low g l = record {
  ordered : l.low ≤ l.high;
  within : l.high ≤ l.n;
  between : (place : ℕ) → place ≤ l.n → ((i : ℕ) (holds : Bool) → i < l.n → goal.F-post g l.before i holds → holds ≡ ltb i place) → (l.low ≤ place) × (place ≤ l.high);
}

abbrev pub decreases-loop-low : goal.decreases-loop-low
decreases-loop-low g l = l.high - l.low
