-- Readers, writes and tables: what a command reads and writes, whatever lies behind.
use Rattle.std.specs.Prelude.{cond, List, [], ◌∷◌, map, ◌≡◌}
use Rattle.std.specs.Coded.{×_prop, Unit-prop}
use Rattle.std.specs.Prelude.{Option, None, Some}
use Rattle.std.proofs.Props.{props}
use Rattle.base_key.specs.Bytes.{Bytes}
use Rattle.base_key.specs.Keys.{Key, compare_keys, same_key}
use Rattle.std.specs.declared.cmp.Ordering.TheVariants.{Less, Equal, Greater}

-- a value: any bytes
abbrev pub Value : Type 0
Value = Bytes

-- a key with something
abbrev pub Entry : Type 0 → Type 0
Entry A = Key × A

-- what is read of a key: from a table, from a store at a sequence, or from either through writes of one's own
abbrev pub Reader : Type 0
Reader = Key → Option Value

-- a write: the key's new value, or `none` for a tombstone
abbrev pub Write : Type 0
Write = Entry (Option Value)

-- the table: live keys, ascending, each with its value
abbrev pub Table : Type 0
Table = List (Entry Value)

module _ {A : Type 0} where
  -- every key of the list is above `k`
  abbrev pub Above : Key → List (Entry A) → Type 0
  Above k [] = Unit {0}
  Above k (e ∷ t) = (compare_keys k e.0 ≡ Less) × Above k t

  -- the keys are strictly ascending
  abbrev pub Ascending : List (Entry A) → Type 0
  Ascending [] = Unit {0}
  Ascending (e ∷ t) = Above e.0 t × Ascending t

  -- each of these facts has one proof at most
  pub Above-prop : (k : Key) (t : List (Entry A)) → IsProp (Above k t)
  Above-prop k [] = Unit-prop
  Above-prop k (e ∷ t) = ×_prop (Prim.hlevel props) (Above-prop k t)

  pub Ascending-prop : (t : List (Entry A)) → IsProp (Ascending t)
  Ascending-prop [] = Unit-prop
  Ascending-prop (e ∷ t) = ×_prop (Above-prop e.0 t) (Ascending-prop t)

  -- the entry in front, or none
  abbrev pub entered : Key → Option A → List (Entry A) → List (Entry A)
  entered k None t = t
  entered k (Some a) t = (k, a) ∷ t

  -- the ascending list in which `k` holds `new`, or is absent where that is `none`
  unfoldable pub update : Key → Option A → List (Entry A) → List (Entry A)
  update k new [] = entered k new []
  update k new (e ∷ t) = elim (compare_keys k e.0) [ Less ↦ entered k new (e ∷ t) | Equal ↦ entered k new t | Greater ↦ e ∷ update k new t ]

  -- what a key holds
  unfoldable pub find : List (Entry A) → Key → Option A
  find [] k = None
  find (e ∷ t) k = cond (same_key e.0 k) (Some e.1) (find t k)

-- the keys of writes
abbrev pub keys_of : List Write → List Key
keys_of = map (λ (w : Write). w.0)

-- reading through one write
unfoldable pub overlay : Write → Reader → Reader
overlay w r k = cond (same_key w.0 k) w.1 (r k)

-- reading through a list of writes, the last to a key standing
unfoldable pub over : List Write → Reader → Reader
over [] r = r
over (w ∷ ws) r = over ws (overlay w r)

-- the table after writes, one after another
unfoldable pub write_all : List Write → Table → Table
write_all [] t = t
write_all (w ∷ ws) t = write_all ws (update w.0 w.1 t)

-- one write per key, the last, in ascending order of key
unfoldable pub last_writes : List Write → List Write → List Write
last_writes done [] = done
last_writes done (w ∷ ws) = last_writes (update w.0 (Some w.1) done) ws
