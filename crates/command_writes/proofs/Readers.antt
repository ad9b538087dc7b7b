-- Laws of what EXEC reads through its own writes: a row that was found, or none. Assumes nothing.
use Prim.Native.Nat.{ℕ}
use mathlib.Core.Path.{◌≡◌, sym, ap, ◌∙◌}
use mathlib.Core.Bool.{Bool, true, false}
use mathlib.Core.List.{List}
use Rattle.std.specs.Prelude.{None, Some}
use Rattle.base_key.specs.Bytes.{Bytes}
use Rattle.base_key.specs.Keys.{Key}
use Rattle.store_memtable.specs.Table.{Write, find, over}
use Rattle.store_memtable.specs.Versions.{read_at}
use Rattle.store_memtable.specs.Rows.{versions_in, value_if}
use Rattle.store_memtable.proofs.TableLaws.{over_some, over_none}
use Rattle.group_spec.specs.Members.{write_at}
use Rattle.command_writes.specs.Own.{own_writes, Own, OwnAt, reader_of}
use Rattle.command_writes.proofs.Growing.{none_writes}

module _ {own : List ℕ} {d : Bytes} {n : ℕ} (o : Own own d n) (w : List ℕ) (b : Bytes) (s : ℕ) where
  pub reader_at : (k : Key) {j : ℕ} → OwnAt own d n k j → reader_of own d n w b s k ≡ (write_at own d j).1
  unfolding reader_of
  reader_at k f = over_some (own_writes own d n) (read_at s (versions_in w b)) k o.rising f.is

  pub reader_past : (k : Key) → find (own_writes own d n) k ≡ None → reader_of own d n w b s k ≡ read_at s (versions_in w b) k
  unfolding reader_of
  reader_past k e = over_none (own_writes own d n) (read_at s (versions_in w b)) k o.rising e

-- without own writes it is the store's
pub reader_none : (own : List ℕ) (d : Bytes) (w : List ℕ) (b : Bytes) (s : ℕ) → reader_of own d 0 w b s ≡ read_at s (versions_in w b)
unfolding reader_of over
reader_none own d w b s = ap (λ (l : List Write). over l (read_at s (versions_in w b))) (none_writes own d)

-- what a write gives: none where it is a tombstone
module _ {x : Write} {k : Key} (v : Bytes) (live : Bool) (is : x ≡ (k, value_if live v)) where
  pub gives_value : live ≡ true → Some v ≡ x.1
  unfolding value_if
  gives_value e = sym (ap (λ (y : Write). y.1) is ∙ ap (λ (b : Bool). value_if b v) e)

  pub gives_none : live ≡ false → None ≡ x.1
  unfolding value_if
  gives_none e = sym (ap (λ (y : Write). y.1) is ∙ ap (λ (b : Bool). value_if b v) e)
