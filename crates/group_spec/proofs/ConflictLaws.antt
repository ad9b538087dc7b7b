-- Laws of the search for a key that has moved. Assumes nothing.
use Prim.Native.Nat.{ℕ, zero, suc, ◌+◌, ◌*◌, ◌≤◌, ◌<◌}
use native.Mathlib.Omega.{arith}
use mathlib.Core.Path.{◌≡◌, refl, sym, ap, ◌∙◌}
use mathlib.Core.Bool.{Bool, true, false, ◌||◌}
use mathlib.Core.List.{List, ◌∷◌, ◌++◌}
use borrow.Author.Tests.{leb-true, eq-eqb, ne_eqb}
use Rattle.base_key.specs.Bytes.{Bytes}
use Rattle.base_key.specs.Keys.{Key}
use Rattle.base_key.proofs.Bytes.{and_left}
use Rattle.store_memtable.specs.Table.{keys_of}
use Rattle.store_memtable.specs.Versions.{Version, moved}
use Rattle.group_spec.specs.declared.Member.{Member}
use Rattle.group_spec.specs.Group.{any_key, held_keys}
use Rattle.group_spec.specs.Members.{list_from, write_at, check_at, write_inside, check_inside, pending_of}
use Rattle.group_spec.specs.Settling.{write_key, check_key, KeyIn, WritesIn, ChecksIn, lower, moved_since}
use Rattle.group_spec.proofs.KeyLists.{any_append}
use Rattle.group_spec.proofs.Walks.{all_at}

-- the keys of a member lie in the data
module _ (w : List ℕ) (d : Bytes) {first count i : ℕ} where
  pub write_key_in : WritesIn w d first count → first ≤ i → i < first + count → KeyIn w d (4 * i)
  unfolding write_inside
  write_key_in ok l h =
      record { words_in = omega (arith, ok.rows_in); key_in = leb-true _ _ (and_left _ _ (all_at (write_inside w d) first count i ok.parts_in l h)) }

  pub check_key_in : ChecksIn w d first count → first ≤ i → i < first + count → KeyIn w d (2 * i)
  unfolding check_inside
  check_key_in ok l h =
      record { words_in = omega (arith, ok.rows_in); key_in = leb-true _ _ (all_at (check_inside w d) first count i ok.parts_in l h) }

-- the keys of the writes, by places
pub keys_from : (w : List ℕ) (d : Bytes) (j n : ℕ) → keys_of (list_from (write_at w d) j n) ≡ list_from (write_key w d) j n
unfolding list_from write_at
keys_from w d j zero = refl
keys_from w d j (suc n) = ap (λ (l : List Key). write_key w d j ∷ l) (keys_from w d (suc j) n)

-- a member's conflict: without a read sequence none, else by its written and then its checked keys
module _ (w : List ℕ) (d : Bytes) (m : Member) (began : ℕ) (vs : List Version) where
  pub no_read : m.has_read ≡ 0 → false ≡ moved_since (pending_of w d m).read_seq began vs (held_keys (pending_of w d m))
  unfolding moved_since pending_of
  no_read e = rw (eq-eqb m.has_read 0 e)

  module _ (has : m.has_read ≡ 0 → ⊥) {limit : ℕ} (limit_is : limit ≡ lower m.read began)
      {r : Bool} (r-is : r ≡ any_key (moved limit vs) (list_from (write_key w d) m.first_write m.writes)) where
    held_is : moved_since (pending_of w d m).read_seq began vs (held_keys (pending_of w d m))
        ≡ (r || any_key (moved limit vs) (list_from (check_key w d) m.first_check m.checks))
    unfolding moved_since pending_of check_at
    held_is =
        let ws : List Key = list_from (write_key w d) m.first_write m.writes in
        let cs : List Key = list_from (check_key w d) m.first_check m.checks in
        rw (ne_eqb m.has_read 0 has) (
        ap (λ (l : List Key). any_key (moved (lower m.read began) vs) (l ++ cs)) (keys_from w d m.first_write m.writes)
        ∙ any_append (moved (lower m.read began) vs) ws cs
        ∙ (λ z. any_key (moved (sym limit_is z) vs) ws || any_key (moved (sym limit_is z) vs) cs)
        ∙ ap (λ (b : Bool). b || any_key (moved limit vs) cs) (sym r-is)
        )

    pub write_moved : r ≡ true → true ≡ moved_since (pending_of w d m).read_seq began vs (held_keys (pending_of w d m))
    write_moved e = sym (held_is ∙ ap (λ (b : Bool). b || any_key (moved limit vs) (list_from (check_key w d) m.first_check m.checks)) e)

    pub checks_moved : {q : Bool} → r ≡ false → q ≡ any_key (moved limit vs) (list_from (check_key w d) m.first_check m.checks)
        → q ≡ moved_since (pending_of w d m).read_seq began vs (held_keys (pending_of w d m))
    checks_moved e q-is = q-is ∙ sym (held_is ∙ ap (λ (b : Bool). b || any_key (moved limit vs) (list_from (check_key w d) m.first_check m.checks)) e)
