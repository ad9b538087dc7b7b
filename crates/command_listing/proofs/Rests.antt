-- The laws of the entries from a place on: what a step of the walk finds there. Assumes nothing.
use mathlib.Core.Path.{◌≡◌, sym, ap, ◌∙◌}
use mathlib.Core.Bool.{Bool, true, false, cond}
use mathlib.Core.List.{List, [], ◌∷◌}
use Prim.Native.Nat.{ℕ, zero, suc, ◌+◌, ◌-◌, ◌≤◌, ◌<◌}
use native.Mathlib.Numerals.{add-one}
use native.Mathlib.Nat.{sub-zero}
use native.Mathlib.Omega.{arith}
use lib.IntN.{ℤ, pos}
use lib.ListN.{length, take, drop}
use Rattle.base_key.specs.Bytes.{Bytes}
use Rattle.base_writing.specs.Puts.{Puts}
use Rattle.base_writing.proofs.Puts.{same_text}
use Rattle.resp_spec.specs.Reply.{Integer, encode}
use Rattle.store_memtable.specs.Table.{Table, Entry, Value}
use Rattle.store_memtable.specs.Versions.{table}
use Rattle.store_memtable.specs.Layout.{count_word}
use Rattle.store_memtable.specs.Rows.{versions_in, Valid}
use Rattle.store_memtable.specs.Walk.{live_at, entry_at, live_from, next_live}
use Rattle.store_memtable.proofs.Walk.{live_table, walk_entry, walk_over}
use Rattle.command_spec.specs.Command.{DBSIZE, answer_listing}
use Rattle.command_listing.specs.Rest.{rest}
use Rattle.std.specs.Prelude.{Option, None, Some}

-- from the first place on: the table
pub rest_all : (w b : List ℕ) → Valid w b → rest w b 0 ≡ table (versions_in w b)
unfolding rest
rest_all w b v = ap (live_from w b 0) (sub-zero (count_word w)) ∙ live_table w b v

-- no more entries than versions
live_few : (w b : List ℕ) (i n : ℕ) → length (live_from w b i n) ≤ n
unfolding live_from
live_few w b i zero = omega arith
live_few w b i (suc n) = go (live_at w b i) (live_few w b (suc i) n)
  where
    go : (t : Bool) → length (live_from w b (suc i) n) ≤ n → length (cond t (entry_at w b i ∷ live_from w b (suc i) n) (live_from w b (suc i) n)) ≤ suc n
    go true h = omega arith
    go false h = omega arith

pub rest_few : (w b : List ℕ) (i : ℕ) → length (rest w b i) ≤ count_word w
unfolding rest
rest_few w b i = omega (arith, live_few w b i (count_word w - i))

-- what the walk finds from place i on
module _ (w b : List ℕ) (i : ℕ) {o : Option ℕ} (is : o ≡ next_live w b i (count_word w - i)) where
  pub rest_none : o ≡ None → rest w b i ≡ []
  unfolding rest
  rest_none e = walk_over w b i (count_word w - i) (sym is ∙ e)

  module _ {j : ℕ} (e : o ≡ Some j) where
    pub rest_some : rest w b i ≡ entry_at w b j ∷ rest w b (j + 1)
    unfolding rest
    rest_some =
        let f = walk_entry w b i (count_word w - i) j (sym is ∙ e) in
        let m : i + (count_word w - i) - suc j ≡ count_word w - suc j = omega (arith, f.0, f.1.0) in
        f.1.1 ∙ rw (m, add-one j)

-- the table has no more entries than there are versions
pub table_few : (w b : List ℕ) → Valid w b → length (table (versions_in w b)) ≤ count_word w
table_few w b v = omega (arith, rest_few w b 0, ap length (rest_all w b v))

-- DBSIZE
pub dbsize_answer : (w b : List ℕ) {n : ℕ} {z : ℤ} {entry exit : Bytes} {put : Option ℕ} → n ≡ length (table (versions_in w b)) → z ≡ pos n → Puts (encode (Integer z)) entry put exit → Puts (encode (answer_listing (table (versions_in w b)) DBSIZE)) entry put exit
unfolding answer_listing
dbsize_answer w b e f p = same_text (ap (λ (x : ℤ). encode (Integer x)) (sym (f ∙ ap pos e))) p

-- TAKING AND DROPPING the first of n entries
module _ {n : ℕ} (h : 0 < n) (e : Entry Value) (t : Table) where
  one_less : n ≡ suc (n - 1)
  one_less = omega arith

  pub take_first : take n (e ∷ t) ≡ e ∷ take (n - 1) t
  take_first = ap (λ (k : ℕ). take k (e ∷ t)) one_less

  pub drop_first : drop n (e ∷ t) ≡ drop (n - 1) t
  drop_first = ap (λ (k : ℕ). drop k (e ∷ t)) one_less
