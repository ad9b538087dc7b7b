-- What running a queued command leaves.
use Rattle.std.specs.Prelude.{ℕ, ◌+◌, ◌-◌, ◌*◌, ◌≤◌, ◌≡◌, List, [], ◌∷◌, ◌++◌, ℤ, length, take}
use Rattle.std.specs.Prelude.{Some}
use Rattle.base_key.specs.Bytes.{Bytes}
use Rattle.base_key.specs.Keys.{Key}
use Rattle.base_writing.specs.Puts.{Adds}
use Rattle.base_number.specs.Decimal.{decimal}
use Rattle.resp_spec.specs.Reply.{Integer, encode}
use Rattle.store_memtable.specs.Table.{last_writes}
use Rattle.command_spec.specs.Command.{Effect}
use Rattle.command_spec.specs.declared.Fixed.{Fixed}
use Rattle.command_spec.specs.Errors.{fixed_reply}
use Rattle.command_spec.specs.Places.{PartsIn}
use Rattle.command_writes.specs.Own.{own_writes, Own}
use Rattle.exec_queued.specs.declared.Walked.{Walked}

-- what a queued command needs: its arguments and the own writes lie in the data in use, with room for its writes, and behind the data for the
-- text of a counter
pub record MayRun (p : List ℕ) (count : ℕ) (own : List ℕ) (d : Bytes) (a : Walked) : Type 0 where
  pub kept : Own own (take a.used d) a.rows
  pub parts : PartsIn p (take a.used d) count
  pub rows_room : 4 * (a.rows + (count - 1)) ≤ length own
  pub text_room : a.used + 20 ≤ length d

-- a command that leaves the data, with its effect: the own writes, and the reply
pub record Ran (e : Effect) (most : ℕ) (d : Bytes) (own : List ℕ) (out : Bytes) (a : Walked) (own' : List ℕ) (out' : Bytes) (r : Walked) : Type 0 where
  pub kept : Own own' d r.rows
  pub writes : own_writes own' d r.rows ≡ last_writes (own_writes own d a.rows) e.1
  pub few : r.rows ≤ a.rows + most
  pub used_is : r.used ≡ a.used
  pub adds : Adds (encode e.0) a.put out r.put out'
  pub same : length own' ≡ length own

-- the text of a number written behind the data in use, which ends at `e` then
pub record TextPut (n : ℤ) (d : Bytes) (used : ℕ) (d' : Bytes) (e : ℕ) : Type 0 where
  pub is : take e d' ≡ take used d ++ decimal n
  pub end_is : e ≡ used + length (decimal n)
  pub inside : e ≤ length d'
  pub few : e ≤ used + 20
  pub same : length d' ≡ length d

-- a counter k set to n, its text written behind the data in use
pub record CounterSet (k : Key) (n : ℤ) (own : List ℕ) (d out : Bytes) (a : Walked) (own' : List ℕ) (d' out' : Bytes) (r : Walked) : Type 0 where
  pub kept : Own own' (take r.used d') r.rows
  pub writes : own_writes own' (take r.used d') r.rows ≡ last_writes (own_writes own (take a.used d) a.rows) ((k, Some (decimal n)) ∷ [])
  pub few : r.rows ≤ a.rows + 1
  pub text : TextPut n d a.used d' r.used
  pub adds : Adds (encode (Integer n)) a.put out r.put out'
  pub same : length own' ≡ length own

-- a counter answered by an error, which sets nothing
pub record CounterError (f : Fixed) (out : Bytes) (a : Walked) (out' : Bytes) (r : Walked) : Type 0 where
  pub rows_is : r.rows ≡ a.rows
  pub used_is : r.used ≡ a.used
  pub adds : Adds (encode (fixed_reply f)) a.put out r.put out'

-- any queued command: the data in use may grow behind
pub record Advanced (e : Effect) (most : ℕ) (own : List ℕ) (d out : Bytes) (a : Walked) (own' : List ℕ) (d' out' : Bytes) (r : Walked) : Type 0 where
  pub kept : Own own' (take r.used d') r.rows
  pub writes : own_writes own' (take r.used d') r.rows ≡ last_writes (own_writes own (take a.used d) a.rows) e.1
  pub few : r.rows ≤ a.rows + most
  pub data_kept : take a.used d' ≡ take a.used d
  pub used_more : a.used ≤ r.used
  pub used_few : r.used ≤ a.used + 20
  pub adds : Adds (encode e.0) a.put out r.put out'
  pub same : length own' ≡ length own
  pub same_data : length d' ≡ length d
