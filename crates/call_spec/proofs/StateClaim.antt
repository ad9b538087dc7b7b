-- Demand 3 on the state of values, from any opening.
use Prim.Native.Nat.{ℕ}
use native.Mathlib.Omega.{arith}
use mathlib.Core.List.{List, []}
use mathlib.Core.Path.{◌≡◌, refl, sym}
use lib.ListN.{get_or-replicate}
use Rattle.store_memtable.specs.Versions.{table, versions_size}
use Rattle.store_memtable.specs.Layout.{empty_store}
use Rattle.command_spec.specs.Session.{clear}
use Rattle.command_spec.proofs.SessionLaws.{clear_sound}
use Rattle.call_spec.specs.Serve.{State, open_state}
use Rattle.call_spec.specs.Calls.{Call, outcomes_on, final_on}
use Rattle.call_spec.specs.Posting.{events, closed, history, closed_clients, post_all, AllHold}
use Rattle.call_spec.proofs.FollowLaws.{closed_clear}
use Rattle.call_spec.proofs.EventLaws.{Fit, Clients, chain_follows}
use Rattle.call_spec.proofs.Posting.{list_chain}

pub record StateDemand3 (cs : List Call) (st : State) : Type 0 where
  pub tables : table (final_on cs st).store.versions ≡ post_all (history cs (outcomes_on cs st) closed_clients) []
  pub replies : AllHold (history cs (outcomes_on cs st) closed_clients) []

module _ (last versions size : ℕ) where
  open_fit : Fit (open_state last versions size)
  unfolding open_state empty_store versions_size
  open_fit = record {
    sound = record { seqs = tt; order = refl; counted = omega arith; sized = omega arith };
    sixteen = refl;
    each = λ i h. rw (get_or-replicate 16 i clear clear h) (clear_sound last);
  }

  open_clients : Clients (open_state last versions size) closed_clients
  unfolding open_state closed_clients
  open_clients = record { sixteen = refl; mirrors = λ j h. rw (get_or-replicate 16 j closed closed h, get_or-replicate 16 j clear clear h) closed_clear }

  open_table : table (open_state last versions size).store.versions ≡ []
  unfolding open_state empty_store table
  open_table = refl

pub state_claim : (cs : List Call) (last versions size : ℕ) → StateDemand3 cs (open_state last versions size)
state_claim cs last versions size =
    let p = open_state last versions size in
    let fit = open_fit last versions size in
    let t = open_table last versions size in
    let f = chain_follows (events cs (outcomes_on cs p)) p (final_on cs p) closed_clients fit (open_clients last versions size) (list_chain cs p fit) in
    record { tables = rw t at (sym f.tables); replies = rw t at f.holds }
