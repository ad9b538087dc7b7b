-- What the commands that set writes leave, from what their steps answer. Assumes nothing.
use Prim.Native.Nat.{ℕ, ◌-◌, ◌/◌, ◌≤◌}
use native.Mathlib.Omega.{arith}
use mathlib.Core.Path.{◌≡◌, refl, sym, ap, ◌∙◌}
use mathlib.Core.List.{List, map}
use Rattle.command_spec.proofs.PlaceLaws.{arguments_of}
use Rattle.base_key.specs.Bytes.{Bytes}
use Rattle.base_writing.specs.Puts.{Adds}
use Rattle.resp_spec.specs.Reply.{encode}
use Rattle.store_memtable.specs.Table.{last_writes}
use Rattle.command_spec.specs.declared.Fixed.TheVariants.{Ok}
use Rattle.command_spec.specs.Names.{Args, arguments}
use Rattle.command_spec.specs.Command.{put, tombstone, pairs_of}
use Rattle.command_spec.specs.Errors.{fixed_reply}
use Rattle.command_spec.specs.Places.{arguments_at, tombstones_at, pairs_at}
use Rattle.command_meaning.specs.Kinds.{InPairs}
use Rattle.command_writes.specs.Own.{own_writes, reader_of}
use Rattle.command_writes.specs.Changes.{OwnPuts}
use Rattle.exec_queued.specs.declared.Walked.{Walked}
use Rattle.command_meaning.specs.Kinds.{live_reply, pairs_effect, tombstones_effect}
use Rattle.exec_queued.specs.Walks.{Ran}
use Rattle.std.specs.Prelude.{Option}

pub pairs_least : {count : ℕ} → InPairs count → 1 ≤ count
pairs_least i = omega (arith, i.least)

module _ (p : List ℕ) (d : Bytes) (count : ℕ) (h : 1 ≤ count) where
  pairs_are : pairs_at 1 (count - 1) p d ≡ map put (pairs_of (arguments (arguments_at 0 count p d)))
  unfolding pairs_at
  pairs_are = ap (λ (x : Args). map put (pairs_of x)) (sym (arguments_of p d count h))

  tombstones_are : tombstones_at 1 (count - 1) p d ≡ map tombstone (arguments (arguments_at 0 count p d))
  unfolding tombstones_at
  tombstones_are = ap (map tombstone) (sym (arguments_of p d count h))

module _ (p : List ℕ) (d : Bytes) (count : ℕ) {own own' : List ℕ} {out out' : Bytes} {a : Walked} {rows : ℕ} {next : Option ℕ} where
  pub pairs_ran : InPairs count → Adds (encode (fixed_reply Ok)) a.put out next out' → OwnPuts own own' d a.rows (pairs_at 1 (count - 1) p d) ((count - 1) / 2) rows
      → Ran (pairs_effect (arguments_at 0 count p d)) (count - 1) d own out a own' out' (record { rows = rows; used = a.used; put = next })
  unfolding pairs_effect fixed_reply
  pairs_ran i s o =
      let l : 1 ≤ count = pairs_least i in
      record {
        kept = o.kept;
        writes = o.is ∙ ap (last_writes (own_writes own d a.rows)) (pairs_are p d count l);
        few = omega (arith, o.most);
        used_is = refl;
        adds = s;
        same = o.same;
      }

  pub tombstones_ran : (w : List ℕ) (b : Bytes) (seq : ℕ) → 1 ≤ count → Adds (encode (live_reply (reader_of own d a.rows w b seq) (arguments_at 0 count p d))) a.put out next out'
      → OwnPuts own own' d a.rows (tombstones_at 1 (count - 1) p d) (count - 1) rows
      → Ran (tombstones_effect (reader_of own d a.rows w b seq) (arguments_at 0 count p d)) (count - 1) d own out a own' out' (record { rows = rows; used = a.used; put = next })
  unfolding tombstones_effect
  tombstones_ran w b seq l s o = record {
    kept = o.kept;
    writes = o.is ∙ ap (last_writes (own_writes own d a.rows)) (tombstones_are p d count l);
    few = o.most;
    used_is = refl;
    adds = s;
    same = o.same;
  }
