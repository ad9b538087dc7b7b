-- The progress at the end of the queue is what `run_queue` gives.
use mathlib.Core.Path.{◌≡◌, refl, sym, ap, ◌∙◌}
use mathlib.Core.List.{List, [], ◌∷◌, ◌++◌, map, append_assoc, append-nil}
use Prim.Native.Nat.{ℕ, suc}
use lib.ListN.{length}
use Rattle.resp_spec.specs.Reply.{array, items, head, count_items, encode, encode_all}
use Rattle.store_memtable.specs.Table.{Reader, Write, over, last_writes}
use Rattle.store_memtable.specs.Versions.{Version, Store, read_at}
use Rattle.store_memtable.proofs.TableLaws.{Ascending, last_more, ascending_last, over_last}
use Rattle.command_spec.specs.Names.{Args}
use Rattle.command_spec.specs.Command.{Command, command_of, run, Ran, run_queue}
use Rattle.command_spec.proofs.SessionLaws.{ran_by, writes_by}
use Rattle.exec_run.specs.Progress.{Progress, begun, advance, advance_all}

-- what the rest of a queue adds to a progress
unfoldable after : Progress → Ran → Progress
after p ran = record { writes = last_writes p.writes ran.writes; replies = p.replies ++ encode_all (items ran.replies) }

all_advanced : (s : ℕ) (vs : List Version) (cs : List Command) (p : Progress) → Ascending p.writes
    → advance_all s vs cs p ≡ after p (run_queue (over p.writes (read_at s vs)) cs)
unfolding advance_all advance after run_queue last_writes items encode
all_advanced s vs [] p h = λ z. record { writes = p.writes; replies = sym (append-nil p.replies) z }
all_advanced s vs (c ∷ cs) p h =
    let r : Reader = over p.writes (read_at s vs) in
    let ws : List Write = (run r c).1 in
    let rest : Ran = run_queue (over ws r) cs in
    all_advanced s vs cs (advance s vs c p) (ascending_last p.writes ws h)
    ∙ ap (λ (q : Reader). after (advance s vs c p) (run_queue q cs)) (λ z k. over_last p.writes ws (read_at s vs) h k z)
    ∙ (λ z. record {
      writes = sym (last_more p.writes ws rest.writes) z;
      replies = append_assoc p.replies (encode (run r c).0) (encode_all (items rest.replies)) z;
    })

-- AT THE END of the queue of an EXEC
unfoldable pub ended : List Args → Store → Progress
ended q st = advance_all st.last st.versions (map command_of q) begun

module _ (q : List Args) (st : Store) where
  ended_is : ended q st ≡ after begun (ran_by q st)
  unfolding ended ran_by over
  ended_is = all_advanced st.last st.versions (map command_of q) begun tt

  pub ended_writes : (ended q st).writes ≡ writes_by q st
  unfolding after writes_by
  ended_writes = ap (λ (p : Progress). p.writes) ended_is

  ended_replies : (ended q st).replies ≡ encode_all (items (ran_by q st).replies)
  unfolding after
  ended_replies = ap (λ (p : Progress). p.replies) ended_is

  ran_count : (r : Reader) (cs : List Command) → count_items (items (run_queue r cs).replies) ≡ length cs
  unfolding run_queue items count_items
  ran_count r [] = refl
  ran_count r (c ∷ cs) = ap suc (ran_count (over (run r c).1 r) cs)

  -- the bytes of an accepted EXEC's reply
  pub replies_are : encode (array (ran_by q st).replies) ≡ head 42 (length (map command_of q)) ++ (ended q st).replies
  unfolding encode ran_by
  replies_are = λ z. head 42 (ran_count (read_at st.last st.versions) (map command_of q) z) ++ sym ended_replies z
