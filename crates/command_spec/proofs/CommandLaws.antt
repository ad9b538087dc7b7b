-- Laws of commands: what a queue in two parts does, and the keys of tombstones.
use mathlib.Core.List.{List, [], ◌∷◌, ◌++◌, map, append_assoc}
use mathlib.Core.Path.{◌≡◌, refl, sym, ap, ◌∙◌}
use Rattle.base_key.specs.Keys.{Key}
use Rattle.store_memtable.specs.Table.{Reader, Write, keys_of, overlay, over}
use Rattle.command_spec.specs.Command.{Command, run, Ran, run_queue, tombstone}

over_append : (ws vs : List Write) (r : Reader) → over (ws ++ vs) r ≡ over vs (over ws r)
unfolding over
over_append [] vs r = refl
over_append (w ∷ ws) vs r = over_append ws vs (overlay w r)

-- A queue in two parts: no command of the second is dropped, and it reads through the writes of the first.
pub queue_parts : (a b : List Command) (r : Reader)
    → run_queue r (a ++ b) ≡ (let x = run_queue r a in let y = run_queue (over x.writes r) b in
    record { replies = x.replies ++ y.replies; writes = x.writes ++ y.writes })
unfolding run_queue over
queue_parts [] b r = refl
queue_parts (c ∷ a) b r =
    let ws = (run r c).1 in
    let x = run_queue (over ws r) a in
    let ih = queue_parts a b (over ws r) in
    let same : over x.writes (over ws r) ≡ over (ws ++ x.writes) r = sym (over_append ws x.writes r) in
    let y : Reader → Ran = λ q. run_queue q b in
    (λ z. record { replies = (run r c).0 ∷ (ih z).replies; writes = ws ++ (ih z).writes })
    ∙ (λ z. record {
      replies = (run r c).0 ∷ (x.replies ++ (y (same z)).replies);
      writes = sym (append_assoc ws x.writes (y (same z)).writes) z;
    })

-- the keys of tombstones
pub tombstone_keys : (ks : List Key) → keys_of (map tombstone ks) ≡ ks
tombstone_keys [] = refl
tombstone_keys (k ∷ ks) = ap (λ (l : List Key). k ∷ l) (tombstone_keys ks)
