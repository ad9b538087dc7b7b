-- What the requests of a queue do that reads the table: the writes and the replies of posting, which reads each as it would outside MULTI.
use mathlib.Core.Bool.{true}
use mathlib.Core.List.{List, [], ◌∷◌, ◌++◌, map}
use mathlib.Core.Path.{◌≡◌, refl, sym, ap, ◌∙◌, fun_ext}
use Rattle.resp_spec.specs.Reply.{Reply}
use Rattle.store_memtable.specs.Table.{Reader, Write, Table, find, over, write_all}
use Rattle.store_memtable.proofs.TableLaws.{Ascending, find_write_all, ascending_write_all}
use Rattle.base_key.proofs.Bytes.{and_left, and_right}
use Rattle.command_spec.specs.Names.{Args, request_queueable}
use Rattle.command_spec.specs.Command.{Executed, executed_of, command_of, run, run_queue}
use Rattle.command_spec.specs.Sessions.{all_queueable}
use Rattle.command_spec.proofs.Pins.{queued_read}
use Rattle.call_spec.specs.Posting.{posted, post_queue, post_replies}

-- reading through writes is reading the table that they leave
read_after : (ws : List Write) (t : Table) → Ascending t → over ws (find t) ≡ find (write_all ws t)
read_after ws t s = fun_ext (λ k. sym (find_write_all ws t s k))

pub queue_writes : (q : List Args) (r : Reader) (t : Table) → all_queueable q ≡ true → Ascending t → r ≡ find t → (run_queue r (map command_of q)).writes ≡ post_queue t (map executed_of q)
unfolding all_queueable run_queue posted post_queue
queue_writes [] r t h s e = refl
queue_writes (a ∷ q) r t h s e =
    let c = command_of a in
    let ws = (run (find t) c).1 in
    (λ z. (run (e z) c).1 ++ (run_queue (over (run (e z) c).1 (e z)) (map command_of q)).writes)
    ∙ ap (λ (l : List Write). ws ++ l)
    (queue_writes q (over ws (find t)) (write_all ws t) (and_right (request_queueable a) (all_queueable q) h) (ascending_write_all ws t s) (read_after ws t s))
    ∙ ap (λ (x : Executed). (posted t x).1 ++ post_queue (write_all (posted t x).1 t) (map executed_of q)) (sym (queued_read a (and_left (request_queueable a) (all_queueable q) h)))

pub queue_replies : (q : List Args) (r : Reader) (t : Table) → all_queueable q ≡ true → Ascending t → r ≡ find t → (run_queue r (map command_of q)).replies ≡ post_replies t (map executed_of q)
unfolding all_queueable run_queue posted post_replies
queue_replies [] r t h s e = refl
queue_replies (a ∷ q) r t h s e =
    let c = command_of a in
    let ws = (run (find t) c).1 in
    (λ z. (run (e z) c).0 ∷ (run_queue (over (run (e z) c).1 (e z)) (map command_of q)).replies)
    ∙ ap {B = List Reply} (λ l. (run (find t) c).0 ∷ l)
    (queue_replies q (over ws (find t)) (write_all ws t) (and_right (request_queueable a) (all_queueable q) h) (ascending_write_all ws t s) (read_after ws t s))
    ∙ ap (λ (x : Executed). (posted t x).0 ∷ post_replies (write_all (posted t x).1 t) (map executed_of q)) (sym (queued_read a (and_left (request_queueable a) (all_queueable q) h)))
