-- An answer has no bytes, or those of one reply.
use Prim.Native.Nat.{ℕ}
use mathlib.Core.Bool.{Bool, true, false, cond}
use mathlib.Core.List.{[], ◌∷◌}
use lib.Dec.{leb}
use lib.ListN.{length}
use Rattle.base_key.specs.Bytes.{Bytes}
use Rattle.resp_spec.specs.Request.{Reading, waits, faulty, too_many, whole, read_request}
use Rattle.resp_spec.specs.Reply.{Reply, encode}
use Rattle.store_memtable.specs.Versions.{Store}
use Rattle.command_spec.specs.Session.{Session, Result, number, reply, Done}
use Rattle.command_spec.specs.Finish.{Served, silent, finish, finish_by, fitted}
use Rattle.call_spec.specs.Serve.{serve, serve_reading}
use Rattle.call_spec.specs.Captures.{SilentOrReply, no_reply, replied}

finish_answers : (room used : ℕ) (d : Done) (st : Store) (s : Session) → SilentOrReply (finish room used d st s).reply
unfolding finish finish_by fitted
finish_answers room used d st s = go d.result
  where
    fits : (r : Reply) (t : Bool) → SilentOrReply (cond {A = Served} t (record { number = 0; used = used; reply = encode r; store = d.store; session = d.session }) (silent 3 0 st s)).reply
    fits r true = replied r
    fits r false = no_reply

    go : (x : Result) → SilentOrReply (finish_by x room used d st s).reply
    go (number n) = no_reply
    go (reply r) = fits r (leb (length (encode r)) room)

reading_answers : (room : ℕ) (input : Bytes) (x : Reading) (st : Store) (s : Session) → SilentOrReply (serve_reading room input x st s).reply
unfolding serve_reading
reading_answers room input waits st s = no_reply
reading_answers room input too_many st s = no_reply
reading_answers room input (faulty f) st s = finish_answers room _ _ st s
reading_answers room input (whole [] used) st s = no_reply
reading_answers room input (whole (p ∷ ps) used) st s = finish_answers room _ _ st s

pub served_answers : (places room : ℕ) (input : Bytes) (st : Store) (s : Session) → SilentOrReply (serve places room input st s).reply
unfolding serve
served_answers places room input st s = reading_answers room input (read_request places input) st s
