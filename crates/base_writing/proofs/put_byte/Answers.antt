-- `base_writing::put_byte` meets its contract. Assumes nothing.
use Rattle.std.proofs.Common.{refl, sym, arith}
use borrow.Author.Tests.{ltb-true, ltb-false}
use Rattle.base_writing.proofs.Puts.{full, no_zeros, nothing, stored, done}
use Rattle.base_writing.proofs.put_byte.Goals as goal

pub returns-in_err-first_mut : goal.returns-in_err-first_mut
returns-in_err-first_mut c =
    let empty = ltb-false 0 _ (sym c.in_err-first_mut.ensures.item.0) in
    rw c.from_residual.ensures (full (omega arith) (no_zeros _ (omega arith)))

pub returns : goal.returns
returns c =
    let room = ltb-true 0 _ (sym c.in_ok-first_mut.ensures.item.0) in
    done (stored (nothing _) room _ refl) refl
