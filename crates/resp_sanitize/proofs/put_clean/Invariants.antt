-- `resp_sanitize::put_clean` meets its contract. The invariant: the first i bytes are written, `Copied`. Assumes nothing.
use Rattle.resp_sanitize.proofs.Letters.{Copied}
use Rattle.resp_sanitize.proofs.put_clean.Given as goal

abbrev pub invariant-loop-i : goal.invariant-loop-i
invariant-loop-i l = Copied l.letters l.text l.initial.out l.i l.out
