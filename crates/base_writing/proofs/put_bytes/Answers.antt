-- `base_writing::put_bytes` meets its contract: a text at place 0 stands in front. Assumes nothing.
use Rattle.std.proofs.Common.{◌≡◌, refl, ℕ, ◌+◌, List, ◌++◌, length, drop, ap, ◌∙◌, arith}
use Rattle.base_key.specs.Bytes.{put_at}
use Rattle.base_writing.proofs.Puts.{full, wrote}
use Rattle.base_writing.proofs.put_bytes.Goals as goal

in_front : {A : Type 0} (exit t l : List A) → exit ≡ put_at 0 t l → exit ≡ t ++ drop (length t) l
unfolding put_at
in_front exit t l is = is ∙ ap (λ (n : ℕ). t ++ drop n l) (omega arith)

pub returns-then-out-text : goal.returns-then-out-text
returns-then-out-text c = search full

pub returns : goal.returns
returns c = wrote refl c.if-out-text.false (in_front _ _ _ c.put_at.ensures)
