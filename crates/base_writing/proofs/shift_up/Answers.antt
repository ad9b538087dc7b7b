-- `base_writing::shift_up` meets its contract: what the library's copy leaves is the list moved up. Assumes nothing.
use Rattle.std.proofs.Common.{◌≡◌, ℕ, ◌+◌, ◌-◌, ◌≤◌, List, ◌++◌, take, drop, sym, ap, ◌∙◌, append_assoc, arith}
use Rattle.std.proofs.lemmas.List.{drop-take}
use Rattle.std.specs.List.{copy_within}
use Rattle.base_key.specs.Bytes.{moved_up}
use Rattle.base_writing.proofs.shift_up.Goals as goal

moved_within : {A : Type 0} (l : List A) (from to by : ℕ) → from ≤ to → copy_within l from to (from + by) ≡ moved_up from to by l
unfolding moved_up
moved_within l from to by h =
    let m = to - from in
    let e : from + m ≡ to = omega arith in
    let f : from + by + m ≡ to + by = omega arith in
    append_assoc (take (from + by) l) (take m (drop from l)) (drop (from + by + m) l)
    ∙ (λ z. take (from + by) l ++ ((sym (drop-take from m l) ∙ ap (λ (n : ℕ). drop from (take n l)) e) z ++ drop (f z) l))

pub returns : goal.returns
returns g c = c.copy_within.ensures.after ∙ moved_within _ _ _ _ c.requires.from_le_to
