-- Words of a table that stand at equal distances.
use Rattle.std.specs.Prelude.{ℕ, zero, suc, ◌+◌, List, [], ◌∷◌, get_or}

-- `n` words, the first at `from` and each `step` places behind the one before
unfoldable pub every : ℕ → ℕ → ℕ → List ℕ → List ℕ
every from step zero w = []
every from step (suc n) w = get_or w from 0 ∷ every (from + step) step n w
