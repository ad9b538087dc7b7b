-- What moves of rows leave.
use Rattle.std.specs.Prelude.{ℕ, ◌+◌, ◌*◌, List, [], ◌∷◌, ◌++◌, take, drop}
use Rattle.std.proofs.Math.Seq.{slice}
unfoldable pub use Rattle.base_key.specs.Bytes.{put_at}

-- rows of four words, the first of each more by k
unfoldable pub shift_rows : ℕ → List ℕ → List ℕ
shift_rows k [] = []
shift_rows k (a ∷ []) = a ∷ []
shift_rows k (a ∷ b ∷ []) = a ∷ b ∷ []
shift_rows k (a ∷ b ∷ c ∷ []) = a ∷ b ∷ c ∷ []
shift_rows k (a ∷ b ∷ c ∷ d ∷ l) = (a + k) ∷ b ∷ c ∷ d ∷ shift_rows k l

-- the rows from place `from` up to `to` moved up by `by` places, their starts more by k
unfoldable pub rows_moved : ℕ → ℕ → ℕ → ℕ → List ℕ → List ℕ
rows_moved from to by k w = take (5 + 4 * from + 4 * by) w ++ (shift_rows k (slice (5 + 4 * from) (5 + 4 * to) w) ++ drop (5 + 4 * to + 4 * by) w)
