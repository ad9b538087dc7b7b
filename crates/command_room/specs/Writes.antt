-- The writes of a command outside MULTI: room for them, and what the verdict and the reply make of the call.
use Rattle.std.specs.Prelude.{ℕ, ◌+◌, ◌^◌, ◌≤◌, ◌<◌, cond, List, leb, ltb, length}
use Rattle.store_memtable.specs.Table.{Write}
use Rattle.store_memtable.specs.Versions.{writes_size}
use Rattle.store_memtable.specs.Layout.{count_word, used_word, last_word, most_versions_word, most_bytes_word}
use Rattle.group_spec.specs.declared.Verdict.{Verdict}
use Rattle.group_spec.specs.declared.Verdict.TheVariants.{Accepted, NoRoom, NoSequence}
use Rattle.group_spec.specs.Group.{verdict_byte, is_accepted}
use Rattle.command_spec.specs.Numbers.{AnswerNumbers}
use Rattle.command_answer.specs.Answers.{refusal, put_answer}
use Rattle.std.specs.Prelude.{Option, None, Some}

-- room for these writes, and sequences
pub record RoomForAll (w : List ℕ) (ws : List Write) : Type 0 where
  pub rows_free : count_word w + length ws ≤ most_versions_word w
  pub bytes_free : used_word w + writes_size ws ≤ most_bytes_word w
  pub seqs_free : last_word w + length ws < 2 ^ 64

-- the header of a valid store
pub record HeaderIn (w : List ℕ) : Type 0 where
  pub header_in : 5 ≤ length w
  pub count_fits : count_word w ≤ most_versions_word w
  pub used_fits : used_word w ≤ most_bytes_word w

-- the verdict of `writes` writes, by what their bytes leave of the free ones
unfoldable pub verdict_left : List ℕ → ℕ → Option ℕ → Verdict
verdict_left w writes (Some n) = cond (leb (count_word w + writes) (most_versions_word w)) (cond (ltb (last_word w + writes) (2 ^ 64)) Accepted NoSequence) NoRoom
verdict_left w writes None = NoRoom

-- 6 and 7 come before 3
unfoldable pub verdict_answer : Verdict → Option ℕ → ℕ → AnswerNumbers
verdict_answer v put used = cond (is_accepted v) (put_answer put used) (refusal (verdict_byte v))
