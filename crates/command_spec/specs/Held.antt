-- A valid session by its numbers, and what a change leaves of its words.
use Rattle.std.specs.Prelude.{ℕ, ◌≤◌, ◌≡◌, true, false, List, [], length, get_or}
use Rattle.std.specs.Prelude.{Some}
use Rattle.base_key.specs.Bytes.{Bytes, total}
use Rattle.command_spec.specs.Session.{Session, clear}
use Rattle.command_spec.specs.Sessions.{key_lengths, argument_counts, argument_lengths, keys_in, ascending, session_from, session_words}

pub record Held (w : List ℕ) (b : Bytes) : Type 0 where
  pub words : length w ≡ 644
  pub bytes : length b ≡ 10240
  pub few_keys : get_or w 2 0 ≤ 32
  pub key_room : total (key_lengths w b) ≤ 2048
  pub rising : ascending (keys_in w b) ≡ true
  pub few_commands : get_or w 3 0 ≤ 64
  pub few_arguments : total (argument_counts w b) ≤ 512
  pub room : total (argument_lengths w b) ≤ 8192
  pub quiet : get_or w 0 0 ≡ 0 → get_or w 3 0 ≡ 0

-- the words w' are those of the changed session, whatever valid session the words w with their bytes are
pub record Left (change : Session → Session) (w w' : List ℕ) : Type 0 where
  pub is : (b : Bytes) → Held w b → w' ≡ session_words (change (session_from w b)) w b

abbrev pub cleared : Session → Session
cleared s = clear

-- MULTI
abbrev pub opened : Session → Session
opened s = record { queue = Some []; failed = false; watch = s.watch }

-- UNWATCH
abbrev pub unwatched : Session → Session
unwatched s = record { queue = s.queue; failed = s.failed; watch = [] }
