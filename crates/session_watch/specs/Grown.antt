-- The watched keys in working memory.
use Rattle.std.specs.Prelude.{◌≡◌, false, Option, None, Some, get_or}
use Rattle.base_key.specs.Bytes.{part}
use Rattle.command_spec.specs.Session.{Watching, watched_keys, watch_fits}
use Rattle.command_spec.specs.Watch.{watch_of, Holding}
use Rattle.session_memory.specs.declared.session.Session.{Session}
use Rattle.session_watch.specs.declared.watch.Watch.{Watch}

-- the keys with their sequences
abbrev pub watch_in : Watch → Watching
watch_in k = watch_of k.lens k.seqs k.text k.count

-- the tables and bytes of a session
pub record Copied (s : Session) (k : Watch) : Type 0 where
  pub lens : k.lens ≡ part 4 32 s.words.now
  pub seqs : k.seqs ≡ part 36 32 s.words.now
  pub text : k.text ≡ part 0 2048 s.bytes.now
  pub count : k.count ≡ get_or s.words.now 2 0

-- what adding keys leaves: none where there is no room for them all
abbrev pub Grown : Watching → Watch → Watch → Option Unit → Type 0
Grown js old new None = watch_fits (watched_keys js) ≡ false
Grown js old new (Some u) = Holding js old.lens new.lens old.seqs new.seqs old.text new.text new.count new.used
