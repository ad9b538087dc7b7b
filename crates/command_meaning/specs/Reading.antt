-- The steps in which the code reads a request.
use Rattle.std.specs.Prelude.{ℕ, ◌+◌, ◌≡◌, length, drop}
use Rattle.base_key.specs.Bytes.{Bytes, bytes}
use Rattle.command_spec.specs.declared.Operation.{Operation}
use Rattle.command_spec.specs.declared.Operation.TheVariants.{Get, Set, Del, Exists, Mget, Mset, Incr, Incrby, Decr, Ping, Echo}
use Rattle.command_spec.specs.declared.Name.{Name}
use Rattle.command_spec.specs.declared.Name.TheVariants.{Queueable, Dbsize, Keys, Scan, Range, Multi, Exec, Discard, Watch, Unwatch, Quit, Unknown}
use Rattle.command_spec.specs.Names.{Args, name_word, arguments}
use Rattle.command_spec.specs.Command.{Executed, argument, fixed, scan_options, executed_as}
use Rattle.command_spec.specs.Errors.{fixed_reply}
use Rattle.command_meaning.specs.declared.Executed.{Executed as CodeExecuted}
use Rattle.command_meaning.specs.declared.options.ScanOption.{ScanOption}
use Rattle.command_meaning.specs.declared.options.ScanOption.TheVariants.{Match, Count, Wrong}
use Rattle.command_meaning.specs.declared.Kind.{Kind}
use Rattle.command_meaning.specs.Kinds.{KindIs}
use Rattle.command_meaning.specs.Meant.{executed_meant, Counted}

-- the place of a name's row in the table of commands
unfoldable pub row_place : Name → ℕ
row_place (Queueable Get) = 0
row_place (Queueable Set) = 1
row_place (Queueable Del) = 2
row_place (Queueable Exists) = 3
row_place (Queueable Mget) = 4
row_place (Queueable Mset) = 5
row_place (Queueable Incr) = 6
row_place (Queueable Incrby) = 7
row_place (Queueable Decr) = 8
row_place (Queueable Ping) = 9
row_place (Queueable Echo) = 10
row_place Dbsize = 11
row_place Keys = 12
row_place Scan = 13
row_place Range = 14
row_place Multi = 15
row_place Exec = 16
row_place Discard = 17
row_place Watch = 18
row_place Unwatch = 19
row_place Quit = 20
row_place Unknown = 21

-- the answer to a command of this name, of right argument count and without options
pub record MeansAs (name : Name) (a : Args) (count : ℕ) (r : CodeExecuted) : Type 0 where
  pub is : executed_as name (name_word a) (arguments a) ≡ executed_meant name r a
  pub counted : Counted name r a count

-- what an operation does with every list of so many arguments
pub record KindFor (o : Operation) (count : ℕ) (k : Kind) : Type 0 where
  pub does : (a : Args) → length a ≡ count → KindIs o a count k

-- SCAN's options behind one that was read, with this value
unfoldable pub scan_step : ScanOption → ℕ → Bytes → ℕ → Bytes → Args → Executed
scan_step Match from pattern most v a = scan_options from v most a
scan_step (Count n) from pattern most v a = scan_options from pattern n a
scan_step (Wrong f) from pattern most v a = fixed (fixed_reply f)

-- the option at argument i and its value, argument i + 1
pub record OptionIs (a : Args) (i : ℕ) (r : ScanOption) : Type 0 where
  pub is : (from : ℕ) (pattern : Bytes) (most : ℕ) → scan_options from pattern most (drop i a) ≡ scan_step r from pattern most (argument (i + 1) a) (drop (i + 2) a)

-- the answer to SCAN from a cursor
pub record ScanIs (a : Args) (count from : ℕ) (r : CodeExecuted) : Type 0 where
  pub is : scan_options from (bytes "*") 10 (drop 2 a) ≡ executed_meant Scan r a
  pub counted : Counted Scan r a count
