-- What the code's answers mean: the commands of `Command.antt` of the crate `command_spec`, over the whole list of arguments with the name in front.
use Rattle.std.specs.Prelude.{ℕ, ◌<◌, ◌≤◌, ◌≡◌}
use Rattle.std.specs.Prelude.{Option, None, Some}
use Rattle.base_key.specs.Bytes.{Bytes, bytes}
use Rattle.resp_spec.specs.Reply.{Reply}
use Rattle.command_spec.specs.declared.Name.{Name}
use Rattle.command_spec.specs.Names.{Args, row_of, name_word, arguments, operation_of}
use Rattle.command_spec.specs.Command.{Listing, DBSIZE, KEYS, SCAN, RANGE, Executed, runs, lists, fixed, argument, unknown_command, command_as, executed_of}
use Rattle.command_spec.specs.Errors.{fixed_reply, arity_of}
use Rattle.command_meaning.specs.declared.Listing.{Listing as CodeListing}
use Rattle.command_meaning.specs.declared.Listing.TheVariants as listing
use Rattle.command_meaning.specs.declared.Refusal.{Refusal}
use Rattle.command_meaning.specs.declared.Refusal.TheVariants.{Says, Arity, Unknown}
use Rattle.command_meaning.specs.declared.Executed.{Executed as CodeExecuted}
use Rattle.command_meaning.specs.declared.Executed.TheVariants.{Runs, Lists, Refused}
use Rattle.command_meaning.specs.Kinds.{KindIs}

-- SCAN's pattern: the argument of this place, and `*` for no place
unfoldable pub pattern_at : Option ℕ → Args → Bytes
pattern_at None a = bytes "*"
pattern_at (Some k) a = argument k a

-- a command that lists the table
unfoldable pub listing_meant : CodeListing → Args → Listing
listing_meant listing.Dbsize a = DBSIZE
listing_meant listing.Keys a = KEYS (argument 1 a)
listing_meant (listing.Scan from pattern most) a = SCAN from (pattern_at pattern a) most
listing_meant (listing.Range limit) a = RANGE (argument 1 a) (argument 2 a) limit

-- the error of a request that is not carried out
unfoldable pub refusal_reply : Refusal → Args → Reply
refusal_reply (Says f) a = fixed_reply f
refusal_reply Arity a = arity_of (name_word a)
refusal_reply Unknown a = unknown_command (name_word a)

-- what a request of this name means
unfoldable pub executed_meant : Name → CodeExecuted → Args → Executed
executed_meant name (Runs k) a = runs (command_as (operation_of name) (arguments a))
executed_meant name (Lists l) a = lists (listing_meant l a)
executed_meant name (Refused f) a = fixed (refusal_reply f a)

-- the argument that holds the pattern, if one does, is there
unfoldable pub PatternCounted : Option ℕ → ℕ → Type 0
PatternCounted None count = 0 < count
PatternCounted (Some k) count = k < count

-- the argument count, the name counted, of a listing
unfoldable pub ListingCounted : CodeListing → ℕ → Type 0
ListingCounted listing.Dbsize count = 1 ≤ count
ListingCounted listing.Keys count = count ≡ 2
ListingCounted (listing.Scan from pattern most) count = PatternCounted pattern count
ListingCounted (listing.Range limit) count = 3 ≤ count

-- the argument count of a listing, and what a command that runs does
unfoldable pub Counted : Name → CodeExecuted → Args → ℕ → Type 0
Counted name (Runs k) a count = KindIs (operation_of name) a count k
Counted name (Lists l) a count = ListingCounted l count
Counted name (Refused f) a count = Unit {0}

-- the answer to a request of `count` arguments, the name counted
pub record ExecutedIs (a : Args) (count : ℕ) (r : CodeExecuted) : Type 0 where
  pub is : executed_of a ≡ executed_meant (row_of (name_word a)).name r a
  pub counted : Counted (row_of (name_word a)).name r a count
