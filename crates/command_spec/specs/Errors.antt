-- The replies that hang on no stored value, as the code names them.
use Rattle.std.specs.Prelude.{◌++◌, map}
use Rattle.base_key.specs.Bytes.{Bytes, bytes}
use Rattle.resp_spec.specs.Reply.{Reply, Simple, ok, err}
use Rattle.command_spec.specs.declared.Fixed.{Fixed}
use Rattle.command_spec.specs.declared.Fixed.TheVariants.{Ok, Queued, Pong, NotInteger, Overflow, Syntax, InvalidCursor, BadLimit, SetOptions, ExecAlone, DiscardAlone, NestedMulti, WatchInside, ExecAbort}
use Rattle.resp_spec.specs.Letters.{lower}
use Rattle.command_spec.specs.Command.{not_integer, overflow, syntax_error, set_options}
use Rattle.command_spec.specs.Session.{queued_reply, exec_abort}

-- the fixed replies of Command.antt and Session.antt
unfoldable pub fixed_reply : Fixed → Reply
fixed_reply Ok = ok
fixed_reply Queued = queued_reply
fixed_reply Pong = Simple (bytes "PONG")
fixed_reply NotInteger = not_integer
fixed_reply Overflow = overflow
fixed_reply Syntax = syntax_error
fixed_reply InvalidCursor = err (bytes "invalid cursor")
fixed_reply BadLimit = err (bytes "LIMIT must be a non-negative integer")
fixed_reply SetOptions = set_options
fixed_reply ExecAlone = err (bytes "EXEC without MULTI")
fixed_reply DiscardAlone = err (bytes "DISCARD without MULTI")
fixed_reply NestedMulti = err (bytes "MULTI calls can not be nested")
fixed_reply WatchInside = err (bytes "WATCH inside MULTI is not allowed")
fixed_reply ExecAbort = exec_abort

-- the error for a wrong argument count, by the name as it was sent: `arity` of its row (proofs/ErrorTexts.antt)
unfoldable pub arity_of : Bytes → Reply
arity_of word = err (bytes "wrong number of arguments for '" ++ map lower word ++ bytes "' command")
