-- The program `frames`: one line in, one line out.
use Rattle.std.specs.Prelude.{ℕ, zero, suc, ◌+◌, ◌-◌, ◌*◌, ◌/◌, ◌%◌, Bool, true, false, cond, ◌&&◌, List, [], ◌∷◌, ◌++◌, leb, eqb, length, get_or, set, replicate, drop}
use Rattle.std.specs.Prelude.{Option, None, Some}
use Rattle.base_key.specs.Bytes.{Bytes, bytes}
use Rattle.base_number.specs.Decimal.{digits}
use Rattle.resp_spec.specs.Request.{Reading, waits, faulty, too_many, whole, read_request, spanned}
use Rattle.command_spec.specs.Names.{row_of, MULTI, EXEC, DISCARD, WATCH, UNWATCH, QUIT, other, control_of}
use Rattle.call_spec.specs.Serve.{State, open_state, request_on}

-- the state and the held bytes of each session
pub record Console : Type 0 where
  pub state : State
  pub rests : List Bytes

-- the store opens with 1,024 versions, 32,768 bytes and last sequence 0
unfoldable pub open_console : Console
open_console = record { state = open_state 0 1024 32768; rests = replicate 16 [] }

-- QUIT and a protocol error drop the rest
unfoldable pub closes : Bytes → Reading → Bool
closes input waits = false
closes input too_many = false
closes input (faulty f) = true
closes input (whole [] used) = false
closes input (whole (p ∷ ps) used) = elim (control_of (row_of (spanned input p)).name) [
  | QUIT ↦ true
  | MULTI ↦ false
  | EXEC ↦ false
  | DISCARD ↦ false
  | WATCH ↦ false
  | UNWATCH ↦ false
  | other ↦ false
]

-- the replies to the bytes at hand, the mark behind them, the rest, and the state
pub record Frame : Type 0 where
  pub replies : Bytes
  pub mark : Bytes
  pub rest : Bytes
  pub state : State

-- no further call
abbrev pub stops : Bytes → Bytes → State → Frame
stops mark rest st = record { replies = []; mark = mark; rest = rest; state = st }

-- one call per request; a call that returns a number puts `!` and the number, and the held bytes are dropped
unfoldable pub requests : ℕ → ℕ → Bytes → State → Frame
requests zero i s st = stops [] s st
requests (suc fuel) i s st =
    let d = request_on i s 1024 32768 st in
    elim (eqb d.outcome.number 0) [
      | false ↦ stops (bytes "!" ++ digits d.outcome.number) [] d.state
      | true ↦ elim (eqb d.outcome.used 0) [
        | true ↦ stops [] s d.state
        | false ↦
            let s' = cond (closes s (read_request 1024 s)) [] (drop d.outcome.used s) in
            let more = requests fuel i s' d.state in
            record { replies = d.outcome.reply ++ more.replies; mark = more.mark; rest = more.rest; state = more.state }
      ]
    ]

-- a rest above 4,096 bytes is dropped, with `!` alone in that place
unfoldable pub held_rest : Frame → Frame
held_rest f = cond (leb (length f.rest) 4096) f (record { replies = f.replies; mark = bytes "!"; rest = []; state = f.state })

-- LINES. A lower-case hexadecimal digit
unfoldable pub hex_value : ℕ → Option ℕ
hex_value b = cond (leb 48 b && leb b 57) (Some (b - 48)) (cond (leb 97 b && leb b 102) (Some (b - 87)) None)

-- a byte from two digits, in front of the rest
unfoldable pub join_hex : Option ℕ → Option ℕ → Option Bytes → Option Bytes
join_hex None l s = None
join_hex (Some h) None s = None
join_hex (Some h) (Some l) None = None
join_hex (Some h) (Some l) (Some s) = Some ((h * 16 + l) ∷ s)

-- the bytes of a hexadecimal text
unfoldable pub unhex : Bytes → Option Bytes
unhex [] = Some []
unhex (h ∷ []) = None
unhex (h ∷ l ∷ s) = join_hex (hex_value h) (hex_value l) (unhex s)

-- the digit of a number below 16
unfoldable pub hex_digit : ℕ → ℕ
hex_digit n = cond (leb n 9) (48 + n) (87 + n)

-- the hexadecimal of bytes
unfoldable pub hex : Bytes → Bytes
hex [] = []
hex (b ∷ s) = hex_digit (b / 16) ∷ hex_digit (b % 16) ∷ hex s

-- a decimal digit
abbrev pub is_digit : ℕ → Bool
is_digit b = leb 48 b && leb b 57

-- two decimal digits of session, a space, 1 to 4,096 bytes
pub record Given : Type 0 where
  pub session : ℕ
  pub input : Bytes

-- a line of the form, by its parts
unfoldable pub given_of : Bool → ℕ → Option Bytes → Option Given
given_of false i s = None
given_of true i None = None
given_of true i (Some s) = cond (leb 1 (length s) && leb (length s) 4096) (Some (record { session = i; input = s })) None

-- a line of the form, or none
unfoldable pub given : Bytes → Option Given
given [] = None
given (a ∷ []) = None
given (a ∷ b ∷ []) = None
given (a ∷ b ∷ c ∷ s) = given_of (is_digit a && is_digit b && eqb c 32) ((a - 48) * 10 + (b - 48)) (unhex s)

-- the session, a space, and the hexadecimal of all replies to the frame with the mark behind them, or `-` if none
abbrev pub or_dash : Bytes → Bytes
or_dash [] = bytes "-"
or_dash (b ∷ s) = b ∷ s

-- the output line
unfoldable pub shown : ℕ → Frame → Bytes
shown i f = (48 + i / 10) ∷ (48 + i % 10) ∷ 32 ∷ or_dash (hex f.replies ++ f.mark)

-- an output line, and the state after it
pub record Shown : Type 0 where
  pub out : Bytes
  pub console : Console

-- a line of another form is answered `?` and changes nothing
unfoldable pub answer_given : Option Given → Console → Shown
answer_given None c = record { out = bytes "?"; console = c }
answer_given (Some g) c =
    let i = g.session in
    let s = get_or c.rests i [] ++ g.input in
    let f = held_rest (requests (length s) i s c.state) in
    record { out = shown i f; console = record { state = f.state; rests = set c.rests i f.rest } }

-- one line
unfoldable pub frame : Bytes → Console → Shown
frame l c = answer_given (given l) c

-- one line after another
unfoldable pub frames : List Bytes → Console → List Bytes
frames [] c = []
frames (l ∷ ls) c = let d = frame l c in d.out ∷ frames ls d.console
