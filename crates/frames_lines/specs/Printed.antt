-- What a line that the program `frames` prints tells (document 02, R-11).
use Rattle.std.specs.Prelude.{ℕ, zero, suc, true, false, cond, List, [], ◌++◌, map, ◌≡◌, eqb, length, get_or, drop}
use Rattle.std.specs.Prelude.{Some}
use Rattle.base_key.specs.Bytes.{Bytes}
use Rattle.resp_spec.specs.Request.{read_request}
use Rattle.resp_spec.specs.Reply.{Reply, encode}
use Rattle.reply_split.specs.Streams.{stream}
use Rattle.call_spec.specs.Serve.{State, request_on}
use Rattle.call_spec.specs.Frames.{Console, closes, Given, given, hex, or_dash, frame}
use Rattle.call_spec.specs.Captures.{with_answer}
use Rattle.frames_lines.specs.declared.pieces.Mark.{Mark}
use Rattle.frames_lines.specs.Pieces.{head_text, mark_text}

-- the answers to the calls of `call_spec:Frames.requests`, one by one; a call without reply has none
unfoldable pub request_answers : ℕ → ℕ → Bytes → State → List Bytes
request_answers zero i s st = []
request_answers (suc fuel) i s st =
    let d = request_on i s 1024 32768 st in
    elim (eqb d.outcome.number 0) [
      | false ↦ []
      | true ↦ elim (eqb d.outcome.used 0) [
        | true ↦ []
        | false ↦ with_answer d.outcome.reply (request_answers fuel i (cond (closes s (read_request 1024 s)) [] (drop d.outcome.used s)) d.state)
      ]
    ]

-- those to the requests of a frame, with the bytes that were held
abbrev pub frame_answers : Console → Given → List Bytes
frame_answers c g =
    let s = get_or c.rests g.session [] ++ g.input in
    request_answers (length s) g.session s c.state

-- the line of a session with these replies and this mark
unfoldable pub printed : ℕ → List Reply → Mark → Bytes
printed i rs m = head_text i ++ or_dash (hex (stream rs) ++ mark_text m)

-- such a line, of the answers to its requests, is printed for a frame
pub record AnswersPrinted (line : Bytes) (c : Console) (g : Given) : Type 0 where
  pub replies : List Reply
  pub mark : Mark
  pub each : frame_answers c g ≡ map encode replies
  pub out : (frame line c).out ≡ printed g.session replies mark

-- for every frame
abbrev pub FramePrinted : Type 0
FramePrinted = (line : Bytes) (c : Console) (g : Given) → given line ≡ Some g → AnswersPrinted line c g

-- and it tells its session, the bytes of each reply, and its mark
abbrev pub LineTells : Type 0
LineTells =
    (i j : ℕ) (rs qs : List Reply) (m n : Mark) → printed i rs m ≡ printed j qs n → (i ≡ j) × (map encode rs ≡ map encode qs) × (m ≡ n)
