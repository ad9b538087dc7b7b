-- The requests of a frame on lent state: what the frame's calls leave, one after another.
use Rattle.std.specs.Prelude.{ℕ, zero, suc, Bool, true, false, cond, List, [], ◌∷◌, ◌++◌, ◌≡◌, leb, length}
use Rattle.std.specs.Prelude.{Option}
use Rattle.base_key.specs.Bytes.{Bytes}
use Rattle.call_spec.specs.Serve.{State}
use Rattle.call_spec.specs.Calls.{Lent, valid, store_of, session_of}
use Rattle.call_spec.specs.Frames.{Frame, requests, hex, Given, Console, answer_given}
use Rattle.frames_lines.specs.declared.pieces.Mark.{Mark}
use Rattle.frames_lines.specs.declared.pieces.Mark.TheVariants.{Dropped}
use Rattle.frames_lines.specs.Pieces.{mark_text, some?}

-- f i, f (i + 1), ..: n of them
unfoldable pub listed : {A : Type 0} → (ℕ → A) → ℕ → ℕ → List A
listed f zero i = []
listed f (suc n) i = f i ∷ listed f n (suc i)

-- the state that is lent
unfoldable pub state_in : Lent → State
state_in l = record { store = store_of l; sessions = listed (λ (i : ℕ). session_of i l) 16 0 }

-- replies in front of those of a frame
abbrev pub behind : Bytes → Frame → Frame
behind r f = record { replies = r ++ f.replies; mark = f.mark; rest = f.rest; state = f.state }

-- the requests that are left of a frame
unfoldable pub requests_left : ℕ → Bytes → Lent → Frame
requests_left i s l = requests (length s) i s (state_in l)

-- whether a reply byte was written, with more replies
unfoldable pub or_some : Bool → Bytes → Bool
or_some true replies = true
or_some false replies = some? replies

-- SOME REQUESTS of a frame: `s` and `l` are the bytes and the state in front of them, `s'` and `l'` those that are left; `b` says whether a reply
-- byte was written, and `t` is the output
pub record Serving (i : ℕ) (s : Bytes) (l : Lent) (b : Bool) (t : Bytes) (s' : Bytes) (l' : Lent) (b' : Bool) (t' : Bytes) : Type 0 where
  pub replies : Bytes
  pub fit : valid l' ≡ true
  pub told : b' ≡ or_some b replies
  pub text : t' ≡ t ++ hex replies
  pub is : requests_left i s l ≡ behind replies (requests_left i s' l')

-- ALL REQUESTS that are left: their mark, the rest, and the state behind them
pub record FrameServed (i : ℕ) (s : Bytes) (l : Lent) (b : Bool) (t : Bytes) (mark : Mark) (rest : Bytes) (l' : Lent) (b' : Bool) (t' : Bytes) : Type 0 where
  pub replies : Bytes
  pub fit : valid l' ≡ true
  pub told : b' ≡ or_some b replies
  pub text : t' ≡ t ++ hex replies
  pub is : requests_left i s l ≡ record { replies = replies; mark = mark_text mark; rest = rest; state = state_in l' }

-- the mark of a frame whose rest was kept or dropped
unfoldable pub mark_after : Mark → Bytes → Mark
mark_after mark rest = cond (leb (length rest) 4096) mark Dropped

-- THE ANSWER to a line: behind the output `t` stands the line that the definition says, and the console after it is the definition's
pub record Answered (g : Option Given) (c : Console) (t : Bytes) (c' : Console) (t' : Bytes) : Type 0 where
  pub out : t' ≡ t ++ ((answer_given g c).out ++ 10 ∷ [])
  pub console : (answer_given g c).console ≡ c'
