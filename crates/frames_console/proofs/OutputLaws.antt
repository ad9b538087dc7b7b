-- The output: what was written out, and behind it the bytes of the page in use. Assumes nothing.
use Prim.Native.Nat.{ℕ, ◌-◌}
use mathlib.Core.Path.{◌≡◌, refl, sym, ap, ◌∙◌}
use mathlib.Core.Bool.{Bool, true, false, cond}
use mathlib.Core.List.{List, [], ◌∷◌, ◌++◌, append_assoc, append-nil}
use lib.Dec.{leb}
use lib.ListN.{take}
use Rattle.base_key.specs.Bytes.{Bytes}
use Rattle.call_spec.specs.Frames.{Console, open_console, frame, frames}
use Rattle.frames_console.specs.Page.{Added}
use Rattle.frames_console.specs.Answers.{room_made, Output, LineAnswered, console_after, lines_text, AllAnswered}

-- nothing is written out
pub output_page : (filled : ℕ) (page : Bytes) → Output (take filled page) filled page
output_page filled page = record { written = []; is = refl }

-- a text is put behind the bytes in use
pub output_more : {t text page page' : Bytes} {filled filled' : ℕ} → Output t filled page → Added text filled page filled' page' → Output (t ++ text) filled' page'
output_more {text = text} {page} {filled = filled} o a = record {
  written = o.written;
  is = ap (λ (u : Bytes). u ++ text) o.is ∙ append_assoc o.written (take filled page) text ∙ ap (λ (u : Bytes). o.written ++ u) (sym a.front);
}

-- the bytes in use are output that stands on another page
pub output_on : {t page page' : Bytes} {filled filled' : ℕ} → Output t filled page → Output (take filled page) filled' page' → Output t filled' page'
output_on {page' = page'} {filled' = filled'} o p = record {
  written = o.written ++ p.written;
  is = o.is ∙ ap (λ (u : Bytes). o.written ++ u) p.is ∙ sym (append_assoc o.written p.written (take filled' page'));
}

-- room is made
pub output_room : (page : Bytes) (size filled need : ℕ) {r : ℕ} → r ≡ room_made size filled need → Output (take filled page) r page
unfolding room_made
output_room page size filled need {r} e = go (leb need (size - filled)) e
  where
    go : (b : Bool) → r ≡ cond b filled 0 → Output (take filled page) r page
    go true e = record { written = []; is = ap (λ (k : ℕ). take k page) (sym e) }
    go false e = record { written = take filled page; is = sym (append-nil (take filled page)) ∙ ap (λ (k : ℕ). take filled page ++ take k page) (sym e) }

-- THE ANSWERS, with one line more
text_more : (ls : List Bytes) (l : Bytes) (c : Console) → lines_text (frames (ls ++ l ∷ []) c) ≡ lines_text (frames ls c) ++ ((frame l (console_after ls c)).out ++ 10 ∷ [])
unfolding lines_text frames console_after
text_more [] l c = append-nil ((frame l c).out ++ 10 ∷ [])
text_more (k ∷ ls) l c =
    ap (λ (u : Bytes). ((frame k c).out ++ 10 ∷ []) ++ u) (text_more ls l (frame k c).console)
    ∙ sym (append_assoc ((frame k c).out ++ 10 ∷ []) (lines_text (frames ls (frame k c).console)) ((frame l (console_after ls (frame k c).console)).out ++ 10 ∷ []))

after_more : (ls : List Bytes) (l : Bytes) (c : Console) → console_after (ls ++ l ∷ []) c ≡ (frame l (console_after ls c)).console
unfolding console_after
after_more [] l c = refl
after_more (k ∷ ls) l c = after_more ls l (frame k c).console

-- no line was read
pub answers_none : {c : Console} {page : Bytes} {filled : ℕ} → c ≡ open_console → Output (take 0 page) filled page → AllAnswered c filled page
unfolding lines_text frames console_after
answers_none e o = record { lines = []; output = o; console = e }

-- the bytes in use are output that stands on another page
pub answers_on : {c : Console} {page page' : Bytes} {filled filled' : ℕ} → AllAnswered c filled page → Output (take filled page) filled' page' → AllAnswered c filled' page'
answers_on a o = record { lines = a.lines; output = output_on a.output o; console = a.console }

-- one line more
pub answers_more : {line page page' : Bytes} {c c' : Console} {filled filled' : ℕ} → AllAnswered c filled page → LineAnswered line c filled page c' filled' page' → AllAnswered c' filled' page'
answers_more {line} {page} {page'} {c} {filled = filled} {filled'} a x = record {
  lines = a.lines ++ line ∷ [];
  output = record {
    written = a.output.written ++ x.output.written;
    is =
        text_more a.lines line open_console
        ∙ ap (λ (u : Bytes). u ++ ((frame line (console_after a.lines open_console)).out ++ 10 ∷ [])) a.output.is
        ∙ ap (λ (d : Console). (a.output.written ++ take filled page) ++ ((frame line d).out ++ 10 ∷ [])) (sym a.console)
        ∙ append_assoc a.output.written (take filled page) ((frame line c).out ++ 10 ∷ [])
        ∙ ap (λ (u : Bytes). a.output.written ++ u) x.output.is
        ∙ sym (append_assoc a.output.written x.output.written (take filled' page'));
  };
  console = x.console ∙ ap (λ (d : Console). (frame line d).console) a.console ∙ sym (after_more a.lines line open_console);
}
