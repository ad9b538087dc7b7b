-- The requests of a frame, peeled off one by one: a loop whose body is one request call. Assumes nothing.
use Prim.Native.Nat.{ℕ, zero, suc, ◌+◌, ◌-◌, ◌≤◌, ◌<◌}
use native.Mathlib.Decide.{ℕ_discrete}
use native.Mathlib.Omega.{arith}
use mathlib.Core.Path.{◌≡◌, refl, sym, ap, ◌∙◌}
use mathlib.Core.Bool.{Bool, true, false, cond}
use mathlib.Core.List.{List, [], ◌∷◌, ◌++◌, append_assoc, append-nil}
use lib.Dec.{ltb}
use lib.ListN.{length, take, drop, get_or, replicate, length-drop, length-append, replicate-append-replicate}
use lib.Seq.{ext_get_or, set-get_or, take_at, drop_at}
use borrow.Author.Tests.{ltb-true, eq-eqb, ne_eqb, lt-ltb, le-ltb}
use Rattle.base_key.specs.Bytes.{Bytes, bytes}
use Rattle.base_number.specs.Decimal.{digits, digits_within}
use Rattle.resp_spec.specs.Opens.{resp_spec_opens}
use Rattle.resp_spec.specs.Request.{read_request, waits}
use Rattle.command_spec.specs.Numbers.{AnswerNumbers}
use Rattle.command_spec.specs.Session.{Session, clear}
use Rattle.command_spec.specs.Finish.{reply_buffer}
use Rattle.call_spec.specs.Serve.{State, Outcome, Stepped, request_on, serve, serve_reading, refused}
use Rattle.call_spec.specs.Calls.{Lent, Called, valid, store_of, session_of, request_call, answer_of, RequestPromise}
use Rattle.call_spec.specs.Frames.{Frame, stops, requests, closes, hex}
use Rattle.call_spec.proofs.StateLaws.{Represents, request_same}
use Rattle.call_spec.proofs.LentLaws.{request_refused, request_served, request_leaves}
use Rattle.call_spec.proofs.Refusals.{refusals}
use Rattle.frames_lines.specs.declared.pieces.Mark.{Mark}
use Rattle.frames_lines.specs.declared.pieces.Mark.TheVariants.{NoMark, Number}
use Rattle.frames_lines.specs.Pieces.{number_text, mark_text}
use Rattle.frames_lines.specs.Served.{listed, state_in, behind, requests_left, or_some, Serving, FrameServed}
use Rattle.frames_lines.proofs.AnswerLaws.{hex_append}
use Rattle.frames_lines.proofs.UsedLaws.{serve_silent}

-- A LIST BY ITS PLACES
pub listed_length : {A : Type 0} (f : ℕ → A) (n i : ℕ) → length (listed f n i) ≡ n
unfolding listed
listed_length f zero i = refl
listed_length f (suc n) i = ap suc (listed_length f n (suc i))

pub listed_at : {A : Type 0} (f : ℕ → A) (n i j : ℕ) (d : A) → j < n → get_or (listed f n i) j d ≡ f (i + j)
unfolding listed
listed_at f zero i j d h = absurd (omega arith)
listed_at f (suc n) i zero d h = let e : i ≡ i + 0 = omega arith in ap f e
listed_at f (suc n) i (suc j) d h = let e : suc i + j ≡ i + suc j = omega arith in listed_at f n (suc i) j d (omega arith) ∙ ap f e

-- THE STATE THAT IS LENT
session_at_lem : (l : Lent) (i : ℕ) → i < 16 → get_or (listed (λ (i : ℕ). session_of i l) 16 0) i clear ≡ session_of i l
session_at_lem l i h =
    let e : 0 + i ≡ i = omega arith in
    listed_at (λ (i : ℕ). session_of i l) 16 0 i clear h ∙ ap (λ (k : ℕ). session_of k l) e

pub lent_state : (l : Lent) → Represents l (state_in l)
unfolding state_in
lent_state l = record {
  store = refl;
  sixteen = listed_length (λ (i : ℕ). session_of i l) 16 0;
  sessions = λ i h. sym (session_at_lem l i h);
}

pub state_is : (l : Lent) (st : State) → Represents l st → state_in l ≡ st
unfolding state_in
state_is l st r = λ z. record { store = r.store z; sessions = same z }
  where
    all : List Session
    all = listed (λ (i : ℕ). session_of i l) 16 0

    many : length all ≡ 16
    many = listed_length (λ (i : ℕ). session_of i l) 16 0

    same : listed (λ (i : ℕ). session_of i l) 16 0 ≡ st.sessions
    same = ext_get_or clear (listed (λ (i : ℕ). session_of i l) 16 0) st.sessions (many ∙ sym r.sixteen) (λ i h. session_at_lem l i (omega (arith, many)) ∙ r.sessions i (omega (arith, many)))

-- a request call on lent state is the request on the state that is lent
module _ (i : ℕ) (s : Bytes) (l : Lent) (ok : valid l ≡ true) where
  pub call_outcome : (request_call i s 1024 32768 l).outcome ≡ (request_on i s 1024 32768 (state_in l)).outcome
  call_outcome = (request_same i s 1024 32768 l (state_in l) ok (lent_state l)).outcome

  pub call_state : state_in (request_call i s 1024 32768 l).lent ≡ (request_on i s 1024 32768 (state_in l)).state
  call_state = state_is (request_call i s 1024 32768 l).lent (request_on i s 1024 32768 (state_in l)).state (request_same i s 1024 32768 l (state_in l) ok (lent_state l)).state

  pub call_fit : valid (request_call i s 1024 32768 l).lent ≡ true
  call_fit = go (ltb i 16) refl
    where
      go : (b : Bool) → ltb i 16 ≡ b → valid (request_call i s 1024 32768 l).lent ≡ true
      go false e = ap (λ (c : Called). valid c.lent) (request_refused i s 1024 32768 l e) ∙ ok
      go true e =
          let h : i < 16 = ltb-true i 16 e in
          ap (λ (c : Called). valid c.lent) (request_served i s 1024 32768 l h ok) ∙ (request_leaves i s 1024 32768 l h ok).fit

-- PEELING. The first request returns a number, waits, or is used.
abbrev pub first : ℕ → Bytes → State → Stepped
first i s st = request_on i s 1024 32768 st

module _ (fuel i : ℕ) (s : Bytes) (st : State) where
  pub peel_number : ((first i s st).outcome.number ≡ 0 → ⊥) → requests (suc fuel) i s st ≡ stops (bytes "!" ++ digits (first i s st).outcome.number) [] (first i s st).state
  unfolding requests
  peel_number n = rw (ne_eqb (first i s st).outcome.number 0 n, requests)

  pub peel_waits : (first i s st).outcome.number ≡ 0 → (first i s st).outcome.used ≡ 0 → requests (suc fuel) i s st ≡ stops [] s (first i s st).state
  unfolding requests
  peel_waits n u = rw (eq-eqb (first i s st).outcome.number 0 n, eq-eqb (first i s st).outcome.used 0 u, requests)

  pub peel_used : (first i s st).outcome.number ≡ 0 → ((first i s st).outcome.used ≡ 0 → ⊥)
      → requests (suc fuel) i s st ≡ behind (first i s st).outcome.reply (requests fuel i (cond (closes s (read_request 1024 s)) [] (drop (first i s st).outcome.used s)) (first i s st).state)
  unfolding requests
  peel_used n u = rw (eq-eqb (first i s st).outcome.number 0 n, ne_eqb (first i s st).outcome.used 0 u, requests)

-- NO BYTES: a call would wait and change nothing, so none is made
read_nothing : read_request 1024 [] ≡ waits
unfolding resp_spec_opens
read_nothing = refl

nothing_first : (i : ℕ) (st : State) → i < 16 → first i [] st ≡ record { outcome = refused 0; state = st }
unfolding request_on serve serve_reading
nothing_first i st h =
    rw (lt-ltb i 16 h, request_on, read_nothing) (λ z. record { outcome = refused 0; state = record { store = st.store; sessions = set-get_or st.sessions i clear z } })

pub nothing_left : (fuel i : ℕ) (st : State) → i < 16 → requests fuel i [] st ≡ stops [] [] st
unfolding requests
nothing_left zero i st h = refl
nothing_left (suc fuel) i st h =
    let e = nothing_first i st h in
    peel_waits fuel i [] st (ap (λ (x : Stepped). x.outcome.number) e) (ap (λ (x : Stepped). x.outcome.used) e) ∙ ap (λ (x : Stepped). stops [] [] x.state) e

-- MORE FUEL than bytes changes nothing
fuel_none : (m i : ℕ) (s : Bytes) (st : State) → i < 16 → length s ≤ 0 → requests 0 i s st ≡ requests m i s st
fuel_none m i [] st h a = nothing_left 0 i st h ∙ sym (nothing_left m i st h)
fuel_none m i (x ∷ s) st h a = absurd (omega arith)

fuel_step : (n m i : ℕ) (s : Bytes) (st : State) → i < 16 → length s ≤ suc n → length s ≤ suc m
    → ((t : Bytes) (st' : State) → length t ≤ n → length t ≤ m → requests n i t st' ≡ requests m i t st')
    → requests (suc n) i s st ≡ requests (suc m) i s st
fuel_step n m i [] st h a b again = nothing_left (suc n) i st h ∙ sym (nothing_left (suc m) i st h)
fuel_step n m i (x ∷ s) st h a b again = go (ℕ_discrete (first i (x ∷ s) st).outcome.number 0) (ℕ_discrete (first i (x ∷ s) st).outcome.used 0)
  where
    shorter : ((first i (x ∷ s) st).outcome.used ≡ 0 → ⊥) → (c : Bool) → length (cond c [] (drop (first i (x ∷ s) st).outcome.used (x ∷ s))) ≤ length s
    shorter u true = omega arith
    shorter u false = omega (arith, length-drop (first i (x ∷ s) st).outcome.used (x ∷ s), u)

    go : Dec ((first i (x ∷ s) st).outcome.number ≡ 0) → Dec ((first i (x ∷ s) st).outcome.used ≡ 0) → requests (suc n) i (x ∷ s) st ≡ requests (suc m) i (x ∷ s) st
    go (no u) k = peel_number n i (x ∷ s) st u ∙ sym (peel_number m i (x ∷ s) st u)
    go (yes e) (yes w) = peel_waits n i (x ∷ s) st e w ∙ sym (peel_waits m i (x ∷ s) st e w)
    go (yes e) (no u) =
        let k = shorter u (closes (x ∷ s) (read_request 1024 (x ∷ s))) in
        peel_used n i (x ∷ s) st e u
        ∙ ap (behind (first i (x ∷ s) st).outcome.reply) (again (cond (closes (x ∷ s) (read_request 1024 (x ∷ s))) [] (drop (first i (x ∷ s) st).outcome.used (x ∷ s))) (first i (x ∷ s) st).state (omega (arith, k)) (omega (arith, k)))
        ∙ sym (peel_used m i (x ∷ s) st e u)

fuel_same : (n m i : ℕ) (s : Bytes) (st : State) → i < 16 → length s ≤ n → length s ≤ m → requests n i s st ≡ requests m i s st
fuel_same zero m i s st h a b = fuel_none m i s st h a
fuel_same (suc n) zero i s st h a b = sym (fuel_none (suc n) i s st h b)
fuel_same (suc n) (suc m) i s st h a b = fuel_step n m i s st h a b (λ t st' k l. fuel_same n m i t st' h k l)

-- WHETHER A REPLY BYTE WAS WRITTEN
or_none : (b : Bool) → b ≡ or_some b []
unfolding or_some
or_none true = refl
or_none false = refl

pub or_append : (b : Bool) (r t : Bytes) → or_some (or_some b r) t ≡ or_some b (r ++ t)
unfolding or_some
or_append true r t = refl
or_append false [] t = refl
or_append false (x ∷ r) t = refl

some_more : (b : Bool) (r : Bytes) → 0 < length r → true ≡ or_some b r
unfolding or_some
some_more true r h = refl
some_more false [] h = absurd (omega arith)
some_more false (x ∷ r) h = refl

none_more : (b : Bool) (r : Bytes) → length r ≡ 0 → b ≡ or_some b r
none_more b [] h = or_none b
none_more b (x ∷ r) h = absurd (omega arith)

-- THE LOOP. Before the first request
pub serving_start : (i : ℕ) (s : Bytes) (l : Lent) (b : Bool) (t : Bytes) → valid l ≡ true → Serving i s l b t s l b t
unfolding hex
serving_start i s l b t ok = record { replies = []; fit = ok; told = or_none b; text = sym (append-nil t); is = refl }

-- some requests, and some more
module _ {i : ℕ} {s s₁ : Bytes} {l l₁ : Lent} {b b₁ : Bool} {t t₁ : Bytes} (x : Serving i s l b t s₁ l₁ b₁ t₁) where
  more_told : {b₂ : Bool} (r : Bytes) → b₂ ≡ or_some b₁ r → b₂ ≡ or_some b (x.replies ++ r)
  more_told r e = e ∙ ap (λ (c : Bool). or_some c r) x.told ∙ or_append b x.replies r

  more_text : {t₂ : Bytes} (r : Bytes) → t₂ ≡ t₁ ++ hex r → t₂ ≡ t ++ hex (x.replies ++ r)
  more_text r e = e ∙ ap (λ (u : Bytes). u ++ hex r) x.text ∙ append_assoc t (hex x.replies) (hex r) ∙ ap (λ (u : Bytes). t ++ u) (sym (hex_append x.replies r))

  pub serving_more : {s₂ : Bytes} {l₂ : Lent} {b₂ : Bool} {t₂ : Bytes} → Serving i s₁ l₁ b₁ t₁ s₂ l₂ b₂ t₂ → Serving i s l b t s₂ l₂ b₂ t₂
  serving_more {s₂} {l₂} y = record {
    replies = x.replies ++ y.replies;
    fit = y.fit;
    told = more_told y.replies y.told;
    text = more_text y.replies y.text;
    is =
        x.is ∙ ap (behind x.replies) y.is
        ∙ ap (λ (u : Bytes). record { replies = u; mark = later.mark; rest = later.rest; state = later.state }) (sym (append_assoc x.replies y.replies later.replies));
  }
    where
      later : Frame
      later = requests_left i s₂ l₂

  pub serving_last : {mark : Mark} {rest : Bytes} {l₂ : Lent} {b₂ : Bool} {t₂ : Bytes} → FrameServed i s₁ l₁ b₁ t₁ mark rest l₂ b₂ t₂ → FrameServed i s l b t mark rest l₂ b₂ t₂
  serving_last y = record {
    replies = x.replies ++ y.replies;
    fit = y.fit;
    told = more_told y.replies y.told;
    text = more_text y.replies y.text;
    is = x.is ∙ ap (behind x.replies) y.is;
  }

-- no bytes are left
pub serving_end : {i : ℕ} (l : Lent) (b : Bool) (t : Bytes) → valid l ≡ true → i < 16 → FrameServed i [] l b t NoMark [] l b t
unfolding mark_text requests_left hex
serving_end {i} l b t ok h = record { replies = []; fit = ok; told = or_none b; text = sym (append-nil t); is = nothing_left 0 i (state_in l) h }

-- a reply is no longer than its buffer
pub reply_short : {i places : ℕ} {s buffer buffer' : Bytes} {l l' : Lent} {r : AnswerNumbers} → RequestPromise i s places buffer l r buffer' l' → length buffer' ≡ length buffer → r.reply ≤ length buffer
unfolding reply_buffer
reply_short {i} {places} {s} {buffer} {buffer'} {l} p same =
    let reply = (request_call i s places (length buffer) l).outcome.reply in
    let whole = ap length p.reply ∙ length-append reply (replicate (length buffer - length reply) 0) in
    omega (arith, whole, ap (λ (a : AnswerNumbers). a.reply) p.answer)

-- one request call on the bytes that are left
module _ {i : ℕ} {s : Bytes} {l l' : Lent} {buffer buffer' : Bytes} {r : AnswerNumbers} (below : i < 16) (fit : valid l ≡ true) (some_bytes : 0 < length s) (room : length buffer ≡ 32768) (p : RequestPromise i s 1024 buffer l r buffer' l') where
  at_room : request_call i s 1024 (length buffer) l ≡ request_call i s 1024 32768 l
  at_room = ap (λ (k : ℕ). request_call i s 1024 k l) room

  answer_is : r ≡ answer_of (first i s (state_in l)).outcome
  answer_is = p.answer ∙ ap (λ (c : Called). answer_of c.outcome) at_room ∙ ap answer_of (call_outcome i s l fit)

  state_left : state_in l' ≡ (first i s (state_in l)).state
  state_left = ap state_in (p.lent ∙ ap (λ (c : Called). c.lent) at_room) ∙ call_state i s l fit

  pub left_fit : valid l' ≡ true
  left_fit = ap valid (p.lent ∙ ap (λ (c : Called). c.lent) at_room) ∙ call_fit i s l fit

  number_is : r.number ≡ (first i s (state_in l)).outcome.number
  number_is = ap (λ (a : AnswerNumbers). a.number) answer_is

  used_is : r.used ≡ (first i s (state_in l)).outcome.used
  used_is = ap (λ (a : AnswerNumbers). a.used) answer_is

  reply_is : r.reply ≡ length (first i s (state_in l)).outcome.reply
  reply_is = ap (λ (a : AnswerNumbers). a.reply) answer_is

  -- the bytes of the reply are the first of the buffer
  reply_bytes : take r.reply buffer' ≡ (first i s (state_in l)).outcome.reply
  unfolding reply_buffer
  reply_bytes =
      let o = (request_call i s 1024 (length buffer) l).outcome in
      ap (take r.reply) p.reply
      ∙ take_at o.reply (replicate (length buffer - length o.reply) 0) r.reply (sym (ap (λ (a : AnswerNumbers). a.reply) p.answer))
      ∙ ap (λ (c : Called). c.outcome.reply) at_room
      ∙ ap (λ (c : Outcome). c.reply) (call_outcome i s l fit)

  -- THE REPLY BUFFER is zero behind the reply
  zero_behind : drop r.reply buffer' ≡ replicate (length buffer - r.reply) 0
  unfolding reply_buffer
  zero_behind =
      let o = (request_call i s 1024 (length buffer) l).outcome in
      let size : length o.reply ≡ r.reply = sym (ap (λ (a : AnswerNumbers). a.reply) p.answer) in
      ap (drop r.reply) p.reply
      ∙ drop_at o.reply (replicate (length buffer - length o.reply) 0) r.reply size
      ∙ ap (λ (k : ℕ). replicate (length buffer - k) 0) size

  -- and all zero again with zeros in its place
  pub cleared_again : {buffer'' : Bytes} → length buffer' ≡ length buffer → buffer'' ≡ replicate r.reply 0 ++ drop r.reply buffer' → buffer'' ≡ replicate (length buffer) 0
  cleared_again same e =
      let sum : r.reply + (length buffer - r.reply) ≡ length buffer = omega (arith, reply_short p same) in
      e ∙ ap (λ (x : Bytes). replicate r.reply 0 ++ x) zero_behind ∙ replicate-append-replicate r.reply (length buffer - r.reply) 0 ∙ ap (λ (k : ℕ). replicate k 0) sum

  no_reply_lem : (request_call i s 1024 (length buffer) l).outcome.reply ≡ [] → buffer' ≡ replicate (length buffer) 0
  unfolding reply_buffer
  no_reply_lem e = let all : length buffer - 0 ≡ length buffer = omega arith in p.reply ∙ ap (reply_buffer (length buffer)) e ∙ ap (λ (k : ℕ). replicate k 0) all

  -- a number and a wait have no reply
  pub cleared_number : (r.number ≡ 0 → ⊥) → buffer' ≡ replicate (length buffer) 0
  cleared_number n = no_reply_lem (refusals.requests i s 1024 (length buffer) l (λ e. n (ap (λ (a : AnswerNumbers). a.number) p.answer ∙ e))).refusal.reply

  pub cleared_waits : r.used ≡ 0 → buffer' ≡ replicate (length buffer) 0
  cleared_waits u =
      let c = request_served i s 1024 (length buffer) l below fit in
      let d = serve 1024 (length buffer) s (store_of l) (session_of i l) in
      let none : d.used ≡ 0 = ap (λ (x : Called). x.outcome.used) (sym c) ∙ sym (ap (λ (a : AnswerNumbers). a.used) p.answer) ∙ u in
      no_reply_lem (ap (λ (x : Called). x.outcome.reply) c ∙ serve_silent 1024 (length buffer) s (store_of l) (session_of i l) some_bytes none)

  one_more : length s ≡ suc (length s - 1)
  one_more = omega arith

  stopped : (b : Bool) (t : Bytes) (mark : Mark) (rest : Bytes) → requests (suc (length s - 1)) i s (state_in l) ≡ stops (mark_text mark) rest (first i s (state_in l)).state → FrameServed i s l b t mark rest l' b t
  unfolding requests_left hex
  stopped b t mark rest e = record {
    replies = [];
    fit = left_fit;
    told = or_none b;
    text = sym (append-nil t);
    is =
        ap (λ (k : ℕ). requests k i s (state_in l)) one_more ∙ e
        ∙ (λ z. record { replies = []; mark = mark_text mark; rest = rest; state = sym state_left z });
  }

  -- the call returned a number
  pub serving_number : (b : Bool) (t : Bytes) → (r.number ≡ 0 → ⊥) → FrameServed i s l b t (Number r.number) [] l' b t
  unfolding mark_text number_text
  serving_number b t n =
      stopped b t (Number r.number) []
      (peel_number (length s - 1) i s (state_in l) (λ e. n (number_is ∙ e))
      ∙ ap (λ (k : ℕ). stops (bytes "!" ++ digits k) [] (first i s (state_in l)).state) (sym number_is))

  -- the call waits for more bytes
  pub serving_waits : (b : Bool) (t : Bytes) → r.number ≡ 0 → r.used ≡ 0 → FrameServed i s l b t NoMark s l' b t
  unfolding mark_text
  serving_waits b t n u = stopped b t NoMark s (peel_waits (length s - 1) i s (state_in l) (sym number_is ∙ n) (sym used_is ∙ u))

  -- the call used bytes
  module _ (n : r.number ≡ 0) (u : r.used ≡ 0 → ⊥) {s' : Bytes} (left : s' ≡ cond (closes s (read_request 1024 s)) [] (drop r.used s)) where
    shorter : (c : Bool) → length (cond c [] (drop r.used s)) ≤ length s - 1
    shorter true = omega arith
    shorter false = omega (arith, length-drop r.used s, u)

    rest_is : cond (closes s (read_request 1024 s)) [] (drop (first i s (state_in l)).outcome.used s) ≡ s'
    rest_is = ap (λ (k : ℕ). cond (closes s (read_request 1024 s)) [] (drop k s)) (sym used_is) ∙ sym left

    pub serving_used : (b : Bool) (t : Bytes) {b' : Bool} {t' : Bytes} → b' ≡ or_some b (take r.reply buffer') → t' ≡ t ++ hex (take r.reply buffer') → Serving i s l b t s' l' b' t'
    unfolding requests_left
    serving_used b t e f = record {
      replies = take r.reply buffer';
      fit = left_fit;
      told = e;
      text = f;
      is =
          ap (λ (k : ℕ). requests k i s (state_in l)) one_more
          ∙ peel_used (length s - 1) i s (state_in l) (sym number_is ∙ n) (λ z. u (used_is ∙ z))
          ∙ (λ z. behind (sym reply_bytes z) (requests (length s - 1) i (rest_is z) (sym state_left z)))
          ∙ ap (behind (take r.reply buffer')) (fuel_same (length s - 1) (length s') i s' (state_in l') below (rw left (shorter (closes s (read_request 1024 s)))) (omega arith));
    }

    reply_length : length (take r.reply buffer') ≡ r.reply
    reply_length = ap length reply_bytes ∙ sym reply_is

    pub told_some : (b : Bool) → 0 < r.reply → true ≡ or_some b (take r.reply buffer')
    told_some b h = some_more b (take r.reply buffer') (omega (arith, reply_length))

    pub told_none : (b : Bool) → r.reply ≡ 0 → b ≡ or_some b (take r.reply buffer')
    told_none b h = none_more b (take r.reply buffer') (reply_length ∙ h)

-- A SESSION ABOVE 15 gets 1, and holds nothing
pub no_session : (fuel i : ℕ) (s : Bytes) (st : State) → 16 ≤ i → requests (suc fuel) i s st ≡ stops (bytes "!1") [] st
unfolding request_on digits digits_within
no_session fuel i s st h =
    let e : first i s st ≡ record { outcome = refused 1; state = st } = rw (le-ltb i 16 h, request_on) in
    peel_number fuel i s st (λ z. absurd (omega (arith, sym (ap (λ (x : Stepped). x.outcome.number) e) ∙ z)))
    ∙ ap (λ (x : Stepped). stops (bytes "!" ++ digits x.outcome.number) [] x.state) e
