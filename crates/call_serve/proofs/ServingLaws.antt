-- A request on valid memory: the arguments read, what one session leaves, that session among the sixteen, and the promise of the request call. Assumes nothing.
use Prim.Native.Nat.{ℕ, zero, suc, ◌+◌, ◌-◌, ◌*◌, ◌/◌, ◌≤◌, ◌<◌}
use native.Mathlib.Nat.{suc-mul}
use native.Mathlib.Omega.{arith}
use mathlib.Core.Logic.{⊎_elim}
use mathlib.Core.Path.{◌≡◌, refl, sym, ap, ◌∙◌, subst}
use mathlib.Core.Bool.{Bool, true, false, cond}
use mathlib.Core.List.{List, [], ◌∷◌, ◌++◌, map}
use lib.Dec.{ltb, eqb}
use lib.ListN.{length, take, drop, get_or, replicate, length-take, take-append-drop}
use lib.Seq.{get_or-take, drop-drop}
use borrow.Author.Tests.{lt-ltb}
use Rattle.base_key.specs.Bytes.{Bytes, bytes, part}
use Rattle.base_key.proofs.Bytes.{and_left, and_right, and_both}
use Rattle.base_writing.specs.Puts.{Puts}
use Rattle.resp_spec.specs.declared.Span.{Span}
use Rattle.resp_spec.specs.declared.Fault.{Fault}
use Rattle.resp_spec.specs.declared.Read.{Read}
use Rattle.resp_spec.specs.declared.Read.TheVariants.{Wait, Faulty, TooMany, Whole}
use Rattle.resp_spec.specs.Request.{Reading, waits, faulty, too_many, whole, read_request, read_answer, spanned, fault_text}
use Rattle.resp_spec.specs.Reply.{err, encode}
use Rattle.resp_spec.specs.Steps.{span_words, argument_words, ReadIs}
use Rattle.resp_spec.proofs.Places.{words_length}
use Rattle.resp_spec.proofs.Bounds.{SpansIn, ReadingIn, request_in}
use Rattle.store_memtable.specs.Versions.{Store}
use Rattle.store_memtable.specs.Layout.{last_word, store_in, valid_store, leave_words, leave_bytes}
use Rattle.store_memtable.proofs.Validity.{validated}
use Rattle.store_memtable.proofs.Sequence.{leave_words_same, leave_bytes_same}
use Rattle.command_spec.specs.Numbers.{AnswerNumbers}
use Rattle.command_spec.specs.Requests.{arguments_of}
use Rattle.command_spec.specs.declared.request.Request.{Request}
use Rattle.command_spec.specs.Session.{Session}
use Rattle.command_spec.specs.Sessions.{session_from, session_ok, session_at, words_of_session, bytes_of_session, valid_sessions, leave_session_words, leave_session_bytes}
use Rattle.command_spec.specs.Places.{arguments_at, PartsIn}
use Rattle.command_spec.specs.Finish.{Served, silent, reply_buffer}
use Rattle.session_memory.proofs.Kept.{words_kept, bytes_kept, session_held}
use Rattle.command_spec.proofs.LayoutLaws.{Sixteen, sixteen, own_words, own_bytes}
use Rattle.command_answer.specs.Answers.{refusal}
use Rattle.exec_finish.specs.Leaving.{Closes}
use Rattle.session_route.specs.Responds.{responded, Left, Ready}
use Rattle.session_route.proofs.Among.{lent_at, back_at, lent_words_lem, lent_bytes_lem, lent_session, words_back, bytes_back}
use Rattle.call_spec.specs.Serve.{protocol_error, serve_reading, serve}
use Rattle.call_spec.specs.Calls.{Lent, lent_of, valid, session_of, leave_store, leave_session, leave_served, Called, preview_of, answer_of, RequestPromise, TablePromise, PreviewPromise}
use Rattle.exec_decision.specs.Numbers.{PreviewNumbers}
use Rattle.exec_decision.specs.Decided.{Decided, decide_exec, preview_decided}
use Rattle.exec_decision.proofs.Executes.{exec_silent}
use Rattle.exec_run.specs.Previewing.{session_decided, Previews}
use Rattle.call_spec.proofs.PreviewLaws.{previewed_struct, previewed_reply}
use Rattle.call_serve.specs.Serving.{FaultLeft, whole_served, served_in, TableHolds, ReadyAmong}
use Rattle.call_serve.proofs.RespondLaws.{ready_held}
use Rattle.call_spec.proofs.ServeLaws.{ServeKept, serve_kept}
use Rattle.call_spec.proofs.LentLaws.{valid_parts, session_good, eqb_differs}
use Rattle.call_spec.proofs.CallLaws.{served, preview_valid}
use Rattle.std.specs.Prelude.{Option}

-- A PROTOCOL ERROR
pub fault_answered : (input : Bytes) (f : Fault) (s : List ℕ) (out : Bytes) {put : Option ℕ} {mid : Bytes} {s' : List ℕ} {r : AnswerNumbers}
    → Puts (encode (err (bytes "Protocol error: " ++ fault_text input f))) out put mid → Closes put (length input) s s' r → FaultLeft input f s out r s' mid
unfolding protocol_error
fault_answered input f s out {put} {mid} p c = record { leaves = λ w b sb v z h. c.leaves (protocol_error input f) w b out mid sb v z p h }

-- SILENT: nothing changes, and the reply buffer stays cleared
silent_left : {w : List ℕ} {b : Bytes} {s : List ℕ} {sb out : Bytes} (n used : ℕ) → Ready w b s sb out
    → Left (silent n used (store_in w b) (session_from s sb)) out w b s sb (record { number = n; used = used; reply = 0 }) out w b s sb
unfolding reply_buffer
silent_left {w} {b} {s} {sb} {out} n used h =
    let z : length out ≡ length out - 0 = omega arith in
    record {
      says = record { answer = refl; reply = h.cleared ∙ ap (λ (m : ℕ). replicate m 0) z };
      store = record { words = sym (leave_words_same w b h.valid); bytes = sym (leave_bytes_same w b h.valid) };
      session = record { words = sym (words_kept (ready_held h)); bytes = sym (bytes_kept (ready_held h)) };
    }

left_as : {d e : Served} {out : Bytes} {w : List ℕ} {b : Bytes} {s : List ℕ} {sb : Bytes} {r : AnswerNumbers} {out' : Bytes} {w' : List ℕ} {b' : Bytes} {s' : List ℕ} {sb' : Bytes}
    → d ≡ e → Left d out w b s sb r out' w' b' s' sb' → Left e out w b s sb r out' w' b' s' sb'
left_as {d} {e} {out} {w} {b} {s} {sb} {r} {out'} {w'} {b'} {s'} {sb'} p l = subst (λ (x : Served). Left x out w b s sb r out' w' b' s' sb') p l

-- A REQUEST THAT WAS READ
module _ (places : List ℕ) (input : Bytes) (w : List ℕ) (b : Bytes) (s : List ℕ) (sb out : Bytes) {count : ℕ} (used : ℕ) where
  pub whole_empty : count ≡ 0 → Ready w b s sb out → Left (whole_served (length out) count used places input w b s sb) out w b s sb (record { number = 0; used = used; reply = 0 }) out w b s sb
  unfolding whole_served
  whole_empty e h = left_as (sym (ap (λ (n : ℕ). whole_served (length out) n used places input w b s sb) e)) (silent_left 0 used h)

  whole_some : {r : AnswerNumbers} {out' : Bytes} {w' : List ℕ} {b' : Bytes} {s' : List ℕ} {sb' : Bytes} → (count ≡ 0 → ⊥)
      → Left (responded (length out) used (arguments_at 0 count places input) w b s sb) out w b s sb r out' w' b' s' sb'
      → Left (whole_served (length out) count used places input w b s sb) out w b s sb r out' w' b' s' sb'
  whole_some nz l = left_as (go count nz) l
    where
      go : (n : ℕ) → (n ≡ 0 → ⊥) → responded (length out) used (arguments_at 0 n places input) w b s sb ≡ whole_served (length out) n used places input w b s sb
      go zero h = absurd (h refl)
      go (suc n) h = unfold whole_served in refl

pub whole_named : (asked : Request) (w : List ℕ) (b : Bytes) (s : List ℕ) (sb out : Bytes) (used : ℕ) {q : Request} {r : AnswerNumbers} {out' : Bytes} {w' : List ℕ} {b' : Bytes} {s' : List ℕ} {sb' : Bytes}
    → q ≡ asked → (asked.count ≡ 0 → ⊥) → Left (responded (length out) used (arguments_of q) w b s sb) out w b s sb r out' w' b' s' sb'
    → Left (whole_served (length out) asked.count used asked.places.now asked.input.now w b s sb) out w b s sb r out' w' b' s' sb'
whole_named asked w b s sb out used {q} {r} {out'} {w'} {b'} {s'} {sb'} e nz l =
    whole_some asked.places.now asked.input.now w b s sb out used nz
    (subst (λ (x : Request). Left (responded (length out) used (arguments_of x) w b s sb) out w b s sb r out' w' b' s' sb') e l)

-- THE ARGUMENTS: the table's front gives the parts
two_more : (k j : ℕ) → 2 * suc k + j ≡ 2 * k + suc (suc j)
two_more k j = omega arith

arguments_spanned : (table : List ℕ) (input : Bytes) (k : ℕ) (ps : List Span) → ((j : ℕ) → j < 2 * length ps → get_or table (2 * k + j) 0 ≡ get_or (span_words ps) j 0)
    → arguments_at k (length ps) table input ≡ map (spanned input) ps
unfolding arguments_at span_words
arguments_spanned table input k [] q = refl
arguments_spanned table input k (p ∷ ps) q =
    let z : 2 * k ≡ 2 * k + 0 = omega arith in
    let start : get_or table (2 * k) 0 ≡ p.start = ap (λ (m : ℕ). get_or table m 0) z ∙ q 0 (omega arith) in
    let len : get_or table (2 * k + 1) 0 ≡ p.len = q 1 (omega arith) in
    let rest : arguments_at (suc k) (length ps) table input ≡ map (spanned input) ps =
    arguments_spanned table input (suc k) ps (λ j h. ap (λ (m : ℕ). get_or table m 0) (two_more k j) ∙ q (suc (suc j)) (omega arith)) in
    λ i. part (start i) (len i) input ∷ rest i

span_inside : (n : ℕ) (ps : List Span) → SpansIn n ps → (k : ℕ) → k < length ps → get_or (span_words ps) (2 * k) 0 + get_or (span_words ps) (2 * k + 1) 0 ≤ n
unfolding span_words
span_inside n [] h k l = absurd (omega arith)
span_inside n (p ∷ ps) h zero l = h.0
span_inside n (p ∷ ps) h (suc k) l =
    let a : 2 * suc k ≡ suc (suc (2 * k)) = omega arith in
    let c : 2 * suc k + 1 ≡ suc (suc (2 * k + 1)) = omega arith in
    let x : get_or (p.start ∷ p.len ∷ span_words ps) (2 * suc k) 0 ≡ get_or (span_words ps) (2 * k) 0 = ap (λ (m : ℕ). get_or (p.start ∷ p.len ∷ span_words ps) m 0) a in
    let y : get_or (p.start ∷ p.len ∷ span_words ps) (2 * suc k + 1) 0 ≡ get_or (span_words ps) (2 * k + 1) 0 = ap (λ (m : ℕ). get_or (p.start ∷ p.len ∷ span_words ps) m 0) c in
    let r = span_inside n ps h.1 k (omega arith) in
    omega (arith, x, y, r)

module _ (table : List ℕ) (ps : List Span) (front : take (length (span_words ps)) table ≡ span_words ps) where
  word_at : (j : ℕ) → j < 2 * length ps → get_or table j 0 ≡ get_or (span_words ps) j 0
  word_at j h = sym (get_or-take (length (span_words ps)) table j 0 (omega (arith, words_length ps))) ∙ ap (λ (l : List ℕ). get_or l j 0) front

  table_arguments : (input : Bytes) → arguments_at 0 (length ps) table input ≡ map (spanned input) ps
  table_arguments input = arguments_spanned table input 0 ps (λ j h. let z : 2 * 0 + j ≡ j = omega arith in ap (λ (m : ℕ). get_or table m 0) z ∙ word_at j h)

  table_parts : (input : Bytes) → SpansIn (length input) ps → PartsIn table input (length ps)
  table_parts input h = record {
    table = omega (arith, length-take (length (span_words ps)) table, ap length front, words_length ps);
    inside = λ k l. omega (arith, word_at (2 * k) (omega arith), word_at (2 * k + 1) (omega arith), span_inside (length input) ps h k l);
  }

-- ONE SESSION, by what was read
module _ (input : Bytes) (w : List ℕ) (b : Bytes) (s : List ℕ) (sb out : Bytes) (h : Ready w b s sb out) where
  abbrev Leaving : Reading → AnswerNumbers → Bytes → List ℕ → Bytes → List ℕ → Bytes → Type 0
  Leaving x r out' w' b' s' sb' = Left (serve_reading (length out) input x (store_in w b) (session_from s sb)) out w b s sb r out' w' b' s' sb'

  wait_by : (x : Reading) → Wait ≡ read_answer x → Leaving x (refusal 0) out w b s sb
  unfolding serve_reading
  wait_by waits e = silent_left 0 0 h
  wait_by (faulty f) e = let z : ◌≡◌ {A = ℕ} 0 1 = cc in absurd (omega arith)
  wait_by too_many e = let z : ◌≡◌ {A = ℕ} 0 1 = cc in absurd (omega arith)
  wait_by (whole ps used) e = let z : ◌≡◌ {A = ℕ} 0 1 = cc in absurd (omega arith)

  many_by : (x : Reading) → TooMany ≡ read_answer x → Leaving x (refusal 2) out w b s sb
  unfolding serve_reading
  many_by waits e = let z : ◌≡◌ {A = ℕ} 0 1 = cc in absurd (omega arith)
  many_by (faulty f) e = let z : ◌≡◌ {A = ℕ} 0 1 = cc in absurd (omega arith)
  many_by too_many e = silent_left 2 0 h
  many_by (whole ps used) e = let z : ◌≡◌ {A = ℕ} 0 1 = cc in absurd (omega arith)

  fault_by : (x : Reading) (f : Fault) {r : AnswerNumbers} {out' : Bytes} {s' : List ℕ} → Faulty f ≡ read_answer x → FaultLeft input f s out r s' out' → Leaving x r out' w b s' sb
  unfolding serve_reading
  fault_by waits f e l = let z : ◌≡◌ {A = ℕ} 0 1 = cc in absurd (omega arith)
  fault_by (faulty g) f {r} {out'} {s'} e l =
      let same : f ≡ g = cc in
      let l' : FaultLeft input g s out r s' out' = subst (λ (x : Fault). FaultLeft input x s out r s' out') same l in
      let m = l'.leaves w b sb h.valid h.cleared (ready_held h) in
      record { says = m.says; store = m.store; session = record { words = m.session; bytes = m.session_bytes } }
  fault_by too_many f e l = let z : ◌≡◌ {A = ℕ} 0 1 = cc in absurd (omega arith)
  fault_by (whole ps used) f e l = let z : ◌≡◌ {A = ℕ} 0 1 = cc in absurd (omega arith)

  parts_by : (x : Reading) {count used : ℕ} (table : List ℕ) → Whole count used ≡ read_answer x → ReadingIn (length input) x → take (length (argument_words x)) table ≡ argument_words x → PartsIn table input count
  unfolding argument_words
  parts_by waits table e i f = let z : ◌≡◌ {A = ℕ} 0 1 = cc in absurd (omega arith)
  parts_by (faulty g) table e i f = let z : ◌≡◌ {A = ℕ} 0 1 = cc in absurd (omega arith)
  parts_by too_many table e i f = let z : ◌≡◌ {A = ℕ} 0 1 = cc in absurd (omega arith)
  parts_by (whole ps u) {count} table e i f =
      let same : count ≡ length ps = cc in
      subst (λ (n : ℕ). PartsIn table input n) (sym same) (table_parts table ps f input i.spans_in)

  whole_is : (ps : List Span) (used : ℕ) (table : List ℕ) → take (length (span_words ps)) table ≡ span_words ps
      → whole_served (length out) (length ps) used table input w b s sb ≡ serve_reading (length out) input (whole ps used) (store_in w b) (session_from s sb)
  unfolding whole_served serve_reading responded
  whole_is [] used table f = refl
  whole_is (p ∷ ps) used table f = ap (λ (a : List Bytes). responded (length out) used a w b s sb) (table_arguments table (p ∷ ps) f input)

  whole_by : (x : Reading) {count used : ℕ} (table : List ℕ) {r : AnswerNumbers} {out' : Bytes} {w' : List ℕ} {b' : Bytes} {s' : List ℕ} {sb' : Bytes} → Whole count used ≡ read_answer x
      → take (length (argument_words x)) table ≡ argument_words x → Left (whole_served (length out) count used table input w b s sb) out w b s sb r out' w' b' s' sb' → Leaving x r out' w' b' s' sb'
  unfolding argument_words
  whole_by waits table e f l = let z : ◌≡◌ {A = ℕ} 0 1 = cc in absurd (omega arith)
  whole_by (faulty g) table e f l = let z : ◌≡◌ {A = ℕ} 0 1 = cc in absurd (omega arith)
  whole_by too_many table e f l = let z : ◌≡◌ {A = ℕ} 0 1 = cc in absurd (omega arith)
  whole_by (whole ps u) {count} {used} table e f l =
      let same_count : count ≡ length ps = cc in
      let same-used : used ≡ u = cc in
      left_as ((λ z. whole_served (length out) (same_count z) (same-used z) table input w b s sb) ∙ whole_is ps u table f) l

  module _ (places : ℕ) {r : Read} {table : List ℕ} (is : ReadIs (read_request places input) r table) where
    pub serve_wait : {a : AnswerNumbers} → r ≡ Wait → a ≡ refusal 0 → Left (served_in places (length out) input w b s sb) out w b s sb a out w b s sb
    unfolding served_in serve
    serve_wait e f = rw f (wait_by (read_request places input) (sym e ∙ is.answer))

    pub serve_many : {a : AnswerNumbers} → r ≡ TooMany → a ≡ refusal 2 → Left (served_in places (length out) input w b s sb) out w b s sb a out w b s sb
    unfolding served_in serve
    serve_many e f = rw f (many_by (read_request places input) (sym e ∙ is.answer))

    pub serve_fault : {f : Fault} {a : AnswerNumbers} {out' : Bytes} {s' : List ℕ} → r ≡ Faulty f → FaultLeft input f s out a s' out' → Left (served_in places (length out) input w b s sb) out w b s sb a out' w b s' sb
    unfolding served_in serve
    serve_fault {f} e l = fault_by (read_request places input) f (sym e ∙ is.answer) l

    pub serve_parts : {count used : ℕ} → r ≡ Whole count used → PartsIn table input count
    serve_parts e = parts_by (read_request places input) table (sym e ∙ is.answer) (request_in places input) is.front

    pub serve_whole : {count used : ℕ} {a : AnswerNumbers} {out' : Bytes} {w' : List ℕ} {b' : Bytes} {s' : List ℕ} {sb' : Bytes} → r ≡ Whole count used
        → Left (whole_served (length out) count used table input w b s sb) out w b s sb a out' w' b' s' sb' → Left (served_in places (length out) input w b s sb) out w b s sb a out' w' b' s' sb'
    unfolding served_in serve
    serve_whole e l = whole_by (read_request places input) table (sym e ∙ is.answer) is.front l

-- a session written back over itself
rejoined : (a n : ℕ) (l : List ℕ) → take a l ++ (take n (drop a l) ++ drop (a + n) l) ≡ l
rejoined a n l =
    ap (λ (x : List ℕ). take a l ++ (take n (drop a l) ++ x)) (sym (drop-drop n a l)) ∙ ap (λ (x : List ℕ). take a l ++ x) (take-append-drop n (drop a l)) ∙ take-append-drop a l

module _ (last i : ℕ) (sw : List ℕ) (sb : Bytes) (ok : valid_sessions last sw sb ≡ true) (h : i < 16) where
  words_same : leave_session_words i (session_at i sw sb) sw sb ≡ sw
  unfolding leave_session_words session_at
  words_same =
      let e : suc i * 644 ≡ i * 644 + 644 = suc-mul i 644 in
      ap (λ (x : List ℕ). take (i * 644) sw ++ (x ++ drop (suc i * 644) sw)) (words_kept (session_held last sw sb ok i h))
      ∙ ap (λ (m : ℕ). take (i * 644) sw ++ (words_of_session i sw ++ drop m sw)) e ∙ (unfold words_of_session in rejoined (i * 644) 644 sw)

  bytes_same : leave_session_bytes i (session_at i sw sb) sb ≡ sb
  unfolding leave_session_bytes session_at
  bytes_same =
      let e : suc i * 10240 ≡ i * 10240 + 10240 = suc-mul i 10240 in
      ap (λ (x : List ℕ). take (i * 10240) sb ++ (x ++ drop (suc i * 10240) sb)) (bytes_kept (session_held last sw sb ok i h))
      ∙ ap (λ (m : ℕ). take (i * 10240) sb ++ (bytes_of_session i sb ++ drop m sb)) e ∙ (unfold bytes_of_session in rejoined (i * 10240) 10240 sb)

-- WHAT IS LEFT, by the number that is returned
module _ (i : ℕ) (w : List ℕ) (b : Bytes) (sw : List ℕ) (sb : Bytes) (h : i < 16) (ok : valid (lent_of w b sw sb) ≡ true) where
  abbrev lent : Lent
  lent = lent_of w b sw sb

  store_ok : valid_store w b ≡ true
  unfolding valid
  store_ok = and_left (valid_store w b) _ ok

  sessions_ok : valid_sessions (last_word w) sw sb ≡ true
  unfolding valid store_in
  sessions_ok = and_right (valid_store w b) _ ok

  module _ (d : Served) where
    abbrev full : Lent
    full = leave_store d.store (leave_session i d.session lent)

    same_store : d.store ≡ store_in w b → full ≡ leave_session i d.session lent
    unfolding leave_store leave_session
    same_store e =
        let v = validated w b refl store_ok in
        let p : leave_words d.store w ≡ w = ap (λ (st : Store). leave_words st w) e ∙ leave_words_same w b v in
        let q : leave_bytes d.store b ≡ b = ap (λ (st : Store). leave_bytes st b) e ∙ leave_bytes_same w b v in
        λ z. record { words = p z; bytes = q z; session_words = leave_session_words i d.session sw sb; session_bytes = leave_session_bytes i d.session sb }

    same_session : d.session ≡ session_at i sw sb → leave_session i d.session lent ≡ lent
    unfolding leave_session
    same_session e =
        let p : leave_session_words i d.session sw sb ≡ sw = ap (λ (s : Session). leave_session_words i s sw sb) e ∙ words_same (last_word w) i sw sb sessions_ok h in
        let q : leave_session_bytes i d.session sb ≡ sb = ap (λ (s : Session). leave_session_bytes i s sb) e ∙ bytes_same (last_word w) i sw sb sessions_ok h in
        λ z. record { words = w; bytes = b; session_words = p z; session_bytes = q z }

    full_left : ServeKept (store_in w b) (session_at i sw sb) d → full ≡ leave_served i d lent
    unfolding leave_served
    full_left k = go (eqb d.number 0) refl (eqb d.number 4) refl
      where
        go : (x : Bool) → eqb d.number 0 ≡ x → (y : Bool) → eqb d.number 4 ≡ y → full ≡ cond x full (cond y (leave_session i d.session lent) lent)
        go true p y q = refl
        go false p true q = same_store (k.numbers (eqb_differs _ _ p)).0
        go false p false q =
            let n = k.numbers (eqb_differs _ _ p) in
            let same : d.session ≡ session_at i sw sb = ⊎_elim (λ (z : d.number ≡ 4). absurd (eqb_differs _ _ q z)) (λ (z : d.session ≡ session_at i sw sb). z) n.1 in
            same_store n.0 ∙ same_session same

  served_kept : (input : Bytes) (places room : ℕ) → ServeKept (store_in w b) (session_at i sw sb) (serve places room input (store_in w b) (session_at i sw sb))
  served_kept input places room = let v = valid_parts lent ok in serve_kept (store_in w b) (session_at i sw sb) v.sound (session_good lent v i h) places room input

-- SESSION i OF THE SIXTEEN
module _ (i : ℕ) (w : List ℕ) (b : Bytes) (sw : List ℕ) (sb out : Bytes) (h : ReadyAmong i w b sw sb out) where
  all : Sixteen (last_word w) sw sb
  all = sixteen (last_word w) sw sb (sessions_ok i w b sw sb h.below h.fit)

  pub session_words_lem : i * 644 + 644 ≤ length sw
  session_words_lem = omega (arith, all.words, h.below)

  pub session_bytes_lem : i * 10240 + 10240 ≤ length sb
  session_bytes_lem = omega (arith, all.bytes, h.below)

  pub session_lent : Ready w b (lent_at 644 i sw) (lent_at 10240 i sb) out
  session_lent = record {
    valid = validated w b refl (store_ok i w b sw sb h.below h.fit);
    one = record {
      words = ap length (lent_words_lem i sw sb) ∙ own_words (last_word w) sw sb all i h.below;
      bytes = ap length (lent_bytes_lem i sw sb) ∙ own_bytes (last_word w) sw sb all i h.below;
    };
    ok = (λ z. session_ok (last_word w) (lent_words_lem i sw sb z) (lent_bytes_lem i sw sb z)) ∙ all.each i h.below;
    cleared = h.cleared;
  }

  -- THE PROMISE of the request call
  pub session_served : (input : Bytes) (places : ℕ) {r : AnswerNumbers} {out' : Bytes} {w' : List ℕ} {b' : Bytes} {s₁ : List ℕ} {sb₁ : Bytes}
      → Left (served_in places (length out) input w b (lent_at 644 i sw) (lent_at 10240 i sb)) out w b (lent_at 644 i sw) (lent_at 10240 i sb) r out' w' b' s₁ sb₁
      → RequestPromise i input places out (lent_of w b sw sb) r out' (lent_of w' b' (back_at 644 i sw s₁) (back_at 10240 i sb sb₁))
  unfolding leave_store leave_session
  session_served input places {r} {out'} {w'} {b'} {s₁} {sb₁} l =
      let d : Served = serve places (length out) input (store_in w b) (session_at i sw sb) in
      let same : served_in places (length out) input w b (lent_at 644 i sw) (lent_at 10240 i sb) ≡ d =
      unfold served_in in ap (serve places (length out) input (store_in w b)) (lent_session i sw sb) in
      let m = left_as same l in
      let c = sym (served i input places (length out) (lent_of w b sw sb) (lt-ltb i 16 h.below) h.fit) in
      let left : lent_of w' b' (back_at 644 i sw s₁) (back_at 10240 i sb sb₁) ≡ leave_store d.store (leave_session i d.session (lent_of w b sw sb)) =
      λ z. record { words = m.store.words z; bytes = m.store.bytes z; session_words = words_back i sw sb m.session z; session_bytes = bytes_back i sw sb m.session z } in
      record {
        answer = m.says.answer ∙ ap (λ (x : Called). answer_of x.outcome) c;
        reply = m.says.reply ∙ ap (λ (x : Called). reply_buffer (length out) x.outcome.reply) c;
        lent = left ∙ full_left i w b sw sb h.below h.fit d (served_kept i w b sw sb h.below h.fit input places (length out)) ∙ ap (λ (x : Called). x.lent) c;
      }

  pub session_table : (input : Bytes) (t : List ℕ) {t' : List ℕ} → TableHolds (read_request (length t / 2) input) t' → TablePromise i input (lent_of w b sw sb) t t'
  session_table input t k = record {
    parts = λ _ _. k.front;
    unread = λ f. let z : true ≡ false = sym (and_both (ltb i 16) (valid (lent_of w b sw sb)) (lt-ltb i 16 h.below) h.fit) ∙ f in let y : ◌≡◌ {A = ℕ} 0 1 = cc in absurd (omega arith);
  }

  -- THE PROMISE of the preview call
  pub session_previewed : {r : PreviewNumbers} {out' : Bytes} → Previews (last_word w) (session_decided (length out) (lent_at 644 i sw) (lent_at 10240 i sb) w b) out r out' → PreviewPromise i out (lent_of w b sw sb) r out' (lent_of w b sw sb)
  unfolding session_decided store_in
  session_previewed {r} {out'} l =
      let told = preview_valid i (length out) (lent_of w b sw sb) (lt-ltb i 16 h.below) h.fit in
      let d = decide_exec (length out) (store_in w b) (session_of i (lent_of w b sw sb)) in
      let same : session_decided (length out) (lent_at 644 i sw) (lent_at 10240 i sb) w b ≡ d = ap (decide_exec (length out) (store_in w b)) (lent_session i sw sb) in
      record {
        preview = l.preview ∙ ap (preview_decided (last_word w)) same ∙ sym (previewed_struct (last_word w) d) ∙ sym (ap (λ (x : Called). preview_of x.outcome) told);
        reply = l.reply ∙ ap (λ (x : Bytes). reply_buffer (length out) x) (ap (λ (x : Decided). x.reply) same ∙ sym (previewed_reply (last_word w) d (exec_silent (length out) (store_in w b) _)) ∙ sym (ap (λ (x : Called). x.outcome.reply) told));
        lent = sym (ap (λ (x : Called). x.lent) told);
      }
