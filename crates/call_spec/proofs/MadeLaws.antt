-- Demand 3 is proved of the calls made through the published functions: what their contracts tell is what the definitions give. Assumes nothing.
use Prim.Native.Nat.{ℕ, ◌+◌, ◌-◌, min}
use native.Mathlib.Omega.{arith}
use mathlib.Core.Path.{◌≡◌, refl, sym, ap, ◌∙◌}
use mathlib.Core.Bool.{Bool, true, false, cond}
use mathlib.Core.List.{List, [], ◌∷◌, map}
use lib.Dec.{ltb, eqb}
use lib.ListN.{length, take, drop, replicate, length-append, length-map, length-take, length-replicate}
use lib.Seq.{take_at}
use Rattle.base_key.specs.Bytes.{Bytes, over_front}
use Rattle.store_memtable.specs.Versions.{Store}
use Rattle.store_memtable.specs.Layout.{buffers_hold, valid_store, store_in, empty_store}
use Rattle.group_spec.specs.declared.Member.{Member}
use Rattle.group_spec.specs.declared.Verdict.TheVariants.{NotTaken}
use Rattle.group_spec.specs.Group.{Pending, Finished, group, taken, member_size, judge_all, verdict_byte}
use Rattle.group_spec.specs.Members.{group_fits, pending_of}
use Rattle.group_spec.proofs.GroupLaws.{verdicts_long}
use Rattle.command_spec.specs.Numbers.{AnswerNumbers}
use Rattle.command_spec.specs.Finish.{Served, reply_buffer}
use Rattle.exec_decision.specs.Numbers.{PreviewNumbers}
use Rattle.exec_decision.specs.Decided.{Decided, decide_exec}
use Rattle.call_spec.specs.Serve.{Outcome, refused, outcome_of, answered, previewed, serve}
use Rattle.call_spec.specs.Calls.{Lent, lent_of, valid, store_of, session_of, leave_served, refuses, Called, StoreCalled, with_store, refuses_store, gives_store, judged, open_call, request_call, preview_call, verdict_in, group_call, verdict_buffer, RequestPromise, PreviewPromise, GroupPromise, Call, outcomes, final}
use Rattle.call_spec.specs.Demand3.{Opened, without, to_others, SameBut, Unaltered, PostsNothing, kept_calls, kept_outcomes, NoneAccepted, UnalteredUntilExec, clients_after}
use Rattle.call_spec.specs.Posting.{events, closed_clients}
use Rattle.call_spec.specs.Made.{request_seen, group_seen, preview_seen, Made, unmade, by_request, by_group, by_preview, Holds, MadeClaim, OpensClaim, MadeIsolation, MadeUntilExec, MadeHolds}
use Rattle.call_spec.proofs.Demand3Proved.{demand_3}
use Rattle.call_spec.proofs.OpenLaws.{zeros_are_clear, opens}
use Rattle.call_spec.proofs.StateLaws.{request_is, group_is, preview_is_lem}

-- THE OUTCOME THAT THE CALLER SEES is the definition's. A reply in front of its buffer
front : (room : ℕ) (s : Bytes) → take (length s) (reply_buffer room s) ≡ s
unfolding reply_buffer
front room s = take_at s (replicate (room - length s) 0) (length s) refl

-- a request writes no verdict and tells no last sequence
no_verdicts : (i : ℕ) (input : Bytes) (places room : ℕ) (l : Lent) → ((request_call i input places room l).outcome.verdicts ≡ []) × ((request_call i input places room l).outcome.last ≡ 0)
unfolding request_call
no_verdicts i input places room l = go (ltb i 16) (valid l)
  where
    d : Served
    d = serve places room input (store_of l) (session_of i l)

    by : Bool → Bool → Called
    by a b = elim a [ false ↦ refuses 1 l | true ↦ elim b [ false ↦ refuses 9 l | true ↦ record { outcome = answered d; lent = leave_served i d l } ] ]

    go : (a b : Bool) → ((by a b).outcome.verdicts ≡ []) × ((by a b).outcome.last ≡ 0)
    go false b = (refl, refl)
    go true false = (refl, refl)
    go true true = (refl, refl)

request_seen_lem : {i : ℕ} {input : Bytes} {places : ℕ} {buffer : Bytes} {l : Lent} {r : AnswerNumbers} {buffer' : Bytes} {l₁ : Lent}
    → RequestPromise i input places buffer l r buffer' l₁ → request_seen r buffer' ≡ (request_call i input places (length buffer) l).outcome
request_seen_lem {i} {input} {places} {buffer} {l} {r} {buffer'} p =
    let o : Outcome = (request_call i input places (length buffer) l).outcome in
    let e : take r.reply buffer' ≡ o.reply = (λ z. take (p.answer z).reply (p.reply z)) ∙ front (length buffer) o.reply in
    λ z. outcome_of (p.answer z).number (p.answer z).used (e z) (sym (no_verdicts i input places (length buffer) l).0 z) (sym (no_verdicts i input places (length buffer) l).1 z)

-- a verdict for each member
all_verdicts : (ms : List Pending) (st : Store) → length (group ms st).verdicts ≡ length ms
unfolding group
all_verdicts ms st =
    let n = taken (map member_size ms) in
    let a : length (judge_all [] (take n ms) st).verdicts ≡ min n (length ms) = verdicts_long [] (take n ms) st ∙ length-take n ms in
    let b : length (replicate (length ms - n) NotTaken) ≡ length ms - n = length-replicate (length ms - n) NotTaken in
    let c = length-append (judge_all [] (take n ms) st).verdicts (replicate (length ms - n) NotTaken) in
    omega (arith, a, b, c)

over_seen : (s v : Bytes) (n : ℕ) → length s ≡ n → take n (over_front s v) ≡ s
unfolding over_front
over_seen s v n e = take_at s (drop (length s) v) n e

group_outcome : (ms : List Member) (parts : List ℕ) (d v : Bytes) (w : List ℕ) (b : Bytes)
    → group_seen (group_call ms parts d v w b).outcome.number ms (verdict_buffer (group_call ms parts d v w b).outcome v) ≡ (group_call ms parts d v w b).outcome
unfolding group_call verdict_buffer
group_outcome ms parts d v w b = go (valid_store w b) (group_fits parts d ms v)
  where
    g : Finished
    g = group (map (pending_of parts d) ms) (store_in w b)

    long : length (map verdict_byte g.verdicts) ≡ length ms
    long = length-map g.verdicts verdict_byte ∙ all_verdicts (map (pending_of parts d) ms) (store_in w b) ∙ length-map ms (pending_of parts d)

    by : Bool → Bool → StoreCalled
    by x y = elim x [ false ↦ refuses_store 9 w b | true ↦ elim y [ false ↦ refuses_store 8 w b | true ↦ gives_store (judged g) g.store w b ] ]

    go : (x y : Bool) → group_seen (by x y).outcome.number ms (over_front (by x y).outcome.verdicts v) ≡ (by x y).outcome
    go false y = refl
    go true false = refl
    go true true = ap (λ (x : Bytes). outcome_of 0 0 [] x 0) (over_seen (map verdict_byte g.verdicts) v (length ms) long)

group_seen_lem : {ms : List Member} {parts : List ℕ} {d v : Bytes} {w : List ℕ} {b : Bytes} {n : ℕ} {v' : Bytes} {w' : List ℕ} {b' : Bytes}
    → GroupPromise ms parts d v w b n v' w' b' → group_seen n ms v' ≡ (group_call ms parts d v w b).outcome
group_seen_lem {ms} {parts} {d} {v} {w} {b} p = (λ z. group_seen (p.number z) ms (p.verdicts z)) ∙ group_outcome ms parts d v w b

-- a preview's verdict is the only one, where there is no number
preview_whole : (i room : ℕ) (l : Lent) → (let o = (preview_call i room l).outcome in outcome_of o.number 0 o.reply (cond (eqb o.number 0) (verdict_in o ∷ []) []) o.last ≡ o)
unfolding preview_call previewed
preview_whole i room l = go (ltb i 16) (valid l)
  where
    d : Decided
    d = decide_exec room (store_of l) (session_of i l)

    seen : Outcome → Outcome
    seen o = outcome_of o.number 0 o.reply (cond (eqb o.number 0) (verdict_in o ∷ []) []) o.last

    by : Bool → Bool → Called
    by a b = elim a [ false ↦ refuses 1 l | true ↦ elim b [ false ↦ refuses 9 l | true ↦ record { outcome = previewed (store_of l).last d; lent = l } ] ]

    told : (t : Bool) → eqb d.number 0 ≡ t → seen (cond t (outcome_of 0 0 d.reply (d.verdict ∷ []) ((store_of l).last + length d.writes)) (refused d.number))
        ≡ cond t (outcome_of 0 0 d.reply (d.verdict ∷ []) ((store_of l).last + length d.writes)) (refused d.number)
    told true e = refl
    told false e = ap (λ (t : Bool). outcome_of d.number 0 [] (cond t (255 ∷ []) []) 0) e

    go : (a b : Bool) → seen (by a b).outcome ≡ (by a b).outcome
    go false b = refl
    go true false = refl
    go true true = told (eqb d.number 0) refl

preview_seen_lem : {i : ℕ} {buffer : Bytes} {l : Lent} {r : PreviewNumbers} {buffer' : Bytes} {l₁ : Lent}
    → PreviewPromise i buffer l r buffer' l₁ → preview_seen r buffer' ≡ (preview_call i (length buffer) l).outcome
preview_seen_lem {i} {buffer} {l} {r} {buffer'} p =
    let o : Outcome = (preview_call i (length buffer) l).outcome in
    let e : take r.reply buffer' ≡ o.reply = (λ z. take (p.preview z).reply (p.reply z)) ∙ front (length buffer) o.reply in
    (λ z. outcome_of (p.preview z).number 0 (e z) (cond (eqb (p.preview z).number 0) ((p.preview z).verdict ∷ []) []) (p.preview z).last) ∙ preview_whole i (length buffer) l

-- THE CALLS MADE are the definition's list of calls
record AsDefined (l : Lent) (cs : List Call) (os : List Outcome) (l' : Lent) : Type 0 where
  seen : os ≡ outcomes cs l
  left : l' ≡ final cs l

as_defined : {l l' : Lent} (cs : List Call) (os : List Outcome) → Made l cs os l' → AsDefined l cs os l'
unfolding outcomes final
as_defined [] os unmade = record { seen = refl; left = refl }
as_defined {l} {l'} (c ∷ cs) os (by_request {i = i} {input = input} {places = places} {buffer = buffer} {l₁ = l₁} {os = os'} p m) =
    let k = as_defined cs os' m in
    let e = sym (request_is i input places (length buffer) l) in
    let seen = request_seen_lem p ∙ ap (λ (x : Called). x.outcome) e in
    let left = p.lent ∙ ap (λ (x : Called). x.lent) e in
    record { seen = λ z. seen z ∷ (k.seen ∙ ap (outcomes cs) left) z; left = k.left ∙ ap (final cs) left }
as_defined {l} {l'} (c ∷ cs) os (by_group {ms = ms} {parts = parts} {d = d} {v = v} {w' = w'} {b' = b'} {os = os'} p m) =
    let k = as_defined cs os' m in
    let g : StoreCalled = group_call ms parts d v l.words l.bytes in
    let e = sym (group_is ms parts d v l) in
    let same : with_store w' b' l ≡ with_store g.words g.bytes l = λ z. with_store (p.words z) (p.bytes z) l in
    let seen = group_seen_lem p ∙ ap (λ (x : Called). x.outcome) e in
    let left = same ∙ ap (λ (x : Called). x.lent) e in
    record { seen = λ z. seen z ∷ (k.seen ∙ ap (outcomes cs) left) z; left = k.left ∙ ap (final cs) left }
as_defined {l} {l'} (c ∷ cs) os (by_preview {i = i} {buffer = buffer} {l₁ = l₁} {os = os'} p m) =
    let k = as_defined cs os' m in
    let e = sym (preview_is_lem i (length buffer) l) in
    let seen = preview_seen_lem p ∙ ap (λ (x : Called). x.outcome) e in
    let left = p.lent ∙ ap (λ (x : Called). x.lent) e in
    record { seen = λ z. seen z ∷ (k.seen ∙ ap (outcomes cs) left) z; left = k.left ∙ ap (final cs) left }

-- DEMAND 3 of them
made_claim : MadeClaim
made_claim l l' cs os o m =
    let k = as_defined cs os m in
    let d = demand_3.claim cs l o in
    let v = demand_3.validity cs l o in
    let holds : Holds cs (outcomes cs l) l (final cs l) = record {
      tables = d.tables;
      replies = d.replies;
      counters = demand_3.counters cs l o;
      sums = demand_3.counter_replies cs l o;
      watches = demand_3.posted_watches cs l o;
      verdicts = demand_3.verdicts cs l o;
      moved = demand_3.watches cs l o;
      fit = v.0;
      no_nine = v.1;
    } in
    coe 1 0 (z. Holds cs (k.seen z) l (k.left z)) holds

-- the opening call
holds_told : (last versions size : ℕ) (w : List ℕ) (b : Bytes) → 0 ≡ (open_call last versions size w b).outcome.number → buffers_hold w b versions size ≡ true
unfolding open_call
holds_told last versions size w b e = go (buffers_hold w b versions size) e
  where
    go : (x : Bool) → 0 ≡ (cond {A = StoreCalled} x (gives_store (refused 0) (empty_store last versions size) w b) (refuses_store 9 w b)).outcome.number → x ≡ true
    go true e = refl
    go false e = absurd (omega (arith, e))

made_opens : OpensClaim
made_opens last versions size w b w' b' sw sb ok clears p =
    coe 1 0 (z. Opened (lent_of (p.words z) (p.bytes z) sw sb)) (opens last versions size w b (holds_told last versions size w b p.number) sw sb ok clears)

-- the sentence on other sessions
made_isolation : MadeIsolation
made_isolation l l₁ l₂ m m₂ before cs os₁ os₂ os' i o a c fit same d posts =
    let k = as_defined before os₁ a in
    let n = as_defined cs os₂ c in
    let r = as_defined (without i cs) os' d in
    let u : Unaltered i cs (final before l) m =
    demand_3.isolation before cs l m i o fit (coe 0 1 (z. SameBut i (k.left z) m) same) (coe 0 1 (z. PostsNothing i cs (k.left z) (clients_after before l closed_clients)) posts) in
    let v : Unaltered i cs l₁ m = coe 1 0 (z. Unaltered i cs (k.left z) m) u in
    record {
      answers = ap (to_others i cs) n.seen ∙ v.answers ∙ sym r.seen;
      left = coe 1 0 (z. SameBut i (n.left z) (r.left z)) v.left;
    }

-- and until its EXEC is accepted
made_until_exec : MadeUntilExec
made_until_exec l l₁ l₂ m m₂ before cs os₁ os₂ os' i o a c fit same free none d =
    let k = as_defined before os₁ a in
    let n = as_defined cs os₂ c in
    let ds = clients_after before l closed_clients in
    let seen : os₂ ≡ outcomes cs (final before l) = n.seen ∙ ap (outcomes cs) k.left in
    let r = as_defined (kept_calls i cs os₂ ds) os' d in
    let u : UnalteredUntilExec i cs ds (final before l) m =
    demand_3.until_exec before cs l m i o fit (coe 0 1 (z. SameBut i (k.left z) m) same) free (coe 0 1 (z. NoneAccepted i (events cs (seen z))) none) in
    record {
      answers = ap (λ (os : List Outcome). kept_outcomes i cs os ds) seen ∙ u.answers ∙ ap (λ (os : List Outcome). outcomes (kept_calls i cs os ds) m) (sym seen) ∙ sym r.seen;
      left = coe 1 0 (z. SameBut i ((n.left ∙ ap (final cs) k.left) z) ((r.left ∙ ap (λ (os : List Outcome). final (kept_calls i cs os ds) m) seen) z)) u.left;
    }

pub made : MadeHolds
made = record { opens = made_opens; zero = zeros_are_clear; claim = made_claim; isolation = made_isolation; until_exec = made_until_exec }
