-- THE LAWS OF A GROUP. It tells the writes of the members with verdict 0, in order, each on the store that the one before it left.
use Prim.Native.Nat.{ℕ, zero, suc, ◌-◌}
use native.Mathlib.Omega.{arith}
use mathlib.Core.List.{List, [], ◌∷◌, ◌++◌, map}
use mathlib.Core.Bool.{Bool, true, false, cond, false≢true}
use mathlib.Core.Path.{◌≡◌, refl, sym, ap, ◌∙◌}
use lib.Dec.{eqb}
use borrow.Author.Tests.{ne_eqb}
use lib.ListN.{length, take, drop, replicate, take-append-drop}
use Rattle.base_key.specs.Bytes.{Bytes}
use Rattle.base_key.specs.Keys.{Key}
use Rattle.base_key.proofs.Bytes.{and_left}
use Rattle.store_memtable.specs.Versions.{Store}
use Rattle.store_memtable.specs.Layout.{valid_store}
use Rattle.group_spec.specs.declared.Member.{Member}
use Rattle.group_spec.specs.declared.Verdict.{Verdict}
use Rattle.group_spec.specs.declared.Verdict.TheVariants.{Accepted, Conflict, NoRoom, NoSequence, NotTaken}
use Rattle.group_spec.specs.Group.{Pending, verdict_byte, judge, written_after, store_after, judge_all, member_size, taken, Finished, group}
use Rattle.group_spec.specs.Members.{group_fits, pending_of}
use Rattle.group_spec.proofs.GroupLaws.{After, after_member, after_group, verdicts_long}
use Rattle.command_spec.proofs.SessionLaws.{session_later}
use Rattle.call_spec.specs.Serve.{State, session_in, with_store_of, Outcome, refused, outcome_of, Stepped}
use Rattle.call_spec.specs.Calls.{Lent, valid, judged, grouped, group_on, step, first_number, touched}
use Rattle.call_spec.specs.Posting.{Event, wrote, accepted_in, told, Client, enter_all}
use Rattle.call_spec.specs.Demand3.{NoneAccepted}
use Rattle.call_spec.proofs.MovedLaws.{later_from}
use Rattle.call_spec.proofs.EventLaws.{bound, Fit, Chain, ended, after}
use Rattle.call_spec.proofs.WatchLaws.{same_keeps_watch}
use Rattle.call_spec.proofs.KindLaws.{Law, unmoved, SameOn, SameOnBoth, EachAnswered, Kind}

pub store_fit : (p : State) (st : Store) → Fit p → After p.store st → Fit (with_store_of st p)
store_fit p st fit a = record { sound = a.sound; sixteen = fit.sixteen; each = λ i h. session_later _ _ (session_in i p) a.later.lasts (fit.each i h) }

-- one member in front of the rest: accepted or not, its place in the store is its place among the events
member_chain : (v : Verdict) (m : Pending) (ms : List Pending) (vs : List Verdict) (p r : State) → Fit (with_store_of (store_after v m.writes p.store) p)
    → Chain (accepted_in ms (map verdict_byte vs)) (with_store_of (store_after v m.writes p.store) p) r → Chain (accepted_in (m ∷ ms) (map verdict_byte (v ∷ vs))) p r
unfolding accepted_in store_after
member_chain Accepted m ms vs p r f c = after {e = wrote m.writes} (record { store = refl; sessions = λ j. refl }) f c
member_chain Conflict m ms vs p r f c = c
member_chain NoRoom m ms vs p r f c = c
member_chain NoSequence m ms vs p r f c = c
member_chain NotTaken m ms vs p r f c = c

judged_chain : (written : List Key) (ms : List Pending) (p : State) → Fit p
    → Chain (accepted_in ms (map verdict_byte (judge_all written ms p.store).verdicts)) p (with_store_of (judge_all written ms p.store).store p)
unfolding judge_all accepted_in
judged_chain written [] p fit = ended
judged_chain written (m ∷ ms) p fit =
    let v = judge written p.store m in
    let good = store_fit p (store_after v m.writes p.store) fit (after_member written p.store m fit.sound) in
    member_chain v m ms (judge_all (written_after v m written) ms (store_after v m.writes p.store)).verdicts p _ good (judged_chain (written_after v m written) ms (with_store_of (store_after v m.writes p.store) p) good)

-- members that were not taken are not posted
none_taken : (ms : List Pending) (n : ℕ) → accepted_in ms (map verdict_byte (replicate n NotTaken)) ≡ []
unfolding accepted_in
none_taken [] n = refl
none_taken (m ∷ ms) zero = refl
none_taken (m ∷ ms) (suc n) = none_taken ms n

taken_only : (xs ys : List Pending) (vs : List Verdict) (n : ℕ) → length vs ≡ length xs
    → accepted_in (xs ++ ys) (map verdict_byte (vs ++ replicate n NotTaken)) ≡ accepted_in xs (map verdict_byte vs)
unfolding accepted_in
taken_only [] ys [] n h = none_taken ys n
taken_only [] ys (v ∷ vs) n h = absurd (omega arith)
taken_only (x ∷ xs) ys [] n h = absurd (omega arith)
taken_only (x ∷ xs) ys (v ∷ vs) n h =
    ap (λ (l : List Event). cond (eqb (verdict_byte v) 0) (wrote x.writes ∷ l) l) (taken_only xs ys vs n (omega arith))

pub group_chain : (ms : List Pending) (p : State) → Fit p → Chain (accepted_in ms (map verdict_byte (group ms p.store).verdicts)) p (with_store_of (group ms p.store).store p)
unfolding group
group_chain ms p fit =
    let n = taken (map member_size ms) in
    let k = length ms - n in
    let g = judge_all [] (take n ms) p.store in
    let e : accepted_in ms (map verdict_byte (g.verdicts ++ replicate k NotTaken)) ≡ accepted_in (take n ms) (map verdict_byte g.verdicts) =
    ap (λ (x : List Pending). accepted_in x (map verdict_byte (g.verdicts ++ replicate k NotTaken))) (sym (take-append-drop n ms))
    ∙ taken_only (take n ms) (drop n ms) g.verdicts k (verdicts_long [] (take n ms) p.store) in
    rw e (judged_chain [] (take n ms) p fit)

-- no member is an EXEC
pub none_accepts : (i : ℕ) (ms : List Pending) (vs : Bytes) → NoneAccepted i (accepted_in ms vs)
unfolding accepted_in
none_accepts i [] vs = tt
none_accepts i (m ∷ ms) [] = tt
none_accepts i (m ∷ ms) (v ∷ vs) = go (eqb v 0) (none_accepts i ms vs)
  where
    go : (b : Bool) → NoneAccepted i (accepted_in ms vs) → NoneAccepted i (cond b (wrote m.writes ∷ accepted_in ms vs) (accepted_in ms vs))
    go true h = (λ x. x, h)
    go false h = h

-- and no member is answered
none_answered : (ms : List Pending) (vs : Bytes) → EachAnswered (accepted_in ms vs)
unfolding accepted_in
none_answered [] vs = tt
none_answered (m ∷ ms) [] = tt
none_answered (m ∷ ms) (v ∷ vs) = go (eqb v 0) (none_answered ms vs)
  where
    go : (b : Bool) → EachAnswered (accepted_in ms vs) → EachAnswered (cond b (wrote m.writes ∷ accepted_in ms vs) (accepted_in ms vs))
    go true h = h
    go false h = h

group_answers : (ms : List Member) (parts : List ℕ) (d v : Bytes) (o : Outcome) → EachAnswered (told (grouped ms parts d v) o)
unfolding told
group_answers ms parts d v o = go (eqb o.number 0)
  where
    go : (b : Bool) → EachAnswered (cond b (accepted_in (map (pending_of parts d) ms) o.verdicts) [])
    go true = none_answered (map (pending_of parts d) ms) o.verdicts
    go false = tt

-- ALL OF IT
module _ (ms : List Member) (parts : List ℕ) (text verdicts : Bytes) (p : State) (fit : Fit p) where
  group_law : Law (grouped ms parts text verdicts) p (group_on ms parts text verdicts p)
  unfolding group_on told touched
  group_law = go (group_fits parts text ms verdicts) refl
    where
      ps : List Pending
      ps = map (pending_of parts text) ms

      g : Finished
      g = group (map (pending_of parts text) ms) p.store

      go : (b : Bool) → group_fits parts text ms verdicts ≡ b → Law (grouped ms parts text verdicts) p (group_on ms parts text verdicts p)
      go false e = rw (e, group_on) (unmoved (grouped ms parts text verdicts) p (refused 8) fit ended tt (λ z. omega arith) (λ i h e. tt))
      go true e =
          let a = after_group ps p.store fit.sound in
          rw (e, group_on) (record {
            fit = store_fit p g.store fit a;
            later = later_from (bound (with_store_of g.store p)) a.later;
            chain = group_chain ps p fit;
            touches = record { store = λ z. absurd (false≢true (sym z)); sessions = λ j k n. refl; small = tt };
            not_nine = λ z. omega arith;
            watch = λ i h. same_keeps_watch i h p (with_store_of g.store p) fit refl;
            stale = λ i h z. none_accepts i ps _;
            own = λ i j z h n. refl;
            outside = λ i h z n. n;
          })

module _ (i : ℕ) (p q : State) (same : SameOn i p q) where
  group_same : (ms : List Member) (parts : List ℕ) (d v : Bytes) → SameOnBoth i (group_on ms parts d v p) (group_on ms parts d v q)
  unfolding group_on
  group_same ms parts d v = go (group_fits parts d ms v)
    where
      ps : List Pending
      ps = map (pending_of parts d) ms

      by : Bool → State → Stepped
      by b r = elim b [
        | false ↦ record { outcome = refused 8; state = r }
        | true ↦ let g = group (map (pending_of parts d) ms) r.store in record { outcome = judged g; state = with_store_of g.store r }
      ]

      go : (b : Bool) → SameOnBoth i (by b p) (by b q)
      go false = record { answer = refl; left = same }
      go true = record {
        answer = ap (λ (x : Store). judged (group ps x)) same.store;
        left = record { store = ap (λ (x : Store). (group ps x).store) same.store; sessions = same.sessions };
      }

group_first : (ms : List Member) (parts : List ℕ) (d v : Bytes) (l : Lent) (p : State) → valid l ≡ true → (first_number (grouped ms parts d v) l ≡ 0 → ⊥)
    → group_on ms parts d v p ≡ record { outcome = refused (first_number (grouped ms parts d v) l); state = p }
unfolding first_number
group_first ms parts d v l p ok n = rw fits (go (group_fits parts d ms v) refl (rw fits at n))
  where
    fits : valid_store l.words l.bytes ≡ true
    fits = unfold valid in and_left (valid_store l.words l.bytes) _ ok

    go : (b : Bool) → group_fits parts d ms v ≡ b → (◌≡◌ {A = ℕ} (cond b 0 8) 0 → ⊥) → group_on ms parts d v p ≡ record { outcome = refused (cond b 0 8); state = p }
    go true e n = absurd (n refl)
    go false e n = unfold group_on in rw (e, group_on)

group_fed : (ms : List Member) (parts : List ℕ) (d v : Bytes) (o p : Outcome) → o.number ≡ p.number → o.verdicts ≡ p.verdicts → told (grouped ms parts d v) o ≡ told (grouped ms parts d v) p
unfolding told
group_fed ms parts d v o p n w = λ z. told (grouped ms parts d v) (outcome_of (n z) 0 [] (w z) 0)

group_numbers : (ms : List Member) (parts : List ℕ) (d v : Bytes) (o : Outcome) (ds : List Client) → (o.number ≡ 0 → ⊥) → (enter_all (told (grouped ms parts d v) o) ds).items ≡ []
unfolding enter_all told
group_numbers ms parts d v o ds h = rw (ne_eqb o.number 0 h)

pub group_kind : (ms : List Member) (parts : List ℕ) (d v : Bytes) → Kind (grouped ms parts d v)
unfolding step
group_kind ms parts d v = record {
  law = group_law ms parts d v;
  first = group_first ms parts d v;
  fed = λ o p n r w. group_fed ms parts d v o p n w;
  numbers = group_numbers ms parts d v;
  answers = λ p. group_answers ms parts d v (group_on ms parts d v p).outcome;
  refusals = λ n. group_answers ms parts d v (refused n);
  other = λ i p q f g same e. group_same i p q same ms parts d v;
  own = λ i p q ds f g c same free e. absurd (false≢true e);
}
