-- THE LAWS THAT EACH KIND OF CALL OWES, as one record: what it leaves is fit, what it tells has happened, what it touches, and that it does
-- not see what another session has queued or watched. The theorems on lists of calls use nothing else of a kind of call, but for `isolated`, which is of a request.
use Prim.Native.Nat.{ℕ, ◌<◌}
use mathlib.Core.List.{List, [], ◌∷◌}
use mathlib.Core.Bool.{true, false}
use Rattle.std.specs.Prelude.{None}
use mathlib.Core.Path.{◌≡◌, refl}
use Rattle.store_memtable.proofs.VersionLaws.{later_refl}
use Rattle.command_spec.specs.Session.{any_moved}
use Rattle.command_spec.proofs.SessionLaws.{WatchKept}
use Rattle.call_spec.specs.Serve.{State, session_in, Outcome, refused, Stepped}
use Rattle.call_spec.specs.Calls.{Lent, valid, Call, step, first_number, Touched, touched}
use Rattle.call_spec.specs.Posting.{Event, asked, wrote, told, Client, enter_all}
use Rattle.call_spec.specs.Demand3.{NoneAccepted, is_of, any_item}
use Rattle.call_spec.specs.Captures.{SilentOrReply}
use Rattle.call_spec.proofs.MovedLaws.{LaterFrom, later_from}
use Rattle.call_spec.proofs.EventLaws.{bound, Fit, Chain, Clients}
use Rattle.call_spec.proofs.WatchLaws.{watch_in, same_keeps_watch}

-- WHAT IS NOT TOUCHED STAYS
abbrev pub Absent : ℕ → List ℕ → Type 0
Absent j [] = Unit {0}
Absent j (i ∷ is) = (j ≡ i → ⊥) × Absent j is

abbrev pub Small : List ℕ → Type 0
Small [] = Unit {0}
Small (i ∷ is) = (i < 16) × Small is

pub record Touches (t : Touched) (p q : State) : Type 0 where
  pub store : t.store ≡ false → q.store ≡ p.store
  pub sessions : (j : ℕ) → j < 16 → Absent j t.sessions → session_in j q ≡ session_in j p
  pub small : Small t.sessions

-- THE LAW, of a call that gives d on the state p
pub record Law (c : Call) (p : State) (d : Stepped) : Type 0 where
  pub fit : Fit d.state
  pub later : LaterFrom (bound d.state) p.store d.state.store
  pub chain : Chain (told c d.outcome) p d.state
  pub touches : Touches (touched c d.outcome.number) p d.state
  pub not_nine : d.outcome.number ≡ 9 → ⊥
  -- what has moved of the watch of each session is kept, and one that has moved is not accepted
  pub watch : (i : ℕ) → i < 16 → WatchKept p.store (watch_in i p) (watch_in i d.state)
  pub stale : (i : ℕ) → i < 16 → any_moved p.store.versions (watch_in i p) ≡ true → NoneAccepted i (told c d.outcome)
  -- a session's own call leaves the others, and another's leaves it outside MULTI
  pub own : (i j : ℕ) → is_of i c ≡ true → j < 16 → (j ≡ i → ⊥) → session_in j d.state ≡ session_in j p
  pub outside : (i : ℕ) → i < 16 → is_of i c ≡ false → (session_in i p).queue ≡ None → (session_in i d.state).queue ≡ None

-- a call that leaves the state, by what it tells
module _ (c : Call) (p : State) (o : Outcome) (fit : Fit p) where
  pub unmoved : Chain (told c o) p p → Small (touched c o.number).sessions → (o.number ≡ 9 → ⊥)
      → ((i : ℕ) → i < 16 → any_moved p.store.versions (watch_in i p) ≡ true → NoneAccepted i (told c o)) → Law c p (record { outcome = o; state = p })
  unmoved ch small nine stale = record {
    fit = fit;
    later = later_from (bound p) (later_refl p.store);
    chain = ch;
    touches = record { store = λ e. refl; sessions = λ j h a. refl; small = small };
    not_nine = nine;
    watch = λ i h. same_keeps_watch i h p p fit refl;
    stale = stale;
    own = λ i j e h z. refl;
    outside = λ i h e n. n;
  }

-- TWO STATES with the same store and the same sessions, but for session i
pub record SameOn (i : ℕ) (p q : State) : Type 0 where
  pub store : p.store ≡ q.store
  pub sessions : (j : ℕ) → j < 16 → (j ≡ i → ⊥) → session_in j p ≡ session_in j q

-- a call on two such states
pub record SameOnBoth (i : ℕ) (d e : Stepped) : Type 0 where
  pub answer : d.outcome ≡ e.outcome
  pub left : SameOn i d.state e.state

-- a call on two such states, which the second leaves outside MULTI
pub record KeptStep (i : ℕ) (d e : Stepped) : Type 0 where
  pub same : SameOnBoth i d e
  pub outside : i < 16 → (session_in i e.state).queue ≡ None

-- EACH ANSWER that is told has no bytes, or those of one reply
abbrev pub EachAnswered : List Event → Type 0
EachAnswered [] = Unit {0}
EachAnswered (asked i x n b ∷ es) = SilentOrReply b × EachAnswered es
EachAnswered (wrote ws ∷ es) = EachAnswered es

-- ALL THAT A KIND OF CALL OWES
pub record Kind (c : Call) : Type 0 where
  pub law : (p : State) → Fit p → Law c p (step c p)
  -- on valid lent memory the first number is the step's own
  pub first : (l : Lent) (p : State) → valid l ≡ true → (first_number c l ≡ 0 → ⊥) → step c p ≡ record { outcome = refused (first_number c l); state = p }
  -- what is told depends on number, reply and verdicts alone, and with a number nothing is posted
  pub fed : (o p : Outcome) → o.number ≡ p.number → o.reply ≡ p.reply → o.verdicts ≡ p.verdicts → told c o ≡ told c p
  pub numbers : (o : Outcome) (ds : List Client) → (o.number ≡ 0 → ⊥) → (enter_all (told c o) ds).items ≡ []
  -- a session is answered by one reply, or by none
  pub answers : (p : State) → EachAnswered (told c (step c p).outcome)
  pub refusals : (n : ℕ) → EachAnswered (told c (refused n))
  -- a call that is not session i's, and one of its own that posts and is no accepted EXEC
  pub other : (i : ℕ) (p q : State) → Fit p → Fit q → SameOn i p q → is_of i c ≡ false → SameOnBoth i (step c p) (step c q)
  pub own : (i : ℕ) (p q : State) (ds : List Client) → Fit p → Fit q → Clients p ds → SameOn i p q → (i < 16 → (session_in i q).queue ≡ None) → is_of i c ≡ true
      → any_item (enter_all (told c (step c p).outcome) ds).items ≡ true → NoneAccepted i (told c (step c p).outcome) → KeptStep i (step c p) (step c q)
