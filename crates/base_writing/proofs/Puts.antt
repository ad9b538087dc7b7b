-- The laws of `Puts`: how a writer shows its contract, what a caller learns of it, and how two texts written one behind the other are one
-- text written. Assumes nothing.
use mathlib.Core.Path.{◌≡◌, refl, sym, ap, ap₂, ◌∙◌}
use mathlib.Core.Bool.{Bool, true, false, cond}
use mathlib.Core.List.{List, [], ◌∷◌, ◌++◌, append_assoc, append-nil}
use Prim.Native.Nat.{ℕ, suc, min, ◌+◌, ◌-◌, ◌≤◌, ◌<◌}
use native.Mathlib.Decide.{dec_le}
use native.Mathlib.Omega.{arith}
use lib.Dec.{leb}
use native.Mathlib.Numerals.{add-one}
use lib.ListN.{length, take, drop, set, get_or, replicate, length-append, length-drop, length-replicate}
use lib.Seq.{take_at, drop_at, drop-drop, drop-cons, set_at, length-take-le}
use borrow.Rule.Slice.PartMut.{same_len_mid}
use Rattle.base_writing.proofs.Lent.{rest, with_rest, rest_is, with_rest_is}
use borrow.Author.Tests.{le-leb, lt-leb, leb-true, leb-false}
use Rattle.base_writing.specs.Puts.{Puts, Place, place_of, Joined, settled, Adds, answered, placed, answered_behind, placed_behind}
use Rattle.std.specs.Prelude.{Option, None, Some}

-- a text that fits is written
pub wrote : {text entry exit : List ℕ} {n : ℕ} → n ≡ length text → n ≤ length entry → exit ≡ text ++ drop n entry → Puts text entry (Some n) exit
unfolding answered placed
wrote {text} {entry} count fits e =
    let fits' : length text ≤ length entry = omega arith in
    let test = le-leb (length text) (length entry) fits' in
    record { answer = rw test (ap Some count); buffer = rw test (e ∙ rw count refl) }

-- a text that does not fit leaves zeros
pub full : {text entry exit : List ℕ} → length entry < length text → exit ≡ replicate (length entry) 0 → Puts text entry None exit
unfolding answered placed
full {text} {entry} long e =
    let test = lt-leb (length text) (length entry) long in
    record { answer = rw test; buffer = rw test e }

-- what the answer `Wrote n` tells
pub record Written (text entry : List ℕ) (n : ℕ) (exit : List ℕ) : Type 0 where
  pub count : n ≡ length text
  pub fits : n ≤ length entry
  pub buffer : exit ≡ text ++ drop n entry

-- what the answer `Full` tells
pub record Refused (text entry exit : List ℕ) : Type 0 where
  pub long : length entry < length text
  pub buffer : exit ≡ replicate (length entry) 0

pub was_wrote : {text entry exit : List ℕ} {put : Option ℕ} {n : ℕ} → Puts text entry put exit → put ≡ Some n → Written text entry n exit
unfolding answered placed
was_wrote {text} {entry} {exit} {put} {n} p told = go (leb (length text) (length entry)) refl (sym told ∙ p.answer) p.buffer
  where
    go : (b : Bool) → leb (length text) (length entry) ≡ b → Some n ≡ cond b (Some (length text)) None → exit ≡ cond b (text ++ drop (length text) entry) (replicate (length entry) 0) → Written text entry n exit
    go true t a e =
        let count : n ≡ length text = cc in
        let fits : length text ≤ length entry = leb-true _ _ t in
        record { count = count; fits = omega arith; buffer = rw count e }
    go false t a e = let z : ◌≡◌ {A = ℕ} 0 1 = cc in absurd (omega arith)

pub was_full : {text entry exit : List ℕ} {put : Option ℕ} → Puts text entry put exit → put ≡ None → Refused text entry exit
unfolding answered placed
was_full {text} {entry} {exit} {put} p told = go (leb (length text) (length entry)) refl (sym told ∙ p.answer) p.buffer
  where
    go : (b : Bool) → leb (length text) (length entry) ≡ b → None ≡ cond b (Some (length text)) None → exit ≡ cond b (text ++ drop (length text) entry) (replicate (length entry) 0) → Refused text entry exit
    go true t a e = let z : ◌≡◌ {A = ℕ} 0 1 = cc in absurd (omega arith)
    go false t a e = record { long = leb-false _ _ t; buffer = e }

-- the buffer keeps its length
pub same_length : {text entry exit : List ℕ} {n : ℕ} → Written text entry n exit → length exit ≡ length entry
same_length {text} {entry} {exit} {n} w =
    ap length w.buffer ∙ simp (length-append, length-drop) (omega (arith, w.count, w.fits))

-- before the first byte
pub nothing : (entry : List ℕ) → Written [] entry 0 entry
nothing entry = record { count = refl; fits = omega arith; buffer = refl }

-- one more byte, by a store
pub stored : {text longer entry exit : List ℕ} {n : ℕ} → Written text entry n exit → n < length entry → (b : ℕ) → longer ≡ text ++ b ∷ [] → Written longer entry (n + 1) (set exit n b)
stored {text} {longer} {entry} {exit} {n} w h b e =
    record {
      count = ap (λ (k : ℕ). k + 1) w.count ∙ sym (ap length e ∙ simp length-append);
      fits = omega arith;
      buffer =
          ap (λ (l : List ℕ). set l n b) (w.buffer ∙ ap (λ (l : List ℕ). text ++ l) (drop-cons entry n 0 h))
          ∙ set_at text (get_or entry n 0) (drop (suc n) entry) b n (sym w.count)
          ∙ rw (e, append_assoc, add-one) refl;
    }

-- a text is written once all of it is
pub done : {text whole entry exit : List ℕ} {n : ℕ} → Written text entry n exit → whole ≡ text → Puts whole entry (Some n) exit
done w e = rw e (wrote w.count w.fits w.buffer)

-- zeros, from a buffer that holds nothing
pub no_zeros : (out : List ℕ) → length out ≡ 0 → out ≡ replicate (length out) 0
no_zeros [] e = refl
no_zeros (x ∷ out) e = absurd (omega arith)

-- a writer keeps the buffer's length
pub length_kept : {text entry exit : List ℕ} {put : Option ℕ} → Puts text entry put exit → length exit ≡ length entry
length_kept {text} {entry} {exit} {put} p = go put refl
  where
    go : (u : Option ℕ) → put ≡ u → length exit ≡ length entry
    go (Some n) e = same_length (was_wrote p e)
    go None e = ap length (was_full p e).buffer ∙ length-replicate _ 0

-- `text` behind what was put fits, or it does not
module _ {text entry exit : List ℕ} {put after : Option ℕ} where
  adds_fits : (n : ℕ) → put ≡ Some n → n + length text ≤ length entry → after ≡ Some (n + length text) → exit ≡ take n entry ++ (text ++ drop (n + length text) entry) → Adds text put entry after exit
  unfolding answered_behind placed_behind
  adds_fits n e fits a b =
      let test = le-leb (n + length text) (length entry) fits in
      record { answer = rw (e, test) a; buffer = rw (e, test) b }

  adds_long : (n : ℕ) → put ≡ Some n → length entry < n + length text → after ≡ None → exit ≡ replicate (length entry) 0 → Adds text put entry after exit
  unfolding answered_behind placed_behind
  adds_long n e long a b =
      let test = lt-leb (n + length text) (length entry) long in
      record { answer = rw (e, test) a; buffer = rw (e, test) b }

  adds_full : put ≡ None → after ≡ None → exit ≡ replicate (length entry) 0 → Adds text put entry after exit
  unfolding answered_behind placed_behind
  adds_full e a b = record { answer = rw e a; buffer = rw e b }

-- A text behind what was put: `next` is the answer of the writer that was lent the rest from `at` on, and `joined` settles both answers.
module _ (entry : List ℕ) {text last exit : List ℕ} {put next after : Option ℕ} {at : ℕ} (place : Place put (length entry) at) (p : Puts text (rest at entry) next last) (joined : Joined put next (with_rest at entry last) after exit) where
  whole_length : length (with_rest at entry last) ≡ length entry
  whole_length = same_len_mid at (length entry - at) entry last (length_kept p)

  rest_length : length (rest at entry) ≡ length entry - at
  rest_length = ap length (rest_is at entry) ∙ length-drop at entry

  zeros : after ≡ None → exit ≡ replicate (length entry) 0
  zeros told =
      joined.buffer
      ∙ ap (λ (u : Option ℕ). settled u (with_rest at entry last)) told
      ∙ ap (λ (k : ℕ). replicate k 0) whole_length

  start_at : (n : ℕ) → put ≡ Some n → at ≡ min n (length entry)
  start_at n e = place.start ∙ ap (λ (u : Option ℕ). place_of u (length entry)) e

  both : (n m : ℕ) → put ≡ Some n → next ≡ Some m → Dec (n + length text ≤ length entry) → Adds text put entry after exit
  both n m eu ev (yes fits) =
      let w = was_wrote p ev in
      let at_n : at ≡ n = start_at n eu ∙ omega arith in
      let size : n + m ≡ n + length text = ap (λ (k : ℕ). n + k) w.count in
      let within : n + m ≤ length (with_rest at entry last) = omega (arith, whole_length, size) in
      let told : after ≡ Some (n + m) = joined.answer ∙ rw (eu, ev, le-leb _ _ within) refl in
      let behind-n : drop m (rest at entry) ≡ drop (n + length text) entry = ap (drop m) (rest_is at entry) ∙ drop-drop m at entry ∙ ap (λ (k : ℕ). drop k entry) (ap (λ (k : ℕ). k + m) at_n ∙ size) in
      adds_fits n eu fits (told ∙ ap Some size)
      (joined.buffer
      ∙ ap (λ (u : Option ℕ). settled u (with_rest at entry last)) told
      ∙ with_rest_is at entry last
      ∙ ap₂ ◌++◌ (ap (λ (k : ℕ). take k entry) at_n) (w.buffer ∙ ap (λ (l : List ℕ). text ++ l) behind-n))
  both n m eu ev (no long) =
      let w = was_wrote p ev in
      let over : length entry < n + length text = omega arith in
      let beyond : length (with_rest at entry last) < n + m = omega (arith, whole_length, w.count) in
      let told : after ≡ None = joined.answer ∙ rw (eu, ev, lt-leb _ _ beyond) refl in
      adds_long n eu over told (zeros told)

  result : (u v : Option ℕ) → put ≡ u → next ≡ v → Adds text put entry after exit
  result (Some n) (Some m) eu ev = both n m eu ev (dec_le (n + length text) (length entry))
  result (Some n) None eu ev =
      let told : after ≡ None = joined.answer ∙ rw (eu, ev) refl in
      adds_long n eu (omega (arith, start_at n eu, (was_full p ev).long, rest_length)) told (zeros told)
  result None v eu ev =
      let told : after ≡ None = joined.answer ∙ rw eu refl in
      adds_full eu told (zeros told)

pub adds : {text entry last exit : List ℕ} {put next after : Option ℕ} {at : ℕ} → Place put (length entry) at → Puts text (rest at entry) next last → Joined put next (with_rest at entry last) after exit → Adds text put entry after exit
adds {entry = entry} {put = put} {next = next} place p joined = result entry place p joined put next refl refl

-- a writer behind a writer
module _ {done-text text start mid exit : List ℕ} {put after : Option ℕ} (p : Puts done-text start put mid) (a : Adds text put mid after exit) where
  long_behind : length start < length (done-text ++ text) → after ≡ None → exit ≡ replicate (length mid) 0 → Puts (done-text ++ text) start after exit
  long_behind long told zeros = rw told (full long (zeros ∙ ap (λ (k : ℕ). replicate k 0) (length_kept p)))

  written_behind : (n : ℕ) → put ≡ Some n → Dec (n + length text ≤ length mid) → Puts (done-text ++ text) start after exit
  unfolding answered_behind placed_behind
  written_behind n e (yes fits) =
      let w = was_wrote p e in
      let test = le-leb (n + length text) (length mid) fits in
      let told : after ≡ Some (n + length text) = a.answer ∙ rw (e, test) refl in
      let front : take n mid ≡ done-text = ap (take n) w.buffer ∙ take_at done-text (drop n start) n (sym w.count) in
      let back : drop (n + length text) mid ≡ drop (n + length text) start = sym (drop-drop (length text) n mid) ∙ ap (drop (length text)) (ap (drop n) w.buffer ∙ drop_at done-text (drop n start) n (sym w.count)) ∙ drop-drop (length text) n start in
      let buffer : exit ≡ (done-text ++ text) ++ drop (n + length text) start = a.buffer ∙ rw (e, test, front, back, append_assoc) refl in
      rw told (wrote (ap (λ (k : ℕ). k + length text) w.count ∙ sym (length-append done-text text)) (omega (arith, length_kept p)) buffer)
  written_behind n e (no long) =
      let w = was_wrote p e in
      let over : length mid < n + length text = omega arith in
      let test = lt-leb (n + length text) (length mid) over in
      long_behind (simp length-append (omega (arith, w.count, length_kept p))) (a.answer ∙ rw (e, test) refl) (a.buffer ∙ rw (e, test) refl)

  by_answer : (u : Option ℕ) → put ≡ u → Puts (done-text ++ text) start after exit
  unfolding answered_behind placed_behind
  by_answer (Some n) e = written_behind n e (dec_le (n + length text) (length mid))
  by_answer None e = long_behind (simp length-append (omega (arith, (was_full p e).long))) (a.answer ∙ rw e refl) (a.buffer ∙ rw e refl)

pub then_puts : {done-text text start mid exit : List ℕ} {put after : Option ℕ} → Puts done-text start put mid → Adds text put mid after exit → Puts (done-text ++ text) start after exit
then_puts {put = put} p a = by_answer p a put refl

-- two texts written behind what was put are the two together
module _ {a b entry mid exit : List ℕ} {put next after : Option ℕ} (p : Adds a put entry next mid) (q : Adds b next mid after exit) where
  full_behind : next ≡ None → length mid ≡ length entry → (after ≡ None) × (exit ≡ replicate (length entry) 0)
  unfolding answered_behind placed_behind
  full_behind e same = (q.answer ∙ rw e refl, q.buffer ∙ rw e (ap (λ (k : ℕ). replicate k 0) same))

  nothing_more : next ≡ None → mid ≡ replicate (length entry) 0 → (after ≡ None) × (exit ≡ replicate (length entry) 0)
  nothing_more e zeros = full_behind e (ap length zeros ∙ length-replicate (length entry) 0)

  both_added : (n : ℕ) → put ≡ Some n → Dec (n + length a ≤ length entry) → Dec (n + length a + length b ≤ length entry) → Adds (a ++ b) put entry after exit
  unfolding answered_behind placed_behind
  both_added n e (no long) more =
      let over : length entry < n + length a = omega arith in
      let test = lt-leb (n + length a) (length entry) over in
      let none = nothing_more (p.answer ∙ rw (e, test) refl) (p.buffer ∙ rw (e, test) refl) in
      adds_long n e (simp length-append (omega arith)) none.0 none.1
  both_added n e (yes fits) more =
      let test = le-leb (n + length a) (length entry) fits in
      let told : next ≡ Some (n + length a) = p.answer ∙ rw (e, test) refl in
      let is : mid ≡ take n entry ++ (a ++ drop (n + length a) entry) = p.buffer ∙ rw (e, test) refl in
      let front_length : length (take n entry ++ a) ≡ n + length a = length-append (take n entry) a ∙ ap (λ (k : ℕ). k + length a) (length-take-le n entry (omega arith)) in
      let split : mid ≡ (take n entry ++ a) ++ drop (n + length a) entry = is ∙ sym (append_assoc (take n entry) a (drop (n + length a) entry)) in
      let kept : length mid ≡ length entry = ap length split ∙ length-append (take n entry ++ a) (drop (n + length a) entry) ∙ omega (arith, front_length, length-drop (n + length a) entry) in
      let front : take (n + length a) mid ≡ take n entry ++ a = ap (take (n + length a)) split ∙ take_at (take n entry ++ a) (drop (n + length a) entry) (n + length a) front_length in
      let back : drop (n + length a + length b) mid ≡ drop (n + length a + length b) entry = sym (drop-drop (length b) (n + length a) mid) ∙ ap (drop (length b)) (ap (drop (n + length a)) split ∙ drop_at (take n entry ++ a) (drop (n + length a) entry) (n + length a) front_length) ∙ drop-drop (length b) (n + length a) entry in
      go more told kept front back
    where
      go : Dec (n + length a + length b ≤ length entry) → next ≡ Some (n + length a) → length mid ≡ length entry → take (n + length a) mid ≡ take n entry ++ a → drop (n + length a + length b) mid ≡ drop (n + length a + length b) entry → Adds (a ++ b) put entry after exit
      go (yes room) told kept front back =
          let within : n + length a + length b ≤ length mid = omega arith in
          let test = le-leb (n + length a + length b) (length mid) within in
          let size : n + length a + length b ≡ n + length (a ++ b) = omega (arith, length-append a b) in
          adds_fits n e (omega (arith, size)) (q.answer ∙ rw (told, test) (ap Some size))
          (q.buffer
          ∙ rw (told, test, front, back) (append_assoc (take n entry) a (b ++ drop (n + length a + length b) entry) ∙ ap (λ (l : List ℕ). take n entry ++ l) (sym (append_assoc a b (drop (n + length a + length b) entry)))
          ∙ ap (λ (k : ℕ). take n entry ++ ((a ++ b) ++ drop k entry)) size))
      go (no long) told kept front back =
          let over : length mid < n + length a + length b = omega arith in
          let test = lt-leb (n + length a + length b) (length mid) over in
          adds_long n e (simp length-append (omega arith)) (q.answer ∙ rw (told, test) refl) (q.buffer ∙ rw (told, test) (ap (λ (k : ℕ). replicate k 0) kept))

  both_by_answer : (u : Option ℕ) → put ≡ u → Adds (a ++ b) put entry after exit
  unfolding answered_behind placed_behind
  both_by_answer (Some n) e = both_added n e (dec_le (n + length a) (length entry)) (dec_le (n + length a + length b) (length entry))
  both_by_answer None e = let none = nothing_more (p.answer ∙ rw e refl) (p.buffer ∙ rw e refl) in adds_full e none.0 none.1

pub then_adds : {a b entry mid exit : List ℕ} {put next after : Option ℕ} → Adds a put entry next mid → Adds b next mid after exit → Adds (a ++ b) put entry after exit
then_adds {put = put} p q = both_by_answer p q put refl

-- a text does not fit where its beginning does not
pub full_longer : {text whole entry exit : List ℕ} {put : Option ℕ} (more : List ℕ) → whole ≡ text ++ more → Puts text entry put exit → put ≡ None → Puts whole entry None exit
full_longer more e p told = let r = was_full p told in rw e (full (simp length-append (omega (arith, r.long))) r.buffer)

-- the same text under another name
pub same_text : {text whole start exit : List ℕ} {put : Option ℕ} → whole ≡ text → Puts text start put exit → Puts whole start put exit
same_text e p = rw e p

pub same_added : {text whole entry exit : List ℕ} {put after : Option ℕ} → whole ≡ text → Adds text put entry after exit → Adds whole put entry after exit
same_added e a = rw e a

-- Texts written one behind the other, as a loop does: whatever was written before, `text` now stands behind it. `put` and `entry` are as the
-- loop found them.
pub record Follows (text : List ℕ) (put : Option ℕ) (entry : List ℕ) (after : Option ℕ) (exit : List ℕ) : Type 0 where
  pub follows : (done-text start : List ℕ) → Puts done-text start put entry → Puts (done-text ++ text) start after exit

pub follows_none : (put : Option ℕ) (entry : List ℕ) → Follows [] put entry put entry
follows_none put entry = record { follows = λ done-text start p. rw append-nil p }

pub follows_more : {text more longer entry mid exit : List ℕ} {put next after : Option ℕ} → Follows text put entry next mid → Adds more next mid after exit → longer ≡ text ++ more → Follows longer put entry after exit
follows_more {text} {more} {longer} f a e =
    record { follows = λ done-text start p. rw (e, ← append_assoc done-text text more) (then_puts (f.follows done-text start p) a) }

pub then_follows : {done-text text start mid exit : List ℕ} {put after : Option ℕ} → Puts done-text start put mid → Follows text put mid after exit → Puts (done-text ++ text) start after exit
then_follows {done-text} {start = start} p f = f.follows done-text start p

-- nothing is written yet
pub puts_nothing : (entry : List ℕ) → Puts [] entry (Some 0) entry
puts_nothing entry = done (nothing entry) refl
