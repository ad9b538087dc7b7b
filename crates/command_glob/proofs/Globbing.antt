-- Laws of glob patterns: the steps along a pattern, and that retrying the last star suffices. Assumes nothing.
use mathlib.Core.Path.{◌≡◌, refl, sym, ap, ◌∙◌, subst}
use mathlib.Core.Bool.{Bool, true, false, not, cond}
use mathlib.Core.List.{List, [], ◌∷◌}
use Prim.Native.Nat.{ℕ, zero, suc, ◌+◌, ◌-◌, ◌<◌, ◌≤◌}
use native.Mathlib.Nat.{add-zero, add_comm}
use native.Mathlib.Numerals.{add-one}
use native.Mathlib.Omega.{arith}
use borrow.Author.Tests.{eq-eqb, ne_eqb, eqb-false}
use lib.Dec.{eqb}
use lib.ListN.{length, get_or, take, drop, drop_of_length-le, length-drop}
use lib.Seq.{drop-cons, drop-drop, take_all}
use Rattle.std.specs.Prelude.{Option, None, Some}
use Rattle.std.specs.List.{position, position_or_len}
use Rattle.std.proofs.lemmas.Bool.Decides.{nat_tests}
use Rattle.std.proofs.lemmas.Grind.{common_steps}
use Rattle.std.proofs.lemmas.List.Sums.{prefix_len-le-length}
use Rattle.base_key.specs.Bytes.{Bytes}
use Rattle.command_spec.specs.declared.pattern.Step.{Step}
use Rattle.command_spec.specs.declared.pattern.Step.TheVariants as step
use Rattle.command_spec.specs.declared.pattern.Walk.{Walk}
use Rattle.command_spec.specs.declared.pattern.Walk.TheVariants as walk
use Rattle.command_spec.specs.Glob.{Token, literal, one, star, token_of, tokens, matches, some_tail, glob}
use Rattle.command_spec.specs.GlobWalk.{TokenAt, Stepped, Reach, here, past_literal, past_one, AtStar, Walked, Passed, BytePassed}

-- THE TOKEN AT A PLACE.
plain : (b : ℕ) (rest : Bytes) → (b ≡ 92 → ⊥) → tokens (b ∷ rest) ≡ token_of b ∷ tokens rest
unfolding tokens
plain b [] ne = refl
plain b (c ∷ p) ne = ap (λ (v : Bool). elim v [ true ↦ literal c ∷ tokens p | false ↦ token_of b ∷ tokens (c ∷ p) ]) (ne_eqb b 92 ne)

escaped : (b c : ℕ) (p : Bytes) → b ≡ 92 → tokens (b ∷ c ∷ p) ≡ literal c ∷ tokens p
unfolding tokens
escaped b c p e = ap (λ (v : Bool). elim v [ true ↦ literal c ∷ tokens p | false ↦ token_of b ∷ tokens (c ∷ p) ]) (eq-eqb b 92 e)

lone : (b : ℕ) → b ≡ 92 → tokens (b ∷ []) ≡ literal b ∷ tokens []
unfolding tokens
lone b e = rw e

module _ (p : Bytes) (at : ℕ) where
  pub at_end : length p ≤ at → tokens (drop at p) ≡ []
  unfolding tokens
  at_end h = rw (drop_of_length-le p {i = at} h)

  module _ (h : at < length p) where
    behind : drop at p ≡ get_or p at 0 ∷ drop (at + 1) p
    behind = drop-cons p at 0 h ∙ ap (λ (n : ℕ). get_or p at 0 ∷ drop n p) (sym (add-one at))

    plain_at : (t : Token) → (get_or p at 0 ≡ 92 → ⊥) → token_of (get_or p at 0) ≡ t → TokenAt p at (at + 1) t
    plain_at t ne e = record {
      forward = omega arith;
      within = omega arith;
      is = ap tokens behind ∙ plain (get_or p at 0) (drop (at + 1) p) ne ∙ ap (λ (x : Token). x ∷ tokens (drop (at + 1) p)) e;
    }

    pub star_at : get_or p at 0 ≡ 42 → TokenAt p at (at + 1) star
    star_at e = plain_at star (λ f. omega arith) (rw e)

    pub one_at : get_or p at 0 ≡ 63 → TokenAt p at (at + 1) one
    one_at e = plain_at one (λ f. omega arith) (rw e)

    pub literal_at : (get_or p at 0 ≡ 42 → ⊥) → (get_or p at 0 ≡ 63 → ⊥) → (get_or p at 0 ≡ 92 → ⊥) → TokenAt p at (at + 1) (literal (get_or p at 0))
    literal_at s q e = plain_at _ e (rw (ne_eqb (get_or p at 0) 42 s, ne_eqb (get_or p at 0) 63 q))

    pub escaped_at : get_or p at 0 ≡ 92 → at + 1 < length p → TokenAt p at (at + 1 + 1) (literal (get_or p (at + 1) 0))
    escaped_at e l = record {
      forward = omega arith;
      within = omega arith;
      is = ap tokens behind
          ∙ ap (λ (x : Bytes). tokens (get_or p at 0 ∷ x)) (drop-cons p (at + 1) 0 l ∙ ap (λ (n : ℕ). get_or p (at + 1) 0 ∷ drop n p) (sym (add-one (at + 1))))
          ∙ escaped (get_or p at 0) (get_or p (at + 1) 0) (drop (at + 1 + 1) p) e;
    }

    pub lone_at : get_or p at 0 ≡ 92 → length p ≤ at + 1 → TokenAt p at (at + 1) (literal (get_or p at 0))
    lone_at e l = record {
      forward = omega arith;
      within = omega arith;
      is = let n : drop (at + 1) p ≡ [] = drop_of_length-le p {i = at + 1} l in
          ap tokens behind ∙ ap (λ (x : Bytes). tokens (get_or p at 0 ∷ x)) n ∙ lone (get_or p at 0) e ∙ ap (λ (x : Bytes). literal (get_or p at 0) ∷ tokens x) (sym n);
    }

-- A TOKEN AND A BYTE.
module _ {p : Bytes} (s : Bytes) {at next : ℕ} (used : ℕ) where
  pub step_one : TokenAt p at next one → used < length s → matches (tokens (drop at p)) (drop used s) ≡ matches (tokens (drop next p)) (drop (used + 1) s)
  unfolding matches
  step_one t h = rw (t.is, drop-cons s used 0 h, add-one used)

  module _ {b : ℕ} (t : TokenAt p at next (literal b)) (h : used < length s) where
    pub step_literal : get_or s used 0 ≡ b → matches (tokens (drop at p)) (drop used s) ≡ matches (tokens (drop next p)) (drop (used + 1) s)
    unfolding matches
    step_literal e = rw (t.is, drop-cons s used 0 h, matches, eq-eqb (get_or s used 0) b e, add-one used)

    pub step_other : (get_or s used 0 ≡ b → ⊥) → matches (tokens (drop at p)) (drop used s) ≡ false
    unfolding matches
    step_other ne = rw (t.is, drop-cons s used 0 h, matches, ne_eqb (get_or s used 0) b ne)

-- ALONG A NAME: the pattern up to `at`, without a star, has matched the name up to `used`.
pub record Walking (p s : Bytes) (at used : ℕ) : Type 0 where
  pub within : at ≤ length p
  pub inside : used ≤ length s
  pub rest : matches (tokens p) s ≡ matches (tokens (drop at p)) (drop used s)
  pub reach : (m : ℕ) (q : List Token) → Reach (tokens (drop at p)) m q → Reach (tokens p) (used + m) q

pub star_tails : (p : List Token) (s : Bytes) → matches (star ∷ p) s ≡ some_tail (matches p) s
unfolding matches some_tail
star_tails p [] = refl
star_tails p (b ∷ s) = refl

module _ {p s : Bytes} {at used : ℕ} (k : Walking p s at used) where
  pub end_fails : tokens (drop at p) ≡ [] → used < length s → matches (tokens p) s ≡ false
  unfolding matches
  end_fails e h = k.rest ∙ rw (e, drop-cons s used 0 h)

  pub end_whole : tokens (drop at p) ≡ [] → length s ≤ used → matches (tokens p) s ≡ true
  unfolding matches
  end_whole e h = k.rest ∙ rw (e, drop_of_length-le s {i = used} h)

  pub star_reached : {next : ℕ} → TokenAt p at next star → AtStar p s next used
  star_reached {next} t = record {
    forward = omega (arith, t.forward);
    within = t.within;
    inside = k.inside;
    reach =
        subst (λ (n : ℕ). Reach (tokens p) n (tokens (drop next p))) (add-zero used)
        (k.reach 0 (tokens (drop next p)) (subst (λ (l : List Token). Reach l 0 (tokens (drop next p))) (sym t.is) here));
    rest = k.rest ∙ ap (λ (l : List Token). matches l (drop used s)) t.is ∙ star_tails (tokens (drop next p)) (drop used s);
  }

  module _ {next : ℕ} where
    pub one_short : TokenAt p at next one → length s ≤ used → matches (tokens p) s ≡ false
    unfolding matches
    one_short t h = k.rest ∙ rw (t.is, drop_of_length-le s {i = used} h)

    pub literal_short : {b : ℕ} → TokenAt p at next (literal b) → length s ≤ used → matches (tokens p) s ≡ false
    unfolding matches
    literal_short t h = k.rest ∙ rw (t.is, drop_of_length-le s {i = used} h)

    pub literal_other : {b : ℕ} → TokenAt p at next (literal b) → used < length s → (get_or s used 0 ≡ b → ⊥) → matches (tokens p) s ≡ false
    literal_other t h ne = k.rest ∙ step_other s used t h ne

    pub one_more : TokenAt p at next one → used < length s → Walking p s next (used + 1)
    one_more t h = record {
      within = t.within;
      inside = omega arith;
      rest = k.rest ∙ step_one s used t h;
      reach = λ m q r. subst (λ (n : ℕ). Reach (tokens p) n q) (omega arith)
          (k.reach (suc m) q (subst (λ (l : List Token). Reach l (suc m) q) (sym t.is) (past_one r)));
    }

    pub literal_more : {b : ℕ} → TokenAt p at next (literal b) → used < length s → get_or s used 0 ≡ b → Walking p s next (used + 1)
    literal_more t h e = record {
      within = t.within;
      inside = omega arith;
      rest = k.rest ∙ step_literal s used t h e;
      reach = λ m q r. subst (λ (n : ℕ). Reach (tokens p) n q) (omega arith)
          (k.reach (suc m) q (subst (λ (l : List Token). Reach l (suc m) q) (sym t.is) (past_literal r)));
    }

-- TAILS.
from_here : (s : Bytes) (i : ℕ) → i < length s → drop i s ≡ get_or s i 0 ∷ drop (i + 1) s
from_here s i h = drop-cons s i 0 h ∙ ap (λ (n : ℕ). get_or s i 0 ∷ drop n s) (sym (add-one i))

module _ (f : Bytes → Bool) where
  pub tail_first : (s : Bytes) → f s ≡ true → some_tail f s ≡ true
  unfolding some_tail
  tail_first [] e = e
  tail_first (b ∷ s) e = rw (some_tail, e)

  pub tail_next : (b : ℕ) (s : Bytes) → f (b ∷ s) ≡ false → some_tail f (b ∷ s) ≡ some_tail f s
  unfolding some_tail
  tail_next b s e = rw (some_tail, e)

  -- no tail of the whole, so none of a part behind
  pub no_tail_behind : (s : Bytes) (k : ℕ) → some_tail f s ≡ false → some_tail f (drop k s) ≡ false
  unfolding some_tail
  no_tail_behind [] zero e = e
  no_tail_behind [] (suc k) e = e
  no_tail_behind (b ∷ s) zero e = e
  no_tail_behind (b ∷ s) (suc k) e = no_tail_behind s k (go (f (b ∷ s)) refl)
    where
      go : (v : Bool) → f (b ∷ s) ≡ v → some_tail f s ≡ false
      go true q = let z : true ≡ false = sym (tail_first (b ∷ s) q) ∙ e in let y : ◌≡◌ {A = ℕ} 0 1 = cc in absurd (omega arith)
      go false q = sym (tail_next b s q) ∙ e

  pub no_tail : (s : Bytes) → ((k : ℕ) → f (drop k s) ≡ false) → some_tail f s ≡ false
  unfolding some_tail
  no_tail [] e = e 0
  no_tail (b ∷ s) e = tail_next b s (e 0) ∙ no_tail s (λ k. e (suc k))

-- where the part behind the star matches no tail of what is left, the whole does not match
star_fails : {t : List Token} {m : ℕ} {rest : List Token} → Reach t m rest → (s : Bytes) → some_tail (matches rest) (drop m s) ≡ false → matches t s ≡ false
unfolding matches
star_fails {rest = rest} here s e = star_tails rest s ∙ e
star_fails (past_one r) [] e = refl
star_fails (past_one r) (b ∷ s) e = star_fails r s e
star_fails (past_literal r) [] e = refl
star_fails (past_literal {b = c} {t = t} r) (b ∷ s) e = go (eqb b c) refl (star_fails r s e)
  where
    go : (v : Bool) → eqb b c ≡ v → matches t s ≡ false → matches (literal c ∷ t) (b ∷ s) ≡ false
    go true q i = rw (matches, q) i
    go false q i = rw (matches, q)

-- RETRYING THE LAST STAR SUFFICES: once a later star is reached from the first place that leads to it, an earlier star need
-- not be tried again.
pub last_star : {t : List Token} {m : ℕ} {rest : List Token} → Reach t m rest → (s : Bytes)
    → matches t s ≡ some_tail (matches rest) (drop m s) → some_tail (matches t) s ≡ some_tail (matches rest) (drop m s)
last_star {t} {m} {rest} r s e = go (some_tail (matches rest) (drop m s)) refl
  where
    go : (v : Bool) → some_tail (matches rest) (drop m s) ≡ v → some_tail (matches t) s ≡ some_tail (matches rest) (drop m s)
    go true q = tail_first (matches t) s (e ∙ q) ∙ sym q
    go false q =
        no_tail (matches t) s
        (λ k. star_fails r (drop k s)
        (ap (some_tail (matches rest)) (drop-drop m k s ∙ ap (λ (n : ℕ). drop n s) (add_comm k m) ∙ sym (drop-drop k m s))
        ∙ no_tail_behind (matches rest) (drop m s) k q))
        ∙ sym q

-- THE RETRY: the first star stands before `start` and `first`; `at` is the place behind the last one passed, `from` its current place in the name.
pub record Retrying (p s : Bytes) (start first at from : ℕ) : Type 0 where
  pub within : at ≤ length p
  pub inside : from ≤ length s
  pub rest : some_tail (matches (tokens (drop start p))) (drop first s) ≡ some_tail (matches (tokens (drop at p))) (drop from s)

module _ {p s : Bytes} {start first at from : ℕ} (r : Retrying p s start first at from) where
  pub retry_whole : matches (tokens (drop at p)) (drop from s) ≡ true → true ≡ some_tail (matches (tokens (drop start p))) (drop first s)
  retry_whole e = sym (r.rest ∙ tail_first (matches (tokens (drop at p))) (drop from s) e)

  pub retry_end : matches (tokens (drop at p)) (drop from s) ≡ false → length s ≤ from → false ≡ some_tail (matches (tokens (drop start p))) (drop first s)
  unfolding some_tail
  retry_end e h =
      let n : drop from s ≡ [] = drop_of_length-le s {i = from} h in
      sym (r.rest ∙ ap (some_tail (matches (tokens (drop at p)))) n ∙ ap (matches (tokens (drop at p))) (sym n) ∙ e)

  pub retry_next : matches (tokens (drop at p)) (drop from s) ≡ false → from < length s → Retrying p s start first at (from + 1)
  retry_next e h =
      let d = from_here s from h in
      record {
        within = r.within;
        inside = omega arith;
        rest =
            r.rest ∙ ap (some_tail (matches (tokens (drop at p)))) d
            ∙ tail_next (matches (tokens (drop at p))) (get_or s from 0) (drop (from + 1) s) (ap (matches (tokens (drop at p))) (sym d) ∙ e);
      }

  pub retry_star : {next used : ℕ} → AtStar (drop at p) (drop from s) next used → Retrying p s start first (at + next) (from + used)
  retry_star {next} {used} a =
      let u : next ≤ length p - at = rw length-drop at a.within in
      let v : used ≤ length s - from = rw length-drop at a.inside in
      record {
        within = omega (arith, r.within);
        inside = omega (arith, r.inside);
        rest =
            r.rest ∙ last_star a.reach (drop from s) a.rest
            ∙ (λ z. some_tail (matches (tokens (drop-drop next at p z))) (drop-drop used from s z));
      }

-- PLACES THAT NEED NO TRY: the token is a byte, and the name has another there.
other_byte : (b : ℕ) (t : List Token) (c : ℕ) (s : Bytes) → (c ≡ b → ⊥) → matches (literal b ∷ t) (c ∷ s) ≡ false
unfolding matches
other_byte b t c s ne = rw (matches, ne_eqb c b ne)

pub byte_passed_more : {s : Bytes} {b from i : ℕ} → BytePassed s b from i → i < length s → (get_or s i 0 ≡ b → ⊥) → BytePassed s b from (i + 1)
byte_passed_more {s} {b} {from} {i} k h ne = record {
  forward = omega (arith, k.forward);
  inside = omega arith;
  rest = λ t.
      k.rest t ∙ ap (some_tail (matches (literal b ∷ t))) (from_here s i h)
      ∙ tail_next (matches (literal b ∷ t)) (get_or s i 0) (drop (i + 1) s) (other_byte b t (get_or s i 0) (drop (i + 1) s) ne);
}

-- no tail in front of the first such byte begins with it
passed_to : (b : ℕ) (t : List Token) (s : Bytes)
    → some_tail (matches (literal b ∷ t)) s ≡ some_tail (matches (literal b ∷ t)) (drop (position_or_len (λ (x : ℕ). eqb x b) s) s)
passed_to b t [] = refl
passed_to b t (x ∷ s) = go (eqb x b) refl (passed_to b t s)
  where
    f : Bytes → Bool
    f = matches (literal b ∷ t)

    n : ℕ
    n = position_or_len (λ (x : ℕ). eqb x b) s

    go : (v : Bool) → eqb x b ≡ v → some_tail f s ≡ some_tail f (drop n s) → some_tail f (x ∷ s) ≡ some_tail f (drop (cond (not (eqb x b)) (1 + n) 0) (x ∷ s))
    go true e again = ap (λ (v : Bool). some_tail f (drop (cond (not v) (1 + n) 0) (x ∷ s))) (sym e)
    go false e again =
        let later : suc n ≡ 1 + n = omega arith in
        tail_next f x s (other_byte b t x s (eqb-false x b e)) ∙ again ∙ ap (λ (m : ℕ). some_tail f (drop m (x ∷ s))) later
        ∙ ap (λ (v : Bool). some_tail f (drop (cond (not v) (1 + n) 0) (x ∷ s))) (sym e)

module _ (s : Bytes) (b from : ℕ) (h : from ≤ length s) where
  abbrev first : ℕ
  first = position_or_len (λ (x : ℕ). eqb x b) (drop from s)

  passed_first : (next : ℕ) → next ≡ from + first → BytePassed s b from next
  passed_first next e = record {
    forward = omega arith;
    inside = omega (arith, prefix_len-le-length (λ (x : ℕ). not (eqb x b)) (drop from s), length-drop from s);
    rest = λ t. passed_to b t (drop from s) ∙ ap (some_tail (matches (literal b ∷ t))) (drop-drop first from s ∙ ap (λ (n : ℕ). drop n s) (sym e));
  }

  -- the rest of the name is lent as a part of it
  module _ {o : Option ℕ} (o-is : o ≡ position (λ (x : ℕ). eqb x b) (take (length s - from) (drop from s))) where
    at_first : o ≡ position (λ (x : ℕ). eqb x b) (drop from s)
    at_first = o-is ∙ ap (position (λ (x : ℕ). eqb x b)) (take_all (length s - from) (drop from s) (omega (arith, length-drop from s)))

    pub place_found : {i : ℕ} → o ≡ Some i → BytePassed s b from (from + i)
    place_found {i} e =
        let found : position (λ (x : ℕ). eqb x b) (drop from s) ≡ Some i = sym at_first ∙ e in
        let here : first ≡ i = grind (arith, common_steps, nat_tests) in
        passed_first (from + i) (omega arith)

    pub place_missing : o ≡ None → BytePassed s b from (length s)
    place_missing e =
        let none : position (λ (x : ℕ). eqb x b) (drop from s) ≡ None = sym at_first ∙ e in
        let all : length (drop from s) ≤ first = grind (arith, common_steps, nat_tests) in
        passed_first (length s) (omega (arith, prefix_len-le-length (λ (x : ℕ). not (eqb x b)) (drop from s), length-drop from s))

pub retry_passed : {p s : Bytes} {start first at from i : ℕ} → Retrying p s start first at from → Passed (tokens (drop at p)) s from i → Retrying p s start first at i
retry_passed r k = record { within = r.within; inside = k.inside; rest = r.rest ∙ k.rest }

-- WHAT EACH ANSWER SAYS.
pub walked_whole : (p s : Bytes) {w : Walk} → Walked p s w → w ≡ walk.Whole → matches (tokens p) s ≡ true
walked_whole p s a e = subst (Walked p s) e a

pub walked_fails : (p s : Bytes) {w : Walk} → Walked p s w → w ≡ walk.Fails → matches (tokens p) s ≡ false
walked_fails p s a e = subst (Walked p s) e a

pub walked_star : (p s : Bytes) {w : Walk} {next used : ℕ} → Walked p s w → w ≡ walk.Star next used → AtStar p s next used
walked_star p s a e = subst (Walked p s) e a

-- a lent tail is what is left from its place on
tail_is : {A : Type 0} (at : ℕ) (l : List A) → take (length l - at) (drop at l) ≡ drop at l
tail_is at l = take_all (length l - at) (drop at l) (rw length-drop (omega arith))

module _ (p s : Bytes) (at from : ℕ) where
  walked_tails : (w : Walk) → Walked (take (length p - at) (drop at p)) (take (length s - from) (drop from s)) w → Walked (drop at p) (drop from s) w
  walked_tails w a =
      subst (λ (x : Bytes). Walked (drop at p) x w) (tail_is from s) (subst (λ (x : Bytes). Walked x (take (length s - from) (drop from s)) w) (tail_is at p) a)

  module _ {w : Walk} (a : Walked (take (length p - at) (drop at p)) (take (length s - from) (drop from s)) w) where
    pub tails_whole : w ≡ walk.Whole → matches (tokens (drop at p)) (drop from s) ≡ true
    tails_whole = walked_whole _ _ (walked_tails w a)

    pub tails_fail : w ≡ walk.Fails → matches (tokens (drop at p)) (drop from s) ≡ false
    tails_fail = walked_fails _ _ (walked_tails w a)

    pub tails_star : {next used : ℕ} → w ≡ walk.Star next used → AtStar (drop at p) (drop from s) next used
    tails_star = walked_star _ _ (walked_tails w a)

module _ (p s : Bytes) where
  pub glob_whole : {w : Walk} → Walked p s w → w ≡ walk.Whole → true ≡ glob p s
  unfolding glob
  glob_whole a e = sym (walked_whole p s a e)

  pub glob_fails : {w : Walk} → Walked p s w → w ≡ walk.Fails → false ≡ glob p s
  unfolding glob
  glob_fails a e = sym (walked_fails p s a e)

  pub glob_star : {next used : ℕ} {b : Bool} → AtStar p s next used → b ≡ some_tail (matches (tokens (drop next p))) (drop used s) → b ≡ glob p s
  unfolding glob
  glob_star a e = e ∙ sym a.rest

pub stepped_one : (p : Bytes) (at : ℕ) {t : Step} {next : ℕ} → Stepped p at t → t ≡ step.One next → TokenAt p at next one
stepped_one p at a e = subst (Stepped p at) e a

pub stepped_byte : (p : Bytes) (at : ℕ) {t : Step} {b next : ℕ} → Stepped p at t → t ≡ step.Byte b next → TokenAt p at next (literal b)
stepped_byte p at a e = subst (Stepped p at) e a
