-- Laws of the end of a name: what follows the last star is needed by every match, has no star, and so takes an end of one length. Assumes nothing.
use mathlib.Core.Path.{◌≡◌, refl, sym, ap, ◌∙◌}
use mathlib.Core.Bool.{Bool, true, false, not}
use mathlib.Core.List.{List, [], ◌∷◌}
use Rattle.std.specs.Prelude.{Option, None, Some}
use Prim.Native.Nat.{ℕ, zero, suc, ◌+◌, ◌-◌, ◌<◌, ◌≤◌}
use native.Mathlib.Omega.{arith}
use native.Mathlib.Decide.{dec_le}
use borrow.Author.Tests.{eqb-true, eqb-false, le-leb, lt-leb, not-true}
use lib.Dec.{eqb, leb}
use lib.ListN.{length, get_or, drop, length-drop, drop_of_length-le}
use lib.Seq.{drop-nil, drop-drop}
use Rattle.base_key.specs.Bytes.{Bytes}
use Rattle.base_key.proofs.Bytes.{neither}
use Rattle.command_spec.specs.declared.pattern.Compared.{Compared}
use Rattle.command_spec.specs.declared.pattern.Compared.TheVariants.{Matches, Differs, DiffersByTheEnd}
use Rattle.command_spec.specs.Glob.{Token, literal, one, star, tokens, matches, some_tail, glob, or_else, after_last_star, end_missing, told, glob_told}
use Rattle.command_spec.specs.GlobWalk.{TokenAt, AtStar, behind_star, LastStar, EndFound}
use Rattle.command_glob.proofs.Globbing.{step_one, step_literal, step_other, star_tails, tail_first, tail_next, no_tail_behind, no_tail, Retrying, glob_star}

-- EVERY MATCH NEEDS ITS END: where no end of the name matches what follows the last star, the whole does not match.
literal_fails : (c : ℕ) (p : List Token) (b : ℕ) (s : Bytes) → matches p s ≡ false → matches (literal c ∷ p) (b ∷ s) ≡ false
unfolding matches
literal_fails c p b s e = go (eqb b c) refl
  where
    go : (v : Bool) → eqb b c ≡ v → matches (literal c ∷ p) (b ∷ s) ≡ false
    go true q = rw (matches, q) e
    go false q = rw (matches, q)

pub end_needed : (p : List Token) {t : List Token} → after_last_star p ≡ Some t → (s : Bytes) → some_tail (matches t) s ≡ false → matches p s ≡ false
unfolding after_last_star matches
end_needed [] e s f = let z : ◌≡◌ {A = ℕ} 0 1 = cc in absurd (omega arith)
end_needed (literal c ∷ p) e [] f = refl
end_needed (literal c ∷ p) {t} e (b ∷ s) f = literal_fails c p b s (end_needed p e s (no_tail_behind (matches t) (b ∷ s) 1 f))
end_needed (one ∷ p) e [] f = refl
end_needed (one ∷ p) {t} e (b ∷ s) f = end_needed p e s (no_tail_behind (matches t) (b ∷ s) 1 f)
end_needed (star ∷ p) {t} e s f = star_tails p s ∙ go (after_last_star p) refl e (λ q k. end_needed p q (drop k s) (no_tail_behind (matches t) s k f))
  where
    go : (o : Option (List Token)) → after_last_star p ≡ o → or_else o (Some p) ≡ Some t → (after_last_star p ≡ Some t → (k : ℕ) → matches p (drop k s) ≡ false)
        → some_tail (matches p) s ≡ false
    go None q i again = let same : p ≡ t = cc in ap (λ (x : List Token). some_tail (matches x) s) same ∙ f
    go (Some u) q i again = no_tail (matches p) s (again (q ∙ i))

-- WHAT FOLLOWS THE LAST STAR HAS NO STAR.
pub last_plain : (p : List Token) {t : List Token} → after_last_star p ≡ Some t → after_last_star t ≡ None
unfolding after_last_star
last_plain [] e = let z : ◌≡◌ {A = ℕ} 0 1 = cc in absurd (omega arith)
last_plain (literal c ∷ p) e = last_plain p e
last_plain (one ∷ p) e = last_plain p e
last_plain (star ∷ p) {t} e = go (after_last_star p) refl e (last_plain p)
  where
    go : (o : Option (List Token)) → after_last_star p ≡ o → or_else o (Some p) ≡ Some t → (after_last_star p ≡ Some t → after_last_star t ≡ None) → after_last_star t ≡ None
    go None q i again = let same : p ≡ t = cc in ap after_last_star (sym same) ∙ q
    go (Some u) q i again = again (q ∙ i)

star_first : (p : List Token) → after_last_star (star ∷ p) ≡ None → ⊥
unfolding after_last_star
star_first p e = go (after_last_star p) e
  where
    go : (o : Option (List Token)) → or_else o (Some p) ≡ None → ⊥
    go None q = let z : ◌≡◌ {A = ℕ} 0 1 = cc in omega arith
    go (Some u) q = let z : ◌≡◌ {A = ℕ} 0 1 = cc in omega arith

-- EACH TOKEN THAT IS NO STAR TAKES ONE BYTE.
plain_length : (t : List Token) → after_last_star t ≡ None → (s : Bytes) → matches t s ≡ true → length s ≡ length t
unfolding after_last_star matches
plain_length [] n [] e = refl
plain_length [] n (b ∷ s) e = neither refl (sym e)
plain_length (literal c ∷ p) n [] e = neither refl (sym e)
plain_length (literal c ∷ p) n (b ∷ s) e = ap suc (plain_length p n s (go (matches p s) refl))
  where
    go : (v : Bool) → matches p s ≡ v → matches p s ≡ true
    go true q = q
    go false q = neither e (literal_fails c p b s q)
plain_length (one ∷ p) n [] e = neither refl (sym e)
plain_length (one ∷ p) n (b ∷ s) e = ap suc (plain_length p n s e)
plain_length (star ∷ p) n s e = absurd (star_first p n)

module _ (t : List Token) (n : after_last_star t ≡ None) where
  other_length : (s : Bytes) → (length s ≡ length t → ⊥) → matches t s ≡ false
  other_length s ne = go (matches t s) refl
    where
      go : (v : Bool) → matches t s ≡ v → matches t s ≡ false
      go true q = absurd (ne (plain_length t n s q))
      go false q = q

  -- a name that is too short has no such end
  pub end_short : (s : Bytes) → length s < length t → some_tail (matches t) s ≡ false
  end_short s h = no_tail (matches t) s (λ k. other_length (drop k s) (λ e. omega (arith, length-drop k s)))

  -- the one end that can match
  pub end_only : (s : Bytes) → length t ≤ length s → some_tail (matches t) s ≡ matches t (drop (length s - length t) s)
  unfolding some_tail
  end_only [] h = ap (matches t) (sym (drop-nil (0 - length t)))
  end_only (b ∷ s) h = go (eqb (suc (length s)) (length t)) refl (end_only s)
    where
      whole : (v : Bool) → matches t (b ∷ s) ≡ v → length s < length t → some_tail (matches t) (b ∷ s) ≡ v
      whole true q l = tail_first (matches t) (b ∷ s) q
      whole false q l = tail_next (matches t) b s q ∙ end_short s l

      go : (v : Bool) → eqb (suc (length s)) (length t) ≡ v → (length t ≤ length s → some_tail (matches t) s ≡ matches t (drop (length s - length t) s))
          → some_tail (matches t) (b ∷ s) ≡ matches t (drop (suc (length s) - length t) (b ∷ s))
      go true q again =
          let l = eqb-true (suc (length s)) (length t) q in
          let z : suc (length s) - length t ≡ 0 = omega arith in
          whole (matches t (b ∷ s)) refl (omega arith) ∙ ap (λ (k : ℕ). matches t (drop k (b ∷ s))) (sym z)
      go false q again =
          let l : length t ≤ length s = omega (arith, eqb-false (suc (length s)) (length t) q) in
          let z : suc (length s) - length t ≡ suc (length s - length t) = omega arith in
          tail_next (matches t) b s (other_length (b ∷ s) (eqb-false (suc (length s)) (length t) q)) ∙ again l ∙ ap (λ (k : ℕ). matches t (drop k (b ∷ s))) (sym z)

-- SEEKING THE LAST STAR: `behind` is the place behind the last star so far, or 0, and `count` the tokens from there on.
behind_some : (p : Bytes) (n : ℕ) → 0 < n → behind_star p n ≡ Some (tokens (drop n p))
unfolding behind_star
behind_some p zero h = absurd (omega arith)
behind_some p (suc n) h = refl

else_none : (o : Option (List Token)) → or_else o None ≡ o
else_none None = refl
else_none (Some t) = refl

else_some : (o : Option (List Token)) (t : List Token) (other : Option (List Token)) → or_else (or_else o (Some t)) other ≡ or_else o (Some t)
else_some None t other = refl
else_some (Some u) t other = refl

pub record Seeking (p : Bytes) (at behind count : ℕ) : Type 0 where
  pub within : at ≤ length p
  pub few : behind + count ≤ at
  pub counted : length (tokens (drop behind p)) ≡ count + length (tokens (drop at p))
  pub last : after_last_star (tokens p) ≡ or_else (after_last_star (tokens (drop at p))) (behind_star p behind)

pub seeking_none : (p : Bytes) → Seeking p 0 0 0
unfolding behind_star
seeking_none p = record { within = omega arith; few = omega arith; counted = omega arith; last = sym (else_none (after_last_star (tokens p))) }

module _ {p : Bytes} {at behind count : ℕ} (k : Seeking p at behind count) where
  module _ {next : ℕ} where
    pub seeking_star : TokenAt p at next star → Seeking p next next 0
    unfolding after_last_star
    seeking_star t =
        let q = tokens (drop next p) in
        record {
          within = t.within;
          few = omega arith;
          counted = omega arith;
          last =
              k.last ∙ ap (λ (l : List Token). or_else (after_last_star l) (behind_star p behind)) t.is
              ∙ else_some (after_last_star q) q (behind_star p behind)
              ∙ ap (or_else (after_last_star q)) (sym (behind_some p next (omega (arith, t.forward))));
        }

    seeking_plain : {x : Token} → ((l : List Token) → after_last_star (x ∷ l) ≡ after_last_star l) → TokenAt p at next x → Seeking p next behind (count + 1)
    seeking_plain same t = record {
      within = t.within;
      few = omega (arith, k.few, t.forward);
      counted = omega (arith, k.counted, ap length t.is);
      last = k.last ∙ ap (λ (o : Option (List Token)). or_else o (behind_star p behind)) (ap after_last_star t.is ∙ same (tokens (drop next p)));
    }

    pub seeking_one : TokenAt p at next one → Seeking p next behind (count + 1)
    unfolding after_last_star
    seeking_one = seeking_plain (λ l. refl)

    pub seeking_byte : {b : ℕ} → TokenAt p at next (literal b) → Seeking p next behind (count + 1)
    unfolding after_last_star
    seeking_byte = seeking_plain (λ l. refl)

  pub sought : tokens (drop at p) ≡ [] → LastStar p behind count
  unfolding after_last_star
  sought e = record {
    within = omega (arith, k.within, k.few);
    is = k.last ∙ ap (λ (l : List Token). or_else (after_last_star l) (behind_star p behind)) e;
    counted = k.counted ∙ ap (λ (l : List Token). count + length l) e ∙ omega arith;
  }

-- what the pattern has from there on has no star
from_plain : (p : Bytes) (behind : ℕ) → after_last_star (tokens p) ≡ behind_star p behind → after_last_star (tokens (drop behind p)) ≡ None
unfolding behind_star
from_plain p zero e = e
from_plain p (suc n) e = last_plain (tokens p) e

-- BYTE FOR BYTE: the tokens from `behind` up to `at` match the name from `end` up to `used`.
pub record Pairing (p s : Bytes) (behind end at used : ℕ) : Type 0 where
  pub within : at ≤ length p
  pub inside : used ≤ length s
  pub counted : length (tokens (drop at p)) ≡ length s - used
  pub plain : after_last_star (tokens (drop at p)) ≡ None
  pub rest : matches (tokens (drop behind p)) (drop end s) ≡ matches (tokens (drop at p)) (drop used s)

pub pairing_none : {p s : Bytes} {behind count end : ℕ} → LastStar p behind count → count ≡ length s - end → end ≤ length s → Pairing p s behind end behind end
pairing_none {p} {s} {behind} {end = end} a e h = record { within = a.within; inside = h; counted = a.counted ∙ e; plain = from_plain p behind a.is; rest = refl }

module _ {p s : Bytes} {behind end at used : ℕ} (k : Pairing p s behind end at used) where
  pub paired_all : tokens (drop at p) ≡ [] → true ≡ matches (tokens (drop behind p)) (drop end s)
  unfolding matches
  paired_all e =
      let z : length s ≤ used = omega (arith, k.counted, ap length e, k.inside) in
      sym (k.rest ∙ (λ i. matches (e i) (drop_of_length-le s {i = used} z i)))

  module _ {next : ℕ} where
    pub paired_star : TokenAt p at next star → false ≡ matches (tokens (drop behind p)) (drop end s)
    paired_star t = absurd (star_first (tokens (drop next p)) (ap after_last_star (sym t.is) ∙ k.plain))

    pub paired_room : {x : Token} → TokenAt p at next x → used < length s
    paired_room t = omega (arith, k.counted, ap length t.is)

    pub pairing_one : TokenAt p at next one → Pairing p s behind end next (used + 1)
    unfolding after_last_star
    pairing_one t = record {
      within = t.within;
      inside = omega (arith, paired_room t);
      counted = omega (arith, k.counted, ap length t.is);
      plain = ap after_last_star (sym t.is) ∙ k.plain;
      rest = k.rest ∙ step_one s used t (paired_room t);
    }

    module _ {b : ℕ} (t : TokenAt p at next (literal b)) where
      pub pairing_byte : get_or s used 0 ≡ b → Pairing p s behind end next (used + 1)
      unfolding after_last_star
      pairing_byte e = record {
        within = t.within;
        inside = omega (arith, paired_room t);
        counted = omega (arith, k.counted, ap length t.is);
        plain = ap after_last_star (sym t.is) ∙ k.plain;
        rest = k.rest ∙ step_literal s used t (paired_room t) e;
      }

      pub paired_other : (get_or s used 0 ≡ b → ⊥) → false ≡ matches (tokens (drop behind p)) (drop end s)
      paired_other ne = sym (k.rest ∙ step_other s used t (paired_room t) ne)

-- DOES SOME END MATCH? What follows the last star takes one end only.
module _ {p : Bytes} (s : Bytes) {behind count : ℕ} (a : LastStar p behind count) where
  follows_plain : after_last_star (tokens (drop behind p)) ≡ None
  follows_plain = from_plain p behind a.is

  pub name_short : length s < count → false ≡ some_tail (matches (tokens (drop behind p))) s
  name_short h = sym (end_short (tokens (drop behind p)) follows_plain s (omega (arith, a.counted)))

  end_last : count ≤ length s → LastStar p behind (length s - (length s - count))
  end_last h = record { within = a.within; is = a.is; counted = a.counted ∙ omega arith }

  end_exact : count ≤ length s → some_tail (matches (tokens (drop behind p))) s ≡ matches (tokens (drop behind p)) (drop (length s - count) s)
  end_exact h =
      end_only (tokens (drop behind p)) follows_plain s (omega (arith, a.counted))
      ∙ ap (λ (n : ℕ). matches (tokens (drop behind p)) (drop (length s - n) s)) a.counted

  pub end_by : {b : Bool} → count ≤ length s → b ≡ matches (tokens (drop behind p)) (drop (length s - count) s) → b ≡ some_tail (matches (tokens (drop behind p))) s
  end_by h e = e ∙ sym (end_exact h)

  module _ {b : Bool} (is : b ≡ some_tail (matches (tokens (drop behind p))) s) (e : b ≡ true) where
    pub end_room : count ≤ length s
    end_room = go (dec_le count (length s))
      where
        go : Dec (count ≤ length s) → count ≤ length s
        go (Prim.yes h) = h
        go (Prim.no h) = neither (sym is ∙ e) (sym (name_short (omega arith)))

    pub end_there : EndFound p s behind (length s - count)
    end_there = record {
      inside = omega arith;
      last = end_last end_room;
      found = sym (end_exact end_room) ∙ sym is ∙ e;
    }

-- THE END HAS MATCHED, so behind the last star a tail matches exactly if it is not too short.
module _ {p s : Bytes} {behind end : ℕ} (f : EndFound p s behind end) where
  last_tail : (from : ℕ) → from ≤ length s → leb from end ≡ some_tail (matches (tokens (drop behind p))) (drop from s)
  last_tail from h = go (dec_le from end)
    where
      t : List Token
      t = tokens (drop behind p)

      plain : after_last_star t ≡ None
      plain = from_plain p behind f.last.is

      go : Dec (from ≤ end) → leb from end ≡ some_tail (matches t) (drop from s)
      go (Prim.yes l) =
          let n : from + (length (drop from s) - length t) ≡ end = omega (arith, f.inside, f.last.counted, length-drop from s) in
          le-leb from end l ∙ sym f.found ∙ ap (λ (k : ℕ). matches t (drop k s)) (sym n)
          ∙ ap (matches t) (sym (drop-drop (length (drop from s) - length t) from s))
          ∙ sym (end_only t plain (drop from s) (omega (arith, f.inside, f.last.counted, length-drop from s)))
      go (Prim.no l) =
          lt-leb from end (omega arith) ∙ sym (end_short t plain (drop from s) (omega (arith, f.last.counted, length-drop from s)))

  pub retry_last : {start first at from : ℕ} → Retrying p s start first at from → at ≡ behind → leb from end ≡ some_tail (matches (tokens (drop start p))) (drop first s)
  retry_last {from = from} r e = last_tail from r.inside ∙ ap (λ (n : ℕ). some_tail (matches (tokens (drop n p))) (drop from s)) (sym e) ∙ sym r.rest

  pub front_last : {next used : ℕ} → AtStar p s next used → next ≡ behind → leb used end ≡ glob p s
  front_last {used = used} a e = glob_star p s a (last_tail used a.inside ∙ ap (λ (n : ℕ). some_tail (matches (tokens (drop n p))) (drop used s)) (sym e))

  -- without a star the end is the whole name
  pub front_none : behind ≡ 0 → eqb end 0 ≡ glob p s
  unfolding glob
  front_none z = go (eqb end 0) refl
    where
      all : tokens (drop behind p) ≡ tokens p
      all = ap (λ (n : ℕ). tokens (drop n p)) z

      plain : after_last_star (tokens p) ≡ None
      plain = ap after_last_star (sym all) ∙ from_plain p behind f.last.is

      go : (v : Bool) → eqb end 0 ≡ v → v ≡ matches (tokens p) s
      go true q = sym f.found ∙ (λ i. matches (all i) (drop (eqb-true end 0 q i) s))
      go false q = sym (other_length (tokens p) plain s (λ e. eqb-false end 0 q (omega (arith, f.inside, f.last.counted, ap length all, e))))

-- THE ANSWER.
whole_fails : (f : Bytes → Bool) (s : Bytes) → some_tail f s ≡ false → f s ≡ false
whole_fails f s e = go (f s) refl
  where
    go : (v : Bool) → f s ≡ v → f s ≡ false
    go true q = neither (tail_first f s q) e
    go false q = q

module _ (p s : Bytes) where
  missing_none : after_last_star (tokens p) ≡ None → end_missing (after_last_star (tokens p)) s ≡ false
  unfolding end_missing
  missing_none e = ap (λ (o : Option (List Token)). end_missing o s) e

  missing_not : {t : List Token} → after_last_star (tokens p) ≡ Some t → end_missing (after_last_star (tokens p)) s ≡ not (some_tail (matches t) s)
  unfolding end_missing
  missing_not e = ap (λ (o : Option (List Token)). end_missing o s) e

  pub told_yes : {g : Bool} → g ≡ glob p s → g ≡ true → Matches ≡ glob_told p s
  unfolding glob_told
  told_yes a e = ap (λ (b : Bool). told b (end_missing (after_last_star (tokens p)) s)) (sym e ∙ a)

  told_as : {g m : Bool} → glob p s ≡ g → end_missing (after_last_star (tokens p)) s ≡ m → told g m ≡ glob_told p s
  unfolding glob_told
  told_as a e = λ i. told (sym a i) (sym e i)

  module _ {behind count : ℕ} (l : LastStar p behind count) {b : Bool} (is : b ≡ some_tail (matches (tokens (drop behind p))) s) where
    -- the end is there
    pub told_no : {g : Bool} → b ≡ true → g ≡ glob p s → g ≡ false → Differs ≡ glob_told p s
    unfolding behind_star
    told_no e i f = told_as (sym i ∙ f) (go behind l.is (sym is ∙ e))
      where
        go : (n : ℕ) → after_last_star (tokens p) ≡ behind_star p n → some_tail (matches (tokens (drop n p))) s ≡ true → end_missing (after_last_star (tokens p)) s ≡ false
        go zero q h = missing_none q
        go (suc n) q h = missing_not q ∙ ap not h

    -- it is not
    pub told_end : b ≡ false → 0 < behind → DiffersByTheEnd ≡ glob_told p s
    unfolding glob
    told_end e h =
        let q = l.is ∙ behind_some p behind h in
        let z = sym is ∙ e in
        told_as (end_needed (tokens p) q s z) (missing_not q ∙ ap not z)

    pub told_none : b ≡ false → behind ≤ 0 → Differs ≡ glob_told p s
    unfolding glob behind_star
    told_none e h = go behind (omega arith) l.is (sym is ∙ e)
      where
        go : (n : ℕ) → n ≡ 0 → after_last_star (tokens p) ≡ behind_star p n → some_tail (matches (tokens (drop n p))) s ≡ false → Differs ≡ glob_told p s
        go zero z q f = told_as (whole_fails (matches (tokens p)) s f) (missing_none q)
        go (suc n) z q f = absurd (omega arith)

    -- and so there is no match
    pub end_refuses : b ≡ false → false ≡ glob p s
    unfolding glob behind_star
    end_refuses e = go behind l.is (sym is ∙ e)
      where
        go : (n : ℕ) → after_last_star (tokens p) ≡ behind_star p n → some_tail (matches (tokens (drop n p))) s ≡ false → false ≡ matches (tokens p) s
        go zero q f = sym (whole_fails (matches (tokens p)) s f)
        go (suc n) q f = sym (end_needed (tokens p) q s f)

-- THE SAME YES OR NO, and a no by the end exactly if the pattern has a star and no end of the name matches what follows the last.
abbrev pub yes : Compared → Bool
yes Matches = true
yes Differs = false
yes DiffersByTheEnd = false

pub same_answer : (p s : Bytes) → yes (glob_told p s) ≡ glob p s
unfolding glob_told
same_answer p s = go (glob p s) (end_missing (after_last_star (tokens p)) s)
  where
    go : (g m : Bool) → yes (told g m) ≡ g
    go true m = refl
    go false true = refl
    go false false = refl

-- no end of the name matches what follows the last star
pub record ByTheEnd (p s : Bytes) : Type 0 where
  pub behind : List Token
  pub is : after_last_star (tokens p) ≡ Some behind
  pub none_matches : (k : ℕ) → matches behind (drop k s) ≡ false

pub by_the_end : (p s : Bytes) → ByTheEnd p s → glob_told p s ≡ DiffersByTheEnd
unfolding glob
by_the_end p s h =
    let z = no_tail (matches h.behind) s h.none_matches in
    sym (told_as p s (end_needed (tokens p) h.is s z) (missing_not p s h.is ∙ ap not z))

pub only_by_the_end : (p s : Bytes) → glob_told p s ≡ DiffersByTheEnd → ByTheEnd p s
unfolding glob_told end_missing
only_by_the_end p s e = go (after_last_star (tokens p)) refl (missed (glob p s) (end_missing (after_last_star (tokens p)) s) e)
  where
    missed : (g m : Bool) → told g m ≡ DiffersByTheEnd → m ≡ true
    missed true m q = let z : ◌≡◌ {A = ℕ} 0 1 = cc in absurd (omega arith)
    missed false true q = refl
    missed false false q = let z : ◌≡◌ {A = ℕ} 0 1 = cc in absurd (omega arith)

    go : (o : Option (List Token)) → after_last_star (tokens p) ≡ o → end_missing o s ≡ true → ByTheEnd p s
    go None q f = neither refl (sym f)
    go (Some t) q f = record { behind = t; is = q; none_matches = λ k. whole_fails (matches t) (drop k s) (no_tail_behind (matches t) s k (not-true _ f)) }
