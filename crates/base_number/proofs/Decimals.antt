-- The laws of `digits`: the highest digits are those of a tenth of the number. Assumes nothing.
use mathlib.Core.Path.{◌≡◌, refl, sym, ap, ◌∙◌}
use mathlib.Core.Bool.{Bool, true, false}
use mathlib.Core.List.{List, [], ◌∷◌, ◌++◌, append_assoc, append-nil}
use Prim.Native.Nat.{ℕ, zero, suc, ◌+◌, ◌-◌, ◌*◌, ◌/◌, ◌%◌, ◌^◌, ◌≤◌, ◌<◌}
use native.Mathlib.Decide.{dec_lt}
use native.Mathlib.Omega.{arith}
use lib.Dec.{ltb}
use lib.IntN.{ℤ, pos, negsuc}
use lib.Signed.{mag}
use lib.ListN.{length, take, drop, set, get_or, replicate, length-append, length-set, take-append-drop}
use lib.Seq.{take-suc, set_at, length-take-le}
use borrow.Author.Tests.{lt-ltb, le-ltb, ltb-false}
use Rattle.std.proofs.Common.{Option, Some, None, IfNone, IfSome, unwrap_or}
use Rattle.base_writing.specs.Puts.{Puts}
use Rattle.base_writing.proofs.Puts.{wrote, full}
use Rattle.base_number.specs.Decimal.{digits_within, digits, decimal}

-- room for n + 1 digits is enough
enough : (room room' n : ℕ) → n < room → n < room' → digits_within room n ≡ digits_within room' n
unfolding digits_within
enough zero room' n h h' = absurd (omega arith)
enough (suc room) zero n h h' = absurd (omega arith)
enough (suc room) (suc room') n h h' = go (ltb n 10) refl (enough room room' (n / 10))
  where
    go : (b : Bool) → ltb n 10 ≡ b → (n / 10 < room → n / 10 < room' → digits_within room (n / 10) ≡ digits_within room' (n / 10)) → digits_within (suc room) n ≡ digits_within (suc room') n
    go true e again = rw e refl
    go false e again =
        let ten : 10 ≤ n = ltb-false n 10 e in
        rw e (ap (λ (l : List ℕ). l ++ (48 + n % 10) ∷ []) (again (omega arith) (omega arith)))

-- a number below ten is its digit
pub digits_one : (n : ℕ) → n < 10 → digits n ≡ (48 + n % 10) ∷ []
unfolding digits digits_within
digits_one n h = rw (lt-ltb n 10 h) refl

-- any other is the digits of a tenth of it, and then the last
pub digits_more : (n : ℕ) → 10 ≤ n → digits n ≡ digits (n / 10) ++ (48 + n % 10) ∷ []
unfolding digits digits_within
digits_more n h = rw (le-ltb n 10 h) (ap (λ (l : List ℕ). l ++ (48 + n % 10) ∷ []) (enough n (suc (n / 10)) (n / 10) (omega arith) (omega arith)))

-- HOW MANY
tenth : (n k : ℕ) → n < 10 * k → n / 10 < k
tenth n k h = omega arith

pub digits_few : (k n : ℕ) → n < 10 ^ suc k → length (digits n) ≤ suc k
digits_few zero n h = let e = ap length (digits_one n (omega arith)) in omega arith
digits_few (suc k) n h = go (dec_lt n 10) (digits_few k (n / 10) (tenth n (10 ^ suc k) (omega arith)))
  where
    go : Dec (n < 10) → length (digits (n / 10)) ≤ suc k → length (digits n) ≤ suc (suc k)
    go (yes low) ih = let e = ap length (digits_one n low) in omega arith
    go (no high) ih =
        let e = ap length (digits_more n (omega arith)) ∙ length-append (digits (n / 10)) ((48 + n % 10) ∷ []) in
        omega arith

-- a number of 64 bits with its sign
pub decimal_few : (z : ℤ) → mag z < 2 ^ 63 → length (decimal z) ≤ 20
unfolding decimal
decimal_few (pos n) h = let f = digits_few 18 n (omega arith) in omega arith
decimal_few (negsuc n) h = let f = digits_few 18 (suc n) (omega arith) in omega arith

power_positive : (k : ℕ) → 0 < 10 ^ k
power_positive zero = omega arith
power_positive (suc k) = omega (arith, power_positive k)

-- at least as many as powers of ten are not above it
digits_many : (k n : ℕ) → 10 ^ k ≤ n → suc k ≤ length (digits n)
digits_many zero n h = go (dec_lt n 10)
  where
    go : Dec (n < 10) → 1 ≤ length (digits n)
    go (yes low) = let e = ap length (digits_one n low) in omega arith
    go (no high) = let e = ap length (digits_more n (omega arith)) ∙ length-append (digits (n / 10)) ((48 + n % 10) ∷ []) in omega arith
digits_many (suc k) n h =
    let p = power_positive k in
    let e = ap length (digits_more n (omega arith)) ∙ length-append (digits (n / 10)) ((48 + n % 10) ∷ []) in
    let ih = digits_many k (n / 10) (omega arith) in
    omega arith

-- one more than the logarithm, and one for 0
pub digits_counted : (n : ℕ) (log : Option ℕ) → IfNone log (n ≡ 0) → IfSome log (λ k. 10 ^ k ≤ n) → IfSome log (λ k. n < 10 * 10 ^ k) → unwrap_or log 0 + 1 ≡ length (digits n)
digits_counted n None none low high = let e = ap length (digits_one n (omega arith)) in omega arith
digits_counted n (Some k) none low high = let m = digits_many k n low in let f = digits_few k n (omega arith) in omega arith

-- WRITING, from the last digit to the first
-- the last `count` digits of n
abbrev last_digits : ℕ → ℕ → List ℕ
last_digits zero n = []
last_digits (suc count) n = last_digits count (n / 10) ++ (48 + n % 10) ∷ []

all_within : (room n : ℕ) → n < room → last_digits (length (digits n)) n ≡ digits n
all_within zero n h = absurd (omega arith)
all_within (suc room) n h = go (dec_lt n 10) (all_within room (n / 10))
  where
    go : Dec (n < 10) → (n / 10 < room → last_digits (length (digits (n / 10))) (n / 10) ≡ digits (n / 10)) → last_digits (length (digits n)) n ≡ digits n
    go (yes low) again = rw (digits_one n low) refl
    go (no high) again =
        let ten : 10 ≤ n = omega arith in
        let size : length (digits n) ≡ suc (length (digits (n / 10))) = ap length (digits_more n ten) ∙ simp length-append (omega arith) in
        ap (λ (k : ℕ). last_digits k n) size ∙ ap (λ (l : List ℕ). l ++ (48 + n % 10) ∷ []) (again (omega arith)) ∙ sym (digits_more n ten)

-- the digits from i on are written, and those of `rest` are left
pub record Filled (n count : ℕ) (entry : List ℕ) (rest i : ℕ) (out : List ℕ) : Type 0 where
  pub written : List ℕ
  pub same : last_digits i rest ++ written ≡ digits n
  pub all : count ≡ length (digits n)
  pub within : i ≤ count
  pub fits : count ≤ length entry
  pub kept : length out ≡ length entry
  pub buffer : out ≡ take i entry ++ (written ++ drop count entry)

-- digits that do not fit
pub digits_too_long : (n : ℕ) {count : ℕ} {entry exit : List ℕ} → count ≡ length (digits n) → length entry < count → exit ≡ replicate (length entry) 0 → Puts (digits n) entry None exit
digits_too_long n e h zeros = full (omega arith) zeros

pub filled_none : (n : ℕ) {count : ℕ} {entry : List ℕ} → count ≡ length (digits n) → count ≤ length entry → Filled n count entry n count entry
filled_none n {count} {entry} e h =
    record {
      written = [];
      same = append-nil (last_digits count n) ∙ ap (λ (k : ℕ). last_digits k n) e ∙ all_within (suc n) n (omega arith);
      all = e;
      within = omega arith;
      fits = h;
      kept = refl;
      buffer = sym (take-append-drop count entry);
    }

filled_next : {n count : ℕ} {entry : List ℕ} {rest i : ℕ} {out : List ℕ} (j : ℕ) → i ≡ suc j → Filled n count entry rest i out → Filled n count entry (rest / 10) j (set out j (48 + rest % 10))
filled_next {n} {count} {entry} {rest} {i} {out} j e g =
    let digit : ℕ = 48 + rest % 10 in
    let behind : List ℕ = g.written ++ drop count entry in
    let inside : j < length entry = omega (arith, g.within, g.fits) in
    let front : take i entry ≡ take j entry ++ get_or entry j 0 ∷ [] = ap (λ (k : ℕ). take k entry) e ∙ take-suc entry j 0 inside in
    record {
      written = digit ∷ g.written;
      same = sym (append_assoc (last_digits j (rest / 10)) (digit ∷ []) g.written) ∙ ap (λ (k : ℕ). last_digits k rest ++ g.written) (sym e) ∙ g.same;
      all = g.all;
      within = omega (arith, g.within);
      fits = g.fits;
      kept = length-set out j digit ∙ g.kept;
      buffer =
          ap (λ (l : List ℕ). set l j digit) (g.buffer ∙ ap (λ (l : List ℕ). l ++ behind) front ∙ append_assoc (take j entry) (get_or entry j 0 ∷ []) behind)
          ∙ set_at (take j entry) (get_or entry j 0) behind digit j (length-take-le j entry (omega arith));
    }

module _ {n count : ℕ} {entry : List ℕ} {rest i : ℕ} {out : List ℕ} (g : Filled n count entry rest i out) where
  pub filled_more : 0 < i → Filled n count entry (rest / 10) (i - 1) (set out (i - 1) (48 + rest % 10))
  filled_more h = filled_next (i - 1) (omega arith) g

  pub filled_all : i ≤ 0 → Puts (digits n) entry (Some count) out
  filled_all h =
      let none : i ≡ 0 = omega arith in
      let text : g.written ≡ digits n = ap (λ (k : ℕ). last_digits k rest ++ g.written) (sym none) ∙ g.same in
      wrote g.all g.fits (g.buffer ∙ ap (λ (k : ℕ). take k entry ++ (g.written ++ drop count entry)) none ∙ ap (λ (l : List ℕ). l ++ drop count entry) text)
