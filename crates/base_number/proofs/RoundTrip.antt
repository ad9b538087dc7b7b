-- Reading back a written number gives that number, and each number has one text. Assumes nothing.
use mathlib.Core.Path.{◌≡◌, refl, sym, ap, ◌∙◌}
use mathlib.Core.Bool.{Bool, true, false, cond, ◌&&◌}
use mathlib.Core.List.{List, [], ◌∷◌, ◌++◌, append_assoc, append-nil}
use Rattle.std.specs.Prelude.{Option, None, Some}
use Prim.Native.Nat.{ℕ, zero, suc, ◌+◌, ◌*◌, ◌-◌, ◌/◌, ◌%◌, ◌^◌, ◌≤◌, ◌<◌}
use native.Mathlib.Decide.{dec_lt}
use native.Mathlib.Omega.{arith}
use lib.Dec.{leb, ltb, eqb}
use lib.IntN.{ℤ, pos, negsuc}
use lib.ListN.{length, get_or, length-append, get_or-append}
use lib.Signed.{mag}
use borrow.Author.Tests.{le-leb, leb-true, lt-ltb, eqb-true, ne_eqb}
use Rattle.base_key.specs.Bytes.{Bytes, ◌and◌, same_bytes}
use Rattle.base_key.proofs.Keys.{same_bytes_lem, same_is}
use Rattle.base_number.specs.Decimal.{digits_within, digits, decimal}
use Rattle.base_number.specs.Number.{value_from, value_of, size_of, signed, whole_of, number_of, number_in, int_arg, length_within, length_of}
use Rattle.base_number.proofs.Decimals.{digits_one, digits_more}
use Rattle.base_number.proofs.Signed.{number_fits, number_over}

-- NONE of any size: a leading zero, `-0`, with more behind it or not, `+`
pub leading_zero_none : (b : ℕ) (text : Bytes) → whole_of (48 ∷ b ∷ text) ≡ None
unfolding whole_of signed size_of same_bytes ◌and◌
leading_zero_none b text = refl

pub minus_zero_none : (text : Bytes) → whole_of (45 ∷ 48 ∷ text) ≡ None
unfolding whole_of signed size_of same_bytes ◌and◌
minus_zero_none text = refl

pub plus_none : (text : Bytes) → whole_of (43 ∷ text) ≡ None
unfolding whole_of signed size_of same_bytes ◌and◌
plus_none text = refl

-- READING BACK
-- one digit more
value_more : (text : List ℕ) (v u d : ℕ) → d < 10 → value_from v text ≡ Some u → value_from v (text ++ (48 + d) ∷ []) ≡ Some (u * 10 + d)
unfolding value_from
value_more [] v u d h e =
    let low : 48 ≤ 48 + d = omega arith in
    let high : 48 + d ≤ 57 = omega arith in
    let same : v ≡ u = cc in
    let value : v * 10 + (48 + d - 48) ≡ u * 10 + d = omega arith in
    rw (le-leb 48 (48 + d) low, le-leb (48 + d) 57 high) (ap Some value)
value_more (b ∷ text) v u d h e = go (leb 48 b && leb b 57) (value_more text (v * 10 + (b - 48)) u d h) e
  where
    go : (t : Bool) → (value_from (v * 10 + (b - 48)) text ≡ Some u → value_from (v * 10 + (b - 48)) (text ++ (48 + d) ∷ []) ≡ Some (u * 10 + d))
        → cond t (value_from (v * 10 + (b - 48)) text) None ≡ Some u
        → cond t (value_from (v * 10 + (b - 48)) (text ++ (48 + d) ∷ [])) None ≡ Some (u * 10 + d)
    go true again e = again e
    go false again e = let z : ◌≡◌ {A = ℕ} 0 1 = cc in absurd (omega arith)

-- what the digits of n are to a reader: a text that starts with a digit, with 1 to 9 where n is not 0, and whose value is n
pub record Reads (text : List ℕ) (n : ℕ) : Type 0 where
  pub value : value_from 0 text ≡ Some n
  pub some_byte : 0 < length text
  pub first : 48 ≤ get_or text 0 0
  pub last : get_or text 0 0 ≤ 57
  pub leads : 1 ≤ n → 49 ≤ get_or text 0 0

reads_within : (room n : ℕ) → n < room → Reads (digits n) n
reads_within zero n h = absurd (omega arith)
reads_within (suc room) n h = go (dec_lt n 10) (reads_within room (n / 10))
  where
    one : n < 10 → Reads ((48 + n % 10) ∷ []) n
    one low =
        let value : 0 * 10 + n % 10 ≡ n = omega arith in
        record {
          value = value_more [] 0 0 (n % 10) (omega arith) (unfold value_from in refl) ∙ ap Some value;
          some_byte = omega arith;
          first = omega arith;
          last = omega arith;
          leads = λ h. omega arith;
        }

    more : 10 ≤ n → Reads (digits (n / 10)) (n / 10) → Reads (digits (n / 10) ++ (48 + n % 10) ∷ []) n
    more high r =
        let value : n / 10 * 10 + n % 10 ≡ n = omega arith in
        let same = get_or-append (digits (n / 10)) ((48 + n % 10) ∷ []) 0 0 r.some_byte in
        record {
          value = value_more (digits (n / 10)) 0 (n / 10) (n % 10) (omega arith) r.value ∙ ap Some value;
          some_byte = simp length-append (omega arith);
          first = rw same r.first;
          last = rw same r.last;
          leads = λ h. rw same (r.leads (omega arith));
        }

    go : Dec (n < 10) → (n / 10 < room → Reads (digits (n / 10)) (n / 10)) → Reads (digits n) n
    go (yes low) again = rw (digits_one n low) (one low)
    go (no high) again = let ten : 10 ≤ n = omega arith in rw (digits_more n ten) (more ten (again (omega arith)))

pub reads : (n : ℕ) → Reads (digits n) n
reads n = reads_within (suc n) n (omega arith)

value_of_lem : {text : List ℕ} {n : ℕ} → Reads text n → value_of text ≡ Some n
unfolding value_of
value_of_lem {text = []} r = absurd (omega (arith, r.some_byte))
value_of_lem {text = b ∷ text} r = r.value

-- of any size
pub value_back : (n : ℕ) → value_of (digits n) ≡ Some n
value_back n = value_of_lem (reads n)

-- with 1 to 9 in front
size_back : {text : List ℕ} {n : ℕ} → 1 ≤ n → Reads text n → size_of text ≡ Some n
unfolding size_of value_of
size_back {text = []} h r = absurd (omega (arith, r.some_byte))
size_back {text = b ∷ text} h r =
    let low : 49 ≤ b = r.leads h in
    let high : b ≤ 57 = r.last in
    rw (le-leb 49 b low, le-leb b 57 high) r.value

no_sign_read : {text : List ℕ} {n : ℕ} → 1 ≤ n → Reads text n → whole_of text ≡ signed false (size_of text)
unfolding whole_of same_bytes ◌and◌
no_sign_read {text = []} h r = absurd (omega (arith, r.some_byte))
no_sign_read {text = b ∷ text} h r =
    let low : 49 ≤ b = r.leads h in
    rw (ne_eqb b 48 (λ e. omega arith), ne_eqb b 45 (λ e. omega arith)) refl

no_plus_read : {text : List ℕ} {n : ℕ} → Reads text n → length_of text ≡ length_within (value_of text)
unfolding length_of
no_plus_read {text = []} r = absurd (omega (arith, r.some_byte))
no_plus_read {text = b ∷ text} r =
    let low : 48 ≤ b = r.first in
    rw (ne_eqb b 43 (λ e. omega arith)) refl

-- A WHOLE NUMBER OF ANY SIZE
pub whole_back : (z : ℤ) → whole_of (decimal z) ≡ Some z
unfolding decimal digits digits_within signed whole_of same_bytes ◌and◌
whole_back (pos zero) = refl
whole_back (pos (suc n)) =
    let r = reads (suc n) in
    no_sign_read (omega arith) r ∙ ap (signed false) (size_back (omega arith) r)
whole_back (negsuc n) = ap (signed true) (size_back (omega arith) (reads (suc n)))

-- within 64 bits with a sign
pub read_back : (z : ℤ) → mag z < 2 ^ 63 → int_arg (decimal z) ≡ Some z
unfolding int_arg number_in
read_back z h = ap number_in (whole_back z) ∙ number_fits z h

-- none beyond them
pub number_beyond : (z : ℤ) → 2 ^ 63 ≤ mag z → int_arg (decimal z) ≡ None
unfolding int_arg number_in
number_beyond z h = ap number_in (whole_back z) ∙ number_over z h

-- within 64 bits without one
pub length_back : (n : ℕ) → n < 2 ^ 64 → length_of (digits n) ≡ Some n
unfolding length_within
length_back n h = no_plus_read (reads n) ∙ ap length_within (value_back n) ∙ rw (lt-ltb n (2 ^ 64) h) refl

-- ONE TEXT
-- digits behind those of v
digits_behind : (text : Bytes) (v n : ℕ) → 1 ≤ v → value_from v text ≡ Some n → digits n ≡ digits v ++ text
unfolding value_from
digits_behind [] v n h e = let same : v ≡ n = cc in rw (same, append-nil (digits n)) refl
digits_behind (b ∷ text) v n h e = go (leb 48 b) (leb b 57) refl refl (digits_behind text (v * 10 + (b - 48)) n (omega arith)) e
  where
    go : (low high : Bool) → leb 48 b ≡ low → leb b 57 ≡ high → (value_from (v * 10 + (b - 48)) text ≡ Some n → digits n ≡ digits (v * 10 + (b - 48)) ++ text) → cond (low && high) (value_from (v * 10 + (b - 48)) text) None ≡ Some n → digits n ≡ digits v ++ (b ∷ text)
    go true true l u again is =
        let low : 48 ≤ b = leb-true 48 b l in
        let high : b ≤ 57 = leb-true b 57 u in
        let tenth : (v * 10 + (b - 48)) / 10 ≡ v = omega arith in
        let last : 48 + (v * 10 + (b - 48)) % 10 ≡ b = omega arith in
        again is ∙ ap (λ (l : Bytes). l ++ text) (digits_more (v * 10 + (b - 48)) (omega arith) ∙ (λ z. digits (tenth z) ++ last z ∷ [])) ∙ append_assoc (digits v) (b ∷ []) text
    go true false l u again is = let z : ◌≡◌ {A = ℕ} 0 1 = cc in absurd (omega arith)
    go false high l u again is = let z : ◌≡◌ {A = ℕ} 0 1 = cc in absurd (omega arith)

-- a text of digits that begins with 1 to 9 is the text of its value
pub one_text : (b : ℕ) (text : Bytes) (n : ℕ) → 49 ≤ b → b ≤ 57 → value_of (b ∷ text) ≡ Some n → digits n ≡ b ∷ text
unfolding value_of value_from
one_text b text n low high e =
    let digit : 48 ≤ b = omega arith in
    let value : value_from (0 * 10 + (b - 48)) text ≡ Some n = rw (le-leb 48 b digit, le-leb b 57 high) at e in
    let first : 0 * 10 + (b - 48) < 10 = omega arith in
    let is : 48 + (0 * 10 + (b - 48)) % 10 ≡ b = omega arith in
    digits_behind text (0 * 10 + (b - 48)) n (omega arith) value ∙ ap (λ (l : Bytes). l ++ text) (digits_one (0 * 10 + (b - 48)) first ∙ ap (λ (d : ℕ). d ∷ []) is)

-- two numbers do not have one text
pub digits_differ : (m n : ℕ) → digits m ≡ digits n → m ≡ n
digits_differ m n e = let same : value_of (digits m) ≡ value_of (digits n) = ap value_of e in let left = value_back m in let right = value_back n in cc

-- the number that a text gave
int_is : {w z : ℤ} → number_of w ≡ Some z → w ≡ z
unfolding number_of
int_is {w} {z} e = go (ltb (mag w) (2 ^ 63)) e
  where
    go : (t : Bool) → cond t (Some w) None ≡ Some z → w ≡ z
    go true h = cc
    go false h = let z : ◌≡◌ {A = ℕ} 0 1 = cc in absurd (omega arith)

-- such digits, read
pub record Sized (text : Bytes) (n : ℕ) : Type 0 where
  pub positive : 1 ≤ n
  pub is : text ≡ digits n

pub sized_text : (text : Bytes) (n : ℕ) → size_of text ≡ Some n → Sized text n
unfolding size_of
sized_text [] n e = let z : ◌≡◌ {A = ℕ} 0 1 = cc in absurd (omega arith)
sized_text (b ∷ text) n e = go (leb 49 b) (leb b 57) refl refl e
  where
    above : (n : ℕ) → 49 ≤ b → digits n ≡ b ∷ text → 1 ≤ n
    above zero low is =
        let first : 48 + 0 % 10 ≡ b = ap (λ (l : Bytes). get_or l 0 0) (sym (digits_one 0 (omega arith)) ∙ is) in
        absurd (omega arith)
    above (suc n) low is = omega arith

    go : (low high : Bool) → leb 49 b ≡ low → leb b 57 ≡ high → cond (low && high) (value_of (b ∷ text)) None ≡ Some n → Sized (b ∷ text) n
    go true true l u is =
        let low : 49 ≤ b = leb-true 49 b l in
        let same = one_text b text n low (leb-true b 57 u) is in
        record { positive = above n low same; is = sym same }
    go true false l u is = let z : ◌≡◌ {A = ℕ} 0 1 = cc in absurd (omega arith)
    go false high l u is = let z : ◌≡◌ {A = ℕ} 0 1 = cc in absurd (omega arith)

unsigned_text : (text : Bytes) (v : Option ℕ) {z : ℤ} → size_of text ≡ v → signed false v ≡ Some z → text ≡ decimal z
unfolding signed decimal
unsigned_text text None is h = let z : ◌≡◌ {A = ℕ} 0 1 = cc in absurd (omega arith)
unsigned_text text (Some n) {z} is h = let same : pos n ≡ z = cc in (sized_text text n is).is ∙ ap decimal same

minus_text : (text : Bytes) (v : Option ℕ) {z : ℤ} → size_of text ≡ v → signed true v ≡ Some z → 45 ∷ text ≡ decimal z
unfolding signed decimal
minus_text text None is h = let z : ◌≡◌ {A = ℕ} 0 1 = cc in absurd (omega arith)
minus_text text (Some zero) is h = absurd (omega (arith, (sized_text text 0 is).positive))
minus_text text (Some (suc n)) {z} is h = let same : negsuc n ≡ z = cc in ap (λ (l : Bytes). 45 ∷ l) (sized_text text (suc n) is).is ∙ ap decimal same

-- A TEXT THAT READS AS A WHOLE NUMBER, of any size, is the decimal text of that number
pub whole_text : (text : Bytes) {z : ℤ} → whole_of text ≡ Some z → text ≡ decimal z
unfolding whole_of decimal digits digits_within
whole_text [] e = let z : ◌≡◌ {A = ℕ} 0 1 = cc in absurd (omega arith)
whole_text (b ∷ text) {z} e = go (same_bytes (b ∷ text) (48 ∷ [])) (eqb b 45) refl refl e
  where
    go : (zeros minus : Bool) → same_bytes (b ∷ text) (48 ∷ []) ≡ zeros → eqb b 45 ≡ minus
        → cond zeros (Some (pos 0)) (cond minus (signed true (size_of text)) (signed false (size_of (b ∷ text)))) ≡ Some z → b ∷ text ≡ decimal z
    go true minus same sign h = let is : pos 0 ≡ z = cc in same_is (b ∷ text) (48 ∷ []) (sym (same_bytes_lem (b ∷ text) (48 ∷ [])) ∙ same) ∙ ap decimal is
    go false true same sign h = ap (λ (c : ℕ). c ∷ text) (eqb-true b 45 sign) ∙ minus_text text (size_of text) refl h
    go false false same sign h = unsigned_text (b ∷ text) (size_of (b ∷ text)) refl h

-- so within 64 bits each number has one text
pub number_text_lem : (text : Bytes) {z : ℤ} → int_arg text ≡ Some z → text ≡ decimal z
unfolding int_arg number_in
number_text_lem text {z} e = go (whole_of text) refl e
  where
    go : (w : Option ℤ) → whole_of text ≡ w → number_in w ≡ Some z → text ≡ decimal z
    go None is h = let z : ◌≡◌ {A = ℕ} 0 1 = cc in absurd (omega arith)
    go (Some w) is h = whole_text text is ∙ ap decimal (int_is h)

pub number_one_text : {s t : Bytes} {z : ℤ} → int_arg s ≡ Some z → int_arg t ≡ Some z → s ≡ t
number_one_text {s} {t} e f = number_text_lem s e ∙ sym (number_text_lem t f)
