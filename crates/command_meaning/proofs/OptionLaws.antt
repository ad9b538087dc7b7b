-- Laws of SCAN and RANGE with their options: one for each way out of the code that reads them. Assumes nothing.
use mathlib.Core.Path.{◌≡◌, refl, sym, ap, ◌∙◌}
use mathlib.Core.Bool.{Bool, true, false, cond}
use mathlib.Core.List.{[], ◌∷◌}
use Rattle.std.specs.Prelude.{Option, None, Some}
use Prim.Native.Nat.{ℕ, suc, ◌+◌, ◌-◌, ◌<◌, ◌≤◌}
use native.Mathlib.Numerals.{add-one}
use native.Mathlib.Omega.{arith}
use lib.ListN.{length, drop, drop_of_length-le}
use lib.Seq.{drop-cons}
use Rattle.base_key.specs.Bytes.{Bytes, bytes}
use Rattle.base_number.specs.Number.{int_arg}
use Rattle.command_spec.specs.declared.Name.TheVariants.{Scan, Range}
use Rattle.command_spec.specs.declared.Fixed.{Fixed}
use Rattle.command_spec.specs.declared.Fixed.TheVariants.{NotInteger, Syntax, InvalidCursor, BadLimit}
use Rattle.command_spec.specs.Names.{Args, name_word, arguments, same_name}
use Rattle.command_spec.specs.Command.{Executed, argument, fixed, not_integer, syntax_error, natural, positive, scan_options, scan_from, range_options, range_limit, executed_as}
use Rattle.command_spec.specs.Errors.{fixed_reply}
use Rattle.command_meaning.specs.declared.Refusal.TheVariants.{Says}
use Rattle.command_meaning.specs.declared.Listing.TheVariants as listing
use Rattle.command_meaning.specs.declared.Executed.{Executed as CodeExecuted}
use Rattle.command_meaning.specs.declared.Executed.TheVariants.{Lists, Refused}
use Rattle.command_meaning.specs.declared.options.ScanOption.{ScanOption}
use Rattle.command_meaning.specs.declared.options.ScanOption.TheVariants.{Match, Count, Wrong}
use Rattle.command_meaning.specs.Meant.{pattern_at, PatternCounted, listing_meant, refusal_reply, executed_meant, ListingCounted, Counted}
use Rattle.command_meaning.specs.Reading.{MeansAs, scan_step, OptionIs, ScanIs}
use Rattle.std.specs.Prelude.{ℤ}

-- AN OPTION OF SCAN. Two arguments from place i on.
pair_at : (a : Args) (i : ℕ) → i + 1 < length a → drop i a ≡ argument i a ∷ argument (i + 1) a ∷ drop (i + 2) a
pair_at a i h =
    let e : suc (i + 1) ≡ i + 2 = omega arith in
    drop-cons a i [] (omega arith)
    ∙ ap (λ (n : ℕ). argument i a ∷ drop n a) (sym (add-one i))
    ∙ ap (λ (l : Args). argument i a ∷ l) (drop-cons a (i + 1) [] h)
    ∙ ap (λ (n : ℕ). argument i a ∷ argument (i + 1) a ∷ drop n a) e

module _ (from : ℕ) (pattern : Bytes) (most : ℕ) (o v : Bytes) (a : Args) where
  count_or : Bool → Executed
  count_or b = elim b [
    | true ↦ elim (positive (int_arg v)) [ None ↦ fixed not_integer | Some n ↦ scan_options from pattern n a ]
    | false ↦ fixed syntax_error
  ]

  match_step : same_name o (bytes "MATCH") ≡ true → scan_options from pattern most (o ∷ v ∷ a) ≡ scan_options from v most a
  unfolding scan_options count_or
  match_step e = ap (λ (b : Bool). elim b [ true ↦ scan_options from v most a | false ↦ count_or (same_name o (bytes "COUNT")) ]) e

  module _ (e : same_name o (bytes "MATCH") ≡ false) where
    second_word : scan_options from pattern most (o ∷ v ∷ a) ≡ count_or (same_name o (bytes "COUNT"))
    unfolding scan_options count_or
    second_word = ap (λ (b : Bool). elim b [ true ↦ scan_options from v most a | false ↦ count_or (same_name o (bytes "COUNT")) ]) e

    neither_step : same_name o (bytes "COUNT") ≡ false → scan_options from pattern most (o ∷ v ∷ a) ≡ fixed syntax_error
    unfolding count_or
    neither_step f = second_word ∙ ap count_or f

    count_step : same_name o (bytes "COUNT") ≡ true
        → scan_options from pattern most (o ∷ v ∷ a) ≡ elim (positive (int_arg v)) [ None ↦ fixed not_integer | Some n ↦ scan_options from pattern n a ]
    unfolding count_or
    count_step f = second_word ∙ ap count_or f

module _ (a : Args) (i : ℕ) {count : ℕ} (l : length a ≡ count) (h : i + 1 < count) {x : Bytes} (x-is : x ≡ argument i a) {m : Bool}
    (m-is : m ≡ same_name x (bytes "MATCH")) where
  at_pair : drop i a ≡ x ∷ argument (i + 1) a ∷ drop (i + 2) a
  at_pair = pair_at a i (omega (arith, l)) ∙ ap (λ (y : Bytes). y ∷ argument (i + 1) a ∷ drop (i + 2) a) (sym x-is)

  pub match_here : m ≡ true → OptionIs a i Match
  unfolding scan_step
  match_here e = record {
    is = λ from pattern most. ap (scan_options from pattern most) at_pair ∙ match_step from pattern most x (argument (i + 1) a) (drop (i + 2) a) (sym m-is ∙ e);
  }

  module _ (no : m ≡ false) {k : Bool} (k-is : k ≡ same_name x (bytes "COUNT")) where
    pub neither_here : k ≡ false → OptionIs a i (Wrong Syntax)
    unfolding scan_step fixed_reply
    neither_here e = record {
      is = λ from pattern most.
          ap (scan_options from pattern most) at_pair ∙ neither_step from pattern most x (argument (i + 1) a) (drop (i + 2) a) (sym m-is ∙ no) (sym k-is ∙ e);
    }

    module _ (yes : k ≡ true) {v : Bytes} (v-is : v ≡ argument (i + 1) a) {n : Option ℤ} (n-is : n ≡ int_arg v) (o : Option ℕ) (o_is : o ≡ positive n) where
      counted_as : (from : ℕ) (pattern : Bytes) (most : ℕ) (w : Option ℕ) → w ≡ o
          → scan_options from pattern most (drop i a) ≡ elim w [ None ↦ fixed not_integer | Some n ↦ scan_options from pattern n (drop (i + 2) a) ]
      counted_as from pattern most w e =
          ap (scan_options from pattern most) at_pair ∙ count_step from pattern most x (argument (i + 1) a) (drop (i + 2) a) (sym m-is ∙ no) (sym k-is ∙ yes)
          ∙ ap (λ (u : Option ℕ). elim u [ None ↦ fixed not_integer | Some n ↦ scan_options from pattern n (drop (i + 2) a) ])
          (ap (λ (y : Bytes). positive (int_arg y)) (sym v-is) ∙ ap positive (sym n-is) ∙ sym o_is ∙ sym e)

      pub no_count : o ≡ None → OptionIs a i (Wrong NotInteger)
      unfolding scan_step fixed_reply
      no_count e = record { is = λ from pattern most. counted_as from pattern most None (sym e) }

      pub count_here : {z : ℕ} → o ≡ Some z → OptionIs a i (Count z)
      unfolding scan_step
      count_here {z} e = record { is = λ from pattern most. counted_as from pattern most (Some z) (sym e) }

-- THE OPTIONS OF SCAN: those before argument i are read.
pub record Scanning (a : Args) (count from i : ℕ) (pattern : Option ℕ) (most : ℕ) : Type 0 where
  pub within : i ≤ count
  pub inside : PatternCounted pattern count
  pub is : scan_options from (bytes "*") 10 (drop 2 a) ≡ scan_options from (pattern_at pattern a) most (drop i a)

pub scanning_none : (a : Args) (count from : ℕ) → 2 ≤ count → Scanning a count from 2 None 10
unfolding pattern_at PatternCounted
scanning_none a count from h = record { within = h; inside = omega arith; is = refl }

module _ {a : Args} {count from i : ℕ} {pattern : Option ℕ} {most : ℕ} (s : Scanning a count from i pattern most) where
  module _ {r : ScanOption} (o : OptionIs a i r) (h : i + 1 < count) where
    stepped : {r' : ScanOption} → r ≡ r' → scan_options from (bytes "*") 10 (drop 2 a) ≡ scan_step r' from (pattern_at pattern a) most (argument (i + 1) a) (drop (i + 2) a)
    stepped e = s.is ∙ o.is from (pattern_at pattern a) most ∙ ap (λ (r : ScanOption). scan_step r from (pattern_at pattern a) most (argument (i + 1) a) (drop (i + 2) a)) e

    pub scanning_match : {j : ℕ} → j ≡ i + 2 → r ≡ Match → Scanning a count from j (Some (i + 1)) most
    unfolding scan_step pattern_at PatternCounted
    scanning_match j-is e =
        rw j-is
        (record {
          within = omega (arith, s.within);
          inside = omega (arith, s.within);
          is = stepped e;
        })

    pub scanning_count : {j n : ℕ} → j ≡ i + 2 → r ≡ Count n → Scanning a count from j pattern n
    unfolding scan_step
    scanning_count j-is e = rw j-is (record { within = omega (arith, s.within); inside = s.inside; is = stepped e })

    pub scanning_wrong : {f : Fixed} → r ≡ Wrong f → ScanIs a count from (Refused (Says f))
    unfolding scan_step executed_meant refusal_reply Counted
    scanning_wrong e = record { is = stepped e; counted = tt }

  pub scanning_odd : length a ≡ count → count - i ≤ 1 → i < count → ScanIs a count from (Refused (Says Syntax))
  unfolding scan_options fixed_reply executed_meant refusal_reply Counted
  scanning_odd l h k =
      let here : i < length a = omega (arith, l) in
      let last : length a ≤ suc i = omega (arith, l) in
      record {
        is = s.is
            ∙ ap (scan_options from (pattern_at pattern a) most) (drop-cons a i [] here ∙ ap (λ (b : Args). argument i a ∷ b) (drop_of_length-le a {i = suc i} last));
        counted = tt;
      }

  pub scanning_all : length a ≡ count → count ≤ i → ScanIs a count from (Lists (listing.Scan from pattern most))
  unfolding scan_options executed_meant listing_meant Counted ListingCounted
  scanning_all l h =
      let last : length a ≤ i = omega (arith, l) in
      record { is = s.is ∙ ap (scan_options from (pattern_at pattern a) most) (drop_of_length-le a {i = i} last); counted = s.inside }

-- SCAN, by its cursor.
scan_as : (a : Args) → executed_as Scan (name_word a) (arguments a) ≡ scan_from (natural (int_arg (argument 1 a))) (drop 2 a)
unfolding executed_as
scan_as [] = refl
scan_as (n ∷ a) = refl

module _ (a : Args) {count : ℕ} (least : 2 ≤ count) {x : Bytes} (x-is : x ≡ argument 1 a) {n : Option ℤ} (n-is : n ≡ int_arg x) (o : Option ℕ) (o_is : o ≡ natural n) where
  cursor_is : {w : Option ℕ} → w ≡ o → executed_as Scan (name_word a) (arguments a) ≡ scan_from w (drop 2 a)
  cursor_is e =
      scan_as a ∙ ap (λ (u : Option ℕ). scan_from u (drop 2 a))
      (ap (λ (y : Bytes). natural (int_arg y)) (sym x-is) ∙ ap natural (sym n-is) ∙ sym o_is ∙ sym e)

  pub no_cursor : o ≡ None → MeansAs Scan a count (Refused (Says InvalidCursor))
  unfolding fixed_reply executed_meant refusal_reply Counted
  no_cursor e = record { is = cursor_is {w = None} (sym e); counted = tt }

  pub cursor_here : {from : ℕ} → o ≡ Some from → {r : CodeExecuted} → ScanIs a count from r → MeansAs Scan a count r
  cursor_here {from} e s = record { is = cursor_is {w = Some from} (sym e) ∙ s.is; counted = s.counted }

-- RANGE, by its argument count.
range_alone : (a : Args) → length a ≡ 3 → executed_as Range (name_word a) (arguments a) ≡ executed_meant Range (Lists (listing.Range None)) a
unfolding executed_as range_options executed_meant listing_meant
range_alone [] h = absurd (omega arith)
range_alone (n ∷ []) h = absurd (omega arith)
range_alone (n ∷ s ∷ []) h = absurd (omega arith)
range_alone (n ∷ s ∷ e ∷ []) h = refl
range_alone (n ∷ s ∷ e ∷ o ∷ a) h = absurd (omega arith)

range_odd : (a : Args) → 3 ≤ length a → (length a ≡ 3 → ⊥) → (length a ≡ 5 → ⊥) → executed_as Range (name_word a) (arguments a) ≡ executed_meant Range (Refused (Says Syntax)) a
unfolding executed_as range_options executed_meant refusal_reply fixed_reply
range_odd [] h j k = absurd (omega arith)
range_odd (n ∷ []) h j k = absurd (omega arith)
range_odd (n ∷ s ∷ []) h j k = absurd (omega arith)
range_odd (n ∷ s ∷ e ∷ []) h j k = absurd (j refl)
range_odd (n ∷ s ∷ e ∷ o ∷ []) h j k = refl
range_odd (n ∷ s ∷ e ∷ o ∷ v ∷ []) h j k = absurd (k refl)
range_odd (n ∷ s ∷ e ∷ o ∷ v ∷ x ∷ a) h j k = refl

range_five : (a : Args) → length a ≡ 5
    → executed_as Range (name_word a) (arguments a)
    ≡ cond (same_name (argument 3 a) (bytes "LIMIT")) (range_limit (argument 1 a) (argument 2 a) (natural (int_arg (argument 4 a)))) (fixed syntax_error)
unfolding executed_as range_options
range_five [] h = absurd (omega arith)
range_five (n ∷ []) h = absurd (omega arith)
range_five (n ∷ s ∷ []) h = absurd (omega arith)
range_five (n ∷ s ∷ e ∷ []) h = absurd (omega arith)
range_five (n ∷ s ∷ e ∷ o ∷ []) h = absurd (omega arith)
range_five (n ∷ s ∷ e ∷ o ∷ v ∷ []) h = refl
range_five (n ∷ s ∷ e ∷ o ∷ v ∷ x ∷ a) h = absurd (omega arith)

module _ (a : Args) {count : ℕ} (l : length a ≡ count) where
  pub no_limit : count ≡ 3 → MeansAs Range a count (Lists (listing.Range None))
  unfolding Counted ListingCounted
  no_limit e = record { is = range_alone a (l ∙ e); counted = omega arith }

  pub odd_rest : 3 ≤ count → (count ≡ 3 → ⊥) → (count ≡ 5 → ⊥) → MeansAs Range a count (Refused (Says Syntax))
  unfolding Counted
  odd_rest h j k = record { is = range_odd a (omega (arith, l)) (λ e. j (sym l ∙ e)) (λ e. k (sym l ∙ e)); counted = tt }

  module _ (five : count ≡ 5) {x : Bytes} (x-is : x ≡ argument 3 a) {b : Bool} (b-is : b ≡ same_name x (bytes "LIMIT")) where
    five_as : {c : Bool} → b ≡ c
        → executed_as Range (name_word a) (arguments a) ≡ cond c (range_limit (argument 1 a) (argument 2 a) (natural (int_arg (argument 4 a)))) (fixed syntax_error)
    five_as e =
        range_five a (l ∙ five)
        ∙ ap (λ (c : Bool). cond c (range_limit (argument 1 a) (argument 2 a) (natural (int_arg (argument 4 a)))) (fixed syntax_error))
        (ap (λ (y : Bytes). same_name y (bytes "LIMIT")) (sym x-is) ∙ sym b-is ∙ e)

    pub other_option : b ≡ false → MeansAs Range a count (Refused (Says Syntax))
    unfolding executed_meant refusal_reply fixed_reply Counted
    other_option e = record { is = five_as e; counted = tt }

    module _ (yes : b ≡ true) {v : Bytes} (v-is : v ≡ argument 4 a) {n : Option ℤ} (n-is : n ≡ int_arg v) (o : Option ℕ) (o_is : o ≡ natural n) where
      limit_as : {w : Option ℕ} → w ≡ o → executed_as Range (name_word a) (arguments a) ≡ range_limit (argument 1 a) (argument 2 a) w
      limit_as e =
          five_as yes ∙ ap (range_limit (argument 1 a) (argument 2 a))
          (ap (λ (y : Bytes). natural (int_arg y)) (sym v-is) ∙ ap natural (sym n-is) ∙ sym o_is ∙ sym e)

      pub bad_limit : o ≡ None → MeansAs Range a count (Refused (Says BadLimit))
      unfolding executed_meant refusal_reply fixed_reply Counted
      bad_limit e = record { is = limit_as {w = None} (sym e); counted = tt }

      pub limit_here : {most : ℕ} → o ≡ Some most → MeansAs Range a count (Lists (listing.Range (Some most)))
      unfolding executed_meant listing_meant Counted ListingCounted
      limit_here {most} e = record { is = limit_as {w = Some most} (sym e); counted = omega arith }
