-- Laws of a request by its name, its argument count and its options: one for each way out of the code. Assumes nothing.
use mathlib.Core.Path.{◌≡◌, refl, sym, ap, ◌∙◌, subst}
use mathlib.Core.Bool.{Bool, true, false, cond, false≢true}
use Rattle.std.specs.Prelude.{Some}
use Prim.Native.Nat.{ℕ, ◌+◌, ◌-◌, ◌≤◌}
use native.Mathlib.Omega.{arith}
use lib.ListN.{length}
use Rattle.base_key.specs.Bytes.{Bytes}
use Rattle.command_spec.specs.declared.Operation.{Operation}
use Rattle.command_spec.specs.declared.Name.{Name}
use Rattle.command_spec.specs.declared.Name.TheVariants.{Queueable, Dbsize, Keys, Scan, Range, Multi, Exec, Discard, Watch, Unwatch, Quit, Unknown}
use Rattle.command_spec.specs.declared.Fixed.TheVariants.{SetOptions}
use Rattle.command_spec.specs.Names.{Args, Row, rows, row_of, name_word, arguments, arity, count_right, with_options, operation_of}
use Rattle.command_spec.specs.Command.{KEYS, runs, lists, fixed, set_options, command_as, executed_as, executed_of}
use Rattle.command_spec.specs.Errors.{fixed_reply}
use Rattle.command_spec.proofs.ErrorTexts.{arity_as_sent}
use Rattle.command_names.specs.declared.Row.{Row as CodeRow}
use Rattle.command_names.specs.Rows.{row_at, row_meant, Looked}
use Rattle.command_meaning.specs.declared.Kind.{Kind}
use Rattle.command_meaning.specs.declared.Listing.TheVariants as listing
use Rattle.command_meaning.specs.declared.Refusal.TheVariants as refusal
use Rattle.command_meaning.specs.declared.Executed.{Executed as CodeExecuted}
use Rattle.command_meaning.specs.declared.Executed.TheVariants.{Runs, Lists, Refused}
use Rattle.command_meaning.specs.Kinds.{KindIs}
use Rattle.command_meaning.specs.Meant.{listing_meant, refusal_reply, executed_meant, ListingCounted, Counted, ExecutedIs}
use Rattle.command_meaning.specs.Reading.{row_place, MeansAs}
use Rattle.command_meaning.proofs.KindLaws.{behind, behind_count, right_least, right_most, place_of}

-- THE ARMS, by the name
module _ (name : Name) (a : Args) (count : ℕ) {x : Name} (named : name ≡ x) where
  pub means_same : {r : CodeExecuted} → MeansAs x a count r → MeansAs name a count r
  means_same {r} m = subst (λ (y : Name). MeansAs y a count r) (sym named) m

module _ (name : Name) (count : ℕ) (right : count_right (row_at (row_place name)) (count - 1) ≡ true) (some-count : 1 ≤ count) where
  pub right_as : {x : Name} → name ≡ x → count_right (row_at (row_place x)) (count - 1) ≡ true
  right_as e = subst (λ (y : Name). count_right (row_at (row_place y)) (count - 1) ≡ true) e right

  least_as : {x : Name} → name ≡ x → (row_at (row_place x)).least + 1 ≤ count
  least_as {x} e = omega (arith, right_least (row_at (row_place x)) (count - 1) (right_as e))

  most_as : {x : Name} (m : ℕ) → name ≡ x → (row_at (row_place x)).most ≡ Some m → count ≤ m + 1
  most_as {x} m e l = omega (arith, right_most (row_at (row_place x)) (count - 1) (right_as e) m l)

  pub scan_count : name ≡ Scan → 2 ≤ count
  unfolding row_at rows row_place
  scan_count e = least_as e

  pub range_count : name ≡ Range → 3 ≤ count
  unfolding row_at rows row_place
  range_count e = least_as e

  module _ (a : Args) where
    pub dbsize_means : name ≡ Dbsize → MeansAs name a count (Lists listing.Dbsize)
    unfolding executed_as executed_meant listing_meant Counted ListingCounted
    dbsize_means e = means_same name a count e (record { is = refl; counted = some-count })

    pub keys_means : name ≡ Keys → MeansAs name a count (Lists listing.Keys)
    unfolding row_at rows row_place executed_as executed_meant listing_meant Counted ListingCounted
    keys_means e =
        let l : 2 ≤ count = least_as e in
        let m : count ≤ 2 = most_as 1 e refl in
        means_same name a count e (record { is = ap (λ (k : Bytes). lists (KEYS k)) (behind 0 a); counted = omega arith })

pub other_means : (name : Name) (a : Args) (count : ℕ) → ((o : Operation) → name ≡ Queueable o → ⊥) → (name ≡ Dbsize → ⊥) → (name ≡ Keys → ⊥) → (name ≡ Scan → ⊥) → (name ≡ Range → ⊥)
    → MeansAs name a count (Refused refusal.Unknown)
unfolding executed_as executed_meant refusal_reply Counted
other_means (Queueable o) a count q d k s r = absurd (q o refl)
other_means Dbsize a count q d k s r = absurd (d refl)
other_means Keys a count q d k s r = absurd (k refl)
other_means Scan a count q d k s r = absurd (s refl)
other_means Range a count q d k s r = absurd (r refl)
other_means Multi a count q d k s r = record { is = refl; counted = tt }
other_means Exec a count q d k s r = record { is = refl; counted = tt }
other_means Discard a count q d k s r = record { is = refl; counted = tt }
other_means Watch a count q d k s r = record { is = refl; counted = tt }
other_means Unwatch a count q d k s r = record { is = refl; counted = tt }
other_means Quit a count q d k s r = record { is = refl; counted = tt }
other_means Unknown a count q d k s r = record { is = refl; counted = tt }

-- one of the eleven
module _ (name : Name) (count : ℕ) {o : Operation} (e : name ≡ Queueable o) (plain : with_options (operation_of name) (count - 1) ≡ false) where
  pub plain_as : with_options o (count - 1) ≡ false
  plain_as = ap (λ (x : Name). with_options (operation_of x) (count - 1)) (sym e) ∙ plain

  pub queueable_means : (a : Args) → length a ≡ count → {k : Kind} → KindIs o a count k → MeansAs name a count (Runs k)
  unfolding executed_as executed_meant Counted
  queueable_means a l h =
      means_same name a count e
      (record {
        is = ap (λ (b : Bool). cond b (fixed set_options) (runs (command_as o (arguments a))))
            (ap (with_options o) (behind_count a ∙ ap (λ (n : ℕ). n - 1) l) ∙ plain_as);
        counted = h;
      })

-- THE WHOLE REQUEST, by the row of its name
module _ (row : CodeRow) (n : ℕ) where
  pub right_named : {w : Bytes} → Looked w row → {b : Bool} → b ≡ count_right (row_meant row) n → b ≡ true → count_right (row_at (row_place row.name)) n ≡ true
  right_named looked b-is e = ap (λ (r : Row). count_right r n) (place_of row looked) ∙ sym b-is ∙ e

executed_as_lem : (a : Args) {r : Row} {n : ℕ} {b : Bool} → row_of (name_word a) ≡ r → length (arguments a) ≡ n → count_right r n ≡ b
    → executed_of a ≡ cond b (executed_as r.name (name_word a) (arguments a)) (fixed (arity r))
unfolding executed_of
executed_as_lem a {r} e f g =
    (λ z. cond (count_right (e z) (f z)) (executed_as (e z).name (name_word a) (arguments a)) (fixed (arity (e z))))
    ∙ ap (λ (b : Bool). cond b (executed_as r.name (name_word a) (arguments a)) (fixed (arity r))) g

-- only one of the eleven has options
options_said : (name : Name) (word : Bytes) (a : Args) → with_options (operation_of name) (length a) ≡ true → executed_as name word a ≡ fixed set_options
unfolding executed_as with_options
options_said (Queueable o) word a e = ap (λ (b : Bool). cond b (fixed set_options) (runs (command_as o a))) e
options_said Dbsize word a e = absurd (false≢true e)
options_said Keys word a e = absurd (false≢true e)
options_said Scan word a e = absurd (false≢true e)
options_said Range word a e = absurd (false≢true e)
options_said Multi word a e = absurd (false≢true e)
options_said Exec word a e = absurd (false≢true e)
options_said Discard word a e = absurd (false≢true e)
options_said Watch word a e = absurd (false≢true e)
options_said Unwatch word a e = absurd (false≢true e)
options_said Quit word a e = absurd (false≢true e)
options_said Unknown word a e = absurd (false≢true e)

module _ (a : Args) {count : ℕ} {row : CodeRow} (l : length a ≡ count) (looked : Looked (name_word a) row) {b : Bool}
    (b-is : b ≡ count_right (row_meant row) (count - 1)) where
  row_here : row_of (name_word a) ≡ row_meant row
  row_here = sym looked.is

  counted_here : length (arguments a) ≡ count - 1
  counted_here = behind_count a ∙ ap (λ (n : ℕ). n - 1) l

  request_as : {t : Bool} → b ≡ t → executed_of a ≡ cond t (executed_as row.name (name_word a) (arguments a)) (fixed (arity (row_meant row)))
  request_as e = executed_as_lem a row_here counted_here (sym b-is ∙ e)

  pub right_count : b ≡ true → {r : CodeExecuted} → MeansAs row.name a count r → ExecutedIs a count r
  right_count e {r} m =
      let here : row.name ≡ (row_of (name_word a)).name = ap (λ (x : Row). x.name) (sym row_here) in
      let means : MeansAs (row_of (name_word a)).name a count r = subst (λ (x : Name). MeansAs x a count r) here m in
      record {
        is = request_as e ∙ ap (λ (x : Row). executed_as x.name (name_word a) (arguments a)) (sym row_here) ∙ means.is;
        counted = means.counted;
      }

  pub with_options_lem : b ≡ true → {o : Bool} → o ≡ with_options (operation_of row.name) (count - 1) → o ≡ true → ExecutedIs a count (Refused (refusal.Says SetOptions))
  unfolding executed_meant refusal_reply fixed_reply Counted
  with_options_lem e o_is t = record {
    is = request_as e ∙ options_said row.name (name_word a) (arguments a) (ap (with_options (operation_of row.name)) counted_here ∙ sym o_is ∙ t);
    counted = tt;
  }

  pub wrong_count : b ≡ false → ExecutedIs a count (Refused refusal.Arity)
  unfolding executed_meant refusal_reply Counted
  wrong_count e = record {
    is = request_as e ∙ ap (λ (r : Row). fixed (arity r)) (sym row_here)
        ∙ ap fixed (arity_as_sent (name_word a) (count - 1) (ap (λ (r : Row). count_right r (count - 1)) row_here ∙ sym b-is ∙ e));
    counted = tt;
  }
