-- The laws of reading one argument. Assumes nothing.
use mathlib.Core.Path.{◌≡◌, refl, sym, ap, ◌∙◌}
use mathlib.Core.Bool.{Bool, true, false, ◌&&◌}
use mathlib.Core.List.{[], ◌∷◌}
use Prim.Native.Nat.{ℕ, ◌+◌, ◌-◌, ◌≤◌, ◌<◌}
use native.Mathlib.Omega.{arith}
use lib.Dec.{eqb}
use Rattle.std.specs.List.{starts_with}
use Rattle.std.proofs.lemmas.Bool.Decides.{nat_tests}
use lib.ListN.{length, take, drop, get_or, length-drop}
use lib.Seq.{drop-drop}
use Rattle.std.proofs.lemmas.List.{take_rest, length-take}
use borrow.Author.Tests.{eq-eqb, ne_eqb}
use Rattle.base_key.specs.Bytes.{Bytes, ◌and◌}
use Rattle.base_key.proofs.Bytes.{and-false}
use Rattle.resp_spec.specs.declared.Header.TheVariants.{Bulk}
use Rattle.resp_spec.specs.declared.Fault.{Fault}
use Rattle.resp_spec.specs.declared.Fault.TheVariants.{LineTooLong, NoDollar, NoLineEnd}
use Rattle.resp_spec.specs.declared.line.Line.{Line as LineAnswer}
use Rattle.resp_spec.specs.declared.line.Line.TheVariants.{Text, Unfinished, TooLong}
use Rattle.resp_bulk.specs.declared.Argument.{Argument}
use Rattle.resp_bulk.specs.declared.Argument.TheVariants.{Unread, Faulty, Part}
use Rattle.base_writing.proofs.Lent.{rest, rest_is}
use Rattle.resp_spec.specs.Request.{span, line, line_of, header_of, Reading, waits, faulty, with_span, begins_cr_lf, bulk_body, argument_line}
use Rattle.resp_spec.specs.Steps.{LineIs, line_of_answer, Next, Inside}
use Rattle.resp_spec.proofs.Arguments.{body_waits, body_ends, body_other}
use Rattle.resp_bulk.specs.Arguments.{begins_with, ArgumentIs, argument_at, argument_of_line, argument_of_size, LineFrom}
use Rattle.std.specs.Prelude.{Result, Ok, Err}

-- A FIXED TEXT
both_same : (a b : Bool) → (a && b) ≡ (a and b)
unfolding ◌and◌
both_same true b = refl
both_same false b = refl

same_test : (b t : ℕ) → eqb t b ≡ eqb b t
same_test b t = grind (arith, nat_tests)

-- what the library's `starts_with` says
pub starts_begins : (s text : Bytes) → starts_with eqb s text ≡ begins_with s text
unfolding begins_with
starts_begins s [] = refl
starts_begins [] (t ∷ text) = refl
starts_begins (b ∷ s) (t ∷ text) = (λ z. same_test b t z && starts_begins s text z) ∙ both_same (eqb b t) (begins_with s text)

begins_crlf : (s : Bytes) → begins_with s (13 ∷ 10 ∷ []) ≡ begins_cr_lf s
unfolding begins_with begins_cr_lf ◌and◌
begins_crlf [] = refl
begins_crlf (b ∷ []) = and-false (eqb b 13)
begins_crlf (b ∷ c ∷ s) = go (eqb b 13) (eqb c 10)
  where
    go : (t u : Bool) → (t and u and true) ≡ (t && u)
    go true true = refl
    go true false = refl
    go false u = refl

-- THE BYTES OF AN ARGUMENT
-- an answer that is no part
is_unread : {reading : Next → Reading} {input : Bytes} → ((next : Next) → reading next ≡ waits) → ArgumentIs reading input Unread
is_unread e = record { same = e; inside = λ start len is. let z : ◌≡◌ {A = ℕ} 0 1 = cc in absurd (omega arith) }

is_faulty : {reading : Next → Reading} {input : Bytes} {f : Fault} → ((next : Next) → reading next ≡ faulty f) → ArgumentIs reading input (Faulty f)
is_faulty e = record { same = e; inside = λ start len is. let z : ◌≡◌ {A = ℕ} 0 1 = cc in absurd (omega arith) }

module _ (input : Bytes) (at n : ℕ) (w : Inside input at) where
  pub body_short : length input - at < 2 → ArgumentIs (argument_of_size at n input) input Unread
  unfolding argument_of_size
  body_short h = is_unread (λ next. body_waits next at n (drop at input) (simp length-drop (omega arith)))

  pub body_cut : length input - at - 2 < n → ArgumentIs (argument_of_size at n input) input Unread
  unfolding argument_of_size
  body_cut h = is_unread (λ next. body_waits next at n (drop at input) (simp length-drop (omega arith)))

  module _ (two : 2 ≤ length input - at) (enough : n ≤ length input - at - 2) {b : Bool} (is : b ≡ begins_with (rest (at + n) input) (13 ∷ 10 ∷ [])) where
    long : n + 2 ≤ length (drop at input)
    long = simp length-drop (omega arith)

    tested : begins_cr_lf (drop n (drop at input)) ≡ b
    tested = sym (begins_crlf (drop n (drop at input))) ∙ ap (λ (l : Bytes). begins_with l (13 ∷ 10 ∷ [])) (drop-drop n at input ∙ sym (rest_is (at + n) input)) ∙ sym is

    pub body_part : b ≡ true → ArgumentIs (argument_of_size at n input) input (Part at n)
    unfolding argument_of_size
    body_part e =
        let end : at + (n + 2) ≡ at + n + 2 = omega arith in
        record {
          same = λ next. body_ends next at n (drop at input) long (tested ∙ e) ∙ ap (λ (l : Bytes). with_span (span at n) (next (at + n + 2) l)) (drop-drop (n + 2) at input ∙ ap (λ (k : ℕ). drop k input) end);
          inside = λ start len p. let start_is : at ≡ start = cc in let len_is : n ≡ len = cc in record { inside = omega (arith, w.inside) };
        }

    pub body_no_end : b ≡ false → ArgumentIs (argument_of_size at n input) input (Faulty NoLineEnd)
    unfolding argument_of_size
    body_no_end e = is_faulty (λ next. body_other next at n (drop at input) long (tested ∙ e))

-- THE LINE OF AN ARGUMENT, by its first byte
module _ (next : Next) (at used : ℕ) (s : Bytes) where
  dollar_missing : (t : Bytes) → 1 ≤ length t → (get_or t 0 0 ≡ 36 → ⊥) → argument_line next at s (line t used) ≡ faulty (NoDollar (span at 1))
  unfolding argument_line
  dollar_missing [] h ne = absurd (omega arith)
  dollar_missing (c ∷ t) h ne = rw (ne_eqb c 36 ne, argument_line) refl

  dollar_there : (t : Bytes) → 1 ≤ length t → get_or t 0 0 ≡ 36 → argument_line next at s (line t used) ≡ bulk_body next (at + used) (drop used s) (header_of Bulk (at + 1) (take (length t - 1) (drop 1 t)))
  unfolding argument_line
  dollar_there [] h e = absurd (omega arith)
  dollar_there (c ∷ t) h e = rw (eq-eqb c 36 e, take_rest, argument_line) refl

module _ (input : Bytes) (at len used : ℕ) (w : LineFrom input at len used) where
  abbrev text : Bytes
  text = take (at + len - at) (drop at input)

  whole : (next : Next) → argument_of_line at len used input next ≡ argument_line next at (drop at input) (line text used)
  unfolding argument_of_line
  whole next = let size : at + len - at ≡ len = omega arith in rw size refl

  pub sized_empty : length text < 1 → ArgumentIs (argument_of_line at len used input) input (Faulty (NoDollar (span at 0)))
  unfolding argument_of_line argument_line
  sized_empty h =
      let long : length (drop at input) ≡ length input - at = length-drop at input in
      let size : len ≡ 0 = omega (arith, length-take (at + len - at) (drop at input), w.text, w.inside) in
      is_faulty (λ next. rw size refl)

  module _ (some_byte : 1 ≤ length text) where
    pub sized_no_dollar : (get_or text 0 0 ≡ 36 → ⊥) → ArgumentIs (argument_of_line at len used input) input (Faulty (NoDollar (span at 1)))
    sized_no_dollar ne = is_faulty (λ next. whole next ∙ dollar_missing next at used (drop at input) text some_byte ne)

    module _ (dollar : get_or text 0 0 ≡ 36) (r : Result ℕ Fault) (h : r ≡ header_of Bulk (at + 1) (take (length text - 1) (drop 1 text))) where
      body : (next : Next) → argument_of_line at len used input next ≡ bulk_body next (at + used) (drop (at + used) input) r
      body next = whole next ∙ dollar_there next at used (drop at input) text some_byte dollar ∙ rw (← h, ← drop-drop used at input) refl

      pub sized_wrong : {f : Fault} → r ≡ Err f → ArgumentIs (argument_of_line at len used input) input (Faulty f)
      unfolding bulk_body
      sized_wrong e = is_faulty (λ next. body next ∙ rw e refl)

      pub sized_part : {n : ℕ} {a : Argument} → r ≡ Ok n → ArgumentIs (argument_of_size (at + used) n input) input a → ArgumentIs (argument_of_line at len used input) input a
      unfolding argument_of_size
      sized_part e a = record { same = λ next. body next ∙ rw e (a.same next); inside = a.inside }

-- AN ARGUMENT
module _ (input : Bytes) (at : ℕ) (w : Inside input at) {r : LineAnswer} (l : LineIs (rest at input) r) where
  line_is : line_of_answer (drop at input) r ≡ line_of (drop at input)
  line_is = rw rest_is at l.same

  pub argument_unread : r ≡ Unfinished → ArgumentIs (argument_at at input) input Unread
  unfolding argument_at argument_line
  argument_unread e = is_unread (λ next. rw (← line_is, e) refl)

  pub argument_long : r ≡ TooLong → ArgumentIs (argument_at at input) input (Faulty LineTooLong)
  unfolding argument_at argument_line
  argument_long e = is_faulty (λ next. rw (← line_is, e) refl)

  pub argument_sized : {len used : ℕ} {a : Argument} → r ≡ Text len used → ArgumentIs (argument_of_line at len used input) input a → ArgumentIs (argument_at at input) input a
  unfolding argument_at argument_of_line
  argument_sized e a = record { same = λ next. rw (← line_is, e) (a.same next); inside = a.inside }
