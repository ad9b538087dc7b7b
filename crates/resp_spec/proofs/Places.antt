-- The laws of the lent table: its first words are those of the arguments read so far. Assumes nothing.
use mathlib.Core.Path.{◌≡◌, refl, sym, ap, ◌∙◌}
use mathlib.Core.List.{List, [], ◌∷◌, ◌++◌, append_assoc}
use Prim.Native.Nat.{ℕ, suc, ◌+◌, ◌*◌, ◌/◌, ◌<◌}
use native.Mathlib.Omega.{arith}
use lib.ListN.{length, take, set, length-append, length-set}
use lib.Seq.{take-suc-set}
use Rattle.resp_spec.specs.declared.Span.{Span}
use Rattle.resp_spec.specs.declared.Read.TheVariants.{Wait, Faulty, TooMany, Whole}
use Rattle.resp_spec.specs.Request.{span, Reading, waits, faulty, too_many, whole}
use Rattle.resp_spec.specs.Steps.{span_words, argument_words, ReadIs, with_place}

pub words_length : (ps : List Span) → length (span_words ps) ≡ 2 * length ps
unfolding span_words
words_length [] = refl
words_length (p ∷ ps) = ap (λ (n : ℕ). suc (suc n)) (words_length ps) ∙ omega arith

pub words_more : (ps : List Span) (p : Span) → span_words (ps ++ p ∷ []) ≡ span_words ps ++ p.start ∷ p.len ∷ []
unfolding span_words
words_more [] p = refl
words_more (q ∷ ps) p = ap (λ (l : List ℕ). q.start ∷ q.len ∷ l) (words_more ps p)

-- n arguments, `spans`, stand in front of a table that was lent as `entry`
pub record Held (entry table : List ℕ) (n : ℕ) (spans : List Span) : Type 0 where
  pub size : length table ≡ length entry
  pub many : length spans ≡ n
  pub front : take (2 * n) table ≡ span_words spans

pub held_none : (entry : List ℕ) → Held entry entry 0 []
unfolding span_words
held_none entry = record { size = refl; many = refl; front = refl }

module _ {entry table : List ℕ} {n : ℕ} {spans : List Span} (h : Held entry table n spans) where
  pub held_more : (start len : ℕ) {after : List ℕ} → n < length entry / 2 → after ≡ with_place n start len table → Held entry after (n + 1) (spans ++ span start len ∷ [])
  unfolding with_place
  held_more start len {after} l e =
      let first : 2 * n < length table = omega (arith, h.size) in
      let second : 2 * n + 1 < length (set table (2 * n) start) = rw length-set (omega (arith, h.size)) in
      let twice : 2 * (n + 1) ≡ suc (2 * n + 1) = omega arith in
      let once : 2 * n + 1 ≡ suc (2 * n) = omega arith in
      record {
        size = ap length e ∙ length-set (set table (2 * n) start) (2 * n + 1) len ∙ length-set table (2 * n) start ∙ h.size;
        many = length-append spans (span start len ∷ []) ∙ ap (λ (k : ℕ). k + 1) h.many;
        front =
            ap (take (2 * (n + 1))) e
            ∙ ap (λ (k : ℕ). take k (set (set table (2 * n) start) (2 * n + 1) len)) twice
            ∙ take-suc-set (set table (2 * n) start) (2 * n + 1) len second
            ∙ ap (λ (k : ℕ). take k (set table (2 * n) start) ++ len ∷ []) once
            ∙ ap (λ (t : List ℕ). t ++ len ∷ []) (take-suc-set table (2 * n) start first)
            ∙ append_assoc (take (2 * n) table) (start ∷ []) (len ∷ [])
            ∙ ap (λ (t : List ℕ). t ++ start ∷ len ∷ []) h.front
            ∙ sym (words_more spans (span start len));
      }

  -- all arguments are read
  pub read_whole : {reading : Reading} {used : ℕ} → reading ≡ whole spans used → ReadIs reading (Whole n used) table
  unfolding argument_words
  read_whole {used = used} e =
      rw e (record { answer = ap (λ (k : ℕ). Whole k used) (sym h.many); front = ap (λ (k : ℕ). take k table) (words_length spans ∙ ap (λ (k : ℕ). 2 * k) h.many) ∙ h.front })

-- an answer without arguments says nothing of the table
pub read_wait : {reading : Reading} {table : List ℕ} → reading ≡ waits → ReadIs reading Wait table
unfolding argument_words
read_wait e = rw e (record { answer = refl; front = refl })

pub read_faulty : {reading : Reading} {table : List ℕ} (f : _) → reading ≡ faulty f → ReadIs reading (Faulty f) table
unfolding argument_words
read_faulty f e = rw e (record { answer = refl; front = refl })

pub read_too_many : {reading : Reading} {table : List ℕ} → reading ≡ too_many → ReadIs reading TooMany table
unfolding argument_words
read_too_many e = rw e (record { answer = refl; front = refl })
