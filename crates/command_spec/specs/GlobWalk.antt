-- What the steps of the code along a glob pattern answer, in terms of `Glob.antt`.
use Rattle.std.specs.Prelude.{ℕ, zero, suc, ◌-◌, ◌≤◌, ◌<◌, ◌≡◌, true, false, List, [], ◌∷◌, length, drop}
use Rattle.std.specs.Prelude.{Option, None, Some}
use Rattle.base_key.specs.Bytes.{Bytes}
use Rattle.command_spec.specs.declared.pattern.Step.{Step}
use Rattle.command_spec.specs.declared.pattern.Step.TheVariants as step
use Rattle.command_spec.specs.declared.pattern.Walk.{Walk}
use Rattle.command_spec.specs.declared.pattern.Walk.TheVariants as walk
use Rattle.command_spec.specs.Glob.{Token, literal, one, star, tokens, matches, some_tail, after_last_star}

-- the token at a place, and the place behind it
pub record TokenAt (pattern : Bytes) (at next : ℕ) (token : Token) : Type 0 where
  pub forward : at < next
  pub within : next ≤ length pattern
  pub is : tokens (drop at pattern) ≡ token ∷ tokens (drop next pattern)

abbrev pub Stepped : Bytes → ℕ → Step → Type 0
Stepped pattern at step.End = tokens (drop at pattern) ≡ []
Stepped pattern at (step.Star next) = TokenAt pattern at next star
Stepped pattern at (step.One next) = TokenAt pattern at next one
Stepped pattern at (step.Byte b next) = TokenAt pattern at next (literal b)

-- `Reach t m rest`: m tokens that are no stars, a star, and then `rest`
pub data Reach : List Token → ℕ → List Token → Type 0 where
  here : {rest : List Token} → Reach (star ∷ rest) 0 rest
  past_literal : {b : ℕ} {t : List Token} {m : ℕ} {rest : List Token} → Reach t m rest → Reach (literal b ∷ t) (suc m) rest
  past_one : {t : List Token} {m : ℕ} {rest : List Token} → Reach t m rest → Reach (one ∷ t) (suc m) rest

-- the first star is reached: what is left of the pattern has to match some tail of what is left of the name
pub record AtStar (pattern name : Bytes) (next used : ℕ) : Type 0 where
  pub forward : 0 < next
  pub within : next ≤ length pattern
  pub inside : used ≤ length name
  pub reach : Reach (tokens pattern) used (tokens (drop next pattern))
  pub rest : matches (tokens pattern) name ≡ some_tail (matches (tokens (drop next pattern))) (drop used name)

abbrev pub Walked : Bytes → Bytes → Walk → Type 0
Walked pattern name walk.Whole = matches (tokens pattern) name ≡ true
Walked pattern name walk.Fails = matches (tokens pattern) name ≡ false
Walked pattern name (walk.Star next used) = AtStar pattern name next used

-- what follows a star, by the place behind it; 0 is no such place
unfoldable pub behind_star : Bytes → ℕ → Option (List Token)
behind_star pattern zero = None
behind_star pattern (suc n) = Some (tokens (drop (suc n) pattern))

-- from `behind` on the pattern has the tokens that follow its last star, `count` of them; `behind` is 0 without a star
pub record LastStar (pattern : Bytes) (behind count : ℕ) : Type 0 where
  pub within : behind ≤ length pattern
  pub is : after_last_star (tokens pattern) ≡ behind_star pattern behind
  pub counted : length (tokens (drop behind pattern)) ≡ count

-- the tokens from `behind` on match the name from `end` on
pub record EndFound (pattern name : Bytes) (behind end : ℕ) : Type 0 where
  pub inside : end ≤ length name
  pub last : LastStar pattern behind (length name - end)
  pub found : matches (tokens (drop behind pattern)) (drop end name) ≡ true

-- whether some tail of the name matches these tokens is the same from `from` on as from `next` on
pub record Passed (tokens : List Token) (name : Bytes) (from next : ℕ) : Type 0 where
  pub forward : from ≤ next
  pub inside : next ≤ length name
  pub rest : some_tail (matches tokens) (drop from name) ≡ some_tail (matches tokens) (drop next name)

-- the same of all tokens that begin with this byte
pub record BytePassed (name : Bytes) (byte from next : ℕ) : Type 0 where
  pub forward : from ≤ next
  pub inside : next ≤ length name
  pub rest : (t : List Token) → some_tail (matches (literal byte ∷ t)) (drop from name) ≡ some_tail (matches (literal byte ∷ t)) (drop next name)
