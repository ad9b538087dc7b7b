-- Glob patterns (document 01, section 7): `*` any run, `?` any one byte, `\x` the byte x.
use Rattle.std.specs.Prelude.{ℕ, Bool, true, false, cond, not, List, [], ◌∷◌, eqb}
use Rattle.std.specs.Prelude.{Option, None, Some}
use Rattle.base_key.specs.Bytes.{Bytes}
use Rattle.command_spec.specs.declared.pattern.Compared.{Compared}
use Rattle.command_spec.specs.declared.pattern.Compared.TheVariants.{Matches, Differs, DiffersByTheEnd}

-- what a pattern is made of
pub data Token : Type 0 where
  literal : ℕ → Token
  one : Token
  star : Token

-- a byte that is not escaped
abbrev pub token_of : ℕ → Token
token_of b = cond (eqb b 42) star (cond (eqb b 63) one (literal b))

-- `\` (92) makes the next byte literal; a last lone `\` is itself
unfoldable pub tokens : Bytes → List Token
tokens [] = []
tokens (b ∷ []) = token_of b ∷ []
tokens (b ∷ c ∷ p) = elim (eqb b 92) [ true ↦ literal c ∷ tokens p | false ↦ token_of b ∷ tokens (c ∷ p) ]

-- the whole, or its tail one byte further on, and so on to the empty tail
unfoldable pub some_tail : (Bytes → Bool) → Bytes → Bool
some_tail f [] = f []
some_tail f (b ∷ s) = elim (f (b ∷ s)) [ true ↦ true | false ↦ some_tail f s ]

-- tokens against a name
unfoldable pub matches : List Token → Bytes → Bool
matches [] [] = true
matches [] (b ∷ s) = false
matches (literal c ∷ p) [] = false
matches (literal c ∷ p) (b ∷ s) = elim (eqb b c) [ true ↦ matches p s | false ↦ false ]
matches (one ∷ p) [] = false
matches (one ∷ p) (b ∷ s) = matches p s
matches (star ∷ p) [] = matches p []
matches (star ∷ p) (b ∷ s) = some_tail (matches p) (b ∷ s)

-- the pattern matches the name
unfoldable pub glob : Bytes → Bytes → Bool
glob pattern name = matches (tokens pattern) name

-- WHAT A NO SAYS (document 02, R-4).
-- the first if it is there, else the second
abbrev pub or_else : Option (List Token) → Option (List Token) → Option (List Token)
or_else (Some t) other = Some t
or_else None other = other

-- what follows the last star, where there is one
unfoldable pub after_last_star : List Token → Option (List Token)
after_last_star [] = None
after_last_star (literal c ∷ p) = after_last_star p
after_last_star (one ∷ p) = after_last_star p
after_last_star (star ∷ p) = or_else (after_last_star p) (Some p)

-- there is a star, and no end of the name matches what follows the last one
unfoldable pub end_missing : Option (List Token) → Bytes → Bool
end_missing None name = false
end_missing (Some t) name = not (some_tail (matches t) name)

abbrev pub told : Bool → Bool → Compared
told true missing = Matches
told false true = DiffersByTheEnd
told false false = Differs

-- yes or no as `glob` says it, and a no by the end exactly if the end is missing
unfoldable pub glob_told : Bytes → Bytes → Compared
glob_told pattern name = told (glob pattern name) (end_missing (after_last_star (tokens pattern)) name)
