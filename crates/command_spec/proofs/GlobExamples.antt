-- What patterns answer to names (document 02, R-4): examples as one fact that antt computes.
use mathlib.Core.Path.{◌≡◌, refl}
use mathlib.Core.List.{List, [], ◌∷◌}
use Rattle.base_key.specs.Bytes.{bytes}
use Rattle.command_spec.specs.declared.pattern.Compared.{Compared}
use Rattle.command_spec.specs.declared.pattern.Compared.TheVariants.{Matches, Differs, DiffersByTheEnd}
use Rattle.command_spec.specs.Glob.{glob_told}
use Rattle.command_spec.specs.Opens.{command_spec_opens}

unfoldable pub answers : List Compared
answers =
    -- the end is there; it is missing; only the front differs; both do
    glob_told (bytes "b:*07") (bytes "b:1007")
    ∷ glob_told (bytes "b:*07") (bytes "b:1008")
    ∷ glob_told (bytes "b:*07") (bytes "c:1007")
    ∷ glob_told (bytes "b*a") (bytes "c")
    -- what follows the star is longer than the name, or overlaps the front
    ∷ glob_told (bytes "*ab") (bytes "b")
    ∷ glob_told (bytes "ab*b") (bytes "ab")
    -- the last of two stars
    ∷ glob_told (bytes "*ab*b") (bytes "ab")
    ∷ glob_told (bytes "*1*2") (bytes "21")
    -- nothing follows the star: the empty end matches
    ∷ glob_told (bytes "*") (bytes "")
    ∷ glob_told (bytes "a*") (bytes "b")
    -- no wildcard star: none at all, or an escaped one
    ∷ glob_told (bytes "a") (bytes "b")
    ∷ glob_told (bytes "\\*") (bytes "x")
    ∷ glob_told (bytes "a\\*") (bytes "b")
    -- behind the wildcard star an escaped one, a last lone `\`, a bracket
    ∷ glob_told (bytes "*\\*") (bytes "a")
    ∷ glob_told (bytes "*\\") (bytes "a")
    ∷ glob_told (bytes "[*]") (bytes "x]")
    ∷ []

pub answers_hold : answers
    ≡ Matches ∷ DiffersByTheEnd ∷ Differs ∷ DiffersByTheEnd
    ∷ DiffersByTheEnd ∷ Differs
    ∷ Differs ∷ DiffersByTheEnd
    ∷ Matches ∷ Differs
    ∷ Differs ∷ Differs ∷ Differs
    ∷ DiffersByTheEnd ∷ DiffersByTheEnd ∷ Differs ∷ []
unfolding command_spec_opens answers
answers_hold = refl
