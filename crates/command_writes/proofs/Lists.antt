-- A choice by the order of two numbers. Assumes nothing.
use Prim.Native.Nat.{ℕ, ◌≤◌, ◌<◌}
use mathlib.Core.Path.{◌≡◌, refl}
use mathlib.Core.Bool.{Bool, true, false}
use lib.Dec.{ltb}
use borrow.Author.Tests.{ltb-true, ltb-false}

-- one of two numbers is the lower
pub by_order : {A : Type 0} (a b : ℕ) → (a < b → A) → (b ≤ a → A) → A
by_order {A} a b f g = go (ltb a b) refl
  where
    go : (t : Bool) → ltb a b ≡ t → A
    go true p = f (ltb-true a b p)
    go false p = g (ltb-false a b p)
