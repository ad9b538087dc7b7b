-- The laws of reading a whole number. Assumes nothing.
use mathlib.Core.Path.{◌≡◌, refl, ap, ◌∙◌}
use Prim.Native.Nat.{ℕ}
use lib.IntN.{ℤ, pos, negsuc}
use native.Mathlib.Omega.{arith}
use mir.Syntax.{w64}
use mir.Val.{SFits, of_z}
use mir.ValLaws.{to_z-of_z}
use Rattle.base_key.specs.Bytes.{Bytes}
use Rattle.base_number.specs.Number.{int_arg}
use Rattle.base_number.proofs.Signed.{bits}
use Rattle.reply_item.specs.declared.Item.TheVariants.{WholeNumber}
use Rattle.reply_item.specs.declared.ItemLine.TheVariants.{Complete, Wrong}
use Rattle.reply_item.specs.Replies.{word_of, number_line}
use Rattle.std.specs.Prelude.{Option, None, Some}

-- the bits of a number are its word
word_is : (z : ℤ) → of_z w64 z ≡ word_of z
unfolding word_of
word_is (pos n) = refl
word_is (negsuc n) = omega arith

module _ (text : Bytes) {n : Option ℤ} (read : n ≡ int_arg text) where
  pub number_bad : n ≡ None → Wrong ≡ number_line (int_arg text)
  unfolding number_line
  number_bad b = rw (← read, b) refl

  pub number_word : {z : ℤ} {w : ℕ} → SFits w64 z → n ≡ Some z → w ≡ of_z w64 (bits z) → Complete (WholeNumber w) ≡ number_line (int_arg text)
  unfolding number_line
  number_word {z} fits b word = rw (← read, b) (ap (λ (k : ℕ). Complete (WholeNumber k)) (word ∙ ap (of_z w64) (to_z-of_z w64 z fits) ∙ word_is z))
