-- Order of versions (document 01, section 1): key bytes ascending, then sequence descending.
use Rattle.std.specs.Prelude.{ℕ, Bool, true, false, [], ◌∷◌, ltb}
use Rattle.base_key.specs.Bytes.{Bytes}
use Rattle.std.specs.declared.cmp.Ordering.TheVariants.{Less, Equal, Greater}
use Rattle.std.specs.declared.cmp.Ordering.{Ordering}

-- a key: any bytes
abbrev pub Key : Type 0
Key = Bytes

-- the order of two numbers by their two tests, and `tie` where they are equal
abbrev pub order_by : Bool → Bool → Ordering → Ordering
order_by true above tie = Less
order_by false true tie = Greater
order_by false false tie = tie

-- lexicographic on bytes; a prefix comes before what it begins
unfoldable pub compare_keys : Key → Key → Ordering
compare_keys [] [] = Equal
compare_keys [] (y ∷ ys) = Less
compare_keys (x ∷ xs) [] = Greater
compare_keys (x ∷ xs) (y ∷ ys) = order_by (ltb x y) (ltb y x) (compare_keys xs ys)

-- the first order, and the second where the first is a tie
abbrev pub then_by : Ordering → Ordering → Ordering
then_by Less tie = Less
then_by Greater tie = Greater
then_by Equal tie = tie

-- by key, and of one key the higher sequence first
unfoldable pub order_of_versions : Key → ℕ → Key → ℕ → Ordering
order_of_versions a s b t = then_by (compare_keys a b) (order_by (ltb t s) (ltb s t) Equal)

-- the first comes before the second
abbrev pub is_less : Ordering → Bool
is_less Less = true
is_less Equal = false
is_less Greater = false

-- the two are equal
abbrev pub is_equal : Ordering → Bool
is_equal Less = false
is_equal Equal = true
is_equal Greater = false

-- the same key
unfoldable pub same_key : Key → Key → Bool
same_key a b = is_equal (compare_keys a b)

-- the first key is below the second
unfoldable pub key_below : Key → Key → Bool
key_below a b = is_less (compare_keys a b)
