-- Every definition of this crate, opened at once: for facts that antt computes.
use Rattle.base_key.specs.Opens.{base_key_opens}
use Rattle.base_number.specs.Decimal.{digits_within, digits, decimal}
use Rattle.base_number.specs.Number.{value_from, value_of, size_of, signed, whole_of, number_of, number_in, int_arg, length_within, length_of}

unfoldable pub base_number_opens : Unit {0}
unfolding base_key_opens digits_within digits decimal value_from value_of size_of signed whole_of number_of number_in int_arg length_within length_of
base_number_opens = tt
