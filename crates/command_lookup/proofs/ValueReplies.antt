-- Laws of the replies that hold values: a value or nil, and an array of them. Assumes nothing.
use Prim.Native.Nat.{ℕ, suc, ◌+◌, ◌-◌, ◌≤◌, ◌<◌}
use native.Mathlib.Omega.{arith}
use mathlib.Core.Path.{◌≡◌, refl, sym, ap, ◌∙◌}
use mathlib.Core.List.{List, [], ◌∷◌}
use lib.ListN.{length}
use Rattle.base_key.specs.Bytes.{Bytes}
use Rattle.base_key.specs.Keys.{Key}
use Rattle.base_writing.specs.Puts.{Puts, Adds}
use Rattle.resp_spec.specs.Reply.{head, encode, array, bulk_or}
use Rattle.resp_encode.proofs.Replies.{Listed, listed_more, listed_full, listed_all}
use Rattle.store_memtable.specs.Table.{Reader}
use Rattle.command_spec.specs.Command.{argument}
use Rattle.command_spec.specs.Places.{argument_at, arguments_at}
use Rattle.command_spec.proofs.PlaceLaws.{argument_is, arguments_count, arguments_next, arguments_end}
use Rattle.command_lookup.specs.See.{value_replies}
use Rattle.std.specs.Prelude.{Option, None}

-- AN ARRAY of values
replies_long : (r : Reader) (ks : List Key) → length (value_replies r ks) ≡ length ks
replies_long r [] = refl
replies_long r (k ∷ ks) = ap suc (replies_long r ks)

-- the values of the keys from place i on are still to be written
pub record ValuesFrom (r : Reader) (places : List ℕ) (input : Bytes) (from to i : ℕ) (put : Option ℕ) (entry : Bytes) (after : Option ℕ) (out : Bytes) : Type 0 where
  pub within : i ≤ to
  pub listed : Listed (value_replies r (arguments_at from (to - from) places input)) (value_replies r (arguments_at i (to - i) places input)) put entry after out

module _ {r : Reader} {places : List ℕ} {input : Bytes} {from to i : ℕ} {put next : Option ℕ} {entry mid : Bytes} (g : ValuesFrom r places input from to i put entry next mid) where
  pub values_more : (k : Key) {after : Option ℕ} {exit : Bytes} → i < to → k ≡ argument i (arguments_at 0 to places input) → Adds (encode (bulk_or (r k))) next mid after exit → ValuesFrom r places input from to (i + 1) put entry after exit
  values_more k h k-is a =
      let e : value_replies r (arguments_at i (to - i) places input) ≡ bulk_or (r k) ∷ value_replies r (arguments_at (i + 1) (to - (i + 1)) places input) =
      ap (value_replies r) (arguments_next places input h)
      ∙ ap (λ (x : Key). bulk_or (r x) ∷ value_replies r (arguments_at (i + 1) (to - (i + 1)) places input)) (sym (k-is ∙ sym (argument_is places input to i {r = argument_at i places input} h refl))) in
      record { within = omega arith; listed = listed_more (bulk_or (r k)) (rw (← e) g.listed) a }

  counted : to - from ≡ length (value_replies r (arguments_at from (to - from) places input))
  counted = sym (replies_long r (arguments_at from (to - from) places input) ∙ arguments_count from (to - from) places input)

  module _ {start : Bytes} (p : Puts (head 42 (to - from)) start put entry) where
    pub values_full : next ≡ None → {last : Option ℕ} → last ≡ None → Puts (encode (array (value_replies r (arguments_at from (to - from) places input)))) start last mid
    values_full told e =
        rw e (listed_full (value_replies r (arguments_at from (to - from) places input)) counted p (value_replies r (arguments_at i (to - i) places input)) g.listed told)

    pub values_all : to ≤ i → Puts (encode (array (value_replies r (arguments_at from (to - from) places input)))) start next mid
    values_all h =
        let none_left : value_replies r (arguments_at i (to - i) places input) ≡ [] = ap (value_replies r) (arguments_end places input h) in
        listed_all (value_replies r (arguments_at from (to - from) places input)) counted p (rw (← none_left) g.listed)
