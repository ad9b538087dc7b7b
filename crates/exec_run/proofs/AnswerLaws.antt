-- The replies of the commands that write nothing, from what the code writes. Assumes nothing.
use Prim.Native.Nat.{ℕ, ◌-◌, ◌≤◌}
use mathlib.Core.Path.{◌≡◌, refl, sym, ap, ◌∙◌}
use mathlib.Core.List.{List}
use Rattle.command_meaning.proofs.KindLaws.{least_one}
use Rattle.command_spec.proofs.PlaceLaws.{arguments_of}
use Rattle.base_key.specs.Bytes.{Bytes}
use Rattle.base_writing.specs.Puts.{Adds}
use Rattle.base_writing.proofs.Puts.{same_added}
use Rattle.resp_spec.specs.Reply.{Reply, BulkString, array, bulk_or, encode}
use Rattle.command_spec.specs.declared.Fixed.{Fixed}
use Rattle.command_spec.specs.Names.{Args}
use Rattle.command_spec.specs.Command.{argument}
use Rattle.command_spec.specs.Errors.{fixed_reply}
use Rattle.command_spec.specs.Places.{arguments_at}
use Rattle.store_memtable.specs.Table.{Reader}
use Rattle.command_lookup.specs.See.{value_replies}
use Rattle.command_meaning.specs.declared.Read.{Read}
use Rattle.command_meaning.specs.declared.Read.TheVariants.{Value, Live, Values, Echo, Says}
use Rattle.command_meaning.specs.Kinds.{live_reply, read_reply, least_read}
use Rattle.std.specs.Prelude.{Option}

module _ (r : Reader) (p : List ℕ) (d : Bytes) (count : ℕ) (q : Read) {put after : Option ℕ} {entry exit : Bytes} where
  as_reply : {x : Reply} {t : Read} → q ≡ t → x ≡ read_reply t r (arguments_at 0 count p d) → Adds (encode x) put entry after exit
      → Adds (encode (read_reply q r (arguments_at 0 count p d))) put entry after exit
  as_reply e x-is a =
      same_added (ap encode (ap (λ (t : Read). read_reply t r (arguments_at 0 count p d)) e ∙ sym x-is)) a

  pub read_value : {k : Bytes} → q ≡ Value → k ≡ argument 1 (arguments_at 0 count p d) → Adds (encode (bulk_or (r k))) put entry after exit
      → Adds (encode (read_reply q r (arguments_at 0 count p d))) put entry after exit
  unfolding read_reply
  read_value e k-is a = as_reply e (ap (λ (x : Bytes). bulk_or (r x)) k-is) a

  pub read_live : q ≡ Live → Adds (encode (live_reply r (arguments_at 0 count p d))) put entry after exit
      → Adds (encode (read_reply q r (arguments_at 0 count p d))) put entry after exit
  unfolding read_reply
  read_live e a = as_reply e refl a

  pub read_values : q ≡ Values → least_read q ≤ count → Adds (encode (array (value_replies r (arguments_at 1 (count - 1) p d)))) put entry after exit
      → Adds (encode (read_reply q r (arguments_at 0 count p d))) put entry after exit
  unfolding read_reply
  read_values e h a = as_reply e (ap (λ (x : Args). array (value_replies r x)) (sym (arguments_of p d count (least_one q h)))) a

  pub read_echo : {k : Bytes} → q ≡ Echo → k ≡ argument 1 (arguments_at 0 count p d) → Adds (encode (BulkString k)) put entry after exit
      → Adds (encode (read_reply q r (arguments_at 0 count p d))) put entry after exit
  unfolding read_reply
  read_echo e k-is a = as_reply e (ap BulkString k-is) a

  pub read_says : {f : Fixed} → q ≡ Says f → Adds (encode (fixed_reply f)) put entry after exit
      → Adds (encode (read_reply q r (arguments_at 0 count p d))) put entry after exit
  unfolding read_reply
  read_says e a = as_reply e refl a
