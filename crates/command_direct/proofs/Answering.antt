-- The commands that write nothing, and the errors of requests that are not carried out: the reply of each. Assumes nothing.
use Prim.Native.Nat.{ℕ, ◌-◌, ◌≤◌}
use mathlib.Core.Path.{◌≡◌, refl, sym, ap, ◌∙◌}
use mathlib.Core.List.{List}
use lib.IntN.{pos}
use Rattle.command_meaning.proofs.KindLaws.{least_one}
use Rattle.command_spec.proofs.PlaceLaws.{arguments_of, name_of}
use Rattle.base_key.specs.Bytes.{Bytes}
use Rattle.base_writing.specs.Puts.{Puts, Adds}
use Rattle.base_writing.proofs.Puts.{then_puts, puts_nothing, same_text}
use Rattle.resp_spec.specs.Reply.{Reply, Integer, BulkString, array, bulk_or, encode}
use Rattle.command_spec.specs.declared.Fixed.{Fixed}
use Rattle.command_spec.specs.Command.{argument, live, unknown_command}
use Rattle.command_spec.specs.Errors.{fixed_reply, arity_of}
use Rattle.command_spec.specs.Places.{arguments_at}
use Rattle.command_meaning.specs.declared.Read.{Read}
use Rattle.command_meaning.specs.declared.Read.TheVariants.{Value, Live, Values, Echo, Says}
use Rattle.command_meaning.specs.declared.Refusal.{Refusal}
use Rattle.command_meaning.specs.declared.Refusal.TheVariants as refusal
use Rattle.command_meaning.specs.Meant.{refusal_reply}
use Rattle.command_meaning.specs.Kinds.{live_reply, read_reply, least_read}
use Rattle.command_room.specs.Reading.{last_reader}
use Rattle.store_memtable.specs.Table.{Reader}
use Rattle.store_memtable.specs.Versions.{read_at}
use Rattle.store_memtable.specs.Layout.{last_word}
use Rattle.store_memtable.specs.Rows.{versions_in}
use Rattle.command_lookup.specs.See.{value_replies}
use Rattle.command_direct.proofs.LastReader.{last_is}
use Rattle.std.specs.Prelude.{Option, Some}

-- EACH REPLY
module _ (w : List ℕ) (b : Bytes) (p : List ℕ) (d : Bytes) (count : ℕ) (q : Read) {out out' : Bytes} {put : Option ℕ} where
  as_reply : {x : Reply} {t : Read} → q ≡ t → x ≡ read_reply t (last_reader w b) (arguments_at 0 count p d) → Puts (encode x) out put out'
      → Puts (encode (read_reply q (last_reader w b) (arguments_at 0 count p d))) out put out'
  as_reply e x-is a =
      same_text (ap encode (ap (λ (t : Read). read_reply t (last_reader w b) (arguments_at 0 count p d)) e ∙ sym x-is)) a

  module _ {r : Reader} (r-is : r ≡ read_at (last_word w) (versions_in w b)) where
    pub read_value : {k : Bytes} → q ≡ Value → k ≡ argument 1 (arguments_at 0 count p d) → Adds (encode (bulk_or (r k))) (Some 0) out put out'
        → Puts (encode (read_reply q (last_reader w b) (arguments_at 0 count p d))) out put out'
    unfolding read_reply
    read_value e k-is a = as_reply e (λ z. bulk_or (last_is w b refl refl r-is z (k-is z))) (then_puts (puts_nothing out) a)

    pub read_live : q ≡ Live → least_read q ≤ count → Puts (encode (Integer (pos (live r (arguments_at 1 (count - 1) p d))))) out put out'
        → Puts (encode (read_reply q (last_reader w b) (arguments_at 0 count p d))) out put out'
    unfolding read_reply live_reply
    read_live e h a = as_reply e (λ z. Integer (pos (live (last_is w b refl refl r-is z) (sym (arguments_of p d count (least_one q h)) z)))) a

    pub read_values : q ≡ Values → least_read q ≤ count → Adds (encode (array (value_replies r (arguments_at 1 (count - 1) p d)))) (Some 0) out put out'
        → Puts (encode (read_reply q (last_reader w b) (arguments_at 0 count p d))) out put out'
    unfolding read_reply
    read_values e h a = as_reply e (λ z. array (value_replies (last_is w b refl refl r-is z) (sym (arguments_of p d count (least_one q h)) z))) (then_puts (puts_nothing out) a)

  pub read_echo : {k : Bytes} → q ≡ Echo → k ≡ argument 1 (arguments_at 0 count p d) → Puts (encode (BulkString k)) out put out'
      → Puts (encode (read_reply q (last_reader w b) (arguments_at 0 count p d))) out put out'
  unfolding read_reply
  read_echo e k-is a = as_reply e (ap BulkString k-is) a

  pub read_says : {f : Fixed} → q ≡ Says f → Puts (encode (fixed_reply f)) out put out'
      → Puts (encode (read_reply q (last_reader w b) (arguments_at 0 count p d))) out put out'
  unfolding read_reply
  read_says e a = as_reply e refl a

-- EACH ERROR
module _ (p : List ℕ) (d : Bytes) (count : ℕ) (q : Refusal) {out out' : Bytes} {put : Option ℕ} where
  as_error : {x : Reply} {t : Refusal} → q ≡ t → x ≡ refusal_reply t (arguments_at 0 count p d) → Puts (encode x) out put out'
      → Puts (encode (refusal_reply q (arguments_at 0 count p d))) out put out'
  as_error e x-is a = same_text (ap encode (ap (λ (t : Refusal). refusal_reply t (arguments_at 0 count p d)) e ∙ sym x-is)) a

  pub refusal_says : {f : Fixed} → q ≡ refusal.Says f → Puts (encode (fixed_reply f)) out put out' → Puts (encode (refusal_reply q (arguments_at 0 count p d))) out put out'
  unfolding refusal_reply
  refusal_says e a = as_error e refl a

  module _ (some-count : 1 ≤ count) {k : Bytes} (k-is : k ≡ argument 0 (arguments_at 0 count p d)) where
    pub refusal_arity : q ≡ refusal.Arity → Puts (encode (arity_of k)) out put out' → Puts (encode (refusal_reply q (arguments_at 0 count p d))) out put out'
    unfolding refusal_reply
    refusal_arity e a = as_error e (ap arity_of (k-is ∙ sym (name_of p d count some-count))) a

    pub refusal_unknown : q ≡ refusal.Unknown → Puts (encode (unknown_command k)) out put out' → Puts (encode (refusal_reply q (arguments_at 0 count p d))) out put out'
    unfolding refusal_reply
    refusal_unknown e a = as_error e (ap unknown_command (k-is ∙ sym (name_of p d count some-count))) a
