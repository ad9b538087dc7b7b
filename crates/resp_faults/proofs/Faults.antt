-- The laws of the text of faults: each is written part by part. Assumes nothing.
use mathlib.Core.Path.{◌≡◌, refl, ◌∙◌}
use mathlib.Core.List.{◌++◌, map, map-append, append_assoc}
use Prim.Native.Nat.{ℕ}
use Rattle.resp_spec.proofs.ReplyTexts.{clean_quote, digits_clean}
use Rattle.base_key.specs.Bytes.{Bytes, bytes}
use Rattle.base_number.specs.Decimal.{digits}
use Rattle.base_writing.specs.Puts.{Puts, Adds}
use Rattle.base_writing.proofs.Puts.{then_puts, then_adds, same_added}
use Rattle.resp_spec.specs.declared.Span.{Span}
use Rattle.resp_spec.specs.declared.Header.{Header}
use Rattle.resp_spec.specs.declared.Header.TheVariants.{Multibulk, Bulk}
use Rattle.resp_spec.specs.declared.Fault.{Fault}
use Rattle.resp_spec.specs.declared.Fault.TheVariants.{NotText, NotNumber, OverLimit, NoDollar}
use Rattle.resp_spec.specs.Utf8.{lossy}
use Rattle.resp_spec.specs.Request.{spanned, limit_of, header_name, fault_text}
use Rattle.resp_spec.specs.Reply.{clean, crlf, err, encode}
use Rattle.std.specs.Prelude.{Option}

-- TEXTS WITHOUT CR AND LF
name_clean : (kind : Header) → map clean (header_name kind) ≡ header_name kind
name_clean Multibulk = refl
name_clean Bulk = refl

-- parts in the order in which they are written
clean_two : (a b : Bytes) → map clean a ≡ a → map clean b ≡ b → map clean (a ++ b) ≡ a ++ b
clean_two a b pa pb = simp (map-append, pa, pb)

clean_quote_behind : (a b c q x d : Bytes) → map clean a ≡ a → map clean b ≡ b → map clean c ≡ c → map clean q ≡ q → map clean d ≡ d → map clean (a ++ b ++ c ++ (q ++ (x ++ d))) ≡ a ++ b ++ (c ++ q) ++ map clean x ++ d
clean_quote_behind a b c q x d pa pb pc pq pd = simp (map-append, append_assoc, pa, pb, pc, pq, pd)

clean_five : (a b c d e : Bytes) → map clean a ≡ a → map clean b ≡ b → map clean c ≡ c → map clean d ≡ d → map clean e ≡ e → map clean (a ++ b ++ c ++ d ++ e) ≡ a ++ b ++ c ++ d ++ e
clean_five a b c d e pa pb pc pd pe = simp (map-append, pa, pb, pc, pd, pe)

-- WRITING, where each part is behind the one before
module _ {entry mid exit : Bytes} {put next after : Option ℕ} (s : Bytes) (kind : Header) where
  pub write_not_text : Adds (bytes "invalid ") put entry next mid → Adds (header_name kind) next mid after exit → Adds (map clean (fault_text s (NotText kind))) put entry after exit
  unfolding fault_text
  write_not_text a b = same_added (clean_two (bytes "invalid ") (header_name kind) refl (name_clean kind)) (then_adds a b)

module _ {l0 l1 l2 l3 l4 l5 : Bytes} {u0 u1 u2 u3 u4 u5 : Option ℕ} (s : Bytes) (kind : Header) where
  pub write_not_number : (p : Span) {x : Bytes} → Adds (bytes "invalid ") u0 l0 u1 l1 → Adds (header_name kind) u1 l1 u2 l2 → Adds (bytes " '") u2 l2 u3 l3
      → x ≡ spanned s p → Adds (map clean x) u3 l3 u4 l4 → Adds (bytes "'") u4 l4 u5 l5 → Adds (map clean (fault_text s (NotNumber kind p))) u0 l0 u5 l5
  unfolding fault_text
  write_not_number p {x} a b c e d f =
      same_added (clean_quote_behind (bytes "invalid ") (header_name kind) (bytes " ") (bytes "'") (spanned s p) (bytes "'") refl (name_clean kind) refl refl refl ∙ rw e refl) (then_adds (then_adds (then_adds (then_adds a b) c) d) f)

  pub write_over_limit : (n m : ℕ) → Adds (header_name kind) u0 l0 u1 l1 → Adds (bytes " ") u1 l1 u2 l2 → Adds (digits n) u2 l2 u3 l3
      → Adds (bytes " is over the limit of ") u3 l3 u4 l4 → m ≡ limit_of kind → Adds (digits m) u4 l4 u5 l5 → Adds (map clean (fault_text s (OverLimit kind n))) u0 l0 u5 l5
  unfolding fault_text
  write_over_limit n m a b c d e f =
      same_added
      (clean_five (header_name kind) (bytes " ") (digits n) (bytes " is over the limit of ") (digits (limit_of kind)) (name_clean kind) refl (digits_clean n) refl (digits_clean (limit_of kind)) ∙ rw e refl)
      (then_adds (then_adds (then_adds (then_adds a b) c) d) f)

module _ {l0 l1 l2 l3 : Bytes} {u1 u2 u3 : Option ℕ} (s : Bytes) where
  pub write_no_dollar : {u0 : Option ℕ} (p : Span) {x : Bytes} → Adds (bytes "expected '$', got '") u0 l0 u1 l1 → x ≡ spanned s p → Adds (map clean (lossy x)) u1 l1 u2 l2 → Adds (bytes "'") u2 l2 u3 l3
      → Adds (map clean (fault_text s (NoDollar p))) u0 l0 u3 l3
  unfolding fault_text
  write_no_dollar p {x} a e b c =
      same_added (clean_quote (bytes "expected '$', got '") (lossy (spanned s p)) (bytes "'") refl refl ∙ rw e refl) (then_adds (then_adds a b) c)

  pub write_reply : (f : Fault) → Puts (bytes "-ERR Protocol error: ") l0 u1 l1 → Adds (map clean (fault_text s f)) u1 l1 u2 l2 → Adds crlf u2 l2 u3 l3
      → Puts (encode (err (bytes "Protocol error: " ++ fault_text s f))) l0 u3 l3
  unfolding encode
  write_reply f a b c = then_puts (then_puts a b) c
