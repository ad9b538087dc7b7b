-- The laws of the error replies: each is written part by part. Assumes nothing.
use mathlib.Core.Path.{◌≡◌, refl, sym, ap, ◌∙◌}
use mathlib.Core.Bool.{Bool, true, false}
use mathlib.Core.List.{List, [], ◌∷◌, ◌++◌, map, append_assoc}
use Prim.Native.Nat.{ℕ, ◌+◌, ◌-◌, ◌≤◌, ◌<◌}
use Rattle.resp_spec.proofs.ReplyTexts.{clean_quote}
use Rattle.base_key.specs.Bytes.{Bytes, bytes, same_bytes}
use Rattle.base_key.proofs.Keys.{same_is, same_bytes_lem}
use native.Mathlib.Decide.{dec_le}
use native.Mathlib.Omega.{arith}
use borrow.Author.Tests.{le-leb, lt-leb}
use Rattle.base_writing.specs.Puts.{Puts, Adds}
use Rattle.base_writing.proofs.Puts.{then_puts, same_text, same_added}
use Rattle.resp_spec.specs.declared.Letters.TheVariants.{Capitals, Small}
use Rattle.resp_spec.specs.Letters.{shown_as, upper, lower}
use Rattle.resp_sanitize.proofs.Letters.{shown_letters}
use Rattle.resp_spec.specs.Utf8.{lossy}
use Rattle.resp_spec.specs.Reply.{clean, err, encode}
use Rattle.command_spec.specs.declared.Fixed.{Fixed}
use Rattle.command_spec.specs.Names.{Row, rows, row_in, row_of, same_name, count_right, arity}
use Rattle.command_spec.specs.Command.{unknown_command}
use Rattle.command_spec.specs.Session.{not_queueable}
use Rattle.command_spec.specs.Errors.{fixed_reply, arity_of}
use Rattle.std.specs.Prelude.{Option}

-- a fixed reply by its name
pub write_fixed : {f g : Fixed} {text entry exit : Bytes} {put : Option ℕ} → f ≡ g → text ≡ encode (fixed_reply g) → Puts text entry put exit → Puts (encode (fixed_reply f)) entry put exit
write_fixed e t p = rw (e, ← t) p

module _ {l0 l1 l2 l3 : Bytes} {u1 u2 u3 : Option ℕ} (word : Bytes) where
  pub write_unknown : Puts (bytes "-ERR unknown command '") l0 u1 l1 → Adds (map clean (lossy word)) u1 l1 u2 l2 → Adds (bytes "'\r\n") u2 l2 u3 l3 → Puts (encode (unknown_command word)) l0 u3 l3
  unfolding encode
  write_unknown a b c =
      same_text
      (ap (λ (l : Bytes). 45 ∷ l ++ bytes "\r\n") (clean_quote (bytes "ERR unknown command '") (lossy word) (bytes "'") refl refl)
      ∙ append_assoc (bytes "-ERR unknown command '" ++ map clean (lossy word)) (bytes "'") (bytes "\r\n"))
      (then_puts (then_puts a b) c)

  pub write_arity : Puts (bytes "-ERR wrong number of arguments for '") l0 u1 l1 → Adds (map (shown_as Small) word) u1 l1 u2 l2 → Adds (bytes "' command\r\n") u2 l2 u3 l3 → Puts (encode (arity_of word)) l0 u3 l3
  unfolding encode arity_of
  write_arity a b c =
      let name : Bytes = map lower word in
      let text : bytes "wrong number of arguments for '" ++ name ++ bytes "' command" ≡ bytes "wrong number of arguments for '" ++ (name ++ bytes "' command") = append_assoc (bytes "wrong number of arguments for '") name (bytes "' command") in
      same_text
      (ap (λ (l : Bytes). 45 ∷ (bytes "ERR " ++ l) ++ bytes "\r\n") (ap (map clean) text ∙ clean_quote (bytes "wrong number of arguments for '") name (bytes "' command") refl refl)
      ∙ append_assoc (bytes "-ERR wrong number of arguments for '" ++ map clean name) (bytes "' command") (bytes "\r\n"))
      (then_puts (then_puts a (same_added (shown_letters Small word) b)) c)

  pub write_not_queueable : Puts (bytes "-ERR '") l0 u1 l1 → Adds (map (shown_as Capitals) (lossy word)) u1 l1 u2 l2 → Adds (bytes "' can't be used inside MULTI\r\n") u2 l2 u3 l3 → Puts (encode (not_queueable word)) l0 u3 l3
  unfolding encode not_queueable
  write_not_queueable a b c =
      let name : Bytes = map upper (lossy word) in
      let text : (bytes "'" ++ name ++ bytes "'") ++ bytes " can't be used inside MULTI" ≡ bytes "'" ++ (name ++ bytes "' can't be used inside MULTI") = simp append_assoc in
      same_text
      (ap (λ (l : Bytes). 45 ∷ (bytes "ERR " ++ l) ++ bytes "\r\n") (ap (map clean) text ∙ clean_quote (bytes "'") name (bytes "' can't be used inside MULTI") refl refl)
      ∙ append_assoc (bytes "-ERR '" ++ map clean name) (bytes "' can't be used inside MULTI") (bytes "\r\n"))
      (then_puts (then_puts a (same_added (shown_letters Capitals (lossy word)) b)) c)

-- a capital that is made small again is what a small letter is
lower_upper : (b : ℕ) → lower (upper b) ≡ lower b
lower_upper b = go (dec_le 97 b) (dec_le b 122)
  where
    go : Dec (97 ≤ b) → Dec (b ≤ 122) → lower (upper b) ≡ lower b
    go (yes low) (yes high) =
        let a : 65 ≤ b - 32 = omega arith in
        let z : b - 32 ≤ 90 = omega arith in
        let past : 90 < b = omega arith in
        let back : b - 32 + 32 ≡ b = omega arith in
        rw (le-leb 97 b low, le-leb b 122 high, le-leb 65 (b - 32) a, le-leb (b - 32) 90 z, lt-leb b 90 past, le-leb 65 b (omega arith)) back
    go (yes low) (no high) = let h : 122 < b = omega arith in rw (le-leb 97 b low, lt-leb b 122 h) refl
    go (no low) h = let l : b < 97 = omega arith in rw (lt-leb 97 b l) refl

small_capitals : (text : Bytes) → map lower (map upper text) ≡ map lower text
small_capitals [] = refl
small_capitals (b ∷ text) = λ i. lower_upper b i ∷ small_capitals text i

-- THE NAME OF A ROW, as it was sent
-- a row that was found has the word's capitals for its text; the row of an unknown name takes any count
abbrev Named : Bytes → ℕ → Row → Type 0
Named word n r = count_right r n ≡ false → r.text ≡ map upper word

row_named : (rs : List Row) (word : Bytes) (n : ℕ) → Named word n (row_in rs word)
unfolding row_in count_right same_name
row_named [] word n e = let any = rw (le-leb 0 n (omega arith)) at e in let z : ◌≡◌ {A = ℕ} 0 1 = cc any in absurd (omega arith)
row_named (r ∷ rs) word n e = go (same_bytes (map upper word) r.text) refl (row_named rs word n) e
  where
    go : (t : Bool) → same_bytes (map upper word) r.text ≡ t → Named word n (row_in rs word) → Named word n (elim t [ true ↦ r | false ↦ row_in rs word ])
    go true same again wrong = sym (same_is (map upper word) r.text (sym (same_bytes_lem (map upper word) r.text) ∙ same))
    go false same again wrong = again wrong

-- so the error may quote the word as it was sent
pub arity_as_sent : (word : Bytes) (n : ℕ) → count_right (row_of word) n ≡ false → arity (row_of word) ≡ arity_of word
unfolding row_of arity arity_of
arity_as_sent word n wrong =
    ap (λ (text : Bytes). err (bytes "wrong number of arguments for '" ++ map lower text ++ bytes "' command")) (row_named rows word n wrong)
    ∙ ap (λ (text : Bytes). err (bytes "wrong number of arguments for '" ++ text ++ bytes "' command")) (small_capitals word)
