-- One way to split a reply stream, and why the texts must be free of CR and LF. Assumes nothing.
use mathlib.Core.Path.{◌≡◌, refl, sym, ap, ap₂, ◌∙◌}
use mathlib.Core.Bool.{Bool, true, false, cond, ◌||◌, false≢true}
use mathlib.Core.List.{List, [], ◌∷◌, ◌++◌, map, append-nil, append_assoc, append-eq-nil_iff}
use Prim.Native.Nat.{ℕ, zero, suc, ◌≤◌}
use native.Mathlib.Omega.{arith}
use borrow.Author.Tests.{ne_eqb, eqb-false}
use lib.Dec.{eqb}
use lib.ListN.{length, length-append}
use Rattle.base_key.specs.Bytes.{Bytes, bytes, concat}
use Rattle.base_number.specs.Decimal.{digits, decimal}
use Rattle.resp_spec.specs.Opens.{resp_spec_opens}
use Rattle.resp_spec.specs.Reply.{Reply, Simple, Error, Integer, BulkString, Nil, NilArray, Array, Items, no_more, item, clean, crlf, head, count_items, encode, encode_all, depth, written, written_items}
use Rattle.reply_split.specs.Streams.{OneLine, PlainLine, Texts, TextsOf, PlainText, PlainReply, stream, Each, NoWhole, OneReading, Alike}
use Rattle.reply_split.proofs.ReadBack.{one_split}

-- REPLIES THAT FIT, whatever that is: a stream of them, and bytes behind it without a whole one; the replies as they are written, and those bytes
module _ (Fits : Reply → Type 0) where
  pub same_broken_off : (ps qs : List Reply) → Each Fits ps → Each Fits qs → (x y : Bytes) → NoWhole Fits x → NoWhole Fits y →
      stream ps ++ x ≡ stream qs ++ y → (map written ps ≡ map written qs) × (x ≡ y)
  unfolding concat
  same_broken_off [] [] f g x y u v e = (refl, e)
  same_broken_off [] (q ∷ qs) f g x y u v e = absurd (u q (stream qs ++ y) g.0 (e ∙ append_assoc (encode q) (stream qs) y))
  same_broken_off (p ∷ ps) [] f g x y u v e = absurd (v p (stream ps ++ x) f.0 (sym e ∙ append_assoc (encode p) (stream ps) x))
  same_broken_off (p ∷ ps) (q ∷ qs) f g x y u v e =
      let s = one_split p q (stream ps ++ x) (stream qs ++ y) (sym (append_assoc (encode p) (stream ps) x) ∙ e ∙ append_assoc (encode q) (stream qs) y) in
      let more = same_broken_off ps qs f.1 g.1 x y u v s.1 in
      (ap₂ ◌∷◌ s.0 more.0, more.1)

  -- in a beginning of a reply, which is what a stream breaks off in, none is whole
  pub beginning_not_whole : (r : Reply) (s t : Bytes) → encode r ≡ s ++ t → (t ≡ [] → ⊥) → NoWhole Fits s
  beginning_not_whole r s t e more q x f h =
      let parts : encode q ++ (x ++ t) ≡ encode r ++ [] = sym (append_assoc (encode q) x t) ∙ ap (λ (l : Bytes). l ++ t) (sym h) ∙ sym e ∙ sym (append-nil (encode r)) in
      more ((append-eq-nil_iff {p = x} {q = t}).0 (one_split q r (x ++ t) [] parts).1).1

-- THE FEWEST BYTES of a reply are three, as of `+` CR LF
line_bytes : (b : ℕ) (text : Bytes) → 3 ≤ length (b ∷ text ++ crlf)
line_bytes b text = omega (arith, length-append text crlf)

head_bytes : (kind count : ℕ) (more : Bytes) → 3 ≤ length (head kind count ++ more)
unfolding head
head_bytes kind count more = omega (arith, length-append (kind ∷ digits count ++ crlf) more, line_bytes kind (digits count))

pub three_bytes : (r : Reply) → 3 ≤ length (encode r)
unfolding encode
three_bytes (Simple text) = line_bytes 43 (map clean text)
three_bytes (Error text) = line_bytes 45 (map clean text)
three_bytes (Integer z) = line_bytes 58 (decimal z)
three_bytes (BulkString text) = omega (arith, head_bytes 36 (length text) text, length-append (head 36 (length text) ++ text) crlf)
three_bytes Nil = omega arith
three_bytes NilArray = omega arith
three_bytes (Array is) = head_bytes 42 (count_items is) (encode_all is)

-- so none is whole where there is no byte
nothing_whole : (r : Reply) (x : Bytes) → [] ≡ encode r ++ x → ⊥
nothing_whole r x e =
    let long = three_bytes r in
    let sum : length (encode r ++ x) ≡ 0 = sym (ap length e) in
    omega (arith, length-append (encode r) x)

-- ANY REPLY. Two streams that are the same bytes are the same replies, as they are written
pub same_written : (ps qs : List Reply) → stream ps ≡ stream qs → map written ps ≡ map written qs
unfolding concat
same_written [] [] e = refl
same_written [] (q ∷ qs) e = absurd (nothing_whole q (stream qs) e)
same_written (p ∷ ps) [] e = absurd (nothing_whole p (stream ps) (sym e))
same_written (p ∷ ps) (q ∷ qs) e =
    let s = one_split p q (stream ps) (stream qs) e in
    ap₂ ◌∷◌ s.0 (same_written ps qs s.1)

-- BY THEIR BYTES. A reply as it is written has the same bytes
clean_once : (b : ℕ) → clean (clean b) ≡ clean b
clean_once b = go (eqb b 13) (eqb b 10) refl refl
  where
    go : (cr lf : Bool) → eqb b 13 ≡ cr → eqb b 10 ≡ lf → clean (cond (cr || lf) 32 b) ≡ cond (cr || lf) 32 b
    go true lf e f = refl
    go false true e f = refl
    go false false e f = rw (e, f) refl

text_once : (text : Bytes) → map clean (map clean text) ≡ map clean text
text_once [] = refl
text_once (b ∷ text) = ap₂ ◌∷◌ (clean_once b) (text_once text)

count_written : (is : Items) → count_items (written_items is) ≡ count_items is
unfolding count_items written
count_written no_more = refl
count_written (item r is) = ap suc (count_written is)

mutual
  unfolding encode written

  pub written_bytes : (r : Reply) → encode (written r) ≡ encode r
  written_bytes (Simple text) = ap (λ (t : Bytes). 43 ∷ t ++ crlf) (text_once text)
  written_bytes (Error text) = ap (λ (t : Bytes). 45 ∷ t ++ crlf) (text_once text)
  written_bytes (Integer z) = refl
  written_bytes (BulkString text) = refl
  written_bytes Nil = refl
  written_bytes NilArray = refl
  written_bytes (Array is) = λ z. head 42 (count_written is z) ++ written_items_bytes is z

  written_items_bytes : (is : Items) → encode_all (written_items is) ≡ encode_all is
  written_items_bytes no_more = refl
  written_items_bytes (item r is) = ap₂ ◌++◌ (written_bytes r) (written_items_bytes is)

pub all_bytes : (ps : List Reply) → map encode (map written ps) ≡ map encode ps
all_bytes [] = refl
all_bytes (p ∷ ps) = ap₂ ◌∷◌ (written_bytes p) (all_bytes ps)

alike_bytes : (p q : Reply) → written p ≡ written q → encode p ≡ encode q
alike_bytes p q e = sym (written_bytes p) ∙ ap encode e ∙ written_bytes q

-- so the replies that a stream begins with are its first ones by their bytes, and what follows them is the stream of the others
pub same_front : (ps qs : List Reply) (x : Bytes) → stream ps ++ x ≡ stream qs → (rs : List Reply) × (map encode qs ≡ map encode ps ++ map encode rs) × (x ≡ stream rs)
unfolding concat
same_front [] qs x e = (qs, refl, e)
same_front (p ∷ ps) [] x e = absurd (nothing_whole p (stream ps ++ x) (sym e ∙ append_assoc (encode p) (stream ps) x))
same_front (p ∷ ps) (q ∷ qs) x e =
    let s = one_split p q (stream ps ++ x) (stream qs) (sym (append_assoc (encode p) (stream ps) x) ∙ e) in
    let more = same_front ps qs x s.1 in
    (more.0, ap₂ ◌∷◌ (sym (alike_bytes p q s.0)) more.1, more.2)

-- and two streams that are the same bytes are the same replies by their bytes
pub same_pieces : (ps qs : List Reply) → stream ps ≡ stream qs → map encode ps ≡ map encode qs
same_pieces ps qs e = sym (all_bytes ps) ∙ ap (map encode) (same_written ps qs e) ∙ all_bytes qs

-- REPLIES THAT ARE WRITTEN AS THEY ARE
module _ {Fits : Reply → Type 0} (kept : (p : Reply) → Fits p → written p ≡ p) where
  all_kept : (ps : List Reply) → Each Fits ps → map written ps ≡ ps
  all_kept [] h = refl
  all_kept (p ∷ ps) h = ap₂ ◌∷◌ (kept p h.0) (all_kept ps h.1)

  pub reads_one_way : OneReading Fits
  reads_one_way = record {
    first = λ p q f g x y e. let s = one_split p q x y e in (sym (kept p f) ∙ s.0 ∙ kept q g, s.1);
    lists = λ ps qs f g e. sym (all_kept ps f) ∙ same_written ps qs e ∙ all_kept qs g;
    beginning = λ p q f g x e. sym (kept p f) ∙ (one_split p q x [] (e ∙ sym (append-nil (encode q)))).0 ∙ kept q g;
    broken_off = λ ps qs f g x y u v e. let s = same_broken_off Fits ps qs f g x y u v e in (sym (all_kept ps f) ∙ s.0 ∙ all_kept qs g, s.1);
  }

-- such are those whose texts are free of CR and LF
line_kept : (text : Bytes) → OneLine text → map clean text ≡ text
line_kept [] h = refl
line_kept (b ∷ text) h = ap₂ ◌∷◌ (rw (ne_eqb b 13 h.0, ne_eqb b 10 h.1) refl) (line_kept text h.2)

module _ {Fits : Bytes → Type 0} (kept : (text : Bytes) → Fits text → map clean text ≡ text) where
  mutual
    unfolding Texts written

    pub texts_kept : (p : Reply) → Texts Fits p → written p ≡ p
    texts_kept (Simple text) h = ap Simple (kept text h)
    texts_kept (Error text) h = ap Error (kept text h)
    texts_kept (Integer z) h = refl
    texts_kept (BulkString text) h = refl
    texts_kept Nil h = refl
    texts_kept NilArray h = refl
    texts_kept (Array is) h = ap Array (items_kept is h)

    items_kept : (is : Items) → TextsOf Fits is → written_items is ≡ is
    items_kept no_more h = refl
    items_kept (item r is) h = ap₂ item (texts_kept r h.0) (items_kept is h.1)

plain_kept : (p : Reply) → PlainText p → written p ≡ p
plain_kept = texts_kept (λ text l. line_kept text l.line)

-- and so are replies as they are written: their texts are free of CR and LF
clean_apart : (b : ℕ) → (clean b ≡ 13 → ⊥) × (clean b ≡ 10 → ⊥)
clean_apart b = go (eqb b 13) (eqb b 10) refl refl
  where
    go : (cr lf : Bool) → eqb b 13 ≡ cr → eqb b 10 ≡ lf → (cond (cr || lf) 32 b ≡ 13 → ⊥) × (cond (cr || lf) 32 b ≡ 10 → ⊥)
    go true lf e f = (λ h. omega arith, λ h. omega arith)
    go false true e f = (λ h. omega arith, λ h. omega arith)
    go false false e f = (eqb-false b 13 e, eqb-false b 10 f)

written_line : (text : Bytes) → OneLine (map clean text)
written_line [] = tt
written_line (b ∷ text) = ((clean_apart b).0, (clean_apart b).1, written_line text)

mutual
  unfolding Texts written

  pub written_lines : (r : Reply) → Texts OneLine (written r)
  written_lines (Simple text) = written_line text
  written_lines (Error text) = written_line text
  written_lines (Integer z) = tt
  written_lines (BulkString text) = tt
  written_lines Nil = tt
  written_lines NilArray = tt
  written_lines (Array is) = written_items_lines is

  written_items_lines : (is : Items) → TextsOf OneLine (written_items is)
  written_items_lines no_more = tt
  written_items_lines (item r is) = (written_lines r, written_items_lines is)

pub all_lines : (rs : List Reply) → Each (Texts OneLine) (map written rs)
all_lines [] = tt
all_lines (r ∷ rs) = (written_lines r, all_lines rs)

-- THE THEOREM
-- under the condition of document 02
pub one_reading : OneReading PlainReply
one_reading = reads_one_way (λ p w. plain_kept p w.plain)

-- with arrays of any depth
pub any_depth : OneReading PlainText
any_depth = reads_one_way plain_kept

-- and texts that need not be UTF-8
pub any_bytes : OneReading (Texts OneLine)
any_bytes = reads_one_way (texts_kept line_kept)

-- WHAT THE WORDS MEAN
-- arrays one in the other, around `*-1`
abbrev nested_arrays : ℕ → Reply
nested_arrays zero = NilArray
nested_arrays (suc n) = Array (item (nested_arrays n) no_more)

nested_plain : (n : ℕ) → PlainText (nested_arrays n)
unfolding Texts
nested_plain zero = tt
nested_plain (suc n) = (nested_plain n, tt)

-- eight deep meets the condition, nine deep does not
pub eight : PlainReply (nested_arrays 8)
unfolding depth
eight = record { plain = nested_plain 8; nesting = omega arith }

pub nine : PlainReply (nested_arrays 9) → ⊥
unfolding depth
nine w = let n = w.nesting in omega arith

-- a text with a space and two bytes for one letter is plain; such a letter cut in two is not
pub two_bytes : PlainLine (32 ∷ 195 ∷ 169 ∷ [])
unfolding resp_spec_opens
two_bytes = record { utf8 = refl; line = (λ e. omega arith, λ e. omega arith, (λ e. omega arith, λ e. omega arith, (λ e. omega arith, λ e. omega arith, tt))) }

pub one_of_two : PlainLine (195 ∷ []) → ⊥
unfolding resp_spec_opens
one_of_two l = false≢true l.utf8

-- CR and LF in a text are not told from a space
pub cr_alike : Alike (Simple (bytes "a\rb")) (Simple (bytes "a b"))
unfolding resp_spec_opens
cr_alike = record { same = refl; other = λ e. let z : ◌≡◌ {A = ℕ} 13 32 = cc in omega arith }

pub lf_alike : Alike (Error (bytes "a\nb")) (Error (bytes "a b"))
unfolding resp_spec_opens
lf_alike = record { same = refl; other = λ e. let z : ◌≡◌ {A = ℕ} 10 32 = cc in omega arith }
