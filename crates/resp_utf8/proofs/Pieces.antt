-- The laws of reading UTF-8 one piece at a time. Assumes nothing.
use mathlib.Core.Path.{◌≡◌, refl, sym, ap, ◌∙◌, subst}
use mathlib.Core.Bool.{Bool, true, false, cond, not, ◌&&◌}
use mathlib.Core.List.{[], ◌∷◌, ◌++◌, append_assoc}
use Prim.Native.Nat.{ℕ, zero, suc, ◌+◌, ◌-◌, ◌≤◌, ◌<◌}
use native.Mathlib.Numerals.{add-one}
use native.Mathlib.Omega.{arith}
use lib.ListN.{length, take, drop, get_or, length-append, length-drop, drop_of_length-le}
use lib.Seq.{drop-cons, drop-drop, take-suc, append_snoc, take_at, drop_at, drop-append_seam}
use lib.Dec.{leb, eqb}
use borrow.Author.Tests.{le-leb, lt-leb}
use Rattle.base_key.specs.Bytes.{Bytes}
use Rattle.base_writing.proofs.Lent.{rest, rest_is}
use Rattle.resp_spec.specs.Utf8.{Decoded, byte_in, between, within, replacement, leads, continues, breaks, decode_byte, lossy_from, utf8_from, is_utf8}
use Rattle.resp_utf8.specs.Pieces.{piece_from, piece_by, piece_of, Begun, NotEmpty}
use Rattle.std.specs.Prelude.{Result, Ok, Err}

-- THE BYTES BEHIND A FIRST ONE of several
piece_between : (n : ℕ) (s : Bytes) → piece_from n between s ≡ Ok n
unfolding piece_from
piece_between n [] = refl
piece_between n (b ∷ s) = refl

module _ {text : Bytes} {n more low high : ℕ} (g : Begun text n more low high) where
  -- the text ends
  pub piece_cut : length text ≤ n → Err n ≡ piece_of text
  unfolding piece_from
  piece_cut h = sym (g.piece_is ∙ rw (drop_of_length-le text {i = n} h) refl)

  module _ (h : n < length text) where
    front : drop n text ≡ get_or text n 0 ∷ drop (n + 1) text
    front = rw (drop-cons text n 0 h, add-one) refl

    longer : take (n + 1) text ≡ take n text ++ get_or text n 0 ∷ []
    longer = rw (add-one, take-suc text n 0 h) refl

    pub piece_low : get_or text n 0 < low → Err n ≡ piece_of text
    unfolding piece_from decode_byte breaks
    piece_low below = sym (g.piece_is ∙ rw (front, lt-leb low (get_or text n 0) below) refl)

    pub piece_high : low ≤ get_or text n 0 → high < get_or text n 0 → Err n ≡ piece_of text
    unfolding piece_from decode_byte breaks
    piece_high above beyond = sym (g.piece_is ∙ rw (front, le-leb low (get_or text n 0) above, lt-leb (get_or text n 0) high beyond) refl)

    module _ (above : low ≤ get_or text n 0) (under : get_or text n 0 ≤ high) where
      pub piece_whole : more ≡ 0 → Ok (n + 1) ≡ piece_of text
      unfolding piece_from decode_byte continues
      piece_whole z =
          sym (g.piece_is ∙ rw (front, le-leb low (get_or text n 0) above, le-leb (get_or text n 0) high under, z) (piece_between (suc n) (drop (n + 1) text) ∙ ap Ok (sym (add-one n))))

      goes_on_lem : (m : ℕ) → more ≡ suc m → Begun text (n + 1) m 128 191
      unfolding piece_from decode_byte continues
      goes_on_lem m e =
          record {
            inside = omega arith;
            piece_is =
                g.piece_is ∙ rw (front, le-leb low (get_or text n 0) above, le-leb (get_or text n 0) high under, e, longer)
                (ap (λ (k : ℕ). piece_from k (within (take n text ++ get_or text n 0 ∷ []) m 128 191) (drop (n + 1) text)) (sym (add-one n)));
          }

      pub piece_goes_on : (more ≡ 0 → ⊥) → Begun text (n + 1) (more - 1) 128 191
      piece_goes_on nz = goes_on_lem (more - 1) (omega arith)

-- A TEXT GIVEN OUT, AND TESTED, PIECE BY PIECE
abbrev pub size : Result ℕ ℕ → ℕ
size (Ok n) = n
size (Err n) = n

abbrev is_whole : Result ℕ ℕ → Bool
is_whole (Ok n) = true
is_whole (Err n) = false

-- a character is given out as it is, any other piece as U+FFFD
abbrev pub shown : Result ℕ ℕ → Bytes → Bytes
shown (Ok n) text = take n text
shown (Err n) text = replacement

-- a piece read from the front, where the text is given out as `out` and tested by `test`
record PieceAt (text out : Bytes) (test : Bool) (p : Result ℕ ℕ) : Type 0 where
  pub some_byte : 1 ≤ size p
  pub inside : size p ≤ length text
  pub lossy_is : out ≡ shown p text ++ lossy_from between (drop (size p) text)
  pub utf8_is : test ≡ (is_whole p && utf8_from between (drop (size p) text))

-- a byte, by the place
lead_is : (b : ℕ) → decode_byte between b ≡ leads b
unfolding decode_byte
lead_is b = refl

module _ (p : Bytes) (more low high b : ℕ) where
  decode_out : byte_in low high b ≡ false → decode_byte (within p more low high) b ≡ breaks (leads b)
  unfolding decode_byte
  decode_out t = rw t refl

  decode_last : byte_in low high b ≡ true → more ≡ 0 → decode_byte (within p more low high) b ≡ record { out = p ++ b ∷ []; ill = false; next = between }
  unfolding decode_byte continues
  decode_last t e = rw (t, e) refl

  decode_on : (m : ℕ) → byte_in low high b ≡ true → more ≡ suc m → decode_byte (within p more low high) b ≡ record { out = []; ill = false; next = within (p ++ b ∷ []) m 128 191 }
  unfolding decode_byte continues
  decode_on m t e = rw (t, e) refl

-- a piece whose first bytes p are read
module _ (p s : Bytes) (b : ℕ) where
  read_length : length (p ++ b ∷ []) ≡ suc (length p)
  read_length = length-append p (b ∷ []) ∙ add-one (length p)

  read_front : take (suc (length p)) (p ++ b ∷ s) ≡ p ++ b ∷ []
  read_front = ap (take (suc (length p))) (sym (append_snoc p b s)) ∙ take_at (p ++ b ∷ []) s (suc (length p)) read_length

  read_behind : drop (suc (length p)) (p ++ b ∷ s) ≡ s
  read_behind = ap (drop (suc (length p))) (sym (append_snoc p b s)) ∙ drop_at (p ++ b ∷ []) s (suc (length p)) read_length

abbrev From : Bytes → ℕ → ℕ → ℕ → Bytes → Result ℕ ℕ → Type 0
From p more low high s q = PieceAt (p ++ s) (lossy_from (within p more low high) s) (utf8_from (within p more low high) s) q

module _ (p : Bytes) (some : 1 ≤ length p) (more low high : ℕ) where
  from_end : From p more low high [] (piece_from (length p) (within p more low high) [])
  unfolding lossy_from utf8_from piece_from
  from_end = record { some_byte = some; inside = omega (arith, length-append p []); lossy_is = rw (drop-append_seam p []) refl; utf8_is = refl }

  module _ (b : ℕ) (s : Bytes) where
    from_broken : decode_byte (within p more low high) b ≡ breaks (leads b) → From p more low high (b ∷ s) (piece_from (length p) (within p more low high) (b ∷ s))
    unfolding lossy_from utf8_from piece_from breaks
    from_broken e =
        let is : piece_from (length p) (within p more low high) (b ∷ s) ≡ Err (length p) = rw e refl in
        subst (From p more low high (b ∷ s)) (sym is)
        (record {
          some_byte = some;
          inside = omega (arith, length-append p (b ∷ s));
          lossy_is = rw (e, drop-append_seam p (b ∷ s), lead_is b) (append_assoc replacement (leads b).out (lossy_from (leads b).next s));
          utf8_is = rw e refl;
        })

    from_whole : decode_byte (within p more low high) b ≡ record { out = p ++ b ∷ []; ill = false; next = between } → From p more low high (b ∷ s) (piece_from (length p) (within p more low high) (b ∷ s))
    unfolding lossy_from utf8_from piece_from
    from_whole e =
        let is : piece_from (length p) (within p more low high) (b ∷ s) ≡ Ok (suc (length p)) = rw e (piece_between (suc (length p)) s) in
        subst (From p more low high (b ∷ s)) (sym is)
        (record {
          some_byte = omega arith;
          inside = omega (arith, length-append p (b ∷ s));
          lossy_is = rw (e, read_front p s b, read_behind p s b) refl;
          utf8_is = rw (e, read_behind p s b) refl;
        })

    from_more : (m : ℕ) → decode_byte (within p more low high) b ≡ record { out = []; ill = false; next = within (p ++ b ∷ []) m 128 191 }
        → From (p ++ b ∷ []) m 128 191 s (piece_from (length (p ++ b ∷ [])) (within (p ++ b ∷ []) m 128 191) s)
        → From p more low high (b ∷ s) (piece_from (length p) (within p more low high) (b ∷ s))
    unfolding lossy_from utf8_from piece_from
    from_more m e ih =
        let is : piece_from (length p) (within p more low high) (b ∷ s) ≡ piece_from (length (p ++ b ∷ [])) (within (p ++ b ∷ []) m 128 191) s =
        rw e (ap (λ (n : ℕ). piece_from n (within (p ++ b ∷ []) m 128 191) s) (sym (read_length p s b))) in
        subst (From p more low high (b ∷ s)) (sym is)
        (rw (e, ← append_snoc p b s) ih)

piece_from_lem : (s p : Bytes) (more low high : ℕ) → 1 ≤ length p → From p more low high s (piece_from (length p) (within p more low high) s)
piece_from_lem [] p more low high some = from_end p some more low high
piece_from_lem (b ∷ s) p more low high some = go (byte_in low high b) refl more refl (piece_from_lem s)
  where
    go : (t : Bool) → byte_in low high b ≡ t → (m : ℕ) → more ≡ m
        → ((q : Bytes) (m l h : ℕ) → 1 ≤ length q → From q m l h s (piece_from (length q) (within q m l h) s)) → From p more low high (b ∷ s) (piece_from (length p) (within p more low high) (b ∷ s))
    go false t m e ih = from_broken p some more low high b s (decode_out p more low high b t)
    go true t zero e ih = from_whole p some more low high b s (decode_last p more low high b t e)
    go true t (suc m) e ih = from_more p some more low high b s m (decode_on p more low high b m t e) (ih (p ++ b ∷ []) m 128 191 (omega (arith, read_length p s b)))

-- by the form of the first byte
cond_any : (P : Decoded → Type 0) (t : Bool) {x y : Decoded} → P x → P y → P (cond t x y)
cond_any P true p q = p
cond_any P false p q = q

leads_any : (b : ℕ) (P : Decoded → Type 0) → P (record { out = b ∷ []; ill = false; next = between }) → ((more low high : ℕ) → P (record { out = []; ill = false; next = within (b ∷ []) more low high }))
    → P (record { out = replacement; ill = true; next = between }) → P (leads b)
unfolding leads
leads_any b P one some ill =
    cond_any P (leb b 127) one
    (cond_any P (byte_in 194 223 b) (some 0 128 191)
    (cond_any P (eqb b 224) (some 1 160 191)
    (cond_any P (eqb b 237) (some 1 128 159)
    (cond_any P (byte_in 225 239 b) (some 1 128 191)
    (cond_any P (eqb b 240) (some 2 144 191)
    (cond_any P (byte_in 241 243 b) (some 2 128 191)
    (cond_any P (eqb b 244) (some 2 128 143) ill)))))))

first_piece : (b : ℕ) (s : Bytes) → PieceAt (b ∷ s) ((leads b).out ++ lossy_from (leads b).next s) (not (leads b).ill && utf8_from (leads b).next s) (piece_by (leads b) s)
first_piece b s =
    leads_any b (λ (d : Decoded). PieceAt (b ∷ s) (d.out ++ lossy_from d.next s) (not d.ill && utf8_from d.next s) (piece_by d s))
    (subst (PieceAt (b ∷ s) (b ∷ lossy_from between s) (utf8_from between s)) (sym (piece_between 1 s)) (record { some_byte = omega arith; inside = omega arith; lossy_is = refl; utf8_is = refl }))
    (λ more low high. piece_from_lem s (b ∷ []) more low high (omega arith))
    (record { some_byte = omega arith; inside = omega arith; lossy_is = refl; utf8_is = refl })

piece_at : (text : Bytes) → NotEmpty text → PieceAt text (lossy_from between text) (utf8_from between text) (piece_of text)
unfolding lossy_from utf8_from decode_byte piece_of
piece_at [] ne = absurd (omega (arith, ne.not_empty))
piece_at (b ∷ s) ne = first_piece b s

-- A WHOLE TEXT
pub rest_not_empty : (text : Bytes) (at : ℕ) → at < length text → NotEmpty (rest at text)
rest_not_empty text at h = record { not_empty = rw rest_is (simp length-drop (omega arith)) }

-- the pieces before `at` are characters
pub record Checked (text : Bytes) (at : ℕ) : Type 0 where
  pub inside : at ≤ length text
  pub same : is_utf8 text ≡ utf8_from between (drop at text)

pub checked_none : (text : Bytes) → Checked text 0
unfolding is_utf8
checked_none text = record { inside = omega arith; same = refl }

pub checked_all : {text : Bytes} {at : ℕ} → Checked text at → length text ≤ at → true ≡ is_utf8 text
unfolding utf8_from
checked_all {text} {at} c h = sym (c.same ∙ rw (drop_of_length-le text {i = at} h) refl)

-- n bytes from `at` on are in the text
pub record Sized (text : Bytes) (at n : ℕ) : Type 0 where
  pub some_byte : 1 ≤ n
  pub inside : at + n ≤ length text

-- the next piece, p
module _ (text : Bytes) (at : ℕ) {p : Result ℕ ℕ} (h : at < length text) (is : p ≡ piece_of (rest at text)) where
  piece : PieceAt (rest at text) (lossy_from between (rest at text)) (utf8_from between (rest at text)) p
  piece = subst (PieceAt (rest at text) (lossy_from between (rest at text)) (utf8_from between (rest at text))) (sym is) (piece_at (rest at text) (rest_not_empty text at h))

  utf8_at : utf8_from between (drop at text) ≡ (is_whole p && utf8_from between (drop (at + size p) text))
  utf8_at = ap (utf8_from between) (sym (rest_is at text)) ∙ piece.utf8_is ∙ rw (rest_is at text, drop-drop) refl

  -- the text is given out piece by piece
  pub lossy_at : lossy_from between (drop at text) ≡ shown p (drop at text) ++ lossy_from between (drop (at + size p) text)
  lossy_at = ap (lossy_from between) (sym (rest_is at text)) ∙ piece.lossy_is ∙ rw (rest_is at text, drop-drop) refl

  pub inside_at : at + size p ≤ length text
  inside_at = omega (arith, piece.inside, ap length (rest_is at text), length-drop at text)

  sized : {n : ℕ} → size p ≡ n → Sized text at n
  sized e = record { some_byte = omega (arith, piece.some_byte); inside = omega (arith, inside_at) }

  pub whole_sized : {n : ℕ} → p ≡ Ok n → Sized text at n
  whole_sized e = sized (ap size e)

  pub broken_sized : {n : ℕ} → p ≡ Err n → Sized text at n
  broken_sized e = sized (ap size e)

  pub checked_more : {n : ℕ} → Checked text at → p ≡ Ok n → Checked text (at + n)
  checked_more {n} c e = record { inside = (whole_sized e).inside; same = c.same ∙ utf8_at ∙ rw e refl }

  pub checked_ill : {n : ℕ} → Checked text at → p ≡ Err n → false ≡ is_utf8 text
  checked_ill c e = sym (c.same ∙ utf8_at ∙ rw e refl)
