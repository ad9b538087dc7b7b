-- Session i among the sixteen: what a callee is lent by `&mut words[at..end]` with at = i * 644 and end = at + 644, and all words
-- with what it left in their place; the same for the bytes. Assumes nothing.
use Prim.Native.Nat.{ℕ, suc, ◌+◌, ◌-◌, ◌*◌}
use native.Mathlib.Nat.{suc-mul}
use native.Mathlib.Omega.{arith}
use mathlib.Core.Path.{◌≡◌, sym, ap, ◌∙◌}
use mathlib.Core.List.{List, ◌++◌}
use borrow.Rule.Slice.PartMut.{mid_of, put_mid}
use lib.ListN.{take, drop}
use lib.Seq.{drop-drop}
use Rattle.base_key.specs.Bytes.{Bytes}
use Rattle.command_spec.specs.Sessions.{session_from, session_words, session_bytes, words_of_session, bytes_of_session, session_at, leave_session_words, leave_session_bytes}
use Rattle.command_spec.specs.Finish.{Served, SessionLeft}

-- the part of `size` elements at place i, as it is lent, and put back
abbrev pub lent_at : ℕ → ℕ → List ℕ → List ℕ
lent_at size i l = mid_of (i * size) (i * size + size - i * size) l

abbrev pub back_at : ℕ → ℕ → List ℕ → List ℕ → List ℕ
back_at size i l x = put_mid (i * size) (i * size + size - i * size) l x

put_back : (size i : ℕ) (l x : List ℕ) → back_at size i l x ≡ take (i * size) l ++ (x ++ drop (suc i * size) l)
put_back size i l x =
    let n : i * size + size - i * size ≡ size = omega arith in
    let e : i * size + size ≡ suc i * size = sym (suc-mul i size) in
    ap (λ (m : ℕ). put_mid (i * size) m l x) n ∙ ap (λ (y : List ℕ). take (i * size) l ++ (x ++ y)) (drop-drop size (i * size) l ∙ ap (λ (m : ℕ). drop m l) e)

module _ (i : ℕ) (w : List ℕ) (b : Bytes) where
  pub lent_words_lem : lent_at 644 i w ≡ words_of_session i w
  unfolding words_of_session
  lent_words_lem = let e : i * 644 + 644 - i * 644 ≡ 644 = omega arith in ap (λ (n : ℕ). mid_of (i * 644) n w) e

  pub lent_bytes_lem : lent_at 10240 i b ≡ bytes_of_session i b
  unfolding bytes_of_session
  lent_bytes_lem = let e : i * 10240 + 10240 - i * 10240 ≡ 10240 = omega arith in ap (λ (n : ℕ). mid_of (i * 10240) n b) e

  pub lent_session : session_from (lent_at 644 i w) (lent_at 10240 i b) ≡ session_at i w b
  unfolding session_at
  lent_session = λ z. session_from (lent_words_lem z) (lent_bytes_lem z)

  module _ {d : Served} {w₁ : List ℕ} {b₁ : Bytes} (left : SessionLeft d (lent_at 644 i w) (lent_at 10240 i b) w₁ b₁) where
    pub words_back : back_at 644 i w w₁ ≡ leave_session_words i d.session w b
    unfolding leave_session_words
    words_back =
        let e : w₁ ≡ session_words d.session (words_of_session i w) (bytes_of_session i b) = left.words ∙ (λ z. session_words d.session (lent_words_lem z) (lent_bytes_lem z)) in
        put_back 644 i w w₁ ∙ ap (λ (x : List ℕ). take (i * 644) w ++ (x ++ drop (suc i * 644) w)) e

    pub bytes_back : back_at 10240 i b b₁ ≡ leave_session_bytes i d.session b
    unfolding leave_session_bytes
    bytes_back =
        let e : b₁ ≡ session_bytes d.session (bytes_of_session i b) = left.bytes ∙ ap (session_bytes d.session) lent_bytes_lem in
        put_back 10240 i b b₁ ∙ ap (λ (x : Bytes). take (i * 10240) b ++ (x ++ drop (suc i * 10240) b)) e
