-- One way to split a reply stream (document 02, R-11).
use Rattle.std.specs.Prelude.{◌≤◌, ◌≡◌, true, List, [], ◌∷◌, ◌++◌, map}
use Rattle.base_key.specs.Bytes.{Bytes, concat}
use Rattle.resp_spec.specs.Utf8.{is_utf8}
use Rattle.resp_spec.specs.Reply.{Reply, Simple, Error, Integer, BulkString, Nil, NilArray, Array, Items, no_more, item, encode, depth}

-- TEXTS. Free of CR (13) and LF (10)
abbrev pub OneLine : Bytes → Type 0
OneLine [] = Unit {0}
OneLine (b ∷ s) = (b ≡ 13 → ⊥) × (b ≡ 10 → ⊥) × OneLine s

-- in UTF-8 besides
pub record PlainLine (text : Bytes) : Type 0 where
  pub utf8 : is_utf8 text ≡ true
  pub line : OneLine text

-- every simple and error text of a reply fits, those in its arrays too
unfoldable mutual
  pub Texts : (Bytes → Type 0) → Reply → Type 0
  Texts Fits (Simple text) = Fits text
  Texts Fits (Error text) = Fits text
  Texts Fits (Integer z) = Unit {0}
  Texts Fits (BulkString text) = Unit {0}
  Texts Fits Nil = Unit {0}
  Texts Fits NilArray = Unit {0}
  Texts Fits (Array is) = TextsOf Fits is

  pub TextsOf : (Bytes → Type 0) → Items → Type 0
  TextsOf Fits no_more = Unit {0}
  TextsOf Fits (item r is) = Texts Fits r × TextsOf Fits is

abbrev pub PlainText : Reply → Type 0
PlainText = Texts PlainLine

-- the condition of document 02: plain texts, and nesting up to 8
pub record PlainReply (r : Reply) : Type 0 where
  pub plain : PlainText r
  pub nesting : depth r ≤ 8

-- STREAMS. Replies one behind the other
abbrev pub stream : List Reply → Bytes
stream rs = concat (map encode rs)

-- each of them fits
abbrev pub Each : (Reply → Type 0) → List Reply → Type 0
Each Fits [] = Unit {0}
Each Fits (r ∷ rs) = Fits r × Each Fits rs

-- no reply that fits is whole at the front of the bytes
abbrev pub NoWhole : (Reply → Type 0) → Bytes → Type 0
NoWhole Fits s = (r : Reply) (x : Bytes) → Fits r → s ≡ encode r ++ x → ⊥

-- the bytes of replies that fit are split in one way
pub record OneReading (Fits : Reply → Type 0) : Type 0 where
  -- the first reply, and what follows it
  pub first : (p q : Reply) → Fits p → Fits q → (x y : Bytes) → encode p ++ x ≡ encode q ++ y → (p ≡ q) × (x ≡ y)
  -- two lists of replies do not have one encoding
  pub lists : (ps qs : List Reply) → Each Fits ps → Each Fits qs → stream ps ≡ stream qs → ps ≡ qs
  -- no reply is the beginning of another
  pub beginning : (p q : Reply) → Fits p → Fits q → (x : Bytes) → encode p ++ x ≡ encode q → p ≡ q
  -- a stream that breaks off inside a reply: its whole replies, and the bytes behind them
  pub broken_off : (ps qs : List Reply) → Each Fits ps → Each Fits qs → (x y : Bytes) → NoWhole Fits x → NoWhole Fits y →
      stream ps ++ x ≡ stream qs ++ y → (ps ≡ qs) × (x ≡ y)

-- ANY REPLY. Two replies that are written alike, and are not the same
pub record Alike (p q : Reply) : Type 0 where
  pub same : encode p ≡ encode q
  pub other : p ≡ q → ⊥
