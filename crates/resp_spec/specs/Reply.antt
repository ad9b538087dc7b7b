-- Replies and their bytes (document 01, section 4; the RESP2 specification).
use Rattle.std.specs.Prelude.{ℕ, suc, max, cond, ◌||◌, List, [], ◌∷◌, ◌++◌, map, eqb, ℤ, length}
use Rattle.std.specs.Prelude.{Option, None, Some}
use Rattle.base_key.specs.Bytes.{Bytes, bytes}
use Rattle.base_number.specs.Decimal.{digits, decimal}

mutual
  pub data Reply : Type 0 where
    Simple : Bytes → Reply
    Error : Bytes → Reply
    Integer : ℤ → Reply
    BulkString : Bytes → Reply
    Nil : Reply
    NilArray : Reply
    Array : Items → Reply

  -- the items of an array; antt has no list of the type that it declares
  pub data Items : Type 0 where
    no_more : Items
    item : Reply → Items → Items

-- CR (13) and LF (10) become spaces
abbrev pub clean : ℕ → ℕ
clean b = cond (eqb b 13 || eqb b 10) 32 b

-- the end of a line
abbrev pub crlf : Bytes
crlf = 13 ∷ 10 ∷ []

-- the line in front of a bulk string or an array
unfoldable pub head : ℕ → ℕ → Bytes
head kind count = kind ∷ digits count ++ crlf

-- how many items
unfoldable pub count_items : Items → ℕ
count_items no_more = 0
count_items (item r is) = suc (count_items is)

unfoldable mutual
  pub encode : Reply → Bytes
  encode (Simple text) = 43 ∷ map clean text ++ crlf
  encode (Error text) = 45 ∷ map clean text ++ crlf
  encode (Integer z) = 58 ∷ decimal z ++ crlf
  encode (BulkString text) = head 36 (length text) ++ text ++ crlf
  encode Nil = bytes "$-1" ++ crlf
  encode NilArray = bytes "*-1" ++ crlf
  encode (Array is) = head 42 (count_items is) ++ encode_all is

  -- each item is written from the byte after the one before it
  pub encode_all : Items → Bytes
  encode_all no_more = []
  encode_all (item r is) = encode r ++ encode_all is

-- a reply as `encode` writes it: simple and error texts with spaces for CR and LF
unfoldable mutual
  pub written : Reply → Reply
  written (Simple text) = Simple (map clean text)
  written (Error text) = Error (map clean text)
  written (Integer z) = Integer z
  written (BulkString text) = BulkString text
  written Nil = Nil
  written NilArray = NilArray
  written (Array is) = Array (written_items is)

  pub written_items : Items → Items
  written_items no_more = no_more
  written_items (item r is) = item (written r) (written_items is)

-- how deep arrays nest: the outermost is 1, and `*-1` is none
unfoldable mutual
  pub depth : Reply → ℕ
  depth (Simple text) = 0
  depth (Error text) = 0
  depth (Integer z) = 0
  depth (BulkString text) = 0
  depth Nil = 0
  depth NilArray = 0
  depth (Array is) = suc (depth_of is)

  pub depth_of : Items → ℕ
  depth_of no_more = 0
  depth_of (item r is) = max (depth r) (depth_of is)

-- the items of a list
unfoldable pub items : List Reply → Items
items [] = no_more
items (r ∷ rs) = item r (items rs)

-- an array of replies
abbrev pub array : List Reply → Reply
array rs = Array (items rs)

-- a value, or nil where there is none
abbrev pub bulk_or : Option Bytes → Reply
bulk_or None = Nil
bulk_or (Some v) = BulkString v

-- `+OK`
abbrev pub ok : Reply
ok = Simple (bytes "OK")

-- `Reply::err`
abbrev pub err : Bytes → Reply
err text = Error (bytes "ERR " ++ text)
