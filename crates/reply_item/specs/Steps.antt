-- What the steps of the reader answer, turned into what the definitions of Replies.antt say.
use Rattle.std.specs.Prelude.{◌≡◌, [], ◌∷◌, ℕ, zero, suc, ◌≤◌, ◌<◌, length, take, drop}
use Rattle.base_key.specs.Bytes.{Bytes}
use Rattle.resp_spec.specs.Request.{line, line_of}
use Rattle.reply_item.specs.declared.Item.{Item}
use Rattle.reply_item.specs.declared.Item.TheVariants.{ArrayOf}
use Rattle.reply_item.specs.declared.ItemLine.{ItemLine}
use Rattle.reply_item.specs.declared.Step.{Step}
use Rattle.reply_item.specs.declared.Step.TheVariants.{Wait, Fault, Refused, Next, Opens}
use Rattle.reply_item.specs.Replies.{ReplyReading, waits, faulty, returns, whole, with_items, placed, body_of, Inner, item_of, item_by_line, too_deep}

-- how a step goes on: an array's items are read by `items`, from its count, the place of its first item and the offset of that on
abbrev pub goes_on : Inner → ℕ → Step → ReplyReading
goes_on items n Wait = waits
goes_on items n (Fault at) = faulty at
goes_on items n (Refused k) = returns k
goes_on items n (Next i end) = whole (i ∷ []) end
goes_on items n (Opens count end) = with_items (ArrayOf count ∷ []) (items count (suc n) end)

-- an array at a depth: too deep, or it takes a place and its items follow
unfoldable pub level : ℕ → ℕ → Inner → Inner
level zero places items = too_deep
level (suc depth) places items = λ count n end. placed places n (with_items (ArrayOf count ∷ []) (items count (suc n) end))

-- a place in the table, and an end in the bytes
pub record StepIn (input : Bytes) (places n end : ℕ) : Type 0 where
  pub place : n < places
  pub inside : end ≤ length input

pub record StepIs (reading : Inner → ReplyReading) (input : Bytes) (places n : ℕ) (depth : ℕ) (r : Step) : Type 0 where
  pub same : (items : Inner) → reading (level depth places items) ≡ goes_on items n r
  pub next : (i : Item) (end : ℕ) → r ≡ Next i end → StepIn input places n end
  pub opens : (count end : ℕ) → r ≡ Opens count end → StepIn input places n end
  pub deep : (count end : ℕ) → r ≡ Opens count end → 0 < depth

-- the item that begins at `at`: by what its line says, by its line, and from its first byte on
unfoldable pub item_parsed : ℕ → Bytes → ℕ → ℕ → ℕ → ItemLine → Inner → ReplyReading
item_parsed places input n at end parsed inner = item_of inner places input n at end parsed

unfoldable pub item_of_line : ℕ → Bytes → ℕ → ℕ → ℕ → ℕ → Inner → ReplyReading
item_of_line places input n at len used inner = item_by_line inner places input n at (line (take len (drop at input)) used)

unfoldable pub item_at : ℕ → Bytes → ℕ → ℕ → Inner → ReplyReading
item_at places input n at inner = item_by_line inner places input n at (line_of (drop at input))

-- the bytes of a bulk, read: the same at every inner reading, and never an array
pub record BodyIs (input : Bytes) (at start size : ℕ) (r : Step) : Type 0 where
  pub same : (items : Inner) (n : ℕ) → body_of at start size (drop start input) ≡ goes_on items n r
  pub next : (i : Item) (end : ℕ) → r ≡ Next i end → end ≤ length input
  pub flat : (count end : ℕ) → r ≡ Opens count end → ⊥
