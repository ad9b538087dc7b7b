-- More places in the lent table: an answer other than 11 stays. Assumes nothing.
use mathlib.Core.Path.{◌≡◌, refl}
use mathlib.Core.Bool.{Bool, true, false, cond}
use mathlib.Core.List.{List, [], ◌∷◌}
use Prim.Native.Nat.{ℕ, zero, suc, ◌+◌, ◌<◌}
use native.Mathlib.Omega.{arith}
use lib.Dec.{ltb}
use lib.ListN.{length, drop}
use borrow.Author.Tests.{lt-ltb, ltb-true}
use Rattle.base_key.specs.Bytes.{Bytes}
use Rattle.resp_spec.specs.Request.{Line, line, unfinished, too_long, line_of}
use Rattle.reply_item.specs.declared.Item.{Item}
use Rattle.reply_item.specs.declared.Item.TheVariants.{ArrayOf}
use Rattle.reply_item.specs.declared.ItemLine.{ItemLine}
use Rattle.reply_item.specs.declared.ItemLine.TheVariants.{Complete, BulkFollows, ItemsFollow, Wrong}
use Rattle.reply_item.specs.declared.Refusal.TheVariants.{NoPlace}
use Rattle.reply_item.specs.Replies.{item_line_of, ReplyReading, waits, faulty, returns, whole, with_items, placed, body_of, Inner, item_of, item_by_line, followed, read_items, nested, too_deep, read_item, most_depth, read_reply}

-- A READING, with more places: it is 11, or it is the same
data Roomed : ReplyReading → ReplyReading → Type 0 where
  full : {after : ReplyReading} → Roomed (returns NoPlace) after
  alike : {r : ReplyReading} → Roomed r r

roomed_same : {r after : ReplyReading} → Roomed r after → (r ≡ returns NoPlace → ⊥) → after ≡ r
roomed_same full never = absurd (never refl)
roomed_same alike never = refl

with_roomed : (is : List Item) {r after : ReplyReading} → Roomed r after → Roomed (with_items is r) (with_items is after)
unfolding with_items
with_roomed is full = full
with_roomed is alike = alike

placed_roomed : (places more n : ℕ) {r after : ReplyReading} → Roomed r after → Roomed (placed places n r) (placed (places + more) n after)
unfolding placed
placed_roomed places more n {r} {after} k = go (ltb n places) refl
  where
    go : (b : Bool) → ltb n places ≡ b → Roomed (cond b r (returns NoPlace)) (cond (ltb n (places + more)) after (returns NoPlace))
    go false e = full
    go true e = let less : n < places = ltb-true n places e in let room : n < places + more = omega arith in rw (lt-ltb n (places + more) room) k

followed_roomed : {r after : ReplyReading} (f g : ℕ → ℕ → ReplyReading) → Roomed r after → ((many end : ℕ) → Roomed (f many end) (g many end)) → Roomed (followed r f) (followed after g)
unfolding followed
followed_roomed f g full next = full
followed_roomed f g (alike {r = waits}) next = alike
followed_roomed f g (alike {r = faulty at}) next = alike
followed_roomed f g (alike {r = returns k}) next = alike
followed_roomed f g (alike {r = whole is end}) next = with_roomed is (next (length is) end)

-- an item, whose array goes on by f, and by g with more places
module _ (f g : Inner) (inner : (count n end : ℕ) → Roomed (f count n end) (g count n end)) (places more : ℕ) (input : Bytes) (n at : ℕ) where
  item_of_roomed : (end : ℕ) (l : ItemLine) → Roomed (item_of f places input n at end l) (item_of g (places + more) input n at end l)
  unfolding item_of
  item_of_roomed end Wrong = alike
  item_of_roomed end (Complete i) = placed_roomed places more n {r = whole (i ∷ []) end} alike
  item_of_roomed end (BulkFollows size) = placed_roomed places more n {r = body_of at end size (drop end input)} alike
  item_of_roomed end (ItemsFollow count) = inner count n end

  item_by_line_roomed : (l : Line) → Roomed (item_by_line f places input n at l) (item_by_line g (places + more) input n at l)
  unfolding item_by_line
  item_by_line_roomed unfinished = alike
  item_by_line_roomed too_long = alike
  item_by_line_roomed (line text used) = item_of_roomed (at + used) (item_line_of (at + 1) text)

module _ (one other : ℕ → ℕ → ReplyReading) (each : (n at : ℕ) → Roomed (one n at) (other n at)) where
  items_roomed : (count n at : ℕ) → Roomed (read_items one count n at) (read_items other count n at)
  unfolding read_items
  items_roomed zero n at = alike
  items_roomed (suc count) n at = followed_roomed (λ many end. read_items one count (n + many) end) (λ many end. read_items other count (n + many) end) (each n at) (λ many end. items_roomed count (n + many) end)

  nested_roomed : (places more count n end : ℕ) → Roomed (nested one places count n end) (nested other (places + more) count n end)
  unfolding nested
  nested_roomed places more count n end = placed_roomed places more n (with_roomed (ArrayOf count ∷ []) (items_roomed count (suc n) end))

item_roomed : (depth places more : ℕ) (input : Bytes) (n at : ℕ) → Roomed (read_item depth places input n at) (read_item depth (places + more) input n at)
unfolding read_item
item_roomed zero places more input n at = item_by_line_roomed too_deep too_deep (λ count n end. alike) places more input n at (line_of (drop at input))
item_roomed (suc depth) places more input n at =
    item_by_line_roomed (nested (read_item depth places input) places) (nested (read_item depth (places + more) input) (places + more)) (nested_roomed (read_item depth places input) (read_item depth (places + more) input) (item_roomed depth places more input) places more) places more input n at (line_of (drop at input))

-- THE THEOREM: with a longer table an answer other than 11 stays the same
pub longer_table : (places more : ℕ) (s : Bytes) → (read_reply places s ≡ returns NoPlace → ⊥) → read_reply (places + more) s ≡ read_reply places s
unfolding read_reply
longer_table places more s never = roomed_same (item_roomed most_depth places more s 0 0) never
