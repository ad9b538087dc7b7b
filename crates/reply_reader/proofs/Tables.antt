-- The laws of the lent table: items put one behind the other. Assumes nothing.
use mathlib.Core.Path.{◌≡◌, refl, sym, ap, ◌∙◌}
use mathlib.Core.List.{List, [], ◌∷◌, ◌++◌, append_assoc, append-nil}
use Prim.Native.Nat.{ℕ, zero, suc, ◌+◌, ◌*◌, ◌-◌, ◌/◌, ◌≤◌}
use native.Mathlib.Omega.{arith}
use lib.ListN.{length, take, drop, length-append, length-drop, take-append-drop}
use borrow.Rule.Slice.PartMut.{put_mid, post_of, Post-is}
use lib.Seq.{length-take-le, take_at, drop-append-add, drop-drop}
use Rattle.reply_item.specs.declared.Item.{Item}
use Rattle.reply_item.specs.declared.Item.TheVariants.{SimpleText, ErrorText, WholeNumber, BulkText, NoBulk, NoArray, ArrayOf}
use Rattle.reply_item.specs.Replies.{item_words, words_of}
use Rattle.reply_reader.specs.Table.{PlaceIn, Standing}
use Rattle.reply_reader.specs.Written.{item_told, items_told}

-- WORDS
pub item_four : (i : Item) → length (item_words i) ≡ 4
unfolding item_words
item_four (SimpleText start len) = refl
item_four (ErrorText start len) = refl
item_four (WholeNumber word) = refl
item_four (BulkText start len) = refl
item_four NoBulk = refl
item_four NoArray = refl
item_four (ArrayOf count) = refl

pub words_length : (is : List Item) → length (words_of is) ≡ 4 * length is
unfolding words_of
words_length [] = refl
words_length (i ∷ is) = length-append (item_words i) (words_of is) ∙ omega (arith, item_four i, words_length is)

pub words_append : (is js : List Item) → words_of (is ++ js) ≡ words_of is ++ words_of js
unfolding words_of
words_append [] js = refl
words_append (i ∷ is) js = ap (λ (l : List ℕ). item_words i ++ l) (words_append is js) ∙ sym (append_assoc (item_words i) (words_of is) (words_of js))

-- the words tell the items again, whatever stands behind them
item_told_lem : (i : Item) (n : ℕ) (words : List ℕ) → items_told (suc n) (item_words i ++ words) ≡ i ∷ items_told n words
unfolding item_words items_told item_told
item_told_lem (SimpleText start len) n words = refl
item_told_lem (ErrorText start len) n words = refl
item_told_lem (WholeNumber word) n words = refl
item_told_lem (BulkText start len) n words = refl
item_told_lem NoBulk n words = refl
item_told_lem NoArray n words = refl
item_told_lem (ArrayOf count) n words = refl

pub items_told_lem : (is : List Item) (more : List ℕ) → items_told (length is) (words_of is ++ more) ≡ is
unfolding words_of items_told
items_told_lem [] more = refl
items_told_lem (i ∷ is) more = ap (items_told (suc (length is))) (append_assoc (item_words i) (words_of is) more) ∙ item_told_lem i (length is) (words_of is ++ more) ∙ ap (λ (l : List Item). i ∷ l) (items_told_lem is more)

-- as many items as are asked for
pub items_many : (n : ℕ) (words : List ℕ) → length (items_told n words) ≡ n
unfolding items_told
items_many zero words = refl
items_many (suc n) words = ap suc (items_many n (drop 4 words))

-- ITEMS IN THEIR PLACES
pub standing_none : (n : ℕ) (entry : List ℕ) → n ≤ length entry / 4 → Standing [] n entry entry
unfolding words_of
standing_none n entry h =
    let same_place : n ≡ n + 0 = omega arith in
    record { room = omega arith; same = sym (ap (λ (k : ℕ). take (4 * n) entry ++ drop (4 * k) entry) (sym same_place) ∙ take-append-drop (4 * n) entry) }

module _ {is : List Item} {n : ℕ} {entry mid : List ℕ} (s : Standing is n entry mid) where
  front : length (take (4 * n) entry ++ words_of is) ≡ 4 * (n + length is)
  front = length-append (take (4 * n) entry) (words_of is) ∙ omega (arith, length-take-le (4 * n) entry (omega (arith, s.room)), words_length is)

  parts : mid ≡ (take (4 * n) entry ++ words_of is) ++ drop (4 * (n + length is)) entry
  parts = s.same ∙ sym (append_assoc (take (4 * n) entry) (words_of is) (drop (4 * (n + length is)) entry))

  pub standing_length : length mid ≡ length entry
  standing_length = ap length parts ∙ length-append (take (4 * n) entry ++ words_of is) (drop (4 * (n + length is)) entry) ∙ omega (arith, front, length-drop (4 * (n + length is)) entry, s.room)

  -- items behind those
  pub standing_then : {js : List Item} {m : ℕ} {exit : List ℕ} → m ≡ n + length is → Standing js m mid exit → Standing (is ++ js) n entry exit
  standing_then {js} {m} {exit} place t =
      let all : n + length (is ++ js) ≡ m + length js = ap (λ (k : ℕ). n + k) (length-append is js) ∙ omega arith in
      let front_is : take (4 * m) mid ≡ take (4 * n) entry ++ words_of is = ap (take (4 * m)) parts ∙ take_at (take (4 * n) entry ++ words_of is) (drop (4 * (n + length is)) entry) (4 * m) (front ∙ ap (λ (k : ℕ). 4 * k) (sym place)) in
      let split : 4 * (m + length js) ≡ length (take (4 * n) entry ++ words_of is) + 4 * length js = omega (arith, front) in
      let again : 4 * (n + length is) + 4 * length js ≡ 4 * (n + length (is ++ js)) = omega (arith, all) in
      let back_is : drop (4 * (m + length js)) mid ≡ drop (4 * (n + length (is ++ js))) entry =
      (λ z. drop (split z) (parts z))
      ∙ drop-append-add (take (4 * n) entry ++ words_of is) (drop (4 * (n + length is)) entry) (4 * length js)
      ∙ drop-drop (4 * length js) (4 * (n + length is)) entry
      ∙ ap (λ (k : ℕ). drop k entry) again in
      record {
        room = omega (arith, t.room, ap length parts, standing_length, all);
        same =
            t.same
            ∙ (λ z. front_is z ++ (words_of js ++ back_is z))
            ∙ append_assoc (take (4 * n) entry) (words_of is) (words_of js ++ drop (4 * (n + length (is ++ js))) entry)
            ∙ ap (λ (l : List ℕ). take (4 * n) entry ++ l) (sym (append_assoc (words_of is) (words_of js) (drop (4 * (n + length (is ++ js))) entry)) ∙ ap (λ (l : List ℕ). l ++ drop (4 * (n + length (is ++ js))) entry) (sym (words_append is js)));
      }

-- an item copied into its place
pub standing_one : {i : Item} {n : ℕ} {words part entry : List ℕ} → PlaceIn entry n → words ≡ item_words i → part ≡ words → Standing (i ∷ []) n entry (put_mid (4 * n) (4 * n + 4 - 4 * n) entry part)
unfolding words_of
standing_one {i} {n} {words} {part} {entry} p e f =
    let behind : 4 * n + 4 ≡ 4 * (n + 1) = omega arith in
    record {
      room = omega (arith, p.inside);
      same = ap (λ (l : List ℕ). take (4 * n) entry ++ (l ++ post_of (4 * n) (4 * n + 4 - 4 * n) entry)) (f ∙ e ∙ sym (append-nil (item_words i))) ∙ rw (Post-is (4 * n) (4 * n + 4) entry (omega arith), behind) refl;
    }
