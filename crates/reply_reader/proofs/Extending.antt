-- More bytes behind those read: an answer other than wait stays, and what is whole lies in the bytes. Assumes nothing.
use mathlib.Core.Path.{◌≡◌, refl, sym, ap, subst, ◌∙◌}
use mathlib.Core.Bool.{Bool, true, false, cond}
use mathlib.Core.List.{List, [], ◌∷◌, ◌++◌, append-nil}
use Rattle.std.specs.Prelude.{Option, None, Some, option_map}
use Prim.Native.Nat.{ℕ, zero, suc, ◌+◌, ◌-◌, ◌≤◌, ◌<◌}
use native.Mathlib.Omega.{arith}
use lib.Dec.{eqb, leb, ltb}
use lib.ListN.{length, take, drop, length-append, length-drop}
use lib.Seq.{take-append-le}
use borrow.Author.Tests.{le-leb, lt-leb, leb-true, leb-false, ltb-true, eqb-true, eqb-false}
use Rattle.base_key.specs.Bytes.{Bytes}
use Rattle.resp_spec.specs.Reply.{Reply, encode}
use Rattle.resp_spec.specs.Request.{Line, line, most_line, unfinished, too_long, feed_at, without_cr, line_at, line_of, begins_cr_lf}
use Rattle.resp_spec.proofs.Lines.{feed_first, feed_later}
use Rattle.reply_item.specs.declared.Item.{Item}
use Rattle.reply_item.specs.declared.Item.TheVariants.{BulkText, ArrayOf}
use Rattle.reply_item.specs.declared.ItemLine.{ItemLine}
use Rattle.reply_item.specs.declared.ItemLine.TheVariants.{Complete, BulkFollows, ItemsFollow, Wrong}
use Rattle.reply_item.specs.declared.Refusal.{Refusal}
use Rattle.reply_item.specs.declared.Refusal.TheVariants.{NoPlace}
use Rattle.reply_item.specs.Replies.{item_line_of, ReplyReading, waits, faulty, returns, whole, with_items, placed, body_of, Inner, item_of, item_by_line, followed, read_items, nested, too_deep, read_item, most_depth, read_reply}
use Rattle.reply_reader.specs.Written.{Within, items_of}
use Rattle.reply_reader.proofs.ReadBack.{reply_back}

-- THE LF. It is the first byte, or the LF of the others
module _ (b : ℕ) (s : Bytes) where
  feed_cases : {A : Type 0} (o : Option ℕ) → feed_at (b ∷ s) ≡ o → (b ≡ 10 → o ≡ Some 0 → A) → ((b ≡ 10 → ⊥) → o ≡ option_map suc (feed_at s) → A) → A
  feed_cases {A} o e first later = go (eqb b 10) refl
    where
      go : (t : Bool) → eqb b 10 ≡ t → A
      go true is = first (eqb-true b 10 is) (sym e ∙ feed_first b s (eqb-true b 10 is))
      go false is = later (eqb-false b 10 is) (sym e ∙ feed_later b s (eqb-false b 10 is))

-- where more bytes follow, one that is there stays
feed_kept : (s t : Bytes) (n : ℕ) → feed_at s ≡ Some n → feed_at (s ++ t) ≡ Some n
unfolding feed_at
feed_kept [] t n e = let z : ◌≡◌ {A = ℕ} 0 1 = cc in absurd (omega arith)
feed_kept (b ∷ s) t n e = feed_cases b s (Some n) e (λ is found. feed_first b (s ++ t) is ∙ sym found) (λ other found. feed_later b (s ++ t) other ∙ go (feed_at s) refl (feed_kept s t) found)
  where
    go : (o : Option ℕ) → feed_at s ≡ o → ((m : ℕ) → feed_at s ≡ Some m → feed_at (s ++ t) ≡ Some m) → Some n ≡ option_map suc (feed_at s) → option_map suc (feed_at (s ++ t)) ≡ Some n
    go None o again found = let z : ◌≡◌ {A = ℕ} 0 1 = cc in absurd (omega arith)
    go (Some m) o again found = ap (option_map suc) (again m o) ∙ sym (found ∙ ap (option_map suc) o)

feed_inside : (s : Bytes) (n : ℕ) → feed_at s ≡ Some n → n < length s
unfolding feed_at
feed_inside [] n e = let z : ◌≡◌ {A = ℕ} 0 1 = cc in absurd (omega arith)
feed_inside (b ∷ s) n e = feed_cases b s (Some n) e (λ is found. let z : n ≡ 0 = cc in omega arith) (λ other found. go (feed_at s) refl (feed_inside s) found)
  where
    go : (o : Option ℕ) → feed_at s ≡ o → ((m : ℕ) → feed_at s ≡ Some m → m < length s) → Some n ≡ option_map suc (feed_at s) → n < suc (length s)
    go None o again found = let z : ◌≡◌ {A = ℕ} 0 1 = cc in absurd (omega arith)
    go (Some m) o again found =
        let both : Some n ≡ Some (suc m) = found ∙ ap (option_map suc) o in
        let z : n ≡ suc m = cc in
        let less : m < length s = again m o in
        omega arith

-- and where none is there, one that follows stands behind all of them
feed_behind : (s t : Bytes) (m : ℕ) → feed_at s ≡ None → feed_at (s ++ t) ≡ Some m → length s ≤ m
feed_behind [] t m e f = omega arith
feed_behind (b ∷ s) t m e f = feed_cases b s None e (λ is found. let z : ◌≡◌ {A = ℕ} 0 1 = cc in absurd (omega arith)) (λ other found. go (feed_at s) refl (feed_at (s ++ t)) refl (feed_behind s t) found (sym f ∙ feed_later b (s ++ t) other))
  where
    go : (o : Option ℕ) → feed_at s ≡ o → (p : Option ℕ) → feed_at (s ++ t) ≡ p → ((k : ℕ) → feed_at s ≡ None → feed_at (s ++ t) ≡ Some k → length s ≤ k) → None ≡ option_map suc (feed_at s) → Some m ≡ option_map suc (feed_at (s ++ t)) → suc (length s) ≤ m
    go (Some k) o p q again found later = let none_is : None ≡ Some (suc k) = found ∙ ap (option_map suc) o in let z : ◌≡◌ {A = ℕ} 0 1 = cc in absurd (omega arith)
    go None o None q again found later = let none_is : Some m ≡ None = later ∙ ap (option_map suc) q in let z : ◌≡◌ {A = ℕ} 0 1 = cc in absurd (omega arith)
    go None o (Some k) q again found later =
        let both : Some m ≡ Some (suc k) = later ∙ ap (option_map suc) q in
        let z : m ≡ suc k = cc in
        let less : length s ≤ k = again k o q in
        omega arith

-- A LINE, where more bytes follow: it is unfinished, or the same
data LineKept : Line → Line → Type 0 where
  unended : {after : Line} → LineKept unfinished after
  line_same : {l : Line} → LineKept l l

line_far : (s t : Bytes) → feed_at s ≡ None → most_line < length s → line_of (s ++ t) ≡ too_long
unfolding line_of line_at
line_far s t e far = go (feed_at (s ++ t)) refl
  where
    go : (o : Option ℕ) → feed_at (s ++ t) ≡ o → line_of (s ++ t) ≡ too_long
    go None o = let more : most_line < length (s ++ t) = omega (arith, length-append s t) in rw (o, lt-leb (length (s ++ t)) most_line more) refl
    go (Some m) o = let later : most_line < m = omega (arith, feed_behind s t m e o) in rw (o, lt-leb m most_line later) refl

line_kept : (s t : Bytes) → LineKept (line_of s) (line_of (s ++ t))
unfolding line_of line_at
line_kept s t = go (feed_at s) refl
  where
    short : (b : Bool) → leb (length s) most_line ≡ b → feed_at s ≡ None → LineKept (line_of s) (line_of (s ++ t))
    short true near o = rw (o, near) unended
    short false far o = rw (line_far s t o (leb-false (length s) most_line far), o, far) line_same

    go : (o : Option ℕ) → feed_at s ≡ o → LineKept (line_of s) (line_of (s ++ t))
    go None o = short (leb (length s) most_line) refl o
    go (Some n) o = let inside : n ≤ length s = omega (arith, feed_inside s n o) in rw (o, feed_kept s t n o, take-append-le n s t inside) line_same

-- what stands behind `at`, and more bytes behind that
drop_append : (at : ℕ) (s t : Bytes) → drop at (s ++ t) ≡ drop at s ++ drop (at - length s) t
drop_append zero s t = let less : 0 - length s ≡ 0 = omega arith in rw less refl
drop_append (suc at) [] t = let less : suc at - 0 ≡ suc at = omega arith in rw less refl
drop_append (suc at) (b ∷ s) t = let less : suc at - suc (length s) ≡ at - length s = omega arith in rw less (drop_append at s t)

line_behind : (at : ℕ) (s t : Bytes) → LineKept (line_of (drop at s)) (line_of (drop at (s ++ t)))
line_behind at s t = subst (λ (l : Bytes). LineKept (line_of (drop at s)) (line_of l)) (sym (drop_append at s t)) (line_kept (drop at s) (drop (at - length s) t))

-- A READING, where more bytes follow: it waits, or it is the same
pub data Kept : ReplyReading → ReplyReading → Type 0 where
  waiting : {after : ReplyReading} → Kept waits after
  alike : {r : ReplyReading} → Kept r r

pub kept_same : {r after : ReplyReading} → Kept r after → (r ≡ waits → ⊥) → after ≡ r
kept_same waiting never = absurd (never refl)
kept_same alike never = refl

with_kept : (is : List Item) {r after : ReplyReading} → Kept r after → Kept (with_items is r) (with_items is after)
unfolding with_items
with_kept is waiting = waiting
with_kept is alike = alike

placed_kept : (places n : ℕ) {r after : ReplyReading} → Kept r after → Kept (placed places n r) (placed places n after)
unfolding placed
placed_kept places n {r} {after} k = go (ltb n places)
  where
    go : (b : Bool) → Kept (cond b r (returns NoPlace)) (cond b after (returns NoPlace))
    go true = k
    go false = alike

followed_kept : {r after : ReplyReading} (f g : ℕ → ℕ → ReplyReading) → Kept r after → ((many end : ℕ) → Kept (f many end) (g many end)) → Kept (followed r f) (followed after g)
unfolding followed
followed_kept f g waiting next = waiting
followed_kept f g (alike {r = waits}) next = waiting
followed_kept f g (alike {r = faulty at}) next = alike
followed_kept f g (alike {r = returns k}) next = alike
followed_kept f g (alike {r = whole is end}) next = with_kept is (next (length is) end)

-- the bytes of a bulk
begins_kept : (s t : Bytes) → 2 ≤ length s → begins_cr_lf (s ++ t) ≡ begins_cr_lf s
unfolding begins_cr_lf
begins_kept [] t h = absurd (omega arith)
begins_kept (b ∷ []) t h = absurd (omega arith)
begins_kept (b ∷ c ∷ s) t h = refl

drop_within : (size : ℕ) (s t : Bytes) → size ≤ length s → drop size (s ++ t) ≡ drop size s ++ t
drop_within size s t h = let less : size - length s ≡ 0 = omega arith in drop_append size s t ∙ ap (λ (k : ℕ). drop size s ++ drop k t) less

body_kept : (at start size : ℕ) (s t : Bytes) → Kept (body_of at start size s) (body_of at start size (s ++ t))
unfolding body_of
body_kept at start size s t = go (leb (size + 2) (length s)) refl
  where
    go : (b : Bool) → leb (size + 2) (length s) ≡ b → Kept (body_of at start size s) (body_of at start size (s ++ t))
    go false short = rw short waiting
    go true long =
        let fits : size + 2 ≤ length s = leb-true (size + 2) (length s) long in
        let more : size + 2 ≤ length (s ++ t) = omega (arith, length-append s t) in
        let end : 2 ≤ length (drop size s) = omega (arith, length-drop size s) in
        let here : size ≤ length s = omega arith in
        rw (long, le-leb (size + 2) (length (s ++ t)) more, drop_within size s t here, begins_kept (drop size s) t end) alike

body_behind : (at start size : ℕ) (s t : Bytes) → Kept (body_of at start size (drop start s)) (body_of at start size (drop start (s ++ t)))
body_behind at start size s t = subst (λ (l : Bytes). Kept (body_of at start size (drop start s)) (body_of at start size l)) (sym (drop_append start s t)) (body_kept at start size (drop start s) (drop (start - length s) t))

-- an item, whose array goes on by f, and by g where more bytes follow
module _ (f g : Inner) (inner : (count n end : ℕ) → Kept (f count n end) (g count n end)) (places : ℕ) (s t : Bytes) (n at : ℕ) where
  item_of_kept : (end : ℕ) (l : ItemLine) → Kept (item_of f places s n at end l) (item_of g places (s ++ t) n at end l)
  unfolding item_of
  item_of_kept end Wrong = alike
  item_of_kept end (Complete i) = alike
  item_of_kept end (BulkFollows size) = placed_kept places n (body_behind at end size s t)
  item_of_kept end (ItemsFollow count) = inner count n end

  item_by_line_kept : {l after : Line} → LineKept l after → Kept (item_by_line f places s n at l) (item_by_line g places (s ++ t) n at after)
  unfolding item_by_line
  item_by_line_kept unended = waiting
  item_by_line_kept (line_same {l = unfinished}) = waiting
  item_by_line_kept (line_same {l = too_long}) = alike
  item_by_line_kept (line_same {l = line text used}) = item_of_kept (at + used) (item_line_of (at + 1) text)

items_kept : (one other : ℕ → ℕ → ReplyReading) → ((n at : ℕ) → Kept (one n at) (other n at)) → (count n at : ℕ) → Kept (read_items one count n at) (read_items other count n at)
unfolding read_items
items_kept one other each zero n at = alike
items_kept one other each (suc count) n at = followed_kept (λ many end. read_items one count (n + many) end) (λ many end. read_items other count (n + many) end) (each n at) (λ many end. items_kept one other each count (n + many) end)

nested_kept : (one other : ℕ → ℕ → ReplyReading) → ((n at : ℕ) → Kept (one n at) (other n at)) → (places count n end : ℕ) → Kept (nested one places count n end) (nested other places count n end)
unfolding nested
nested_kept one other each places count n end = placed_kept places n (with_kept (ArrayOf count ∷ []) (items_kept one other each count (suc n) end))

pub item_kept : (depth places : ℕ) (s t : Bytes) (n at : ℕ) → Kept (read_item depth places s n at) (read_item depth places (s ++ t) n at)
unfolding read_item
item_kept zero places s t n at = item_by_line_kept too_deep too_deep (λ count n end. alike) places s t n at (line_behind at s t)
item_kept (suc depth) places s t n at =
    item_by_line_kept (nested (read_item depth places s) places) (nested (read_item depth places (s ++ t)) places) (nested_kept (read_item depth places s) (read_item depth places (s ++ t)) (item_kept depth places s t) places) places s t n at (line_behind at s t)

-- THE THEOREM: an answer other than wait stays the same, whatever bytes follow
pub stays : (places : ℕ) (s t : Bytes) → (read_reply places s ≡ waits → ⊥) → read_reply places (s ++ t) ≡ read_reply places s
unfolding read_reply
stays places s t never = kept_same (item_kept most_depth places s t 0 0) never

-- so one whole reply is read alike in front of whatever follows
pub whole_stays : (places : ℕ) (s t : Bytes) {is : List Item} {used : ℕ} → read_reply places s ≡ whole is used → read_reply places (s ++ t) ≡ whole is used
whole_stays places s t e = stays places s t (λ never. let z : ◌≡◌ {A = ℕ} 0 1 = cc in omega arith) ∙ e

-- A FACT OF WHAT IS WHOLE: of its items and its end
pub data WhenWhole (P : List Item → ℕ → Type 0) : ReplyReading → Type 0 where
  of_wait : WhenWhole P waits
  of_fault : {at : ℕ} → WhenWhole P (faulty at)
  of_number : {k : Refusal} → WhenWhole P (returns k)
  of_whole : {is : List Item} {end : ℕ} → P is end → WhenWhole P (whole is end)

pub when_is : {P : List Item → ℕ → Type 0} {is : List Item} {end : ℕ} → WhenWhole P (whole is end) → P is end
when_is (of_whole p) = p

pub with_when : {P Q : List Item → ℕ → Type 0} (is : List Item) {r : ReplyReading} → ((js : List Item) (end : ℕ) → P js end → Q (is ++ js) end) → WhenWhole P r → WhenWhole Q (with_items is r)
unfolding with_items
with_when is f of_wait = of_wait
with_when is f of_fault = of_fault
with_when is f of_number = of_number
with_when is f (of_whole {is = js} {end} p) = of_whole (f js end p)

pub placed_when : {P : List Item → ℕ → Type 0} (places n : ℕ) {r : ReplyReading} → (n < places → WhenWhole P r) → WhenWhole P (placed places n r)
unfolding placed
placed_when {P} places n {r} f = go (ltb n places) refl
  where
    go : (b : Bool) → ltb n places ≡ b → WhenWhole P (cond b r (returns NoPlace))
    go true e = f (ltb-true n places e)
    go false e = of_number

pub followed_when : {P Q : List Item → ℕ → Type 0} {r : ReplyReading} (next : ℕ → ℕ → ReplyReading) → WhenWhole P r → ((is : List Item) (end : ℕ) → P is end → WhenWhole Q (with_items is (next (length is) end))) → WhenWhole Q (followed r next)
unfolding followed
followed_when next of_wait f = of_wait
followed_when next of_fault f = of_fault
followed_when next of_number f = of_number
followed_when next (of_whole {is} {end} p) f = f is end p

-- WHERE A READING ENDS: what is whole ends at `from` or behind it, and within the first `to` bytes
pub record Lies (from to end : ℕ) : Type 0 where
  pub after : from ≤ end
  pub inside : end ≤ to

abbrev pub Ends : ℕ → ℕ → ReplyReading → Type 0
Ends from to r = WhenWhole (λ is end. Lies from to end) r

lies_before : {from to end : ℕ} (less : ℕ) → less ≤ from → Lies from to end → Lies less to end
lies_before less h e = record { after = omega (arith, e.after); inside = e.inside }

ends_before : {from to : ℕ} {r : ReplyReading} (less : ℕ) → less ≤ from → Ends from to r → Ends less to r
ends_before less h of_wait = of_wait
ends_before less h of_fault = of_fault
ends_before less h of_number = of_number
ends_before less h (of_whole e) = of_whole (lies_before less h e)

-- a line has an LF, and lies in the bytes
abbrev LineLies : ℕ → Line → Type 0
LineLies most unfinished = Unit {0}
LineLies most too_long = Unit {0}
LineLies most (line text used) = Lies 1 most used

line_lies : (s : Bytes) → LineLies (length s) (line_of s)
unfolding line_of line_at
line_lies s = go (feed_at s) refl
  where
    short : (b : Bool) → LineLies (length s) (cond b unfinished too_long)
    short true = tt
    short false = tt

    found : (b : Bool) (n : ℕ) → feed_at s ≡ Some n → LineLies (length s) (cond b (line (without_cr (take n s)) (suc n)) too_long)
    found true n o = record { after = omega arith; inside = omega (arith, feed_inside s n o) }
    found false n o = tt

    go : (o : Option ℕ) → feed_at s ≡ o → LineLies (length s) (line_at o s)
    go None o = short (leb (length s) most_line)
    go (Some n) o = found (leb n most_line) n o

body_ends : (from at start size : ℕ) (input : Bytes) → from ≤ start → Ends from (length input) (body_of at start size (drop start input))
unfolding body_of
body_ends from at start size input h = go (leb (size + 2) (length (drop start input))) refl (begins_cr_lf (drop size (drop start input)))
  where
    go : (long : Bool) → leb (size + 2) (length (drop start input)) ≡ long → (ends : Bool) → Ends from (length input) (cond long (cond ends (whole (BulkText start size ∷ []) (start + size + 2)) (faulty at)) waits)
    go false e ends = of_wait
    go true e false = of_fault
    go true e true = of_whole {end = start + size + 2} (record { after = omega arith; inside = omega (arith, leb-true (size + 2) (length (drop start input)) e, length-drop start input) })

-- an item, whose array goes on by f
module _ (f : Inner) (places : ℕ) (input : Bytes) (inner : (count n from : ℕ) → from ≤ length input → Ends from (length input) (f count n from)) (n at : ℕ) where
  item_of_ends : (end : ℕ) → Lies (at + 1) (length input) end → (l : ItemLine) → Ends (at + 1) (length input) (item_of f places input n at end l)
  unfolding item_of
  item_of_ends end e Wrong = of_fault
  item_of_ends end e (Complete i) = placed_when places n (λ room. of_whole e)
  item_of_ends end e (BulkFollows size) = placed_when places n (λ room. body_ends (at + 1) at end size input e.after)
  item_of_ends end e (ItemsFollow count) = ends_before (at + 1) e.after (inner count n end e.inside)

  item_by_line_ends : (l : Line) → LineLies (length (drop at input)) l → Ends (at + 1) (length input) (item_by_line f places input n at l)
  unfolding item_by_line
  item_by_line_ends unfinished e = of_wait
  item_by_line_ends too_long e = of_fault
  item_by_line_ends (line text used) e = item_of_ends (at + used) (record { after = omega (arith, e.after); inside = omega (arith, e.after, e.inside, length-drop at input) }) (item_line_of (at + 1) text)

items_end : (one : ℕ → ℕ → ReplyReading) (most : ℕ) → ((n at : ℕ) → Ends (at + 1) most (one n at)) → (count n at : ℕ) → at ≤ most → Ends at most (read_items one count n at)
unfolding read_items
items_end one most each zero n at h = of_whole {end = at} (record { after = omega arith; inside = h })
items_end one most each (suc count) n at h =
    followed_when (λ many end. read_items one count (n + many) end) (each n at)
    (λ is end lies. with_when is (λ js last e. lies_before at (omega (arith, lies.after)) e) (items_end one most each count (n + length is) end lies.inside))

nested_ends : (one : ℕ → ℕ → ReplyReading) (most : ℕ) → ((n at : ℕ) → Ends (at + 1) most (one n at)) → (places count n from : ℕ) → from ≤ most → Ends from most (nested one places count n from)
unfolding nested
nested_ends one most each places count n from h = placed_when places n (λ room. with_when (ArrayOf count ∷ []) (λ js end e. e) (items_end one most each count (suc n) from h))

deep_ends : (most count n from : ℕ) → Ends from most (too_deep count n from)
unfolding too_deep
deep_ends most count n from = of_number

pub item_ends : (depth places : ℕ) (input : Bytes) (n at : ℕ) → Ends (at + 1) (length input) (read_item depth places input n at)
unfolding read_item
item_ends zero places input n at = item_by_line_ends too_deep places input (λ count n from h. deep_ends (length input) count n from) n at (line_of (drop at input)) (line_lies (drop at input))
item_ends (suc depth) places input n at =
    item_by_line_ends (nested (read_item depth places input) places) places input (nested_ends (read_item depth places input) (length input) (item_ends depth places input) places) n at (line_of (drop at input)) (line_lies (drop at input))

whole_lies : (places : ℕ) (s : Bytes) {is : List Item} {used : ℕ} → read_reply places s ≡ whole is used → Lies 1 (length s) used
unfolding read_reply
whole_lies places s e = when_is (subst (Ends 1 (length s)) e (item_ends most_depth places s 0 0))

-- THE THEOREM: what is whole lies in the bytes, and has one at least
pub whole_inside : (places : ℕ) (s : Bytes) {is : List Item} {used : ℕ} → read_reply places s ≡ whole is used → used ≤ length s
whole_inside places s e = (whole_lies places s e).inside

pub whole_some : (places : ℕ) (s : Bytes) {is : List Item} {used : ℕ} → read_reply places s ≡ whole is used → 1 ≤ used
whole_some places s e = (whole_lies places s e).after

-- THE THEOREM: every proper beginning of an encoded reply waits
pub beginning_waits : (r : Reply) (places : ℕ) (s t : Bytes) → Within r → length (items_of 0 r) ≤ places → encode r ≡ s ++ t → 0 < length t → read_reply places s ≡ waits
beginning_waits r places s t w room e more = go (read_reply places s) refl
  where
    all : read_reply places (s ++ t) ≡ whole (items_of 0 r) (length (encode r))
    all = ap (read_reply places) (sym e ∙ sym (append-nil (encode r))) ∙ reply_back r [] places w room

    go : (q : ReplyReading) → read_reply places s ≡ q → read_reply places s ≡ waits
    go waits is = is
    go (faulty at) is =
        let same = stays places s t (λ never. let z : ◌≡◌ {A = ℕ} 0 1 = cc in omega arith) in
        let z : ◌≡◌ {A = ℕ} 0 1 = cc all in
        absurd (omega arith)
    go (returns k) is =
        let same = stays places s t (λ never. let z : ◌≡◌ {A = ℕ} 0 1 = cc in omega arith) in
        let z : ◌≡◌ {A = ℕ} 0 1 = cc all in
        absurd (omega arith)
    go (whole is used) found =
        let same = stays places s t (λ never. let z : ◌≡◌ {A = ℕ} 0 1 = cc in omega arith) in
        let size : used ≡ length (encode r) = cc all in
        absurd (omega (arith, whole_inside places s found, ap length e, length-append s t))
