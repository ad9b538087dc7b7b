-- The laws of one item: the bytes of a bulk, its line parsed, and its line. Assumes nothing.
use mathlib.Core.Path.{◌≡◌, refl, sym, ap, ◌∙◌}
use mathlib.Core.Bool.{Bool, true, false}
use mathlib.Core.List.{[], ◌∷◌}
use Prim.Native.Nat.{ℕ, zero, suc, ◌+◌, ◌-◌, ◌≤◌, ◌<◌}
use native.Mathlib.Omega.{arith}
use lib.Dec.{leb}
use lib.ListN.{length, take, drop}
use borrow.Author.Tests.{lt-ltb, le-ltb}
use Rattle.base_key.specs.Bytes.{Bytes}
use Rattle.base_writing.proofs.Lent.{rest, rest_is}
use Rattle.resp_spec.specs.declared.Fault.{Fault as RequestFault}
use Rattle.resp_spec.specs.declared.line.Line.{Line as LineAnswer}
use Rattle.resp_spec.specs.declared.line.Line.TheVariants.{Text, Unfinished, TooLong}
use Rattle.resp_spec.specs.Request.{line_of, begins_cr_lf, bulk_body, with_span, Reading, waits as waits-request, faulty as faulty-request, too_many, whole as whole-request}
use Rattle.resp_spec.specs.Steps.{LineIs, line_of_answer, Inside, Next as Behind}
use Rattle.resp_bulk.specs.declared.Argument.{Argument}
use Rattle.resp_bulk.specs.declared.Argument.TheVariants.{Unread, Faulty, Part}
use Rattle.resp_bulk.specs.Arguments.{ArgumentIs, argument_of_size, LineFrom, goes_on as follows}
use Rattle.reply_item.specs.declared.Item.{Item}
use Rattle.reply_item.specs.declared.Item.TheVariants.{BulkText}
use Rattle.reply_item.specs.declared.ItemLine.{ItemLine}
use Rattle.reply_item.specs.declared.ItemLine.TheVariants.{Complete, BulkFollows, ItemsFollow, Wrong}
use Rattle.reply_item.specs.declared.Refusal.TheVariants.{NoPlace, TooDeep}
use Rattle.reply_item.specs.declared.Step.{Step}
use Rattle.reply_item.specs.declared.Step.TheVariants.{Wait, Fault, Refused, Next, Opens}
use Rattle.reply_item.specs.Replies.{ReplyReading, waits, faulty, returns, whole, placed, body_of, Inner, item_of, item_by_line, item_line_of, too_deep}
use Rattle.reply_item.specs.Steps.{goes_on, level, StepIs, item_parsed, item_of_line, item_at, BodyIs}
use Rattle.std.specs.Prelude.{Ok}

-- a step that is no item
abbrev stops : Step → Bool
stops Wait = true
stops (Fault at) = true
stops (Refused k) = true
stops (Next i end) = false
stops (Opens count end) = false

no_next : {s : Step} {i : Item} {end : ℕ} → stops s ≡ true → s ≡ Next i end → ⊥
no_next h e = let z : false ≡ true = sym (ap stops e) ∙ h in cc

no_opens : {s : Step} {count end : ℕ} → stops s ≡ true → s ≡ Opens count end → ⊥
no_opens h e = let z : false ≡ true = sym (ap stops e) ∙ h in cc

-- THE BYTES OF A BULK, read as those of an argument
-- behind which nothing is read
alone : Behind
alone at s = whole-request [] at

-- what the request reader says of the argument, said of the bulk that begins at `at`
as_bulk : ℕ → Reading → ReplyReading
as_bulk at waits-request = waits
as_bulk at (faulty-request f) = faulty at
as_bulk at too_many = waits
as_bulk at (whole-request [] used) = waits
as_bulk at (whole-request (p ∷ ps) used) = whole (BulkText p.start p.len ∷ []) used

body_asked : (at start size : ℕ) (s : Bytes) → body_of at start size s ≡ as_bulk at (bulk_body alone start s (Ok size))
unfolding body_of bulk_body with_span alone as_bulk
body_asked at start size s = go (leb (size + 2) (length s)) (begins_cr_lf (drop size s)) refl refl
  where
    go : (long ends : Bool) → leb (size + 2) (length s) ≡ long → begins_cr_lf (drop size s) ≡ ends → body_of at start size s ≡ as_bulk at (bulk_body alone start s (Ok size))
    go false ends l e = rw (l, bulk_body) refl
    go true true l e = rw (l, e, bulk_body) refl
    go true false l e = rw (l, e, bulk_body) refl

module _ (input : Bytes) (at start size : ℕ) {r : Argument} (b : ArgumentIs (argument_of_size start size input) input r) where
  body_is : body_of at start size (drop start input) ≡ as_bulk at (follows alone input r)
  unfolding argument_of_size
  body_is = body_asked at start size (drop start input) ∙ ap (as_bulk at) (b.same alone)

  body_stops : {s : Step} → stops s ≡ true → ((items : Inner) (n : ℕ) → as_bulk at (follows alone input r) ≡ goes_on items n s) → BodyIs input at start size s
  body_stops {s} h e =
      record {
        same = λ items n. body_is ∙ e items n;
        next = λ i end is. absurd (no_next h is);
        flat = λ count end is. no_opens h is;
      }

  pub body_wait : r ≡ Unread → BodyIs input at start size Wait
  unfolding as_bulk
  body_wait e = body_stops refl (λ items n. rw e refl)

  pub body_fault : {f : RequestFault} → r ≡ Faulty f → BodyIs input at start size (Fault at)
  unfolding as_bulk
  body_fault e = body_stops refl (λ items n. rw e refl)

  pub body_next : {from len : ℕ} → r ≡ Part from len → BodyIs input at start size (Next (BulkText from len) (from + len + 2))
  unfolding as_bulk alone with_span
  body_next {from} {len} e =
      record {
        same = λ items n. body_is ∙ rw e refl;
        next = λ i end q. let here : from + len + 2 ≡ end = cc in omega (arith, (b.inside from len e).inside);
        flat = λ count end q. let z : ◌≡◌ {A = ℕ} 0 1 = cc in omega arith;
      }

-- A STEP
step_stops : {reading : Inner → ReplyReading} {input : Bytes} {places n depth : ℕ} {s : Step} → stops s ≡ true → ((items : Inner) → reading (level depth places items) ≡ goes_on items n s) → StepIs reading input places n depth s
step_stops h e = record { same = e; next = λ i end is. absurd (no_next h is); opens = λ count end is. absurd (no_opens h is); deep = λ count end is. absurd (no_opens h is) }

-- a place, or none
pub has_place : {places n : ℕ} (r : ReplyReading) → n < places → placed places n r ≡ r
unfolding placed
has_place {places} {n} r h = rw (lt-ltb n places h) refl

full : {places n : ℕ} (r : ReplyReading) → places ≤ n → placed places n r ≡ returns NoPlace
unfolding placed
full {places} {n} r h = rw (le-ltb n places h) refl

-- WHAT THE LINE SAYS
module _ (input : Bytes) (places depth n at end : ℕ) (w : Inside input end) {parsed : ItemLine} where
  pub step_wrong : parsed ≡ Wrong → StepIs (item_parsed places input n at end parsed) input places n depth (Fault at)
  unfolding item_parsed item_of
  step_wrong e = step_stops refl (λ items. rw e refl)

  module _ {i : Item} (e : parsed ≡ Complete i) where
    pub step_full : places ≤ n → StepIs (item_parsed places input n at end parsed) input places n depth (Refused NoPlace)
    unfolding item_parsed item_of
    step_full h = step_stops refl (λ items. rw e (full (whole (i ∷ []) end) h))

    pub step_complete : n < places → StepIs (item_parsed places input n at end parsed) input places n depth (Next i end)
    unfolding item_parsed item_of
    step_complete h =
        record {
          same = λ items. rw e (has_place (whole (i ∷ []) end) h);
          next = λ j stop is. let same_end : end ≡ stop = cc in record { place = h; inside = omega (arith, w.inside) };
          opens = λ count stop is. let z : ◌≡◌ {A = ℕ} 0 1 = cc in absurd (omega arith);
          deep = λ count stop is. let z : ◌≡◌ {A = ℕ} 0 1 = cc in absurd (omega arith);
        }

  module _ {size : ℕ} (e : parsed ≡ BulkFollows size) where
    pub step_bulk_full : places ≤ n → StepIs (item_parsed places input n at end parsed) input places n depth (Refused NoPlace)
    unfolding item_parsed item_of
    step_bulk_full h = step_stops refl (λ items. rw e (full (body_of at end size (drop end input)) h))

    pub step_bulk : {r : Step} → n < places → BodyIs input at end size r → StepIs (item_parsed places input n at end parsed) input places n depth r
    unfolding item_parsed item_of
    step_bulk h b =
        record {
          same = λ items. rw e (has_place (body_of at end size (drop end input)) h ∙ b.same items n);
          next = λ i stop is. record { place = h; inside = b.next i stop is };
          opens = λ count stop is. absurd (b.flat count stop is);
          deep = λ count stop is. absurd (b.flat count stop is);
        }

  module _ {count : ℕ} (e : parsed ≡ ItemsFollow count) where
    pub step_deep : depth ≡ 0 → StepIs (item_parsed places input n at end parsed) input places n depth (Refused TooDeep)
    unfolding item_parsed item_of level too_deep
    step_deep z = step_stops refl (λ items. rw (e, z) refl)

    open_level : (d : ℕ) → (d ≡ 0 → ⊥) → (items : Inner) → level d places items count n end ≡ placed places n (goes_on items n (Opens count end))
    unfolding level
    open_level zero z items = absurd (z refl)
    open_level (suc d) z items = refl

    pub step_array_full : (depth ≡ 0 → ⊥) → places ≤ n → StepIs (item_parsed places input n at end parsed) input places n depth (Refused NoPlace)
    unfolding item_parsed item_of
    step_array_full z h = step_stops refl (λ items. rw e (open_level depth z items ∙ full (goes_on items n (Opens count end)) h))

    pub step_opens : (depth ≡ 0 → ⊥) → n < places → StepIs (item_parsed places input n at end parsed) input places n depth (Opens count end)
    unfolding item_parsed item_of
    step_opens z h =
        record {
          same = λ items. rw e (open_level depth z items ∙ has_place (goes_on items n (Opens count end)) h);
          next = λ i stop is. let z : ◌≡◌ {A = ℕ} 0 1 = cc in absurd (omega arith);
          opens = λ c stop is. let same_end : end ≡ stop = cc in record { place = h; inside = omega (arith, w.inside) };
          deep = λ c stop is. omega arith;
        }

  -- an item that is no array, where no place is left
  pub step_no_place : (parsed ≡ Wrong → ⊥) → ((count : ℕ) → parsed ≡ ItemsFollow count → ⊥) → places ≤ n → StepIs (item_parsed places input n at end parsed) input places n depth (Refused NoPlace)
  step_no_place right flat h = go parsed refl
    where
      go : (p : ItemLine) → parsed ≡ p → StepIs (item_parsed places input n at end parsed) input places n depth (Refused NoPlace)
      go Wrong e = absurd (right e)
      go (Complete i) e = step_full e h
      go (BulkFollows size) e = step_bulk_full e h
      go (ItemsFollow count) e = absurd (flat count e)

-- THE LINE
module _ (input : Bytes) (places depth n at len used : ℕ) (w : LineFrom input at len used) where
  pub line_end : Inside input (at + used)
  line_end = record { inside = w.inside }

  pub step_of_line : {parsed : ItemLine} {r : Step} → parsed ≡ item_line_of (at + 1) (take (at + len - at) (drop at input)) → StepIs (item_parsed places input n at (at + used) parsed) input places n depth r → StepIs (item_of_line places input n at len used) input places n depth r
  unfolding item_parsed item_of_line item_by_line
  step_of_line e s =
      let size : at + len - at ≡ len = omega arith in
      record { same = λ items. rw (rw size at e) at (s.same items); next = s.next; opens = s.opens; deep = s.deep }

-- THE ITEM
module _ (input : Bytes) (places depth n at : ℕ) (w : Inside input at) {r : LineAnswer} (l : LineIs (rest at input) r) where
  line_is : line_of_answer (drop at input) r ≡ line_of (drop at input)
  line_is = rw rest_is at l.same

  pub step_unfinished : r ≡ Unfinished → StepIs (item_at places input n at) input places n depth Wait
  unfolding item_at item_by_line
  step_unfinished e = step_stops refl (λ items. rw (← line_is, e) refl)

  pub step_too_long : r ≡ TooLong → StepIs (item_at places input n at) input places n depth (Fault at)
  unfolding item_at item_by_line
  step_too_long e = step_stops refl (λ items. rw (← line_is, e) refl)

  pub step_text : {len used : ℕ} {s : Step} → r ≡ Text len used → StepIs (item_of_line places input n at len used) input places n depth s → StepIs (item_at places input n at) input places n depth s
  unfolding item_at item_of_line
  step_text e s = record { same = λ items. rw (← line_is, e) (s.same items); next = s.next; opens = s.opens; deep = s.deep }
