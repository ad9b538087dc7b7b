-- What the commands that may be queued do: one law for each arm of the code. Assumes nothing.
use Prim.Native.Nat.{ℕ, suc, ◌+◌, ◌-◌, ◌%◌, ◌^◌, ◌≤◌, ◌<◌}
use native.Mathlib.Nat.{div-add-mod'}
use native.Mathlib.Omega.{arith}
use mathlib.Core.Path.{◌≡◌, refl, sym, ap, ◌∙◌, subst}
use mathlib.Core.Bool.{Bool, true, false, cond, not, ◌&&◌, ◌||◌, false≢true}
use mathlib.Core.List.{List, [], ◌∷◌, map}
use Rattle.std.specs.Prelude.{Some}
use borrow.Author.Tests.{leb-true, ltb-false, eqb-true, eq-eqb, ne_eqb, not-true}
use lib.Dec.{leb, eqb}
use lib.IntN.{ℤ, pos, negsuc}
use lib.Signed.{mag}
use lib.ListN.{length, get_or, drop}
use mir.Syntax.{w64}
use mir.Val.{SFits}
use mir.ValLaws.{to_z-of_z}
use Rattle.base_key.specs.Bytes.{Bytes}
use Rattle.base_key.proofs.Bytes.{both_parts}
use Rattle.base_number.specs.Number.{int_arg}
use Rattle.base_number.proofs.Signed.{bits}
use Rattle.resp_spec.specs.Reply.{BulkString, bulk_or}
use Rattle.store_memtable.specs.Table.{Reader}
use Rattle.command_spec.specs.declared.Operation.{Operation}
use Rattle.command_spec.specs.declared.Operation.TheVariants.{Get, Set, Del, Exists, Mget, Mset, Incr, Incrby, Decr, Ping, Echo as EchoOf}
use Rattle.command_spec.specs.declared.Name.{Name}
use Rattle.command_spec.specs.declared.Name.TheVariants.{Queueable}
use Rattle.command_spec.specs.declared.Fixed.TheVariants.{NotInteger, Pong}
use Rattle.command_spec.specs.Names.{Args, Row, rows, unknown_row, same_name, row_in, row_of, name_word, arguments, count_right, with_options, operation_of, may_queue, request_queueable, not_above}
use Rattle.command_spec.specs.Command.{argument, count_by, pairs_of, command_as, held, raised, run}
use Rattle.command_spec.specs.Errors.{fixed_reply}
use Rattle.command_spec.proofs.Pins.{queueable_named}
use Rattle.command_names.specs.declared.Row.{Row as CodeRow}
use Rattle.command_names.specs.Rows.{row_at, row_meant, Looked}
use Rattle.command_meaning.specs.declared.Read.{Read}
use Rattle.command_meaning.specs.declared.Read.TheVariants.{Value, Live, Values, Echo, Says}
use Rattle.command_meaning.specs.declared.Kind.{Kind}
use Rattle.command_meaning.specs.declared.Kind.TheVariants.{Pairs, Tombstones, Counter, Reads}
use Rattle.command_meaning.specs.Kinds.{InPairs, live_reply, read_reply, least_read, pairs_effect, tombstones_effect, counter_effect, kind_effect, KindCounted, KindIs}
use Rattle.command_meaning.specs.Reading.{row_place, KindFor}
use Rattle.std.specs.Prelude.{Option, None}

-- THE ARGUMENTS behind the name
pub behind : (k : ℕ) (a : Args) → argument k (arguments a) ≡ argument (suc k) a
behind k [] = refl
behind k (n ∷ a) = refl

pub behind_count : (a : Args) → length (arguments a) ≡ length a - 1
behind_count [] = refl
behind_count (n ∷ a) = let e : length a ≡ suc (length a) - 1 = omega arith in e

pub name_first : (a : Args) → argument 0 a ≡ name_word a
name_first [] = refl
name_first (n ∷ a) = refl

-- THE RIGHT COUNT of a row
either : (a b : Bool) → a ≡ true → not a || b ≡ true → b ≡ true
either true b h e = e
either false b h e = absurd (false≢true h)

module _ (r : Row) (n : ℕ) (right : count_right r n ≡ true) where
  pub right_least : r.least ≤ n
  unfolding count_right
  right_least = leb-true r.least n (both_parts (leb r.least n) (not_above n r.most) (both_parts _ (not r.pairs || eqb (n % 2) 0) right).0).0

  pub right_most : (m : ℕ) → r.most ≡ Some m → n ≤ m
  unfolding count_right
  right_most m e =
      leb-true n m (ap (not_above n) (sym e) ∙ (both_parts (leb r.least n) (not_above n r.most) (both_parts _ (not r.pairs || eqb (n % 2) 0) right).0).1)

  right_pairs : r.pairs ≡ true → n % 2 ≡ 0
  unfolding count_right
  right_pairs e = eqb-true (n % 2) 0 (either r.pairs _ e (both_parts (leb r.least n && not_above n r.most) (not r.pairs || eqb (n % 2) 0) right).1)

-- PING, by its argument count
module _ {count : ℕ} (least : 1 ≤ count) where
  asked : (a : Args) → length a ≡ count → {b : Bool} → eqb (count - 1) 0 ≡ b → eqb (length (arguments a)) 0 ≡ b
  asked a l e = ap (λ (n : ℕ). eqb n 0) (behind_count a ∙ ap (λ (n : ℕ). n - 1) l) ∙ e

  pub ping_alone : count ≡ 1 → KindFor Ping count (Reads (Says Pong))
  unfolding command_as run kind_effect read_reply fixed_reply KindCounted least_read
  ping_alone e = record {
    does = λ a l. record {
      effect = λ r. ap (λ (b : Bool). (cond b (fixed_reply Pong) (BulkString (argument 0 (arguments a))), [])) (asked a l (eq-eqb (count - 1) 0 (omega arith)));
      counted = least;
    };
  }

  pub ping_echo : (count ≡ 1 → ⊥) → KindFor Ping count (Reads Echo)
  unfolding command_as run kind_effect read_reply fixed_reply KindCounted least_read
  ping_echo n =
      let more : 2 ≤ count = omega (arith, n) in
      record {
        does = λ a l. record {
          effect = λ r. ap (λ (b : Bool). (cond b (fixed_reply Pong) (BulkString (argument 0 (arguments a))), [])) (asked a l (ne_eqb (count - 1) 0 (λ e. n (omega arith))))
              ∙ ap (λ (k : Bytes). (BulkString k, [])) (behind 0 a);
          counted = more;
        };
      }

-- INCRBY, by its amount
module _ (a : Args) {count : ℕ} (least : 3 ≤ count) {x : Bytes} (x-is : x ≡ argument 2 a) {n : Option ℤ} (n-is : n ≡ int_arg x) where
  amount_is : {m : Option ℤ} (r : Reader) → n ≡ m → run r (command_as Incrby (arguments a)) ≡ run r (count_by (argument 1 a) m)
  unfolding command_as
  amount_is r e =
      ap (λ (k : Bytes). run r (count_by k (int_arg (argument 1 (arguments a))))) (behind 0 a)
      ∙ ap (λ (m : Option ℤ). run r (count_by (argument 1 a) m)) (ap int_arg (behind 1 a ∙ sym x-is) ∙ sym n-is ∙ e)

  pub no_amount : n ≡ None → KindIs Incrby a count (Reads (Says NotInteger))
  unfolding run kind_effect read_reply fixed_reply KindCounted least_read
  no_amount e = record { effect = λ r. amount_is r e; counted = omega arith }

  pub amount_here : {z : ℤ} → n ≡ Some z → mag z < 2 ^ 63 → KindIs Incrby a count (Counter (bits z))
  unfolding run kind_effect counter_effect KindCounted
  amount_here {z} e small =
      let fits : SFits w64 z = record { sfits = small } in
      record { effect = λ r. amount_is r e ∙ ap (λ (by : ℤ). raised (argument 1 a) by (held (r (argument 1 a)))) (sym (to_z-of_z w64 z fits)); counted = omega arith }

-- THE ARMS, by the operation
plain_set : (a : Args) (r : Reader) → length a ≡ 3 → run r (command_as Set (arguments a)) ≡ kind_effect Pairs r a
unfolding command_as run kind_effect pairs_effect pairs_of
plain_set [] r h = absurd (omega arith)
plain_set (n ∷ []) r h = absurd (omega arith)
plain_set (n ∷ k ∷ []) r h = absurd (omega arith)
plain_set (n ∷ k ∷ v ∷ []) r h = refl
plain_set (n ∷ k ∷ v ∷ y ∷ a) r h = absurd (omega arith)

module _ (o : Operation) (a : Args) (count : ℕ) {x : Operation} (e : o ≡ x) where
  pub kind_same : {k : Kind} → KindIs x a count k → KindIs o a count k
  kind_same {k} h = subst (λ (y : Operation). KindIs y a count k) (sym e) h

  pub kind_for : {k : Kind} → KindFor x count k → length a ≡ count → KindIs o a count k
  kind_for h l = kind_same (h.does a l)

module _ (o : Operation) (count : ℕ) (right : count_right (row_at (row_place (Queueable o))) (count - 1) ≡ true) (some-count : 1 ≤ count) where
  right_as : {x : Operation} → o ≡ x → count_right (row_at (row_place (Queueable x))) (count - 1) ≡ true
  right_as e = subst (λ (y : Operation). count_right (row_at (row_place (Queueable y))) (count - 1) ≡ true) e right

  least_as : {x : Operation} → o ≡ x → (row_at (row_place (Queueable x))).least + 1 ≤ count
  least_as {x} e = omega (arith, right_least (row_at (row_place (Queueable x))) (count - 1) (right_as e))

  pub incrby_count : o ≡ Incrby → 3 ≤ count
  unfolding row_at rows row_place
  incrby_count e = least_as e

  module _ (a : Args) where
    pub get_does : o ≡ Get → KindIs o a count (Reads Value)
    unfolding row_at rows row_place command_as run kind_effect read_reply KindCounted least_read
    get_does e = kind_same o a count e (record { effect = λ r. ap (λ (k : Bytes). (bulk_or (r k), [])) (behind 0 a); counted = least_as e })

    pub set_does : with_options o (count - 1) ≡ false → length a ≡ count → o ≡ Set → KindIs o a count Pairs
    unfolding row_at rows row_place with_options KindCounted
    set_does w l e =
        let most : count - 1 ≤ 2 = ltb-false 2 (count - 1) (sym (ap (λ (x : Operation). with_options x (count - 1)) e) ∙ w) in
        let least : 3 ≤ count = least_as e in
        let three : count ≡ 3 = omega arith in
        kind_same o a count e (record { effect = λ r. plain_set a r (l ∙ three); counted = record { least = least; pairs = omega arith } })

    pub del_does : o ≡ Del → KindIs o a count Tombstones
    unfolding row_at rows row_place command_as run kind_effect tombstones_effect live_reply KindCounted
    del_does e = kind_same o a count e (record { effect = λ r. refl; counted = least_as e })

    pub exists_does : o ≡ Exists → KindIs o a count (Reads Live)
    unfolding command_as run kind_effect read_reply live_reply KindCounted least_read
    exists_does e = kind_same o a count e (record { effect = λ r. refl; counted = some-count })

    pub mget_does : o ≡ Mget → KindIs o a count (Reads Values)
    unfolding command_as run kind_effect read_reply KindCounted least_read
    mget_does e = kind_same o a count e (record { effect = λ r. refl; counted = some-count })

    pub mset_does : o ≡ Mset → KindIs o a count Pairs
    unfolding row_at rows row_place command_as run kind_effect pairs_effect KindCounted
    mset_does e =
        let even : (count - 1) % 2 ≡ 0 = right_pairs (row_at (row_place (Queueable Mset))) (count - 1) (right_as e) refl in
        kind_same o a count e (record { effect = λ r. refl; counted = record { least = least_as e; pairs = omega (arith, div-add-mod' (count - 1) 2) } })

    pub incr_does : o ≡ Incr → KindIs o a count (Counter (pos 1))
    unfolding row_at rows row_place command_as run kind_effect counter_effect KindCounted
    incr_does e = kind_same o a count e (record { effect = λ r. ap (λ (k : Bytes). raised k (pos 1) (held (r k))) (behind 0 a); counted = least_as e })

    pub decr_does : o ≡ Decr → KindIs o a count (Counter (negsuc 0))
    unfolding row_at rows row_place command_as run kind_effect counter_effect KindCounted
    decr_does e = kind_same o a count e (record { effect = λ r. ap (λ (k : Bytes). raised k (negsuc 0) (held (r k))) (behind 0 a); counted = least_as e })

    pub echo_does : o ≡ EchoOf → KindIs o a count (Reads Echo)
    unfolding row_at rows row_place command_as run kind_effect read_reply KindCounted least_read
    echo_does e = kind_same o a count e (record { effect = λ r. ap (λ (k : Bytes). (BulkString k, [])) (behind 0 a); counted = least_as e })

-- A QUEUED REQUEST, by the row of its name
abbrev placed : Row → Row
placed r = row_at (row_place r.name)

place_right : map placed rows ≡ rows
unfolding rows row_at row_place
place_right = refl

place_in : (rs : List Row) (word : Bytes) → map placed rs ≡ rs → placed (row_in rs word) ≡ row_in rs word
unfolding row_in rows row_at row_place
place_in [] word e = refl
place_in (r ∷ rs) word e = go (same_name word r.text) (place_in rs word (ap (drop 1) e))
  where
    go : (b : Bool) → placed (row_in rs word) ≡ row_in rs word → placed (elim b [ true ↦ r | false ↦ row_in rs word ]) ≡ elim b [ true ↦ r | false ↦ row_in rs word ]
    go true again = ap (λ (l : List Row). get_or l 0 unknown_row) e
    go false again = again

-- the place of a row that a look-up found
pub place_of : (row : CodeRow) {word : Bytes} → Looked word row → row_at (row_place row.name) ≡ row_meant row
unfolding row_of
place_of row {word} looked = ap placed looked.is ∙ place_in rows word place_right ∙ sym looked.is

module _ (a : Args) {count : ℕ} {row : CodeRow} (l : length a ≡ count) {w : Bytes} (w-is : w ≡ argument 0 a) (looked : Looked w row)
    (may : request_queueable a ≡ true) where
  here : row_meant row ≡ row_of (name_word a)
  here = looked.is ∙ ap row_of (w-is ∙ name_first a)

  may_here : may_queue (row_meant row) (count - 1) ≡ true
  unfolding request_queueable
  may_here = (λ z. may_queue (here z) (sym (behind_count a ∙ ap (λ (n : ℕ). n - 1) l) z)) ∙ may

  counted_here : (row.queueable && count_right (row_meant row) (count - 1)) ≡ true
  unfolding may_queue
  counted_here = (both_parts (row.queueable && count_right (row_meant row) (count - 1)) (not (with_options (operation_of row.name) (count - 1))) may_here).0

  module _ {o : Operation} (o_is : o ≡ operation_of row.name) where
    named : row.name ≡ Queueable o
    named =
        let q : row.queueable ≡ true = (both_parts row.queueable (count_right (row_meant row) (count - 1)) counted_here).0 in
        ap (λ (r : Row). r.name) here ∙ queueable_named (name_word a) (ap (λ (r : Row). r.queueable) (sym here) ∙ q)
        ∙ ap (λ (r : Row). Queueable (operation_of r.name)) (sym here) ∙ ap Queueable (sym o_is)

    pub queued_count : count_right (row_at (row_place (Queueable o))) (count - 1) ≡ true
    queued_count =
        ap (λ (r : Row). count_right r (count - 1)) (ap (λ (x : Name). row_at (row_place x)) (sym named) ∙ place_of row looked)
        ∙ (both_parts row.queueable (count_right (row_meant row) (count - 1)) counted_here).1

    pub queued_plain : with_options o (count - 1) ≡ false
    unfolding may_queue
    queued_plain =
        ap (λ (x : Operation). with_options x (count - 1)) o_is
        ∙ not-true _ (both_parts (row.queueable && count_right (row_meant row) (count - 1)) (not (with_options (operation_of row.name) (count - 1))) may_here).1

-- THE ARGUMENT COUNT of each kind
module _ {k : Kind} {count : ℕ} (h : KindCounted k count) where
  pub pairs_counted : k ≡ Pairs → InPairs count
  unfolding KindCounted
  pairs_counted e = subst (λ (x : Kind). KindCounted x count) e h

  pub tombstones_counted : k ≡ Tombstones → 2 ≤ count
  unfolding KindCounted
  tombstones_counted e = subst (λ (x : Kind). KindCounted x count) e h

  pub counter_counted : {n : ℤ} → k ≡ Counter n → 2 ≤ count
  unfolding KindCounted
  counter_counted e = subst (λ (x : Kind). KindCounted x count) e h

  pub read_counted : {q : Read} → k ≡ Reads q → least_read q ≤ count
  unfolding KindCounted
  read_counted e = subst (λ (x : Kind). KindCounted x count) e h

-- how many arguments a reply needs
pub least_one : (q : Read) {count : ℕ} → least_read q ≤ count → 1 ≤ count
unfolding least_read
least_one Value h = omega arith
least_one Live h = h
least_one Values h = h
least_one Echo h = omega arith
least_one (Says f) h = h

pub least_value : (q : Read) {count : ℕ} → least_read q ≤ count → q ≡ Value → 1 < count
unfolding least_read
least_value q h e = let m : least_read q ≡ 2 = ap least_read e in omega arith

pub least_echo : (q : Read) {count : ℕ} → least_read q ≤ count → q ≡ Echo → 1 < count
unfolding least_read
least_echo q h e = let m : least_read q ≡ 2 = ap least_read e in omega arith
