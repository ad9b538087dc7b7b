-- Counters inside EXEC: the text of a number behind the data, the reply and the write. Assumes nothing.
use Prim.Native.Nat.{ℕ, ◌+◌, ◌-◌, ◌*◌, ◌^◌, ◌≤◌, ◌<◌}
use native.Mathlib.Omega.{arith}
use mathlib.Core.Path.{◌≡◌, refl, sym, ap, ap₂, ◌∙◌, subst}
use mathlib.Core.List.{List, [], ◌∷◌, ◌++◌, append_assoc}
use lib.IntN.{ℤ, ◌+ℤ◌}
use lib.ListN.{length, get_or, take, drop, length-append, length-drop, take-append-drop}
use lib.Seq.{take_at, drop_at, drop-drop, take-take, take_all, length-take-le}
use borrow.Author.Tests.{le-leb}
use native.Mathlib.Numerals.{add-one}
use Rattle.std.specs.Prelude.{Some}
use Rattle.base_writing.specs.Puts.{Puts, Adds}
use Rattle.base_writing.proofs.Puts.{same_added, Written, was_wrote, was_full, same_length}
use Rattle.base_writing.proofs.Lent.{rest, with_rest, rest_is, with_rest_is}
use Rattle.store_memtable.specs.Table.{update, last_writes}
use Rattle.group_spec.specs.Members.{value_inside}
use Rattle.group_spec.specs.Settling.{key_part, KeyIn}
use Rattle.command_writes.specs.Changes.{RowFits, OwnPut}
use mir.Syntax.{w64}
use mir.Val.{SFits, to_z, of_z}
use mir.ValLaws.{to_z-of_z}
use Rattle.base_key.specs.Bytes.{Bytes, part}
use Rattle.base_key.specs.Keys.{Key}
use Rattle.base_number.specs.Decimal.{decimal}
use Rattle.base_number.proofs.Decimals.{decimal_few}
use Rattle.command_spec.specs.Command.{Effect, argument, held, raised}
use Rattle.command_writes.specs.Own.{own_writes, Own, reader_of}
use Rattle.command_lookup.proofs.Counters.{raised_bad, raised_over, raised_to}
use Rattle.base_number.specs.Number.{number_of}
use Rattle.exec_queued.specs.declared.Walked.{Walked}
use Rattle.command_meaning.specs.Kinds.{counter_effect}
use Rattle.exec_queued.specs.Walks.{TextPut, CounterSet, CounterError, Advanced}
use Rattle.resp_spec.specs.Reply.{Integer, encode}
use Rattle.command_spec.specs.declared.Fixed.{Fixed}
use Rattle.command_spec.specs.declared.Fixed.TheVariants as fixed
use Rattle.command_spec.specs.Errors.{fixed_reply}
use Rattle.command_spec.specs.Places.{arguments_at, PartsIn}
use Rattle.command_spec.proofs.PlaceLaws.{part_in, argument_is}
use Rattle.command_writes.proofs.Growing.{part_append, writes_append, own_append}
use Rattle.store_memtable.proofs.TableLaws.{last_one}
use Rattle.std.specs.Prelude.{Option, None}

-- one more text, by a writer that was lent the part from n on
rest_kept : {text entry mid : List ℕ} {n : ℕ} → Written text entry n mid → rest n mid ≡ drop n entry
rest_kept {text} {entry} {mid} {n} w = rest_is n mid ∙ ap (drop n) w.buffer ∙ drop_at text (drop n entry) n (sym w.count)

behind : {text more longer entry mid last : List ℕ} {n m : ℕ} → Written text entry n mid → Written more (rest n mid) m last → longer ≡ text ++ more → Written longer entry (n + m) (with_rest n mid last)
behind {text} {more} {longer} {entry} {mid} {last} {n} {m} w v e =
    let room : rest n mid ≡ drop n entry = rest_kept w in
    record {
      count = ap₂ ◌+◌ w.count v.count ∙ sym (ap length e ∙ length-append text more);
      fits = omega (arith, v.fits, ap length room, length-drop n entry, w.fits);
      buffer =
          with_rest_is n mid last
          ∙ ap₂ ◌++◌ (ap (take n) w.buffer ∙ take_at text (drop n entry) n (sym w.count)) (v.buffer ∙ ap (λ (l : List ℕ). more ++ drop m l) room)
          ∙ rw (e, append_assoc, drop-drop) refl;
    }

-- THE TEXT
length_rest : (used : ℕ) (d : Bytes) → length (rest used d) ≡ length d - used
length_rest used d = ap length (take_all (length d - used) (drop used d) (rw length-drop (omega arith))) ∙ length-drop used d

in_use : (used : ℕ) (d : Bytes) → used ≤ length d → Written (take used d) d used d
in_use used d h = record { count = sym (length-take-le used d h); fits = h; buffer = sym (take-append-drop used d) }

module _ (n : ℤ) (d : Bytes) (used : ℕ) {text : Option ℕ} {last : Bytes} (fits : SFits w64 n) (p : Puts (decimal (to_z w64 (of_z w64 n))) (rest used d) text last) (room : used + 20 ≤ length d) where
  size : length (decimal (to_z w64 (of_z w64 n))) ≡ length (decimal n)
  size = ap (λ (z : ℤ). length (decimal z)) (to_z-of_z w64 n fits)

  pub text_put : {len : ℕ} → text ≡ Some len → TextPut n d used (with_rest used d last) (used + len)
  text_put {len} told =
      let m : ℤ = to_z w64 (of_z w64 n) in
      let w : Written (decimal m) (rest used d) len last = was_wrote p told in
      let j : Written (take used d ++ decimal m) d (used + len) (with_rest used d last) = behind (in_use used d (omega arith)) w refl in
      record {
        is = ap (take (used + len)) j.buffer ∙ take_at (take used d ++ decimal m) (drop (used + len) d) (used + len) (sym j.count)
            ∙ ap (λ (z : ℤ). take used d ++ decimal z) (to_z-of_z w64 n fits);
        end_is = ap (λ (x : ℕ). used + x) (w.count ∙ size);
        inside = omega (arith, j.fits, same_length j);
        few = omega (arith, w.count, size, decimal_few n fits.sfits);
        same = same_length j;
      }

  pub no_room : text ≡ None → TextPut n d used (with_rest used d last) used
  no_room told = absurd (omega (arith, (was_full p told).long, size, decimal_few n fits.sfits, length_rest used d))

  pub text_sum : {len : ℕ} → text ≡ Some len → length d * 1 < 2 ^ 63 → used + len < 2 ^ 64
  text_sum told l = omega (arith, (was_wrote p told).count, size, decimal_few n fits.sfits)

-- THE WRITE of the key at place 2 of the table
pub counter_fits : (p : List ℕ) (d : Bytes) (start : ℕ) {a l x : ℕ} → a ≡ get_or p 2 0 → l ≡ get_or p 3 0 → x ≡ length d - start → KeyIn p d 2 → start ≤ length d → RowFits d a l start (x + 1)
unfolding value_inside
counter_fits p d start {a} {l} {x} a-is l-is x-is k h = record {
  key_in = omega (arith, k.key_in);
  value_in = ap (λ (y : ℕ). value_inside start y d) (add-one x) ∙ le-leb (start + x) (length d) (omega arith);
}

-- THE COUNTER SET
-- z is n as the callees read it
module _ (p : List ℕ) {own : List ℕ} (d : Bytes) (a : Walked) (o : Own own (take a.used d) a.rows) (key : KeyIn p (take a.used d) 2) (room : a.used + 20 ≤ length d)
    {n z : ℤ} {e : ℕ} {d' : Bytes} (z-is : z ≡ n) (t : TextPut z d a.used d' e) where
  front : length (take a.used d) ≡ a.used
  front = length-take-le a.used d (omega arith)

  key_same : key_part p (take e d') 2 ≡ key_part p (take a.used d) 2
  key_same = ap (λ (s : Bytes). key_part p s 2) t.is ∙ part_append (get_or p 2 0) (get_or p 3 0) (take a.used d) (decimal z) key.key_in

  value_same : part a.used (length (take e d') - a.used) (take e d') ≡ decimal n
  value_same =
      ap (λ (s : Bytes). part a.used (length s - a.used) s) t.is
      ∙ ap (take (length (take a.used d ++ decimal z) - a.used)) (drop_at (take a.used d) (decimal z) a.used front)
      ∙ take_all (length (take a.used d ++ decimal z) - a.used) (decimal z) (omega (arith, length-append (take a.used d) (decimal z), front))
      ∙ ap decimal z-is

  writes_same : own_writes own (take e d') a.rows ≡ own_writes own (take a.used d) a.rows
  writes_same = ap (λ (s : Bytes). own_writes own s a.rows) t.is ∙ writes_append (decimal z) o

  pub counter_own : Own own (take e d') a.rows
  counter_own = subst (λ (s : Bytes). Own own s a.rows) (sym t.is) (own_append (decimal z) o)

  pub counter_set : {own' : List ℕ} {rows : ℕ} {next : Option ℕ} {out out' : Bytes} → Adds (encode (Integer z)) a.put out next out'
      → OwnPut own own' (take e d') a.rows (key_part p (take e d') 2) (Some (part a.used (length (take e d') - a.used) (take e d'))) rows
      → CounterSet (key_part p (take a.used d) 2) n own d out a own' d' out' (record { rows = rows; used = e; put = next })
  counter_set s u = record {
    kept = u.kept;
    writes = u.is ∙ (λ i. update (key_same i) (Some (Some (value_same i))) (writes_same i)) ∙ sym (last_one (own_writes own (take a.used d) a.rows) (key_part p (take a.used d) 2, Some (decimal n)));
    few = u.most;
    text = subst (λ (v : ℤ). TextPut v d a.used d' e) z-is t;
    adds = same_added (ap (λ (v : ℤ). encode (Integer v)) (sym z-is)) s;
    same = u.same;
  }

-- ALL TOGETHER
same_advanced : {e e' : Effect} (most : ℕ) {own : List ℕ} {d out : Bytes} {a : Walked} {own' : List ℕ} {d' out' : Bytes} {r : Walked}
    → e ≡ e' → Advanced e' most own d out a own' d' out' r → Advanced e most own d out a own' d' out' r
same_advanced most {own} {d} {out} {a} {own'} {d'} {out'} {r} same x = subst (λ (t : Effect). Advanced t most own d out a own' d' out' r) (sym same) x

-- the key of a counter
abbrev name_at : List ℕ → ℕ → Bytes → Key
name_at p count s = argument 1 (arguments_at 0 count p s)

pub counter_place : {p : List ℕ} {s : Bytes} {count : ℕ} → PartsIn p s count → 2 ≤ count → KeyIn p s 2
counter_place {p} {s} {count} ps least = part_in p s count 1 ps (omega arith)

module _ (w : List ℕ) (b : Bytes) (seq : ℕ) (by : ℤ) (p : List ℕ) (count : ℕ) {own : List ℕ} (d : Bytes) (a : Walked)
    (o : Own own (take a.used d) a.rows) (ps : PartsIn p (take a.used d) count) (least : 2 ≤ count) where
  module _ {k : Key} {h : Option ℤ} (got : h ≡ held (reader_of own (take a.used d) a.rows w b seq k)) (k-is : k ≡ name_at p count (take a.used d)) where
    h-is : h ≡ held (reader_of own (take a.used d) a.rows w b seq (name_at p count (take a.used d)))
    h-is = got ∙ ap (λ (x : Key). held (reader_of own (take a.used d) a.rows w b seq x)) k-is

    effect_is : {e : Effect} → raised (name_at p count (take a.used d)) by h ≡ e → counter_effect by (reader_of own (take a.used d) a.rows w b seq) (arguments_at 0 count p (take a.used d)) ≡ e
    unfolding counter_effect
    effect_is e = sym (ap (raised (name_at p count (take a.used d)) by) h-is) ∙ e

    -- an error sets nothing
    not_set : (f : Fixed) {r : Walked} {out out' : Bytes} → raised (name_at p count (take a.used d)) by h ≡ (fixed_reply f, []) → CounterError f out a out' r
        → Advanced (counter_effect by (reader_of own (take a.used d) a.rows w b seq) (arguments_at 0 count p (take a.used d))) (count - 1) own d out a own d out' r
    unfolding last_writes
    not_set f e x =
        same_advanced (count - 1) (effect_is e)
        (record {
          kept = rw (x.used_is, x.rows_is) o;
          writes = rw (x.used_is, x.rows_is) refl;
          few = omega (arith, x.rows_is);
          data_kept = refl;
          used_more = omega (arith, x.used_is);
          used_few = omega (arith, x.used_is);
          adds = x.adds;
          same = refl;
          same_data = refl;
        })

    pub counter_bad : {r : Walked} {out out' : Bytes} → h ≡ None → CounterError fixed.NotInteger out a out' r
        → Advanced (counter_effect by (reader_of own (take a.used d) a.rows w b seq) (arguments_at 0 count p (take a.used d))) (count - 1) own d out a own d out' r
    unfolding fixed_reply
    counter_bad e x = not_set fixed.NotInteger (raised_bad (name_at p count (take a.used d)) by e) x

    -- x and y are n and `by` as the sum reads them
    module _ {n x y : ℤ} {sum : Option ℤ} (is : h ≡ Some n) (x-is : x ≡ n) (y-is : y ≡ by) (sum_is_lem : sum ≡ number_of (x +ℤ y)) where
      pub counter_over : {r : Walked} {out out' : Bytes} → sum ≡ None → CounterError fixed.Overflow out a out' r
          → Advanced (counter_effect by (reader_of own (take a.used d) a.rows w b seq) (arguments_at 0 count p (take a.used d))) (count - 1) own d out a own d out' r
      unfolding fixed_reply
      counter_over e s = not_set fixed.Overflow (raised_over (name_at p count (take a.used d)) by is x-is y-is sum_is_lem e) s

      -- a number sets the write
      pub counter_raised : {s t : ℤ} {r : Walked} {own' : List ℕ} {d' out out' : Bytes} → sum ≡ Some s → t ≡ s → CounterSet (key_part p (take a.used d) 2) t own d out a own' d' out' r
          → Advanced (counter_effect by (reader_of own (take a.used d) a.rows w b seq) (arguments_at 0 count p (take a.used d))) (count - 1) own d out a own' d' out' r
      counter_raised {s} {t} {r} {d' = d'} e t-is q =
          same_advanced (count - 1) (effect_is (raised_to (name_at p count (take a.used d)) by is x-is y-is sum_is_lem e))
          (record {
            kept = q.kept;
            writes = q.writes ∙ (λ i. last_writes (own_writes own (take a.used d) a.rows) ((argument_is p (take a.used d) count 1 (omega arith) refl i, Some (decimal (t-is i))) ∷ []));
            few = omega (arith, q.few);
            data_kept = sym (take-take a.used r.used d' (omega (arith, q.text.end_is))) ∙ ap (take a.used) q.text.is ∙ take_at (take a.used d) (decimal t) a.used (length-take-le a.used d (omega (arith, q.text.inside, q.text.end_is, q.text.same)));
            used_more = omega (arith, q.text.end_is);
            used_few = q.text.few;
            adds = same_added (ap (λ (v : ℤ). encode (Integer v)) (sym t-is)) q.adds;
            same = q.same;
            same_data = q.text.same;
          })
