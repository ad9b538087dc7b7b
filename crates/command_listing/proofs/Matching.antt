-- The laws of the keys that match a pattern: a walk that counts them, one that writes them, and KEYS. Assumes nothing.
use mathlib.Core.Path.{◌≡◌, refl, sym, ap, ◌∙◌, subst}
use mathlib.Core.Bool.{Bool, true, false, cond}
use mathlib.Core.List.{List, [], ◌∷◌, map}
use Prim.Native.Nat.{ℕ, zero, suc, ◌+◌, ◌-◌, ◌≤◌, ◌<◌}
use native.Mathlib.Omega.{arith}
use lib.ListN.{length, take, drop, length-map, length-take}
use lib.Seq.{take_all, take-nil, drop-nil, length-take-le}
use Rattle.base_key.specs.Bytes.{Bytes}
use Rattle.base_writing.specs.Puts.{Puts, Adds}
use Rattle.base_writing.proofs.Puts.{same_text}
use Rattle.resp_spec.specs.Reply.{Reply, BulkString, array, head, encode}
use Rattle.resp_encode.proofs.Replies.{Listed, listed_more, listed_full, listed_all}
use Rattle.store_memtable.specs.Table.{Value, Entry, Table}
use Rattle.store_memtable.specs.Versions.{table}
use Rattle.store_memtable.specs.Layout.{count_word, version_at}
use Rattle.store_memtable.specs.Rows.{versions_in, Valid}
use Rattle.store_memtable.specs.Walk.{entry_at, next_live}
use Rattle.command_spec.specs.Command.{KEYS, keep, key_reply, answer_listing}
use Rattle.command_spec.specs.declared.pattern.Compared.{Compared}
use Rattle.command_spec.specs.declared.pattern.Compared.TheVariants.{Matches, Differs, DiffersByTheEnd}
use Rattle.command_spec.specs.Glob.{glob, glob_told}
use Rattle.command_glob.proofs.Ends.{yes, same_answer}
use Rattle.store_memtable.proofs.Walk.{found_below}
use Rattle.command_listing.specs.Rest.{rest, matching, keys_reply, one_if, SeenFrom, MatchAt, MatchFrom}
use Rattle.std.specs.Borrow.{Bor}
use Rattle.command_listing.proofs.Rests.{rest_all, rest_few, rest_none, rest_some, take_first, drop_first}
use Rattle.std.specs.Prelude.{Option, None, Some}

-- the first entry matches, or not, or there is none
matching_first : (p : Bytes) (e : Entry Value) (t : Table) {r : Bool} → glob p e.0 ≡ r → matching p (e ∷ t) ≡ cond r (e ∷ matching p t) (matching p t)
unfolding matching keep
matching_first p e t g = ap (λ (b : Bool). cond b (e ∷ keep (glob p) t) (keep (glob p) t)) g

matching_nothing : (p : Bytes) → matching p [] ≡ []
unfolding matching keep
matching_nothing p = refl

matching_count : (p : Bytes) (e : Entry Value) (t : Table) → length (matching p (e ∷ t)) ≡ one_if (glob p e.0) + length (matching p t)
unfolding matching keep one_if
matching_count p e t = go (glob p e.0)
  where
    go : (r : Bool) → length (cond r (e ∷ keep (glob p) t) (keep (glob p) t)) ≡ one_if r + length (keep (glob p) t)
    go true = omega arith
    go false = omega arith

pub one_at_most : (t : Bool) {r : ℕ} → r ≡ one_if t → r ≤ 1
unfolding one_if
one_at_most true e = omega arith
one_at_most false e = omega arith

-- one or none, by the answer
one_by : (p s : Bytes) {o : Compared} → o ≡ glob_told p s → one_if (yes o) ≡ one_if (glob p s)
one_by p s a = ap one_if (ap yes a ∙ same_answer p s)

module _ (p s : Bytes) {o : Compared} (a : o ≡ glob_told p s) where
  pub one_matches : o ≡ Matches → 1 ≡ one_if (glob p s)
  unfolding one_if
  one_matches e = ap (λ (x : Compared). one_if (yes x)) (sym e) ∙ one_by p s a

  pub none_matches : (o ≡ Matches → ⊥) → 0 ≡ one_if (glob p s)
  unfolding one_if
  none_matches ne = go o ne ∙ one_by p s a
    where
      go : (x : Compared) → (x ≡ Matches → ⊥) → 0 ≡ one_if (yes x)
      go Matches h = absurd (h refl)
      go Differs h = refl
      go DiffersByTheEnd h = refl

-- the matching ones among the first n are the first of the matching ones
matching_take : (p : Bytes) (n : ℕ) (t : Table) → take (length (matching p (take n t))) (matching p t) ≡ matching p (take n t)
unfolding matching keep
matching_take p zero t = refl
matching_take p (suc n) [] = refl
matching_take p (suc n) (e ∷ t) = go (glob p e.0) (matching_take p n t)
  where
    go : (r : Bool) → take (length (keep (glob p) (take n t))) (keep (glob p) t) ≡ keep (glob p) (take n t)
        → take (length (cond r (e ∷ keep (glob p) (take n t)) (keep (glob p) (take n t)))) (cond r (e ∷ keep (glob p) t) (keep (glob p) t)) ≡ cond r (e ∷ keep (glob p) (take n t)) (keep (glob p) (take n t))
    go true ih = ap (λ (l : Table). e ∷ l) ih
    go false ih = ih

matching_few : (p : Bytes) (n : ℕ) (t : Table) → length (matching p (take n t)) ≤ length (matching p t)
matching_few p n t = omega (arith, ap length (matching_take p n t), length-take (length (matching p (take n t))) (matching p t))

-- COUNTING. The walk at place i, with `left` entries still to be looked at, of which the earlier ones gave `matched`
pub record Looking (w b p : List ℕ) (from most i left matched : ℕ) : Type 0 where
  pub count : length (matching p (take most (rest w b from))) ≡ matched + length (matching p (take left (rest w b i)))
  pub stop : drop left (rest w b i) ≡ drop most (rest w b from)
  pub few : matched + left ≤ most

module _ {w b p : List ℕ} {from most i left matched : ℕ} (k : Looking w b p from most i left matched) where
  looked : take left (rest w b i) ≡ [] → length (matching p (take most (rest w b from))) ≡ matched
  looked over = k.count ∙ ap (λ (l : Table). matched + length l) (ap (matching p) over ∙ matching_nothing p) ∙ omega arith

  module _ {o : Option ℕ} (is : o ≡ next_live w b i (count_word w - i)) where
    pub looking_more : {j : ℕ} {name : Bytes} {r left' : ℕ} → o ≡ Some j → name ≡ (version_at w b j).key → r ≡ one_if (glob p name) → 0 < left → left - 1 ≡ left' → Looking w b p from most (j + 1) left' (matched + r)
    looking_more {j} e n g h l =
        rw (← l)
        let q : length (matching p (take left (rest w b i))) ≡ one_if (glob p (version_at w b j).key) + length (matching p (take (left - 1) (rest w b (j + 1)))) =
        ap (λ (t : Table). length (matching p t)) (ap (take left) (rest_some w b i is e) ∙ take_first h (entry_at w b j) (rest w b (j + 1)))
        ∙ matching_count p (entry_at w b j) (take (left - 1) (rest w b (j + 1))) in
        let one = g ∙ ap (λ (x : Bytes). one_if (glob p x)) n in
        record {
          count = k.count ∙ omega arith;
          stop = sym (drop_first h (entry_at w b j) (rest w b (j + 1))) ∙ ap (drop left) (sym (rest_some w b i is e)) ∙ k.stop;
          few = omega (arith, k.few, one_at_most (glob p _) g);
        }

    pub looking_over : o ≡ None → SeenFrom w b p from most matched i
    looking_over e =
        let over = rest_none w b i is e in
        record {
          count = sym (looked (ap (take left) over ∙ take-nil left));
          stop = over ∙ sym (drop-nil left) ∙ ap (drop left) (sym over) ∙ k.stop;
        }

  pub looking_end : left ≤ 0 → SeenFrom w b p from most matched i
  looking_end h =
      let z : left ≡ 0 = omega arith in
      record {
        count = sym (looked (ap (λ (x : ℕ). take x (rest w b i)) z));
        stop = ap (λ (x : ℕ). drop x (rest w b i)) (sym z) ∙ k.stop;
      }

-- the replies still to be written, under another name
pub relist : {whole rest other : List Reply} {put after : Option ℕ} {entry out : Bytes} → rest ≡ other → Listed whole rest put entry after out → Listed whole other put entry after out
relist {whole} {put = put} {after = after} {entry = entry} {out = out} e g = subst (λ (l : List Reply). Listed whole l put entry after out) e g

-- THE NEXT MATCH. No key before place i matches
pub record Missing (w b p : List ℕ) (from i : ℕ) : Type 0 where
  pub same : matching p (rest w b from) ≡ matching p (rest w b i)

module _ {w b p : List ℕ} {from i : ℕ} (k : Missing w b p from i) {o : Option ℕ} (is : o ≡ next_live w b i (count_word w - i)) where
  pub missing_all : o ≡ None → matching p (rest w b from) ≡ []
  missing_all e = k.same ∙ ap (matching p) (rest_none w b i is e) ∙ matching_nothing p

  module _ {j : ℕ} {name : Bytes} {r : Bool} (e : o ≡ Some j) (n : name ≡ (version_at w b j).key) (g : r ≡ glob p name) where
    found_there : {t : Bool} → r ≡ t → matching p (rest w b from) ≡ cond t (entry_at w b j ∷ matching p (rest w b (j + 1))) (matching p (rest w b (j + 1)))
    found_there f =
        k.same ∙ ap (matching p) (rest_some w b i is e)
        ∙ matching_first p (entry_at w b j) (rest w b (j + 1)) (ap (glob p) (sym n) ∙ sym g ∙ f)

    pub match_at : r ≡ true → MatchAt w b p from j name
    match_at f = record { below = found_below _ _ _ is e; named = n; first = found_there f }

    pub missing_more : r ≡ false → Missing w b p from (j + 1)
    missing_more f = record { same = found_there f }

-- WRITING. The walk at place i, with `left` of `count` keys still to be written; `put` and `entry` are as the loop found them, behind the head
pub record Writing (w b p : List ℕ) (from count i left : ℕ) (put : Option ℕ) (entry : Bytes) (after : Option ℕ) (out : Bytes) : Type 0 where
  pub listed : Listed (map key_reply (take count (matching p (rest w b from)))) (map key_reply (take left (matching p (rest w b i)))) put entry after out

module _ {w b p : List ℕ} {from count i left : ℕ} {put next : Option ℕ} {entry mid : Bytes} (k : Writing w b p from count i left put entry next mid) where
  pub writing_match : {o : Option (ℕ × Bor Bytes)} {j left' : ℕ} {name : Bor Bytes} {after : Option ℕ} {exit : Bytes} → 0 < left → left - 1 ≡ left'
      → MatchFrom w b p i o → o ≡ Some (j, name) → Adds (encode (BulkString name.now)) next mid after exit → Writing w b p from count (j + 1) left' put entry after exit
  writing_match {j = j} h l found e a =
      rw (← l)
      let m = subst (MatchFrom w b p i) e found in
      let q : take left (matching p (rest w b i)) ≡ entry_at w b j ∷ take (left - 1) (matching p (rest w b (j + 1))) =
      ap (take left) m.first ∙ take_first h (entry_at w b j) (matching p (rest w b (j + 1))) in
      record { listed = listed_more (BulkString (version_at w b j).key) (relist (ap (map key_reply) q) k.listed) (rw m.named at a) }

  module _ {start : Bytes} (fits : count ≤ length (matching p (rest w b from))) (s : Puts (head 42 count) start put entry) where
    counted : count ≡ length (map key_reply (take count (matching p (rest w b from))))
    counted = sym (length-map (take count (matching p (rest w b from))) key_reply ∙ length-take-le count (matching p (rest w b from)) fits)

    pub writing_full : next ≡ None → Puts (encode (keys_reply (take count (matching p (rest w b from))))) start None mid
    unfolding keys_reply
    writing_full told = listed_full (map key_reply (take count (matching p (rest w b from)))) counted s (map key_reply (take left (matching p (rest w b i)))) k.listed told

    written_out : take left (matching p (rest w b i)) ≡ [] → Puts (encode (keys_reply (take count (matching p (rest w b from))))) start next mid
    unfolding keys_reply
    written_out over = listed_all (map key_reply (take count (matching p (rest w b from)))) counted s (relist (ap (map key_reply) over) k.listed)

    pub writing_over : {o : Option (ℕ × Bor Bytes)} → MatchFrom w b p i o → o ≡ None → Puts (encode (keys_reply (take count (matching p (rest w b from))))) start next mid
    writing_over none e = written_out (ap (take left) (subst (MatchFrom w b p i) e none) ∙ take-nil left)

    pub writing_end : left ≤ 0 → Puts (encode (keys_reply (take count (matching p (rest w b from))))) start next mid
    writing_end h = let z : left ≡ 0 = omega arith in written_out (ap (λ (x : ℕ). take x (matching p (rest w b i))) z)

-- what was counted is there to be written, and is what the walk saw
module _ {w b p : List ℕ} {from most matched next : ℕ} (seen : SeenFrom w b p from most matched next) where
  pub seen_fits : matched ≤ length (matching p (rest w b from))
  seen_fits = omega (arith, seen.count, matching_few p most (rest w b from))

  pub seen_keys : take matched (matching p (rest w b from)) ≡ matching p (take most (rest w b from))
  seen_keys = ap (λ (n : ℕ). take n (matching p (rest w b from))) seen.count ∙ matching_take p most (rest w b from)

-- KEYS
pub keys_answer : {w b p : List ℕ} {matched next : ℕ} {start exit : Bytes} {put : Option ℕ} → Valid w b → SeenFrom w b p 0 (count_word w) matched next
    → Puts (encode (keys_reply (take matched (matching p (rest w b 0))))) start put exit → Puts (encode (answer_listing (table (versions_in w b)) (KEYS p))) start put exit
unfolding answer_listing keys_reply matching
keys_answer {w} {b} {p} v seen a =
    same_text
    (ap (λ (t : Table). encode (array (map key_reply t)))
    (sym (seen_keys seen ∙ ap (matching p) (take_all (count_word w) (rest w b 0) (rest_few w b 0) ∙ rest_all w b v))))
    a
