-- Laws of lists cut into pieces, of parts in front of their places, of one part among others, and of keys with their sequences.
use Prim.Native.Nat.{ℕ, ◌+◌, ◌-◌, ◌≤◌}
use native.Mathlib.Omega.{arith}
use mathlib.Core.List.{List, [], ◌∷◌, ◌++◌, map, append_assoc, append-nil}
use mathlib.Core.Path.{◌≡◌, refl, sym, ap, ◌∙◌}
use lib.ListN.{length, take, drop, length-append, length-drop, take-append-drop}
use lib.Seq.{take_at, drop_at, drop-drop, take-append-le, drop-append-le, length-take-le}
use Rattle.base_key.specs.Bytes.{part, over_front, concat, total}
use Rattle.base_key.specs.Keys.{Key}
use Rattle.command_spec.specs.Session.{Watching, watched_keys, watched_sequences}
use Rattle.command_spec.specs.Sessions.{split_by, paired}

module _ {A : Type 0} where
  -- cutting what was joined
  pub split_back : (ls : List (List A)) (r : List A) → split_by (map length ls) (concat ls ++ r) ≡ ls
  unfolding split_by concat
  split_back [] r = refl
  split_back (l ∷ ls) r =
      let e = append_assoc l (concat ls) r in
      let front : take (length l) (l ++ concat ls ++ r) ≡ l = ap (take (length l)) e ∙ take_at l (concat ls ++ r) (length l) refl in
      let rest : drop (length l) (l ++ concat ls ++ r) ≡ concat ls ++ r = ap (drop (length l)) e ∙ drop_at l (concat ls ++ r) (length l) refl in
      (λ z. front z ∷ split_by (map length ls) (rest z)) ∙ ap {B = List (List A)} (λ x. l ∷ x) (split_back ls r)

  pub split_whole : (ls : List (List A)) → split_by (map length ls) (concat ls) ≡ ls
  split_whole ls = ap (split_by (map length ls)) (sym (append-nil (concat ls))) ∙ split_back ls []

  -- joining what was cut
  pub concat_split : (ns : List ℕ) (l : List A) → total ns ≡ length l → concat (split_by ns l) ≡ l
  unfolding split_by concat total
  concat_split [] [] h = refl
  concat_split [] (x ∷ l) h = absurd (omega arith)
  concat_split (n ∷ ns) l h =
      ap (λ (r : List A). take n l ++ r) (concat_split ns (drop n l) (rw length-drop (omega arith))) ∙ take-append-drop n l

  -- a front in its place
  pub front_back : (a l r : List A) (n : ℕ) → length a ≡ n → take n (over_front a l ++ r) ≡ a
  unfolding over_front
  front_back a l r n e = ap (take n) (append_assoc a (drop (length a) l) r) ∙ take_at a (drop (length a) l ++ r) n e

  -- ONE PART AMONG OTHERS: x stands at `at` in place of as many elements of l.
  module _ (l x : List A) (at end : ℕ) (long : at + length x ≡ end) (fits : end ≤ length l) where
    abbrev pub replaced : List A
    replaced = take at l ++ (x ++ drop end l)

    pub length_replaced : length replaced ≡ length l
    length_replaced =
        length-append (take at l) (x ++ drop end l)
        ∙ rw (length-take-le at l (omega arith), length-append x (drop end l), length-drop end l) (omega arith)

    pub part_self : (size : ℕ) → length x ≡ size → part at size replaced ≡ x
    part_self size e =
        ap (take size) (drop_at (take at l) (x ++ drop end l) at (length-take-le at l (omega arith))) ∙ take_at x (drop end l) size e

    pub part_before : (start size : ℕ) → start + size ≤ at → part start size replaced ≡ part start size l
    part_before start size h =
        let n : length (take at l) ≡ at = length-take-le at l (omega arith) in
        ap (take size) (drop-append-le start (take at l) (x ++ drop end l) (omega arith))
        ∙ take-append-le size (drop start (take at l)) (x ++ drop end l) (rw (length-drop start (take at l), n) (omega arith))
        ∙ sym (ap (λ (y : List A). take size (drop start y)) (sym (take-append-drop at l))
        ∙ ap (take size) (drop-append-le start (take at l) (drop at l) (omega arith))
        ∙ take-append-le size (drop start (take at l)) (drop at l) (rw (length-drop start (take at l), n) (omega arith)))

    pub part_behind : (start size : ℕ) → end ≤ start → part start size replaced ≡ part start size l
    part_behind start size h =
        let front : List A = take at l ++ x in
        let n : length front ≡ end = length-append (take at l) x ∙ rw (length-take-le at l (omega arith)) long in
        let e : start ≡ end + (start - end) = omega arith in
        let d : drop start replaced ≡ drop start l =
        ap (λ (m : ℕ). drop m replaced) e
        ∙ sym (drop-drop (start - end) end replaced)
        ∙ ap (drop (start - end)) (ap (drop end) (sym (append_assoc (take at l) x (drop end l))) ∙ drop_at front (drop end l) end n)
        ∙ drop-drop (start - end) end l
        ∙ ap (λ (m : ℕ). drop m l) (sym e) in
        ap (take size) d

-- KEYS WITH THEIR SEQUENCES
pub paired_keys : (ks : List Key) (ns : List ℕ) → watched_keys (paired ks ns) ≡ ks
unfolding paired
paired_keys [] ns = refl
paired_keys (k ∷ ks) [] = ap (λ (l : List Key). k ∷ l) (paired_keys ks [])
paired_keys (k ∷ ks) (n ∷ ns) = ap (λ (l : List Key). k ∷ l) (paired_keys ks ns)

pub paired_sequences : (ks : List Key) (ns : List ℕ) → length ns ≡ length ks → watched_sequences (paired ks ns) ≡ ns
unfolding paired
paired_sequences [] [] h = refl
paired_sequences [] (n ∷ ns) h = absurd (omega arith)
paired_sequences (k ∷ ks) [] h = absurd (omega arith)
paired_sequences (k ∷ ks) (n ∷ ns) h = ap (λ (l : List ℕ). n ∷ l) (paired_sequences ks ns (omega arith))

pub paired_back : (w : Watching) → paired (watched_keys w) (watched_sequences w) ≡ w
unfolding paired
paired_back [] = refl
paired_back (e ∷ w) = ap (λ (l : Watching). e ∷ l) (paired_back w)
