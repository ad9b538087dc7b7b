-- A command by what it does, from what the function of its kind leaves. Assumes nothing.
use Prim.Native.Nat.{ℕ, ◌+◌, ◌-◌, ◌*◌, ◌/◌, ◌≤◌}
use native.Mathlib.Omega.{arith}
use mathlib.Core.Path.{◌≡◌, sym, ap, ◌∙◌, subst}
use mathlib.Core.List.{List, [], map}
use lib.IntN.{ℤ, pos}
use Rattle.command_spec.proofs.PlaceLaws.{arguments_of}
use Rattle.base_key.specs.Bytes.{Bytes}
use Rattle.resp_spec.specs.Reply.{Integer, ok}
use Rattle.command_spec.specs.Numbers.{AnswerNumbers}
use Rattle.command_spec.specs.Names.{Args}
use Rattle.command_spec.specs.Command.{Effect, argument, pairs_of, put, tombstone, live, held, raised}
use Rattle.command_spec.specs.Places.{arguments_at, tombstones_at, pairs_at}
use Rattle.command_meaning.specs.declared.Read.{Read}
use Rattle.command_meaning.specs.declared.Kind.{Kind}
use Rattle.command_meaning.specs.declared.Kind.TheVariants.{Pairs, Tombstones, Counter, Reads}
use Rattle.command_meaning.specs.Kinds.{live_reply, read_reply, pairs_effect, tombstones_effect, counter_effect, kind_effect, KindCounted}
use Rattle.command_meaning.proofs.KindLaws.{pairs_counted, tombstones_counted}
use Rattle.command_room.specs.Reading.{last_reader}
use Rattle.command_room.specs.Served.{Runs, deletion}

-- THE ARGUMENT COUNT, as the functions of the kinds ask for it
module _ {k : Kind} {count : ℕ} (h : KindCounted k count) where
  pub pairs_some : k ≡ Pairs → 1 ≤ count
  pairs_some e = omega (arith, (pairs_counted h e).least)

  pub pairs_in : k ≡ Pairs → 1 + 2 * ((count - 1) / 2) ≤ count
  pairs_in e = omega (arith, (pairs_counted h e).pairs)

  pub tombstones_some : k ≡ Tombstones → 1 ≤ count
  tombstones_some e = omega (arith, tombstones_counted h e)

-- EACH KIND
module _ (w : List ℕ) (b : Bytes) (p : List ℕ) (d : Bytes) (count used : ℕ) (k : Kind) {out out' : Bytes} {r : AnswerNumbers} {w' b' : List ℕ} where
  as_effect : {x : Effect} {t : Kind} → k ≡ t → x ≡ kind_effect t (last_reader w b) (arguments_at 0 count p d) → Runs x used out w b r out' w' b'
      → Runs (kind_effect k (last_reader w b) (arguments_at 0 count p d)) used out w b r out' w' b'
  as_effect e x-is a =
      subst (λ (y : Effect). Runs y used out w b r out' w' b') (x-is ∙ sym (ap (λ (t : Kind). kind_effect t (last_reader w b) (arguments_at 0 count p d)) e)) a

  pub runs_pairs : k ≡ Pairs → KindCounted k count → Runs (ok, pairs_at 1 (2 * ((count - 1) / 2)) p d) used out w b r out' w' b'
      → Runs (kind_effect k (last_reader w b) (arguments_at 0 count p d)) used out w b r out' w' b'
  unfolding kind_effect pairs_effect pairs_at
  runs_pairs e h a =
      let c = pairs_counted h e in
      let n : 2 * ((count - 1) / 2) ≡ count - 1 = omega (arith, c.pairs) in
      as_effect e
      (ap (λ (m : ℕ). (ok, map put (pairs_of (arguments_at 1 m p d)))) n
      ∙ ap (λ (x : Args). (ok, map put (pairs_of x))) (sym (arguments_of p d count (omega (arith, c.least)))))
      a

  pub runs_tombstones : k ≡ Tombstones → KindCounted k count → Runs (deletion count p d w b) used out w b r out' w' b'
      → Runs (kind_effect k (last_reader w b) (arguments_at 0 count p d)) used out w b r out' w' b'
  unfolding kind_effect tombstones_effect live_reply deletion tombstones_at
  runs_tombstones e h a =
      as_effect e
      (ap (λ (x : Args). (Integer (pos (live (last_reader w b) x)), map tombstone x)) (sym (arguments_of p d count (tombstones_some h e))))
      a

  pub runs_counter : {n m : ℤ} {name : Bytes} → k ≡ Counter n → m ≡ n → name ≡ argument 1 (arguments_at 0 count p d)
      → Runs (raised name m (held (last_reader w b name))) used out w b r out' w' b'
      → Runs (kind_effect k (last_reader w b) (arguments_at 0 count p d)) used out w b r out' w' b'
  unfolding kind_effect counter_effect
  runs_counter e same name_is a =
      as_effect e (λ i. raised (name_is i) (same i) (held (last_reader w b (name_is i)))) a

-- a reply alone: the store that is read is the one that is lent
pub runs_read : (p : List ℕ) (d : Bytes) (count used : ℕ) (k : Kind) {q : Read} {out out' : Bytes} {r : AnswerNumbers} {w b w₁ b₁ : List ℕ} → k ≡ Reads q → w₁ ≡ w → b₁ ≡ b
    → Runs (read_reply q (last_reader w₁ b₁) (arguments_at 0 count p d), []) used out w₁ b₁ r out' w₁ b₁
    → Runs (kind_effect k (last_reader w b) (arguments_at 0 count p d)) used out w b r out' w b
unfolding kind_effect
runs_read p d count used k e w-is b-is a = rw (e, ← w-is, ← b-is) a
