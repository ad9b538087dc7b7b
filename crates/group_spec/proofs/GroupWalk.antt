-- The walk of the code, member by member, gives the group of the definitions. Assumes nothing.
use Prim.Native.Nat.{ℕ, suc, ◌+◌, ◌-◌}
use native.Mathlib.Omega.{arith}
use mathlib.Core.Path.{◌≡◌, refl, sym, ap, ◌∙◌, subst}
use mathlib.Core.Bool.{Bool, true, false}
use mathlib.Core.List.{List, [], ◌∷◌, ◌++◌, map}
use lib.Dec.{leb}
use lib.ListN.{length, length-map, take, replicate}
use borrow.Author.Tests.{leb-true, leb-false}
use Rattle.base_key.specs.Bytes.{Bytes}
use Rattle.base_key.specs.Keys.{Key}
use Rattle.base_key.proofs.Bytes.{and_left, and_right}
use Rattle.store_memtable.specs.Versions.{Store}
use Rattle.store_memtable.specs.Rows.{bytes_left}
use Rattle.store_memtable.proofs.VersionLaws.{Sound}
use Rattle.group_spec.specs.declared.Member.{Member}
use Rattle.group_spec.specs.declared.Verdict.{Verdict}
use Rattle.group_spec.specs.declared.Verdict.TheVariants.{NotTaken}
use Rattle.group_spec.specs.Group.{Pending, Finished, judge, written_after, store_after, judge_all, member_size, taken_after, taken, group}
use Rattle.group_spec.specs.Members.{member_inside, members_inside, pending_of}
use Rattle.group_spec.specs.Settling.{sizes_from, as_room, room_after, taken_at, judge_since, step_verdict, step_all}
use Rattle.group_spec.proofs.PartTests.{member_writes}
use Rattle.group_spec.proofs.SizeLaws.{left_rest, left_short, room_then, writes_size_lem}
use Rattle.group_spec.proofs.Since.{Marked, marked_first, marked_after_lem, judge_since_lem}

-- one verdict in front of the others
abbrev finish : Verdict → Finished → Finished
finish v f = record { verdicts = v ∷ f.verdicts; store = f.store }

-- the first n judged, the rest not taken
abbrev split_at : ℕ → List Key → List Pending → Store → Finished
split_at n written ps st = record { verdicts = (judge_all written (take n ps) st).verdicts ++ replicate (length ps - n) NotTaken; store = (judge_all written (take n ps) st).store }

split_none : (written : List Key) (ps : List Pending) (st : Store) → split_at 0 written ps st ≡ record { verdicts = replicate (length ps) NotTaken; store = st }
unfolding judge_all
split_none written ps st = let e : length ps - 0 ≡ length ps = omega arith in ap (λ (k : ℕ). record { verdicts = replicate k NotTaken; store = st }) e

split_more : (n : ℕ) (written : List Key) (p : Pending) (ps : List Pending) (st : Store)
    → split_at (suc n) written (p ∷ ps) st ≡ finish (judge written st p) (split_at n (written_after (judge written st p) p written) ps (store_after (judge written st p) p.writes st))
unfolding judge_all
split_more n written p ps st =
    let v = judge written st p in
    let done = judge_all (written_after v p written) (take n ps) (store_after v p.writes st) in
    let e : suc (length ps) - suc n ≡ length ps - n = omega arith in
    ap (λ (k : ℕ). record { verdicts = v ∷ (done.verdicts ++ replicate k NotTaken); store = done.store }) e

module _ (w : List ℕ) (d : Bytes) (began : ℕ) where
  abbrev pending : Member → Pending
  pending = pending_of w d

  -- no member is taken any more
  step_shut : (j : ℕ) (ms : List Member) (st : Store) → step_all w d began (suc j) 0 ms st ≡ record { verdicts = replicate (length ms) NotTaken; store = st }
  unfolding step_all room_after taken_at step_verdict store_after
  step_shut j [] st = refl
  step_shut j (m ∷ ms) st = ap (finish NotTaken) (step_shut (suc j) ms st)

  size_is : (m : Member) → member_inside w d m ≡ true → sizes_from w m.first_write m.writes ≡ member_size (pending m)
  unfolding pending_of
  size_is m ok = sym (writes_size_lem w d m.first_write m.writes (member_writes w d m ok).parts_in)

  -- a step, where the room after it is known
  step_on : (i room after : ℕ) (m : Member) (ms : List Member) (st : Store) → room_after i room (sizes_from w m.first_write m.writes) ≡ after
      → step_all w d began i room (m ∷ ms) st ≡ finish (step_verdict (taken_at i after) began st (pending m))
      (step_all w d began (suc i) after ms (store_after (step_verdict (taken_at i after) began st (pending m)) (pending m).writes st))
  unfolding step_all
  step_on i room after m ms st e =
      ap (λ (a : ℕ). finish (step_verdict (taken_at i a) began st (pending m)) (step_all w d began (suc i) a ms (store_after (step_verdict (taken_at i a) began st (pending m)) (pending m).writes st))) e

  taken_step : (j room : ℕ) (m : Member) (ms : List Member) (st : Store) (x : ℕ) → room_after (suc j) room (sizes_from w m.first_write m.writes) ≡ suc x
      → step_all w d began (suc j) room (m ∷ ms) st ≡ finish (judge_since began st (pending m)) (step_all w d began (suc (suc j)) (suc x) ms (store_after (judge_since began st (pending m)) (pending m).writes st))
  unfolding taken_at step_verdict
  taken_step j room m ms st x e = step_on (suc j) room (suc x) m ms st e

  shut_step : (j room : ℕ) (m : Member) (ms : List Member) (st : Store) → room_after (suc j) room (sizes_from w m.first_write m.writes) ≡ 0
      → step_all w d began (suc j) room (m ∷ ms) st ≡ finish NotTaken (step_all w d began (suc (suc j)) 0 ms st)
  unfolding taken_at step_verdict store_after
  shut_step j room m ms st e = step_on (suc j) room 0 m ms st e

  first_step : (room : ℕ) (m : Member) (ms : List Member) (st : Store) (s : ℕ) → sizes_from w m.first_write m.writes ≡ s
      → step_all w d began 0 room (m ∷ ms) st ≡ finish (judge_since began st (pending m)) (step_all w d began 1 (as_room (bytes_left 1048576 s)) ms (store_after (judge_since began st (pending m)) (pending m).writes st))
  unfolding taken_at step_verdict room_after
  first_step room m ms st s e = step_on 0 room (as_room (bytes_left 1048576 s)) m ms st (ap (λ (x : ℕ). as_room (bytes_left 1048576 x)) e)

  -- a taken member is judged as the definitions say
  judged_on : (written : List Key) (i after : ℕ) (m : Member) (ms : List Member) (st : Store) → Marked began written st
      → finish (judge_since began st (pending m)) (step_all w d began i after ms (store_after (judge_since began st (pending m)) (pending m).writes st))
      ≡ finish (judge written st (pending m)) (step_all w d began i after ms (store_after (judge written st (pending m)) (pending m).writes st))
  judged_on written i after m ms st k =
      ap (λ (v : Verdict). finish v (step_all w d began i after ms (store_after v (pending m).writes st))) (judge_since_lem began written st (pending m) k)

  -- the members behind the first, where those before have `total` bytes
  walk_on : (j total room : ℕ) (written : List Key) (ms : List Member) (st : Store) → members_inside w d ms ≡ true → Marked began written st → room ≡ as_room (bytes_left 1048576 total)
      → step_all w d began (suc j) room ms st ≡ split_at (taken_after total (map member_size (map pending ms))) written (map pending ms) st
  unfolding members_inside taken_after step_all judge_all as_room
  walk_on j total room written [] st ok k r = refl
  walk_on j total room written (m ∷ ms) st ok k r = go (leb (total + member_size (pending m)) 1048576) refl
      (λ x q. walk_on (suc j) (total + member_size (pending m)) x (written_after (judge written st (pending m)) (pending m) written) ms
      (store_after (judge written st (pending m)) (pending m).writes st) (and_right _ _ ok) (marked_after_lem began written (judge written st (pending m)) (pending m) st k) q)
    where
      in_all : member_inside w d m ≡ true
      in_all = and_left _ _ ok

      after_is : room_after (suc j) room (sizes_from w m.first_write m.writes) ≡ as_room (bytes_left 1048576 (total + member_size (pending m)))
      after_is = (λ z. room_after (suc j) (r z) (size_is m in_all z)) ∙ room_then j 1048576 total (member_size (pending m))

      go : (t : Bool) → leb (total + member_size (pending m)) 1048576 ≡ t
          → ((x : ℕ) → x ≡ as_room (bytes_left 1048576 (total + member_size (pending m)))
          → step_all w d began (suc (suc j)) x ms (store_after (judge written st (pending m)) (pending m).writes st)
          ≡ split_at (taken_after (total + member_size (pending m)) (map member_size (map pending ms))) (written_after (judge written st (pending m)) (pending m) written) (map pending ms)
          (store_after (judge written st (pending m)) (pending m).writes st))
          → step_all w d began (suc j) room (m ∷ ms) st
          ≡ split_at (elim t [ true ↦ suc (taken_after (total + member_size (pending m)) (map member_size (map pending ms))) | false ↦ 0 ]) written (pending m ∷ map pending ms) st
      go true p rest =
          taken_step j room m ms st (1048576 - (total + member_size (pending m))) (after_is ∙ ap as_room (left_rest 1048576 (total + member_size (pending m)) (leb-true _ _ p)))
          ∙ judged_on written (suc (suc j)) (suc (1048576 - (total + member_size (pending m)))) m ms st k
          ∙ ap (finish (judge written st (pending m)))
          (rest (suc (1048576 - (total + member_size (pending m)))) (sym (ap as_room (left_rest 1048576 (total + member_size (pending m)) (leb-true _ _ p)))))
          ∙ sym (split_more (taken_after (total + member_size (pending m)) (map member_size (map pending ms))) written (pending m) (map pending ms) st)
      go false p rest =
          shut_step j room m ms st (after_is ∙ ap as_room (left_short 1048576 (total + member_size (pending m)) (leb-false _ _ p)))
          ∙ ap (finish NotTaken) (step_shut (suc j) ms st ∙ ap (λ (n : ℕ). record { verdicts = replicate n NotTaken; store = st }) (sym (length-map ms pending)))
          ∙ sym (split_none written (pending m ∷ map pending ms) st)

  -- THE GROUP
  pub walk_group : (ms : List Member) (st : Store) → members_inside w d ms ≡ true → Sound st → began ≡ st.last → step_all w d began 0 0 ms st ≡ group (map pending ms) st
  unfolding members_inside group taken step_all judge_all
  walk_group [] st ok s b = refl
  walk_group (m ∷ ms) st ok s b =
      first_step 0 m ms st (member_size (pending m)) (size_is m (and_left _ _ ok))
      ∙ judged_on [] 1 (as_room (bytes_left 1048576 (member_size (pending m)))) m ms st start
      ∙ ap (finish (judge [] st (pending m)))
      (walk_on 0 (member_size (pending m)) (as_room (bytes_left 1048576 (member_size (pending m)))) (written_after (judge [] st (pending m)) (pending m) []) ms
      (store_after (judge [] st (pending m)) (pending m).writes st) (and_right _ _ ok) (marked_after_lem began [] (judge [] st (pending m)) (pending m) st start) refl)
      ∙ sym (split_more (taken_after (member_size (pending m)) (map member_size (map pending ms))) [] (pending m) (map pending ms) st)
    where
      start : Marked began [] st
      start = subst (λ (x : ℕ). Marked x [] st) (sym b) (marked_first st s)
