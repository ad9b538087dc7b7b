-- The walks over a lent group: what holds after i members, from the first turn to the last. Assumes nothing.
use Prim.Native.Nat.{ℕ, suc, ◌<◌}
use native.Mathlib.Omega.{arith}
use mathlib.Core.Path.{◌≡◌, refl, sym, ap, ◌∙◌, subst}
use mathlib.Core.Bool.{Bool, true, false, ◌&&◌}
use mathlib.Core.List.{List, [], ◌∷◌, ◌++◌, map, append-nil, append_assoc}
use lib.ListN.{length, length-map, get_or, drop, set, length-append}
use lib.Seq.{drop-cons, drop-length, set-append_seam}
use Rattle.std.specs.List.{list_all}
use Rattle.base_key.specs.Bytes.{Bytes, ◌and◌, over_front}
use Rattle.base_key.specs.Keys.{Key}
use Rattle.base_key.proofs.Bytes.{and_left, and_right}
use Rattle.store_memtable.specs.Versions.{Store}
use Rattle.store_memtable.specs.Layout.{store_in, leave_words, leave_bytes}
use Rattle.store_memtable.proofs.LayoutLaws.{valid_sound}
use Rattle.store_memtable.proofs.Sequence.{Holds, holds_first, holds_store}
use Rattle.group_spec.specs.declared.Member.{Member}
use Rattle.group_spec.specs.declared.Verdict.{Verdict}
use Rattle.group_spec.specs.Group.{Finished, verdict_byte, written_after, store_after}
use Rattle.group_spec.specs.Members.{member_inside, members_inside, pending_of}
use Rattle.group_spec.specs.Settling.{sizes_from, room_after, taken_at, step_verdict, step_all}
use Rattle.group_spec.specs.Walked.{GroupReady, GroupLeft, group_of}
use Rattle.group_spec.proofs.GroupWalk.{walk_group}
use Rattle.group_spec.proofs.Since.{Marked, marked_first, marked_after_lem}
use Rattle.group_spec.proofs.WalkStep.{holds_step}

-- ALL PARTS INSIDE, by a test of each member
pub inside_listed : (w : List ℕ) (d : Bytes) (ms : List Member) → list_all (member_inside w d) ms ≡ members_inside w d ms
unfolding members_inside ◌and◌
inside_listed w d [] = refl
inside_listed w d (m ∷ ms) = go (member_inside w d m) (inside_listed w d ms)
  where
    go : (t : Bool) → list_all (member_inside w d) ms ≡ members_inside w d ms → t && list_all (member_inside w d) ms ≡ t and members_inside w d ms
    go true ih = ih
    go false ih = refl

-- SETTLED. Verdicts in front of those that follow
abbrev onto : List Verdict → Finished → Finished
onto vs f = record { verdicts = vs ++ f.verdicts; store = f.store }

-- one byte more behind those written over the front
over_more : (f l : List ℕ) (y : ℕ) → length f < length l → set (over_front f l) (length f) y ≡ over_front (f ++ (y ∷ [])) l
unfolding over_front
over_more f l y h =
    ap (λ (r : List ℕ). set (f ++ r) (length f) y) (drop-cons l (length f) 0 h)
    ∙ set-append_seam f (get_or l (length f) 0) (drop (suc (length f)) l) y
    ∙ sym (append_assoc f (y ∷ []) (drop (suc (length f)) l))
    ∙ ap (λ (k : ℕ). (f ++ (y ∷ [])) ++ drop k l) (sym (long f))
  where
    long : (f : List ℕ) → length (f ++ (y ∷ [])) ≡ suc (length f)
    long [] = refl
    long (x ∷ xs) = ap suc (long xs)

map_more : (vs : List Verdict) (v : Verdict) → map verdict_byte (vs ++ (v ∷ [])) ≡ map verdict_byte vs ++ (verdict_byte v ∷ [])
map_more [] v = refl
map_more (x ∷ vs) v = ap (λ (l : List ℕ). verdict_byte x ∷ l) (map_more vs v)

-- i members are settled, and the others follow from the words, bytes and verdict bytes as they stand
pub record Walking (ms : List Member) (began : ℕ) (parts : List ℕ) (d : Bytes) (w₀ b₀ v₀ : List ℕ) (i room : ℕ) (w b v : List ℕ) : Type 0 where
  pub store : Store
  pub written : List Key
  pub settled : List Verdict
  pub holds : Holds store w₀ b₀ w b
  pub marked : Marked began written store
  pub count : length settled ≡ i
  pub rest : step_all parts d began 0 0 ms (store_in w₀ b₀) ≡ onto settled (step_all parts d began i room (drop i ms) store)
  pub behind : members_inside parts d (drop i ms) ≡ true
  pub front : v ≡ over_front (map verdict_byte settled) v₀

module _ {ms : List Member} {began : ℕ} {parts : List ℕ} {d : Bytes} {w₀ b₀ v₀ : List ℕ} where
  pub walking_first : GroupReady ms began parts d w₀ b₀ v₀ → Walking ms began parts d w₀ b₀ v₀ 0 0 w₀ b₀ v₀
  unfolding over_front store_in
  walking_first g = record {
    store = store_in w₀ b₀;
    written = [];
    settled = [];
    holds = holds_first w₀ b₀ g.valid_store;
    marked = subst (λ (n : ℕ). Marked n [] (store_in w₀ b₀)) (sym g.began_is) (marked_first (store_in w₀ b₀) (valid_sound w₀ b₀ g.valid_store.valid));
    count = refl;
    rest = refl;
    behind = g.all_inside;
    front = refl;
  }

  module _ {i room : ℕ} {w b v : List ℕ} (k : Walking ms began parts d w₀ b₀ v₀ i room w b v) where
    pub walking_inside : (m₀ : Member) → i < length ms → member_inside parts d (get_or ms i m₀) ≡ true
    unfolding members_inside
    walking_inside m₀ h = and_left _ _ (sym (ap (members_inside parts d) (drop-cons ms i m₀ h)) ∙ k.behind)

    -- one member more
    module _ (m₀ : Member) (g : GroupReady ms began parts d w₀ b₀ v₀) (h : i < length ms) {r : ℕ} {w' b' v' : List ℕ}
        (r-is : r ≡ room_after i room (sizes_from parts (get_or ms i m₀).first_write (get_or ms i m₀).writes))
        (v-is : v' ≡ set v i (verdict_byte (step_verdict (taken_at i r) began (store_in w b) (pending_of parts d (get_or ms i m₀)))))
        (w-is : w' ≡ leave_words (store_after (step_verdict (taken_at i r) began (store_in w b) (pending_of parts d (get_or ms i m₀))) (pending_of parts d (get_or ms i m₀)).writes (store_in w b)) w)
        (b-is : b' ≡ leave_bytes (store_after (step_verdict (taken_at i r) began (store_in w b) (pending_of parts d (get_or ms i m₀))) (pending_of parts d (get_or ms i m₀)).writes (store_in w b)) b) where
      abbrev m : Member
      m = get_or ms i m₀

      abbrev verdict : Verdict
      verdict = step_verdict (taken_at i r) began k.store (pending_of parts d m)

      abbrev after : Store
      after = store_after verdict (pending_of parts d m).writes k.store

      -- the walk by its next member
      step_is : step_all parts d began i room (drop i ms) k.store ≡ onto (verdict ∷ []) (step_all parts d began (suc i) r (drop (suc i) ms) after)
      unfolding step_all
      step_is =
          ap (λ (l : List Member). step_all parts d began i room l k.store) (drop-cons ms i m₀ h)
          ∙ ap (λ (x : ℕ). onto (step_verdict (taken_at i x) began k.store (pending_of parts d m) ∷ [])
          (step_all parts d began (suc i) x (drop (suc i) ms) (store_after (step_verdict (taken_at i x) began k.store (pending_of parts d m)) (pending_of parts d m).writes k.store))) (sym r-is)

      byte_is : v' ≡ over_front (map verdict_byte (k.settled ++ (verdict ∷ []))) v₀
      byte_is =
          v-is ∙ ap (λ (st : Store). set v i (verdict_byte (step_verdict (taken_at i r) began st (pending_of parts d m)))) (holds_store k.holds)
          ∙ (λ z. set (k.front z) (place z) (verdict_byte verdict))
          ∙ over_more (map verdict_byte k.settled) v₀ (verdict_byte verdict) (omega (arith, place, g.verdicts_hold, h))
          ∙ ap (λ (l : List ℕ). over_front l v₀) (sym (map_more k.settled verdict))
        where
          place : i ≡ length (map verdict_byte k.settled)
          place = sym k.count ∙ sym (length-map k.settled verdict_byte)

      one_more : length (k.settled ++ (verdict ∷ [])) ≡ suc i
      one_more = let e = length-append k.settled (verdict ∷ []) in omega (arith, k.count)

      pub walking_more : Walking ms began parts d w₀ b₀ v₀ (suc i) r w' b' v'
      unfolding members_inside
      walking_more = record {
        store = after;
        written = written_after verdict (pending_of parts d m) k.written;
        settled = k.settled ++ (verdict ∷ []);
        holds = holds_step k.holds began k.written k.marked (taken_at i r) (pending_of parts d m) w-is b-is;
        marked = marked_after_lem began k.written verdict (pending_of parts d m) k.store k.marked;
        count = one_more;
        rest = k.rest ∙ ap (onto k.settled) step_is
            ∙ ap (λ (l : List Verdict). record { verdicts = l; store = (step_all parts d began (suc i) r (drop (suc i) ms) after).store })
            (sym (append_assoc k.settled (verdict ∷ []) (step_all parts d began (suc i) r (drop (suc i) ms) after).verdicts));
        behind = and_right _ _ (sym (ap (members_inside parts d) (drop-cons ms i m₀ h)) ∙ k.behind);
        front = byte_is;
      }

  -- all members
  module _ {room : ℕ} {w b v : List ℕ} (k : Walking ms began parts d w₀ b₀ v₀ (length ms) room w b v) (g : GroupReady ms began parts d w₀ b₀ v₀) where
    no_more : step_all parts d began (length ms) room (drop (length ms) ms) k.store ≡ record { verdicts = []; store = k.store }
    unfolding step_all
    no_more = ap (λ (l : List Member). step_all parts d began (length ms) room l k.store) (drop-length ms)

    start_last : began ≡ (store_in w₀ b₀).last
    unfolding store_in
    start_last = g.began_is

    all_settled : record { verdicts = k.settled; store = k.store } ≡ group_of ms parts d w₀ b₀
    all_settled =
        ap (λ (l : List Verdict). record { verdicts = l; store = k.store }) (sym (append-nil k.settled))
        ∙ sym (k.rest ∙ ap (onto k.settled) no_more)
        ∙ walk_group parts d began ms (store_in w₀ b₀) g.all_inside (valid_sound w₀ b₀ g.valid_store.valid) start_last

    pub walking_end : GroupLeft ms parts d w₀ b₀ v₀ w b v
    walking_end = record {
      words_left = k.holds.words_are ∙ ap (λ (f : Finished). leave_words f.store w₀) all_settled;
      bytes_left = k.holds.bytes_are ∙ ap (λ (f : Finished). leave_bytes f.store b₀) all_settled;
      verdicts_left = k.front ∙ ap (λ (f : Finished). over_front (map verdict_byte f.verdicts) v₀) all_settled;
    }
