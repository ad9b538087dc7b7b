-- Laws of a watch: it stays ascending, has every key that was added and no other, each from its first sequence on, none above the last; and which of its keys have moved.
use Prim.Native.Nat.{ℕ, ◌≤◌}
use native.Mathlib.Omega.{arith}
use mathlib.Core.List.{List, [], ◌∷◌}
use mathlib.Core.Bool.{Bool, true, false, cond, ◌||◌, ◌&&◌, false≢true, and-false, or-true}
use Rattle.std.specs.Prelude.{Option, None, Some}
use mathlib.Core.Path.{◌≡◌, refl, sym, ap, ◌∙◌}
use lib.Dec.{leb}
use borrow.Author.Tests.{leb-true, le-leb}
use Rattle.base_key.specs.Keys.{Key, compare_keys, key_below, same_key, is_less}
use Rattle.base_key.proofs.Keys.{compare_equal, key_swap, less_is, same_refl, same_is}
use Rattle.base_key.proofs.Bytes.{and_left, and_right, and_both, both_parts, or_none, or_twice, or_swap, or_cases}
use Rattle.store_memtable.specs.Table.{find, Above, Ascending}
use Rattle.store_memtable.proofs.TableLaws.{above_trans, find_above}
use Rattle.store_memtable.specs.Versions.{Version, moved}
use Rattle.group_spec.specs.Group.{any_key, among}
use Rattle.command_spec.specs.Session.{Watching, watched_keys, watched_sequences, add_key, add_keys, any_moved}
use Rattle.command_spec.specs.Sessions.{ascending, ascending_after, none_above}
use Rattle.std.specs.declared.cmp.Ordering.TheVariants.{Less, Equal, Greater}
use Rattle.std.specs.declared.cmp.Ordering.{Ordering}

below : (a b : Key) → compare_keys a b ≡ Less → key_below a b ≡ true
unfolding key_below
below a b e = ap is_less e

module _ (n : ℕ) where
  after_add : (j k : Key) (w : Watching) → key_below j k ≡ true → ascending_after j (watched_keys w) ≡ true → ascending_after j (watched_keys (add_key n k w)) ≡ true
  unfolding add_key ascending_after
  after_add j k [] p o = and_both _ _ p refl
  after_add j k (e ∷ w) p o = go (compare_keys k e.0) refl (λ h. after_add e.0 k w h (and_right (key_below j e.0) (ascending_after e.0 (watched_keys w)) o))
    where
      go : (c : Ordering) → compare_keys k e.0 ≡ c → (key_below e.0 k ≡ true → ascending_after e.0 (watched_keys (add_key n k w)) ≡ true)
          → ascending_after j (watched_keys (add_key n k (e ∷ w))) ≡ true
      go Less q ih = rw (q, add_key) (and_both _ _ p (and_both _ _ (below k e.0 q) (and_right (key_below j e.0) (ascending_after e.0 (watched_keys w)) o)))
      go Equal q ih = rw (q, add_key) o
      go Greater q ih = rw (q, add_key) (and_both _ _ (and_left (key_below j e.0) (ascending_after e.0 (watched_keys w)) o) (ih (below e.0 k (key_swap k e.0 q))))

  ascending_add : (k : Key) (w : Watching) → ascending (watched_keys w) ≡ true → ascending (watched_keys (add_key n k w)) ≡ true
  unfolding add_key ascending_after
  ascending_add k [] o = refl
  ascending_add k (e ∷ w) o = go (compare_keys k e.0) refl
    where
      go : (c : Ordering) → compare_keys k e.0 ≡ c → ascending (watched_keys (add_key n k (e ∷ w))) ≡ true
      go Less q = rw (q, add_key) (and_both _ _ (below k e.0 q) o)
      go Equal q = rw (q, add_key) o
      go Greater q = rw (q, add_key) (after_add e.0 k w (below e.0 k (key_swap k e.0 q)) o)

  pub ascending_adds : (ks : List Key) (w : Watching) → ascending (watched_keys w) ≡ true → ascending (watched_keys (add_keys n ks w)) ≡ true
  unfolding add_keys
  ascending_adds [] w o = o
  ascending_adds (k ∷ ks) w o = ascending_adds ks (add_key n k w) (ascending_add k w o)

  -- which keys are among them
  among_add : (k : Key) (w : Watching) (x : Key) → among (watched_keys (add_key n k w)) x ≡ (same_key k x || among (watched_keys w) x)
  unfolding add_key any_key
  among_add k [] x = refl
  among_add k (e ∷ w) x = go (compare_keys k e.0) refl (among_add k w x)
    where
      go : (c : Ordering) → compare_keys k e.0 ≡ c → among (watched_keys (add_key n k w)) x ≡ (same_key k x || among (watched_keys w) x)
          → among (watched_keys (add_key n k (e ∷ w))) x ≡ (same_key k x || (same_key e.0 x || among (watched_keys w) x))
      go Less q ih = rw (q, add_key)
      go Equal q ih = rw (q, add_key) (rw (compare_equal k e.0 q) (or_twice (same_key e.0 x) (among (watched_keys w) x)))
      go Greater q ih = rw (q, add_key) (rw ih (or_swap (same_key e.0 x) (same_key k x) (among (watched_keys w) x)))

  pub among_adds : (ks : List Key) (w : Watching) (x : Key) → among (watched_keys (add_keys n ks w)) x ≡ (among (watched_keys w) x || among ks x)
  unfolding add_keys any_key
  among_adds [] w x = or_none (among (watched_keys w) x)
  among_adds (k ∷ ks) w x = among_adds ks (add_key n k w) x ∙ rw (among_add k w x) (go (same_key k x) (among (watched_keys w) x) (among ks x))
    where
      go : (a b c : Bool) → ((a || b) || c) ≡ (b || (a || c))
      go true true c = refl
      go true false c = refl
      go false b c = refl

  -- FROM WHICH SEQUENCE ON a key is watched: one that is there keeps its own, one that is new has this one
  abbrev pub carried : Option ℕ → Bool → Option ℕ
  carried (Some m) new = Some m
  carried None new = cond new (Some n) None

  carried_old : (v : Option ℕ) → carried v false ≡ v
  carried_old (Some m) = refl
  carried_old None = refl

  add_carries : (k : Key) (w : Watching) → Ascending w → (x : Key) → find (add_key n k w) x ≡ carried (find w x) (same_key k x)
  unfolding add_key find
  add_carries k [] s x = refl
  add_carries k (e ∷ w) s x = go (compare_keys k e.0) refl (add_carries k w s.1 x)
    where
      before : compare_keys k e.0 ≡ Less → (b : Bool) → same_key k x ≡ b → cond b (Some n) (find (e ∷ w) x) ≡ carried (find (e ∷ w) x) b
      before q true p =
          let a : find (e ∷ w) k ≡ None = find_above k (e ∷ w) (q, above_trans k e.0 w q s.0) in
          sym (ap (λ (v : Option ℕ). carried v true) (ap (find (e ∷ w)) (sym (same_is k x p)) ∙ a))
      before q false p = sym (carried_old (find (e ∷ w) x))

      there : k ≡ e.0 → (b : Bool) → same_key e.0 x ≡ b → cond b (Some e.1) (find w x) ≡ carried (cond b (Some e.1) (find w x)) b
      there q true p = refl
      there q false p = sym (carried_old (find w x))

      behind : (b : Bool) → cond b (Some e.1) (carried (find w x) (same_key k x)) ≡ carried (cond b (Some e.1) (find w x)) (same_key k x)
      behind true = refl
      behind false = refl

      go : (c : Ordering) → compare_keys k e.0 ≡ c → find (add_key n k w) x ≡ carried (find w x) (same_key k x) → find (add_key n k (e ∷ w)) x ≡ carried (find (e ∷ w) x) (same_key k x)
      go Less q ih = rw (q, add_key) (before q (same_key k x) refl)
      go Equal q ih = rw (q, add_key) (rw (compare_equal k e.0 q) (there (compare_equal k e.0 q) (same_key e.0 x) refl))
      go Greater q ih = rw (q, add_key) (rw ih (behind (same_key e.0 x)))

  ordered_after : (j : Key) (w : Watching) → ascending_after j (watched_keys w) ≡ true → Above j w × Ascending w
  unfolding ascending_after key_below
  ordered_after j [] h = (tt, tt)
  ordered_after j (e ∷ w) h =
      let p : compare_keys j e.0 ≡ Less = less_is _ (and_left (key_below j e.0) (ascending_after e.0 (watched_keys w)) h) in
      let r = ordered_after e.0 w (and_right (key_below j e.0) (ascending_after e.0 (watched_keys w)) h) in
      ((p, above_trans j e.0 w p r.0), r)

  ordered : (w : Watching) → ascending (watched_keys w) ≡ true → Ascending w
  ordered [] h = tt
  ordered (e ∷ w) h = ordered_after e.0 w h

  pub adds_carry : (ks : List Key) (w : Watching) → ascending (watched_keys w) ≡ true → (x : Key) → find (add_keys n ks w) x ≡ carried (find w x) (among ks x)
  unfolding add_keys any_key
  adds_carry [] w o x = sym (carried_old (find w x))
  adds_carry (k ∷ ks) w o x =
      adds_carry ks (add_key n k w) (ascending_add k w o) x ∙ ap (λ (v : Option ℕ). carried v (among ks x)) (add_carries k w (ordered w o) x)
      ∙ go (find w x) (same_key k x) (among ks x)
    where
      go : (v : Option ℕ) (a b : Bool) → carried (carried v a) b ≡ carried v (a || b)
      go (Some m) a b = refl
      go None true b = refl
      go None false b = refl

  -- no sequence above the last
  none_add : (k : Key) (w : Watching) → none_above n (watched_sequences w) ≡ true → none_above n (watched_sequences (add_key n k w)) ≡ true
  unfolding add_key none_above
  none_add k [] h = and_both _ _ (le-leb n n (omega arith)) refl
  none_add k (e ∷ w) h = go (compare_keys k e.0) refl (none_add k w (and_right (leb e.1 n) (none_above n (watched_sequences w)) h))
    where
      go : (c : Ordering) → compare_keys k e.0 ≡ c → none_above n (watched_sequences (add_key n k w)) ≡ true → none_above n (watched_sequences (add_key n k (e ∷ w))) ≡ true
      go Less q ih = rw (q, add_key) (and_both _ _ (le-leb n n (omega arith)) h)
      go Equal q ih = rw (q, add_key) h
      go Greater q ih = rw (q, add_key) (and_both _ _ (and_left (leb e.1 n) (none_above n (watched_sequences w)) h) ih)

  pub none_adds : (ks : List Key) (w : Watching) → none_above n (watched_sequences w) ≡ true → none_above n (watched_sequences (add_keys n ks w)) ≡ true
  unfolding add_keys
  none_adds [] w h = h
  none_adds (k ∷ ks) w h = none_adds ks (add_key n k w) (none_add k w h)

pub none_later : (m n : ℕ) (ns : List ℕ) → m ≤ n → none_above m ns ≡ true → none_above n ns ≡ true
unfolding none_above
none_later m n [] h e = refl
none_later m n (a ∷ ns) h e =
    and_both _ _ (le-leb a n (omega (arith, leb-true a m (and_left (leb a m) (none_above m ns) e)))) (none_later m n ns h (and_right (leb a m) (none_above m ns) e))

-- WHICH KEYS HAVE MOVED: the key is watched, and its newest version is above its sequence
unfoldable pub moved_by : List Version → Watching → Key → Bool
moved_by vs [] k = false
moved_by vs (e ∷ w) k = (same_key e.0 k && moved e.1 vs k) || moved_by vs w k

module _ (vs : List Version) where
  -- a watched key that has moved is one of those on which the verdict turns
  pub moved_any : (w : Watching) (k : Key) → moved_by vs w k ≡ true → any_moved vs w ≡ true
  unfolding moved_by any_moved
  moved_any [] k h = absurd (false≢true h)
  moved_any (e ∷ w) k h =
      or_cases (same_key e.0 k && moved e.1 vs k) (moved_by vs w k) h
      (λ p. let b = both_parts (same_key e.0 k) (moved e.1 vs k) p in rw (ap (moved e.1 vs) (same_is e.0 k b.0) ∙ b.1))
      (λ p. rw (moved_any w k p) (or-true (moved e.1 vs e.0)))

  any_moved_keys : (w : Watching) (ks : List Key) → any_key (moved_by vs w) ks ≡ true → any_moved vs w ≡ true
  unfolding any_key
  any_moved_keys w [] h = absurd (false≢true h)
  any_moved_keys w (k ∷ ks) h = or_cases (moved_by vs w k) (any_key (moved_by vs w) ks) h (λ p. moved_any w k p) (λ p. any_moved_keys w ks p)

  any_moved_found : (f : Key → Bool) (w : Watching) → ((k : Key) → moved_by vs w k ≡ true → f k ≡ true) → any_moved vs w ≡ true → any_key f (watched_keys w) ≡ true
  unfolding any_moved any_key moved_by
  any_moved_found f [] g h = absurd (false≢true h)
  any_moved_found f (e ∷ w) g h =
      or_cases (moved e.1 vs e.0) (any_moved vs w) h
      (λ p. rw (g e.0 (rw (same_refl e.0, p))))
      (λ p. rw (any_moved_found f w (λ k q. g k (rw q (or-true (same_key e.0 k && moved e.1 vs k)))) p) (or-true (f e.0)))

  same_test : (a b : Bool) → (a ≡ true → b ≡ true) → (b ≡ true → a ≡ true) → a ≡ b
  same_test true b f g = sym (f refl)
  same_test false true f g = g refl
  same_test false false f g = refl

  pub any_moved_lem : (w : Watching) → any_moved vs w ≡ any_key (moved_by vs w) (watched_keys w)
  any_moved_lem w = same_test _ _ (any_moved_found (moved_by vs w) w (λ k h. h)) (any_moved_keys w (watched_keys w))

  -- a key that is watched from a sequence on since which nothing has moved
  module _ (n : ℕ) (calm : (k : Key) → moved n vs k ≡ false) where
    moved_add : (k : Key) (w : Watching) (x : Key) → moved_by vs (add_key n k w) x ≡ moved_by vs w x
    unfolding add_key moved_by
    moved_add k [] x = rw (calm x, and-false (same_key k x))
    moved_add k (e ∷ w) x = go (compare_keys k e.0) refl (moved_add k w x)
      where
        go : (c : Ordering) → compare_keys k e.0 ≡ c → moved_by vs (add_key n k w) x ≡ moved_by vs w x → moved_by vs (add_key n k (e ∷ w)) x ≡ moved_by vs (e ∷ w) x
        go Less q ih = rw (q, add_key) (rw (calm x, and-false (same_key k x)))
        go Equal q ih = rw (q, add_key)
        go Greater q ih = rw (q, add_key) (rw ih)

    pub moved_adds : (ks : List Key) (w : Watching) (x : Key) → moved_by vs (add_keys n ks w) x ≡ moved_by vs w x
    unfolding add_keys
    moved_adds [] w x = refl
    moved_adds (k ∷ ks) w x = moved_adds ks (add_key n k w) x ∙ moved_add k w x

-- IN A LATER STORE the watched keys that have moved are those that had, and those that have since
module _ (before after : List Version) (last : ℕ) (k : Key) (c : Bool) (more : (n : ℕ) → n ≤ last → moved n after k ≡ (moved n before k || c)) where
  pub moved_later : (w : Watching) → none_above last (watched_sequences w) ≡ true → moved_by after w k ≡ (among (watched_keys w) k && (moved_by before w k || c))
  unfolding moved_by any_key none_above
  moved_later [] h = refl
  moved_later (e ∷ w) h =
      rw (more e.1 (leb-true e.1 last (and_left (leb e.1 last) (none_above last (watched_sequences w)) h)), moved_later w (and_right (leb e.1 last) (none_above last (watched_sequences w)) h))
      (go (same_key e.0 k) (moved e.1 before k) (among (watched_keys w) k) (moved_by before w k) (moved_among w))
    where
      moved_among : (w : Watching) → moved_by before w k ≡ true → among (watched_keys w) k ≡ true
      moved_among [] p = absurd (false≢true p)
      moved_among (e ∷ w) p =
          or_cases (same_key e.0 k && moved e.1 before k) (moved_by before w k) p
          (λ q. rw (both_parts (same_key e.0 k) (moved e.1 before k) q).0)
          (λ q. rw (moved_among w q) (or-true (same_key e.0 k)))

      go : (s m a r : Bool) → (r ≡ true → a ≡ true) → ((s && (m || c)) || (a && (r || c))) ≡ ((s || a) && (((s && m) || r) || c))
      go true true a r f = refl
      go true false true r f = last_two c r
        where
          last_two : (c r : Bool) → (c || (r || c)) ≡ (r || c)
          last_two true r = sym (or-true r)
          last_two false r = refl
      go true false false true f = absurd (false≢true (f refl))
      go true false false false f = sym (or_none c)
      go false m a r f = refl
