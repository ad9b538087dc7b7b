-- Laws of keys among a list of keys. Assumes nothing.
use Prim.Native.Nat.{ℕ}
use native.Mathlib.Omega.{arith}
use mathlib.Core.List.{List, [], ◌∷◌, ◌++◌}
use mathlib.Core.Bool.{Bool, true, false, ◌||◌, false≢true, or_assoc, or-true, or-false}
use mathlib.Core.Path.{◌≡◌, refl, sym, ap, ◌∙◌}
use Rattle.base_key.specs.Keys.{Key, compare_keys, same_key}
use Rattle.base_key.proofs.Keys.{compare_equal, same_refl, same_is}
use Rattle.base_key.proofs.Bytes.{neither, or_cases, or_twice, or_swap}
use Rattle.store_memtable.specs.Table.{Value, Write, keys_of, update, last_writes}
use Rattle.store_memtable.proofs.TableLaws.{step, update_step}
use Rattle.std.specs.Prelude.{Option, Some}
use Rattle.group_spec.specs.Group.{any_key, among}
use Rattle.std.specs.declared.cmp.Ordering.TheVariants.{Less, Equal, Greater}
use Rattle.std.specs.declared.cmp.Ordering.{Ordering}

pub any_append : (f : Key → Bool) (a b : List Key) → any_key f (a ++ b) ≡ (any_key f a || any_key f b)
unfolding any_key
any_append f [] b = refl
any_append f (x ∷ a) b = ap (λ (c : Bool). f x || c) (any_append f a b) ∙ sym (or_assoc (f x) (any_key f a) (any_key f b))

pub among_append : (a b : List Key) (k : Key) → among (a ++ b) k ≡ (among a k || among b k)
among_append a b k = any_append (λ j. same_key j k) a b

-- what holds of no key of a list does not hold of one among them
pub none_among : (f : Key → Bool) (ks : List Key) (k : Key) → any_key f ks ≡ false → among ks k ≡ true → f k ≡ false
unfolding any_key
none_among f [] k n c = let z : ◌≡◌ {A = ℕ} 0 1 = cc in absurd (omega arith)
none_among f (x ∷ ks) k n c = go (same_key x k) refl (f x) refl n c (λ a b. none_among f ks k a b)
  where
    go : (s : Bool) → same_key x k ≡ s → (b : Bool) → f x ≡ b → (b || any_key f ks) ≡ false → (s || among ks k) ≡ true
        → (any_key f ks ≡ false → among ks k ≡ true → f k ≡ false) → f k ≡ false
    go s p true q n c ih = let z : ◌≡◌ {A = ℕ} 0 1 = cc in absurd (omega arith)
    go true p false q n c ih = rw (← (same_is x k p)) q
    go false p false q n c ih = ih n c

-- so a test of any key turns on which keys there are alone
one_among : (f : Key → Bool) (ks : List Key) (k : Key) → among ks k ≡ true → f k ≡ true → any_key f ks ≡ true
one_among f ks k c e = go (any_key f ks) refl
  where
    go : (b : Bool) → any_key f ks ≡ b → any_key f ks ≡ true
    go true p = p
    go false p = neither e (none_among f ks k p c)

any_within : (f : Key → Bool) (a b : List Key) → ((k : Key) → among a k ≡ true → among b k ≡ true) → any_key f a ≡ true → any_key f b ≡ true
unfolding any_key
any_within f [] b h e = absurd (false≢true e)
any_within f (k ∷ a) b h e =
    or_cases (f k) (any_key f a) e
    (λ x. one_among f b k (h k (rw (same_refl k))) x)
    (λ x. any_within f a b (λ j c. h j (rw c (or-true (same_key k j)))) x)

pub any_same : (f : Key → Bool) (a b : List Key) → ((k : Key) → among a k ≡ among b k) → any_key f a ≡ any_key f b
any_same f a b h = go (any_key f a) (any_key f b) (any_within f a b (λ k c. sym (h k) ∙ c)) (any_within f b a (λ k c. h k ∙ c))
  where
    go : (x y : Bool) → (x ≡ true → y ≡ true) → (y ≡ true → x ≡ true) → x ≡ y
    go true y p q = sym (p refl)
    go false true p q = q refl
    go false false p q = refl

-- tests alike on every key
pub any_alike : (f g : Key → Bool) (ks : List Key) → ((k : Key) → f k ≡ g k) → any_key f ks ≡ any_key g ks
unfolding any_key
any_alike f g [] h = refl
any_alike f g (k ∷ ks) h = rw (h k, any_alike f g ks h)

-- one write per key: the keys are the same
any_update : (f : Key → Bool) (k : Key) (v : Option Value) (done : List Write) → any_key f (keys_of (update k (Some v) done)) ≡ (f k || any_key f (keys_of done))
unfolding any_key update step
any_update f k v [] = refl
any_update f k v (e ∷ done) = rw (update_step k (Some v) e done) (go (compare_keys k e.0) refl (any_update f k v done))
  where
    go : (o : Ordering) → compare_keys k e.0 ≡ o → any_key f (keys_of (update k (Some v) done)) ≡ (f k || any_key f (keys_of done))
        → any_key f (keys_of (step o k (Some v) e done)) ≡ (f k || (f e.0 || any_key f (keys_of done)))
    go Less p ih = refl
    go Equal p ih = rw (← (compare_equal k e.0 p)) (or_twice (f k) (any_key f (keys_of done)))
    go Greater p ih = rw ih (or_swap (f e.0) (f k) (any_key f (keys_of done)))

pub any_last : (f : Key → Bool) (done ws : List Write) → any_key f (keys_of (last_writes done ws)) ≡ (any_key f (keys_of ws) || any_key f (keys_of done))
unfolding any_key last_writes
any_last f done [] = refl
any_last f done (w ∷ ws) =
    any_last f (update w.0 (Some w.1) done) ws
    ∙ ap (λ (b : Bool). any_key f (keys_of ws) || b) (any_update f w.0 w.1 done)
    ∙ or_swap (any_key f (keys_of ws)) (f w.0) (any_key f (keys_of done))
    ∙ sym (or_assoc (f w.0) (any_key f (keys_of ws)) (any_key f (keys_of done)))

pub any_last_all : (f : Key → Bool) (ws : List Write) → any_key f (keys_of (last_writes [] ws)) ≡ any_key f (keys_of ws)
unfolding any_key
any_last_all f ws = any_last f [] ws ∙ or-false (any_key f (keys_of ws))

pub among_last : (ws done : List Write) (k : Key) → (among (keys_of ws) k || among (keys_of done) k) ≡ true → among (keys_of (last_writes done ws)) k ≡ true
among_last ws done k h = any_last (λ j. same_key j k) done ws ∙ h
