-- Keys added one after another to the watched ones in working memory. Assumes nothing.
use mathlib.Core.Path.{◌≡◌, refl, sym, ap, ◌∙◌, subst}
use mathlib.Core.Bool.{false}
use mathlib.Core.List.{List}
use Prim.Native.Nat.{ℕ, ◌+◌, ◌-◌, ◌<◌, ◌≤◌}
use Rattle.std.specs.Prelude.{Option, None, Some}
use Rattle.base_key.specs.Bytes.{Bytes, part}
use Rattle.base_key.specs.Keys.{Key}
use Rattle.command_spec.specs.Command.{argument}
use Rattle.command_spec.specs.Names.{arguments}
use Rattle.command_spec.specs.Places.{arguments_at}
use Rattle.command_spec.specs.Session.{Watching, watched_keys, add_key, add_keys, watch_fits}
use Rattle.command_spec.specs.Watch.{Holding}
use Rattle.command_spec.proofs.PlaceLaws.{arguments_next, arguments_end, arguments_of, argument_is}
use Rattle.session_memory.proofs.Watching.{add_no_less, adds_no_less, fits_no_more, holding_same, holding_then, held_keys_lem}
use Rattle.session_watch.specs.declared.watch.Watch.{Watch}
use Rattle.session_watch.specs.Grown.{watch_in, Copied, Grown}
use Rattle.session_memory.specs.declared.session.Session.{Session}
use Rattle.session_memory.proofs.WatchCall.{watch_is}
use Rattle.command_spec.specs.Sessions.{session_from}

-- by what adding gave
pub grown_holding : (js : Watching) (old new : Watch) {r : Option Unit} {u : Unit} → Grown js old new r → r ≡ Some u → Holding js old.lens new.lens old.seqs new.seqs old.text new.text new.count new.used
grown_holding js old new g e = subst (Grown js old new) e g

pub grown_full : (js : Watching) (old new : Watch) {r : Option Unit} → Grown js old new r → r ≡ None → watch_fits (watched_keys js) ≡ false
grown_full js old new g e = subst (Grown js old new) e g

-- the arguments of WATCH before place i are added
pub record Growing (last : ℕ) (p : List ℕ) (s : Bytes) (to : ℕ) (old new : Watch) (i : ℕ) : Type 0 where
  pub holding : Holding (watch_in new) old.lens new.lens old.seqs new.seqs old.text new.text new.count new.used
  pub is : add_keys last (arguments (arguments_at 0 to p s)) (watch_in old) ≡ add_keys last (arguments_at i (to - i) p s) (watch_in new)

pub growing_none : (last : ℕ) (p : List ℕ) (s : Bytes) (to : ℕ) (k : Watch) → 1 ≤ to → Growing last p s to k k 1
growing_none last p s to k h = record {
  holding = holding_same k.table;
  is = ap (λ (l : List Key). add_keys last l (watch_in k)) (arguments_of p s to h);
}

module _ {last : ℕ} {p : List ℕ} {s : Bytes} {to : ℕ} {old now : Watch} {i : ℕ} (g : Growing last p s to old now i) where
  module _ (h : i < to) {x : Key} (e : x ≡ argument i (arguments_at 0 to p s)) where
    step_is : add_keys last (arguments (arguments_at 0 to p s)) (watch_in old) ≡ add_keys last (arguments_at (i + 1) (to - (i + 1)) p s) (add_key last x (watch_in now))
    unfolding add_keys
    step_is =
        g.is ∙ ap (λ (l : List Key). add_keys last l (watch_in now)) (arguments_next p s h)
        ∙ ap (λ (y : Key). add_keys last (arguments_at (i + 1) (to - (i + 1)) p s) (add_key last y (watch_in now))) (argument_is p s to i h refl ∙ sym e)

    module _ (new : Watch) {r : Option Unit} (a : Grown (add_key last x (watch_in now)) now new r) where
      pub growing_full : r ≡ None → {o : Option Unit} → o ≡ None → Grown (add_keys last (arguments (arguments_at 0 to p s)) (watch_in old)) old new o
      growing_full n o-is =
          let w : Watching = add_key last x (watch_in now) in
          let rest : List Key = arguments_at (i + 1) (to - (i + 1)) p s in
          subst (Grown (add_keys last (arguments (arguments_at 0 to p s)) (watch_in old)) old new) (sym o-is)
          (ap (λ (y : Watching). watch_fits (watched_keys y)) step_is ∙ fits_no_more (watched_keys w) (watched_keys (add_keys last rest w)) (adds_no_less last rest w) (grown_full w now new a n))

      pub growing_more : {u : Unit} → r ≡ Some u → Growing last p s to old new (i + 1)
      growing_more n =
          let b = grown_holding (add_key last x (watch_in now)) now new a n in
          let d : watch_in new ≡ add_key last x (watch_in now) = held_keys_lem b in
          record {
            holding = subst (λ (js : Watching). Holding js old.lens new.lens old.seqs new.seqs old.text new.text new.count new.used) (sym d) (holding_then g.holding (add_no_less last x (watch_in now)) b);
            is = step_is ∙ ap (add_keys last (arguments_at (i + 1) (to - (i + 1)) p s)) (sym d);
          }

  pub grown_all : to ≤ i → Holding (add_keys last (arguments (arguments_at 0 to p s)) (watch_in old)) old.lens now.lens old.seqs now.seqs old.text now.text now.count now.used
  unfolding add_keys
  grown_all h =
      subst (λ (js : Watching). Holding js old.lens now.lens old.seqs now.seqs old.text now.text now.count now.used)
      (sym (g.is ∙ ap (λ (l : List Key). add_keys last l (watch_in now)) (arguments_end p s h))) g.holding

-- a copy of a session's watched keys, and what adding to it gives
pub copied_is : (s : Session) {k : Watch} → Copied s k → watch_in k ≡ (session_from s.words.now s.bytes.now).watch
copied_is s c = watch_is s.held c.count c.lens c.seqs c.text

pub grown_here : (s : Session) {k : Watch} (n : Watch) (ks : List Key) (last : ℕ) → Copied s k → Holding (add_keys last ks (watch_in k)) k.lens n.lens k.seqs n.seqs k.text n.text n.count n.used
    → Holding (add_keys last ks (session_from s.words.now s.bytes.now).watch) (part 4 32 s.words.now) n.lens (part 36 32 s.words.now) n.seqs (part 0 2048 s.bytes.now) n.text n.count n.used
grown_here s n ks last c h = coe 0 1 (z. Holding (add_keys last ks (copied_is s c z)) (c.lens z) n.lens (c.seqs z) n.seqs (c.text z) n.text n.count n.used) h
