-- One queued command, from what the function of its kind leaves. Assumes nothing.
use Prim.Native.Nat.{ℕ, ◌-◌}
use native.Mathlib.Omega.{arith}
use mathlib.Core.Path.{◌≡◌, refl, sym, ap, ◌∙◌, subst}
use mathlib.Core.List.{List}
use lib.IntN.{ℤ}
use lib.ListN.{take}
use Rattle.base_key.specs.Bytes.{Bytes}
use Rattle.base_writing.specs.Puts.{Adds}
use Rattle.resp_spec.specs.Reply.{encode}
use Rattle.store_memtable.specs.Table.{Reader, last_writes}
use Rattle.command_spec.specs.Command.{Effect, request_operation, command_of, run}
use Rattle.command_spec.specs.Places.{arguments_at}
use Rattle.command_writes.specs.Own.{own_writes, Own, reader_of}
use Rattle.exec_queued.specs.declared.Walked.{Walked}
use Rattle.command_meaning.specs.declared.Read.{Read}
use Rattle.command_meaning.specs.declared.Kind.{Kind}
use Rattle.command_meaning.specs.declared.Kind.TheVariants.{Pairs, Tombstones, Counter, Reads}
use Rattle.command_meaning.specs.Kinds.{read_reply, pairs_effect, tombstones_effect, counter_effect, kind_effect, KindIs}
use Rattle.exec_queued.specs.Walks.{Ran, Advanced}
use Rattle.std.specs.Prelude.{Option}

module _ (seq : ℕ) (w : List ℕ) (b : Bytes) (p : List ℕ) (count : ℕ) (own : List ℕ) (d : Bytes) (a : Walked) where
  -- the same effect under another name
  renamed : {e e' : Effect} {own' : List ℕ} {out d' out' : Bytes} {r : Walked} → e ≡ e' → Advanced e' (count - 1) own d out a own' d' out' r → Advanced e (count - 1) own d out a own' d' out' r
  renamed {e} {e'} {own'} {out} {d'} {out'} {r} same x = subst (λ (t : Effect). Advanced t (count - 1) own d out a own' d' out' r) (sym same) x

  -- a command that leaves the data
  kept_data : {e : Effect} {own' : List ℕ} {out out' : Bytes} {r : Walked} → Ran e (count - 1) (take a.used d) own out a own' out' r
      → Advanced e (count - 1) own d out a own' d out' r
  kept_data {e} {own'} {out} {out'} {r} x = record {
    kept = subst (λ (n : ℕ). Own own' (take n d) r.rows) (sym x.used_is) x.kept;
    writes = ap (λ (n : ℕ). own_writes own' (take n d) r.rows) x.used_is ∙ x.writes;
    few = x.few;
    data_kept = refl;
    used_more = omega (arith, x.used_is);
    used_few = omega (arith, x.used_is);
    adds = x.adds;
    same = x.same;
    same_data = refl;
  }

  module _ {k : Kind} (i : KindIs (request_operation (arguments_at 0 count p (take a.used d))) (arguments_at 0 count p (take a.used d)) count k) where
    effect_as : {t : Kind} (r : Reader) → k ≡ t → run r (command_of (arguments_at 0 count p (take a.used d))) ≡ kind_effect t r (arguments_at 0 count p (take a.used d))
    unfolding command_of
    effect_as r e = i.effect r ∙ ap (λ (x : Kind). kind_effect x r (arguments_at 0 count p (take a.used d))) e

    pub queued_pairs : {own' : List ℕ} {out out' : Bytes} {r : Walked} → k ≡ Pairs
        → Ran (pairs_effect (arguments_at 0 count p (take a.used d))) (count - 1) (take a.used d) own out a own' out' r
        → Advanced (run (reader_of own (take a.used d) a.rows w b seq) (command_of (arguments_at 0 count p (take a.used d)))) (count - 1) own d out a own' d out' r
    unfolding kind_effect
    queued_pairs e x = renamed (effect_as (reader_of own (take a.used d) a.rows w b seq) e) (kept_data x)

    pub queued_tombstones : {own' : List ℕ} {out out' : Bytes} {r : Walked} → k ≡ Tombstones
        → Ran (tombstones_effect (reader_of own (take a.used d) a.rows w b seq) (arguments_at 0 count p (take a.used d))) (count - 1) (take a.used d) own out a own' out' r
        → Advanced (run (reader_of own (take a.used d) a.rows w b seq) (command_of (arguments_at 0 count p (take a.used d)))) (count - 1) own d out a own' d out' r
    unfolding kind_effect
    queued_tombstones e x = renamed (effect_as (reader_of own (take a.used d) a.rows w b seq) e) (kept_data x)

    pub queued_counter : {n m : ℤ} {own' : List ℕ} {out d' out' : Bytes} {r : Walked} → k ≡ Counter n → m ≡ n
        → Advanced (counter_effect m (reader_of own (take a.used d) a.rows w b seq) (arguments_at 0 count p (take a.used d))) (count - 1) own d out a own' d' out' r
        → Advanced (run (reader_of own (take a.used d) a.rows w b seq) (command_of (arguments_at 0 count p (take a.used d)))) (count - 1) own d out a own' d' out' r
    unfolding kind_effect
    queued_counter e same x =
        renamed (effect_as (reader_of own (take a.used d) a.rows w b seq) e
        ∙ ap (λ (z : ℤ). counter_effect z (reader_of own (take a.used d) a.rows w b seq) (arguments_at 0 count p (take a.used d))) (sym same)) x

    pub queued_read : {q : Read} {out out' : Bytes} {next : Option ℕ} → Own own (take a.used d) a.rows → k ≡ Reads q
        → Adds (encode (read_reply q (reader_of own (take a.used d) a.rows w b seq) (arguments_at 0 count p (take a.used d)))) a.put out next out'
        → Advanced (run (reader_of own (take a.used d) a.rows w b seq) (command_of (arguments_at 0 count p (take a.used d)))) (count - 1) own d out a own d out' (record { rows = a.rows; used = a.used; put = next })
    unfolding kind_effect last_writes
    queued_read o e s =
        renamed (effect_as (reader_of own (take a.used d) a.rows w b seq) e)
        (record {
          kept = o;
          writes = refl;
          few = omega arith;
          data_kept = refl;
          used_more = omega arith;
          used_few = omega arith;
          adds = s;
          same = refl;
          same_data = refl;
        })
