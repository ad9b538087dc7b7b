-- A command by what it means: from its effect, or from its listing, to what a call outside MULTI gives. Assumes nothing.
use Prim.Native.Nat.{ℕ}
use mathlib.Core.Path.{◌≡◌, refl, sym, ap, ◌∙◌, subst}
use mathlib.Core.List.{List, []}
use lib.ListN.{length}
use Rattle.base_key.specs.Bytes.{Bytes}
use Rattle.store_memtable.specs.Layout.{store_in}
use Rattle.command_spec.specs.Numbers.{AnswerNumbers}
use Rattle.command_spec.specs.Names.{Args, row_of, name_word, arguments}
use Rattle.command_spec.specs.Command.{Command, FIXED, Effect, Executed, runs, lists, request_operation, command_as, executed_of, run}
use Rattle.command_spec.specs.Session.{Session, direct}
use Rattle.command_spec.specs.Finish.{Served, finish, Says, StoreLeft}
use Rattle.command_spec.specs.Places.{arguments_at}
use Rattle.command_meaning.specs.declared.Listing.{Listing as CodeListing}
use Rattle.command_meaning.specs.declared.Refusal.{Refusal}
use Rattle.command_meaning.specs.declared.Executed.{Executed as CodeExecuted}
use Rattle.command_meaning.specs.declared.Executed.TheVariants as executed
use Rattle.command_meaning.specs.declared.Kind.{Kind}
use Rattle.command_meaning.specs.Meant.{listing_meant, refusal_reply, executed_meant, ListingCounted, Counted, ExecutedIs}
use Rattle.command_meaning.specs.Kinds.{kind_effect, KindCounted, KindIs}
use Rattle.command_room.specs.Reading.{last_reader}
use Rattle.command_room.specs.Served.{effect_served, Runs, Answers}

-- a command is served by its effect
served_effect : (c : Command) (w b : List ℕ) (room used : ℕ) (s : Session)
    → effect_served room used (run (last_reader w b) c) (store_in w b) s ≡ finish room used (direct (runs c) (store_in w b) s) (store_in w b) s
unfolding effect_served direct last_reader store_in
served_effect c w b room used s = refl

-- the argument count
module _ {a : Args} {count : ℕ} {e : CodeExecuted} (x : ExecutedIs a count e) where
  kind_here : {k : Kind} → e ≡ executed.Runs k → KindIs (request_operation a) a count k
  unfolding Counted
  kind_here e-is = subst (λ (t : CodeExecuted). Counted (row_of (name_word a)).name t a count) e-is x.counted

  pub run_counted : {k : Kind} → e ≡ executed.Runs k → KindCounted k count
  run_counted e-is = (kind_here e-is).counted

  pub list_counted : {l : CodeListing} → e ≡ executed.Lists l → ListingCounted l count
  unfolding Counted
  list_counted e-is = subst (λ (t : CodeExecuted). Counted (row_of (name_word a)).name t a count) e-is x.counted

  meant_here : {t : CodeExecuted} → e ≡ t → executed_of a ≡ executed_meant (row_of (name_word a)).name t a
  meant_here e-is = x.is ∙ ap (λ (t : CodeExecuted). executed_meant (row_of (name_word a)).name t a) e-is

-- THE CALL
module _ (p : List ℕ) (d : Bytes) (count used : ℕ) (w b : List ℕ) {e : CodeExecuted} {out out' : Bytes} {r : AnswerNumbers} {w' b' : List ℕ}
    (x : ExecutedIs (arguments_at 0 count p d) count e) where
  -- a command by its effect
  by_effect : (c : Command) → executed_of (arguments_at 0 count p d) ≡ runs c → {t : Effect} → t ≡ run (last_reader w b) c → Runs t used out w b r out' w' b'
      → Answers (executed_of (arguments_at 0 count p d)) used out w b r out' w' b'
  by_effect c is {t} effect a =
      let same : (s : Session) → effect_served (length out) used t (store_in w b) s ≡ finish (length out) used (direct (executed_of (arguments_at 0 count p d)) (store_in w b) s) (store_in w b) s =
      λ s. ap (λ (t : Effect). effect_served (length out) used t (store_in w b) s) effect ∙ served_effect c w b (length out) used s
      ∙ ap (λ (t : Executed). finish (length out) used (direct t (store_in w b) s) (store_in w b) s) (sym is) in
      record {
        says = λ s. subst (λ (y : Served). Says y out r out') (same s) (a.says s);
        left = λ s. subst (λ (y : Served). StoreLeft y w b w' b') (same s) (a.left s);
      }

  pub run_answers : {k : Kind} → e ≡ executed.Runs k → Runs (kind_effect k (last_reader w b) (arguments_at 0 count p d)) used out w b r out' w' b' → Answers (executed_of (arguments_at 0 count p d)) used out w b r out' w' b'
  unfolding executed_meant
  run_answers e-is a = by_effect (command_as (request_operation (arguments_at 0 count p d)) (arguments (arguments_at 0 count p d))) (meant_here x e-is) (sym ((kind_here x e-is).effect (last_reader w b))) a

  pub refusal_answers : {f : Refusal} → e ≡ executed.Refused f → Runs (refusal_reply f (arguments_at 0 count p d), []) used out w b r out' w' b' → Answers (executed_of (arguments_at 0 count p d)) used out w b r out' w' b'
  unfolding executed_meant run
  refusal_answers {f} e-is a = by_effect (FIXED (refusal_reply f (arguments_at 0 count p d))) (meant_here x e-is) refl a

-- a listing leaves the store: the one that is read is the one that is lent
pub list_answers : (p : List ℕ) (d : Bytes) (count used : ℕ) {e : CodeExecuted} {out out' : Bytes} {r : AnswerNumbers} {w b w₁ b₁ : List ℕ} {l : CodeListing}
    → ExecutedIs (arguments_at 0 count p d) count e → w₁ ≡ w → b₁ ≡ b → e ≡ executed.Lists l → Answers (lists (listing_meant l (arguments_at 0 count p d))) used out w₁ b₁ r out' w₁ b₁
    → Answers (executed_of (arguments_at 0 count p d)) used out w b r out' w b
unfolding executed_meant
list_answers p d count used x w-is b-is e-is a = rw (meant_here x e-is, ← w-is, ← b-is) a
