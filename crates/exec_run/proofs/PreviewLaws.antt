-- A preview of EXEC, from what is decided. Assumes nothing.
use Prim.Native.Nat.{ℕ, ◌+◌, ◌^◌, ◌<◌}
use mathlib.Core.Path.{◌≡◌, refl, sym, ap, ◌∙◌, subst}
use mathlib.Core.Bool.{Bool, true, false, cond}
use mathlib.Core.List.{List, []}
use Rattle.std.specs.Prelude.{Option, None, Some, Ok, Err}
use borrow.Author.Tests.{eqb-true}
use Rattle.group_spec.specs.declared.Verdict.{Verdict}
use Rattle.command_spec.specs.declared.CallError.{CallError}
use Rattle.command_spec.specs.Numbers.{error_number}
use Rattle.exec_decision.proofs.Executes.{error_numbered, preview_refused}
use Rattle.exec_finish.specs.declared.Prepared.{Prepared}
use lib.Dec.{eqb}
use lib.ListN.{length, get_or, take, replicate}
use Rattle.base_key.specs.Bytes.{Bytes, bytes}
use Rattle.base_writing.specs.Puts.{Puts}
use Rattle.resp_spec.specs.Reply.{encode, err}
use Rattle.store_memtable.specs.Layout.{last_word, store_in}
use Rattle.store_memtable.specs.Rows.{Valid}
use Rattle.group_spec.specs.declared.Verdict.TheVariants.{NotTaken}
use Rattle.command_spec.specs.declared.Fixed.TheVariants.{ExecAlone}
use Rattle.command_spec.specs.Names.{Args}
use Rattle.command_spec.specs.Errors.{fixed_reply}
use Rattle.command_spec.specs.Sessions.{queue_in, session_from, yes?}
use Rattle.command_writes.proofs.Growing.{own_count}
use Rattle.exec_decision.specs.Numbers.{PreviewNumbers, preview_numbers}
use Rattle.exec_decision.specs.Decided.{Decided, decided_reply, decide_by, decide_exec, refused_preview, preview_decided}
use Rattle.exec_finish.specs.Numbers.{PreparedNumbers, prepared_numbers}
use Rattle.exec_finish.specs.Deciding.{prepared_by, Decides}
use Rattle.exec_finish.proofs.DecideLaws.{decides_prepared}
use Rattle.exec_run.specs.Execution.{exec_decided, BeforeQueue}
use Rattle.exec_run.specs.Previewing.{preview_prepared, session_decided, Previews}

-- What is prepared tells what is decided
pub previews : (f : Decided) (w : List ℕ) (out own d : Bytes) {p : PreparedNumbers} {r : PreviewNumbers} {out' : Bytes} → Decides f w out own d p out' → r ≡ preview_prepared (last_word w) p
    → Previews (last_word w) f out r out'
unfolding preview_prepared preview_decided
previews f w out own d {p} {r} {out'} k e = record {
  preview = e ∙ (λ z. cond (eqb (k.number z) 0) (record { number = 0; verdict = k.verdict z; reply = k.size z; last = last_word w + rows_are z }) (refused_preview (k.number z)));
  reply = k.reply;
}
  where
    rows_are : p.rows ≡ length f.writes
    rows_are = sym (own_count own (take p.end d) p.rows) ∙ ap length k.writes

-- an error tells its number
preview_error : (last : ℕ) (e : CallError) → preview_numbers (Err e) ≡ preview_prepared last (prepared_numbers (Err e))
unfolding preview_prepared
preview_error last e = go (eqb (error_number e) 0) refl
  where
    go : (t : Bool) → eqb (error_number e) 0 ≡ t → preview_numbers (Err e) ≡ cond t (record { number = 0; verdict = 255; reply = 0; last = last + 0 }) (refused_preview (error_number e))
    go true q = absurd (error_numbered e (eqb-true (error_number e) 0 q))
    go false q = preview_refused e

pub previews_error : (f : Decided) (w : List ℕ) (out own d : Bytes) (e : CallError) {out' : Bytes} → Decides f w out own d (prepared_numbers (Err e)) out'
    → Previews (last_word w) f out (preview_numbers (Err e)) out'
previews_error f w out own d e k = previews f w out own d k (preview_error (last_word w) e)

-- before the queue
module _ (s : List ℕ) (sb : Bytes) (w b : List ℕ) (out : Bytes) {mid : Bytes} where
  pub known_error : (e : CallError) → BeforeQueue s sb w b out (Some (prepared_numbers (Err e))) mid → Previews (last_word w) (exec_decided (length out) s sb w b) out (preview_numbers (Err e)) mid
  known_error e k = previews_error (exec_decided (length out) s sb w b) w out [] [] e (k.known _ refl [] [])

  module _ (p : Prepared Verdict) (k : BeforeQueue s sb w b out (Some (prepared_numbers (Ok p))) mid) where
    pub previews_known : {r : PreviewNumbers} → r ≡ preview_prepared (last_word w) (prepared_numbers (Ok p)) → Previews (last_word w) (exec_decided (length out) s sb w b) out r mid
    previews_known r-is = previews (exec_decided (length out) s sb w b) w out [] [] (k.known _ refl [] []) r-is

    pub known_room : last_word w + p.rows < 2 ^ 64
    known_room = (k.known _ refl [] []).room.seqs_free

module _ (s : List ℕ) (sb : Bytes) (w b : List ℕ) (out : Bytes) where
  -- without MULTI
  module _ {put : Option ℕ} {mid : Bytes} (ok : Valid w b) (h : last_word w < 2 ^ 64) (z : out ≡ replicate (length out) 0) (puts : Puts (encode (fixed_reply ExecAlone)) out put mid) where
    alone_decides : {p : PreparedNumbers} → p ≡ prepared_by put 255 0 0 → Decides (decided_reply (length out) NotTaken (encode (fixed_reply ExecAlone)) []) w out [] [] p mid
    alone_decides p-is = decides_prepared w b [] [] out (fixed_reply ExecAlone) NotTaken ok h z puts p-is

    pub alone_room : (p : Prepared Verdict) → prepared_numbers (Ok p) ≡ prepared_by put 255 0 0 → last_word w + p.rows < 2 ^ 64
    alone_room p p-is = (alone_decides p-is).room.seqs_free

  module _ {m : Bool} (m-is : m ≡ yes? (get_or s 0 0)) where
    queue_as : {t : Bool} → m ≡ t → (session_from s sb).queue ≡ cond t (Some (queue_in s sb)) None
    unfolding session_from
    queue_as e = ap (λ (t : Bool). cond t (Some (queue_in s sb)) None) (sym m-is ∙ e)

    pub previews_inside : {r : PreviewNumbers} {out' : Bytes} → m ≡ true → Previews (last_word w) (exec_decided (length out) s sb w b) out r out' → Previews (last_word w) (session_decided (length out) s sb w b) out r out'
    unfolding session_decided exec_decided decide_exec
    previews_inside {r} {out'} e k = subst (λ (q : Option (List Args)). Previews (last_word w) (decide_by q (length out) (store_in w b) (session_from s sb)) out r out') (sym (queue_as e)) (unfold decide_by in k)

    pub previews_outside : {put : Option ℕ} {mid : Bytes} {p : PreparedNumbers} {r : PreviewNumbers} → m ≡ false → Valid w b → last_word w < 2 ^ 64 → out ≡ replicate (length out) 0
        → Puts (encode (fixed_reply ExecAlone)) out put mid → p ≡ prepared_by put 255 0 0 → r ≡ preview_prepared (last_word w) p → Previews (last_word w) (session_decided (length out) s sb w b) out r mid
    unfolding session_decided decide_exec fixed_reply
    previews_outside {put} {mid} {p} {r} e ok h z k p-is r-is =
        subst (λ (q : Option (List Args)). Previews (last_word w) (decide_by q (length out) (store_in w b) (session_from s sb)) out r mid) (sym (queue_as e))
        (unfold decide_by in previews (decided_reply (length out) NotTaken (encode (err (bytes "EXEC without MULTI"))) []) w out [] [] (alone_decides ok h z k p-is) r-is)

    pub outside_error : (e : CallError) {put : Option ℕ} {mid : Bytes} → m ≡ false → Valid w b → last_word w < 2 ^ 64 → out ≡ replicate (length out) 0
        → Puts (encode (fixed_reply ExecAlone)) out put mid → prepared_numbers (Err e) ≡ prepared_by put 255 0 0 → Previews (last_word w) (session_decided (length out) s sb w b) out (preview_numbers (Err e)) mid
    outside_error e out-is ok h z k p-is = previews_outside out-is ok h z k p-is (preview_error (last_word w) e)
