-- What is decided of an EXEC, from the reply that was put, room and sequences. Assumes nothing.
use Prim.Native.Nat.{ℕ, ◌+◌, ◌^◌, ◌≤◌, ◌<◌}
use native.Mathlib.Omega.{arith}
use mathlib.Core.Path.{◌≡◌, refl, sym, ap, ◌∙◌, subst}
use mathlib.Core.Bool.{Bool, true, false, cond, ◌&&◌}
use mathlib.Core.List.{List, []}
use lib.Dec.{leb, ltb}
use lib.ListN.{length, take, replicate}
use borrow.Author.Tests.{le-leb, lt-leb}
use Rattle.base_key.specs.Bytes.{Bytes}
use Rattle.base_writing.specs.Puts.{Puts}
use Rattle.base_writing.proofs.Puts.{was_wrote, was_full, length_kept}
use Rattle.resp_spec.specs.Reply.{Reply, encode}
use Rattle.store_memtable.specs.Table.{Write}
use Rattle.store_memtable.specs.Versions.{versions_size}
use Rattle.store_memtable.specs.Layout.{last_word, store_in}
use Rattle.store_memtable.specs.Rows.{Valid, room_in}
use Rattle.store_memtable.proofs.Opening.{room_is}
use Rattle.group_spec.specs.declared.Verdict.{Verdict}
use Rattle.group_spec.specs.declared.Verdict.TheVariants.{Accepted}
use Rattle.group_spec.specs.Group.{has_room, has_sequences, verdict_byte}
use Rattle.group_spec.specs.Settling.{RoomFor, sizes_from}
use Rattle.group_spec.proofs.Settled.{room_granted}
use Rattle.command_spec.specs.Numbers.{error_number}
use Rattle.command_spec.specs.Session.{clear}
use Rattle.command_writes.specs.Own.{own_writes, Own}
use Rattle.command_writes.proofs.Growing.{none_writes, own_none, own_count, own_sizes}
use Rattle.command_answer.proofs.Finish.{says_wrote, says_number}
use Rattle.exec_decision.specs.Decided.{stopped, decided_reply}
use Rattle.exec_decision.proofs.Executes.{judged_to}
use Rattle.exec_finish.specs.Numbers.{PreparedNumbers, prepared_with, prepared_numbers, prepared_words}
use Rattle.exec_finish.specs.Deciding.{halted, prepared_as, prepared_by, judged_by, judged_buffer, Judges, Decides}
use Rattle.std.specs.Prelude.{Option, None, Some}

-- PREPARED with any verdict, as numbers
pub prepared_told : {V : Type 0} (byte : V → ℕ) (put : Option ℕ) (verdict : V) (rows end : ℕ) → prepared_with byte error_number (prepared_as put verdict rows end) ≡ prepared_by put (byte verdict) rows end
unfolding prepared_as prepared_by
prepared_told byte (Some n) verdict rows end = refl
prepared_told byte None verdict rows end = refl

-- a word is told as it is
pub prepared_word : (put : Option ℕ) (verdict rows end : ℕ) → prepared_words (prepared_as put verdict rows end) ≡ prepared_by put verdict rows end
prepared_word put verdict rows end = prepared_told (λ n. n) put verdict rows end

-- a verdict by its byte
pub prepared_verdict : (put : Option ℕ) (verdict : Verdict) (rows end : ℕ) → prepared_numbers (prepared_as put verdict rows end) ≡ prepared_by put (verdict_byte verdict) rows end
prepared_verdict put verdict rows end = prepared_told verdict_byte put verdict rows end

-- There is room for no writes
no_rows : (w b own : List ℕ) → Valid w b → last_word w < 2 ^ 64 → RoomFor w 0 (sizes_from own 0 0)
unfolding sizes_from
no_rows w b own v h = record { rows_free = omega (arith, v.count_fits); bytes_free = omega (arith, v.used_fits); seqs_free = omega arith }

module _ (w own : List ℕ) (d out : Bytes) (empty : RoomFor w 0 (sizes_from own 0 0)) where
  -- a number
  halts : (n : ℕ) {r : PreparedNumbers} {out' : Bytes} → r ≡ halted n → out' ≡ replicate (length out) 0 → Decides (stopped n) w out own d r out'
  halts n {r} {out'} r-is z = subst (λ (x : PreparedNumbers). Decides (stopped n) w out own d x out') (sym r-is) (record {
    number = refl;
    verdict = refl;
    size = refl;
    reply = (says_number n (store_in [] []) clear out out' z).reply;
    used_in = omega arith;
    kept = own_none own (take 0 d);
    writes = none_writes own (take 0 d);
    room = empty;
  })

  -- a reply that was put
  module _ (x : Reply) (v : Verdict) (rows end : ℕ) (o : Own own (take end d) rows) (fits : end ≤ length d) (space : RoomFor w rows (sizes_from own 0 rows))
      {put : Option ℕ} {mid : Bytes} (z : out ≡ replicate (length out) 0) (p : Puts (encode x) out put mid) where
    tells : {r : PreparedNumbers} → r ≡ prepared_by put (verdict_byte v) rows end → Decides (decided_reply (length out) v (encode x) (own_writes own (take end d) rows)) w out own d r mid
    unfolding prepared_by decided_reply
    tells {r} r-is = go put refl r-is
      where
        Goal : Bool → Type 0
        Goal t = Decides (cond t (record { number = 0; verdict = verdict_byte v; reply = encode x; writes = own_writes own (take end d) rows }) (stopped 3)) w out own d r mid

        go : (k : Option ℕ) → put ≡ k → r ≡ prepared_by k (verdict_byte v) rows end → Goal (leb (length (encode x)) (length out))
        go (Some n) e i =
            let h = was_wrote p e in
            subst Goal (sym (le-leb (length (encode x)) (length out) (omega (arith, h.count, h.fits))))
            (subst (λ (y : PreparedNumbers). Decides (record { number = 0; verdict = verdict_byte v; reply = encode x; writes = own_writes own (take end d) rows }) w out own d y mid) (sym i) (record {
              number = refl;
              verdict = refl;
              size = h.count;
              reply = (says_wrote x p 0 (store_in [] []) (store_in [] []) clear clear e z).reply;
              used_in = fits;
              kept = o;
              writes = refl;
              room = space;
            }))
        go None e i = let h = was_full p e in subst Goal (sym (lt-leb (length (encode x)) (length out) h.long)) (halts 3 i h.buffer)

-- without writes
pub decides_prepared : (w b own : List ℕ) (d out : Bytes) (x : Reply) (v : Verdict) {put : Option ℕ} {mid : Bytes} {r : PreparedNumbers} → Valid w b → last_word w < 2 ^ 64 → out ≡ replicate (length out) 0
    → Puts (encode x) out put mid → r ≡ prepared_by put (verdict_byte v) 0 0 → Decides (decided_reply (length out) v (encode x) []) w out own d r mid
decides_prepared w b own d out x v {put} {mid} {r} ok h z p r-is =
    let e = no_rows w b own ok h in
    subst (λ (l : List Write). Decides (decided_reply (length out) v (encode x) l) w out own d r mid) (none_writes own (take 0 d))
    (tells w own d out e x v 0 0 (own_none own (take 0 d)) (omega arith) e z p r-is)

-- after the queue
module _ (w b own : List ℕ) (d out : Bytes) (x : Reply) (rows end : ℕ) (ok : Valid w b) (h : last_word w < 2 ^ 64) (o : Own own (take end d) rows) (fits : end ≤ length d)
    {put : Option ℕ} {mid : Bytes} (z : out ≡ replicate (length out) 0) (p : Puts (encode x) out put mid) where
  room_agrees : has_room (store_in w b) (own_writes own (take end d) rows) ≡ room_in w rows (sizes_from own 0 rows)
  unfolding has_room
  room_agrees =
      (λ z. leb (length (store_in w b).versions + own_count own (take end d) rows z) (store_in w b).most_versions && leb (versions_size (store_in w b).versions + sym (own_sizes o) z) (store_in w b).most_bytes)
      ∙ sym (room_is w b rows (sizes_from own 0 rows) ok)

  sequences_agree : has_sequences (store_in w b) (own_writes own (take end d) rows) ≡ ltb (last_word w + rows) (2 ^ 64)
  unfolding has_sequences store_in
  sequences_agree = λ z. ltb (last_word w + own_count own (take end d) rows z) (2 ^ 64)

  pub decides_judged : {r : PreparedNumbers} {out' : Bytes} → Judges (room_in w rows (sizes_from own 0 rows)) (ltb (last_word w + rows) (2 ^ 64)) put rows end mid r out'
      → Decides (judged_to (length out) (encode x) (store_in w b) (own_writes own (take end d) rows)) w out own d r out'
  unfolding judged_to judged_by judged_buffer
  decides_judged {r} {out'} j = go (room_in w rows (sizes_from own 0 rows)) (ltb (last_word w + rows) (2 ^ 64)) refl refl room_agrees sequences_agree j.prepared j.buffer
    where
      long : length mid ≡ length out
      long = length_kept p

      ws : List Write
      ws = own_writes own (take end d) rows

      empty : RoomFor w 0 (sizes_from own 0 0)
      empty = no_rows w b own ok h

      Goal : Bool → Bool → Type 0
      Goal t q = Decides (cond t (cond q (decided_reply (length out) Accepted (encode x) ws) (stopped 7)) (stopped 6)) w out own d r out'

      go : (t q : Bool) → room_in w rows (sizes_from own 0 rows) ≡ t → ltb (last_word w + rows) (2 ^ 64) ≡ q → has_room (store_in w b) ws ≡ t → has_sequences (store_in w b) ws ≡ q
          → r ≡ judged_by t q put rows end → out' ≡ judged_buffer t q mid → Goal (has_room (store_in w b) ws) (has_sequences (store_in w b) ws)
      go true true e f a c i y = subst (λ (k : Bool). Goal k (has_sequences (store_in w b) ws)) (sym a) (subst (Goal true) (sym c)
          (subst (λ (m : Bytes). Decides (decided_reply (length out) Accepted (encode x) ws) w out own d r m) (sym y)
          (tells w own d out empty x Accepted rows end o fits (room_granted w rows (sizes_from own 0 rows) refl e refl f) z p i)))
      go true false e f a c i y = subst (λ (k : Bool). Goal k (has_sequences (store_in w b) ws)) (sym a) (subst (Goal true) (sym c)
          (halts w own d out empty 7 i (y ∙ ap (λ (k : ℕ). replicate k 0) long)))
      go false q e f a c i y = subst (λ (k : Bool). Goal k (has_sequences (store_in w b) ws)) (sym a)
          (halts w own d out empty 6 i (y ∙ ap (λ (k : ℕ). replicate k 0) long))
