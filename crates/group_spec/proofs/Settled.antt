-- What settling a member leaves: its verdict, and the store with its writes or as it was. Assumes nothing.
use Prim.Native.Nat.{ℕ, ◌+◌, ◌*◌, ◌^◌, ◌≤◌}
use mathlib.Core.Path.{◌≡◌, refl, sym, ap, ◌∙◌, subst}
use mathlib.Core.Bool.{Bool, true, false, ◌&&◌}
use mathlib.Core.List.{List}
use lib.Dec.{leb, ltb}
use lib.ListN.{length}
use borrow.Author.Tests.{leb-true, ltb-true}
use Rattle.base_key.specs.Bytes.{Bytes}
use Rattle.base_key.proofs.Bytes.{both_parts}
use Rattle.store_memtable.specs.Table.{Write}
use Rattle.store_memtable.specs.Versions.{versions_size}
use Rattle.store_memtable.specs.Layout.{count_word, used_word, last_word, most_versions_word, most_bytes_word, store_in}
use Rattle.store_memtable.specs.Rows.{Valid, room_in, versions_in}
use Rattle.store_memtable.proofs.Opening.{room_is}
use Rattle.store_memtable.proofs.Sequence.{leave_words_same, leave_bytes_same}
use Rattle.store_commit.specs.declared.lent.StoreMut.{StoreMut}
use Rattle.store_commit.specs.Leaving.{Leaves, store_of}
use Rattle.group_spec.specs.declared.Member.{Member}
use Rattle.group_spec.specs.declared.Verdict.{Verdict}
use Rattle.group_spec.specs.declared.Verdict.TheVariants.{Accepted, Conflict, NoRoom, NoSequence, NotTaken}
use Rattle.group_spec.specs.Group.{Pending, is_accepted, held_keys, has_room, has_sequences, store_after}
use Rattle.group_spec.specs.Members.{write_at, member_inside, pending_of}
use Rattle.group_spec.specs.Settling.{sizes_from, moved_since, judge_since, step_verdict, RoomFor}
use Rattle.group_spec.proofs.PartTests.{member_writes}
use Rattle.group_spec.proofs.Walks.{list_long}
use Rattle.group_spec.proofs.SizeLaws.{writes_size_lem}

pub member_rows : (w : List ℕ) (d : Bytes) (m : Member) → member_inside w d m ≡ true → 4 * (m.first_write + m.writes) ≤ length w
member_rows w d m ok = (member_writes w d m ok).rows_in

-- the tests of room and sequences grant them
pub room_granted : (ws : List ℕ) (n size : ℕ) {r q : Bool} → r ≡ room_in ws n size → r ≡ true → q ≡ ltb (last_word ws + n) (2 ^ 64) → q ≡ true → RoomFor ws n size
unfolding room_in
room_granted ws n size r-is r-yes q-is q-yes =
    let p = both_parts (leb (count_word ws + n) (most_versions_word ws)) (leb (used_word ws + size) (most_bytes_word ws)) (sym r-is ∙ r-yes) in
    record { rows_free = leb-true _ _ p.0; bytes_free = leb-true _ _ p.1; seqs_free = ltb-true (last_word ws + n) (2 ^ 64) (sym q-is ∙ q-yes) }

-- a member that is not accepted leaves the store
pub stays : (s : StoreMut) (l : List Write) (x : Verdict) → is_accepted x ≡ false → Leaves (store_after x l (store_of s)) s s
unfolding store_after
stays s l x refused = record {
  lent = record { words = refl; bytes = refl };
  words_after = rw refused (sym (leave_words_same s.words.now s.bytes.now s.valid));
  bytes_after = rw refused (sym (leave_bytes_same s.words.now s.bytes.now s.valid));
}

-- nor does one that is not taken
pub untaken : (began : ℕ) (m : Pending) (s : StoreMut) {s' : StoreMut} {t : Bool} → t ≡ false → s' ≡ s
    → Leaves (store_after (step_verdict t began (store_of s) m) m.writes (store_of s)) s s'
unfolding step_verdict
untaken began m s {s'} passed same =
    subst (λ (b : Bool). Leaves (store_after (step_verdict b began (store_of s) m) m.writes (store_of s)) s s') (sym passed)
    (subst (Leaves (store_after NotTaken m.writes (store_of s)) s) (sym same) (stays s m.writes NotTaken refl))

pub not_accepted : (x : Verdict) → (x ≡ Accepted → ⊥) → is_accepted x ≡ false
not_accepted Accepted h = absurd (h refl)
not_accepted Conflict h = refl
not_accepted NoRoom h = refl
not_accepted NoSequence h = refl
not_accepted NotTaken h = refl

module _ (w : List ℕ) (d : Bytes) (m : Member) (ws bs : List ℕ) where
  -- THE VERDICT, test by test
  module _ (began : ℕ) {c : Bool} (c-is : c ≡ moved_since (pending_of w d m).read_seq began (versions_in ws bs) (held_keys (pending_of w d m))) where
    pub settled_conflict : c ≡ true → Conflict ≡ judge_since began (store_in ws bs) (pending_of w d m)
    unfolding judge_since store_in
    settled_conflict e = rw (sym c-is ∙ e)

    module _ (c-no : c ≡ false) (ok : member_inside w d m ≡ true) (v : Valid ws bs) {r : Bool}
        (r-is : r ≡ room_in ws m.writes (sizes_from w m.first_write m.writes)) where
      room_agrees : has_room (store_in ws bs) (pending_of w d m).writes ≡ r
      unfolding has_room pending_of
      room_agrees =
          (λ z. leb (length (store_in ws bs).versions + list_long (write_at w d) m.first_write m.writes z) (store_in ws bs).most_versions
          && leb (versions_size (store_in ws bs).versions + writes_size_lem w d m.first_write m.writes (member_writes w d m ok).parts_in z) (store_in ws bs).most_bytes)
          ∙ sym (room_is ws bs m.writes (sizes_from w m.first_write m.writes) v) ∙ sym r-is

      pub settled_no_room : r ≡ false → NoRoom ≡ judge_since began (store_in ws bs) (pending_of w d m)
      unfolding judge_since store_in
      settled_no_room e = rw (sym c-is ∙ c-no, room_agrees ∙ e)

      module _ (r-yes : r ≡ true) {q : Bool} (q-is : q ≡ ltb (last_word ws + m.writes) (2 ^ 64)) where
        sequences_agree : has_sequences (store_in ws bs) (pending_of w d m).writes ≡ q
        unfolding has_sequences pending_of store_in
        sequences_agree = ap (λ (n : ℕ). ltb (last_word ws + n) (2 ^ 64)) (list_long (write_at w d) m.first_write m.writes) ∙ sym q-is

        pub settled_no_sequence : q ≡ false → NoSequence ≡ judge_since began (store_in ws bs) (pending_of w d m)
        unfolding judge_since store_in
        settled_no_sequence e = rw (sym c-is ∙ c-no, room_agrees ∙ r-yes, sequences_agree ∙ e)

        pub settled_accepted : q ≡ true → Accepted ≡ judge_since began (store_in ws bs) (pending_of w d m)
        unfolding judge_since store_in
        settled_accepted e = rw (sym c-is ∙ c-no, room_agrees ∙ r-yes, sequences_agree ∙ e)
