-- `store_commit::commit::commit_one` meets its contract. A merge of one write, with the whole store as the front; then the header is renewed. `proofs/Committing.antt` has the laws. Assumes nothing.
use Rattle.std.proofs.Common.{◌≡◌, ◌+◌, ap, refl, length}
use Rattle.store_memtable.specs.Rows.{value_if}
use Rattle.store_memtable.specs.Versions.{bytes_of}
use Rattle.store_memtable.proofs.Committing.{one_mergeable, one_words, one_bytes}
use Rattle.store_commit.proofs.commit.commit_one.Goals as goal

pub merge_one-requires : goal.merge_one-requires
merge_one-requires c =
    one_mergeable _ _ c.requires.valid _ (value_if c.args.live c.args.value.now) c.requires.room_for_one _ c.word-rows.ensures c.word-used.ensures (ap (λ x. length c.args.name.now + length x) c.kept.ensures)

pub returns : goal.returns
returns c =
    let gap : length c.args.name.now + length c.kept.result.now ≡ length c.args.name.now + length (bytes_of (value_if c.args.live c.args.value.now)) = ap (λ x. length c.args.name.now + length x) c.kept.ensures in
    let left = c.merge_one.ensures in
    let same = c.merge_one.auto in
    record {
      words_after = one_words _ _ c.requires.valid _ (value_if c.args.live c.args.value.now) c.requires.room_for_one _ c.word-rows.ensures c.word-used.ensures gap refl left.value left.words_after left.bytes_after same.words same.bytes c.renew_header.ensures;
      bytes_after = one_bytes _ _ c.requires.valid _ (value_if c.args.live c.args.value.now) c.requires.room_for_one _ c.word-rows.ensures c.word-used.ensures gap refl left.value left.words_after left.bytes_after same.words same.bytes;
    }
