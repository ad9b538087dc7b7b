-- A reply with each kind in it, and arrays in an array: within the limits, so the theorem of ReadBack.antt speaks of it; and what the definitions
-- give for it, computed apart from that theorem. Assumes nothing.
use mathlib.Core.Bool.{◌&&◌}
use mathlib.Core.List.{[], ◌∷◌, ◌++◌}
use native.Mathlib.Omega.{arith}
use lib.Dec.{T, eqb}
use lib.IntN.{pos, negsuc}
use lib.ListN.{length}
use Rattle.base_key.specs.Bytes.{bytes}
use Rattle.resp_spec.specs.Reply.{Reply, Simple, Error, Integer, BulkString, Nil, NilArray, array, count_items, items, encode, depth}
use Rattle.reply_item.specs.Replies.{words_of, read_reply}
use Rattle.reply_item.proofs.Readings.{gives}
use Rattle.reply_item.specs.Opens.{reply_item_opens}
use Rattle.reply_reader.specs.Written.{Limited, Within, items_of}

unfoldable sample : Reply
sample =
    array
    (Simple (bytes "OK") ∷ Error (bytes "ERR a\r\nb") ∷ Integer (pos 0) ∷ Integer (negsuc 41) ∷ BulkString (bytes "a\r\nb") ∷ BulkString [] ∷ Nil ∷ NilArray
    ∷ array [] ∷ array (Integer (pos 7) ∷ array (Nil ∷ []) ∷ []) ∷ [])

sample_within : Within sample
unfolding sample Limited depth count_items items
sample_within = record { limits = omega arith; nesting = omega arith }

-- read back from a table that just holds it, with other bytes behind it
sample_back : T (gives (read_reply (length (items_of 0 sample)) (encode sample ++ bytes "+next")) (length (encode sample)) (words_of (items_of 0 sample)))
unfolding reply_item_opens sample items_of
sample_back = tt

-- 14 items in 78 bytes
sample_size : T (eqb (length (items_of 0 sample)) 14 && eqb (length (encode sample)) 78)
unfolding reply_item_opens sample items_of
sample_size = tt
