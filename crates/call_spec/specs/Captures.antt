-- What a session receives over a list of calls, and what those bytes tell (document 02, R-11).
use Rattle.std.specs.Prelude.{ℕ, cond, List, [], ◌∷◌, ◌++◌, map, ◌≡◌, eqb, ℤ}
use Rattle.std.specs.Prelude.{Option, None}
use Rattle.base_key.specs.Bytes.{Bytes, concat}
use Rattle.base_key.specs.Keys.{Key}
use Rattle.resp_spec.specs.Reply.{Reply, encode}
use Rattle.store_memtable.specs.Table.{find}
use Rattle.store_memtable.specs.Versions.{table}
use Rattle.reply_split.specs.Streams.{OneLine, Texts, stream, Each}
use Rattle.call_spec.specs.Calls.{Lent, store_of, Call, outcomes, final}
use Rattle.call_spec.specs.Posting.{Event, asked, wrote, events, Item}
use Rattle.call_spec.specs.Demand3.{Opened, items_of, OnlyCounted, SumOf, text_of}

-- AN ANSWER has no bytes, or those of one reply
pub data SilentOrReply : Bytes → Type 0 where
  no_reply : SilentOrReply []
  replied : (r : Reply) → SilentOrReply (encode r)

-- THE CAPTURE of a session. The bytes of an answer in front of others; an answer without reply has none
abbrev pub with_answer : Bytes → List Bytes → List Bytes
with_answer [] bs = bs
with_answer (b ∷ s) bs = (b ∷ s) ∷ bs

-- the answers to session i, in the order of the events
unfoldable pub answers_to : ℕ → List Event → List Bytes
answers_to i [] = []
answers_to i (asked j x n b ∷ es) = cond (eqb j i) (with_answer b (answers_to i es)) (answers_to i es)
answers_to i (wrote ws ∷ es) = answers_to i es

-- those that it receives over a list of calls; the bytes of a preview are no reply
abbrev pub replies_to : ℕ → List Call → Lent → List Bytes
replies_to i cs l = answers_to i (events cs (outcomes cs l))

-- and their bytes
abbrev pub capture_of : ℕ → List Call → Lent → Bytes
capture_of i cs l = concat (replies_to i cs l)

-- over any list of calls, from any lent state on
pub record CaptureTells (i : ℕ) (cs : List Call) (l : Lent) : Type 0 where
  -- each answer is one reply, whose texts are free of CR and LF
  pub replies : List Reply
  pub lines : Each (Texts OneLine) replies
  pub each : replies_to i cs l ≡ map encode replies
  -- no other such replies are the whole capture
  pub the_only : (rs : List Reply) → Each (Texts OneLine) rs → stream rs ≡ capture_of i cs l → rs ≡ replies
  -- of any replies: those that the capture begins with are the first answers, and what follows them is the bytes of the others
  pub front : (rs : List Reply) (x : Bytes) → stream rs ++ x ≡ capture_of i cs l →
      (others : List Bytes) × (replies_to i cs l ≡ map encode rs ++ others) × (x ≡ concat others)
  -- and those that are the whole capture are all the answers, by their bytes
  pub only : (rs : List Reply) → stream rs ≡ capture_of i cs l → replies_to i cs l ≡ map encode rs

-- for every session
abbrev pub CaptureClaim : Type 0
CaptureClaim = (i : ℕ) (cs : List Call) (l : Lent) → CaptureTells i cs l

-- THE SUM OF A COUNTER by the bytes of its replies is one
abbrev pub OneSum : Type 0
OneSum = (k : Key) (xs : List Item) (n m m' : Option ℤ) → SumOf k xs n m → SumOf k xs n m' → m ≡ m'

-- a key that only counter commands write holds that sum
abbrev pub CounterByReplies : Type 0
CounterByReplies =
    (cs : List Call) (l : Lent) → Opened l → (k : Key) → OnlyCounted k (items_of cs l) → (m : Option ℤ) → SumOf k (items_of cs l) None m →
    find (table (store_of (final cs l)).versions) k ≡ text_of m
