-- The bytes that a session receives tell its answers, and the bytes of replies the sum of a counter: by the one split of a reply stream.
use Prim.Native.Nat.{ℕ, ◌≤◌}
use native.Mathlib.Omega.{arith}
use mathlib.Core.Bool.{Bool, true, false, cond, ◌&&◌}
use mathlib.Core.List.{List, [], ◌∷◌, ◌++◌, map}
use Rattle.std.specs.Prelude.{Option, None, Some}
use mathlib.Core.Path.{◌≡◌, refl, sym, ap, ◌∙◌}
use lib.Dec.{eqb}
use lib.IntN.{ℤ, ◌+ℤ◌}
use lib.ListN.{length}
use Rattle.base_key.specs.Bytes.{Bytes, concat}
use Rattle.base_key.specs.Keys.{Key, same_key}
use Rattle.resp_spec.specs.Reply.{Reply, Simple, Error, Integer, BulkString, Nil, NilArray, Array, Items, no_more, item, array, items, encode, written}
use Rattle.reply_split.proofs.ReadBack.{one_split}
use Rattle.reply_split.proofs.Splits.{three_bytes, all_bytes, same_front, same_pieces, all_lines, any_bytes}
use Rattle.command_spec.specs.Command.{Command, GET, SET, DEL, EXISTS, MGET, MSET, COUNT, FIXED, Executed, runs, lists}
use Rattle.call_spec.specs.Calls.{Lent, Call, first_number, state_in, call, outcomes}
use Rattle.call_spec.specs.Posting.{Event, asked, wrote, told, events, alone, listed, exec, member}
use Rattle.call_spec.specs.Demand3.{items_of, is_integer, or_zero, increment, increment_by, increments, sum, text_of}
use Rattle.call_spec.specs.Captures.{SilentOrReply, no_reply, replied, with_answer, answers_to, replies_to, CaptureClaim, OneSum, CounterByReplies}
use Rattle.call_spec.proofs.KindLaws.{EachAnswered}
use Rattle.call_spec.proofs.EveryKind.{kind}
use Rattle.call_spec.proofs.CounterLaws.{counters, counter_replies_lem}

-- A CALL answers so, on any lent memory
call_answers : (c : Call) (l : Lent) → EachAnswered (told c (call c l).outcome)
unfolding call
call_answers c l = go (eqb (first_number c l) 0) refl
  where
    go : (b : Bool) → eqb (first_number c l) 0 ≡ b → EachAnswered (told c (call c l).outcome)
    go false e = rw (e, call) ((kind c).refusals (first_number c l))
    go true e = rw (e, call) ((kind c).answers (state_in l))

-- and so do the calls of a list
both_answered : (es fs : List Event) → EachAnswered es → EachAnswered fs → EachAnswered (es ++ fs)
both_answered [] fs a b = b
both_answered (asked i x n t ∷ es) fs a b = (a.0, both_answered es fs a.1 b)
both_answered (wrote ws ∷ es) fs a b = both_answered es fs a b

each_answered : (cs : List Call) (l : Lent) → EachAnswered (events cs (outcomes cs l))
unfolding events outcomes
each_answered [] l = tt
each_answered (c ∷ cs) l = both_answered (told c (call c l).outcome) _ (call_answers c l) (each_answered cs (call c l).lent)

-- THE ANSWERS TO A SESSION are replies
pub some_answer : (s : Bytes) (bs : List Bytes) → 3 ≤ length s → with_answer s bs ≡ s ∷ bs
some_answer [] bs h = absurd (omega arith)
some_answer (b ∷ s) bs h = refl

-- the bytes of some list of replies
abbrev AreReplies : List Bytes → Type 0
AreReplies bs = (rs : List Reply) × (bs ≡ map encode rs)

one_more : (s : Bytes) (bs : List Bytes) → SilentOrReply s → AreReplies bs → AreReplies (with_answer s bs)
one_more s bs no_reply h = h
one_more s bs (replied r) h = (r ∷ h.0, some_answer (encode r) bs (three_bytes r) ∙ ap (λ (l : List Bytes). encode r ∷ l) h.1)

answers_are : (i : ℕ) (es : List Event) → EachAnswered es → AreReplies (answers_to i es)
unfolding answers_to
answers_are i [] a = ([], refl)
answers_are i (asked j x n b ∷ es) a = go (eqb j i) (answers_are i es a.1)
  where
    go : (own : Bool) → AreReplies (answers_to i es) → AreReplies (cond own (with_answer b (answers_to i es)) (answers_to i es))
    go true h = one_more b (answers_to i es) a.0 h
    go false h = h
answers_are i (wrote ws ∷ es) a = answers_are i es a

-- so the bytes received tell them: as they are written, one list of replies
pub capture_tells : CaptureClaim
capture_tells i cs l =
    let h = answers_are i (events cs (outcomes cs l)) (each_answered cs l) in
    let rs = map written h.0 in
    let each : replies_to i cs l ≡ map encode rs = h.1 ∙ sym (all_bytes h.0) in
    record {
      replies = rs;
      lines = all_lines h.0;
      each = each;
      the_only = λ qs f e. any_bytes.lists qs rs f (all_lines h.0) (e ∙ ap concat each);
      front = λ qs x e. let f = same_front qs rs x (e ∙ ap concat each) in (map encode f.0, each ∙ f.1, f.2);
      only = λ qs e. each ∙ sym (same_pieces qs rs (e ∙ ap concat each));
    }

-- THE SUM OF A COUNTER asks of a reply only whether it is an integer, and a reply as it is written is one exactly if the reply is
integer_written : (p : Reply) → is_integer (written p) ≡ is_integer p
unfolding written
integer_written (Simple text) = refl
integer_written (Error text) = refl
integer_written (Integer z) = refl
integer_written (BulkString text) = refl
integer_written Nil = refl
integer_written NilArray = refl
integer_written (Array is) = refl

module _ (k : Key) where
  increment_written : (c : Command) (p : Reply) (n : Option ℤ) → increment k c (written p) n ≡ increment k c p n
  unfolding increment
  increment_written (GET j) p n = refl
  increment_written (SET j v) p n = refl
  increment_written (DEL ks) p n = refl
  increment_written (EXISTS ks) p n = refl
  increment_written (MGET ks) p n = refl
  increment_written (MSET es) p n = refl
  increment_written (COUNT j by) p n = ap (λ (b : Bool). cond (same_key j k && b) (Some (or_zero n +ℤ by)) n) (integer_written p)
  increment_written (FIXED r) p n = refl

  executed_written : (x : Executed) (p : Reply) (n : Option ℤ) → increment_by k x (written p) n ≡ increment_by k x p n
  unfolding increment_by
  executed_written (runs c) p n = increment_written c p n
  executed_written (lists l) p n = refl

  increments_written : (q : List Executed) (ps : List Reply) (n : Option ℤ) → increments k q (map written ps) n ≡ increments k q ps n
  unfolding increments
  increments_written [] ps n = refl
  increments_written (x ∷ q) [] n = refl
  increments_written (x ∷ q) (p ∷ ps) n = ap (increments k q (map written ps)) (executed_written x p n) ∙ increments_written q ps (increment_by k x p n)

-- replies with the same bytes are written alike, and so are the items of arrays
alike : (p q : Reply) → encode p ≡ encode q → written p ≡ written q
alike p q e = (one_split p q [] [] (ap (λ (s : Bytes). s ++ []) e)).0

unfoldable list_of : Items → List Reply
list_of no_more = []
list_of (item r is) = r ∷ list_of is

unfoldable items_in : Reply → List Reply
items_in (Simple text) = []
items_in (Error text) = []
items_in (Integer z) = []
items_in (BulkString text) = []
items_in Nil = []
items_in NilArray = []
items_in (Array is) = list_of is

items_in_lem : (ps : List Reply) → items_in (written (array ps)) ≡ map written ps
unfolding written items items_in list_of
items_in_lem [] = refl
items_in_lem (p ∷ ps) = ap (λ (l : List Reply). written p ∷ l) (items_in_lem ps)

items_alike : (ps qs : List Reply) → encode (array ps) ≡ encode (array qs) → map written ps ≡ map written qs
items_alike ps qs e = sym (items_in_lem ps) ∙ ap items_in (alike (array ps) (array qs) e) ∙ items_in_lem qs

pub one_sum : OneSum
one_sum k [] n m m' h g = h ∙ sym g
one_sum k (alone c b ∷ xs) n m m' h g =
    let p = h.0 in
    let q = g.0 in
    let same : increment k c p n ≡ increment k c q n = sym (increment_written k c p n) ∙ ap (λ (r : Reply). increment k c r n) (alike p q (sym h.1 ∙ g.1)) ∙ increment_written k c q n in
    one_sum k xs (increment k c p n) m m' h.2 (rw same g.2)
one_sum k (listed l b ∷ xs) n m m' h g = one_sum k xs n m m' h g
one_sum k (exec q b ∷ xs) n m m' h g =
    let ps = h.0 in
    let rs = g.0 in
    let same : increments k q ps n ≡ increments k q rs n = sym (increments_written k q ps n) ∙ ap (λ (l : List Reply). increments k q l n) (items_alike ps rs (sym h.1 ∙ g.1)) ∙ increments_written k q rs n in
    one_sum k xs (increments k q ps n) m m' h.3 (rw same g.3)
one_sum k (member ws ∷ xs) n m m' h g = one_sum k xs n m m' h g

pub counter_by_replies : CounterByReplies
counter_by_replies cs l o k only m h = counters cs l o k only ∙ ap text_of (one_sum k (items_of cs l) None (sum k (items_of cs l) [] None) m (counter_replies_lem cs l o k) h)
