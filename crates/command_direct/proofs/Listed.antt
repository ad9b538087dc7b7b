-- The commands that list the table: the reply of each, and the call. Assumes nothing.
use Prim.Native.Nat.{ℕ, ◌≤◌, ◌<◌, ◌^◌}
use Rattle.std.specs.Option.{unwrap_or}
use native.Mathlib.Omega.{arith}
use mathlib.Core.Path.{◌≡◌, refl, sym, ap, ◌∙◌, subst}
use mathlib.Core.List.{List}
use Rattle.std.specs.Prelude.{Some}
use lib.ListN.{length, replicate}
use Rattle.base_key.specs.Bytes.{Bytes, bytes}
use Rattle.base_writing.specs.Puts.{Puts}
use Rattle.base_writing.proofs.Puts.{same_text}
use Rattle.resp_spec.specs.Reply.{encode}
use Rattle.store_memtable.specs.Versions.{table}
use Rattle.store_memtable.specs.Layout.{count_word, store_in}
use Rattle.store_memtable.specs.Rows.{Valid, versions_in}
use Rattle.store_memtable.proofs.Sequence.{leave_words_same, leave_bytes_same}
use Rattle.command_spec.specs.Numbers.{AnswerNumbers}
use Rattle.command_spec.specs.Names.{Args}
use Rattle.command_spec.specs.Command.{Listing, lists, DBSIZE, KEYS, SCAN, RANGE, argument, answer_listing}
use Rattle.command_spec.specs.Session.{Session, direct}
use Rattle.command_spec.specs.Finish.{finish, Says, StoreLeft}
use Rattle.command_answer.specs.Answers.{put_answer}
use Rattle.command_answer.proofs.Finish.{finish_wrote, says_wrote, finish_full, full_cleared, says_number}
use Rattle.command_listing.proofs.Ranging.{range_unlimited}
use Rattle.command_meaning.specs.declared.Listing.{Listing as CodeListing}
use Rattle.command_meaning.specs.declared.Listing.TheVariants as listing
use Rattle.command_meaning.specs.Meant.{listing_meant, pattern_at, PatternCounted, ListingCounted}
use Rattle.command_room.specs.Served.{Answers}
use Rattle.std.specs.Prelude.{Option, None}

-- THE ARGUMENT COUNT of each
module _ {l : CodeListing} (count : ℕ) (h : ListingCounted l count) where
  pub keys_counted : l ≡ listing.Keys → 1 < count
  unfolding ListingCounted
  keys_counted e = let m : ListingCounted listing.Keys count = rw e at h in omega arith

  pub scan_counted : {from most : ℕ} {pattern : Option ℕ} → l ≡ listing.Scan from pattern most → PatternCounted pattern count
  unfolding ListingCounted
  scan_counted {from} {most} {pattern} e = let m : ListingCounted (listing.Scan from pattern most) count = rw e at h in m

  pub range_counted : {limit : Option ℕ} → l ≡ listing.Range limit → 3 ≤ count
  unfolding ListingCounted
  range_counted {limit} e = let m : ListingCounted (listing.Range limit) count = rw e at h in m

-- the argument that holds the pattern
pub pattern_counted : {pattern : Option ℕ} {k count : ℕ} → PatternCounted pattern count → pattern ≡ Some k → k < count
unfolding PatternCounted
pattern_counted {count = count} h e = subst (λ (p : Option ℕ). PatternCounted p count) e h

-- no table has 2^64 entries
pub count_small : {w b : List ℕ} → Valid w b → length w < 2 ^ 64 → count_word w ≤ 18446744073709551615
count_small v h = omega (arith, v.count_fits, v.words_hold)

-- no limit is the highest one
range_limited : (w b : List ℕ) (start end : Bytes) (limit : Option ℕ) {n : ℕ} → Valid w b → length w < 2 ^ 64 → n ≡ unwrap_or limit 18446744073709551615
    → answer_listing (table (versions_in w b)) (RANGE start end limit) ≡ answer_listing (table (versions_in w b)) (RANGE start end (Some n))
range_limited w b start end None v h e =
    range_unlimited w b start end v (count_small v h) ∙ ap (λ (n : ℕ). answer_listing (table (versions_in w b)) (RANGE start end (Some n))) (sym e)
range_limited w b start end (Some m) v h e = ap (λ (n : ℕ). answer_listing (table (versions_in w b)) (RANGE start end (Some n))) (sym e)

-- THE REPLY OF EACH
module _ (w b : List ℕ) {out out' : Bytes} {put : Option ℕ} where
  -- SCAN, by its pattern
  module _ (a : Args) (from most : ℕ) (pattern : Option ℕ) {k : Bytes} where
    scan_by : pattern_at pattern a ≡ k → Puts (encode (answer_listing (table (versions_in w b)) (SCAN from k most))) out put out'
        → Puts (encode (answer_listing (table (versions_in w b)) (SCAN from (pattern_at pattern a) most))) out put out'
    scan_by k-is x = same_text (ap (λ (t : Bytes). encode (answer_listing (table (versions_in w b)) (SCAN from t most))) k-is) x

    pub scan_all : pattern ≡ None → k ≡ bytes "*" → Puts (encode (answer_listing (table (versions_in w b)) (SCAN from k most))) out put out'
        → Puts (encode (answer_listing (table (versions_in w b)) (SCAN from (pattern_at pattern a) most))) out put out'
    unfolding pattern_at
    scan_all e k-is x = scan_by (ap (λ (p : Option ℕ). pattern_at p a) e ∙ sym k-is) x

    pub scan_some : {i : ℕ} → pattern ≡ Some i → k ≡ argument i a → Puts (encode (answer_listing (table (versions_in w b)) (SCAN from k most))) out put out'
        → Puts (encode (answer_listing (table (versions_in w b)) (SCAN from (pattern_at pattern a) most))) out put out'
    unfolding pattern_at
    scan_some e k-is x = scan_by (ap (λ (p : Option ℕ). pattern_at p a) e ∙ sym k-is) x

  -- RANGE
  pub range_argued : (start end : Bytes) (limit : Option ℕ) {s e : Bytes} {n : ℕ} → Valid w b → length w < 2 ^ 64 → n ≡ unwrap_or limit 18446744073709551615 → s ≡ start → e ≡ end
      → Puts (encode (answer_listing (table (versions_in w b)) (RANGE s e (Some n)))) out put out' → Puts (encode (answer_listing (table (versions_in w b)) (RANGE start end limit))) out put out'
  range_argued start end limit {n = n} v h n-is s-is e-is x =
      same_text
      (ap encode (range_limited w b start end limit v h n-is) ∙ (λ i. encode (answer_listing (table (versions_in w b)) (RANGE (sym s-is i) (sym e-is i) (Some n)))))
      x

  -- by what it means
  module _ (a : Args) (l : CodeListing) where
    as_listing : {m : Listing} {t : CodeListing} → l ≡ t → listing_meant t a ≡ m → Puts (encode (answer_listing (table (versions_in w b)) m)) out put out'
        → Puts (encode (answer_listing (table (versions_in w b)) (listing_meant l a))) out put out'
    as_listing e m-is x = same_text (ap (λ (t : Listing). encode (answer_listing (table (versions_in w b)) t)) (ap (λ (t : CodeListing). listing_meant t a) e ∙ m-is)) x

    pub lists_dbsize : l ≡ listing.Dbsize → Puts (encode (answer_listing (table (versions_in w b)) DBSIZE)) out put out'
        → Puts (encode (answer_listing (table (versions_in w b)) (listing_meant l a))) out put out'
    unfolding listing_meant
    lists_dbsize e x = as_listing e refl x

    pub lists_keys : {k : Bytes} → l ≡ listing.Keys → k ≡ argument 1 a → Puts (encode (answer_listing (table (versions_in w b)) (KEYS k))) out put out'
        → Puts (encode (answer_listing (table (versions_in w b)) (listing_meant l a))) out put out'
    unfolding listing_meant
    lists_keys e k-is x = as_listing e (ap KEYS (sym k-is)) x

    pub lists_scan : {from most : ℕ} {pattern : Option ℕ} → l ≡ listing.Scan from pattern most
        → Puts (encode (answer_listing (table (versions_in w b)) (SCAN from (pattern_at pattern a) most))) out put out'
        → Puts (encode (answer_listing (table (versions_in w b)) (listing_meant l a))) out put out'
    unfolding listing_meant
    lists_scan e x = as_listing e refl x

    pub lists_range : {limit : Option ℕ} → l ≡ listing.Range limit → Puts (encode (answer_listing (table (versions_in w b)) (RANGE (argument 1 a) (argument 2 a) limit))) out put out'
        → Puts (encode (answer_listing (table (versions_in w b)) (listing_meant l a))) out put out'
    unfolding listing_meant
    lists_range e x = as_listing e refl x

    pub lists_range_whole : Valid w b → length w < 2 ^ 64 → l ≡ listing.Range None
        → Puts (encode (answer_listing (table (versions_in w b)) (RANGE (argument 1 a) (argument 2 a) (Some 18446744073709551615)))) out put out'
        → Puts (encode (answer_listing (table (versions_in w b)) (listing_meant l a))) out put out'
    lists_range_whole v h e x = lists_range e (range_argued (argument 1 a) (argument 2 a) None v h refl refl refl x)

    pub lists_range_up : {n : ℕ} → l ≡ listing.Range (Some n) → Puts (encode (answer_listing (table (versions_in w b)) (RANGE (argument 1 a) (argument 2 a) (Some n)))) out put out'
        → Puts (encode (answer_listing (table (versions_in w b)) (listing_meant l a))) out put out'
    lists_range_up e x = lists_range e x

-- THE CALL: a reply that leaves the store
pub lists_answer : (l : Listing) (w b : List ℕ) (used : ℕ) {out out' : Bytes} {put : Option ℕ} {r : AnswerNumbers} → Valid w b → out ≡ replicate (length out) 0
    → Puts (encode (answer_listing (table (versions_in w b)) l)) out put out' → r ≡ put_answer put used → Answers (lists l) used out w b r out' w b
unfolding direct store_in put_answer
lists_answer l w b used {out} {out'} {put} {r} v c p r-is = record { says = λ s. (go put refl s r-is).0; left = λ s. (go put refl s r-is).1 }
  where
    Both : Session → Type 0
    Both s =
        Says (finish (length out) used (direct (lists l) (store_in w b) s) (store_in w b) s) out r out'
        × StoreLeft (finish (length out) used (direct (lists l) (store_in w b) s) (store_in w b) s) w b w b

    go : (q : Option ℕ) → put ≡ q → (s : Session) → r ≡ put_answer q used → Both s
    go (Some k) q-is s a =
        rw (finish_wrote (answer_listing (table (versions_in w b)) l) p used (store_in w b) (store_in w b) s s q-is, a)
        (says_wrote (answer_listing (table (versions_in w b)) l) p used (store_in w b) (store_in w b) s s q-is c, record { words = sym (leave_words_same w b v); bytes = sym (leave_bytes_same w b v) })
    go None q-is s a =
        rw (finish_full (answer_listing (table (versions_in w b)) l) p used (store_in w b) (store_in w b) s s q-is, a)
        (says_number 3 (store_in w b) s out out' (full_cleared (answer_listing (table (versions_in w b)) l) p used (store_in w b) (store_in w b) s s q-is), record { words = sym (leave_words_same w b v); bytes = sym (leave_bytes_same w b v) })
