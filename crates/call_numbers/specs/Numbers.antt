-- The number of a call, from what its parts are.
use Rattle.std.specs.Prelude.{ℕ, Bool, cond, List, leb, ltb}
use Rattle.base_key.specs.Bytes.{Bytes, ◌and◌}
use Rattle.store_memtable.specs.Layout.{valid_store}
use Rattle.call_spec.specs.Calls.{Lent, valid}

-- 9, then 8: above 64 members, verdict bytes fewer than members, or a part outside its buffer
unfoldable pub group_number : Bool → ℕ → ℕ → List ℕ → Bytes → ℕ
group_number inside members verdicts w b = cond (valid_store w b) (cond (leb members 64 and leb members verdicts and inside) 0 8) 9

-- the number of a request call that leaves all: 1, then 9
unfoldable pub request_number : ℕ → Lent → ℕ
request_number i l = cond (ltb i 16) (cond (valid l) 0 9) 1
