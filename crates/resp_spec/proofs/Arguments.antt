-- The laws of the bytes of an argument. Assumes nothing.
use mathlib.Core.Path.{◌≡◌, refl}
use mathlib.Core.Bool.{true, false}
use Prim.Native.Nat.{ℕ, ◌+◌, ◌≤◌, ◌<◌}
use lib.ListN.{length, drop}
use borrow.Author.Tests.{le-leb, lt-leb}
use Rattle.base_key.specs.Bytes.{Bytes}
use Rattle.resp_spec.specs.declared.Fault.TheVariants.{NoLineEnd}
use Rattle.resp_spec.specs.Request.{span, waits, faulty, with_span, begins_cr_lf, bulk_body}
use Rattle.resp_spec.specs.Steps.{Next}
use Rattle.std.specs.Prelude.{Ok}

module _ (next : Next) (at n : ℕ) (s : Bytes) where
  pub body_waits : length s < n + 2 → bulk_body next at s (Ok n) ≡ waits
  unfolding bulk_body
  body_waits h = rw (lt-leb (n + 2) (length s) h, bulk_body) refl

  module _ (h : n + 2 ≤ length s) where
    pub body_ends : begins_cr_lf (drop n s) ≡ true → bulk_body next at s (Ok n) ≡ with_span (span at n) (next (at + n + 2) (drop (n + 2) s))
    unfolding bulk_body
    body_ends e = rw (le-leb (n + 2) (length s) h, e, bulk_body) refl

    pub body_other : begins_cr_lf (drop n s) ≡ false → bulk_body next at s (Ok n) ≡ faulty NoLineEnd
    unfolding bulk_body
    body_other e = rw (le-leb (n + 2) (length s) h, e, bulk_body) refl
