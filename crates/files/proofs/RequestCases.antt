-- Reading a request file: one law for each case.
use Prim.Native.Nat.{ℕ, ◌+◌, ◌-◌, ◌/◌, ◌%◌, ◌<◌, ◌≤◌}
use mathlib.Core.Path.{◌≡◌, ◌∙◌}
use mathlib.Core.List.{List}
use native.Mathlib.Omega.{arith}
use lib.ListN.{length}
use borrow.Author.Tests.{lt-ltb, le-ltb}
use Rattle.files.specs.Refusal.{refused}
use Rattle.files.specs.ReadRequest.{pairs_at, in_order, read_request_from}
use Rattle.files.specs.Faults.{WholeFile}
use Rattle.files.proofs.Framing.{unframed_whole, Refusal}

pub request_unframed : (first : ℕ) {s : List ℕ} {n p : ℕ} → Refusal first s n p → read_request_from first s ≡ refused n p
unfolding read_request_from
request_unframed first r = r.given _

module _ (first : ℕ) {s : List ℕ} (w : WholeFile s) where
  pub request_uneven : ((length s - 3) % 4 ≡ 0 → ⊥) → read_request_from first s ≡ refused (first + 3) 3
  unfolding read_request_from
  request_uneven m = unframed_whole first s _ w ∙ (rw (lt-ltb 0 ((length s - 3) % 4) (omega arith)))

  module _ (m : (length s - 3) % 4 ≡ 0) where
    pub request_many : 256 < (length s - 3) / 4 → read_request_from first s ≡ refused (first + 4) 1027
    unfolding read_request_from
    request_many k = unframed_whole first s _ w ∙ (rw (le-ltb 0 ((length s - 3) % 4) (omega arith), lt-ltb _ _ k))

    pub request_pairs : (length s - 3) / 4 ≤ 256
        → read_request_from first s ≡ in_order (first + 5) (pairs_at ((length s - 3) / 4) s 3) 3 (pairs_at ((length s - 3) / 4) s 3)
    unfolding read_request_from
    request_pairs k = unframed_whole first s _ w ∙ (rw (le-ltb 0 ((length s - 3) % 4) (omega arith), le-ltb _ _ k))
