-- Reading a request file, with the first refusal in order.
use Rattle.std.specs.Prelude.{ℕ, zero, suc, ◌+◌, ◌-◌, ◌/◌, ◌%◌, cond, List, [], ◌∷◌, ltb, length}
use Rattle.ptacl.specs.Request.{Pair, Request, below_head}
use Rattle.files.specs.Refusal.{Read, accepted, refused, dec16, unframed}

-- so many pairs of four bytes, from a place on
abbrev pub pairs_at : ℕ → List ℕ → ℕ → List Pair
pairs_at zero s at = []
pairs_at (suc k) s at = (dec16 s at, dec16 s (at + 2)) ∷ pairs_at k s (at + 4)

-- a refusal at the first byte of the first pair that is not above the one before; the pairs still to be seen start at `at`
abbrev pub in_order : ℕ → Request → ℕ → List Pair → Read Request
in_order number q at [] = accepted q
in_order number q at (x ∷ xs) = cond (below_head x xs) (in_order number q (at + 4) xs) (refused number (at + 4))

-- the table's six refusals of a request file, in its order, numbered from `first` on
unfoldable pub read_request_from : ℕ → List ℕ → Read Request
read_request_from first s =
    let count = (length s - 3) / 4 in
    unframed first s
    (cond (ltb 0 ((length s - 3) % 4)) (refused (first + 3) 3)
    (cond (ltb 256 count) (refused (first + 4) 1027)
    (in_order (first + 5) (pairs_at count s 3) 3 (pairs_at count s 3))))

-- 21, 22, 23, 24, 25, 26
abbrev pub read_request : List ℕ → Read Request
read_request = read_request_from 21
