-- The pairs' rows for the subsets from 512 * w on: the request of lane j is the subset numbered 512 * w + j.
use Prim.Native.Nat.{ℕ, suc, ◌+◌, ◌*◌, ◌/◌, ◌%◌, ◌≤◌, ◌<◌}
use mathlib.Core.Path.{◌≡◌, refl, ap, ap₂, ◌∙◌}
use mathlib.Core.Bool.{cond}
use mathlib.Core.List.{List, [], ◌∷◌, ◌++◌, map}
use native.Mathlib.Omega.{arith}
use lib.ListN.{length, get_or, set}
use lib.Seq.{get_or-set_same, get_or-set_other}
use borrow.Author.Count.{below_more}
use Rattle.std.proofs.lemmas.List.{get_or_push, get_or_append_left}
use Rattle.ptacl.specs.Exposure.{bit, subset}
use Rattle.ptacl.proofs.Bits.{odd, bit_zero, bit_suc}
use Rattle.files.specs.declared.pair.Pair.{Pair as PairC}
use Rattle.files.specs.Tags.{pair_of}
use Rattle.table.specs.declared.row.PairRow.{PairRow}
use Rattle.table.specs.Rows.{lane, lanes, RowIs, PairWord, PairRows, request, requests, no_row}
use Rattle.table.proofs.Lanes.{same_lanes}

-- a row by its words
pub words_more : (w : ℕ) {i k x : ℕ} (words : List ℕ) → k < length words → ((n : ℕ) → n < k → PairWord (8 * w + n) i (get_or words n 0)) → PairWord (8 * w + k) i x
    → (n : ℕ) → n < k + 1 → PairWord (8 * w + n) i (get_or (set words k x) n 0)
words_more w {i} {k} {x} words l e f =
    below_more (λ n. PairWord (8 * w + n) i (get_or (set words k x) n 0)) k
    (λ n h. rw (get_or-set_other words k n x 0 (λ (q : n ≡ k). omega arith)) (e n h))
    (rw (get_or-set_same words k x 0 l) f)

pub words_law : (w i : ℕ) {r : List ℕ} → ((k : ℕ) → k < 8 → PairWord (8 * w + k) i (get_or r k 0)) → RowIs r (λ j. bit (512 * w + j) i)
unfolding lane
words_law w i {r} e = record {
  at = λ j h. (e (j / 64) (omega arith)).pattern (j % 64) (omega arith) ∙ ap (λ m. bit m i) (omega arith);
}

-- one pair more has its row
pub pairs_more : {pairs : List PairC} {i w : ℕ} {rows : List PairRow} {held : List ℕ} → length rows ≡ i → PairRows pairs i w rows
    → RowIs held (λ j. bit (512 * w + j) i) → PairRows pairs (i + 1) w (rows ++ record { pair = get_or pairs i no_row.pair; held = held } ∷ [])
pairs_more {pairs} {i} {w} {rows} {held} l p r =
    let x : PairRow = record { pair = get_or pairs i no_row.pair; held = held } in
    let here = get_or_push rows x no_row i l in
    let other : (n : ℕ) → n < i → get_or (rows ++ x ∷ []) n no_row ≡ get_or rows n no_row = λ n h. get_or_append_left rows (x ∷ []) no_row n (omega (arith, l)) in
    record {
      same = below_more (λ n. (get_or (rows ++ x ∷ []) n no_row).pair ≡ get_or pairs n no_row.pair) i
          (λ n h. rw (other n h) (p.same n h)) (ap (λ (z : PairRow). z.pair) here);
      pattern = λ n j h g. below_more (λ n. lane (get_or (rows ++ x ∷ []) n no_row).held j ≡ bit (512 * w + j) n) i
          (λ n h. rw (other n h) (p.pattern n j h g)) (ap (λ (z : PairRow). lane z.held j) here ∙ r.at j g) n h;
    }

request_from : (pairs : List PairC) (rows : List PairRow) (j m : ℕ) → length rows ≡ length pairs
    → ((n : ℕ) → n < length pairs → (get_or rows n no_row).pair ≡ get_or pairs n no_row.pair)
    → ((n : ℕ) → n < length pairs → lane (get_or rows n no_row).held j ≡ bit m n) → request rows j ≡ subset (map pair_of pairs) m
unfolding request
request_from [] [] j m l e f = refl
request_from [] (r ∷ rows) j m l e f = absurd (omega arith)
request_from (x ∷ pairs) [] j m l e f = absurd (omega arith)
request_from (x ∷ pairs) (r ∷ rows) j m l e f =
    let g = request_from pairs rows j (m / 2) (omega arith) (λ n h. e (suc n) (omega arith)) (λ n h. f (suc n) (omega arith) ∙ bit_suc m n) in
    ap₂ (λ b q. cond b (pair_of r.pair ∷ q) q) (f 0 (omega arith) ∙ bit_zero m) g
    ∙ ap (λ z. cond (odd m) (pair_of z ∷ subset (map pair_of pairs) (m / 2)) (subset (map pair_of pairs) (m / 2))) (e 0 (omega arith))

pub requests_law : {pairs : List PairC} {rows : List PairRow} {w : ℕ} → length rows ≡ length pairs → PairRows pairs (length pairs) w rows
    → requests rows ≡ lanes (λ j. subset (map pair_of pairs) (512 * w + j))
requests_law {pairs} {rows} {w} l p = same_lanes _ _ (λ j h. request_from pairs rows j (512 * w + j) l p.same (λ n g. p.pattern n j g h))
