-- A row of the table that is filled, behind others.
use Prim.Native.Nat.{ℕ, ◌+◌, ◌*◌, ◌-◌, ◌/◌, ◌%◌, ◌≤◌, ◌<◌}
use mathlib.Core.Path.{◌≡◌, sym, ap, ap₂, ◌∙◌}
use mathlib.Core.List.{List, map}
use native.Mathlib.Decide.{dec_le}
use native.Mathlib.Omega.{arith}
use lib.Lanes.{put_chunk}
use lib.ListN.{length, get_or}
use Rattle.std.proofs.lemmas.Simd.{map-map, get_or-put_chunk_below, get_or-put_chunk_at}
use Rattle.std.proofs.lemmas.List.FromFn.{get_or-map-range_with_len}
use Rattle.std.specs.List.{range_with_len}
use Rattle.ptacl.specs.Request.{Pair, Request}
use Rattle.ptacl.specs.Term.{Policy}
use Rattle.ptacl.specs.Meaning.{eval}
use Rattle.ptacl.specs.Exposure.{Reading, bit, subset}
use Rattle.table.specs.Allowed.{allowed, bit_at, Filled}
use Rattle.table.specs.Rows.{lane, lanes}

-- equal at all lanes, equal at each
at_lane : {A : Type 0} (f g : ℕ → A) → lanes f ≡ lanes g → (j : ℕ) → j < 512 → f j ≡ g j
unfolding lanes
at_lane f g e j h =
    sym (get_or-map-range_with_len f 0 512 j j (f 0) h (omega arith)) ∙ (ap (λ xs. get_or xs j (f 0)) e ∙ get_or-map-range_with_len g 0 512 j j (f 0) h (omega arith))

-- which of the subsets from 512 * w on are allowed
allowed_row : (g : Reading) (p : Policy) (ps : List Pair) (w : ℕ) {qs : List Request} (r : List ℕ) → qs ≡ lanes (λ j. subset ps (512 * w + j))
    → lanes (lane r) ≡ map (λ q. g (eval p q)) qs → (j : ℕ) → j < 512 → lane r j ≡ allowed g p ps (512 * w + j)
unfolding allowed lanes
allowed_row g p ps w r e f j h =
    at_lane (lane r) (λ j. g (eval p (subset ps (512 * w + j)))) (f ∙ (ap (map (λ q. g (eval p q))) e ∙ map-map (λ q. g (eval p q)) (λ j. subset ps (512 * w + j)) (range_with_len 0 512))) j h

pub filled_more : {g : Reading} {p : Policy} {ps : List Pair} {t : List ℕ} {w : ℕ} {qs : List Request} (r : List ℕ) → length r ≡ 8 → w * 8 + 8 ≤ length t
    → qs ≡ lanes (λ j. subset ps (512 * w + j)) → lanes (lane r) ≡ map (λ q. g (eval p q)) qs → Filled g p ps t w
    → Filled g p ps (put_chunk (w * 8) t r) (w + 1)
unfolding bit_at lane
filled_more {g} {p} {ps} {t} {w} r n l e f x = record {
  right = λ m h. elim (dec_le (512 * w) m) [
    | yes k ↦
        let v = m / 64 - w * 8 in
        let place : m / 64 ≡ w * 8 + v = omega arith in
        let j = m - 512 * w in
        let of : m ≡ 512 * w + j = omega arith in
        ap (λ z. bit (get_or (put_chunk (w * 8) t r) z 0) (m % 64)) place
        ∙ (ap (λ z. bit z (m % 64)) (get_or-put_chunk_at (w * 8) t r v 0 (omega arith) (omega arith))
        ∙ (ap₂ (λ z y. bit (get_or r z 0) y) (omega arith) (omega arith)
        ∙ (allowed_row g p ps w r e f j (omega arith) ∙ ap (allowed g p ps) (sym of))))
    | no k ↦ ap (λ z. bit z (m % 64)) (get_or-put_chunk_below (w * 8) t r (m / 64) 0 (omega arith)) ∙ x.right m (omega arith)
  ];
}
