-- The body of a request file: the pairs that its bytes hold are those that they were written for, and are in range.
use Prim.Native.Nat.{ℕ, zero, suc, ◌+◌, ◌*◌, ◌≤◌}
use mathlib.Core.Path.{◌≡◌, refl, sym, ap}
use mathlib.Core.List.{List, [], ◌∷◌}
use native.Mathlib.Omega.{arith}
use lib.ListN.{length, drop, drop_of_length-le}
use Rattle.ptacl.specs.Request.{Request}
use Rattle.files.specs.Encoding.{big, InRange, pair_bytes, Bytes}
use Rattle.files.specs.ReadRequest.{pairs_at}
use Rattle.files.proofs.BigEndian.{dec16_big, drop_big, dec16_range, big_dec16}

pub pairs_range : {s : List ℕ} → Bytes s → (n at : ℕ) → InRange (pairs_at n s at)
unfolding InRange
pairs_range b zero at = tt
pairs_range b (suc n) at = (dec16_range b at, dec16_range b (at + 2), pairs_range b n (at + 4))

pub pairs_length : (n : ℕ) (s : List ℕ) (at : ℕ) → length (pairs_at n s at) ≡ n
pairs_length zero s at = refl
pairs_length (suc n) s at = ap suc (pairs_length n s (at + 4))

-- writing what was read, and reading what was written
pub pairs_bytes : {s : List ℕ} → Bytes s → (n at : ℕ) → at + 4 * n ≡ length s → pair_bytes (pairs_at n s at) ≡ drop at s
unfolding pair_bytes
pairs_bytes {s} b zero at e = let h : length s ≤ at = omega arith in sym (drop_of_length-le s h)
pairs_bytes {s} b (suc n) at e =
    let k : at + 4 ≡ at + 2 + 2 = omega arith in
    rw (pairs_bytes b n (at + 4) (omega arith), k, big_dec16 b (at + 2) (omega arith), big_dec16 b at (omega arith))

pub bytes_pairs : (q : Request) (s : List ℕ) (at : ℕ) → drop at s ≡ pair_bytes q → pairs_at (length q) s at ≡ q
unfolding pair_bytes
bytes_pairs [] s at e = refl
bytes_pairs (x ∷ q) s at e =
    let f : drop (at + 2) s ≡ big x.1 (pair_bytes q) = drop_big s at x.0 _ e in
    let k : at + 2 + 2 ≡ at + 4 = omega arith in
    rw (dec16_big s at x.0 _ e, dec16_big s (at + 2) x.1 _ f, bytes_pairs q s (at + 4) (rw k at (drop_big s (at + 2) x.1 _ f)))
