-- Pairs as numbers: packing and unpacking undo each other, and keep the order.
use Prim.Native.Nat.{ℕ, ◌/◌, ◌%◌, ◌<◌}
use mathlib.Core.Path.{◌≡◌, refl, sym}
use mathlib.Core.List.{List, [], ◌∷◌, map}
use native.Mathlib.Decide.{dec_lt, ℕ_discrete}
use native.Mathlib.Omega.{arith}
use lib.Dec.{ltb}
use borrow.Author.Tests.{eq-eqb, ne_eqb, lt-ltb, le-ltb}
use Rattle.ptacl.specs.Request.{Pair, below}
use Rattle.ptacl.specs.Pairs.{packed, unpacked}
use Rattle.files.specs.Encoding.{InRange}

pub packed_unpacked : (n : ℕ) → packed (unpacked n) ≡ n
packed_unpacked n = omega arith

pub unpacked_packed : (x : Pair) → x.1 < 65536 → unpacked (packed x) ≡ x
unpacked_packed x h =
    let a : packed x / 65536 ≡ x.0 = omega arith in
    let b : packed x % 65536 ≡ x.1 = omega arith in
    rw (a, b)

pub map_packed_unpacked : (ns : List ℕ) → map packed (map unpacked ns) ≡ ns
map_packed_unpacked [] = refl
map_packed_unpacked (n ∷ ns) = rw (packed_unpacked n, map_packed_unpacked ns)

pub map_unpacked_packed : (xs : List Pair) → InRange xs → map unpacked (map packed xs) ≡ xs
unfolding InRange
map_unpacked_packed [] h = refl
map_unpacked_packed (x ∷ xs) h = rw (unpacked_packed x h.1, map_unpacked_packed xs h.2)

pub below_packed : (x y : Pair) → x.1 < 65536 → y.1 < 65536 → below x y ≡ ltb (packed x) (packed y)
below_packed x y h k = elim (dec_lt x.0 y.0) [
  | yes l ↦ rw (lt-ltb _ _ l) (sym (lt-ltb (packed x) (packed y) (omega arith)))
  | no m ↦ rw (le-ltb x.0 y.0 (omega arith)) (elim (ℕ_discrete x.0 y.0) [
    | no n ↦ rw (ne_eqb _ _ n) (sym (le-ltb (packed x) (packed y) (omega arith)))
    | yes e ↦ rw (eq-eqb _ _ e) (elim (dec_lt x.1 y.1) [
      | yes l ↦ rw (lt-ltb _ _ l) (sym (lt-ltb (packed x) (packed y) (omega arith)))
      | no n ↦ rw (le-ltb x.1 y.1 (omega arith)) (sym (le-ltb (packed x) (packed y) (omega arith)))
    ])
  ])
]
