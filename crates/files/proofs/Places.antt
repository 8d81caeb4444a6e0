-- What stands at a place of the bytes: a first byte, what is behind it, the parts of an append.
use Prim.Native.Nat.{ℕ, ◌+◌, ◌<◌}
use mathlib.Core.Path.{◌≡◌, ◌∙◌, ap}
use mathlib.Core.List.{List, [], ◌∷◌, ◌++◌, append_assoc}
use native.Mathlib.Numerals.{add-one}
use native.Mathlib.Omega.{arith}
use lib.ListN.{length, get_or, drop, length-drop}
use lib.Seq.{drop-cons, drop-drop, drop-append_seam}
use Rattle.files.specs.Encoding.{big}
use Rattle.files.specs.Refusal.{dec16}
use Rattle.files.specs.Places.{At}
use Rattle.files.proofs.BigEndian.{dec16_big, drop_big}

module _ {b : List ℕ} {i x : ℕ} {xs : List ℕ} (h : At b i (x ∷ xs)) where
  pub room : i < length b
  room = omega (arith, length-drop i b, ap length h.split)

  pub head : get_or b i 0 ≡ x
  head = cc (drop-cons b i 0 room, h.split)

  pub tail : At b (i + 1) xs
  tail = record { rest = h.rest; split = rw add-one (cc (drop-cons b i 0 room, h.split)) }

module _ {b : List ℕ} {i : ℕ} (xs ys : List ℕ) (h : At b i (xs ++ ys)) where
  pub left : At b i xs
  left = record { rest = ys ++ h.rest; split = h.split ∙ append_assoc xs ys h.rest }

  pub right : At b (i + length xs) ys
  right = record { rest = h.rest; split = rw (← drop-drop, h.split, append_assoc) (drop-append_seam xs (ys ++ h.rest)) }

-- the byte at a place, and what is behind it
pub more : (b : List ℕ) (i : ℕ) → i < length b → drop i b ≡ get_or b i 0 ∷ drop (i + 1) b
more b i h = rw (add-one, ← drop-cons b i 0)

-- the numbers of an atom whose byte stands before them
module _ {b : List ℕ} (i n v : ℕ) (h : At b (i + 1) (big n (big v []))) where
  pub pair_room : i + 4 < length b
  pair_room = omega (arith, room (tail (tail (tail h))))

  pub pair_name : dec16 b (i + 1) ≡ n
  pair_name = dec16_big b (i + 1) n _ h.split

  pub pair_value : dec16 b (i + 3) ≡ v
  pair_value =
      let e : i + 3 ≡ i + 1 + 2 = omega arith in
      rw e (dec16_big b (i + 1 + 2) v _ (drop_big b (i + 1) n _ h.split))
