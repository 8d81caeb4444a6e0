-- Numbers as two bytes, big-endian: what is read is what was written, and writing what was read gives the bytes back.
use Prim.Native.Nat.{ℕ, suc, ◌+◌, ◌/◌, ◌%◌, ◌<◌, ◌≤◌}
use mathlib.Core.Path.{◌≡◌, sym, ap, ◌∙◌}
use mathlib.Core.List.{List}
use native.Mathlib.Nat.{add-zero}
use native.Mathlib.Numerals.{add-one}
use native.Mathlib.Omega.{arith}
use lib.ListN.{length, drop, get_or}
use lib.Seq.{drop-cons, drop-drop, get_or-drop}
use Rattle.files.specs.Encoding.{big, Bytes}
use Rattle.files.specs.Refusal.{dec16}

module _ (s : List ℕ) (at n : ℕ) (rest : List ℕ) (e : drop at s ≡ big n rest) where
  pub dec16_big : dec16 s at ≡ n
  dec16_big =
      let a : get_or s at 0 ≡ n / 256 = ap (λ k. get_or s k 0) (sym (add-zero at)) ∙ sym (get_or-drop at s 0 0) ∙ ap (λ xs. get_or xs 0 0) e in
      let b : get_or s (at + 1) 0 ≡ n % 256 = sym (get_or-drop at s 1 0) ∙ ap (λ xs. get_or xs 1 0) e in
      omega arith

  pub drop_big : drop (at + 2) s ≡ rest
  drop_big = sym (drop-drop 2 at s) ∙ ap (drop 2) e

module _ {s : List ℕ} (b : Bytes s) (at : ℕ) where
  pub dec16_range : dec16 s at < 65536
  dec16_range = omega (arith, b.byte at, b.byte (at + 1))

  pub big_dec16 : at + 2 ≤ length s → big (dec16 s at) (drop (at + 2) s) ≡ drop at s
  big_dec16 h =
      let a : dec16 s at / 256 ≡ get_or s at 0 = omega (arith, b.byte (at + 1)) in
      let c : dec16 s at % 256 ≡ get_or s (at + 1) 0 = omega (arith, b.byte (at + 1)) in
      let e : suc (suc at) ≡ at + 2 = omega arith in
      rw (a, c, drop-cons s at 0 (omega arith), ← add-one at, drop-cons s (at + 1) 0 (omega arith), add-one, e)
