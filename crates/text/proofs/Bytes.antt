-- What a node of a file is, with the place behind it; and an atom's numbers.
use Prim.Native.Nat.{ℕ, ◌+◌, ◌<◌}
use mathlib.Core.Path.{◌≡◌, refl, sym, ap}
use mathlib.Core.Bool.{Bool, true, false, cond}
use mathlib.Core.List.{List}
use native.Mathlib.Omega.{arith}
use lib.Dec.{ltb}
use lib.ListN.{length, length-drop}
use Rattle.ptacl.specs.Request.{Pair}
use Rattle.ptacl.specs.Term.{Sort}
use Rattle.files.specs.Encoding.{bytes}
use Rattle.files.specs.Refusal.{Read, accepted, dec16}
use Rattle.files.specs.Prefix.{Head, node, stop, done, fault}
use Rattle.files.specs.ReadPolicy.{head_at, pair_at}
use Rattle.files.specs.Reading.{node_in, told}
use Rattle.files.specs.Tags.{tag_named}
use Rattle.files.specs.Views.{accepted_or}
use Rattle.files.specs.declared.tag.Tag.{Tag}
use Rattle.files.proofs.Prefix.{Told}
use Rattle.files.proofs.PolicySteps.{Faulty, byte_laws}
use Rattle.text.specs.Converting.{met}

module _ (b : List ℕ) (s : Sort) (left at k : ℕ) {tag : Tag} where
  pub node_met : node_in (head_at 255 b s left at k) ≡ accepted tag → (met (head_at 255 b s left at k) ≡ accepted (tag, at + 1)) × (k < 255)
  node_met e = go (head_at 255 b s left at k) ((byte_laws 255 b).head_told s left tt at k) e
    where
      go : (h : Head s) → Told bytes 255 b (Faulty b) left tt at k h → node_in h ≡ accepted tag → (met h ≡ accepted (tag, at + 1)) × (k < 255)
      go (node n next) w e =
          let l = ap length w.bytes in
          let next_is : next ≡ at + 1 = omega (arith, w.inside, length-drop at b, length-drop next b) in
          let t : tag_named n ≡ tag = cc in
          (rw (next_is, t) refl, w.few)
      go (stop n p) w e = cc

pub pair_counted : (b : List ℕ) (at k : ℕ) {x : Pair} {next count : ℕ} → told (λ x. x) (pair_at b at k) ≡ accepted (x, next, count) → count ≡ k
unfolding pair_at
pair_counted b at k {x} {next} {count} = go (ltb (at + 3) (length b))
  where
    go : (c : Bool) → told (λ x. x) (cond c (done (dec16 b at, dec16 b (at + 2)) (at + 4) k) (fault 4 (length b))) ≡ accepted (x, next, count) → count ≡ k
    go true e = sym (ap (λ (r : Read (Pair × ℕ × ℕ)). (accepted_or {A = Pair × ℕ × ℕ} ((0, 0), 0, 0) r).2) e)
    go false e = cc
