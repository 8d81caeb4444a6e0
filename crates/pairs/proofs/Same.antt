-- The pairs of a policy and the normal form of a request depend only on which pairs the atoms hold.
use Prim.Native.Nat.{ℕ}
use mathlib.Core.Path.{◌≡◌, refl, sym, ◌∙◌}
use mathlib.Core.Bool.{not, ◌&&◌, ◌||◌}
use mathlib.Core.List.{List, [], ◌∷◌}
use Rattle.ptacl.specs.Request.{Pair, Request, holds, Within}
use Rattle.ptacl.specs.Pairs.{all_below, fresh, named_or_fresh, IsPairs, unnamed, normal, IsNormal}
use Rattle.ptacl.proofs.Bools.{iff}
use Rattle.ptacl.proofs.Requests.{has_up}

module _ (a b : List Pair) (same : (x : Pair) → holds a x ≡ holds b x) where
  within : Within a b
  within = record { up = λ x h. sym (same x) ∙ h }

  back : Within b a
  back = record { up = λ x h. same x ∙ h }

  fresh_same : (x : Pair) → fresh a x ≡ fresh b x
  fresh_same x = λ i. iff (has_up within x.0) (has_up back x.0) i && (not (same x i) && all_below (λ v. same (x.0, v) i) x.1)

  unnamed_same : (q : Request) (n : ℕ) → unnamed a q n ≡ unnamed b q n
  unnamed_same [] n = refl
  unnamed_same (y ∷ q) n = rw (same y, unnamed_same q n)

  pub pairs_same : {ps : List Pair} → IsPairs a ps → IsPairs b ps
  unfolding named_or_fresh
  pairs_same h = record { ordered = h.ordered; members = λ x. h.members x ∙ (λ i. same x i || fresh_same x i) }

  pub normal_same : {q r : Request} → IsNormal a q r → IsNormal b q r
  unfolding normal
  normal_same {q} h = record {
    ordered = h.ordered;
    members = λ x. h.members x ∙ (λ i. same x i && holds q x || fresh_same x i && unnamed_same q x.0 i);
  }
