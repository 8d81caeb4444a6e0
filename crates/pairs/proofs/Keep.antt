-- The normal form: the policy's pairs that pass the test.
use mathlib.Core.Path.{◌≡◌, refl, sym, ap, ap₂, subst, ◌∙◌}
use mathlib.Core.Bool.{Bool, true, false, cond, ◌&&◌, ◌||◌, or-false}
use mathlib.Core.List.{List, [], ◌∷◌, map}
use Rattle.std.specs.List.{filter}
use Rattle.ptacl.specs.Request.{Pair, Request, same_pair, holds}
use Rattle.ptacl.specs.Pairs.{named, fresh, named_or_fresh, IsPairs, unnamed, normal, IsNormal}
use Rattle.ptacl.specs.Exposure.{subset}
use Rattle.ptacl.proofs.Bools.{either, clash, refute, or_right}
use Rattle.ptacl.proofs.Requests.{holds_head}
use Rattle.ptacl.proofs.Fresh.{fresh_unnamed}
use Rattle.ptacl.proofs.Bits.{put, put_odd, put_half}
use Rattle.ptacl.proofs.Subset.{mask, normal_subset}
use Rattle.files.specs.Tags.{pair_of}
use Rattle.files.specs.declared.pair.Pair.{Pair as PairC}
use Rattle.pairs.specs.Lists.{Named, kept}
use Rattle.pairs.proofs.Same.{normal_same}

-- one of the policy's pairs is in the normal form exactly if it is kept
module _ (ats : List Pair) (q : Request) (x : Pair) where
  keep_named : named ats x ≡ true → normal ats q x ≡ holds q x
  unfolding normal
  keep_named h =
      let f : fresh ats x ≡ false = refute (λ k. clash h (fresh_unnamed ats x k)) in
      (λ i. h i && holds q x || f i && unnamed ats q x.0) ∙ or-false (holds q x)

  keep_fresh : named_or_fresh ats x ≡ true → named ats x ≡ false → normal ats q x ≡ unnamed ats q x.0
  unfolding normal named_or_fresh
  keep_fresh o h =
      let f : fresh ats x ≡ true = sym (λ i. h i || fresh ats x) ∙ o in
      λ i. h i && holds q x || f i && unnamed ats q x.0

  kept_normal : named_or_fresh ats x ≡ true → kept ats q x ≡ normal ats q x
  kept_normal o = either (named ats x)
      (λ h. ap (λ b. cond b (holds q x) (unnamed ats q x.0)) h ∙ sym (keep_named h))
      (λ h. ap (λ b. cond b (holds q x) (unnamed ats q x.0)) h ∙ sym (keep_fresh o h))

-- the pairs that pass a test, by the number of that subset
filter_subset : (f : Pair → Bool) (xs : List PairC) → map pair_of (filter (λ p. f (pair_of p)) xs) ≡ subset (map pair_of xs) (mask f (map pair_of xs))
filter_subset f [] = refl
filter_subset f (x ∷ xs) =
    rw (put_odd (f (pair_of x)) (mask f (map pair_of xs)), put_half (f (pair_of x)) (mask f (map pair_of xs)))
    (either (f (pair_of x)) (λ h. rw (h, filter_subset f xs)) (λ h. rw (h, filter_subset f xs)))

mask_same : (f g : Pair → Bool) (ps : List Pair) → ((x : Pair) → holds ps x ≡ true → f x ≡ g x) → mask f ps ≡ mask g ps
mask_same f g [] h = refl
mask_same f g (x ∷ ps) h = ap₂ put (h x (holds_head x ps)) (mask_same f g ps (λ z k. h z (or_right (same_pair x z) k)))

pub kept_all : {ats : List Pair} (named_pairs pairs : List PairC) (q : Request) → Named ats (map pair_of named_pairs)
    → IsPairs (map pair_of named_pairs) (map pair_of pairs)
    → IsNormal ats q (map pair_of (filter (λ p. kept (map pair_of named_pairs) q (pair_of p)) pairs))
kept_all {ats} named_pairs pairs q n h =
    let l = map pair_of named_pairs in
    let same = mask_same (kept l q) (normal l q) (map pair_of pairs) (λ x k. kept_normal l q x (sym (h.members x) ∙ k)) in
    normal_same l ats n.members
    (subst (IsNormal l q) (sym (filter_subset (kept l q) pairs ∙ ap (subset (map pair_of pairs)) same)) (normal_subset h q))
