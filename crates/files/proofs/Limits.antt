-- The pairs of a policy within the limits are in range. So the files of its normal forms and of the subsets of its pairs are request
-- files within the limits; and it is resistant exactly if it is so over names and values up to 65,535.
use Prim.Native.Nat.{ℕ, ◌-◌, ◌^◌, ◌<◌}
use mathlib.Core.Path.{◌≡◌, refl, sym, subst, ◌∙◌}
use mathlib.Core.Logic.{◌↔◌, ⊎_elim}
use mathlib.Core.Bool.{true}
use mathlib.Core.List.{List, [], ◌∷◌}
use native.Mathlib.Omega.{arith}
use Rattle.ptacl.specs.Request.{Pair, Request, same_pair, holds, Within}
use Rattle.ptacl.specs.Term.{Policy, atoms}
use Rattle.ptacl.specs.Pairs.{named, fresh, named_or_fresh, normal, IsPairs, IsNormal}
use Rattle.ptacl.specs.Exposure.{Reading, ResistantBy, subset}
use Rattle.ptacl.proofs.Bools.{clash, and_left, or_right, or_split}
use Rattle.ptacl.proofs.Requests.{found, holds_head, has_holds}
use Rattle.ptacl.proofs.Count.{within_length}
use Rattle.ptacl.proofs.Pairs.{pairs_of, pairs_exist, pairs_254, fresh_127}
use Rattle.ptacl.proofs.Normal.{normal_unique}
use Rattle.ptacl.proofs.Subset.{subset_within, subset_ascending, less_within, mask, normal_subset}
use Rattle.ptacl.proofs.Exposed.{Lawful, resistant_fewer, resistant_by_iff, resistant_iff}
use Rattle.files.specs.Encoding.{InRange, Fits, FitsRequest, request_file, IsRequest}
use Rattle.files.specs.Bounded.{WithinRange}

abbrev Small : Pair → Type 0
Small x = (x.0 < 65536) × (x.1 < 65536)

range_at : (xs : List Pair) → InRange xs → (x : Pair) → holds xs x ≡ true → Small x
unfolding InRange
range_at [] r x h = clash h refl
range_at (y ∷ xs) r x h = found y xs x (λ e. subst Small e (r.0, r.1)) (range_at xs r.2 x) h

range_all : (xs : List Pair) → ((x : Pair) → holds xs x ≡ true → Small x) → InRange xs
unfolding InRange
range_all [] f = tt
range_all (y ∷ xs) f = let s = f y (holds_head y xs) in (s.0, s.1, range_all xs (λ x h. f x (or_right (same_pair y x) h)))

range_within : {q' q : Request} → Within q' q → InRange q → InRange q'
range_within {q'} {q} w r = range_all q' (λ x h. range_at q r x (w.up x h))

module _ {p : Policy} (f : Fits p) where
  fresh_range : (x : Pair) → fresh (atoms p) x ≡ true → Small x
  fresh_range x h =
      let v = has_holds (atoms p) x.0 (and_left _ h) in
      ((range_at (atoms p) f.range (x.0, v.0) v.1).0, omega (arith, fresh_127 p f.few x h))

  module _ {ps : List Pair} (h : IsPairs (atoms p) ps) where
    pairs_range : InRange ps
    unfolding named_or_fresh
    pairs_range = range_all ps (λ x k.
        ⊎_elim (range_at (atoms p) f.range x) (fresh_range x) (or_split (named (atoms p) x) (sym (h.members x) ∙ k)))

    pub subset_fits : (m : ℕ) → FitsRequest (subset ps m)
    subset_fits m =
        let a = subset_ascending ps h.ordered m in
        let w = subset_within ps m in
        record {
          few = omega (arith, within_length (subset ps m) ps a w, pairs_254 p f.few h);
          ordered = a;
          range = range_within w pairs_range;
        }

  abbrev all : List Pair
  all = pairs_of (atoms p)

  has_all : IsPairs (atoms p) all
  has_all = pairs_exist (atoms p)

  -- a normal form is a subset of the pairs
  pub normal_fits : {q r : Request} → IsNormal (atoms p) q r → FitsRequest r
  normal_fits {q} n = subst FitsRequest (normal_unique (normal_subset has_all q) n) (subset_fits has_all (mask (normal (atoms p) q) all))

  -- over numbers of any size, or over those of a file: the same
  in_range : Lawful WithinRange all
  in_range = record {
    within = λ q' q w. w.within;
    one_less = λ m i b. record {
      within = less_within all m i b;
      smaller = (subset_fits has_all (m - 2 ^ i)).range;
      larger = (subset_fits has_all m).range;
    };
  }

  pub resistant_in_range : {g : Reading} → ResistantBy Within g p ↔ ResistantBy WithinRange g p
  resistant_in_range = (resistant_fewer (λ q' q w. w.within), λ r. (resistant_iff has_all).0 ((resistant_by_iff in_range has_all).1 r))

pub fits_file : {q : Request} → FitsRequest q → IsRequest (request_file q) q
fits_file f = record { file = refl; fits = f }
