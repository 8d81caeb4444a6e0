-- What search and normal_form write is read back by decide: an exposure's two files come apart, a normal form comes to the same set.
use Prim.Native.Nat.{ℕ, ◌-◌, ◌^◌}
use mathlib.Core.Path.{◌≡◌, sym, ap, subst, ◌∙◌}
use mathlib.Core.List.{List}
use lib.ListN.{length, take}
use borrow.Author.Tests.{eq-eqb, eqb-true}
use native.Mathlib.Omega.{arith}
use Rattle.ptacl.specs.Request.{Pair, Request}
use Rattle.ptacl.specs.Values.{code}
use Rattle.ptacl.specs.Term.{Policy, atoms}
use Rattle.ptacl.specs.Meaning.{eval}
use Rattle.ptacl.specs.Pairs.{IsPairs}
use Rattle.ptacl.specs.Exposure.{subset, Exposure}
use Rattle.ptacl.proofs.Bools.{clash}
use Rattle.ptacl.proofs.Codes.{allow_code}
use Rattle.ptacl.proofs.Normal.{eval_normal}
use Rattle.ptacl.proofs.Rules.{nonempty}
use Rattle.ptacl.proofs.Subset.{less_within}
use Rattle.files.specs.Encoding.{request_file, IsPolicy, IsRequest}
use Rattle.files.specs.Memory.{over}
use Rattle.files.proofs.Memory.{over_front}
use Rattle.files.proofs.Limits.{subset_fits, normal_fits, fits_file}
use Rattle.search.specs.Found.{two_files, exposure_files}
use Rattle.sinkheron.specs.Answer.{Answer, success, value}
use Rattle.sinkheron.specs.Ways.{Writes, holding, the, passes, gives}
use Rattle.sinkheron.specs.Decide.{Decides}
use Rattle.sinkheron.specs.NormalForm.{Normalises}
use Rattle.sinkheron.specs.Search.{Values, Judges, Searches, is_resistant, is_exposed}
use Rattle.sinkheron.specs.Handed.{Handed, ReadBack}
use Rattle.sinkheron.proofs.DecideOne.{decide_same}

-- a request file comes to its policy's set
decided : {s t : List ℕ} {p : Policy} {q : Request} → IsPolicy s p → IsRequest t q → Decides s t (success (code (eval p q))) tt
decided {p = p} {q = q} f g = holding f (holding g (passes (nonempty p q) gives))

-- and to no other
decided_only : {s t : List ℕ} {p : Policy} {q : Request} {x : Answer ℕ} → IsPolicy s p → IsRequest t q → Decides s t x tt
    → success (code (eval p q)) ≡ x
decided_only f g d = ap (λ z. z.0) (decide_same _ _ _ _ (decided f g) d)

module _ {policy : List ℕ} {p : Policy} {ps : List Pair} {m i : ℕ} (f : IsPolicy policy p) (h : IsPairs (atoms p) ps) (e : Exposure p ps m i) where
  handed : (before : List ℕ) → Handed policy (over (exposure_files ps m i) before) (length (exposure_files ps m i))
  unfolding two_files
  handed before =
      let small = fits_file (subset_fits f.fits h (m - 2 ^ i)) in
      let large = fits_file (subset_fits f.fits h m) in
      record {
        smaller = request_file (subset ps (m - 2 ^ i));
        larger = request_file (subset ps m);
        files = over_front _ before;
        less = subset ps (m - 2 ^ i);
        more = subset ps m;
        smaller_file = small;
        larger_file = large;
        within = less_within ps m i e.taken;
        released = subst (λ k. Decides policy (request_file (subset ps (m - 2 ^ i))) (success k) tt)
            (eqb-true _ 1 (sym (allow_code _) ∙ e.smaller)) (decided f small);
        held = λ d. clash (allow_code _ ∙ eq-eqb _ 1 (ap (value (λ k. k)) (decided_only f large d))) e.larger;
      }

-- the theorem: an exposed answer hands over two such files
pub exposure_handed : {policy before after : List ℕ} {v : Values} → Searches policy before (success v) after → v.verdict ≡ 1 → Handed policy after v.bytes
exposure_handed {policy} {before} (holding {f = p} f (the {t = ps} h (passes l (passes k j)))) = judged j
  where
    judged : {v : Values} {after : List ℕ} → Judges p ps before (success v) after → v.verdict ≡ 1 → Handed policy after v.bytes
    judged (is_resistant r) z = absurd (omega arith)
    judged (is_exposed e) z = handed f h e.hit _

-- the normal form's bytes are a request file within the limits, and decide answers for it as for the request
pub normal_form_read : {policy request before after : List ℕ} {k : ℕ} → Normalises policy request before (success k) after
    → ReadBack policy request (take k after)
normal_form_read {policy} {request} {before} (holding {f = p} f (holding {f = q} g (the {t = r} n w))) = written w
  where
    file : IsRequest (request_file r) r
    file = fits_file (normal_fits f.fits n)

    same : (x : Answer ℕ) → Decides policy request x tt → Decides policy (request_file r) x tt
    same x d =
        subst (λ z. Decides policy (request_file r) z tt) (ap (λ v. success (code v)) (eval_normal p n) ∙ decided_only f g d) (decided f file)

    written : {k : ℕ} {after : List ℕ} → Writes (request_file r) before (success k) after → ReadBack policy request (take k after)
    written (passes l gives) = rw (over_front (request_file r) before) (record { normal = r; file = file; same = same })
