-- search's promise leaves one outcome; the verdict is 0 exactly if the policy is resistant; and spelling out every or changes no verdict.
use mathlib.Core.Path.{◌≡◌, refl, subst}
use mathlib.Core.Logic.{◌↔◌}
use mathlib.Core.Bool.{cond}
use mathlib.Core.List.{List}
use Prim.Native.Nat.{ℕ}
use native.Mathlib.Omega.{arith}
use lib.Dec.{eqb}
use Rattle.ptacl.specs.Request.{Pair}
use Rattle.ptacl.specs.Term.{Policy}
use Rattle.ptacl.specs.Exposure.{Resistant}
use Rattle.ptacl.specs.Spelled.{spelled}
use Rattle.ptacl.proofs.Pairs.{pairs_unique}
use Rattle.ptacl.proofs.Exposed.{unexposed}
use Rattle.ptacl.proofs.First.{first_unique}
use Rattle.ptacl.proofs.Spelled.{spelled_resistant, spelled_first}
use Rattle.files.specs.Encoding.{Bytes, IsPolicy}
use Rattle.files.proofs.PolicyComplete.{policy_read_one}
use Rattle.sinkheron.specs.declared.Verdict.{Verdict}
use Rattle.sinkheron.specs.Answer.{Answer, success, OneOutcome}
use Rattle.sinkheron.specs.Search.{Values, values_of, answer_of, Judges, Searches, is_resistant, is_exposed}
use Rattle.sinkheron.specs.Ways.{holding, the, passes}
use Rattle.sinkheron.proofs.Ranges.{search_ranged}
use Rattle.sinkheron.proofs.OneOutcome.{One, one_outcome, policy_one, the_one, refused_if_one}

judges_one : {p : Policy} {ps : List Pair} {before : List ℕ} → One (Judges p ps before)
judges_one _ _ _ _ (is_resistant r) (is_resistant s) = refl
judges_one _ _ _ _ (is_resistant r) (is_exposed h) = absurd (unexposed r h.hit)
judges_one _ _ _ _ (is_exposed h) (is_resistant r) = absurd (unexposed r h.hit)
judges_one _ _ _ _ (is_exposed h) (is_exposed k) = let e = first_unique h k in rw (e.0, e.1)

abbrev verdict_of : Values → Verdict
verdict_of v = cond (eqb v.verdict 0) (Verdict.Resistant v.pairs) (Verdict.Exposed v.pairs v.subset v.hides v.bytes)

its : (v : Verdict) → verdict_of (values_of v) ≡ v
its (Verdict.Resistant k) = refl
its (Verdict.Exposed k m i b) = refl

-- whatever the bytes, one answer
pub search_same : {policy before : List ℕ} → One (Searches policy before)
search_same = policy_one (λ p. the_one (λ t u h k. pairs_unique h k) (λ ps. refused_if_one (refused_if_one judges_one)))

pub search_one : {policy before : List ℕ} → Bytes policy → OneOutcome answer_of (Searches policy before)
search_one b = one_outcome verdict_of values_of its search_same (search_ranged b)

-- where there is no refusal, resistant exactly as defined
pub verdict_means : {policy before after : List ℕ} {v : Values} {p : Policy} → IsPolicy policy p → Searches policy before (success v) after
    → (v.verdict ≡ 0) ↔ Resistant p
verdict_means {before = before} {p = p} f (holding {f = p'} g (the {t = ps} h (passes l (passes k j)))) = judged j
  where
    judged : {v : Values} {after : List ℕ} → Judges p' ps before (success v) after → (v.verdict ≡ 0) ↔ Resistant p
    judged (is_resistant r) = (λ e. subst Resistant (policy_read_one g f) r, λ k. refl)
    judged (is_exposed e) = (λ e. absurd (omega arith), λ r. absurd (unexposed (subst Resistant (policy_read_one f g) r) e.hit))

-- whatever a search may answer and leave in the space for a policy, it may for the policy with every or spelled out
pub spelled_judged : {p : Policy} {ps : List Pair} {before after : List ℕ} {a : Answer Values}
    → Judges (spelled p) ps before a after ↔ Judges p ps before a after
spelled_judged {p} {ps} {before} = (there, back)
  where
    there : {a : Answer Values} {after : List ℕ} → Judges (spelled p) ps before a after → Judges p ps before a after
    there (is_resistant r) = is_resistant ((spelled_resistant p).0 r)
    there (is_exposed f) = is_exposed ((spelled_first p).0 f)

    back : {a : Answer Values} {after : List ℕ} → Judges p ps before a after → Judges (spelled p) ps before a after
    back (is_resistant r) = is_resistant ((spelled_resistant p).1 r)
    back (is_exposed f) = is_exposed ((spelled_first p).1 f)
