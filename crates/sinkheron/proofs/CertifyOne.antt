-- certify's promise leaves one outcome; and a number other than 0 means resistant.
use mathlib.Core.Path.{◌≡◌, refl}
use mathlib.Core.List.{List}
use Prim.Native.Nat.{ℕ}
use Rattle.std.specs.Prelude.{◌==◌, if◌then◌else◌, Option, Some, None}
use Rattle.ptacl.specs.Term.{Policy}
use Rattle.ptacl.specs.Exposure.{Resistant}
use Rattle.ptacl.proofs.Cert.{certificate_unique, certificate_resistant}
use Rattle.files.specs.Encoding.{Bytes, IsPolicy}
use Rattle.files.proofs.PolicyComplete.{policy_read_one}
use Rattle.certify.specs.Numbers.{rule_number, number_of}
use Rattle.certify.specs.declared.rule.Rule.{Rule}
use Rattle.sinkheron.specs.Answer.{success, OneOutcome}
use Rattle.sinkheron.specs.Ways.{holding, the, gives}
use Rattle.sinkheron.specs.Certify.{answer_of, Certifies}
use Rattle.sinkheron.proofs.Ranges.{certify_ranged}
use Rattle.sinkheron.proofs.OneOutcome.{One, one_outcome, policy_one, the_one, gives_one}

-- the rule of a number
abbrev rule_of : ℕ → Option Rule
rule_of k =
    if k == 0 then None
    else if k == 1 then Some Rule.NeverAllows
    else if k == 2 then Some Rule.Untargeted
    else if k == 3 then Some Rule.PlainWithoutDefault
    else if k == 4 then Some Rule.WithoutNot
    else if k == 5 then Some Rule.DefaultOfCertified
    else if k == 6 then Some Rule.AndOfCertified
    else Some Rule.OrOfCertified

rule_back : (r : Rule) → rule_of (rule_number r) ≡ Some r
rule_back Rule.NeverAllows = refl
rule_back Rule.Untargeted = refl
rule_back Rule.PlainWithoutDefault = refl
rule_back Rule.WithoutNot = refl
rule_back Rule.DefaultOfCertified = refl
rule_back Rule.AndOfCertified = refl
rule_back Rule.OrOfCertified = refl

its : (r : Option Rule) → rule_of (number_of r) ≡ r
its None = refl
its (Some r) = rule_back r

-- whatever the bytes, one answer
pub certify_same : {policy : List ℕ} → One (Certifies policy)
certify_same = policy_one (λ p. the_one (λ j k c d. certificate_unique c d) (λ k. gives_one))

pub certify_one : {policy : List ℕ} → Bytes policy → OneOutcome answer_of (Certifies policy)
certify_one b = one_outcome rule_of number_of its certify_same (certify_ranged b)

pub certified_resistant : {policy : List ℕ} {p : Policy} {k : ℕ} → IsPolicy policy p → Certifies policy (success k) tt → (k ≡ 0 → ⊥) → Resistant p
certified_resistant f (holding g (the c gives)) z = rw (policy_read_one f g) (certificate_resistant c z)
