-- No rule has the number 0.
use Prim.Native.Nat.{ℕ}
use mathlib.Core.Path.{◌≡◌, refl}
use Rattle.ptacl.specs.Rules.{given}
use Rattle.certify.specs.Numbers.{rule_number}
use Rattle.certify.specs.declared.rule.Rule.{Rule}

pub rule_given : (r : Rule) (n : ℕ) → given (rule_number r) n ≡ n
rule_given Rule.NeverAllows n = refl
rule_given Rule.Untargeted n = refl
rule_given Rule.PlainWithoutDefault n = refl
rule_given Rule.WithoutNot n = refl
rule_given Rule.DefaultOfCertified n = refl
rule_given Rule.AndOfCertified n = refl
rule_given Rule.OrOfCertified n = refl
