-- The numbers of the rules, and of a certificate: 0 where there is none.
use Rattle.std.specs.Prelude.{ℕ, Option, Some, None}
use Rattle.certify.specs.declared.rule.Rule.{Rule}

abbrev pub rule_number : Rule → ℕ
rule_number Rule.NeverAllows = 1
rule_number Rule.Untargeted = 2
rule_number Rule.PlainWithoutDefault = 3
rule_number Rule.WithoutNot = 4
rule_number Rule.DefaultOfCertified = 5
rule_number Rule.AndOfCertified = 6
rule_number Rule.OrOfCertified = 7

abbrev pub number_of : Option Rule → ℕ
number_of None = 0
number_of (Some rule) = rule_number rule
