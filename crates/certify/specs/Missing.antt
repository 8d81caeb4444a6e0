-- Which of the nodes that the rules 2, 3 and 4 ask about a term has not.
use Rattle.std.specs.Prelude.{ℕ, Bool, not as no, ◌&&◌, cond, eqb}
use Rattle.ptacl.specs.Term.{Sort, target, policy, Term, a_targeted, a_not, a_default, without}
use Rattle.files.specs.Tags.{byte_of}
use Rattle.files.specs.declared.tag.Tag.{Tag}
use Rattle.certify.specs.declared.missing.Missing.{Missing}

abbrev pub missing_in : {s : Sort} → Term s → Missing
missing_in t = record {
  targeted = without a_targeted t;
  target_not = without (a_not target) t;
  deny_by_default = without (a_default policy) t;
  policy_not = without (a_not policy) t;
}

-- what a node alone has not
abbrev pub missing_at : Tag → Missing
missing_at tag = record {
  targeted = no (eqb (byte_of tag) (byte_of Tag.Targeted));
  target_not = no (eqb (byte_of tag) (byte_of Tag.TargetNot));
  deny_by_default = no (eqb (byte_of tag) (byte_of Tag.DenyByDefault));
  policy_not = no (eqb (byte_of tag) (byte_of Tag.PolicyNot));
}

-- what neither has
abbrev pub missing_both : Missing → Missing → Missing
missing_both x y = record {
  targeted = x.targeted && y.targeted;
  target_not = x.target_not && y.target_not;
  deny_by_default = x.deny_by_default && y.deny_by_default;
  policy_not = x.policy_not && y.policy_not;
}

-- what a target, plain or not, and a policy have not
abbrev pub missing_with : Bool → Missing → Missing
missing_with is_plain m = record m { target_not = is_plain && m.target_not }

-- the number of the first of the rules 2, 3 and 4 that applies, else 0
abbrev pub rule_by_missing : Missing → ℕ
rule_by_missing m = cond m.targeted 2 (cond (m.target_not && m.deny_by_default) 3 (cond (m.target_not && m.policy_not) 4 0))
