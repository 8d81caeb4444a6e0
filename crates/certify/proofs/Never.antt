-- What the certifier's two walks tell of a policy, by its node and by what they tell of the policies below; below a not, the other walk.
use Prim.Native.Nat.{ℕ, ◌+◌, ◌-◌}
use mathlib.Core.Path.{◌≡◌, refl, ap}
use mathlib.Core.Bool.{Bool, true, false}
use mathlib.Core.List.{List}
use Rattle.ptacl.specs.Term.{target, policy}
use Rattle.ptacl.specs.Rules.{allows, denies, never, plain, given}
use Rattle.files.specs.Prefix.{scan}
use Rattle.files.specs.ReadPolicy.{head_at, in_bytes}
use Rattle.files.specs.Reading.{◌>>=◌, node_in, told}
use Rattle.files.specs.declared.tag.Tag.{Tag}
use Rattle.certify.specs.declared.missing.Missing.{Missing}
use Rattle.certify.specs.Missing.{missing_in, missing_at, missing_both, missing_with}
use Rattle.certify.specs.Judged.{allowing, denying, decided, allowing_two, never_denies_two}
use Rattle.certify.proofs.Policies.{Makes, policy_below, Made, policy_more}
use Rattle.certify.proofs.Plain.{target_lacks}

abbrev all : Missing
all = record { targeted = true; target_not = true; deny_by_default = true; policy_not = true }

-- ---- never allows

abbrev allowing_leaf : Tag → Bool × Missing × ℕ
allowing_leaf Tag.Deny = decided Tag.Deny true all 0
allowing_leaf tag = decided Tag.Allow false all 0

abbrev allowing_makes : Makes (Bool × Missing × ℕ) (Bool × Missing) Bool
allowing_makes = record {
  leaf = allowing_leaf;
  aimed = λ t x. decided Tag.Targeted x.0 (missing_with t x.1) 0;
  turned = λ x. decided Tag.PolicyNot x.0 x.1 0;
  one = λ x. decided Tag.DenyByDefault x.0 x.1 (given x.2 5);
  two = allowing_two;
}

allowing_made : Made allowing_makes allowing denying plain
allowing_made = record {
  denied = refl;
  allowed = refl;
  aimed = λ t p. ap (λ m. decided Tag.Targeted (never p allows) (missing_both m (missing_in p)) 0) (target_lacks t);
  turned = λ p. refl;
  one = λ p. refl;
  both = λ p r. refl;
  either = λ p r. refl;
}

pub allowing_more : (b : List ℕ) (left at k : ℕ) → told allowing (scan (in_bytes 255 b) left policy tt at k)
    ≡ (node_in (head_at 255 b policy left at k) >>= λ tag. policy_below allowing_makes tag
    (λ a m. told allowing (scan (in_bytes 255 b) (left - 1) policy tt a m))
    (λ a m. told denying (scan (in_bytes 255 b) (left - 1) policy tt a m))
    (λ a m. told plain (scan (in_bytes 255 b) (left - 1) target tt a m)) (at + 1) (k + 1))
allowing_more b left at k = policy_more allowing_makes allowing denying plain allowing_made b left at k

-- ---- never denies

abbrev denying_leaf : Tag → Bool × Missing
denying_leaf Tag.Allow = (true, missing_at Tag.Allow)
denying_leaf tag = (false, missing_at Tag.Deny)

abbrev denying_two : Tag → Bool × Missing → Bool × Missing → Bool × Missing
denying_two tag x y = (never_denies_two tag x.0 y.0, missing_both (missing_at tag) (missing_both x.1 y.1))

abbrev denying_makes : Makes (Bool × Missing) (Bool × Missing × ℕ) Bool
denying_makes = record {
  leaf = denying_leaf;
  aimed = λ t x. (x.0, missing_both (missing_at Tag.Targeted) (missing_with t x.1));
  turned = λ x. (x.0, missing_both (missing_at Tag.PolicyNot) x.1);
  one = λ x. (false, missing_both (missing_at Tag.DenyByDefault) x.1);
  two = denying_two;
}

denying_made : Made denying_makes denying allowing plain
denying_made = record {
  denied = refl;
  allowed = refl;
  aimed = λ t p. ap (λ m. (never p denies, missing_both (missing_at Tag.Targeted) (missing_both m (missing_in p)))) (target_lacks t);
  turned = λ p. refl;
  one = λ p. refl;
  both = λ p r. refl;
  either = λ p r. refl;
}

pub denying_more : (b : List ℕ) (left at k : ℕ) → told denying (scan (in_bytes 255 b) left policy tt at k)
    ≡ (node_in (head_at 255 b policy left at k) >>= λ tag. policy_below denying_makes tag
    (λ a m. told denying (scan (in_bytes 255 b) (left - 1) policy tt a m))
    (λ a m. told allowing (scan (in_bytes 255 b) (left - 1) policy tt a m))
    (λ a m. told plain (scan (in_bytes 255 b) (left - 1) target tt a m)) (at + 1) (k + 1))
denying_more b left at k = policy_more denying_makes denying allowing plain denying_made b left at k
