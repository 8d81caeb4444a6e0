-- What the certifier's walks tell of a policy.
use Rattle.std.specs.Prelude.{ℕ, Bool, ◌&&◌, ◌||◌, cond}
use Rattle.ptacl.specs.Term.{Policy}
use Rattle.ptacl.specs.Rules.{allows, denies, never, certificate, given}
use Rattle.files.specs.declared.tag.Tag.{Tag}
use Rattle.certify.specs.declared.missing.Missing.{Missing}
use Rattle.certify.specs.declared.judged.Judged.{Judged}
use Rattle.certify.specs.Missing.{missing_in, missing_at, missing_both}
use Rattle.certify.specs.Numbers.{number_of}

-- whether it never allows, what it has not, its certificate
abbrev pub allowing : Policy → Bool × Missing × ℕ
allowing p = (never p allows, missing_in p, certificate p)

-- whether it never denies, what it has not
abbrev pub denying : Policy → Bool × Missing
denying p = (never p denies, missing_in p)

-- what the code holds of it
abbrev pub seen : Bool → Judged → Bool × Missing × ℕ
seen never judged = (never, judged.missing, number_of judged.rule)

-- of a node, by whether it never allows, what is missing below it, and the number by the policies below it
abbrev pub decided : Tag → Bool → Missing → ℕ → Bool × Missing × ℕ
decided tag n below k =
    let m = missing_both (missing_at tag) below in
    (n, m, cond n 1 (cond m.targeted 2 (cond (m.target_not && m.deny_by_default) 3 (cond (m.target_not && m.policy_not) 4 k))))

-- of an and, or else an or, by what is told of both sides
abbrev pub allowing_two : Tag → Bool × Missing × ℕ → Bool × Missing × ℕ → Bool × Missing × ℕ
allowing_two Tag.PolicyAnd x y = decided Tag.PolicyAnd (x.0 || y.0) (missing_both x.1 y.1) (given x.2 (given y.2 6))
allowing_two tag x y = decided tag (x.0 && y.0) (missing_both x.1 y.1) (given x.2 (given y.2 7))

-- whether it never denies, by whether both sides never do
abbrev pub never_denies_two : Tag → Bool → Bool → Bool
never_denies_two Tag.PolicyAnd x y = x && y
never_denies_two tag x y = x || y
