-- What a term comes to, as one number for both sorts, and what a node makes of such numbers: for every engine that evaluates.
use Rattle.std.specs.Prelude.{ℕ, ◌==◌, if◌then◌else◌}
use Rattle.ptacl.specs.Value.{Value, v1, v0, v_u, not_v, default_v, and_v, or_v}
use Rattle.ptacl.specs.Values.{single, each, each2, under, code, set_of}
use Rattle.ptacl.specs.Request.{Request}
use Rattle.ptacl.specs.Term.{Sort, target, policy, Term}
use Rattle.ptacl.specs.Meaning.{Meaning, atom_at, eval}
use Rattle.files.specs.Reading.{Steps}
use Rattle.files.specs.declared.tag.Tag.{Tag}

-- what a term comes to, as the code of a set: a target's is that of the set of its value alone
abbrev pub code_of : (s : Sort) → Meaning s → ℕ
code_of target v = code (single v)
code_of policy x = code x

abbrev pub worth : Request → {s : Sort} → Term s → ℕ
worth q {s} t = code_of s (eval t q)

-- the value of which a set alone has this code
abbrev pub member : ℕ → Value
member c = if c == 1 then v1 else if c == 2 then v0 else v_u

-- what a node makes of the codes below it
abbrev pub leaf_code : Tag → ℕ
leaf_code Tag.Allow = code (single v1)
leaf_code tag = code (single v0)

abbrev pub one_code : Tag → ℕ → ℕ
one_code Tag.TargetNot c = code (each not_v (set_of c))
one_code Tag.PolicyNot c = code (each not_v (set_of c))
one_code tag c = code (each default_v (set_of c))

abbrev pub two_code : Tag → ℕ → ℕ → ℕ
two_code Tag.Targeted c d = code (under (member c) (set_of d))
two_code Tag.TargetAnd c d = code (each2 and_v (set_of c) (set_of d))
two_code Tag.PolicyAnd c d = code (each2 and_v (set_of c) (set_of d))
two_code tag c d = code (each2 or_v (set_of c) (set_of d))

abbrev pub worth_steps : Request → Steps ℕ
worth_steps q = record { numbers = λ n v. code (single (atom_at q n v)); leaf = leaf_code; one = one_code; two = two_code }
