-- Whether a target is plain, by its node and by whether the targets below it are; and what else a target has not.
use Prim.Native.Nat.{ℕ, ◌+◌, ◌-◌}
use mathlib.Core.Path.{◌≡◌, refl, ap, ap₂}
use mathlib.Core.Bool.{Bool, true, false, ◌&&◌}
use mathlib.Core.List.{List}
use Rattle.ptacl.specs.Term.{Sort, target, policy, Term, atom, not, default, and, or, Node, an_atom, a_deny, an_allow, a_targeted, a_not, a_default, an_and, an_or, shape}
use Rattle.ptacl.specs.Rules.{plain}
use Rattle.files.specs.Prefix.{scan}
use Rattle.files.specs.ReadPolicy.{head_at, in_bytes}
use Rattle.files.specs.Reading.{◌>>=◌, node_in, told, Steps, told_below}
use Rattle.files.specs.declared.tag.Tag.{Tag}
use Rattle.files.proofs.Terms.{Comes, told_more}
use Rattle.certify.specs.Missing.{missing_in, missing_at, missing_both}

abbrev one_plain : Tag → Bool → Bool
one_plain Tag.TargetNot x = false
one_plain tag x = x

abbrev plain_steps : Steps Bool
plain_steps = record { numbers = λ n v. true; leaf = λ tag. true; one = one_plain; two = λ tag x y. x && y }

law : (s : Sort) (n : Node s) → Comes (λ s t. plain t) plain_steps n (shape n)
law target an_atom = λ n v. refl
law policy a_deny = refl
law policy an_allow = refl
law policy a_targeted = λ t p. refl
law target (a_not target) = λ t. refl
law policy (a_not policy) = λ t. refl
law target (a_default target) = λ t. refl
law policy (a_default policy) = λ t. refl
law target (an_and target) = λ t u. refl
law policy (an_and policy) = λ t u. refl
law target (an_or target) = λ t u. refl
law policy (an_or policy) = λ t u. refl

pub plain_more : (b : List ℕ) (s : Sort) (left at k : ℕ) → told plain (scan (in_bytes 255 b) left s tt at k)
    ≡ (node_in (head_at 255 b s left at k) >>= λ tag. told_below plain_steps tag s b (λ r a m. told plain (scan (in_bytes 255 b) (left - 1) r tt a m)) (at + 1) (k + 1))
plain_more b s left at k = told_more (λ s t. plain t) plain_steps law b s left at k

-- of the nodes that the rules ask about a target can have a not alone
pub target_lacks : (t : Term target) → missing_in t ≡ record { targeted = true; target_not = plain t; deny_by_default = true; policy_not = true }
target_lacks (atom n v) = refl
target_lacks (not t) = ap (missing_both (missing_at Tag.TargetNot)) (target_lacks t)
target_lacks (default t) = ap (missing_both (missing_at Tag.TargetOptional)) (target_lacks t)
target_lacks (and t u) = ap₂ (λ m n. missing_both (missing_at Tag.TargetAnd) (missing_both m n)) (target_lacks t) (target_lacks u)
target_lacks (or t u) = ap₂ (λ m n. missing_both (missing_at Tag.TargetOr) (missing_both m n)) (target_lacks t) (target_lacks u)
