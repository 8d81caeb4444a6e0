-- Which bytes are tags, of which sort and node.
use Prim.Native.Nat.{ℕ}
use mathlib.Core.Path.{◌≡◌, refl, sym, ap, subst, ◌∙◌}
use mathlib.Core.Bool.{Bool, true, false, true≢false}
use mathlib.Core.List.{List, [], ◌∷◌}
use lib.Dec.{eqb}
use borrow.Author.Tests.{eqb-true}
use Rattle.ptacl.specs.Term.{Sort, target, policy, Node, an_atom, a_deny, an_allow, a_targeted, a_not, a_default, an_and, an_or, tag_of}
use Rattle.ptacl.proofs.Bools.{either}
use Rattle.ptacl.proofs.Finite.{at_node}
use Rattle.files.specs.ReadPolicy.{other_sort, Byte, tag, other, unknown, find, nodes_of, byte_at}

-- a property of what is found, by the test that it meets
pub found : {s : Sort} {A : Type 0} (P : A → Type 0) (test : Node s → Bool) {is : Node s → A} {none : A} (ns : List (Node s))
    → ((n : Node s) → test n ≡ true → P (is n)) → P none → P (find test is ns none)
found P test [] f g = g
found P test (n ∷ ns) f g = either (test n) (λ e. rw e (f n e)) (λ e. rw e (found P test ns f g))

-- what holds of the node that stands there, if one does
abbrev pub OfNode : ((r : Sort) → Node r → Type 0) → {s : Sort} → Byte s → Type 0
OfNode P {s} (tag n) = P s n
OfNode P {s} (other n) = P (other_sort s) n
OfNode P unknown = Unit {0}

-- a property of what a byte is, by its cases
byte_told : (s : Sort) (b : ℕ) (P : Byte s → Type 0) → ((n : Node s) → b ≡ tag_of n → P (tag n))
    → ((n : Node (other_sort s)) → b ≡ tag_of n → P (other n)) → P unknown → P (byte_at s b)
unfolding byte_at
byte_told s b P f g h =
    found P (λ n. eqb b (tag_of n)) (nodes_of s) (λ n e. f n (eqb-true b (tag_of n) e))
    (found P (λ n. eqb b (tag_of n)) (nodes_of (other_sort s)) (λ n e. g n (eqb-true b (tag_of n) e)) h)

-- a tag is the byte of its node
pub byte_node : (s : Sort) (b : ℕ) → OfNode (λ r n. b ≡ tag_of n) (byte_at s b)
byte_node s b = byte_told s b (OfNode (λ r n. b ≡ tag_of n)) (λ n e. e) (λ n e. e) tt

pub byte_found : (s : Sort) (b : ℕ) (n : Node s) → byte_at s b ≡ tag n → b ≡ tag_of n
byte_found s b n e = subst (OfNode (λ r n. b ≡ tag_of n)) e (byte_node s b)

pub byte_other : (s : Sort) (b : ℕ) (n : Node (other_sort s)) → byte_at s b ≡ other n → b ≡ tag_of n
byte_other s b n e = subst (OfNode (λ r n. b ≡ tag_of n)) e (byte_node s b)

-- every node is known by its byte
pub known : {s : Sort} (n : Node s) → byte_at s (tag_of n) ≡ tag n
unfolding byte_at
known an_atom = refl
known a_deny = refl
known an_allow = refl
known a_targeted = refl
known (a_not target) = refl
known (a_not policy) = refl
known (a_default target) = refl
known (a_default policy) = refl
known (an_and target) = refl
known (an_and policy) = refl
known (an_or target) = refl
known (an_or policy) = refl

-- so a byte is that of one node of the sort
pub same_node : {s : Sort} (m n : Node s) → tag_of m ≡ tag_of n → m ≡ n
same_node {s} m n e = go (sym (known m) ∙ ap (byte_at s) e ∙ known n)
  where
    go : tag m ≡ tag n → m ≡ n
    go e = cc

-- ---- a node's byte is no unknown one, whichever sort is due

abbrev pub is_known : {s : Sort} → Byte s → Bool
is_known (tag n) = true
is_known (other n) = true
is_known unknown = false

pub never_unknown : (s r : Sort) (n : Node r) → byte_at s (tag_of n) ≡ unknown → ⊥
unfolding byte_at
never_unknown target r n e = true≢false (sym (at_node (λ r n. is_known (byte_at target (tag_of n))) refl n) ∙ ap (λ x. is_known x) e)
never_unknown policy r n e = true≢false (sym (at_node (λ r n. is_known (byte_at policy (tag_of n))) refl n) ∙ ap (λ x. is_known x) e)
