-- The code's sorts, nodes and pairs: what of the definitions each stands for.
use Rattle.std.specs.Prelude.{ℕ, ◌≡◌, List, Result, Ok, Err}
use Rattle.ptacl.specs.Request.{Pair}
use Rattle.ptacl.specs.Term.{Sort, target, policy, Node, an_atom, a_deny, an_allow, a_targeted, a_not, a_default, an_and, an_or}
use Rattle.files.specs.Refusal.{dec16}
use Rattle.files.specs.declared.tag.Sort.{Sort as SortC}
use Rattle.files.specs.declared.tag.Shape.{Shape}
use Rattle.files.specs.declared.tag.Tag.{Tag}
use Rattle.files.specs.declared.tag.NoTag.{NoTag}
use Rattle.files.specs.declared.pair.Pair.{Pair as PairC}

abbrev pub sort_of : SortC → Sort
sort_of SortC.Target = target
sort_of SortC.Policy = policy

-- the name of a node
abbrev pub tag_named : {s : Sort} → Node s → Tag
tag_named an_atom = Tag.TargetAtom
tag_named (a_not target) = Tag.TargetNot
tag_named (a_default target) = Tag.TargetOptional
tag_named (an_and target) = Tag.TargetAnd
tag_named (an_or target) = Tag.TargetOr
tag_named a_deny = Tag.Deny
tag_named an_allow = Tag.Allow
tag_named a_targeted = Tag.Targeted
tag_named (a_not policy) = Tag.PolicyNot
tag_named (a_default policy) = Tag.DenyByDefault
tag_named (an_and policy) = Tag.PolicyAnd
tag_named (an_or policy) = Tag.PolicyOr

abbrev pub byte_of : Tag → ℕ
byte_of Tag.TargetAtom = 0x10
byte_of Tag.TargetNot = 0x11
byte_of Tag.TargetOptional = 0x12
byte_of Tag.TargetAnd = 0x13
byte_of Tag.TargetOr = 0x14
byte_of Tag.Deny = 0x20
byte_of Tag.Allow = 0x21
byte_of Tag.Targeted = 0x22
byte_of Tag.PolicyNot = 0x23
byte_of Tag.DenyByDefault = 0x24
byte_of Tag.PolicyAnd = 0x25
byte_of Tag.PolicyOr = 0x26

abbrev pub tag_sort : Tag → SortC
tag_sort Tag.TargetAtom = SortC.Target
tag_sort Tag.TargetNot = SortC.Target
tag_sort Tag.TargetOptional = SortC.Target
tag_sort Tag.TargetAnd = SortC.Target
tag_sort Tag.TargetOr = SortC.Target
tag_sort Tag.Deny = SortC.Policy
tag_sort Tag.Allow = SortC.Policy
tag_sort Tag.Targeted = SortC.Policy
tag_sort Tag.PolicyNot = SortC.Policy
tag_sort Tag.DenyByDefault = SortC.Policy
tag_sort Tag.PolicyAnd = SortC.Policy
tag_sort Tag.PolicyOr = SortC.Policy

abbrev pub tag_shape : Tag → Shape
tag_shape Tag.TargetAtom = Shape.Numbers
tag_shape Tag.TargetNot = Shape.One
tag_shape Tag.TargetOptional = Shape.One
tag_shape Tag.TargetAnd = Shape.Two SortC.Target
tag_shape Tag.TargetOr = Shape.Two SortC.Target
tag_shape Tag.Deny = Shape.Leaf
tag_shape Tag.Allow = Shape.Leaf
tag_shape Tag.Targeted = Shape.Two SortC.Target
tag_shape Tag.PolicyNot = Shape.One
tag_shape Tag.DenyByDefault = Shape.One
tag_shape Tag.PolicyAnd = Shape.Two SortC.Policy
tag_shape Tag.PolicyOr = Shape.Two SortC.Policy

-- the byte's tag; no tag has it
abbrev pub Decodes : ℕ → Result Tag NoTag → Type 0
Decodes b (Ok tag) = b ≡ byte_of tag
Decodes b (Err e) = (tag : Tag) → b ≡ byte_of tag → ⊥

abbrev pub pair_of : PairC → Pair
pair_of p = (p.name, p.value)

-- the pair in four bytes
abbrev pub pair_in : List ℕ → Pair
pair_in b = (dec16 b 0, dec16 b 2)
