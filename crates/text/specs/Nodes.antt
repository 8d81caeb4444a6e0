-- The code's nodes and ends: what of the definitions each stands for, and how a node is written.
use Rattle.std.specs.Prelude.{ℕ, List}
use Rattle.ptacl.specs.Term.{target, policy, Node, an_atom, a_deny, an_allow, a_targeted, a_not, a_default, an_and, an_or}
use Rattle.files.specs.Prefix.{Form}
use Rattle.files.specs.Tags.{sort_of, tag_sort}
use Rattle.files.specs.declared.tag.Tag.{Tag}
use Rattle.files.specs.declared.tag.Shape.{Shape}
use Rattle.text.specs.Words.{letters}
use Rattle.text.specs.Line.{End, space, line_feed}
use Rattle.text.specs.declared.end.End.{End as EndC}

abbrev pub end_of : EndC → End
end_of EndC.Space = space
end_of EndC.LineFeed = line_feed

abbrev pub follows : Shape → EndC → EndC
follows Shape.Leaf e = e
follows shape e = EndC.Space

-- the node that a tag names
abbrev pub node_named : (tag : Tag) → Node (sort_of (tag_sort tag))
node_named Tag.TargetAtom = an_atom
node_named Tag.TargetNot = a_not target
node_named Tag.TargetOptional = a_default target
node_named Tag.TargetAnd = an_and target
node_named Tag.TargetOr = an_or target
node_named Tag.Deny = a_deny
node_named Tag.Allow = an_allow
node_named Tag.Targeted = a_targeted
node_named Tag.PolicyNot = a_not policy
node_named Tag.DenyByDefault = a_default policy
node_named Tag.PolicyAnd = an_and policy
node_named Tag.PolicyOr = an_or policy

-- and its word
abbrev pub word_of : Tag → List ℕ
word_of Tag.TargetAtom = letters "tatom"
word_of Tag.TargetNot = letters "tnot"
word_of Tag.TargetOptional = letters "topt"
word_of Tag.TargetAnd = letters "tand"
word_of Tag.TargetOr = letters "tor"
word_of Tag.Deny = letters "pzero"
word_of Tag.Allow = letters "pone"
word_of Tag.Targeted = letters "ptar"
word_of Tag.PolicyNot = letters "pnot"
word_of Tag.DenyByDefault = letters "pdbd"
word_of Tag.PolicyAnd = letters "pand"
word_of Tag.PolicyOr = letters "por"

-- a node in a form, by its tag
abbrev pub marked : {E : Type 0} → Form E → Tag → E → List ℕ
marked f tag e = f.mark (sort_of (tag_sort tag)) (node_named tag) e
