-- The node that a tag names: its byte, its word, and what follows it.
use Prim.Native.Nat.{ℕ}
use mathlib.Core.Path.{◌≡◌, refl, sym}
use mathlib.Core.List.{List, [], ◌∷◌, ◌++◌, append_assoc}
use Rattle.ptacl.specs.Term.{tag_of, shape}
use Rattle.files.specs.Tags.{byte_of, tag_shape, tag_named}
use Rattle.files.specs.declared.tag.Tag.{Tag}
use Rattle.text.specs.Words.{word}
use Rattle.text.specs.Line as L
use Rattle.text.specs.Line.{ended}
use Rattle.text.specs.Nodes.{end_of, follows, node_named, word_of}
use Rattle.text.specs.declared.end.End.{End as EndC}

pub record Named (tag : Tag) : Type 0 where
  pub byte : tag_of (node_named tag) ≡ byte_of tag
  pub its : word (node_named tag) ≡ word_of tag
  pub back : tag_named (node_named tag) ≡ tag
  pub end : (e : EndC) → L.behind (shape (node_named tag)) (end_of e) ≡ end_of (follows (tag_shape tag) e)

pub named : (tag : Tag) → Named tag
named Tag.TargetAtom = record { byte = refl; its = refl; back = refl; end = λ e. refl }
named Tag.TargetNot = record { byte = refl; its = refl; back = refl; end = λ e. refl }
named Tag.TargetOptional = record { byte = refl; its = refl; back = refl; end = λ e. refl }
named Tag.TargetAnd = record { byte = refl; its = refl; back = refl; end = λ e. refl }
named Tag.TargetOr = record { byte = refl; its = refl; back = refl; end = λ e. refl }
named Tag.Deny = record { byte = refl; its = refl; back = refl; end = λ e. refl }
named Tag.Allow = record { byte = refl; its = refl; back = refl; end = λ e. refl }
named Tag.Targeted = record { byte = refl; its = refl; back = refl; end = λ e. refl }
named Tag.PolicyNot = record { byte = refl; its = refl; back = refl; end = λ e. refl }
named Tag.DenyByDefault = record { byte = refl; its = refl; back = refl; end = λ e. refl }
named Tag.PolicyAnd = record { byte = refl; its = refl; back = refl; end = λ e. refl }
named Tag.PolicyOr = record { byte = refl; its = refl; back = refl; end = λ e. refl }

pub byte_named : (tag : Tag) → tag_of (node_named tag) ≡ byte_of tag
byte_named tag = (named tag).byte

-- its word behind what is written
pub word_behind : (w : List ℕ) (tag : Tag) (e : EndC)
    → w ++ ended (word (node_named tag)) (L.behind (shape (node_named tag)) (end_of e)) ≡ (w ++ word_of tag) ++ (L.byte_of (end_of (follows (tag_shape tag) e)) ∷ [])
unfolding ended
word_behind w tag e = rw ((named tag).its, (named tag).end e) (sym (append_assoc w (word_of tag) _))
