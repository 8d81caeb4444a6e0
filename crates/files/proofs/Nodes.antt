-- What stands where a node is due, by the byte there.
use Prim.Native.Nat.{ℕ, ◌/◌, ◌%◌, ◌^◌, ◌≤◌, ◌<◌}
use mathlib.Core.Path.{◌≡◌, refl, sym, ap, subst, ◌∙◌}
use mathlib.Core.Bool.{Bool, not, ◌||◌, true≢false}
use mathlib.Core.List.{List}
use native.Mathlib.Omega.{arith}
use lib.Dec.{eqb}
use lib.ListN.{length, get_or}
use Rattle.ptacl.specs.Term.{Sort, target, policy, Node, an_atom, a_deny, an_allow, a_targeted, a_not, a_default, an_and, an_or, tag_of}
use Rattle.ptacl.proofs.Bools.{below_at}
use Rattle.ptacl.proofs.Finite.{tag_sort as node_sort}
use Rattle.files.specs.Refusal.{accepted, refused}
use Rattle.files.specs.ReadPolicy.{Byte, tag, other, unknown, byte_at, limit_of, head_at}
use Rattle.files.specs.Faults.{fault_number}
use Rattle.files.specs.declared.fault.Fault.{Fault}
use Rattle.files.specs.Tags.{sort_of, tag_named, byte_of, tag_sort}
use Rattle.files.specs.Reading.{node_in}
use Rattle.files.specs.declared.tag.Sort.{Sort as SortC}
use Rattle.files.specs.declared.tag.Tag.{Tag}
use Rattle.files.proofs.SingleByte.{is_known, byte_found, byte_other, known, never_unknown}
use Rattle.files.proofs.PolicySteps.{head_cut, head_other, head_unknown, head_limited, head_node, limits_kept}

-- the node of a tag
record Named (t : Tag) : Type 0 where
  node : Node (sort_of (tag_sort t))
  named : tag_named node ≡ t
  byte : byte_of t ≡ tag_of node

named : (t : Tag) → Named t
named Tag.TargetAtom = record { node = an_atom; named = refl; byte = refl }
named Tag.TargetNot = record { node = a_not target; named = refl; byte = refl }
named Tag.TargetOptional = record { node = a_default target; named = refl; byte = refl }
named Tag.TargetAnd = record { node = an_and target; named = refl; byte = refl }
named Tag.TargetOr = record { node = an_or target; named = refl; byte = refl }
named Tag.Deny = record { node = a_deny; named = refl; byte = refl }
named Tag.Allow = record { node = an_allow; named = refl; byte = refl }
named Tag.Targeted = record { node = a_targeted; named = refl; byte = refl }
named Tag.PolicyNot = record { node = a_not policy; named = refl; byte = refl }
named Tag.DenyByDefault = record { node = a_default policy; named = refl; byte = refl }
named Tag.PolicyAnd = record { node = an_and policy; named = refl; byte = refl }
named Tag.PolicyOr = record { node = an_or policy; named = refl; byte = refl }

-- and the tag of a node
pub tagged : {s : Sort} (n : Node s) → tag_of n ≡ byte_of (tag_named n)
tagged an_atom = refl
tagged a_deny = refl
tagged an_allow = refl
tagged a_targeted = refl
tagged (a_not target) = refl
tagged (a_not policy) = refl
tagged (a_default target) = refl
tagged (a_default policy) = refl
tagged (an_and target) = refl
tagged (an_and policy) = refl
tagged (an_or target) = refl
tagged (an_or policy) = refl

-- the bits that the tags number are those of 0x7f001f0000
by_bits : ℕ → Bool
by_bits b = not (eqb ((0x7f001f0000 / 2 ^ b) % 2) 1) || is_known (byte_at target b)

pub tag_by_bit : (b : ℕ) → b < 64 → (0x7f001f0000 / 2 ^ b) % 2 ≡ 1 → (t : Tag) × (b ≡ byte_of t)
unfolding by_bits byte_at
tag_by_bit b l h = go (byte_at target b) refl
  where
    go : (x : Byte target) → byte_at target b ≡ x → (t : Tag) × (b ≡ byte_of t)
    go (tag n) e = (tag_named n, byte_found _ _ n e ∙ tagged n)
    go (other n) e = (tag_named n, byte_other _ _ n e ∙ tagged n)
    go unknown e = let k = rw (h, e) at (below_at by_bits 64 refl b l) in absurd (true≢false (sym k))

same_sort : (r s : SortC) → sort_of r ≡ sort_of s → r ≡ s
same_sort SortC.Target SortC.Target e = refl
same_sort SortC.Target SortC.Policy e = absurd (ends e)
  where
    ends : target ≡ policy → ⊥
    ends e = cc
same_sort SortC.Policy SortC.Target e = absurd (ends e)
  where
    ends : policy ≡ target → ⊥
    ends e = cc
same_sort SortC.Policy SortC.Policy e = refl

pub fault_above : (f : Fault) → 0 < fault_number f
fault_above Fault.Short = omega arith
fault_above Fault.Version = omega arith
fault_above Fault.Length = omega arith
fault_above Fault.Ends = omega arith
fault_above Fault.NoTag = omega arith
fault_above Fault.TooDeep = omega arith
fault_above Fault.TooManyNodes = omega arith
fault_above Fault.Excess = omega arith
fault_above Fault.OtherSort = omega arith

module _ (b : List ℕ) (sort : SortC) (left at k : ℕ) where
  pub node_ends : length b ≤ at → at ≤ length b → node_in (head_at 255 b (sort_of sort) left at k) ≡ refused (fault_number Fault.Ends) at
  node_ends h l = let e : length b ≡ at = omega arith in rw (head_cut 255 b {s = sort_of sort} left at k h, e)

  pub node_strange : at < length b → ((t : Tag) → get_or b at 0 ≡ byte_of t → ⊥) → node_in (head_at 255 b (sort_of sort) left at k) ≡ refused (fault_number Fault.NoTag) at
  node_strange h none = go (byte_at (sort_of sort) (get_or b at 0)) refl
    where
      go : (x : Byte (sort_of sort)) → byte_at (sort_of sort) (get_or b at 0) ≡ x → node_in (head_at 255 b (sort_of sort) left at k) ≡ refused (fault_number Fault.NoTag) at
      go (tag n) e = absurd (none (tag_named n) (byte_found _ _ n e ∙ tagged n))
      go (other n) e = absurd (none (tag_named n) (byte_other _ _ n e ∙ tagged n))
      go unknown e = rw (head_unknown 255 b left at k h e)

  module _ (t : Tag) (h : at < length b) (is : get_or b at 0 ≡ byte_of t) where
    pub node_slip : (tag_sort t ≡ sort → ⊥) → node_in (head_at 255 b (sort_of sort) left at k) ≡ refused (fault_number Fault.OtherSort) at
    node_slip d = go (byte_at (sort_of sort) (get_or b at 0)) refl
      where
        go : (x : Byte (sort_of sort)) → byte_at (sort_of sort) (get_or b at 0) ≡ x → node_in (head_at 255 b (sort_of sort) left at k) ≡ refused (fault_number Fault.OtherSort) at
        go (tag n) e = absurd (d (same_sort _ _ (node_sort (named t).node n (sym (named t).byte ∙ sym is ∙ byte_found _ _ n e))))
        go (other n) e = rw (head_other 255 b left at k n h e)
        go unknown e = absurd (never_unknown _ _ (named t).node (ap (byte_at (sort_of sort)) (sym (is ∙ (named t).byte)) ∙ e))

    module _ (e : tag_sort t ≡ sort) where
      its : (n : Node (sort_of sort)) × (byte_at (sort_of sort) (get_or b at 0) ≡ tag n) × (tag_named n ≡ t)
      its = subst (λ z. (n : Node (sort_of z)) × (byte_at (sort_of z) (get_or b at 0) ≡ tag n) × (tag_named n ≡ t)) e
          ((named t).node, ap (byte_at (sort_of (tag_sort t))) (is ∙ (named t).byte) ∙ known (named t).node, (named t).named)

      pub node_limited : (f : Fault) → limit_of 255 left k ≡ fault_number f → node_in (head_at 255 b (sort_of sort) left at k) ≡ refused (fault_number f) at
      node_limited f l = rw (head_limited 255 b left at k its.0 h its.1 (λ z. omega (arith, fault_above f, sym l ∙ z)), l)

      pub node_read : limit_of 255 left k ≡ 0 → node_in (head_at 255 b (sort_of sort) left at k) ≡ accepted t
      node_read l = rw (head_node 255 b left at k its.0 h its.1 l, its.2)

pub kept_deep : (left k : ℕ) → limit_of 255 left k ≡ 0 → 0 < left
kept_deep left k e = (limits_kept 255 left k e).0

pub kept_few : (left k : ℕ) → limit_of 255 left k ≡ 0 → k < 255
kept_few left k e = (limits_kept 255 left k e).1

pub ruleset node_laws = (node_ends, node_strange, node_slip, node_limited, node_read, kept_deep)
