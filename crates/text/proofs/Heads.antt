-- What stands in a line where a node is due, by the run there.
use Prim.Native.Nat.{ℕ, ◌+◌, ◌<◌}
use mathlib.Core.Path.{◌≡◌, refl, sym, ap, subst, ◌∙◌}
use mathlib.Core.List.{List}
use native.Mathlib.Omega.{arith}
use lib.ListN.{length}
use borrow.Author.Tests.{lt-ltb, le-ltb, ne_eqb}
use Rattle.ptacl.specs.Term.{Sort, target, policy, Node, an_atom, a_deny, an_allow, a_targeted, a_not, a_default, an_and, an_or, shape}
use Rattle.ptacl.proofs.Finite.{at_node}
use Rattle.files.specs.Refusal.{Read, accepted, refused}
use Rattle.files.specs.ReadPolicy.{Byte, tag, other, unknown, tagged, limit_of}
use Rattle.files.specs.Reading.{◌>>=◌}
use Rattle.files.specs.Tags.{sort_of, tag_named, tag_sort, tag_shape}
use Rattle.files.specs.declared.tag.Sort.{Sort as SortC}
use Rattle.files.specs.declared.tag.Tag.{Tag}
use Rattle.files.proofs.Nodes.{fault_above}
use Rattle.files.specs.Faults.{fault_number}
use Rattle.files.specs.declared.fault.Fault.{Fault}
use Rattle.text.specs.Words.{word}
use Rattle.text.specs.Line.{behind}
use Rattle.text.specs.ReadText.{run_at, same, word_at, past, opened, head_at}
use Rattle.text.specs.Nodes.{end_of, follows, node_named, word_of}
use Rattle.text.specs.Converting.{met}
use Rattle.text.specs.declared.end.End.{End as EndC}
use Rattle.text.proofs.Named.{named}
use Rattle.text.proofs.Runs.{same_true}
use Rattle.text.proofs.WordLaws.{word_known, word_found}

-- the word of a node is that of its tag; and no word of the other sort
its_word : {s : Sort} (n : Node s) → word n ≡ word_of (tag_named n)
its_word n = same_true (word n) (word_of (tag_named n)) (at_node (λ s n. same (word n) (word_of (tag_named n))) refl n)

no_target : (n : Node policy) → word_at target (word n) ≡ unknown
unfolding word_at
no_target a_deny = refl
no_target an_allow = refl
no_target a_targeted = refl
no_target (a_not policy) = refl
no_target (a_default policy) = refl
no_target (an_and policy) = refl
no_target (an_or policy) = refl

no_policy : (n : Node target) → word_at policy (word n) ≡ unknown
unfolding word_at
no_policy an_atom = refl
no_policy (a_not target) = refl
no_policy (a_default target) = refl
no_policy (an_and target) = refl
no_policy (an_or target) = refl

no_other : (r s : SortC) (n : Node (sort_of r)) → (r ≡ s → ⊥) → word_at (sort_of s) (word n) ≡ unknown
no_other SortC.Target SortC.Target n d = absurd (d refl)
no_other SortC.Target SortC.Policy n d = no_policy n
no_other SortC.Policy SortC.Target n d = no_target n
no_other SortC.Policy SortC.Policy n d = absurd (d refl)

no_tag : {s : Sort} (l at : ℕ) (f : Node s → Read ℕ) (x : Byte s) → ((n : Node s) → x ≡ tag n → ⊥) → met (tagged 51 51 l at (λ n. opened n (f n)) x) ≡ refused 51 at
no_tag l at f (tag n) none = absurd (none n refl)
no_tag l at f (other n) none = refl
no_tag l at f unknown none = refl

met_opened : {s : Sort} (n : Node s) (t : Tag) → tag_named n ≡ t → (x : Read ℕ) → met (opened n x) ≡ (x >>= λ next. accepted (t, next))
met_opened n t e (accepted next) = rw e refl
met_opened n t e (refused m p) = refl

module _ (b : List ℕ) (sort : SortC) (left : ℕ) (e : EndC) (at k : ℕ) where
  abbrev here : Read (Tag × ℕ)
  here = met (head_at 255 b (sort_of sort) left (end_of e) at k)

  pub word_ends : at ≡ length b → here ≡ refused 53 at
  unfolding head_at
  word_ends h = rw (le-ltb at (length b) (omega arith), h)

  module _ (i : at < length b) where
    pub word_strange : ((t : Tag) → run_at b at ≡ word_of t → ⊥) → here ≡ refused 51 at
    unfolding head_at
    word_strange none = rw (lt-ltb at (length b) i)
        (no_tag (limit_of 255 left k) at (λ n. past b (behind (shape n) (end_of e)) (at + length (run_at b at))) (word_at (sort_of sort) (run_at b at)) (λ n f. none (tag_named n) (word_found _ n f ∙ its_word n)))

    module _ (t : Tag) (is : run_at b at ≡ word_of t) where
      pub word_slip : (tag_sort t ≡ sort → ⊥) → here ≡ refused 51 at
      unfolding head_at
      word_slip d = rw (lt-ltb at (length b) i, is, ← (named t).its, no_other (tag_sort t) sort (node_named t) d)

      module _ (d : tag_sort t ≡ sort) where
        -- the node of the tag, of the sort that is due
        its : (n : Node (sort_of sort)) × (word_at (sort_of sort) (run_at b at) ≡ tag n) × (tag_named n ≡ t)
            × (behind (shape n) (end_of e) ≡ end_of (follows (tag_shape t) e))
        its = subst (λ z. (n : Node (sort_of z)) × (word_at (sort_of z) (run_at b at) ≡ tag n) × (tag_named n ≡ t)
            × (behind (shape n) (end_of e) ≡ end_of (follows (tag_shape t) e))) d
            (node_named t, ap (word_at (sort_of (tag_sort t))) (is ∙ sym (named t).its) ∙ word_known (node_named t), (named t).back, (named t).end e)

        pub word_limited : (f : Fault) → limit_of 255 left k ≡ fault_number f → here ≡ refused (fault_number f) at
        unfolding head_at
        word_limited f l = rw (lt-ltb at (length b) i, its.1, l, ne_eqb (fault_number f) 0 (λ z. omega (arith, fault_above f, z)))

        pub word_within : limit_of 255 left k ≡ 0
            → here ≡ (past b (end_of (follows (tag_shape t) e)) (at + length (run_at b at)) >>= λ next. accepted (t, next))
        unfolding head_at
        word_within l = rw (lt-ltb at (length b) i, its.1, l, its.3)
            (met_opened its.0 t its.2 (past b (end_of (follows (tag_shape t) e)) (at + length (run_at b at))))

pub ruleset word_laws = (word_ends, word_strange, word_slip)
