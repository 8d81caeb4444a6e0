-- Edges of reading a policy file, by the worked policies: computed, the longest file by the laws of reading.
use Prim.Native.Nat.{ℕ, zero, suc}
use mathlib.Core.Path.{◌≡◌, refl, ap, ◌∙◌}
use mathlib.Core.List.{List, [], ◌∷◌, ◌++◌}
use native.Mathlib.Omega.{arith}
use lib.ListN.{length, replicate}
use borrow.Author.Tests.{lt-ltb}
use Rattle.ptacl.specs.Term.{target, policy, Policy, atom, deny, allow, targeted, not, and, or}
use Rattle.files.specs.Encoding.{enc, depth, framed, policy_file}
use Rattle.files.specs.Refusal.{accepted, refused, unframed}
use Rattle.files.specs.Prefix.{spell, below, body, scan}
use Rattle.files.specs.ReadPolicy.{byte_at, head_at, pair_at, finish, read_policy}
use Rattle.files.specs.Places.{At}
use Rattle.files.specs.Due.{a_term, due_behind, due_at}
use Rattle.files.proofs.Framing.{unframed_whole}
use Rattle.files.proofs.PolicyComplete.{complete}

-- files of 0, 1 and 2 bytes
pub empty_file : read_policy [] ≡ refused 1 0
unfolding read_policy unframed
empty_file = refl

pub one_byte : (x : ℕ) → read_policy (x ∷ []) ≡ refused 1 1
unfolding read_policy unframed
one_byte x = refl

pub two_bytes : (x y : ℕ) → read_policy (x ∷ y ∷ []) ≡ refused 1 2
unfolding read_policy unframed
two_bytes x y = refl

-- an empty body is 4 at 3; an atom that is cut is 4 at the file's length; a policy's tag where a target is due, or a target's where a policy
-- is, is 15 at the tag; a byte that is no tag is 5
pub empty_body : read_policy (1 ∷ 0 ∷ 0 ∷ []) ≡ refused 4 3
unfolding read_policy unframed scan body below head_at byte_at pair_at
empty_body = refl

pub cut_atom : read_policy (1 ∷ 0 ∷ 5 ∷ 0x22 ∷ 0x10 ∷ 0 ∷ 1 ∷ 0 ∷ []) ≡ refused 4 8
unfolding read_policy unframed scan body below head_at byte_at pair_at
cut_atom = refl

pub policy_slipped : read_policy (1 ∷ 0 ∷ 2 ∷ 0x22 ∷ 0x20 ∷ []) ≡ refused 15 4
unfolding read_policy unframed scan body below head_at byte_at pair_at
policy_slipped = refl

pub target_due : due_at (1 ∷ 0 ∷ 2 ∷ 0x22 ∷ 0x20 ∷ []) 4 ≡ a_term target ∷ a_term policy ∷ []
unfolding due_behind byte_at
target_due = refl

pub target_slipped : read_policy (1 ∷ 0 ∷ 7 ∷ 0x22 ∷ 0x10 ∷ 0 ∷ 1 ∷ 0 ∷ 1 ∷ 0x10 ∷ []) ≡ refused 15 9
unfolding read_policy unframed scan body below head_at byte_at pair_at
target_slipped = refl

pub policy_due : due_at (1 ∷ 0 ∷ 7 ∷ 0x22 ∷ 0x10 ∷ 0 ∷ 1 ∷ 0 ∷ 1 ∷ 0x10 ∷ []) 9 ≡ a_term policy ∷ []
unfolding due_behind byte_at
policy_due = refl

pub no_tag : read_policy (1 ∷ 0 ∷ 2 ∷ 0x22 ∷ 0x15 ∷ []) ≡ refused 5 4
unfolding read_policy unframed scan body below head_at byte_at pair_at
no_tag = refl

-- an or of each sort is read, and is a slip where the other sort is due
pub or_read : read_policy (1 ∷ 0 ∷ 15 ∷ 0x26 ∷ 0x22 ∷ 0x14 ∷ 0x10 ∷ 0 ∷ 1 ∷ 0 ∷ 2 ∷ 0x10 ∷ 0 ∷ 2 ∷ 0 ∷ 1 ∷ 0x21 ∷ 0x20 ∷ [])
    ≡ accepted (or (targeted (or (atom 1 2) (atom 2 1)) allow) deny)
unfolding read_policy unframed scan body below head_at byte_at pair_at
or_read = refl

pub or_slipped : read_policy (1 ∷ 0 ∷ 1 ∷ 0x14 ∷ []) ≡ refused 15 3
unfolding read_policy unframed scan body below head_at byte_at pair_at
or_slipped = refl

pub or_for_a_target : read_policy (1 ∷ 0 ∷ 2 ∷ 0x22 ∷ 0x26 ∷ []) ≡ refused 15 4
unfolding read_policy unframed scan body below head_at byte_at pair_at
or_for_a_target = refl

-- 31 policy nots over allow are read, 32 are refused 6 at 35
abbrev nots : ℕ → Policy → Policy
nots zero p = p
nots (suc n) p = not (nots n p)

pub depth_32 : read_policy (1 ∷ 0 ∷ 32 ∷ (replicate 31 0x23 ++ (0x21 ∷ []))) ≡ accepted (nots 31 allow)
unfolding read_policy unframed scan body below head_at byte_at pair_at
depth_32 = refl

pub depth_33 : read_policy (1 ∷ 0 ∷ 33 ∷ (replicate 32 0x23 ++ (0x21 ∷ []))) ≡ refused 6 35
unfolding read_policy unframed scan body below head_at byte_at pair_at
depth_33 = refl

-- at depth 33 a slip is still 15
pub slip_33 : read_policy (1 ∷ 0 ∷ 33 ∷ (replicate 32 0x23 ++ (0x10 ∷ []))) ≡ refused 15 35
unfolding read_policy unframed scan body below head_at byte_at pair_at
slip_33 = refl

-- 255 nodes are read, a 256th is 7 at its tag, but 6 where it is at depth 33 too
abbrev tree : ℕ → Policy
tree zero = allow
tree (suc n) = and (tree n) (tree n)

pub nodes_255 : read_policy (policy_file (tree 7)) ≡ accepted (tree 7)
unfolding read_policy unframed scan body below head_at byte_at pair_at policy_file framed enc spell
nodes_255 = refl

pub nodes_256 : read_policy (policy_file (not (tree 7))) ≡ refused 7 258
unfolding read_policy unframed scan body below head_at byte_at pair_at policy_file framed enc spell
nodes_256 = refl

pub both_limits : read_policy (policy_file (and (and (tree 6) (and (tree 5) (tree 4))) (nots 31 allow))) ≡ refused 6 258
unfolding read_policy unframed scan body below head_at byte_at pair_at policy_file framed enc spell
both_limits = refl

-- the longest file that a length can state is still refused for what is met first
pub longest_file : (rest : List ℕ) → length rest ≡ 65534 → read_policy (1 ∷ 255 ∷ 255 ∷ 0x20 ∷ rest) ≡ refused 8 4
unfolding read_policy enc spell depth
longest_file rest e =
    let s : List ℕ = 1 ∷ 255 ∷ 255 ∷ 0x20 ∷ rest in
    let h : At s 3 (enc deny) = record { rest = rest; split = refl } in
    unframed_whole 1 s _ (record { long = omega arith; version = refl; stated = omega arith })
    ∙ ap (finish 8 (length s)) (complete 255 s deny 32 3 0 4 1 h (omega arith) (omega arith) (omega arith) (omega arith))
    ∙ simp (lt-ltb 4 (length s) (omega arith))
