-- Reading a policy file, with the first refusal in order.
use Rattle.std.specs.Prelude.{ℕ, ◌+◌, Bool, cond, List, [], ◌∷◌, eqb, ltb, length, get_or}
use Rattle.ptacl.specs.Request.{Pair}
use Rattle.ptacl.specs.Term.{Sort, target, policy, Policy, Node, an_atom, a_deny, an_allow, a_targeted, a_not, a_default, an_and, an_or, tag_of}
use Rattle.files.specs.Encoding.{bytes}
use Rattle.files.specs.Refusal.{Read, accepted, refused, dec16, unframed}
use Rattle.files.specs.Prefix.{Head, node, stop, Scan, done, fault, Reader, scan}

-- the nodes of a sort
abbrev pub nodes_of : (s : Sort) → List (Node s)
nodes_of target = an_atom ∷ a_not target ∷ a_default target ∷ an_and target ∷ an_or target ∷ []
nodes_of policy = a_deny ∷ an_allow ∷ a_targeted ∷ a_not policy ∷ a_default policy ∷ an_and policy ∷ an_or policy ∷ []

abbrev pub other_sort : Sort → Sort
other_sort target = policy
other_sort policy = target

-- what a byte is where a node of a sort is due: a tag of the sort, a tag of the other sort, or no tag at all
pub data Byte (s : Sort) : Type 0 where
  tag : Node s → Byte s
  other : Node (other_sort s) → Byte s
  unknown : Byte s

-- what the first of these nodes that meets a test is; if there is none, what is said last
abbrev pub find : {s : Sort} {A : Type 0} → (Node s → Bool) → (Node s → A) → List (Node s) → A → A
find test is [] none = none
find test is (n ∷ ns) none = cond (test n) (is n) (find test is ns none)

unfoldable pub byte_at : (s : Sort) → ℕ → Byte s
byte_at s b = find (λ n. eqb b (tag_of n)) tag (nodes_of s) (find (λ n. eqb b (tag_of n)) other (nodes_of (other_sort s)) unknown)

-- a node with that much depth left and that many nodes before it, of most: 6, 7, or 0 for neither
abbrev pub limit_of : ℕ → ℕ → ℕ → ℕ
limit_of most left nodes = cond (eqb left 0) 6 (cond (ltb nodes most) 0 7)

-- at one node: that it is none of the sort's, a slip or strange; then 6, 7, then what follows
abbrev pub tagged : {s : Sort} → ℕ → ℕ → ℕ → ℕ → (Node s → Head s) → Byte s → Head s
tagged slip strange number at follows (other n) = stop slip at
tagged slip strange number at follows unknown = stop strange at
tagged slip strange number at follows (tag n) = cond (eqb number 0) (follows n) (stop number at)

-- 4 (no byte), 15 or 5, 6, 7
unfoldable pub head_at : ℕ → List ℕ → (s : Sort) → ℕ → ℕ → ℕ → Head s
head_at most b s left at nodes =
    cond (ltb at (length b)) (tagged 15 5 (limit_of most left nodes) at (λ n. node n (at + 1)) (byte_at s (get_or b at 0))) (stop 4 (length b))

-- the four bytes of an atom's numbers; 4 (atom cut) where they are not there
unfoldable pub pair_at : List ℕ → ℕ → ℕ → Scan Pair
pair_at b at nodes = cond (ltb (at + 3) (length b)) (done (dec16 b at, dec16 b (at + 2)) (at + 4) nodes) (fault 4 (length b))

-- so bytes are read, up to so many nodes
abbrev pub in_bytes : ℕ → List ℕ → Reader (Unit {0})
in_bytes most b = record { form = bytes; head = λ s left e at k. head_at most b s left at k; pair = λ e at k. pair_at b at k }

-- what follows the finished policy, up to that length, is refused with that number
abbrev pub finish : ℕ → ℕ → Scan Policy → Read Policy
finish excess len (done p next nodes) = cond (ltb next len) (refused excess next) (accepted p)
finish excess len (fault number place) = refused number place

-- 1, 2, 3, then 4 to 8 and 15 as met from left to right
unfoldable pub read_policy : List ℕ → Read Policy
read_policy s = unframed 1 s (finish 8 (length s) (scan (in_bytes 255 s) 32 policy tt 3 0))
