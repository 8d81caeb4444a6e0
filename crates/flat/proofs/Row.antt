-- The subterms that are finished and not yet used when a walk from the last node has come to a node: their bytes are those from there on,
-- and there are never more of them than the policy is deep.
use Prim.Native.Nat.{ℕ, zero, suc, ◌+◌, ◌-◌, ◌<◌, ◌≤◌}
use mathlib.Core.Path.{◌≡◌, refl, sym, ap, ◌∙◌}
use mathlib.Core.Bool.{cond}
use mathlib.Core.List.{List, [], ◌∷◌, ◌++◌, append-nil, map}
use native.Mathlib.Omega.{arith}
use lib.Dec.{eqb}
use lib.ListN.{length, drop, get_or, length-drop, length-map}
use lib.Seq.{drop-nil, drop-drop}
use Rattle.ptacl.specs.Request.{Request}
use Rattle.ptacl.specs.Term.{Sort, Term, Policy, nodes, an_atom, tag_of, shape}
use Rattle.files.specs.Encoding.{enc, depth, framed, policy_file, IsPolicy}
use Rattle.files.specs.Tags.{byte_of}
use Rattle.files.specs.declared.tag.Tag.{Tag}
use Rattle.files.proofs.Nodes.{tagged}
use Rattle.files.proofs.Places.{head}
use Rattle.flat.specs.Places.{behind, place_of}
use Rattle.flat.specs.Finished.{Subterm, sub, enc_all, worth_of, Finished, Next}
use Rattle.flat.proofs.Root.{root, width_of, behind_node, nodes_all, highest, starts, opens, root_nodes, root_depth, root_highest, same_row}

-- ---- bytes

-- a term begins with its root's byte
pub first_byte : (b : List ℕ) (at : ℕ) {s : Sort} (t : Term s) (xs : List ℕ) → drop at b ≡ enc t ++ xs → get_or b at 0 ≡ tag_of (root t).node
first_byte b at t xs e =
    let w = starts t in
    head {b = b} {i = at} {xs = w.0} (record { rest = xs; split = e ∙ ap (λ z. z ++ xs) w.1 })

-- subterms in a row without their first node
abbrev opened : List Subterm → List Subterm
opened [] = []
opened (sub t ∷ f) = (root t).parts ++ f

pub behind_first : (b : List ℕ) (at : ℕ) (f : List Subterm) → drop at b ≡ enc_all f → drop (behind b at) b ≡ enc_all (opened f)
unfolding enc_all
behind_first b at [] e = let n : ℕ = cond (eqb (get_or b at 0) (tag_of an_atom)) 5 1 in sym (drop-drop n at b) ∙ ap (drop n) e ∙ drop-nil n
behind_first b at (sub t ∷ f) e =
    let n = width_of (shape (root t).node) in
    ap (λ m. drop m b) (behind_node (root t).node b at (first_byte b at t (enc_all f) e)) ∙ sym (drop-drop n at b) ∙ ap (drop n) e ∙ opens t f

-- those that begin behind the first k nodes of p and lie in no other that does so, from left to right
abbrev pub row : ℕ → Policy → List Subterm
row zero p = sub p ∷ []
row (suc k) p = opened (row k p)

module _ {b : List ℕ} {p : Policy} (file : IsPolicy b p) where
  pub row_bytes : (k : ℕ) → drop (place_of b k) b ≡ enc_all (row k p)
  unfolding enc_all policy_file framed
  row_bytes zero = ap (drop 3) file.file ∙ sym (append-nil (enc p))
  row_bytes (suc k) = behind_first b (place_of b k) (row k p) (row_bytes k)

-- ---- nodes

nodes_append : (f g : List Subterm) → nodes_all (f ++ g) ≡ nodes_all f + nodes_all g
nodes_append [] g = omega arith
nodes_append (sub t ∷ f) g = omega (arith, nodes_append f g)

nodes_opened : (f : List Subterm) → nodes_all (opened f) ≡ nodes_all f - 1
nodes_opened [] = refl
nodes_opened (sub t ∷ f) = omega (arith, root_nodes t, nodes_append (root t).parts f)

nodes_row : (k : ℕ) (p : Policy) → nodes_all (row k p) ≡ nodes p - k
nodes_row zero p = omega arith
nodes_row (suc k) p = omega (arith, nodes_opened (row k p), nodes_row k p)

none : (f : List Subterm) → nodes_all f ≡ 0 → f ≡ []
none [] h = refl
none (sub t ∷ f) h = absurd (omega (arith, root_nodes t))

pub row_last : (p : Policy) → row (nodes p) p ≡ []
row_last p = none _ (omega (arith, nodes_row (nodes p) p))

-- ---- height

length_highest : (f : List Subterm) → length f ≤ highest f
length_highest [] = omega arith
length_highest (sub t ∷ f) = omega (arith, root_depth t)

highest_opened : (f : List Subterm) → highest (opened f) ≤ highest f
highest_opened [] = omega arith
highest_opened (sub t ∷ f) = root_highest t f

highest_row : (k : ℕ) (p : Policy) → highest (row k p) ≤ depth p
highest_row zero p = omega arith
highest_row (suc k) p = omega (arith, highest_opened (row k p), highest_row k p)

row_height : (k : ℕ) (p : Policy) → length (row k p) ≤ depth p
row_height k p = omega (arith, length_highest (row k p), highest_row k p)

-- the stack is told by the bytes: it holds one list of values
pub finished_one : {b : List ℕ} {at : ℕ} {q : Request} {stack other : List ℕ} → Finished b at q stack → Finished b at q other → stack ≡ other
finished_one {q = q} f g =
    let e : f.subterms ≡ g.subterms = same_row _ _ (sym f.bytes ∙ g.bytes) in
    f.values ∙ ap (map (worth_of q)) e ∙ sym g.values

module _ {b : List ℕ} {p : Policy} (file : IsPolicy b p) (k : ℕ) {q : Request} {stack : List ℕ} (f : Finished b (place_of b k) q stack) where
  pub finished_length : length stack ≡ length (row k p)
  finished_length =
      let e : f.subterms ≡ row k p = same_row _ _ (sym f.bytes ∙ row_bytes file k) in
      ap length f.values ∙ length-map f.subterms (worth_of q) ∙ ap length e

  -- the theorem: it is never higher than the policy is deep, which is 32 at most
  pub height : (length stack ≤ depth p) × (length stack ≤ 32)
  height = let l = row_height k p in (omega (arith, finished_length), omega (arith, finished_length, file.fits.shallow))

module _ {b : List ℕ} {p : Policy} (file : IsPolicy b p) where
  -- each node has its subterm
  pub next_at : (k : ℕ) → k < nodes p → Next b (place_of b k)
  unfolding enc_all
  next_at k l = go (row k p) (row_bytes file k) (omega (arith, nodes_row k p)) (omega (arith, row_height k p, file.fits.shallow))
    where
      go : (f : List Subterm) → drop (place_of b k) b ≡ enc_all f → 0 < nodes_all f → length f ≤ 32 → Next b (place_of b k)
      go [] e n h = absurd (omega arith)
      go (sub {s = s} t ∷ f) e n h = record { sort = s; term = t; rest = f; bytes = e; room = omega arith }

-- where a subterm's node stands there is a byte, and it is a tag
module _ {b : List ℕ} {at : ℕ} (n : Next b at) where
  pub next_inside : at < length b
  next_inside = let w = starts n.term in omega (arith, length-drop at b, ap length n.bytes, ap (λ z. length (z ++ enc_all n.rest)) w.1)

  pub next_tag : ((tag : Tag) → get_or b at 0 ≡ byte_of tag → ⊥) → ⊥
  next_tag none = none _ (first_byte b at n.term (enc_all n.rest) n.bytes ∙ tagged (root n.term).node)
