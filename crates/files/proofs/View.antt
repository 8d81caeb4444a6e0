-- What a first byte tells of its term, and where in its file a policy stands.
use Prim.Native.Nat.{ℕ, ◌+◌, ◌<◌, ◌≤◌}
use mathlib.Core.Path.{◌≡◌, refl, sym, ap, subst, ◌∙◌}
use mathlib.Core.List.{List, [], ◌∷◌, append-nil}
use native.Mathlib.Omega.{arith}
use lib.ListN.{length, get_or, drop}
use Rattle.ptacl.specs.Term.{Sort, Term, Policy, nodes}
use Rattle.ptacl.specs.Term.{Node, tag_of, Shape, numbers, leaf, one, two, shape}
use Rattle.ptacl.proofs.Shapes.{Case, by_shape}
use Rattle.files.specs.Encoding.{bytes, enc, policy_file, framed, IsPolicy}
use Rattle.files.specs.Refusal.{dec16}
use Rattle.files.specs.Places.{At}
use Rattle.files.proofs.Places.{room, head, tail, left, right, pair_room, pair_name, pair_value}
use Rattle.files.proofs.Prefix.{Adds, adds}
use Rattle.files.proofs.SingleByte.{same_node}

-- what stands behind a node's byte at i, where the term there is t
abbrev Parts : (b : List ℕ) (i : ℕ) {s : Sort} → Shape s → Term s → Type 0
Parts b i (numbers f) t = (i + 4 < length b) × (f (dec16 b (i + 1)) (dec16 b (i + 3)) ≡ t)
Parts b i (leaf u) t = u ≡ t
Parts b i {s} (one f) t = (u : Term s) × At b (i + 1) (enc u) × (f u ≡ t)
Parts b i {s} (two r f) t = (u : Term r) × (w : Term s) × At b (i + 1) (enc u) × At b (i + 1 + length (enc u)) (enc w) × (f u w ≡ t)

record View (b : List ℕ) (i : ℕ) {s : Sort} (t : Term s) : Type 0 where
  node : Node s
  is : get_or b i 0 ≡ tag_of node
  inside : i < length b
  some : 1 ≤ nodes t
  parts : Parts b i (shape node) t

-- a property of the terms at i whose node has a shape, by what stands behind its byte
abbrev pub Of : (b : List ℕ) (i : ℕ) {s : Sort} → (Term s → Type 0) → Shape s → Type 0
Of b i P (numbers f) = i + 4 < length b → P (f (dec16 b (i + 1)) (dec16 b (i + 3)))
Of b i P (leaf t) = P t
Of b i {s} P (one f) = (t : Term s) → At b (i + 1) (enc t) → P (f t)
Of b i {s} P (two r f) = (t : Term r) (u : Term s) → At b (i + 1) (enc t) → At b (i + 1 + length (enc t)) (enc u) → P (f t u)

module _ {b : List ℕ} {i : ℕ} where
  view : {s : Sort} (t : Term s) → At b i (enc t) → View b i t
  unfolding enc
  view t = by_shape (λ s t. At b i (enc t) → View b i t) (λ s k. go k (shape k) refl (adds bytes k)) t
    where
      seen : {s : Sort} (k : Node s) {t : Term s} {xs : List ℕ} → At b i (tag_of k ∷ xs) → 1 ≤ nodes t → Parts b i (shape k) t → View b i t
      seen k a n x = record { node = k; is = head a; inside = room a; some = n; parts = x }

      go : {s : Sort} (k : Node s) (g : Shape s) → shape k ≡ g → Adds bytes k g → Case (λ s t. At b i (enc t) → View b i t) g
      go k (numbers f) e law = λ n v h.
          let w = law n v tt in
          let a = rw w.0 at h in
          seen k a (omega arith) (rw e (pair_room i n v (tail a), rw (pair_name i n v (tail a), pair_value i n v (tail a))))
      go k (leaf t) e law = λ h.
          let w = law tt in
          seen k (rw w.0 at h) (omega arith) (rw e)
      go k (one f) e law = λ t _ h.
          let w = law t tt in
          let a = rw w.0 at h in
          seen k a (omega arith) (rw e (t, tail a, refl))
      go k (two r f) e law = λ t u _ _ h.
          let w = law t u tt in
          let a = rw w.0 at h in
          seen k a (omega arith) (rw e (t, u, left (enc t) (enc u) (tail a), right (enc t) (enc u) (tail a), refl))

  -- it holds of every term at i, by the byte there
  pub as_node : {s : Sort} (n : Node s) (P : Term s → Type 0) → get_or b i 0 ≡ tag_of n → Of b i P (shape n) → (t : Term s) → At b i (enc t) → P t
  as_node {s} n P e f t h =
      let w = view t h in
      go (shape n) f (subst (λ k. Parts b i (shape k) t) (same_node w.node n (sym w.is ∙ e)) w.parts)
    where
      go : (g : Shape s) → Of b i P g → Parts b i g t → P t
      go (numbers k) f x = subst P x.1 (f x.0)
      go (leaf u) f x = subst P x f
      go (one k) f x = subst P x.2 (f x.0 x.1)
      go (two r k) f x = subst P x.4 (f x.0 x.1 x.2 x.3)

-- in its file a policy stands behind the frame
pub file_at : {s : List ℕ} {p : Policy} → IsPolicy s p → At s 3 (enc p)
unfolding policy_file framed
file_at {p = p} f = record { rest = []; split = ap (drop 3) f.file ∙ sym (append-nil (enc p)) }
