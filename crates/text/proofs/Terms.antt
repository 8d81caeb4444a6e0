-- A term that is read and written, by its node and the terms right below it, for every reader and every form.
use Prim.Native.Nat.{ℕ, zero, suc, ◌+◌, ◌-◌, ◌<◌}
use mathlib.Core.Path.{◌≡◌, refl}
use mathlib.Core.List.{List, ◌++◌, append_assoc}
use native.Mathlib.Omega.{arith}
use native.Mathlib.Numerals.{sub-one}
use Rattle.ptacl.specs.Request.{Pair}
use Rattle.ptacl.specs.Term.{Sort, target, policy, Term, Node, an_atom, a_deny, an_allow, a_targeted, a_not, a_default, an_and, an_or, shape}
use Rattle.files.specs.Refusal.{accepted, refused}
use Rattle.files.specs.Prefix.{Form, spell, Head, node, stop, Scan, done, fault, and_then, Reader, Subterms, below, body, scan}
use Rattle.files.specs.Reading.{◌>>=◌, told}
use Rattle.files.specs.Tags.{tag_named, tag_shape}
use Rattle.text.specs.Nodes.{marked}
use Rattle.text.specs.Converting.{met, behind, terms_behind}

module _ {E F : Type 0} (r : Reader E) (f : Form F) where
  module _ (out : F) (w m : List ℕ) where
    behind_numbers : {s : Sort} (g : ℕ → ℕ → Term s) (x : Scan Pair) → ((n v : ℕ) → spell f out (g n v) ≡ m ++ f.pair n v out)
        → told (behind f out w) (and_then x (λ y a k. done (g y.0 y.1) a k))
        ≡ (told (λ y. y) x >>= λ y. accepted ((w ++ m) ++ f.pair y.0.0 y.0.1 out, y.1, y.2))
    unfolding behind
    behind_numbers g (done y a k) e = rw (e y.0 y.1, append_assoc)
    behind_numbers g (fault n p) e = refl

    behind_one : {s : Sort} (g : Term s → Term s) (x : Scan (Term s)) → ((t : Term s) → spell f out (g t) ≡ m ++ spell f out t)
        → told (behind f out w) (and_then x (λ t a k. done (g t) a k)) ≡ told (behind f out (w ++ m)) x
    unfolding behind
    behind_one g (done t a k) e = rw (e t, append_assoc)
    behind_one g (fault n p) e = refl

    behind_two : {q s : Sort} (g : Term q → Term s → Term s) (x : Scan (Term q)) (y : ℕ → ℕ → Scan (Term s))
        → ((t : Term q) (u : Term s) → spell f out (g t u) ≡ m ++ (spell f f.between t ++ spell f out u))
        → told (behind f out w) (and_then x (λ t a k. and_then (y a k) (λ u c n. done (g t u) c n)))
        ≡ (told (behind f f.between (w ++ m)) x >>= λ z. told (behind f out z.0) (y z.1 z.2))
    unfolding behind
    behind_two {q} {s} g (done t a k) y e = go (y a k)
      where
        go : (z : Scan (Term s)) → told (λ u. w ++ spell f out u) (and_then z (λ u c n. done (g t u) c n))
            ≡ told (λ u. ((w ++ m) ++ spell f f.between t) ++ spell f out u) z
        go (done u c n) = rw (e t u, append_assoc, append_assoc)
        go (fault n p) = refl
    behind_two g (fault n p) y e = refl

  module _ (sub : Subterms E) (end : E) (out : F) (w : List ℕ) (at k : ℕ) where
    behind_node : {s : Sort} (n : Node s)
        → told (behind f out w) (below r sub end at k (shape n)) ≡ terms_behind r f sub s end out (w ++ marked f (tag_named n) out) at k (tag_shape (tag_named n))
    unfolding below spell behind
    behind_node an_atom = behind_numbers out w _ _ (r.pair end at k) (λ n v. refl)
    behind_node a_deny = refl
    behind_node an_allow = refl
    behind_node a_targeted = behind_two out w _ _ (sub target r.form.between at k) (sub policy end) (λ t u. refl)
    behind_node (a_not target) = behind_one out w _ _ (sub target end at k) (λ t. refl)
    behind_node (a_not policy) = behind_one out w _ _ (sub policy end at k) (λ t. refl)
    behind_node (a_default target) = behind_one out w _ _ (sub target end at k) (λ t. refl)
    behind_node (a_default policy) = behind_one out w _ _ (sub policy end at k) (λ t. refl)
    behind_node (an_and target) = behind_two out w _ _ (sub target r.form.between at k) (sub target end) (λ t u. refl)
    behind_node (an_and policy) = behind_two out w _ _ (sub policy r.form.between at k) (sub policy end) (λ t u. refl)
    behind_node (an_or target) = behind_two out w _ _ (sub target r.form.between at k) (sub target end) (λ t u. refl)
    behind_node (an_or policy) = behind_two out w _ _ (sub policy r.form.between at k) (sub policy end) (λ t u. refl)

  module _ (out : F) (w : List ℕ) (left : ℕ) (s : Sort) (end : E) (at k : ℕ) where
    pub behind_more : 0 < left → told (behind f out w) (scan r left s end at k)
        ≡ (met (r.head s left end at k) >>= λ x. terms_behind r f (scan r (left - 1)) s end out (w ++ marked f x.0 out) x.1 (k + 1) (tag_shape x.0))
    unfolding scan body
    behind_more h = go left h
      where
        there : (sub : Subterms E) (x : Head s) → told (behind f out w) (body r sub end k x)
            ≡ (met x >>= λ y. terms_behind r f sub s end out (w ++ marked f y.0 out) y.1 (k + 1) (tag_shape y.0))
        there sub (node n next) = behind_node sub end out w next (k + 1) n
        there sub (stop n p) = refl

        go : (l : ℕ) → 0 < l → told (behind f out w) (scan r l s end at k)
            ≡ (met (r.head s l end at k) >>= λ x. terms_behind r f (scan r (l - 1)) s end out (w ++ marked f x.0 out) x.1 (k + 1) (tag_shape x.0))
        go zero h = absurd (omega (arith, h))
        go (suc l) h = rw (sub-one (suc l)) (there (scan r l) (r.head s (suc l) end at k))

    -- where the node is refused, so is the term
    pub behind_refused : (n p : ℕ) → met (r.head s left end at k) ≡ refused n p → told (behind f out w) (scan r left s end at k) ≡ refused n p
    unfolding scan body
    behind_refused n p = go left
      where
        there : (sub : Subterms E) (x : Head s) → met x ≡ refused n p → told (behind f out w) (body r sub end k x) ≡ refused n p
        there sub (node m next) e = cc
        there sub (stop m q) e = cc

        go : (l : ℕ) → met (r.head s l end at k) ≡ refused n p → told (behind f out w) (scan r l s end at k) ≡ refused n p
        go zero e = there (λ q e a k. fault 6 a) (r.head s 0 end at k) e
        go (suc l) e = there (scan r l) (r.head s (suc l) end at k) e
