-- The walk over the nodes: its start, one step by the node's tag, its end.
use Prim.Native.Nat.{ℕ, ◌+◌, ◌<◌, ◌≤◌}
use mathlib.Core.Path.{◌≡◌, refl, sym, ap, subst, ◌∙◌}
use mathlib.Core.List.{List, [], ◌∷◌, ◌++◌, append-nil, append_assoc, map}
use native.Mathlib.Numerals.{add-one}
use native.Mathlib.Omega.{arith}
use lib.ListN.{length, drop, get_or, length-append, length-map}
use lib.Seq.{get_or-append_seam}
use Rattle.std.proofs.lemmas.List.{length_push}
use Rattle.ptacl.specs.Values.{single, code}
use Rattle.ptacl.specs.Request.{Request}
use Rattle.ptacl.specs.Term.{Sort, target, policy, Term, Policy, nodes, Node, an_atom, a_deny, an_allow, a_targeted, a_not, a_default, an_and, an_or, tag_of, Shape, numbers, leaf, one, two, shape}
use Rattle.ptacl.specs.Meaning.{eval}
use Rattle.ptacl.proofs.Finite.{tag_sort}
use Rattle.files.specs.Encoding.{enc, IsPolicy}
use Rattle.files.specs.Tags.{tag_named, tag_shape, byte_of}
use Rattle.files.specs.Refusal.{dec16}
use Rattle.files.specs.Places.{At}
use Rattle.files.specs.declared.tag.Tag.{Tag}
use Rattle.files.specs.declared.tag.Sort.{Sort as SortC}
use Rattle.files.specs.declared.tag.Shape.{Shape as ShapeC}
use Rattle.files.proofs.Terms.{Comes}
use Rattle.files.proofs.SingleByte.{same_node}
use Rattle.files.proofs.View.{as_node}
use Rattle.evaluate.specs.Worth.{worth, worth_steps, member}
use Rattle.evaluate.proofs.Worth.{owns, member_single}
use Rattle.flat.specs.Places.{behind, place_of, Noted}
use Rattle.flat.specs.Taken.{terms_of, bytes_of, shaped}
use Rattle.flat.specs.Finished.{Subterm, sub, enc_all, worth_of, Finished, Next}
use Rattle.flat.proofs.Root.{Built, root, same_row}
use Rattle.flat.proofs.Row.{first_byte, behind_first, row_bytes, row_last, next_at, next_inside}

-- one node: known by its byte, its term is made of the subterms whose values are the first on the stack
module _ {b : List ℕ} {at : ℕ} {q : Request} {stack : List ℕ} (n : Next b at) (f : Finished b (behind b at) q stack) where
  record Here {r : Sort} (k : Node r) : Type 0 where
    term : Term r
    rest : List Subterm
    parts : List Subterm
    bytes : drop at b ≡ enc term ++ enc_all rest
    room : length rest < 32
    built : Built (shape k) term parts
    values : stack ≡ map (worth_of q) (parts ++ rest)

  its_stack : stack ≡ map (worth_of q) ((root n.term).parts ++ n.rest)
  unfolding enc_all
  its_stack =
      let e : f.subterms ≡ (root n.term).parts ++ n.rest = same_row _ _ (sym f.bytes ∙ behind_first b at (sub n.term ∷ n.rest) n.bytes) in
      f.values ∙ ap (map (worth_of q)) e

  its_byte : get_or b at 0 ≡ tag_of (root n.term).node
  its_byte = first_byte b at n.term (enc_all n.rest) n.bytes

  here : {r : Sort} (k : Node r) → get_or b at 0 ≡ tag_of k → Here k
  here {r} k e = go r (tag_sort (root n.term).node k (sym its_byte ∙ e)) k (sym its_byte ∙ e)
    where
      one_sort : (k : Node n.sort) → tag_of (root n.term).node ≡ tag_of k → Here k
      one_sort k e = subst (λ m. Here m) (same_node (root n.term).node k e) (record {
        term = n.term;
        rest = n.rest;
        parts = (root n.term).parts;
        bytes = n.bytes;
        room = n.room;
        built = (root n.term).built;
        values = its_stack;
      })

      go : (r : Sort) → n.sort ≡ r → (k : Node r) → tag_of (root n.term).node ≡ tag_of k → Here k
      go r p = subst (λ r. (k : Node r) → tag_of (root n.term).node ≡ tag_of k → Here k) p one_sort

  -- what the step asks of the bytes and the stack, and what it leaves
  pub record Step (tag : Tag) (g : ShapeC) : Type 0 where
    pub inside : at + bytes_of g ≤ length b
    pub below : terms_of g ≤ length stack
    pub room : length stack < 32 + terms_of g
    pub after : Finished b at q (shaped (worth_steps q) tag (dec16 b (at + 1), dec16 b (at + 3)) stack g)

  module _ {r : Sort} (k : Node r) (e : get_or b at 0 ≡ tag_of k) where
    its : Here k
    its = here k e

    -- the term's value is on the stack, in the place of those of its subterms
    now_finished : {v : ℕ} → v ≡ worth q its.term → Finished b at q (v ∷ map (worth_of q) its.rest)
    unfolding enc_all
    now_finished x = record { subterms = sub its.term ∷ its.rest; bytes = its.bytes; values = ap (λ x. x ∷ map (worth_of q) its.rest) x }

    built_as : {g : Shape r} → shape k ≡ g → Built g its.term its.parts
    built_as x = subst (λ g. Built g its.term its.parts) x its.built

    law_as : {g : Shape r} → shape k ≡ g → Comes (λ s t. worth q t) (worth_steps q) k g
    law_as x = subst (λ g. Comes (λ s t. worth q t) (worth_steps q) k g) x (owns q r k)

    by_numbers : {f : ℕ → ℕ → Term r} → shape k ≡ numbers f → Step (tag_named k) ShapeC.Numbers
    by_numbers {f} x =
        let u = built_as x in
        let v : stack ≡ map (worth_of q) its.rest = its.values ∙ ap (λ z. map (worth_of q) (z ++ its.rest)) u.3 in
        let here : At b at (enc its.term) = record { rest = enc_all its.rest; split = its.bytes } in
        let w : worth q its.term ≡ (worth_steps q).numbers (dec16 b (at + 1)) (dec16 b (at + 3)) =
        as_node {b = b} {i = at} k (λ t. worth q t ≡ (worth_steps q).numbers (dec16 b (at + 1)) (dec16 b (at + 3))) e
        (rw x (λ i. law_as x (dec16 b (at + 1)) (dec16 b (at + 3)))) its.term here in
        let i : at + 4 < length b = as_node {b = b} {i = at} k (λ t. at + 4 < length b) e (rw x (λ i. i)) its.term here in
        record {
          inside = omega arith;
          below = omega arith;
          room = omega (arith, its.room, ap length v, length-map its.rest (worth_of q));
          after = subst (λ z. Finished b at q ((worth_steps q).numbers (dec16 b (at + 1)) (dec16 b (at + 3)) ∷ z)) (sym v) (now_finished (sym w));
        }

    by_leaf : {t : Term r} → shape k ≡ leaf t → Step (tag_named k) ShapeC.Leaf
    by_leaf x =
        let u = built_as x in
        let v : stack ≡ map (worth_of q) its.rest = its.values ∙ ap (λ z. map (worth_of q) (z ++ its.rest)) u.1 in
        record {
          inside = omega (arith, next_inside n);
          below = omega arith;
          room = omega (arith, its.room, ap length v, length-map its.rest (worth_of q));
          after = subst (λ z. Finished b at q ((worth_steps q).leaf (tag_named k) ∷ z)) (sym v)
              (now_finished (sym (law_as x) ∙ ap (λ z. worth q z) (sym u.0)));
        }

    by_one : {f : Term r → Term r} → shape k ≡ one f → Step (tag_named k) ShapeC.One
    by_one x =
        let u = built_as x in
        let v : stack ≡ worth q u.0 ∷ map (worth_of q) its.rest = its.values ∙ ap (λ z. map (worth_of q) (z ++ its.rest)) u.2 in
        record {
          inside = omega (arith, next_inside n);
          below = omega (arith, ap length v);
          room = omega (arith, its.room, ap length v, length-map its.rest (worth_of q));
          after = subst (λ z. Finished b at q ((worth_steps q).one (tag_named k) (get_or z 0 0) ∷ drop 1 z)) (sym v)
              (now_finished (sym (law_as x u.0) ∙ ap (λ z. worth q z) (sym u.1)));
        }

    two_values : {g : Sort} {f : Term g → Term r → Term r} (x : shape k ≡ two g f)
        → stack ≡ worth q (built_as x).0 ∷ (worth q (built_as x).1 ∷ map (worth_of q) its.rest)
    two_values x = its.values ∙ ap (λ z. map (worth_of q) (z ++ its.rest)) (built_as x).3

    by_two : (first : SortC) {g : Sort} {f : Term g → Term r → Term r} → shape k ≡ two g f → Step (tag_named k) (ShapeC.Two first)
    by_two first x =
        let u = built_as x in
        let v = two_values x in
        record {
          inside = omega (arith, next_inside n);
          below = omega (arith, ap length v);
          room = omega (arith, its.room, ap length v, length-map its.rest (worth_of q));
          after = subst (λ z. Finished b at q ((worth_steps q).two (tag_named k) (get_or z 0 0) (get_or z 1 0) ∷ drop 2 z)) (sym v)
              (now_finished (sym (law_as x u.0 u.1) ∙ ap (λ z. worth q z) (sym u.2)));
        }

  pub by_tag : (tag : Tag) → get_or b at 0 ≡ byte_of tag → Step tag (tag_shape tag)
  by_tag Tag.TargetAtom e = by_numbers an_atom e refl
  by_tag Tag.Deny e = by_leaf a_deny e refl
  by_tag Tag.Allow e = by_leaf an_allow e refl
  by_tag Tag.TargetNot e = by_one (a_not target) e refl
  by_tag Tag.PolicyNot e = by_one (a_not policy) e refl
  by_tag Tag.TargetOptional e = by_one (a_default target) e refl
  by_tag Tag.DenyByDefault e = by_one (a_default policy) e refl
  by_tag Tag.Targeted e = by_two a_targeted e SortC.Target refl
  by_tag Tag.TargetAnd e = by_two (an_and target) e SortC.Target refl
  by_tag Tag.PolicyAnd e = by_two (an_and policy) e SortC.Policy refl
  by_tag Tag.TargetOr e = by_two (an_or target) e SortC.Target refl
  by_tag Tag.PolicyOr e = by_two (an_or policy) e SortC.Policy refl

  -- a targeted node's target comes to a set of one value
  pub aimed : get_or b at 0 ≡ byte_of Tag.Targeted → get_or stack 0 0 ≡ code (single (member (get_or stack 0 0)))
  aimed e =
      let t = (built_as a_targeted e refl).0 in
      rw (two_values a_targeted e refl) (ap (λ v. code (single v)) (sym (member_single (eval t q))))

-- the whole walk: between two steps the nodes still to come are the first ones, and those behind them are finished
pub record Left (b places : List ℕ) (q : Request) (rest stack : List ℕ) : Type 0 where
  pub taken : List ℕ
  pub split : places ≡ rest ++ taken
  pub finished : Finished b (place_of b (length rest)) q stack

module _ {b places : List ℕ} (w : Noted b places) {q : Request} where
  pub walk_start : {rest stack : List ℕ} → rest ≡ places → stack ≡ [] → Left b places q rest stack
  unfolding enc_all
  walk_start {rest} r s =
      let e : place_of b (length rest) ≡ place_of b (nodes w.term) = ap (λ xs. place_of b (length xs)) r ∙ ap (place_of b) w.nodes.counted in
      rw s (record {
        taken = [];
        split = sym r ∙ sym (append-nil rest);
        finished = record {
          subterms = [];
          bytes = ap (λ i. drop i b) e ∙ row_bytes w.file (nodes w.term) ∙ ap enc_all (row_last w.term);
          values = refl;
        };
      })

  module _ {rest : List ℕ} (next : List ℕ) {stack : List ℕ} (at : ℕ) (l : Left b places q rest stack) (e : rest ≡ next ++ at ∷ []) where
    whole : places ≡ next ++ (at ∷ l.taken)
    whole = l.split ∙ ap (λ xs. xs ++ l.taken) e ∙ append_assoc next (at ∷ []) l.taken

    below : length next < length places
    below = omega (arith, ap length whole, length-append next (at ∷ l.taken))

    here_is : at ≡ place_of b (length next)
    here_is = sym (get_or-append_seam next at l.taken 0) ∙ ap (λ xs. get_or xs (length next) 0) (sym whole) ∙ w.nodes.place (length next) below

    behind_is : place_of b (length rest) ≡ behind b at
    behind_is = ap (λ xs. place_of b (length xs)) e ∙ ap (place_of b) (length_push next at) ∙ rw add-one refl ∙ ap (behind b) (sym here_is)

    pub walk_node : Next b at
    walk_node = subst (Next b) (sym here_is) (next_at w.file (length next) (omega (arith, w.nodes.counted, below)))

    pub walk_before : Finished b (behind b at) q stack
    walk_before = subst (λ i. Finished b i q stack) behind_is l.finished

    pub walk_on : {after : List ℕ} → Finished b at q after → Left b places q next after
    walk_on {after} f = record { taken = at ∷ l.taken; split = whole; finished = subst (λ i. Finished b i q after) here_is f }

  pub walk_end : {p : Policy} {rest stack : List ℕ} → IsPolicy b p → Left b places q rest stack → length rest ≡ 0 → stack ≡ code (eval p q) ∷ []
  walk_end {p} {stack = stack} file l e =
      let f : Finished b 3 q stack = subst (λ n. Finished b (place_of b n) q stack) e l.finished in
      let s : f.subterms ≡ sub p ∷ [] = same_row _ _ (sym f.bytes ∙ row_bytes file 0) in
      f.values ∙ ap (map (worth_of q)) s
