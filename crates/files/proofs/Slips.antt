-- What a refusal of 15, or of 5, tells of the byte at its place, and of what is due there.
use Prim.Native.Nat.{ℕ, zero, suc, ◌+◌, ◌-◌, ◌≤◌, ◌<◌}
use mathlib.Core.Path.{◌≡◌, refl, sym, ap, subst, ◌∙◌}
use mathlib.Core.List.{List, [], ◌∷◌, ◌++◌, append_assoc, append-nil}
use native.Mathlib.Omega.{arith}
use native.Mathlib.Numerals.{sub-one}
use lib.Dec.{ltb}
use lib.ListN.{length, get_or, drop, length-append, length-drop}
use lib.Seq.{take-append_seam}
use borrow.Author.Tests.{ltb-true}
use Rattle.ptacl.specs.Request.{Pair}
use Rattle.ptacl.specs.Term.{Sort, policy, Term, Policy, Node, tag_of, Shape, numbers, leaf, one, two, shape}
use Rattle.ptacl.proofs.Bools.{either}
use Rattle.ptacl.proofs.Shapes.{Case, by_shape}
use Rattle.files.specs.Encoding.{big, bytes, enc, Bytes}
use Rattle.files.specs.Refusal.{Read, accepted, refused, unframed}
use Rattle.files.specs.Prefix.{Head, node, stop, Scan, done, fault, and_then, below, body, scan}
use Rattle.files.specs.ReadPolicy.{Byte, tag, other, unknown, byte_at, head_at, pair_at, in_bytes, finish, read_policy}
use Rattle.files.specs.Due.{Due, a_term, due_below, behind_tag, due_behind, DueNext, Slip, Rubbish}
use Rattle.files.proofs.Framing.{Framing, faulty, whole, framing, unframed_whole}
use Rattle.files.proofs.Prefix.{Inside, Adds, adds, Told, Good, good, scan_at}
use Rattle.files.proofs.SingleByte.{OfNode, byte_node, known, never_unknown}
use Rattle.files.proofs.PolicySteps.{tagged_told, Faulty, byte_laws, pairs_told}

-- ---- what is due behind a node's byte, and behind a term

at_tag : {s : Sort} (n : Node s) (ds : List Due) (xs : List ℕ) → due_behind (a_term s ∷ ds) (tag_of n ∷ xs) ≡ due_behind (due_below (shape n) ++ ds) xs
unfolding due_behind
at_tag n ds xs = ap (λ x. due_behind (behind_tag ds x) xs) (known n)

abbrev Passes : (s : Sort) → Term s → Type 0
Passes s t = (ds : List Due) (xs : List ℕ) → due_behind (a_term s ∷ ds) (enc t ++ xs) ≡ due_behind ds xs

passes : {s : Sort} (t : Term s) → Passes s t
unfolding enc due_behind
passes t = by_shape Passes (λ s k. go k (shape k) refl (adds bytes k)) t
  where
    go : {s : Sort} (k : Node s) (g : Shape s) → shape k ≡ g → Adds bytes k g → Case Passes g
    go k (numbers f) e law = λ n v ds xs. rw ((law n v tt).0, at_tag k ds (big n (big v xs)), e)
    go k (leaf t) e law = λ ds xs. rw ((law tt).0, at_tag k ds xs, e)
    go k (one f) e law = λ t h ds xs. rw ((law t tt).0, at_tag k ds (enc t ++ xs), e) (h ds xs)
    go {s} k (two r f) e law = λ t u h j ds xs.
        rw ((law t u tt).0, append_assoc (enc t) (enc u) xs, at_tag k ds (enc t ++ (enc u ++ xs)), e) (h (a_term s ∷ ds) (enc u ++ xs) ∙ j ds xs)

-- from a term of sort s that is due at a place, the bytes lead on to where a term of sort r is due next
record Leads (b : List ℕ) (s : Sort) (at : ℕ) (r : Sort) (to : ℕ) : Type 0 where
  over : List ℕ
  split : drop at b ≡ over ++ drop to b
  later : List Due → List Due
  due : (ds : List Due) (xs : List ℕ) → due_behind (a_term s ∷ ds) (over ++ xs) ≡ due_behind (a_term r ∷ later ds) xs

stays : {b : List ℕ} {s : Sort} {at : ℕ} → Leads b s at s at
stays = record { over = []; split = refl; later = λ ds. ds; due = λ ds xs. refl }

module _ {b : List ℕ} {s : Sort} {at : ℕ} where
  leads_on : {q r : Sort} {next to : ℕ} → Leads b s at q next → Leads b q next r to → Leads b s at r to
  leads_on {r = r} {to = to} f g = record {
    over = f.over ++ g.over;
    split = f.split ∙ ap (λ (xs : List ℕ). f.over ++ xs) g.split ∙ sym (append_assoc f.over g.over (drop to b));
    later = λ ds. g.later (f.later ds);
    due = λ ds xs. ap (due_behind (a_term s ∷ ds)) (append_assoc f.over g.over xs) ∙ f.due ds (g.over ++ xs) ∙ g.due (f.later ds) xs;
  }

  module _ (n : Node s) (next : ℕ) (h : drop at b ≡ tag_of n ∷ drop next b) where
    to_first : {q : Sort} {qs : List Due} → due_below (shape n) ≡ a_term q ∷ qs → Leads b s at q next
    to_first {qs = qs} e = record {
      over = tag_of n ∷ [];
      split = h;
      later = λ ds. qs ++ ds;
      due = λ ds xs. at_tag n ds xs ∙ ap (λ x. due_behind (x ++ ds) xs) e;
    }

    to_second : {p q : Sort} {a : ℕ} → due_below (shape n) ≡ a_term p ∷ a_term q ∷ [] → (t : Term p) → drop next b ≡ enc t ++ drop a b → Leads b s at q a
    to_second {q = q} e t g = record {
      over = tag_of n ∷ enc t;
      split = h ∙ ap (λ (xs : List ℕ). tag_of n ∷ xs) g;
      later = λ ds. ds;
      due = λ ds xs. at_tag n ds (enc t ++ xs) ∙ ap (λ x. due_behind (x ++ ds) (enc t ++ xs)) e ∙ passes t (a_term q ∷ ds) xs;
    }

-- ---- why a term is refused

-- the number for a byte that is no tag of the sort
abbrev Strange : ℕ → {r : Sort} → Byte r → Type 0
Strange number (tag n) = ⊥
Strange number (other n) = number ≡ 15
Strange number unknown = number ≡ 5

-- for the byte where a term is due, or for something else
data Why (b : List ℕ) (s : Sort) (at number place : ℕ) : Type 0 where
  at_byte : (r : Sort) → Leads b s at r place → place < length b → Strange number (byte_at r (get_or b place 0)) → Why b s at number place
  elsewhere : (number ≡ 15 → ⊥) → (number ≡ 5 → ⊥) → Why b s at number place

carried : {b : List ℕ} {s q : Sort} {at next number place : ℕ} → Leads b s at q next → Why b q next number place → Why b s at number place
carried f (at_byte r g i w) = at_byte r (leads_on f g) i w
carried f (elsewhere g h) = elsewhere g h

module _ (most : ℕ) (b : List ℕ) (bs : Bytes b) where
  abbrev read : ℕ → (s : Sort) → ℕ → ℕ → Scan (Term s)
  read deep s at k = scan (in_bytes most b) deep s tt at k

  abbrev Stops : (s : Sort) (at : ℕ) → Head s → Type 0
  Stops s at (node n next) = Unit {0}
  Stops s at (stop number place) = Why b s at number place

  abbrev Faults : {A : Type 0} (s : Sort) (at : ℕ) → Scan A → Type 0
  Faults s at (done a next k) = Unit {0}
  Faults s at (fault number place) = Why b s at number place

  head_stops : (left : ℕ) (s : Sort) (at k : ℕ) → Stops s at (head_at most b s left at k)
  unfolding head_at
  head_stops left s at k = either (ltb at (length b))
      (λ e. let i = ltb-true at (length b) e in
      rw e (tagged_told (Stops s at) most left k (byte_at s (get_or b at 0))
      (λ n q. at_byte s stays i (subst (λ x. Strange 15 x) (sym q) refl))
      (λ q. at_byte s stays i (subst (λ x. Strange 5 x) (sym q) refl))
      (λ l f g. elsewhere (λ e. omega arith) (λ e. omega arith))
      (λ n q d f. tt)))
      (λ e. rw e (elsewhere (λ e. omega arith) (λ e. omega arith)))

  numbers_fault : {A : Type 0} (s : Sort) (at next k : ℕ) (f : Pair → A) → Faults s at (and_then (pair_at b next k) (λ x a k. done (f x) a k))
  unfolding pair_at
  numbers_fault s at next k f = either (ltb (next + 3) (length b)) (λ e. rw e tt) (λ e. rw e (elsewhere (λ e. omega arith) (λ e. omega arith)))

  one_faults : {A B : Type 0} {s q : Sort} {at next : ℕ} → Leads b s at q next → (x : Scan A) (f : A → B) → Faults q next x
      → Faults s at (and_then x (λ t a k. done (f t) a k))
  one_faults l (done t a k) f w = tt
  one_faults l (fault number place) f w = carried l w

  module _ (deep : ℕ) (ih : 1 ≤ deep → (s : Sort) (at k : ℕ) → at ≤ length b → Faults s at (read (deep - 1) s at k))
      (s : Sort) (at k : ℕ) where
    below_faults : (n : Node s) {next : ℕ} → Inside bytes most b deep tt at k n next → (g : Shape s) → shape n ≡ g
        → Faults s at (below (in_bytes most b) (scan (in_bytes most b) (deep - 1)) tt next (k + 1) g)
    unfolding below enc
    below_faults n {next} w (numbers f) e = numbers_fault s at next (k + 1) (λ x. f x.0 x.1)
    below_faults n w (leaf t) e = tt
    below_faults n {next} w (one f) e =
        one_faults (to_first n next w.bytes (ap (λ x. due_below x) e)) (read (deep - 1) s next (k + 1)) f (ih w.shallow s next (k + 1) w.inside)
    below_faults n {next} w (two q f) e =
        go (read (deep - 1) q next (k + 1)) (ih w.shallow q next (k + 1) w.inside)
        (good (in_bytes most b) most b (byte_laws most b) (pairs_told most b bs) (deep - 1) q tt next (k + 1) w.inside)
      where
        go : (x : Scan (Term q)) → Faults q next x → Good (in_bytes most b) most b (byte_laws most b) (deep - 1) tt next (k + 1) x
            → Faults s at (and_then x (λ t a c. and_then (read (deep - 1) s a c) (λ u c m. done (f t u) c m)))
        go (fault number place) v g = carried (to_first n next w.bytes (ap (λ x. due_below x) e)) v
        go (done t a c) v g = one_faults (to_second n next w.bytes (ap (λ x. due_below x) e) t g.bytes) (read (deep - 1) s a c) (f t) (ih w.shallow s a c g.inside)

    body_faults : (h : Head s) → Stops s at h → Told bytes most b (Faulty b) deep tt at k h
        → Faults s at (body (in_bytes most b) (scan (in_bytes most b) (deep - 1)) tt k h)
    unfolding body
    body_faults (stop number place) v w = v
    body_faults (node n next) v w = below_faults n w (shape n) refl

    step_faults : at ≤ length b → Faults s at (read deep s at k)
    step_faults i =
        let h = head_at most b s deep at k in
        rw (scan_at (in_bytes most b) most b (byte_laws most b) deep tt at k h refl)
        (body_faults h (head_stops deep s at k) ((byte_laws most b).head_told s deep tt at k))

  faults : (deep : ℕ) (s : Sort) (at k : ℕ) → at ≤ length b → Faults s at (read deep s at k)
  faults zero s at k = step_faults 0 (λ l. absurd (omega arith)) s at k
  faults (suc deep) s at k = step_faults (suc deep) (λ l. rw (sub-one (suc deep)) (faults deep)) s at k

-- ---- why a file is refused

abbrev ReadWhy : List ℕ → Read Policy → Type 0
ReadWhy s (accepted p) = Unit {0}
ReadWhy s (refused number place) = Why s policy 3 number place

module _ (s : List ℕ) (bs : Bytes s) where
  finish_why : (x : Scan Policy) → Faults 255 s bs policy 3 x → ReadWhy s (finish 8 (length s) x)
  finish_why (done p next k) w = either (ltb next (length s)) (λ e. rw e (elsewhere (λ e. omega arith) (λ e. omega arith))) (λ e. rw e tt)
  finish_why (fault number place) w = w

  file_why : ReadWhy s (read_policy s)
  unfolding read_policy
  file_why = go (framing 1 s)
    where
      x : Scan Policy
      x = scan (in_bytes 255 s) 32 policy tt 3 0

      go : Framing 1 s → ReadWhy s (unframed 1 s (finish 8 (length s) x))
      go (faulty n p r) = rw (r.given (finish 8 (length s) x)) (elsewhere (λ e. omega (arith, r.high)) (λ e. omega (arith, r.high)))
      go (whole w) = rw (unframed_whole 1 s (finish 8 (length s) x) w) (finish_why x (faults 255 s bs 32 policy 3 0 w.long))

leads_to : {s : List ℕ} {r : Sort} {place : ℕ} → Leads s policy 3 r place → place < length s → DueNext s place r
unfolding due_behind
leads_to {s} {r} {place} l i =
    let n : place - 3 ≡ length l.over = omega (arith, ap length l.split, length-append l.over (drop place s), length-drop 3 s, length-drop place s) in
    record {
      inside = i;
      later = l.later [];
      is = rw (n, l.split, take-append_seam l.over (drop place s)) (ap (due_behind (a_term policy ∷ [])) (sym (append-nil l.over)) ∙ l.due [] []);
    }

module _ {s : List ℕ} (bs : Bytes s) {place : ℕ} where
  -- the theorem: where a file is refused 15, the byte is a tag of the other sort than the one that is due
  pub slip : read_policy s ≡ refused 15 place → Slip s place
  slip e = go (subst (ReadWhy s) e (file_why s bs))
    where
      go : Why s policy 3 15 place → Slip s place
      go (elsewhere f g) = absurd (f refl)
      go (at_byte r l i w) = at (byte_at r (get_or s place 0)) w (byte_node r (get_or s place 0))
        where
          at : (x : Byte r) → Strange 15 x → OfNode (λ q n. get_or s place 0 ≡ tag_of n) x → Slip s place
          at (tag n) w h = absurd w
          at (other n) w h = record { sort = r; due = leads_to l i; node = n; byte = h }
          at unknown w h = absurd (omega arith)

  -- the theorem: where it is refused 5, the byte is a tag of neither
  pub rubbish : read_policy s ≡ refused 5 place → Rubbish s place
  rubbish e = go (subst (ReadWhy s) e (file_why s bs))
    where
      go : Why s policy 3 5 place → Rubbish s place
      go (elsewhere f g) = absurd (g refl)
      go (at_byte r l i w) = at (byte_at r (get_or s place 0)) refl w
        where
          at : (x : Byte r) → byte_at r (get_or s place 0) ≡ x → Strange 5 x → Rubbish s place
          at (tag n) u w = absurd w
          at (other n) u w = absurd (omega arith)
          at unknown u w = record { sort = r; due = leads_to l i; none = λ q n h. never_unknown r q n (ap (byte_at r) (sym h) ∙ u) }
