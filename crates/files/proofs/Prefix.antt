-- Reading in prefix order, for every form whose parts are read as they are written: what is written within the limits is read, and what
-- is read was written and is within the limits.
use Prim.Native.Nat.{ℕ, zero, suc, ◌+◌, ◌-◌, ◌≤◌, ◌<◌, max}
use mathlib.Core.Path.{◌≡◌, refl, sym, ap, ◌∙◌}
use mathlib.Core.Bool.{Bool, true, false, cond}
use mathlib.Core.List.{List, [], ◌∷◌, ◌++◌, append_assoc, append-nil}
use native.Mathlib.Omega.{arith}
use native.Mathlib.Numerals.{sub-one}
use lib.Dec.{ltb}
use lib.ListN.{length, drop, length-append}
use lib.Seq.{drop-length}
use borrow.Author.Tests.{ltb-false}
use Rattle.ptacl.specs.Request.{Pair}
use Rattle.ptacl.specs.Term.{Sort, Term, Policy, nodes, atoms}
use Rattle.ptacl.specs.Term.{Node, an_atom, a_deny, an_allow, a_targeted, a_not, a_default, an_and, an_or, Shape, numbers, leaf, one, two, shape}
use Rattle.ptacl.proofs.Shapes.{Case, by_shape}
use Rattle.files.specs.Encoding.{depth, InRange, Fits}
use Rattle.files.specs.Refusal.{accepted, refused}
use Rattle.files.specs.ReadPolicy.{finish}
use Rattle.files.specs.Prefix.{Form, spell, Head, node, stop, Scan, done, fault, and_then, Reader, Subterms, below, body, scan}
use Rattle.files.specs.Places.{At}
use Rattle.files.proofs.Framing.{Gives}
use Rattle.files.proofs.Places.{left, right}

-- ---- what a reader owes

-- a node that was read: where it stands, and that it is within the limits
pub record Inside {E : Type 0} (f : Form E) (most : ℕ) (b : List ℕ) (deep : ℕ) (end : E) (at k : ℕ) {s : Sort} (n : Node s) (next : ℕ) : Type 0 where
  pub bytes : drop at b ≡ f.mark s n end ++ drop next b
  pub inside : next ≤ length b
  pub shallow : 1 ≤ deep
  pub few : k < most

pub record InsidePair {E : Type 0} (f : Form E) (b : List ℕ) (end : E) (at k : ℕ) (x : Pair) (next count : ℕ) : Type 0 where
  pub bytes : drop at b ≡ f.pair x.0 x.1 end ++ drop next b
  pub inside : next ≤ length b
  pub counted : count ≡ k
  pub range : InRange (x ∷ [])

-- Fault: what a refusal's number and place may be
module _ {E : Type 0} (f : Form E) (most : ℕ) (b : List ℕ) (Fault : ℕ → ℕ → Type 0) where
  abbrev pub Told : (deep : ℕ) (end : E) (at k : ℕ) {s : Sort} → Head s → Type 0
  Told deep end at k (node n next) = Inside f most b deep end at k n next
  Told deep end at k (stop number place) = Fault number place

  abbrev pub ToldPair : (end : E) (at k : ℕ) → Scan Pair → Type 0
  ToldPair end at k (done x next count) = InsidePair f b end at k x next count
  ToldPair end at k (fault number place) = Fault number place

-- Readable: the pairs that are read as they are written
pub record Lawful {E : Type 0} (r : Reader E) (most : ℕ) (b : List ℕ) (Readable : List Pair → Type 0) (Fault : ℕ → ℕ → Type 0) : Type 0 where
  pub parts : (xs ys : List Pair) → Readable (xs ++ ys) → Readable xs × Readable ys
  pub head_reads : (s : Sort) (n : Node s) (deep : ℕ) (end : E) (at k : ℕ) → At b at (r.form.mark s n end) → 1 ≤ deep → k < most
      → r.head s deep end at k ≡ node n (at + length (r.form.mark s n end))
  pub pair_reads : (n v : ℕ) (end : E) (at k : ℕ) → Readable ((n, v) ∷ []) → At b at (r.form.pair n v end)
      → r.pair end at k ≡ done (n, v) (at + length (r.form.pair n v end)) k
  pub head_told : (s : Sort) (deep : ℕ) (end : E) (at k : ℕ) → Told r.form most b Fault deep end at k (r.head s deep end at k)

-- where an atom's numbers are due, what is read was written
abbrev pub PairsTold : {E : Type 0} (r : Reader E) (most : ℕ) (b : List ℕ) (Fault : ℕ → ℕ → Type 0) → Type 0
PairsTold {E} r most b Fault = (end : E) (at k : ℕ) → at ≤ length b → ToldPair r.form most b Fault end at k (r.pair end at k)

-- ---- what a node adds to what is below it, by its shape

module _ {E : Type 0} (f : Form E) where
  abbrev pub Adds : {s : Sort} → Node s → Shape s → Type 0
  Adds {s} k (numbers g) = (n v : ℕ) (end : E) → (spell f end (g n v) ≡ f.mark s k end ++ f.pair n v end)
      × (nodes (g n v) ≡ 1) × (depth (g n v) ≡ 1) × (atoms (g n v) ≡ (n, v) ∷ [])
  Adds {s} k (leaf t) = (end : E) → (spell f end t ≡ f.mark s k end) × (nodes t ≡ 1) × (depth t ≡ 1) × (atoms t ≡ [])
  Adds {s} k (one g) = (t : Term s) (end : E) → (spell f end (g t) ≡ f.mark s k end ++ spell f end t)
      × (nodes (g t) ≡ 1 + nodes t) × (depth (g t) ≡ 1 + depth t) × (atoms (g t) ≡ atoms t)
  Adds {s} k (two q g) = (t : Term q) (u : Term s) (end : E)
      → (spell f end (g t u) ≡ f.mark s k end ++ (spell f f.between t ++ spell f end u))
      × (nodes (g t u) ≡ 1 + nodes t + nodes u) × (depth (g t u) ≡ 1 + max (depth t) (depth u)) × (atoms (g t u) ≡ atoms t ++ atoms u)

  pub adds : {s : Sort} (k : Node s) → Adds k (shape k)
  unfolding spell depth
  adds an_atom = λ n v end. (refl, refl, refl, refl)
  adds a_deny = λ end. (refl, refl, refl, refl)
  adds an_allow = λ end. (refl, refl, refl, refl)
  adds a_targeted = λ t u end. (refl, refl, refl, refl)
  adds (a_not s) = λ t end. (refl, refl, refl, refl)
  adds (a_default s) = λ t end. (refl, refl, refl, refl)
  adds (an_and s) = λ t u end. (refl, refl, refl, refl)
  adds (an_or s) = λ t u end. (refl, refl, refl, refl)

range_append : (xs ys : List Pair) → InRange xs → InRange ys → InRange (xs ++ ys)
unfolding InRange
range_append [] ys f g = g
range_append (x ∷ xs) ys f g = (f.0, f.1, range_append xs ys f.2 g)

module _ {E : Type 0} (r : Reader E) (most : ℕ) (b : List ℕ) {Readable : List Pair → Type 0} {Fault : ℕ → ℕ → Type 0}
    (law : Lawful r most b Readable Fault) where
  -- ---- one step: with no depth left no head is a node, so that how terms below it are read does not matter

  same_stop : (g h : Subterms E) (end : E) (k : ℕ) {s : Sort} (x : Head s) → ((n : Node s) (next : ℕ) → x ≡ node n next → ⊥)
      → body r g end k x ≡ body r h end k x
  unfolding body
  same_stop g h end k (node n next) none = absurd (none n next refl)
  same_stop g h end k (stop number place) none = refl

  no_depth : (s : Sort) (end : E) (at k : ℕ) (n : Node s) (next : ℕ) → r.head s 0 end at k ≡ node n next → ⊥
  no_depth s end at k n next e = go (r.head s 0 end at k) e (law.head_told s 0 end at k)
    where
      go : (x : Head s) → x ≡ node n next → Told r.form most b Fault 0 end at k x → ⊥
      go (node m q) e w = omega arith
      go (stop number place) e w = let z : ◌≡◌ {A = ℕ} 0 1 = cc in omega arith

  step : (deep : ℕ) (s : Sort) (end : E) (at k : ℕ) → scan r deep s end at k ≡ body r (scan r (deep - 1)) end k (r.head s deep end at k)
  unfolding scan
  step zero s end at k = same_stop _ _ end k _ (no_depth s end at k)
  step (suc deep) s end at k = rw (sub-one (suc deep))

  pub scan_at : (deep : ℕ) (end : E) (at k : ℕ) {s : Sort} (h : Head s) → r.head s deep end at k ≡ h
      → scan r deep s end at k ≡ body r (scan r (deep - 1)) end k h
  scan_at deep end at k {s} h e = step deep s end at k ∙ ap (body r (scan r (deep - 1)) end k) e

  -- ---- what is written is read

  abbrev pub Found : (s : Sort) → Term s → Type 0
  Found s t = (deep : ℕ) (end : E) (at k next count : ℕ) → At b at (spell r.form end t) → Readable (atoms t) → depth t ≤ deep
      → k + nodes t ≤ most → next ≡ at + length (spell r.form end t) → count ≡ k + nodes t → scan r deep s end at k ≡ done t next count

  at_node : {s : Sort} (n : Node s) (sh : Shape s) → shape n ≡ sh → (deep : ℕ) (end : E) (at k : ℕ) → At b at (r.form.mark s n end)
      → 1 ≤ deep → k < most → scan r deep s end at k ≡ below r (scan r (deep - 1)) end (at + length (r.form.mark s n end)) (k + 1) sh
  unfolding body
  at_node {s} n sh e deep end at k h l m =
      scan_at deep end at k (node n _) (law.head_reads s n deep end at k h l m)
      ∙ ap (below r (scan r (deep - 1)) end (at + length (r.form.mark s n end)) (k + 1)) e

  numbers_found : {s : Sort} (n : Node s) (g : ℕ → ℕ → Term s) → shape n ≡ numbers g → Adds r.form n (numbers g) → Case Found (numbers g)
  unfolding below
  numbers_found {s} n g e laws x y deep end at k next count h i l m p q =
      let w = laws x y end in
      let mk = r.form.mark s n end in
      let pr = r.form.pair x y end in
      let hh = rw w.0 at h in
      let z = length-append mk pr in
      let len = ap length w.0 in
      let a : at + length mk + length pr ≡ next = omega arith in
      let c : k + 1 ≡ count = omega arith in
      at_node n (numbers g) e deep end at k (left mk pr hh) (omega arith) (omega arith)
      ∙ rw (law.pair_reads x y end (at + length mk) (k + 1) (rw w.3 at i) (right mk pr hh), a, c)

  leaf_found : {s : Sort} (n : Node s) (t : Term s) → shape n ≡ leaf t → Adds r.form n (leaf t) → Found s t
  unfolding below
  leaf_found {s} n t e laws deep end at k next count h i l m p q =
      let w = laws end in
      let len = ap length w.0 in
      let a : at + length (r.form.mark s n end) ≡ next = omega arith in
      let c : k + 1 ≡ count = omega arith in
      at_node n (leaf t) e deep end at k (rw w.0 at h) (omega arith) (omega arith) ∙ rw (a, c)

  one_found : {s : Sort} (n : Node s) (g : Term s → Term s) → shape n ≡ one g → Adds r.form n (one g) → Case Found (one g)
  unfolding below
  one_found {s} n g e laws t ih deep end at k next count h i l m p q =
      let w = laws t end in
      let mk = r.form.mark s n end in
      let st = spell r.form end t in
      let hh = rw w.0 at h in
      let z = length-append mk st in
      let len = ap length w.0 in
      at_node n (one g) e deep end at k (left mk st hh) (omega arith) (omega arith)
      ∙ rw (ih (deep - 1) end (at + length mk) (k + 1) next count (right mk st hh) (rw w.3 at i)
      (omega arith) (omega arith) (omega arith) (omega arith))

  two_found : {s : Sort} (n : Node s) (q : Sort) (g : Term q → Term s → Term s) → shape n ≡ two q g → Adds r.form n (two q g) → Case Found (two q g)
  unfolding below
  two_found {s} n q g e laws t u ih also deep end at k next count h i l m p c =
      let w = laws t u end in
      let mk = r.form.mark s n end in
      let st = spell r.form r.form.between t in
      let su = spell r.form end u in
      let hh = rw w.0 at h in
      let y = right mk (st ++ su) hh in
      let z = length-append mk (st ++ su) in
      let z2 = length-append st su in
      let len = ap length w.0 in
      let rg = law.parts (atoms t) (atoms u) (rw w.3 at i) in
      let a = at + length mk + length st in
      at_node n (two q g) e deep end at k (left mk (st ++ su) hh) (omega arith) (omega arith)
      ∙ rw (
        ih (deep - 1) r.form.between (at + length mk) (k + 1) a (k + 1 + nodes t) (left st su y) rg.0 (omega arith) (omega arith) refl refl,
        also (deep - 1) end a (k + 1 + nodes t) next count (right st su y) rg.1 (omega arith) (omega arith) (omega arith) (omega arith),
      )

  found : {s : Sort} (n : Node s) (g : Shape s) → shape n ≡ g → Adds r.form n g → Case Found g
  found n (numbers g) = numbers_found n g
  found n (leaf t) = leaf_found n t
  found n (one g) = one_found n g
  found n (two q g) = two_found n q g

  pub complete : {s : Sort} (t : Term s) → Found s t
  complete t = by_shape Found (λ s k. found k (shape k) refl (adds r.form k)) t

  -- ---- what is read was written

  -- the term t stands at `at`, ends before `next`, and is within the limits
  pub record Stands (deep : ℕ) (end : E) (at k : ℕ) {s : Sort} (t : Term s) (next count : ℕ) : Type 0 where
    pub bytes : drop at b ≡ spell r.form end t ++ drop next b
    pub inside : next ≤ length b
    pub counted : count ≡ k + nodes t
    pub few : count ≤ most
    pub shallow : depth t ≤ deep
    pub range : InRange (atoms t)

  abbrev pub Good : (deep : ℕ) (end : E) (at k : ℕ) {s : Sort} → Scan (Term s) → Type 0
  Good deep end at k (done t next count) = Stands deep end at k t next count
  Good deep end at k (fault number place) = Fault number place

  module _ {deep : ℕ} {end : E} {at k : ℕ} {s : Sort} (n : Node s) (next : ℕ) (w : Inside r.form most b deep end at k n next) where
    -- what stands behind the mark stands with it
    marked : (xs ys : List ℕ) {zs : List ℕ} → drop next b ≡ xs ++ ys → zs ≡ r.form.mark s n end ++ xs → drop at b ≡ zs ++ ys
    marked xs ys d e =
        w.bytes ∙ ap (λ (z : List ℕ). r.form.mark s n end ++ z) d ∙ sym (append_assoc (r.form.mark s n end) xs ys)
        ∙ ap (λ (z : List ℕ). z ++ ys) (sym e)

    numbers_good : (g : ℕ → ℕ → Term s) → Adds r.form n (numbers g) → (x : Scan Pair) → ToldPair r.form most b Fault end next (k + 1) x
        → Good deep end at k (and_then x (λ x a k. done (g x.0 x.1) a k))
    numbers_good g laws (done x a c) h =
        let l = laws x.0 x.1 end in
        record {
          bytes = marked (r.form.pair x.0 x.1 end) (drop a b) h.bytes l.0;
          inside = h.inside;
          counted = omega (arith, h.counted);
          few = omega (arith, h.counted, w.few);
          shallow = omega (arith, w.shallow);
          range = rw l.3 h.range;
        }
    numbers_good g laws (fault number place) h = h

    one_good : (g : Term s → Term s) → Adds r.form n (one g) → (x : Scan (Term s)) → Good (deep - 1) end next (k + 1) x
        → Good deep end at k (and_then x (λ t a k. done (g t) a k))
    one_good g laws (done t a c) h =
        let l = laws t end in
        record {
          bytes = marked (spell r.form end t) (drop a b) h.bytes l.0;
          inside = h.inside;
          counted = omega (arith, h.counted);
          few = h.few;
          shallow = omega (arith, h.shallow, w.shallow);
          range = rw l.3 h.range;
        }
    one_good g laws (fault number place) h = h

    module _ {q : Sort} (g : Term q → Term s → Term s) (laws : Adds r.form n (two q g)) where
      second : (t : Term q) (a c : ℕ) → Stands (deep - 1) r.form.between next (k + 1) t a c → (y : Scan (Term s))
          → Good (deep - 1) end a c y → Good deep end at k (and_then y (λ u e m. done (g t u) e m))
      second t a c h (done u e m) j =
          let l = laws t u end in
          let st = spell r.form r.form.between t in
          let su = spell r.form end u in
          record {
            bytes = marked (st ++ su) (drop e b) (h.bytes ∙ ap (λ (z : List ℕ). st ++ z) j.bytes ∙ sym (append_assoc st su (drop e b))) l.0;
            inside = j.inside;
            counted = omega (arith, h.counted, j.counted);
            few = j.few;
            shallow = omega (arith, h.shallow, j.shallow, w.shallow);
            range = rw l.3 (range_append (atoms t) (atoms u) h.range j.range);
          }
      second t a c h (fault number place) j = j

      two_good : (x : Scan (Term q)) → Good (deep - 1) r.form.between next (k + 1) x → (y : ℕ → ℕ → Scan (Term s))
          → ((a c : ℕ) → a ≤ length b → Good (deep - 1) end a c (y a c))
          → Good deep end at k (and_then x (λ t a k. and_then (y a k) (λ u e m. done (g t u) e m)))
      two_good (done t a c) h y j = second t a c h (y a c) (j a c h.inside)
      two_good (fault number place) h y j = h

  module _ (pairs : PairsTold r most b Fault) (deep : ℕ)
      (ih : 1 ≤ deep → (q : Sort) (end : E) (at k : ℕ) → at ≤ length b → Good (deep - 1) end at k (scan r (deep - 1) q end at k)) where
    good_below : (end : E) (at k : ℕ) {s : Sort} (n : Node s) (next : ℕ) → Inside r.form most b deep end at k n next
        → (sh : Shape s) → Adds r.form n sh → Good deep end at k (below r (scan r (deep - 1)) end next (k + 1) sh)
    unfolding below InRange
    good_below end at k n next w (numbers g) laws = numbers_good n next w g laws (r.pair end next (k + 1)) (pairs end next (k + 1) w.inside)
    good_below end at k n next w (leaf t) laws =
        let l = laws end in
        record {
          bytes = w.bytes ∙ ap (λ (z : List ℕ). z ++ drop next b) (sym l.0);
          inside = w.inside;
          counted = omega arith;
          few = omega (arith, w.few);
          shallow = omega (arith, w.shallow);
          range = rw l.3 tt;
        }
    good_below end at k {s} n next w (one g) laws =
        one_good n next w g laws (scan r (deep - 1) s end next (k + 1)) (ih w.shallow s end next (k + 1) w.inside)
    good_below end at k {s} n next w (two q g) laws =
        let j = ih w.shallow in
        two_good n next w g laws (scan r (deep - 1) q r.form.between next (k + 1)) (j q r.form.between next (k + 1) w.inside)
        (scan r (deep - 1) s end) (j s end)

    good_body : (end : E) (at k : ℕ) {s : Sort} (h : Head s) → Told r.form most b Fault deep end at k h
        → Good deep end at k (body r (scan r (deep - 1)) end k h)
    unfolding body
    good_body end at k (stop number place) w = w
    good_body end at k (node n next) w = good_below end at k n next w (shape n) (adds r.form n)

    good_step : (s : Sort) (end : E) (at k : ℕ) → at ≤ length b → Good deep end at k (scan r deep s end at k)
    good_step s end at k i =
        let h = r.head s deep end at k in
        rw (scan_at deep end at k h refl) (good_body end at k h (law.head_told s deep end at k))

  pub good : PairsTold r most b Fault → (deep : ℕ) (s : Sort) (end : E) (at k : ℕ) → at ≤ length b → Good deep end at k (scan r deep s end at k)
  good pairs zero = good_step pairs 0 (λ l. absurd (omega arith))
  good pairs (suc deep) = good_step pairs (suc deep) (λ l. rw (sub-one (suc deep)) (good pairs deep))

  -- ---- a policy that ends where the bytes end

  pub finished : (excess : ℕ) → ((place : ℕ) → place ≤ length b → Fault excess place) → most ≤ 255 → (end : E) (at : ℕ) (x : Scan Policy)
      → Good 32 end at 0 x → Gives (λ p. (drop at b ≡ spell r.form end p) × Fits p) Fault (finish excess (length b) x)
  finished excess left few end at (fault number place) g = g
  finished excess left few end at (done p next count) g = go (ltb next (length b)) refl
    where
      go : (c : Bool) → ltb next (length b) ≡ c
          → Gives (λ p. (drop at b ≡ spell r.form end p) × Fits p) Fault (cond c (refused excess next) (accepted p))
      go true e = left next g.inside
      go false e =
          let n : next ≡ length b = omega (arith, ltb-false next (length b) e, g.inside) in (
            g.bytes ∙ ap (λ (m : ℕ). spell r.form end p ++ drop m b) n ∙ simp (drop-length, append-nil),
            record { few = omega (arith, g.counted, g.few); shallow = g.shallow; range = g.range },
          )
