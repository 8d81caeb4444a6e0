-- The reader's loop: what is due, read from here on, tells what the whole policy does, and each node met so far has its place.
use Prim.Native.Nat.{ℕ, zero, suc, ◌+◌, ◌*◌, ◌-◌, ◌≤◌, ◌<◌, max}
use mathlib.Core.Path.{◌≡◌, refl, sym, ap, ◌∙◌}
use mathlib.Core.Bool.{Bool, true, false, cond}
use mathlib.Core.List.{List, [], ◌∷◌, ◌++◌, append-nil, reverse}
use native.Mathlib.Decide.{dec_lt}
use native.Mathlib.Numerals.{add-one}
use native.Mathlib.Omega.{arith}
use lib.Dec.{eqb, ltb}
use lib.ListN.{length, take, drop, get_or}
use lib.Seq.{get_or-append_seam, length-take-le}
use Rattle.std.specs.Prelude.{Option, Some, None, Result, Ok, Err, IsErrAnd}
use Rattle.std.specs.Option.{option_to_list, IsSome}
use Rattle.std.proofs.lemmas.List.{reverse-append, length-reverse, length_push, get_or_append_left}
use Rattle.ptacl.specs.Request.{Pair}
use Rattle.ptacl.specs.Term.{Sort, policy, an_atom, tag_of}
use Rattle.files.specs.Encoding.{bytes}
use Rattle.files.specs.Refusal.{Read, accepted, refused, dec16}
use Rattle.files.specs.Prefix.{Head, node, stop, Scan, done, fault, scan}
use Rattle.files.specs.ReadPolicy.{head_at, pair_at, in_bytes}
use Rattle.files.specs.Tags.{sort_of, tag_shape, byte_of}
use Rattle.files.specs.Reading.{Place, GoesOn, ◌>>=◌, node_in, told, nothing, terms_below}
use Rattle.files.specs.Faults.{fault_number}
use Rattle.files.specs.Views.{accepted_or}
use Rattle.files.specs.declared.fault.Fault.{Fault}
use Rattle.files.specs.declared.tag.Sort.{Sort as SortC}
use Rattle.files.specs.declared.tag.Shape.{Shape as ShapeC}
use Rattle.files.specs.declared.tag.Tag.{Tag}
use Rattle.files.proofs.Nodes.{tagged}
use Rattle.files.proofs.Places.{head}
use Rattle.files.proofs.PolicySteps.{Faulty, byte_laws}
use Rattle.files.proofs.Prefix.{Told}
use Rattle.files.proofs.Terms.{term_more}
use Rattle.flat.specs.Places.{behind, place_of, PlacesTo}
use Rattle.flat.specs.Taken.{bytes_of}
use Rattle.flat.specs.declared.read.Due.{Due}

abbrev pub End : Type 0
End = Read (Unit {0} × ℕ × ℕ)

-- what is told of a term that is due, and of all that is due, read one behind the other
abbrev pub read_due : List ℕ → Due → ℕ → ℕ → End
read_due b d at k = told nothing (scan (in_bytes 255 b) d.left (sort_of d.sort) tt at k)

unfoldable pub read_all : List ℕ → List Due → ℕ → ℕ → End
read_all b [] at k = accepted (tt, at, k)
read_all b (d ∷ ds) at k = read_due b d at k >>= λ x. read_all b ds x.1 x.2

-- each has less of the depth left
abbrev pub Lower : ℕ → List Due → Type 0
Lower left [] = Unit {0}
Lower left (d ∷ ds) = (d.left < left) × Lower left ds

-- a node within the limits: behind it those are due in the place of its term
pub record Opens (b : List ℕ) (d : Due) (at k next : ℕ) (ds : List Due) : Type 0 where
  pub few : k < 255
  pub past : next ≡ behind b at
  pub lower : Lower d.left ds
  pub same : (ws : List Due) → read_all b (ds ++ ws) next (k + 1) ≡ read_all b (d ∷ ws) at k

then_then : (x : End) (f g : ℕ → ℕ → End) → (x >>= λ y. f y.1 y.2 >>= λ z. g z.1 z.2) ≡ ((x >>= λ y. f y.1 y.2) >>= λ z. g z.1 z.2)
then_then (accepted y) f g = refl
then_then (refused n p) f g = refl

-- how many bytes a node has before the terms below it
width : (t : Tag) → cond (eqb (byte_of t) (tag_of an_atom)) 5 1 ≡ bytes_of (tag_shape t)
width Tag.TargetAtom = refl
width Tag.TargetNot = refl
width Tag.TargetOptional = refl
width Tag.TargetAnd = refl
width Tag.TargetOr = refl
width Tag.Deny = refl
width Tag.Allow = refl
width Tag.Targeted = refl
width Tag.PolicyNot = refl
width Tag.DenyByDefault = refl
width Tag.PolicyAnd = refl
width Tag.PolicyOr = refl

-- an atom's numbers that were read
numbers_told : {A : Type 0} (f : Pair → A) (b : List ℕ) (at k : ℕ) {a : A} {next m : ℕ} → told f (pair_at b at k) ≡ accepted (a, next, m)
    → (told nothing (pair_at b at k) ≡ accepted (tt, next, m)) × (next ≡ at + 4) × (m ≡ k)
unfolding pair_at
numbers_told {A} f b at k {a} {next} {m} e = go (ltb (at + 3) (length b)) e
  where
    go : (c : Bool) → told {B = A} f (cond {A = Scan Pair} c (done (dec16 b at, dec16 b (at + 2)) (at + 4) k) (fault 4 (length b))) ≡ accepted (a, next, m)
        → (told nothing (cond {A = Scan Pair} c (done (dec16 b at, dec16 b (at + 2)) (at + 4) k) (fault 4 (length b))) ≡ accepted (tt, next, m)) × (next ≡ at + 4) × (m ≡ k)
    go true e =
        let x : at + 4 ≡ next = ap (λ (r : Read (A × ℕ × ℕ)). (accepted_or {A = A × ℕ × ℕ} (a, next, m) r).1) e in
        let y : k ≡ m = ap (λ (r : Read (A × ℕ × ℕ)). (accepted_or {A = A × ℕ × ℕ} (a, next, m) r).2) e in
        (rw (x, y) refl, sym x, sym y)
    go false e = cc

numbers_refused : {A : Type 0} (f : Pair → A) (x : Scan Pair) {n p : ℕ} → told f x ≡ refused n p → told nothing x ≡ refused n p
numbers_refused f (done y a k) e = cc
numbers_refused f (fault m q) e = cc

-- ---- one node

module _ (b : List ℕ) (sort : SortC) (left at k : ℕ) (tag : Tag) (h : node_in (head_at 255 b (sort_of sort) left at k) ≡ accepted tag) where
  abbrev due : Due
  due = record { sort = sort; left = left }

  abbrev sub : Sort → ℕ → ℕ → End
  sub s a m = told nothing (scan (in_bytes 255 b) (left - 1) s tt a m)

  its_terms : read_due b due at k ≡ terms_below (tag_shape tag) (sort_of sort) b sub (at + 1) (k + 1)
  its_terms = term_more b (sort_of sort) left at k ∙ ap (λ x. x >>= λ tag. terms_below (tag_shape tag) (sort_of sort) b sub (at + 1) (k + 1)) h

  its_head : (k < 255) × (get_or b at 0 ≡ byte_of tag)
  its_head = go (head_at 255 b (sort_of sort) left at k) h ((byte_laws 255 b).head_told (sort_of sort) left tt at k)
    where
      same : {x y : Tag} → accepted x ≡ accepted y → x ≡ y
      same e = cc

      go : (x : Head (sort_of sort)) → node_in x ≡ accepted tag → Told bytes 255 b (Faulty b) left tt at k x → (k < 255) × (get_or b at 0 ≡ byte_of tag)
      go (node n next) e w = (w.few, head {b = b} {i = at} {xs = []} (record { rest = drop next b; split = w.bytes }) ∙ tagged n ∙ ap byte_of (same e))
      go (stop n p) e w = cc

  module _ {g : ShapeC} (x : tag_shape tag ≡ g) where
    its_width : behind b at ≡ at + bytes_of g
    its_width = ap (λ n. at + cond (eqb n (tag_of an_atom)) 5 1) its_head.1 ∙ ap (λ n. at + n) (width tag ∙ ap bytes_of x)

    its_shape : read_due b due at k ≡ terms_below g (sort_of sort) b sub (at + 1) (k + 1)
    its_shape = its_terms ∙ ap (λ g. terms_below g (sort_of sort) b sub (at + 1) (k + 1)) x

    opened : {next : ℕ} (ds : List Due) → next ≡ at + bytes_of g → Lower left ds
        → ((ws : List Due) → read_all b (ds ++ ws) next (k + 1) ≡ (terms_below g (sort_of sort) b sub (at + 1) (k + 1) >>= λ z. read_all b ws z.1 z.2))
        → Opens b due at k next ds
    unfolding read_all
    opened ds e l f = record {
      few = its_head.0;
      past = e ∙ sym its_width;
      lower = l;
      same = λ ws. f ws ∙ sym (ap (λ y. y >>= λ z. read_all b ws z.1 z.2) its_shape);
    }

  cut_numbers : tag_shape tag ≡ ShapeC.Numbers → {A : Type 0} (f : Pair → A) {n p : ℕ} → told f (pair_at b (at + 1) (k + 1)) ≡ refused n p
      → read_due b due at k ≡ refused n p
  cut_numbers x f e = its_shape x ∙ numbers_refused f (pair_at b (at + 1) (k + 1)) e

  opens_numbers : tag_shape tag ≡ ShapeC.Numbers → {A : Type 0} (f : Pair → A) {a : A} (next : ℕ) {m : ℕ} → told f (pair_at b (at + 1) (k + 1)) ≡ accepted (a, next, m)
      → Opens b due at k next []
  opens_numbers x f next e =
      let w = numbers_told f b (at + 1) (k + 1) e in
      opened x [] (omega (arith, w.1)) tt (λ ws. ap (λ n. read_all b ws next n) (sym w.2) ∙ sym (ap (λ y. y >>= λ z. read_all b ws z.1 z.2) w.0))

  opens_leaf : tag_shape tag ≡ ShapeC.Leaf → Opens b due at k (at + 1) []
  opens_leaf x = opened x [] refl tt (λ ws. refl)

  opens_one : 0 < left → tag_shape tag ≡ ShapeC.One → Opens b due at k (at + 1) (record { sort = sort; left = left - 1 } ∷ [])
  unfolding read_all
  opens_one l x = opened x (record { sort = sort; left = left - 1 } ∷ []) refl (omega arith, tt) (λ ws. refl)

  opens_two : 0 < left → {first : SortC} → tag_shape tag ≡ ShapeC.Two first
      → Opens b due at k (at + 1) (record { sort = first; left = left - 1 } ∷ record { sort = sort; left = left - 1 } ∷ [])
  unfolding read_all
  opens_two l {first} x =
      opened x (record { sort = first; left = left - 1 } ∷ record { sort = sort; left = left - 1 } ∷ []) refl (omega arith, (omega arith, tt))
      (λ ws. then_then (sub (sort_of first) (at + 1) (k + 1)) (sub (sort_of sort)) (read_all b ws))

-- where a node is due there is none
head_stopped : (b : List ℕ) (d : Due) (at k : ℕ) {n p : ℕ} → node_in (head_at 255 b (sort_of d.sort) d.left at k) ≡ refused n p → read_due b d at k ≡ refused n p
head_stopped b d at k e =
    term_more b (sort_of d.sort) d.left at k
    ∙ ap (λ x. x >>= λ tag. terms_below (tag_shape tag) (sort_of d.sort) b (λ r a m. told nothing (scan (in_bytes 255 b) (d.left - 1) r tt a m)) (at + 1) (k + 1)) e

-- ---- the loop

-- how high the stack of what is due may yet get
abbrev tallest : List Due → ℕ
tallest [] = 0
tallest (d ∷ ds) = max (d.left + length ds) (tallest ds)

tall_lower : (d : Due) (ds ws : List Due) → length ds ≤ 2 → Lower d.left ds → tallest (ds ++ ws) ≤ tallest (d ∷ ws)
tall_lower d [] ws l w = omega arith
tall_lower d (e ∷ []) ws l w = omega arith
tall_lower d (e ∷ f ∷ []) ws l w = omega arith
tall_lower d (e ∷ f ∷ g ∷ ds) ws l w = absurd (omega arith)

-- a node takes five bytes at most
place_near : (b : List ℕ) (k : ℕ) → place_of b k ≤ 3 + 5 * k
place_near b zero = omega arith
place_near b (suc k) = go (eqb (get_or b (place_of b k) 0) (tag_of an_atom)) (place_near b k)
  where
    go : (x : Bool) → place_of b k ≤ 3 + 5 * k → place_of b k + cond x 5 1 ≤ 3 + 5 * suc k
    go true i = omega arith
    go false i = omega arith

-- what is due: the term at hand, and those on the stack, the next on top
abbrev pub all_due : Option Due → List Due → List Due
all_due due later = option_to_list due ++ reverse later

pub record Loop (whole : End) (r : Place) (places : List ℕ) (due : Option Due) (later : List Due) : Type 0 where
  pub tall : tallest (all_due due later) ≤ 32
  pub work : read_all r.bytes (all_due due later) r.at r.nodes ≡ whole
  pub few : r.nodes ≤ 255
  pub here : r.at ≡ place_of r.bytes r.nodes
  pub noted : PlacesTo r.bytes r.nodes places
  pub ends : due ≡ None → later ≡ []

pub loop_start : {r : Place} {places : List ℕ} {later : List Due} {due : Due} → r.at ≡ 3 → r.nodes ≡ 0 → places ≡ [] → later ≡ []
    → due ≡ record { sort = SortC.Policy; left = 32 } → Loop (told nothing (scan (in_bytes 255 r.bytes) 32 policy tt r.at r.nodes)) r places (Some due) later
unfolding read_all
loop_start {r} {places} a k e f g = rw (f, g) (record {
  tall = omega arith;
  work = go (told nothing (scan (in_bytes 255 r.bytes) 32 policy tt r.at r.nodes));
  few = omega arith;
  here = rw k a;
  noted = record { counted = rw e (sym k); place = λ i l. absurd (omega (arith, ap length e)) };
  ends = λ n. cc;
})
  where
    go : (x : End) → (x >>= λ y. accepted (tt, y.1, y.2)) ≡ x
    go (accepted y) = refl
    go (refused n p) = refl

-- the stack when its topmost is taken
ends_with : (due : Option Due) (later old : List Due) → old ≡ later ++ option_to_list due → (0 < length old → IsSome due) → due ≡ None → later ≡ []
ends_with (Some d) later old e v n = absurd (cc)
ends_with None [] old e v n = refl
ends_with None (x ∷ xs) old e v n = absurd (let w = v (omega (arith, ap length e)) in cc)

due_popped : (due : Option Due) (later old : List Due) → old ≡ later ++ option_to_list due → all_due due later ≡ reverse old
due_popped (Some d) later old e = rw (e, reverse-append later (d ∷ [])) refl
due_popped None later old e = rw e (ap reverse (sym (append-nil later)))

-- one turn: a node was read, and its place noted
module _ {whole : End} {r : Place} {places : List ℕ} {d : Due} {later : List Due} (l : Loop whole r places (Some d) later) where
  pub loop_near : r.at < 65536
  loop_near = omega (arith, l.here, l.few, place_near r.bytes r.nodes)

  pub loop_room : 0 < d.left → length later < 32
  loop_room h = omega (arith, l.tall, length-reverse later)

  stop_at : {n p : ℕ} → read_due r.bytes d r.at r.nodes ≡ refused n p → whole ≡ refused n p
  unfolding read_all
  stop_at e = sym l.work ∙ ap (λ x. x >>= λ y. read_all r.bytes (reverse later) y.1 y.2) e

  pub loop_stop : {n p : ℕ} → node_in (head_at 255 r.bytes (sort_of d.sort) d.left r.at r.nodes) ≡ refused n p → whole ≡ refused n p
  loop_stop e = stop_at (head_stopped r.bytes d r.at r.nodes e)

  module _ {tag : Tag} (h : node_in (head_at 255 r.bytes (sort_of d.sort) d.left r.at r.nodes) ≡ accepted tag) where
    pub loop_cut : ShapeC.Numbers ≡ tag_shape tag → {A : Type 0} (f : Pair → A) {n p : ℕ} → told f (pair_at r.bytes (r.at + 1) (r.nodes + 1)) ≡ refused n p
        → whole ≡ refused n p
    loop_cut x f e = stop_at (cut_numbers r.bytes d.sort d.left r.at r.nodes tag h (sym x) f e)

    -- there is room for one more place
    pub loop_few : (all : List ℕ) (count : ℕ) → places ≡ take count all → length all ≡ 255 → count ≤ 255 → count < 255
    loop_few all count e n m =
        omega (arith, (its_head r.bytes d.sort d.left r.at r.nodes tag h).0, l.noted.counted, ap length e, length-take-le count all (omega arith))

    noted_more : PlacesTo r.bytes (r.nodes + 1) (places ++ r.at ∷ [])
    noted_more = record {
      counted = length_push places r.at ∙ ap (λ n. n + 1) l.noted.counted;
      place = λ k i. elim (dec_lt k (length places)) [
        | yes j ↦ get_or_append_left places (r.at ∷ []) 0 k j ∙ l.noted.place k j
        | no j ↦
            let e : k ≡ length places = omega (arith, length_push places r.at) in
            rw e (get_or-append_seam places r.at [] 0 ∙ l.here ∙ ap (place_of r.bytes) (sym l.noted.counted))
      ];
    }

    module _ {p : Place} {noted : List ℕ} (e : noted ≡ places ++ r.at ∷ []) where
      turned : {ds : List Due} → p.bytes ≡ r.bytes → p.nodes ≡ r.nodes + 1 → length ds ≤ 2 → Opens r.bytes d r.at r.nodes p.at ds
          → (due : Option Due) (after : List Due) → all_due due after ≡ ds ++ reverse later → (due ≡ None → after ≡ []) → Loop whole p noted due after
      turned {ds} b n few o due after f g = record {
        tall = rw f (omega (arith, tall_lower d ds (reverse later) few o.lower, l.tall));
        work = rw (b, n, f) (o.same (reverse later) ∙ l.work);
        few = omega (arith, o.few);
        here = rw (b, n, add-one) (o.past ∙ ap (behind r.bytes) l.here);
        noted = rw (b, n, e) noted_more;
        ends = g;
      }

      module _ (due : Option Due) (after : List Due) (f : later ≡ after ++ option_to_list due) (v : 0 < length later → IsSome due) where
        popped : p.bytes ≡ r.bytes → p.nodes ≡ r.nodes + 1 → Opens r.bytes d r.at r.nodes p.at [] → Loop whole p noted due after
        popped b n o = turned b n (omega arith) o due after (due_popped due after later f) (ends_with due after later f v)

        pub loop_numbers : ShapeC.Numbers ≡ tag_shape tag → {A : Type 0} (g : Pair → A) {a : A}
            → (told g (pair_at r.bytes (r.at + 1) (r.nodes + 1)) ≡ accepted (a, p.at, p.nodes)) × (p.bytes ≡ r.bytes) → Loop whole p noted due after
        loop_numbers x g y =
            popped y.1 (numbers_told g r.bytes (r.at + 1) (r.nodes + 1) y.0).2 (opens_numbers r.bytes d.sort d.left r.at r.nodes tag h (sym x) g p.at y.0)

        pub loop_leaf : ShapeC.Leaf ≡ tag_shape tag → p ≡ record r { at = r.at + 1; nodes = r.nodes + 1 } → Loop whole p noted due after
        loop_leaf x y = popped (ap (λ p. p.bytes) y) (ap (λ p. p.nodes) y) (rw y (opens_leaf r.bytes d.sort d.left r.at r.nodes tag h (sym x)))

      module _ (left : 0 < d.left) (y : p ≡ record r { at = r.at + 1; nodes = r.nodes + 1 }) where
        pub loop_one : ShapeC.One ≡ tag_shape tag → Loop whole p noted (Some (record { sort = d.sort; left = d.left - 1 })) later
        loop_one x =
            turned {ds = record { sort = d.sort; left = d.left - 1 } ∷ []} (ap (λ p. p.bytes) y) (ap (λ p. p.nodes) y) (omega arith)
            (rw y (opens_one r.bytes d.sort d.left r.at r.nodes tag h left (sym x)))
            (Some (record { sort = d.sort; left = d.left - 1 })) later refl (λ n. cc)

        pub loop_two : {first : SortC} {after : List Due} → ShapeC.Two first ≡ tag_shape tag
            → after ≡ later ++ record { sort = d.sort; left = d.left - 1 } ∷ [] → Loop whole p noted (Some (record { sort = first; left = d.left - 1 })) after
        loop_two {first} {after} x f =
            turned {ds = record { sort = first; left = d.left - 1 } ∷ record { sort = d.sort; left = d.left - 1 } ∷ []} (ap (λ p. p.bytes) y) (ap (λ p. p.nodes) y)
            (omega arith) (rw y (opens_two r.bytes d.sort d.left r.at r.nodes tag h left (sym x)))
            (Some (record { sort = first; left = d.left - 1 })) after (rw (f, reverse-append later (record { sort = d.sort; left = d.left - 1 } ∷ [])) refl) (λ n. cc)

pub loop_end : {whole : End} {r : Place} {places : List ℕ} {later : List Due} → Loop whole r places None later
    → (whole ≡ accepted (tt, r.at, r.nodes)) × PlacesTo r.bytes r.nodes places
unfolding read_all
loop_end l = let e = l.ends refl in (sym l.work ∙ rw e refl, l.noted)

-- a function that ends with a fault
pub stopped : {A : Type 0} (x : Result A Fault) (f : Fault) (old new : Place) {read : End} → IsErrAnd x (λ e. e ≡ f) → read ≡ refused (fault_number f) new.at
    → new.bytes ≡ old.bytes → GoesOn nothing x old new read
stopped (Err e) f old new h w b = (rw h w, b)
stopped (Ok x) f old new h w b = absurd h
