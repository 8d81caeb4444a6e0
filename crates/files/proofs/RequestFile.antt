-- A request file as a whole: its pairs, four bytes each, and the first that is not above the one before.
use Prim.Native.Nat.{ℕ, zero, suc, ◌+◌, ◌*◌, ◌-◌, ◌/◌, ◌%◌, ◌≤◌, ◌<◌}
use mathlib.Core.Path.{◌≡◌, refl, sym, ap, ◌∙◌}
use mathlib.Core.Bool.{true, false}
use mathlib.Core.List.{List, [], ◌∷◌, map}
use native.Mathlib.Omega.{arith}
use mir.Syntax.{w8}
use mir.Val.{Fits}
use lib.ListN.{length, get_or, take, drop, length-drop, length-map}
use lib.Seq.{get_or-take, get_or-drop, drop-drop}
use Rattle.std.specs.Simd.{first_chunks}
use Rattle.std.specs.Prelude.{Ok, Err}
use Rattle.ptacl.specs.Request.{Request, below, ascending}
use Rattle.files.specs.Refusal.{accepted, refused, dec16}
use Rattle.files.specs.ReadRequest.{pairs_at, in_order, read_request}
use Rattle.files.specs.Faults.{WholeFile}
use Rattle.files.specs.Tags.{pair_in}
use Rattle.files.specs.Views.{Ascends, OrderTells, pair_nth, RisesTo, FirstFault}
use Rattle.files.proofs.Framing.{lent_bytes}
use Rattle.files.proofs.RequestCases.{request_uneven, request_many, request_pairs}
use Rattle.files.proofs.RequestBody.{pairs_range}
use Rattle.files.proofs.InOrder.{Ordering, falls, ordering}

-- ---- the pairs

chunk_at : (s : List ℕ) (at i : ℕ) → i < 4 → get_or (take 4 (drop at s)) i 0 ≡ get_or s (at + i) 0
chunk_at s at i h = get_or-take 4 (drop at s) i 0 h ∙ get_or-drop at s i 0

chunk_pair : (s : List ℕ) (at : ℕ) → pair_in (take 4 (drop at s)) ≡ (dec16 s at, dec16 s (at + 2))
chunk_pair s at =
    let z : at + 0 ≡ at = omega arith in
    let t : at + 3 ≡ at + 2 + 1 = omega arith in
    rw (chunk_at s at 0 (omega arith), chunk_at s at 1 (omega arith), chunk_at s at 2 (omega arith), chunk_at s at 3 (omega arith), z, t)

chunk_pairs : (n : ℕ) (s : List ℕ) (at : ℕ) → map pair_in (first_chunks 4 n (drop at s)) ≡ pairs_at n s at
chunk_pairs zero s at = refl
chunk_pairs (suc n) s at = rw (chunk_pair s at, drop-drop 4 at s, chunk_pairs n s (at + 4))

-- ---- their order

module _ (number : ℕ) (q : Request) where
  in_order_rises : (at : ℕ) (ps : List (List ℕ)) → ((k : ℕ) → suc k < length ps → below (pair_nth ps k) (pair_nth ps (suc k)) ≡ true)
      → in_order number q at (map pair_in ps) ≡ accepted q
  in_order_rises at [] h = refl
  in_order_rises at (x ∷ []) h = refl
  in_order_rises at (x ∷ y ∷ ps) h = rw (h 0 (omega arith)) (in_order_rises (at + 4) (y ∷ ps) (λ k l. h (suc k) (omega arith)))

  in_order_falls : (at i : ℕ) (ps : List (List ℕ)) → suc i < length ps → ((k : ℕ) → k < i → below (pair_nth ps k) (pair_nth ps (suc k)) ≡ true)
      → below (pair_nth ps i) (pair_nth ps (suc i)) ≡ false → in_order number q at (map pair_in ps) ≡ refused number (at + 4 * suc i)
  in_order_falls at i [] l h f = absurd (omega arith)
  in_order_falls at i (x ∷ []) l h f = absurd (omega arith)
  in_order_falls at zero (x ∷ y ∷ ps) l h f = rw f (ap (refused number) (omega arith))
  in_order_falls at (suc i) (x ∷ y ∷ ps) l h f =
      rw (h 0 (omega arith)) (in_order_falls (at + 4) i (y ∷ ps) (omega arith) (λ k m. h (suc k) (omega arith)) f ∙ ap (refused number) (omega arith))

rises : (ps : List (List ℕ)) {n : ℕ} → RisesTo ps n → (k : ℕ) → suc k < n → below (pair_nth ps k) (pair_nth ps (suc k)) ≡ true
rises ps r k h = let e : suc k - 1 ≡ k = omega arith in rw e at (r (suc k) (omega arith) h)

-- ---- in bytes

module _ (s : List ℕ) (ps : List (List ℕ)) (is : ps ≡ first_chunks 4 (length s / 4) s) where
  pub pairs_are : map pair_in ps ≡ pairs_at (length s / 4) s 0
  pairs_are = ap (map pair_in) is ∙ chunk_pairs (length s / 4) s 0

  pub told_risen : RisesTo ps (length ps) → OrderTells (pairs_at (length s / 4) s 0) (Ok (map pair_in ps))
  told_risen r = (pairs_are, λ number q at. rw (← pairs_are) (in_order_rises number q at ps (rises ps r)))

  pub told_fallen : {i : ℕ} → FirstFault ps i → OrderTells (pairs_at (length s / 4) s 0) (Err i)
  told_fallen {i} f =
      let e : suc (i - 1) ≡ i = omega (arith, f.behind) in (
        omega (arith, f.inside, ap length pairs_are, length-map ps pair_in),
        λ number q at.
            rw (← e, ← pairs_are) (in_order_falls number q at (i - 1) ps (omega (arith, f.inside)) (λ k l. rises ps f.rises k (omega arith)) (rw e f.falls)),
      )

  pub ascends : RisesTo ps (length ps) → ((i : ℕ) → Fits w8 (get_or s i 0)) → Ascends (map pair_in ps)
  ascends r fits = record { ordered = go (ordering 0 [] 0 (map pair_in ps)); range = rw pairs_are (pairs_range (lent_bytes fits) (length s / 4) 0) }
    where
      go : Ordering 0 [] 0 (map pair_in ps) → ascending (map pair_in ps) ≡ true
      go (Ordering.ascends a i) = a
      go (falls k m l a i) = let j = in_order_rises 0 [] 0 ps (rises ps r) in cc

-- ---- a whole file, by its body

module _ {s body : List ℕ} (w : WholeFile s × (body ≡ drop 3 s)) where
  long : length body ≡ length s - 3
  long = ap length w.1 ∙ length-drop 3 s

  pub uneven : (length body % 4 ≡ 0 → ⊥) → read_request s ≡ refused 24 3
  uneven h = request_uneven 21 w.0 (rw long at h)

  module _ (m : length body % 4 ≡ 0) where
    pub many : 256 < length body / 4 → read_request s ≡ refused 25 1027
    many h = request_many 21 w.0 (rw long at m) (rw long at h)

    pub in_order_read : length body / 4 ≤ 256 → read_request s ≡ in_order 26 (pairs_at (length body / 4) body 0) 3 (pairs_at (length body / 4) body 0)
    in_order_read few =
        let n = (length s - 3) / 4 in
        rw (long, w.1) (request_pairs 21 w.0 (rw long at m) (rw long at few) ∙ ap (λ ps. in_order 26 ps 3 ps) (sym (chunk_pairs n s 3) ∙ chunk_pairs n (drop 3 s) 0))

pub ruleset request_laws = (uneven, many)
