-- The loop that writes the pairs: the numbers of the first i are there.
use Prim.Native.Nat.{ℕ, suc, ◌+◌, ◌≤◌, ◌<◌}
use mathlib.Core.Path.{◌≡◌, refl, sym, ap, ◌∙◌}
use mathlib.Core.List.{List, [], ◌∷◌, ◌++◌, map, map-append, append_assoc}
use native.Mathlib.Numerals.{add-one}
use native.Mathlib.Omega.{arith}
use lib.ListN.{length, take, drop, set, get_or, length-map, length-append}
use lib.Seq.{take-suc, take-length, length-take-le, drop-cons, set-append_seam}
use Rattle.ptacl.specs.Pairs.{packed}
use Rattle.files.specs.Tags.{pair_of}
use Rattle.files.specs.declared.pair.Pair.{Pair}
use Rattle.files.specs.Memory.{over}
use Rattle.files.proofs.Memory.{over_nil}

-- the first pairs as the listing has them
abbrev pub numbers : List Pair → ℕ → List ℕ
numbers ps i = map packed (map pair_of (take i ps))

numbers_length : (ps : List Pair) (i : ℕ) → i ≤ length ps → length (numbers ps i) ≡ i
numbers_length ps i h = length-map (map pair_of (take i ps)) packed ∙ length-map (take i ps) pair_of ∙ length-take-le i ps h

numbers_more : (ps : List Pair) (i : ℕ) (d : Pair) → i < length ps → numbers ps (i + 1) ≡ numbers ps i ++ (packed (pair_of (get_or ps i d)) ∷ [])
numbers_more ps i d h = rw (add-one i, take-suc ps i d h, map-append, map-append) refl

-- one more at the front
over_more : (xs s : List ℕ) (x : ℕ) → length xs < length s → set (over xs s) (length xs) x ≡ over (xs ++ (x ∷ [])) s
unfolding over
over_more xs s x h =
    ap (λ l. set (xs ++ l) (length xs) x) (drop-cons s (length xs) 0 h)
    ∙ (set-append_seam xs _ _ x ∙ (rw (length-append, add-one) (sym (append_assoc xs (x ∷ []) (drop (suc (length xs)) s)))))

pub listing_more : (ps : List Pair) (s : List ℕ) (d : Pair) {i : ℕ} → i < length ps → length ps ≤ length s
    → set (over (numbers ps i) s) i (packed (pair_of (get_or ps i d))) ≡ over (numbers ps (i + 1)) s
listing_more ps s d {i} h room =
    let k = numbers_length ps i (omega arith) in
    rw (numbers_more ps i d h) (ap (λ n. set (over (numbers ps i) s) n (packed (pair_of (get_or ps i d)))) (sym k)
    ∙ over_more (numbers ps i) s _ (omega (arith, k)))

pub listing_end : (ps : List Pair) → numbers ps (length ps) ≡ map packed (map pair_of ps)
listing_end ps = ap (λ qs. map packed (map pair_of qs)) (take-length ps)

pub ruleset listing_laws = (over_nil, listing_more, listing_end)
