-- A policy has an exposure on its pairs exactly if it is not resistant, for every reading and every lawful comparison.
use Prim.Native.Nat.{ℕ, suc, ◌<◌, ◌-◌, ◌^◌}
use mathlib.Core.Path.{◌≡◌, refl, sym, ap, subst, ◌∙◌}
use mathlib.Core.Logic.{◌↔◌}
use mathlib.Core.Bool.{Bool, true, false}
use mathlib.Core.List.{List, [], ◌∷◌}
use native.Mathlib.Omega.{arith}
use lib.ListN.{length}
use Rattle.ptacl.specs.Request.{Pair, Request, Within}
use Rattle.ptacl.specs.Term.{Policy, atoms}
use Rattle.ptacl.specs.Meaning.{eval}
use Rattle.ptacl.specs.Pairs.{normal, IsPairs}
use Rattle.ptacl.specs.Exposure.{Reading, Comparison, ResistantBy, bit, subset, Removal, one_pair, ExposureBy}
use Rattle.ptacl.proofs.Bools.{either, clash}
use Rattle.ptacl.proofs.Normal.{eval_normal, normal_up}
use Rattle.ptacl.proofs.Bits.{bit_zero, bit_below, put, put_odd, put_small, put_bit, put_less}
use Rattle.ptacl.proofs.Subset.{less_within, mask, mask_small, normal_subset}

-- a number of k bits at which a test fails, and a bit without which it passes
record Lost (P : ℕ → Bool) (k : ℕ) : Type 0 where
  m : ℕ
  i : ℕ
  numbered : m < 2 ^ k
  larger : P m ≡ false
  taken : bit m i ≡ true
  smaller : P (m - 2 ^ i) ≡ true

lost_above : (P : ℕ → Bool) (k : ℕ) (b : Bool) → Lost (λ m. P (put b m)) k → Lost P (suc k)
lost_above P k b l = record {
  m = put b l.m;
  i = suc l.i;
  numbered = put_small b l.m k l.numbered;
  larger = l.larger;
  taken = put_bit b l.m l.i ∙ l.taken;
  smaller = ap P (sym (put_less b l.m l.i l.taken)) ∙ l.smaller;
}

lost_here : (P : ℕ → Bool) (k m : ℕ) (a b : Bool) → (a ≡ true → b ≡ true) → m < 2 ^ k
    → P (put a m) ≡ true → P (put b m) ≡ false → Lost P (suc k)
lost_here P k m true true h l t f = clash t f
lost_here P k m true false h l t f = clash (h refl) refl
lost_here P k m false false h l t f = clash t f
lost_here P k m false true h l t f = record {
  m = put true m;
  i = 0;
  numbered = put_small true m k l;
  larger = f;
  taken = bit_zero (put true m) ∙ put_odd true m;
  smaller = subst (λ z. P z ≡ true) (omega arith) t;
}

-- between the numbers of two tests, of which the first implies the second
lost : (f g : Pair → Bool) → ((x : Pair) → f x ≡ true → g x ≡ true) → (ps : List Pair) (P : ℕ → Bool)
    → P (mask f ps) ≡ true → P (mask g ps) ≡ false → Lost P (length ps)
lost f g h [] P t e = clash t e
lost f g h (x ∷ ps) P t e = either (P (put (g x) (mask f ps)))
    (λ k. lost_above P (length ps) (g x) (lost f g h ps (λ m. P (put (g x) m)) k e))
    (λ k. lost_here P (length ps) (mask f ps) (f x) (g x) (h x) (mask_small f ps) t k)

-- wherever added pairs end what the reading allows, there is an exposure
pub exposed : {g : Reading} {p : Policy} {ps : List Pair} {q' q : Request}
    → IsPairs (atoms p) ps → Within q' q → g (eval p q') ≡ true → g (eval p q) ≡ false → (m : ℕ) × (i : ℕ) × ExposureBy g one_pair p ps m i
exposed {g} {p} {ps} {q'} {q} h w t f =
    let l = lost (normal (atoms p) q') (normal (atoms p) q) (normal_up (atoms p) w) ps (λ m. g (eval p (subset ps m)))
    (ap g (eval_normal p (normal_subset h q')) ∙ t) (ap g (eval_normal p (normal_subset h q)) ∙ f) in
    (l.m, l.i, record { numbered = l.numbered; larger = l.larger; taken = l.taken; smaller = l.smaller })

-- a policy is resistant by every comparison of fewer requests
pub resistant_fewer : {R S : Comparison} {g : Reading} {p : Policy} → ((q' q : Request) → R q' q → S q' q) → ResistantBy S g p → ResistantBy R g p
resistant_fewer f r = record { stays = λ {q'} {q} w. r.stays (f q' q w) }

-- what is compared has no exposure
pub unexposed_by : {R : Comparison} {g : Reading} {o : Removal} {p : Policy} {ps : List Pair} {m i : ℕ}
    → R (subset ps (o.less m i)) (subset ps m) → ResistantBy R g p → ExposureBy g o p ps m i → ⊥
unexposed_by w r e = clash (r.stays w e.smaller) e.larger

pub unexposed : {g : Reading} {p : Policy} {ps : List Pair} {m i : ℕ} → ResistantBy Within g p → ExposureBy g one_pair p ps m i → ⊥
unexposed {ps} {m} {i} r e = unexposed_by (less_within ps m i e.taken) r e

-- a comparison of requests within each other that has every subset of the pairs beside that with one pair less
pub record Lawful (R : Comparison) (ps : List Pair) : Type 0 where
  pub within : (q' q : Request) → R q' q → Within q' q
  pub one_less : (m i : ℕ) → bit m i ≡ true → R (subset ps (m - 2 ^ i)) (subset ps m)

pub resistant_by_iff : {R : Comparison} {g : Reading} {p : Policy} {ps : List Pair} → Lawful R ps → IsPairs (atoms p) ps
    → ((m i : ℕ) → ExposureBy g one_pair p ps m i → ⊥) ↔ ResistantBy R g p
resistant_by_iff {g = g} {p = p} l h = (
  λ n. record {
    stays = λ {q'} {q} w t. either (g (eval p q)) (λ k. k) (λ k. let x = exposed h (l.within q' q w) t k in absurd (n x.0 x.1 x.2));
  },
  λ r m i e. unexposed_by (l.one_less m i e.taken) r e,
)

pub resistant_iff : {g : Reading} {p : Policy} {ps : List Pair} → IsPairs (atoms p) ps
    → ((m i : ℕ) → ExposureBy g one_pair p ps m i → ⊥) ↔ ResistantBy Within g p
resistant_iff {ps = ps} = resistant_by_iff (record { within = λ q' q w. w; one_less = less_within ps })

pub exposure_index : {g : Reading} {p : Policy} {ps : List Pair} {m i : ℕ} → ExposureBy g one_pair p ps m i → i < length ps
exposure_index {ps} {m} {i} e = bit_below m (length ps) i e.numbered e.taken
