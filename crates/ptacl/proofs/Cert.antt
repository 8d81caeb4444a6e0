-- The tests decide the rules, and the certificate's number is the smallest that applies, or 0.
use Prim.Native.Nat.{ℕ, zero, suc, ◌≤◌, ◌+◌}
use mathlib.Core.Path.{◌≡◌, refl, sym, subst, ◌∙◌}
use mathlib.Core.Logic.{◌⊎◌, inl, inr, ⊎_elim}
use mathlib.Core.Bool.{Bool, true, false, cond}
use mathlib.Core.List.{List, [], ◌∷◌}
use native.Mathlib.Omega.{arith}
use lib.ListN.{length, get_or}
use Rattle.ptacl.specs.Term.{Policy, deny, allow, targeted, not, default, and, or}
use Rattle.ptacl.specs.Exposure.{Resistant}
use Rattle.ptacl.specs.Rules.{allows, rule2, rule3, rule4, Certified, cert1, cert2, cert3, cert4, cert5, cert6, cert7}
use Rattle.ptacl.specs.Rules.{Certificate, none, least, never, base, given, certificate}
use Rattle.ptacl.proofs.Bools.{clash}
use Rattle.ptacl.proofs.Never.{never_holds, never_passes}
use Rattle.ptacl.proofs.Rules.{certified_resistant}

-- the certificate's number is 0 or that of a rule that applies
abbrev Ends : Policy → ℕ → Type 0
Ends p n = (n ≡ 0) ⊎ Certified n p

cond_ends : {p : Policy} (b : Bool) {n k : ℕ} → (b ≡ true → Certified n p) → Ends p k → Ends p (cond b n k)
cond_ends true f h = inr (f refl)
cond_ends false f h = h

base_ends : (p : Policy) {k : ℕ} → Ends p k → Ends p (base p k)
base_ends p h =
    cond_ends (never p allows) (λ e. cert1 (never_holds p allows e))
    (cond_ends (rule2 p) cert2 (cond_ends (rule3 p) cert3 (cond_ends (rule4 p) cert4 h)))

given_ends : {p r : Policy} {k : ℕ} (n : ℕ) → Ends p n → (Certified n p → Ends r k) → Ends r (given n k)
given_ends zero h f = inl refl
given_ends (suc n) h f = ⊎_elim (λ e. absurd (omega arith)) f h

ends : (p : Policy) → Ends p (certificate p)
ends deny = base_ends deny (inl refl)
ends allow = base_ends allow (inl refl)
ends (targeted t p) = base_ends (targeted t p) (inl refl)
ends (not p) = base_ends (not p) (inl refl)
ends (default p) = base_ends (default p) (given_ends (certificate p) (ends p) (λ h. inr (cert5 h)))
ends (and p r) =
    base_ends (and p r) (given_ends (certificate p) (ends p) (λ h. given_ends (certificate r) (ends r) (λ k. inr (cert6 h k))))
ends (or p r) =
    base_ends (or p r) (given_ends (certificate p) (ends p) (λ h. given_ends (certificate r) (ends r) (λ k. inr (cert7 h k))))

-- the number of the first test that passes, counted from n, else k
abbrev first_true : ℕ → List Bool → ℕ → ℕ
first_true n [] k = k
first_true n (b ∷ bs) k = cond b n (first_true (suc n) bs k)

first_least : (n : ℕ) (bs : List Bool) (k i : ℕ) → get_or bs i false ≡ true → (n ≤ first_true n bs k) × (first_true n bs k ≤ n + i)
first_least n [] k i h = clash h refl
first_least n (true ∷ bs) k i h = omega arith
first_least n (false ∷ bs) k zero h = clash h refl
first_least n (false ∷ bs) k (suc i) h = let r = first_least (suc n) bs k i h in omega arith

first_between : (n : ℕ) (bs : List Bool) (k : ℕ) → n + length bs ≤ k → (n ≤ first_true n bs k) × (first_true n bs k ≤ k)
first_between n [] k l = omega arith
first_between n (true ∷ bs) k l = omega arith
first_between n (false ∷ bs) k l = let r = first_between (suc n) bs k (omega arith) in omega arith

abbrev tests : Policy → List Bool
tests p = never p allows ∷ rule2 p ∷ rule3 p ∷ rule4 p ∷ []

based : (p : Policy) → (k : ℕ) × (first_true 1 (tests p) k ≡ certificate p)
based deny = (0, refl)
based allow = (0, refl)
based (targeted t p) = (_, refl)
based (not p) = (_, refl)
based (default p) = (_, refl)
based (and p r) = (_, refl)
based (or p r) = (_, refl)

-- no number that applies is below it
abbrev Upto : ℕ → ℕ → Type 0
Upto k n = (1 ≤ n) × (n ≤ k)

rule_upto : (p : Policy) (i : ℕ) → get_or (tests p) i false ≡ true → Upto (suc i) (certificate p)
rule_upto p i h = subst (Upto (suc i)) (based p).1 (let r = first_least 1 (tests p) (based p).0 i h in omega arith)

-- a rule behind the first four
base_upto : (p : Policy) (k : ℕ) → 5 ≤ k → Upto k (base p k)
base_upto p k l = first_between 1 (tests p) k l

pub given_some : (n : ℕ) {rule : ℕ} → (n ≡ 0 → ⊥) → rule ≡ given n rule
given_some zero h = absurd (h refl)
given_some (suc n) h = refl

-- a certificate's number, where one applies
some : {n k : ℕ} → Upto k n → n ≡ 0 → ⊥
some u e = omega arith

upto : {k : ℕ} {p : Policy} → Certified k p → Upto k (certificate p)
upto (cert1 {p = p} h) = rule_upto p 0 (never_passes h)
upto (cert2 {p = p} h) = rule_upto p 1 h
upto (cert3 {p = p} h) = rule_upto p 2 h
upto (cert4 {p = p} h) = rule_upto p 3 h
upto (cert5 {p = p} h) = subst (λ n. Upto 5 (base (default p) n)) (given_some (certificate p) (some (upto h))) (base_upto (default p) 5 (omega arith))
upto (cert6 {p = p} {r = r} h k) = subst (λ n. Upto 6 (base (and p r) n))
    (given_some (certificate r) (some (upto k)) ∙ given_some (certificate p) (some (upto h))) (base_upto (and p r) 6 (omega arith))
upto (cert7 {p = p} {r = r} h k) = subst (λ n. Upto 7 (base (or p r) n))
    (given_some (certificate r) (some (upto k)) ∙ given_some (certificate p) (some (upto h))) (base_upto (or p r) 7 (omega arith))

pub certificate_is : (p : Policy) → Certificate p (certificate p)
certificate_is p =
    ⊎_elim (λ e. subst (Certificate p) (sym e) (none (λ k h. let u = upto h in omega arith))) (λ h. least h (λ j c. (upto c).1)) (ends p)

pub certificate_unique : {p : Policy} {j k : ℕ} → Certificate p j → Certificate p k → j ≡ k
certificate_unique (none n) (none m) = refl
certificate_unique (none n) (least c f) = absurd (n _ c)
certificate_unique (least c f) (none n) = absurd (n _ c)
certificate_unique (least c f) (least d g) = let a = f _ d in let b = g _ c in omega arith

pub certificate_resistant : {p : Policy} {n : ℕ} → Certificate p n → (n ≡ 0 → ⊥) → Resistant p
certificate_resistant (none n) z = absurd (z refl)
certificate_resistant (least c f) z = certified_resistant c
