-- The worked policies A to F as terms, with policies that have ors, proved together as one table; and the
-- counterexample to weak monotonicity.
use Prim.Native.Nat.{ℕ, ◌<◌, ◌-◌, ◌^◌}
use mathlib.Core.Path.{◌≡◌, refl, ap₂, subst, ◌∙◌}
use mathlib.Core.Bool.{Bool, true, false, not as no, ◌&&◌}
use mathlib.Core.List.{List, [], ◌∷◌, map}
use lib.Dec.{eqb, ltb}
use lib.ListN.{length}
use borrow.Author.Tests.{eqb-true, ltb-true, not-true}
use Rattle.ptacl.specs.Value.{v0, v_u}
use Rattle.ptacl.specs.Values.{code, under, only}
use Rattle.ptacl.specs.Request.{Pair, Request, same_pair, Within}
use Rattle.ptacl.specs.Term.{Target, Policy, atom, deny, allow, targeted, not, default, and, or, atoms}
use Rattle.ptacl.specs.Meaning.{lift, lift2, eval}
use Rattle.ptacl.specs.Pairs.{all_below, IsPairs}
use Rattle.ptacl.specs.Exposure.{strict, Resistant, bit, subset, Exposure, First}
use Rattle.ptacl.specs.Rules.{Certificate, certificate}
use Rattle.ptacl.specs.Spelled.{spelled}
use Rattle.ptacl.proofs.Bools.{clash, or_left, and_left, and_right, and_both, not_false, below_at}
use Rattle.ptacl.proofs.Requests.{pair_equal, holds_append}
use Rattle.ptacl.proofs.Pairs.{pairs_of, pairs_exist}
use Rattle.ptacl.proofs.Exposed.{resistant_iff, exposure_index}
use Rattle.ptacl.proofs.Cert.{certificate_is}

pub data Verdict : Type 0 where
  resistant : Verdict
  exposed_at : ℕ → ℕ → Verdict

-- a policy, its pairs, the codes that it comes to at some requests, its certificate and the verdict of the search
pub record Row : Type 0 where
  pub policy : Policy
  pub pairs : List Pair
  pub codes : List (Request × ℕ)
  pub number : ℕ
  pub verdict : Verdict

abbrev pub Judged : Policy → List Pair → Verdict → Type 0
Judged p ps resistant = Resistant p
Judged p ps (exposed_at m i) = First (Exposure p ps) m i

pub record Right (r : Row) : Type 0 where
  pub listed : IsPairs (atoms r.policy) r.pairs
  pub coded : map (λ x. code (eval r.policy x.0)) r.codes ≡ map (λ x. x.1) r.codes
  pub certified : Certificate r.policy r.number
  pub judged : Judged r.policy r.pairs r.verdict

abbrev pub AllRight : List Row → Type 0
AllRight [] = Unit {0}
AllRight (r ∷ rs) = Right r × AllRight rs

-- allow unless column changed
abbrev pub A : Policy
A = not (default (not (targeted (atom 1 1) deny)))

-- allow only if column verified
abbrev pub B : Policy
B = default (targeted (atom 1 2) allow)

abbrev pub C : Policy
C = targeted (not (atom 1 1)) allow

abbrev pub D : Policy
D = targeted (not (default (atom 1 1))) allow

abbrev pub E : Policy
E = not (not (default (targeted (atom 1 2) allow)))

-- allow only if column verified or supervisor present; with the or spelled out it has no certificate any more
abbrev pub G : Policy
G = default (targeted (or (atom 1 2) (atom 2 1)) allow)

abbrev g_pairs : List Pair
g_pairs = (1, 0) ∷ (1, 2) ∷ (2, 0) ∷ (2, 1) ∷ []

-- two certified policies that no other rule certifies together
abbrev pub H : Policy
H = or (default (targeted (atom 1 2) allow)) (not (targeted (atom 2 1) deny))

-- one of the two is A
abbrev pub I : Policy
I = or A B

abbrev row : Policy → List Pair → List (Request × ℕ) → ℕ → Verdict → Row
row p ps cs n v = record { policy = p; pairs = ps; codes = cs; number = n; verdict = v }

abbrev pub table : List Row
table =
    row A ((1, 0) ∷ (1, 1) ∷ []) (([], 3) ∷ ((1, 2) ∷ [], 1) ∷ ((1, 1) ∷ [], 2) ∷ ((1, 1) ∷ (1, 2) ∷ [], 2) ∷ []) 0 (exposed_at 3 1)
    ∷ row B ((1, 0) ∷ (1, 2) ∷ []) (([], 3) ∷ ((1, 2) ∷ [], 1) ∷ ((1, 1) ∷ [], 2) ∷ ((1, 1) ∷ (1, 2) ∷ [], 1) ∷ []) 4 resistant
    ∷ row C ((1, 0) ∷ (1, 1) ∷ []) (((1, 0) ∷ [], 1) ∷ ((1, 0) ∷ (1, 1) ∷ [], 4) ∷ []) 0 (exposed_at 3 1)
    ∷ row D ((1, 0) ∷ (1, 1) ∷ []) (([], 1) ∷ []) 0 (exposed_at 2 1)
    ∷ row E ((1, 0) ∷ (1, 2) ∷ []) [] 0 resistant
    ∷ row G g_pairs (([], 3) ∷ ((1, 2) ∷ [], 1) ∷ ((2, 1) ∷ [], 1) ∷ ((1, 0) ∷ [], 3) ∷ ((1, 0) ∷ (2, 0) ∷ [], 2) ∷ []) 4 resistant
    ∷ row (spelled G) g_pairs [] 0 resistant
    ∷ row H g_pairs [] 7 resistant
    ∷ row I ((1, 0) ∷ (1, 1) ∷ (1, 2) ∷ []) (((1, 0) ∷ [], 1) ∷ ((1, 0) ∷ (1, 1) ∷ [], 2) ∷ []) 0 (exposed_at 3 1)
    ∷ row allow [] [] 2 resistant
    ∷ row deny [] [] 1 resistant
    ∷ []

-- a test of two lists
abbrev same_list : {A : Type 0} → (A → A → Bool) → List A → List A → Bool
same_list f [] [] = true
same_list f [] (y ∷ ys) = false
same_list f (x ∷ xs) [] = false
same_list f (x ∷ xs) (y ∷ ys) = f x y && same_list f xs ys

list_equal : {A : Type 0} (f : A → A → Bool) → ((x y : A) → f x y ≡ true → x ≡ y) → (xs ys : List A) → same_list f xs ys ≡ true → xs ≡ ys
list_equal f e [] [] h = refl
list_equal f e [] (y ∷ ys) h = clash h refl
list_equal f e (x ∷ xs) [] h = clash h refl
list_equal f e (x ∷ xs) (y ∷ ys) h = ap₂ ◌∷◌ (e x y (and_left _ h)) (list_equal f e xs ys (and_right (f x y) h))

-- a test of exposures, and of the verdict
module _ (p : Policy) (ps : List Pair) where
  abbrev exposes : ℕ → ℕ → Bool
  exposes m i = no (strict (eval p (subset ps m))) && (bit m i && strict (eval p (subset ps (m - 2 ^ i))))

  exposes_at : {m i : ℕ} → Exposure p ps m i → exposes m i ≡ true
  exposes_at e = and_both (not_false e.larger) (and_both e.taken e.smaller)

  abbrev is_quiet_at : ℕ → ℕ → Bool
  is_quiet_at m n = all_below (λ i. no (exposes m i)) n

  quiet_at : (m n : ℕ) → is_quiet_at m n ≡ true → {i : ℕ} → i < n → Exposure p ps m i → ⊥
  quiet_at m n h {i} l e = clash (exposes_at e) (not-true _ (below_at (λ i. no (exposes m i)) n h i l))

  abbrev is_quiet_below : ℕ → Bool
  is_quiet_below n = all_below (λ m. is_quiet_at m (length ps)) n

  quiet_below : (n : ℕ) → is_quiet_below n ≡ true → {m i : ℕ} → m < n → Exposure p ps m i → ⊥
  quiet_below n h {m} {i} l e = quiet_at m (length ps) (below_at (λ m. is_quiet_at m (length ps)) n h m l) (exposure_index e) e

  abbrev judge : Verdict → Bool
  judge resistant = is_quiet_below (2 ^ length ps)
  judge (exposed_at m i) = ltb m (2 ^ length ps) && (exposes m i && (is_quiet_below m && is_quiet_at m i))

  judge_right : (v : Verdict) → IsPairs (atoms p) ps → judge v ≡ true → Judged p ps v
  judge_right resistant a h = (resistant_iff a).0 (λ m i e. quiet_below (2 ^ length ps) h e.numbered e)
  judge_right (exposed_at m i) a h =
      let b = and_right (ltb m (2 ^ length ps)) h in
      let c = and_left _ b in
      let d = and_right (exposes m i) b in
      let f = and_right (no (strict (eval p (subset ps m)))) c in
      record {
        hit = record {
          numbered = ltb-true _ _ (and_left _ h);
          larger = not-true _ (and_left _ c);
          taken = and_left _ f;
          smaller = and_right (bit m i) f;
        };
        earlier = λ l e. quiet_below m (and_left _ d) l e;
        before = λ l e. quiet_at m i (and_right (is_quiet_below m) d) l e;
      }

-- the tests of a row, and what they show
module _ (r : Row) where
  abbrev test_pairs : Bool
  test_pairs = same_list same_pair (pairs_of (atoms r.policy)) r.pairs

  abbrev test_codes : Bool
  test_codes = same_list eqb (map (λ x. code (eval r.policy x.0)) r.codes) (map (λ x. x.1) r.codes)

  abbrev test_number : Bool
  test_number = eqb (certificate r.policy) r.number

  abbrev test : Bool
  test = test_pairs && (test_codes && (test_number && judge r.policy r.pairs r.verdict))

  test_right : test ≡ true → Right r
  test_right h =
      let c = and_right test_pairs h in
      let d = and_right test_codes c in
      record {
        listed = pairs;
        coded = list_equal eqb eqb-true _ _ (and_left _ c);
        certified = subst (Certificate r.policy) (eqb-true _ _ (and_left _ d)) (certificate_is r.policy);
        judged = judge_right r.policy r.pairs r.verdict pairs (and_right test_number d);
      }
    where
      pairs : IsPairs (atoms r.policy) r.pairs
      pairs = subst (IsPairs (atoms r.policy)) (list_equal same_pair pair_equal _ _ (and_left _ h)) (pairs_exist (atoms r.policy))

abbrev test_all : List Row → Bool
test_all [] = true
test_all (r ∷ rs) = test r && test_all rs

all_right : (rs : List Row) → test_all rs ≡ true → AllRight rs
all_right [] h = tt
all_right (r ∷ rs) h = (test_right r (and_left _ h), all_right rs (and_right (test r) h))

pub worked : AllRight table
unfolding lift lift2 under only
worked = all_right table refl

-- for the strong and, weak monotonicity under U < 0 < 1 is false: 0 at {(1,0)}, U at {(1,0), (1,1)}
abbrev both : Target
both = and (atom 1 1) (atom 2 1)

pub not_monotonic : Within ((1, 0) ∷ []) ((1, 0) ∷ (1, 1) ∷ []) × (eval both ((1, 0) ∷ []) ≡ v0) × (eval both ((1, 0) ∷ (1, 1) ∷ []) ≡ v_u)
unfolding lift2
not_monotonic = (record { up = λ x h. holds_append ((1, 0) ∷ []) ((1, 1) ∷ []) x ∙ or_left _ h }, refl, refl)
