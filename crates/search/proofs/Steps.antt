-- The search for the first hit, subset by subset and pair by pair.
use Prim.Native.Nat.{ℕ, ◌+◌, ◌*◌, ◌-◌, ◌/◌, ◌%◌, ◌^◌, ◌≤◌, ◌<◌}
use mathlib.Core.Path.{◌≡◌, refl, sym, subst, ◌∙◌}
use mathlib.Core.Bool.{Bool, true}
use mathlib.Core.List.{List}
use native.Mathlib.Decide.{dec_le}
use native.Mathlib.Omega.{arith}
use lib.ListN.{length}
use borrow.Author.Count.{below_more}
use Rattle.ptacl.specs.Request.{Pair}
use Rattle.ptacl.specs.Term.{Policy}
use Rattle.ptacl.specs.Exposure.{strict, one_pair, Exposure}
use Rattle.table.specs.Allowed.{allowed, bit_at, Filled}
use Rattle.search.specs.Hits.{HitAt, QuietIf}
use Rattle.search.proofs.Hits.{hit_index}

-- no hit at a subset before m; none at the subset m with a pair before i
pub record NoneBefore (E : ℕ → ℕ → Type 0) (m : ℕ) : Type 0 where
  pub none : (n : ℕ) → n < m → (i : ℕ) → E n i → ⊥

pub record NoneAt (E : ℕ → ℕ → Type 0) (m i : ℕ) : Type 0 where
  pub none : (n : ℕ) → n < i → E m n → ⊥

module _ {E : ℕ → ℕ → Type 0} where
  pub before_more : {m : ℕ} → NoneBefore E m → ((i : ℕ) → E m i → ⊥) → NoneBefore E (m + 1)
  before_more {m} b h = record { none = below_more (λ n. ((i : ℕ) → E n i → ⊥)) m b.none h }

  pub at_start : {m : ℕ} → NoneAt E m 0
  at_start = record { none = λ n h. absurd (omega arith) }

pub at_end : {P : ℕ → Bool} {k m i : ℕ} → NoneAt (HitAt P one_pair k) m i → k ≤ i → (n : ℕ) → HitAt P one_pair k m n → ⊥
at_end a l n h = a.none n (omega (arith, hit_index h)) h

-- what the rows that are judged tell of a policy's exposures, on k pairs
module _ {p : Policy} {ps : List Pair} {k : ℕ} (n : k ≡ length ps) where
  pub exposed_subset : {m i : ℕ} → Exposure p ps m i → m < 2 ^ k
  exposed_subset e = rw n e.numbered

  module _ {t : List ℕ} {rows : ℕ} (f : Filled strict p ps t rows) {m i : ℕ} (l : m < 512 * rows) where
    pub to_table : Exposure p ps m i → HitAt (bit_at t) one_pair k m i
    unfolding allowed
    to_table e = record {
      numbered = exposed_subset e;
      larger = f.right m l ∙ e.larger;
      taken = e.taken;
      smaller = f.right (m - 2 ^ i) (omega arith) ∙ e.smaller;
    }

    pub from_table : HitAt (bit_at t) one_pair k m i → Exposure p ps m i
    unfolding allowed
    from_table e = record {
      numbered = rw n at e.numbered;
      larger = sym (f.right m l) ∙ e.larger;
      taken = e.taken;
      smaller = sym (f.right (m - 2 ^ i) (omega arith)) ∙ e.smaller;
    }

-- so many rows are judged, and no subset before m exposes
pub record Searching (p : Policy) (ps : List Pair) (t : List ℕ) (rows m : ℕ) : Type 0 where
  pub judged : Filled strict p ps t rows
  pub none : NoneBefore (Exposure p ps) m

-- the row of m is judged when m is its first subset
module _ {p : Policy} {ps : List Pair} {t : List ℕ} {m : ℕ} (s : Searching p ps t ((m + 511) / 512) m) where
  pub row_new : {t' : List ℕ} → Filled strict p ps t' (m / 512 + 1) → Searching p ps t' (m / 512 + 1) m
  row_new f = record { judged = f; none = s.none }

  pub row_there : (m % 512 ≡ 0 → ⊥) → Searching p ps t (m / 512 + 1) m
  row_there n = let r : (m + 511) / 512 ≡ m / 512 + 1 = omega arith in rw r at s

module _ {p : Policy} {ps : List Pair} {t : List ℕ} {m k : ℕ} (s : Searching p ps t (m / 512 + 1) m) (n : k ≡ length ps) where
  -- one subset is passed
  pub searching_more : ((i : ℕ) → HitAt (bit_at t) one_pair k m i → ⊥) → Searching p ps t ((m + 1 + 511) / 512) (m + 1)
  searching_more f =
      let r : (m + 1 + 511) / 512 ≡ m / 512 + 1 = omega arith in
      rw r (record { judged = s.judged; none = before_more s.none (λ i e. f i (to_table n s.judged (omega arith) e)) })

  -- 64 subsets are passed at once
  pub searching_quiet : m % 64 ≡ 0 → QuietIf t one_pair k (m / 64) true → Searching p ps t ((m + 64 + 511) / 512) (m + 64)
  searching_quiet e q =
      let r : (m + 64 + 511) / 512 ≡ m / 512 + 1 = omega arith in
      rw r (record { judged = s.judged; none = record { none = passed } })
    where
      passed : (j : ℕ) → j < m + 64 → (i : ℕ) → Exposure p ps j i → ⊥
      passed j l i x = elim (dec_le m j) [
        | yes g ↦ let f : j ≡ 64 * (m / 64) + (j - m) = omega arith in
            q.none refl (omega arith) (subst (λ z. HitAt (bit_at t) one_pair k z i) f (to_table n s.judged (omega arith) x))
        | no g ↦ s.none.none j (omega arith) i x
      ]
