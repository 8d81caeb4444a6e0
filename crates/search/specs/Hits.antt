-- Exposures read from the table of allowed subsets of k pairs.
use Rattle.std.specs.Prelude.{ℕ, ◌+◌, ◌*◌, ◌%◌, ◌^◌, ◌≤◌, ◌<◌, ◌≡◌, Bool, true, false, ◌&&◌, not, List, length, Option, Some, None}
use Rattle.ptacl.specs.Request.{Pair}
use Rattle.ptacl.specs.Term.{Policy}
use Rattle.ptacl.specs.Exposure.{Removal, bit, Exposure, First}
use Rattle.table.specs.Allowed.{bit_at}
use Rattle.search.specs.declared.Exposure.{Exposure as Hit}

-- a table of whole rows with a bit for each subset of k pairs
pub record Room (k : ℕ) (t : List ℕ) : Type 0 where
  pub all : 2 ^ k ≤ 64 * length t
  pub whole : length t % 8 ≡ 0

-- (m, i) is an exposure among k pairs
pub record HitAt (allowed : ℕ → Bool) (r : Removal) (k m i : ℕ) : Type 0 where
  pub numbered : m < 2 ^ k
  pub larger : allowed m ≡ false
  pub taken : r.from m i ≡ true
  pub smaller : allowed (r.less m i) ≡ true

-- the first, or that there is none
pub data Finds (E : ℕ → ℕ → Type 0) : Option Hit → Type 0 where
  nothing : ((m i : ℕ) → E m i → ⊥) → Finds E None
  at : {m i : ℕ} → First E m i → Finds E (Some (record { m = m; i = i }))

-- the first exposure of a policy on these pairs
abbrev pub FindsIn : Policy → List Pair → Option Hit → Type 0
FindsIn p ps = Finds (Exposure p ps)

-- bit j of a word: the subset 64 * w + j less pair i is allowed, where it holds the pair
pub record LessWord (t : List ℕ) (r : Removal) (w i x : ℕ) : Type 0 where
  pub lane : (j : ℕ) → j < 64 → r.from (64 * w + j) i ≡ true → bit x j ≡ bit_at t (r.less (64 * w + j) i)

-- bit j of a word: (64 * w + j, i) is an exposure
pub record HitWord (t : List ℕ) (r : Removal) (w i x : ℕ) : Type 0 where
  pub lane : (j : ℕ) → j < 64
      → bit x j ≡ (r.from (64 * w + j) i && (bit_at t (r.less (64 * w + j) i) && not (bit_at t (64 * w + j))))

-- if so, there is no exposure of the 64 subsets from 64 * w on
pub record QuietIf (t : List ℕ) (r : Removal) (k w : ℕ) (so : Bool) : Type 0 where
  pub none : so ≡ true → {j i : ℕ} → j < 64 → HitAt (bit_at t) r k (64 * w + j) i → ⊥
