-- Pairs as numbers in ascending order: the numbers rise, what the list holds are its entries, and looking one up by halving.
use Prim.Native.Nat.{ℕ, zero, suc, ◌-◌, ◌/◌, ◌%◌, ◌≤◌, ◌<◌}
use mathlib.Core.Path.{◌≡◌, refl, sym, ap, subst, ◌∙◌}
use mathlib.Core.Bool.{true, false}
use mathlib.Core.List.{List, [], ◌∷◌, map}
use native.Mathlib.Decide.{dec_lt}
use native.Mathlib.Omega.{arith}
use lib.Dec.{ltb}
use lib.ListN.{length, get_or}
use borrow.Author.Tests.{ltb-true}
use Rattle.ptacl.specs.Value.{Value, v1, v0, v_u}
use Rattle.ptacl.specs.Meaning.{atom_at}
use Rattle.ptacl.specs.Request.{Pair, same_pair, holds, has, below, below_head, ascending}
use Rattle.ptacl.specs.Pairs.{packed, unpacked}
use Rattle.ptacl.proofs.Bools.{clash, and_right, or_right, refute}
use Rattle.ptacl.proofs.Requests.{holds_head, found, holds_has, has_holds}
use Rattle.ptacl.proofs.Order.{head_below}
use Rattle.files.proofs.Numbers.{packed_unpacked, below_packed}
use Rattle.files.specs.Ordered.{Ordered, PlaceOf}

pub below_unpacked : (x y : ℕ) → below (unpacked x) (unpacked y) ≡ ltb x y
below_unpacked x y = rw (below_packed (unpacked x) (unpacked y) (omega arith) (omega arith), packed_unpacked x, packed_unpacked y)

-- what a list of numbers holds are its entries
pub entry_held : (l : List ℕ) (i : ℕ) → i < length l → holds (map unpacked l) (unpacked (get_or l i 0)) ≡ true
entry_held [] i h = absurd (omega arith)
entry_held (x ∷ l) zero h = holds_head (unpacked x) (map unpacked l)
entry_held (x ∷ l) (suc i) h = or_right (same_pair (unpacked x) (unpacked (get_or l i 0))) (entry_held l i (omega arith))

pub record Entry (l : List ℕ) (z : Pair) : Type 0 where
  pub place : ℕ
  pub inside : place < length l
  pub value : unpacked (get_or l place 0) ≡ z

pub held_entry : (l : List ℕ) (z : Pair) → holds (map unpacked l) z ≡ true → Entry l z
held_entry [] z h = clash h refl
held_entry (x ∷ l) z h = found (unpacked x) (map unpacked l) z
    (λ e. record { place = 0; inside = omega arith; value = e })
    (λ k. let r = held_entry l z k in record { place = suc r.place; inside = omega (arith, r.inside); value = r.value }) h

-- the numbers rise
rising : (l : List ℕ) → ascending (map unpacked l) ≡ true → (i j : ℕ) → i < j → j < length l → get_or l i 0 < get_or l j 0
rising [] a i j h k = absurd (omega arith)
rising (x ∷ l) a i zero h k = absurd (omega arith)
rising (x ∷ l) a zero (suc j) h k =
    ltb-true x (get_or l j 0)
    (sym (below_unpacked x (get_or l j 0)) ∙ head_below (unpacked x) (map unpacked l) a (unpacked (get_or l j 0)) (entry_held l j (omega arith)))
rising (x ∷ l) a (suc i) (suc j) h k =
    rising l (and_right (below_head (unpacked x) (map unpacked l)) a) i j (omega arith) (omega arith)

module _ {list : List ℕ} (o : Ordered list) where
  rises : (i j : ℕ) → i < j → j < length list → get_or list i 0 < get_or list j 0
  rises = rising list o.rises

  pub rises_on : (i j : ℕ) → i ≤ j → j < length list → get_or list i 0 ≤ get_or list j 0
  rises_on i j h k = elim (dec_lt i j) [
    | yes l ↦ omega (arith, rises i j l k)
    | no n ↦ let e : i ≡ j = omega arith in rw e (omega arith)
  ]

-- what is looked up stands at its place, if anywhere
module _ {list : List ℕ} (o : Ordered list) (x place : ℕ) (p : PlaceOf list x place) where
  first_from : (i : ℕ) → i < length list → x ≤ get_or list i 0
      → (place < length list) × (x ≤ get_or list place 0) × (get_or list place 0 ≤ get_or list i 0)
  first_from i h k =
      let b : place ≤ i = elim (dec_lt i place) [ yes l ↦ absurd (omega (arith, p.before i l)) | no n ↦ omega arith ] in
      (omega arith, p.behind place (omega arith) (omega arith), rises_on o place i b h)

  pair_from : holds (map unpacked list) (unpacked x) ≡ true → (place < length list) × (get_or list place 0 ≡ x)
  pair_from h =
      let r = held_entry list (unpacked x) h in
      let e = ap packed r.value in
      omega (arith, first_from r.place r.inside (omega arith))

-- an atom by the numbers at the place of its pair and before it: names rise too, so no other can have its name
module _ {list : List ℕ} (o : Ordered list) (x place : ℕ) (p : PlaceOf list x place) where
  abbrev Is : Value → Type 0
  Is v = v ≡ atom_at (map unpacked list) (x / 65536) (x % 65536)

  abbrev Other : Type 0
  Other = place < length list → get_or list place 0 ≡ x → ⊥

  not_held : Other → holds (map unpacked list) (unpacked x) ≡ false
  not_held n = refute (λ h. let r = pair_from o x place p h in n r.0 r.1)

  pub atom_one : place < length list → get_or list place 0 ≡ x → Is v1
  atom_one l e = rw (subst (λ z. holds (map unpacked list) (unpacked z) ≡ true) e (entry_held list place l))

  pub atom_zero : (i : ℕ) → i < length list → get_or list i 0 / 65536 ≡ x / 65536 → Other → Is v0
  atom_zero i l e n = rw (not_held n, subst (λ z. has (map unpacked list) z ≡ true) e (holds_has (map unpacked list) _ (entry_held list i l)))

  pub atom_missing : (place < length list → get_or list place 0 / 65536 ≡ x / 65536 → ⊥)
      → (0 < place → get_or list (place - 1) 0 / 65536 ≡ x / 65536 → ⊥) → Is v_u
  atom_missing m n = rw (not_held (λ l e. m l (ap (λ z. z / 65536) e)), refute unnamed)
    where
      unnamed : has (map unpacked list) (x / 65536) ≡ true → ⊥
      unnamed h =
          let v = has_holds (map unpacked list) (x / 65536) h in
          let r = held_entry list (x / 65536, v.0) v.1 in
          let e : get_or list r.place 0 / 65536 ≡ x / 65536 = ap (λ z. z.0) r.value in
          elim (dec_lt r.place place) [
            | yes l ↦ n (omega arith) (omega (arith, p.before (place - 1) (omega arith), rises_on o r.place (place - 1) (omega arith) (omega (arith, p.most))))
            | no k ↦ m (omega (arith, r.inside)) (omega (arith, p.behind place (omega arith) (omega (arith, r.inside)), rises_on o place r.place (omega arith) r.inside))
          ]
