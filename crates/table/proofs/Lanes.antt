-- The operations on rows, at each lane.
use Prim.Native.Nat.{ℕ, zero, suc, ◌+◌, ◌-◌, ◌/◌, ◌%◌, ◌<◌, ◌^◌}
use mathlib.Core.Path.{◌≡◌, refl, sym, ap, ap₂, ◌∙◌}
use mathlib.Core.Bool.{true, false, not, ◌&&◌, ◌||◌}
use mathlib.Core.List.{List, [], ◌∷◌, map}
use native.Mathlib.Decide.{dec_le}
use native.Mathlib.Omega.{arith}
use lib.Bits.{bit_and, bit_or}
use lib.Lanes.{zip2, Each1}
use mir.Syntax.{w64}
use mir.Val.{Fits}
use lib.Dec.{lit<}
use lib.ListN.{length, get_or, replicate, length-map, get_or-eq_default}
use Rattle.std.proofs.lemmas.Simd.{get_or-zip2, zip2-map, map-map, length-zip2, Each1-get_or}
use Rattle.std.proofs.lemmas.List.{get_or-replicate, get_or-map}
use Rattle.std.specs.List.{range_with_len}
use Rattle.ptacl.specs.Value.{v1, v0, v_u}
use Rattle.ptacl.specs.Values.{Values, single, only}
use Rattle.ptacl.specs.Exposure.{bit, strict}
use Rattle.ptacl.proofs.Finite.{sets as all_sets, by}
use Rattle.table.specs.declared.row.TargetRow.{TargetRow}
use Rattle.table.specs.declared.row.PolicyRow.{PolicyRow}
use Rattle.table.specs.Rows.{lane, lanes, every_lane, target_at, set_at, targets, sets}
use Rattle.table.specs.Outcomes.{not_target, optional_target, and_target, or_target, not_set, default_set, targeted_set, and_set, or_set}
use Rattle.table.proofs.Bits.{ones, bit_of_and, bit_of_or, bit_of_not, bit_none, bit_ones}

-- of two functions that agree at each lane
same_range : {A : Type 0} (f g : ℕ → A) (from n : ℕ) → ((j : ℕ) → j < from + n → f j ≡ g j) → map f (range_with_len from n) ≡ map g (range_with_len from n)
same_range f g from zero e = refl
same_range f g from (suc n) e = rw (e from (omega arith), same_range f g (from + 1) n (λ j h. e j (omega arith)))

pub same_lanes : {A : Type 0} (f g : ℕ → A) → ((j : ℕ) → j < 512 → f j ≡ g j) → lanes f ≡ lanes g
unfolding lanes
same_lanes f g e = same_range f g 0 512 e

-- an operation at each lane, on one row or on two
pub by_one : {A B : Type 0} (h : A → B) (f : ℕ → B) (g : ℕ → A) → ((j : ℕ) → j < 512 → f j ≡ h (g j)) → lanes f ≡ map h (lanes g)
unfolding lanes
by_one h f g e = same_lanes f (λ j. h (g j)) e ∙ sym (map-map h g (range_with_len 0 512))

by_two : {A B C : Type 0} (h : A → B → C) (f : ℕ → C) (g : ℕ → A) (k : ℕ → B) → ((j : ℕ) → j < 512 → f j ≡ h (g j) (k j))
    → lanes f ≡ zip2 h (lanes g) (lanes k)
unfolding lanes
by_two h f g k e = same_lanes f (λ j. h (g j) (k j)) e ∙ sym (zip2-map h g k (range_with_len 0 512))

-- rows have eight words
module _ (a b : List ℕ) (m : length a ≡ 8) (n : length b ≡ 8) (j : ℕ) (h : j < 512) where
  pub lane_and : lane (zip2 bit_and a b) j ≡ (lane a j && lane b j)
  unfolding lane
  lane_and = ap (λ x. bit x (j % 64)) (get_or-zip2 bit_and a b (j / 64) 0 0 0 (omega arith) (omega arith)) ∙ bit_of_and _ _ (j % 64)

  pub lane_or : lane (zip2 bit_or a b) j ≡ (lane a j || lane b j)
  unfolding lane
  lane_or = ap (λ x. bit x (j % 64)) (get_or-zip2 bit_or a b (j / 64) 0 0 0 (omega arith) (omega arith)) ∙ bit_of_or _ _ (j % 64)

pub lane_none : (j : ℕ) → j < 512 → lane (replicate 8 0) j ≡ false
unfolding lane
lane_none j h = ap (λ x. bit x (j % 64)) (get_or-replicate 8 (j / 64) 0 0 (omega arith)) ∙ bit_none (j % 64)

pub lane_all : (j : ℕ) → j < 512 → lane (replicate 8 ones) j ≡ true
unfolding lane
lane_all j h = ap (λ x. bit x (j % 64)) (get_or-replicate 8 (j / 64) ones 0 (omega arith)) ∙ bit_ones (j % 64) (omega arith)

-- eight words of 64 bits
abbrev pub Long : List ℕ → Type 0
Long a = (length a ≡ 8) × ((k : ℕ) → Fits w64 (get_or a k 0))

pub long_of : (a : List ℕ) → (length a ≡ 8) × Each1 (Fits w64) a → Long a
long_of a e = (
  e.0,
  λ k. elim (dec_le (length a) k) [
    | yes h ↦ rw (get_or-eq_default a 0 h) (record { fits = lit< tt })
    | no h ↦ Each1-get_or (Fits w64) a k 0 (omega arith) e.1
  ],
)

pub lane_not : (a : List ℕ) → Long a → (j : ℕ) → j < 512 → lane (map (λ x. 2 ^ 64 - 1 - x) a) j ≡ not (lane a j)
unfolding lane
lane_not a l j h =
    ap (λ x. bit x (j % 64)) (get_or-map (λ x. 2 ^ 64 - 1 - x) a (j / 64) 0 0 (omega arith))
    ∙ bit_of_not _ (j % 64) (l.1 (j / 64)).fits (omega arith)

-- the methods of the rows, of eight words each
module _ (t : TargetRow) where
  pub not_is : targets (record { is1 = t.is0; is0 = t.is1 }) ≡ map not_target (targets t)
  unfolding target_at
  not_is = by_one not_target _ (target_at t) (λ j h. refl)

  pub optional_is : Long t.is1 → targets (record { is1 = t.is1; is0 = map (λ x. 2 ^ 64 - 1 - x) t.is1 }) ≡ map optional_target (targets t)
  unfolding target_at
  optional_is l = by_one optional_target _ (target_at t) (λ j h. rw (lane_not t.is1 l j h))

  module _ (u : TargetRow) (a : length t.is1 ≡ 8) (b : length t.is0 ≡ 8) (c : length u.is1 ≡ 8) (d : length u.is0 ≡ 8) where
    pub and_is : targets (record { is1 = zip2 bit_and t.is1 u.is1; is0 = zip2 bit_or t.is0 u.is0 }) ≡ zip2 and_target (targets t) (targets u)
    unfolding target_at
    and_is = by_two and_target _ (target_at t) (target_at u) (λ j h. rw (lane_and t.is1 u.is1 a c j h, lane_or t.is0 u.is0 b d j h))

    pub or_is : targets (record { is1 = zip2 bit_or t.is1 u.is1; is0 = zip2 bit_and t.is0 u.is0 }) ≡ zip2 or_target (targets t) (targets u)
    unfolding target_at
    or_is = by_two or_target _ (target_at t) (target_at u) (λ j h. rw (lane_or t.is1 u.is1 a c j h, lane_and t.is0 u.is0 b d j h))

pub undefined_is : targets (record { is1 = replicate 8 0; is0 = replicate 8 0 }) ≡ every_lane (single v_u)
unfolding target_at
undefined_is = same_lanes _ _ (λ j h. rw (lane_none j h))

pub allow_is : sets (record { allow = replicate 8 ones; deny = replicate 8 0; undefined = replicate 8 0 }) ≡ every_lane (single v1)
unfolding set_at
allow_is = same_lanes _ _ (λ j h. rw (lane_all j h, lane_none j h))

pub deny_is : sets (record { allow = replicate 8 0; deny = replicate 8 ones; undefined = replicate 8 0 }) ≡ every_lane (single v0)
unfolding set_at
deny_is = same_lanes _ _ (λ j h. rw (lane_all j h, lane_none j h))

module _ (p : PolicyRow) where
  pub set_not_is : sets (record { allow = p.deny; deny = p.allow; undefined = p.undefined }) ≡ map not_set (sets p)
  unfolding set_at
  set_not_is = by_one not_set _ (set_at p) (λ j h. refl)

  module _ (a : length p.allow ≡ 8) (d : length p.deny ≡ 8) (u : length p.undefined ≡ 8) where
    pub default_is : sets (record { allow = p.allow; deny = zip2 bit_or p.deny p.undefined; undefined = replicate 8 0 }) ≡ map default_set (sets p)
    unfolding set_at
    default_is = by_one default_set _ (set_at p) (λ j h. rw (lane_or p.deny p.undefined d u j h, lane_none j h))

    pub targeted_is : (t : TargetRow) → Long t.is1 → Long t.is0
        → sets (record {
          allow = zip2 bit_and p.allow (map (λ x. 2 ^ 64 - 1 - x) t.is0);
          deny = zip2 bit_and p.deny (map (λ x. 2 ^ 64 - 1 - x) t.is0);
          undefined = zip2 bit_or p.undefined (map (λ x. 2 ^ 64 - 1 - x) t.is1);
        }) ≡ zip2 targeted_set (targets t) (sets p)
    unfolding set_at target_at
    targeted_is t l m =
        let not0 = map (λ x. 2 ^ 64 - 1 - x) t.is0 in
        let not1 = map (λ x. 2 ^ 64 - 1 - x) t.is1 in
        let e : length not0 ≡ 8 = length-map t.is0 _ ∙ m.0 in
        let f : length not1 ≡ 8 = length-map t.is1 _ ∙ l.0 in
        by_two targeted_set _ (target_at t) (set_at p) (λ j h.
        rw (lane_and p.allow not0 a e j h, lane_and p.deny not0 d e j h, lane_or p.undefined not1 u f j h, lane_not t.is0 m j h, lane_not t.is1 l j h))

    pub set_and_is : (q : PolicyRow) → length q.allow ≡ 8 → length q.deny ≡ 8 → length q.undefined ≡ 8
        → sets (record {
          allow = zip2 bit_and p.allow q.allow;
          deny = zip2 bit_or p.deny q.deny;
          undefined = zip2 bit_or (zip2 bit_and p.undefined (zip2 bit_or q.allow q.undefined)) (zip2 bit_and q.undefined (zip2 bit_or p.allow p.undefined));
        }) ≡ zip2 and_set (sets p) (sets q)
    unfolding set_at
    set_and_is q b e v =
        let left = zip2 bit_or p.allow p.undefined in
        let right = zip2 bit_or q.allow q.undefined in
        let l : length left ≡ 8 = length-zip2 bit_or _ _ (a ∙ sym u) ∙ a in
        let r : length right ≡ 8 = length-zip2 bit_or _ _ (b ∙ sym v) ∙ b in
        let x = zip2 bit_and p.undefined right in
        let y = zip2 bit_and q.undefined left in
        let lx : length x ≡ 8 = length-zip2 bit_and _ _ (u ∙ sym r) ∙ u in
        let ly : length y ≡ 8 = length-zip2 bit_and _ _ (v ∙ sym l) ∙ v in
        by_two and_set _ (set_at p) (set_at q) (λ j h.
        rw (
          lane_and p.allow q.allow a b j h,
          lane_or p.deny q.deny d e j h,
          lane_or x y lx ly j h,
          lane_and p.undefined right u r j h,
          lane_and q.undefined left v l j h,
          lane_or q.allow q.undefined b v j h,
          lane_or p.allow p.undefined a u j h,
        ))

  pub only_is : length p.allow ≡ 8 → Long p.deny → Long p.undefined
      → lanes (lane (zip2 bit_and (zip2 bit_and p.allow (map (λ x. 2 ^ 64 - 1 - x) p.deny)) (map (λ x. 2 ^ 64 - 1 - x) p.undefined))) ≡ map strict (sets p)
  unfolding set_at only
  only_is a d u =
      let not0 = map (λ x. 2 ^ 64 - 1 - x) p.deny in
      let notu = map (λ x. 2 ^ 64 - 1 - x) p.undefined in
      let e : length not0 ≡ 8 = length-map p.deny _ ∙ d.0 in
      let f : length notu ≡ 8 = length-map p.undefined _ ∙ u.0 in
      let g : length (zip2 bit_and p.allow not0) ≡ 8 = length-zip2 bit_and _ _ (a ∙ sym e) ∙ a in
      by_one strict _ (set_at p) (λ j h.
      rw (lane_and _ notu g f j h, lane_and p.allow not0 a e j h, lane_not p.deny d j h, lane_not p.undefined u j h)
      (by all_sets (λ s. s.has1 && not s.has0 && not s.has_u) strict refl (set_at p j)))

-- an or is not(and(not, not))
pub set_or_is : (p q n m r : PolicyRow) {x : List Values} → sets n ≡ map not_set (sets p) → sets m ≡ map not_set (sets q)
    → sets r ≡ zip2 and_set (sets n) (sets m) → x ≡ map not_set (sets r) → x ≡ zip2 or_set (sets p) (sets q)
set_or_is p q n m r a b c d = d ∙ ap (map not_set) (c ∙ ap₂ (zip2 and_set) a b) ∙ mapped (sets p) (sets q)
  where
    mapped : (xs ys : List Values) → map not_set (zip2 and_set (map not_set xs) (map not_set ys)) ≡ zip2 or_set xs ys
    mapped [] ys = refl
    mapped (s ∷ xs) [] = refl
    mapped (s ∷ xs) (r ∷ ys) = rw (mapped xs ys)
