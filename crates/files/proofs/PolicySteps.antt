-- What a head is; and that bytes are read as they are written.
use Prim.Native.Nat.{ℕ, ◌+◌, ◌≤◌, ◌<◌}
use mathlib.Core.Path.{◌≡◌, refl, ap, ◌∙◌}
use mathlib.Core.Bool.{Bool, true, false, cond}
use mathlib.Core.List.{List, [], ◌∷◌}
use native.Mathlib.Omega.{arith}
use lib.Dec.{ltb, eqb}
use lib.ListN.{length, get_or, drop}
use borrow.Author.Tests.{ltb-true, eqb-false, lt-ltb, le-ltb, ne_eqb}
use Rattle.ptacl.specs.Term.{Sort, Node, tag_of}
use Rattle.ptacl.proofs.Bools.{either}
use Rattle.files.specs.Encoding.{big, bytes, InRange, Bytes}
use Rattle.files.specs.Refusal.{dec16}
use Rattle.files.specs.Prefix.{Head, node, stop, done, fault}
use Rattle.files.specs.ReadPolicy.{other_sort, Byte, tag, other, unknown, byte_at, limit_of, tagged, head_at, pair_at, in_bytes}
use Rattle.files.specs.Places.{At}
use Rattle.files.proofs.BigEndian.{dec16_big, drop_big, dec16_range, big_dec16}
use Rattle.files.proofs.SingleByte.{byte_found, known}
use Rattle.files.proofs.Places.{room, head, tail, more}
use Rattle.files.proofs.Prefix.{Told, ToldPair, Lawful, PairsTold}

-- the cases of a head
module _ (most : ℕ) (b : List ℕ) {s : Sort} (left at nodes : ℕ) where
  pub head_cut : length b ≤ at → head_at most b s left at nodes ≡ stop 4 (length b)
  unfolding head_at
  head_cut h = simp (le-ltb _ _ h)

  pub head_other : (n : Node (other_sort s)) → at < length b → byte_at s (get_or b at 0) ≡ other n → head_at most b s left at nodes ≡ stop 15 at
  unfolding head_at
  head_other n h k = simp (lt-ltb _ _ h, k)

  pub head_unknown : at < length b → byte_at s (get_or b at 0) ≡ unknown → head_at most b s left at nodes ≡ stop 5 at
  unfolding head_at
  head_unknown h k = simp (lt-ltb _ _ h, k)

  module _ (n : Node s) (h : at < length b) (k : byte_at s (get_or b at 0) ≡ tag n) where
    pub head_limited : (limit_of most left nodes ≡ 0 → ⊥) → head_at most b s left at nodes ≡ stop (limit_of most left nodes) at
    unfolding head_at
    head_limited e = rw (lt-ltb _ _ h, k, ne_eqb _ _ e)

    pub head_node : limit_of most left nodes ≡ 0 → head_at most b s left at nodes ≡ node n (at + 1)
    unfolding head_at
    head_node e = rw (lt-ltb _ _ h, k, e)

-- the limits at a node are kept, or it is 6 or 7
data Limits (most left nodes number : ℕ) : Type 0 where
  kept : number ≡ 0 → 1 ≤ left → nodes < most → Limits most left nodes number
  passed : 6 ≤ number → number ≤ 7 → Limits most left nodes number

limits : (most left nodes : ℕ) → Limits most left nodes (limit_of most left nodes)
limits most left nodes = go (eqb left 0) (ltb nodes most) refl refl
  where
    go : (d f : Bool) → eqb left 0 ≡ d → ltb nodes most ≡ f → Limits most left nodes (limit_of most left nodes)
    go false true p q = kept (simp (p, q)) (omega (arith, eqb-false left 0 p)) (ltb-true _ _ q)
    go false false p q = simp (p, q) (passed (omega arith) (omega arith))
    go true true p q = simp (p, q) (passed (omega arith) (omega arith))
    go true false p q = simp (p, q) (passed (omega arith) (omega arith))

pub limits_are : {most left nodes : ℕ} → 1 ≤ left → nodes < most → limit_of most left nodes ≡ 0
limits_are {most} {left} {nodes} d f = simp (ne_eqb left 0 (λ e. omega arith), lt-ltb nodes most f)

pub limits_kept : (most left nodes : ℕ) → limit_of most left nodes ≡ 0 → (1 ≤ left) × (nodes < most)
limits_kept most left nodes e = go (limits most left nodes) e
  where
    go : {number : ℕ} → Limits most left nodes number → number ≡ 0 → (1 ≤ left) × (nodes < most)
    go (kept i d k) z = (d, k)
    go (passed a b) z = omega (arith, z)

-- a property of a head, by its cases: it is a slip, strange, 6 or 7, or a node within the limits
pub tagged_told : {s : Sort} (P : Head s → Type 0) {slip strange at : ℕ} {follows : Node s → Head s} (most left nodes : ℕ) (x : Byte s)
    → ((n : Node (other_sort s)) → x ≡ other n → P (stop slip at)) → (x ≡ unknown → P (stop strange at)) → ((l : ℕ) → 6 ≤ l → l ≤ 7 → P (stop l at))
    → ((n : Node s) → x ≡ tag n → 1 ≤ left → nodes < most → P (follows n)) → P (tagged slip strange (limit_of most left nodes) at follows x)
tagged_told P most left nodes (other n) d f g h = d n refl
tagged_told P most left nodes unknown d f g h = f refl
tagged_told P {at = at} {follows = follows} most left nodes (tag n) d f g h = go (limits most left nodes)
  where
    go : {l : ℕ} → Limits most left nodes l → P (cond (eqb l 0) (follows n) (stop l at))
    go (kept e d k) = rw e (h n refl d k)
    go {l} (passed a c) = rw (ne_eqb l 0 (λ e. omega arith)) (g l a c)

-- a refusal's number is from 4 to 15, its place one of the file
pub record Faulty (b : List ℕ) (number place : ℕ) : Type 0 where
  pub low : 4 ≤ number
  pub high : number ≤ 15
  pub within : place ≤ length b

module _ (most : ℕ) (b : List ℕ) where
  head_told : (s : Sort) (left : ℕ) (end : Unit {0}) (at k : ℕ) → Told bytes most b (Faulty b) left end at k (head_at most b s left at k)
  unfolding head_at
  head_told s left end at k = either (ltb at (length b))
      (λ e. let i = ltb-true at (length b) e in rw e
      (tagged_told (Told bytes most b (Faulty b) left end at k) most left k (byte_at s (get_or b at 0))
      (λ n q. record { low = omega arith; high = omega arith; within = omega arith })
      (λ q. record { low = omega arith; high = omega arith; within = omega arith })
      (λ l f g. record { low = omega arith; high = omega arith; within = omega arith })
      (λ n q d f. record {
        bytes = more b at i ∙ ap (λ (x : ℕ). x ∷ drop (at + 1) b) (byte_found s _ n q);
        inside = omega arith;
        shallow = d;
        few = f;
      })))
      (λ e. rw e (record { low = omega arith; high = omega arith; within = omega arith }))

  head_reads : (s : Sort) (n : Node s) (left : ℕ) (end : Unit {0}) (at k : ℕ) → At b at (tag_of n ∷ []) → 1 ≤ left → k < most
      → head_at most b s left at k ≡ node n (at + 1)
  head_reads s n left end at k h l m = head_node most b left at k n (room h) (ap (byte_at s) (head h) ∙ known n) (limits_are l m)

  pair_reads : (n v : ℕ) (end : Unit {0}) (at k : ℕ) → Unit {0} → At b at (big n (big v [])) → pair_at b at k ≡ done (n, v) (at + 4) k
  unfolding pair_at
  pair_reads n v end at k u h =
      let i : at + 3 < length b = omega (arith, room (tail (tail (tail h)))) in
      rw (lt-ltb (at + 3) (length b) i, dec16_big b at n _ h.split, dec16_big b (at + 2) v _ (drop_big b at n _ h.split))

  pub byte_laws : Lawful (in_bytes most b) most b (λ xs. Unit {0}) (Faulty b)
  byte_laws = record { parts = λ xs ys u. (tt, tt); head_reads = head_reads; pair_reads = pair_reads; head_told = head_told }

  pub pairs_told : Bytes b → PairsTold (in_bytes most b) most b (Faulty b)
  unfolding pair_at InRange
  pairs_told bs end at k i = go (ltb (at + 3) (length b)) refl
    where
      go : (c : Bool) → ltb (at + 3) (length b) ≡ c
          → ToldPair bytes most b (Faulty b) end at k (cond c (done (dec16 b at, dec16 b (at + 2)) (at + 4) k) (fault 4 (length b)))
      go true e =
          let h = ltb-true (at + 3) (length b) e in
          let u : at + 2 + 2 ≡ at + 4 = omega arith in
          let y = big_dec16 bs at (omega arith) in
          let z = big_dec16 bs (at + 2) (omega arith) in
          record { bytes = cc; inside = omega arith; counted = refl; range = (dec16_range bs at, dec16_range bs (at + 2), tt) }
      go false e = record { low = omega arith; high = omega arith; within = omega arith }
