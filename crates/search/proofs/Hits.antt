-- Exposures of 64 subsets at a time.
use Prim.Native.Nat.{ℕ, ◌+◌, ◌*◌, ◌-◌, ◌/◌, ◌%◌, ◌^◌, ◌≤◌, ◌<◌}
use mathlib.Core.Path.{◌≡◌, refl, sym, ap, ap₂, ◌∙◌}
use mathlib.Core.Bool.{Bool, true, false}
use mathlib.Core.List.{List}
use native.Mathlib.Omega.{arith}
use lib.Bits.{bit_and}
use lib.ListN.{get_or}
use lib.Pow.{shl-shr, pow-add}
use borrow.Author.Count.{below_more}
use Rattle.ptacl.specs.Exposure.{bit, one_pair}
use Rattle.ptacl.proofs.Bools.{either, clash}
use Rattle.ptacl.proofs.Bits.{bit_le, bit_below}
use Rattle.table.specs.Allowed.{bit_at}
use Rattle.table.specs.Rows.{PairWord}
use Rattle.table.proofs.Bits.{bit_of_and, bit_of_not, bit_none, bit_mod, bit_div, bit_low, bit_high}
use Rattle.search.specs.Hits.{HitAt, LessWord, HitWord, QuietIf}

-- a hit takes one of the k pairs
pub hit_index : {P : ℕ → Bool} {k m i : ℕ} → HitAt P one_pair k m i → i < k
hit_index {k} {m} {i} h = bit_below m k i h.numbered h.taken

-- a bit of a word that was moved up by s
moved : (x s j : ℕ) → s ≤ j → j < 64 → bit (x * 2 ^ s % 2 ^ 64) j ≡ bit x (j - s)
moved x s j l h = bit_mod (x * 2 ^ s) 64 j h ∙ (bit_div (x * 2 ^ s) s j l ∙ ap (λ y. bit y (j - s)) (shl-shr x s))

entry_at : (t : List ℕ) (m v j : ℕ) → m / 64 ≡ v → m % 64 ≡ j → bit_at t m ≡ bit (get_or t v 0) j
unfolding bit_at
entry_at t m v j a b = ap₂ (λ x y. bit (get_or t x 0) y) a b

module _ (t : List ℕ) (w i : ℕ) where
  pub less_low : {p x : ℕ} → i < 6 → p ≡ 2 ^ i → x ≡ get_or t w 0 → LessWord t one_pair w i (x * 2 ^ p % 2 ^ 64)
  less_low {p} h e is = rw is (record {
    lane = λ j g b.
        let own = bit_le j i (sym (bit_low w i j g h) ∙ b) in
        moved (get_or t w 0) p j (omega arith) g
        ∙ (ap (λ z. bit (get_or t w 0) (j - z)) e ∙ sym (entry_at t (64 * w + j - 2 ^ i) w (j - 2 ^ i) (omega arith) (omega arith)));
  })

  module _ {p : ℕ} (h : 6 ≤ i) (e : p ≡ 2 ^ i) where
    -- the words of the subsets without pair i
    apart : 64 * 2 ^ (i - 6) ≡ p
    apart = let s : 6 + (i - 6) ≡ i = omega arith in sym (pow-add 2 6 (i - 6)) ∙ (ap (λ z. 2 ^ z) s ∙ sym e)

    pub less_high : {x : ℕ} → p / 64 ≤ w → x ≡ get_or t (w - p / 64) 0 → LessWord t one_pair w i x
    less_high l is = rw is (record {
      lane = λ j g b. let d = apart in sym (entry_at t (64 * w + j - 2 ^ i) (w - p / 64) j (omega arith) (omega arith));
    })

    pub less_none : w < p / 64 → LessWord t one_pair w i 0
    less_none l = record {
      lane = λ j g b. let d = apart in let own = bit_le w (i - 6) (sym (bit_high w i j g h) ∙ b) in absurd (omega arith);
    }

  pub hits_law : {p x y : ℕ} → PairWord w i p → LessWord t one_pair w i x → y ≡ get_or t w 0 → y < 2 ^ 64
      → HitWord t one_pair w i (bit_and (bit_and p x) (2 ^ 64 - 1 - y))
  hits_law {p} {x} {y} k l is f = record {
    lane = λ j g.
        let m = 64 * w + j in
        let here : bit y j ≡ bit_at t m = ap (λ z. bit z j) is ∙ sym (entry_at t m w j (omega arith) (omega arith)) in
        bit_of_and (bit_and p x) (2 ^ 64 - 1 - y) j
        ∙ rw (bit_of_and p x j, bit_of_not y j f g, k.pattern j g, here) (either (bit m i) (λ b. rw (b, l.lane j g b)) (λ b. rw b));
  }

pub ruleset less_laws = (less_low, less_high, less_none)

-- no exposure of the 64 subsets at a pair before i
pub record QuietTo (t : List ℕ) (k w i : ℕ) : Type 0 where
  pub none : (n : ℕ) → n < i → (j : ℕ) → j < 64 → HitAt (bit_at t) one_pair k (64 * w + j) n → ⊥

module _ {t : List ℕ} {k w : ℕ} where
  pub quiet_start : QuietTo t k w 0
  quiet_start = record { none = λ n h. absurd (omega arith) }

  pub quiet_more : {i x : ℕ} → QuietTo t k w i → HitWord t one_pair w i x → x ≡ 0 → QuietTo t k w (i + 1)
  quiet_more {i} {x} q r z = record {
    none = below_more (λ n. ((j : ℕ) → j < 64 → HitAt (bit_at t) one_pair k (64 * w + j) n → ⊥)) i q.none
        (λ j g h. clash (r.lane j g ∙ rw (h.taken, h.smaller, h.larger)) (ap (λ y. bit y j) z ∙ bit_none j));
  }

  pub quiet_end : {i : ℕ} → QuietTo t k w i → k ≤ i → QuietIf t one_pair k w true
  quiet_end q l = record {
    none = λ e {j} {i = n} g h. q.none n (omega (arith, hit_index h)) j g h;
  }

  pub not_quiet : QuietIf t one_pair k w false
  not_quiet = record { none = λ e g h. clash e refl }

pub ruleset quiet_laws = (quiet_start, quiet_more, quiet_end, not_quiet)
