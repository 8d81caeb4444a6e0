-- The atoms in bytes: what one step of a walk over them meets, and that in a policy's body they are the policy's.
use Prim.Native.Nat.{ℕ, zero, suc, ◌+◌, ◌*◌, ◌/◌, ◌%◌, ◌-◌, ◌<◌, ◌≤◌}
use mathlib.Core.Path.{◌≡◌, refl, sym, ap, ◌∙◌}
use mathlib.Core.List.{List, [], ◌∷◌, ◌++◌, append_assoc, append-nil}
use native.Mathlib.Numerals.{add-one}
use native.Mathlib.Omega.{arith}
use lib.ListN.{length, take, drop, get_or, length-drop}
use lib.Seq.{drop-cons, take_all}
use borrow.Author.Tests.{ne_eqb}
use Rattle.ptacl.specs.Term.{Sort, target, policy, Term, Policy, atom, deny, allow, targeted, not, default, and, or, atoms}
use Rattle.ptacl.specs.Term.{a_not, a_default, an_and, an_or, tag_of}
use Rattle.ptacl.proofs.Pairs.{atoms_127}
use Rattle.files.specs.Encoding.{enc}
use Rattle.files.specs.Prefix.{spell}
use Rattle.files.specs.Tags.{pair_in}
use Rattle.files.specs.AtomsIn.{atoms_in}

past : (t : ℕ) (s : List ℕ) → (t ≡ 0x10 → ⊥) → atoms_in (t ∷ s) ≡ atoms_in s
past t [] n = refl
past t (a ∷ []) n = refl
past t (a ∷ b ∷ []) n = refl
past t (a ∷ b ∷ c ∷ []) n = refl
past t (a ∷ b ∷ c ∷ d ∷ s) n = rw (ne_eqb t 0x10 n)

short : (b : List ℕ) → length b < 5 → atoms_in b ≡ []
short [] h = refl
short (a ∷ []) h = refl
short (a ∷ b ∷ []) h = refl
short (a ∷ b ∷ c ∷ []) h = refl
short (a ∷ b ∷ c ∷ d ∷ []) h = refl
short (a ∷ b ∷ c ∷ d ∷ e ∷ s) h = absurd (omega arith)

front : (s : List ℕ) → 4 ≤ length s → atoms_in (0x10 ∷ s) ≡ pair_in (take 4 s) ∷ atoms_in (drop 4 s)
front [] h = absurd (omega arith)
front (a ∷ []) h = absurd (omega arith)
front (a ∷ b ∷ []) h = absurd (omega arith)
front (a ∷ b ∷ c ∷ []) h = absurd (omega arith)
front (a ∷ b ∷ c ∷ d ∷ s) h = refl

-- before the first atom's tag there is no atom
pub no_atom : (b : List ℕ) → ((k : ℕ) → k < length b → get_or b k 0 ≡ 0x10 → ⊥) → atoms_in b ≡ []
no_atom [] n = refl
no_atom (t ∷ b) n = past t b (n 0 (omega arith)) ∙ no_atom b (λ k h. n (suc k) (omega arith))

from_tag : (b : List ℕ) (i : ℕ) → i < length b → ((k : ℕ) → k < i → get_or b k 0 ≡ 0x10 → ⊥) → atoms_in b ≡ atoms_in (drop i b)
from_tag [] i h n = absurd (omega arith)
from_tag (t ∷ b) zero h n = refl
from_tag (t ∷ b) (suc i) h n = past t b (n 0 (omega arith)) ∙ from_tag b i (omega arith) (λ k l. n (suc k) (omega arith))

module _ (b : List ℕ) (i : ℕ) (inside : i < length b) (tag : get_or b i 0 ≡ 0x10) (first : (k : ℕ) → k < i → get_or b k 0 ≡ 0x10 → ⊥) where
  at_tag : atoms_in b ≡ atoms_in (0x10 ∷ drop (i + 1) b)
  at_tag =
      let e : drop i b ≡ 0x10 ∷ drop (i + 1) b = rw (drop-cons b i 0 inside, tag, add-one i) in
      from_tag b i inside first ∙ ap atoms_in e

  -- what a slice from behind the tag shows
  abbrev behind : List ℕ
  behind = take (length b - (i + 1)) (drop (i + 1) b)

  shown : behind ≡ drop (i + 1) b
  shown = take_all (length b - (i + 1)) (drop (i + 1) b) (omega (arith, length-drop (i + 1) b))

  pub atom_met : {numbers rest : List ℕ} → numbers ≡ take 4 behind → rest ≡ drop 4 behind → length rest + 4 ≡ length behind
      → atoms_in b ≡ pair_in numbers ∷ atoms_in rest
  atom_met e f h = rw (e, f, shown) (at_tag ∙ front (drop (i + 1) b) (omega (arith, h, ap length shown)))

  pub atom_cut : length behind < 4 → atoms_in b ≡ []
  atom_cut h = at_tag ∙ short (0x10 ∷ drop (i + 1) b) (omega (arith, h, ap length shown))

-- no other node has an atom's byte
above : (s : Sort) → (0x10 < tag_of (a_not s)) × (0x10 < tag_of (a_default s)) × (0x10 < tag_of (an_and s)) × (0x10 < tag_of (an_or s))
above target = omega arith
above policy = omega arith

in_both : {r s : Sort} (t : Term r) (u : Term s) (k : ℕ) (more : List ℕ) → 0x10 < k
    → atoms_in (enc t ++ (enc u ++ more)) ≡ atoms t ++ atoms_in (enc u ++ more)
    → atoms_in (enc u ++ more) ≡ atoms u ++ atoms_in more
    → atoms_in (k ∷ (enc t ++ enc u) ++ more) ≡ (atoms t ++ atoms u) ++ atoms_in more
in_both t u k more h e f =
    past k ((enc t ++ enc u) ++ more) (λ e. omega arith)
    ∙ rw (append_assoc (enc t) (enc u) more, e, f, append_assoc (atoms t) (atoms u) (atoms_in more))

in_term : {s : Sort} (t : Term s) (more : List ℕ) → atoms_in (enc t ++ more) ≡ atoms t ++ atoms_in more
unfolding enc spell
in_term (atom n v) more =
    let a : n / 256 * 256 + n % 256 ≡ n = omega arith in
    let b : v / 256 * 256 + v % 256 ≡ v = omega arith in
    rw (a, b)
in_term deny more = past 0x20 more (λ e. omega arith)
in_term allow more = past 0x21 more (λ e. omega arith)
in_term (targeted t p) more = in_both t p 0x22 more (omega arith) (in_term t (enc p ++ more)) (in_term p more)
in_term (not {s = s} t) more = past (tag_of (a_not s)) (enc t ++ more) (λ e. omega (arith, (above s).0)) ∙ in_term t more
in_term (default {s = s} t) more = past (tag_of (a_default s)) (enc t ++ more) (λ e. omega (arith, (above s).1)) ∙ in_term t more
in_term (and {s = s} t u) more = in_both t u (tag_of (an_and s)) more (above s).2 (in_term t (enc u ++ more)) (in_term u more)
in_term (or {s = s} t u) more = in_both t u (tag_of (an_or s)) more (above s).3 (in_term t (enc u ++ more)) (in_term u more)

-- the bytes of a policy have its atoms
pub atoms_encoded : (p : Policy) → atoms_in (enc p) ≡ atoms p
atoms_encoded p = ap atoms_in (sym (append-nil (enc p))) ∙ (in_term p [] ∙ append-nil (atoms p))

pub ruleset atoms_laws = (atoms_encoded, atoms_127)
