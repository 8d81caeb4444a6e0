-- What is written of lent memory.
use Prim.Native.Nat.{ℕ, ◌+◌, ◌-◌, ◌≤◌}
use mathlib.Core.Path.{◌≡◌, ap, sym, subst, ◌∙◌}
use mathlib.Core.List.{List, ◌++◌, append_assoc}
use native.Mathlib.Omega.{arith}
use lib.ListN.{length, drop}
use Rattle.std.proofs.Common.{drop-drop}
use Rattle.text.specs.declared.output.Output.{Output}
use Rattle.text.specs.Written.{Appends, AppendsFew}

drop_more : (m n : ℕ) (s t : List ℕ) → m ≤ n → drop m s ≡ drop m t → drop n s ≡ drop n t
drop_more m n s t h e =
    let there : m + (n - m) ≡ n = omega (arith, h) in
    subst (λ k. drop k s ≡ drop k t) there (sym (drop-drop (n - m) m s) ∙ ap (drop (n - m)) e ∙ drop-drop (n - m) m t)

pub keeps_twice : {l m n : ℕ} (a b c : List ℕ) → (l ≤ m) × (drop m b ≡ drop m a) → (m ≤ n) × (drop n c ≡ drop n b) → (l ≤ n) × (drop n c ≡ drop n a)
keeps_twice {m = m} {n} a b c f g = (omega (arith, f.0, g.0), g.1 ∙ drop_more m n b a g.0 f.1)

-- twice, the first time in at most so many bytes
pub appends_twice : (most : ℕ) (a b c : Output) (xs ys : List ℕ) → AppendsFew most a b xs → Appends b c ys → AppendsFew (most + length ys) a c (xs ++ ys)
appends_twice most a b c xs ys f g =
    (g.0 ∙ ap (λ w. w ++ ys) f.0 ∙ append_assoc _ xs ys, omega (arith, f.1, g.1), g.2 ∙ f.2, keeps_twice _ _ _ f.3 g.3)
