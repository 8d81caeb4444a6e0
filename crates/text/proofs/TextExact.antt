-- Reading a line accepts exactly the lines of policies within the limits; a line has one reading; a refusal has a number and a place.
use Prim.Native.Nat.{ℕ}
use mathlib.Core.Path.{◌≡◌, sym, ap, subst, ◌∙◌}
use mathlib.Core.Logic.{◌↔◌}
use mathlib.Core.List.{List, [], append-nil}
use native.Mathlib.Omega.{arith}
use lib.ListN.{length}
use borrow.Author.Tests.{le-ltb}
use Rattle.ptacl.specs.Term.{policy, Policy, nodes}
use Rattle.files.specs.Encoding.{Fits}
use Rattle.files.specs.Refusal.{Read, accepted, refused}
use Rattle.files.specs.Places.{At}
use Rattle.files.specs.Prefix.{spell, scan}
use Rattle.files.specs.ReadPolicy.{finish}
use Rattle.files.proofs.Framing.{Gives}
use Rattle.files.proofs.Refused.{IsRefusal, no_such}
use Rattle.files.proofs.Prefix.{complete, good, finished}
use Rattle.text.specs.Line.{line_feed, words, line, IsText}
use Rattle.text.specs.ReadText.{in_words, read_text}
use Rattle.text.proofs.WordLaws.{Faulty, word_laws, pairs_told}

-- the line of a policy within the limits is read as it
pub read_line : (p : Policy) → Fits p → read_text (line p) ≡ accepted p
unfolding read_text line
read_line p f =
    let s = line p in
    let h : At s 0 (line p) = record { rest = []; split = sym (append-nil s) } in
    ap (finish 54 (length s))
    (complete (in_words 255 s) 255 s (word_laws 255 s) p 32 line_feed 0 0 (length s) (nodes p) h f.range f.shallow
    (omega (arith, f.few)) (omega arith) (omega arith))
    ∙ simp (le-ltb (length s) (length s) (omega arith))

pub text_reads : {s : List ℕ} {p : Policy} → IsText s p → read_text s ≡ accepted p
text_reads {p = p} t = ap read_text t.text ∙ read_line p t.fits

-- what reading may give
module _ (s : List ℕ) where
  is_text : (x : Read Policy) → Gives (λ p. (s ≡ spell words line_feed p) × Fits p) (Faulty s) x → Gives (IsText s) (Faulty s) x
  unfolding line
  is_text (accepted p) g = record { text = g.0; fits = g.1 }
  is_text (refused number place) g = g

  gives : Gives (IsText s) (Faulty s) (read_text s)
  unfolding read_text
  gives =
      let r = in_words 255 s in
      let w = word_laws 255 s in
      let x = scan r 32 policy line_feed 0 0 in
      is_text (finish 54 (length s) x)
      (finished r 255 s w 54 (λ place i. record { low = omega arith; high = omega arith; within = i }) (omega arith) line_feed 0 x
      (good r 255 s w (pairs_told 255 s) 32 policy line_feed 0 0 (omega arith)))

-- the theorem: a text is accepted with p exactly if it is the line of p, which is within the limits
pub text_exact : (s : List ℕ) (p : Policy) → (read_text s ≡ accepted p) ↔ IsText s p
text_exact s p = ((λ e. subst (Gives (IsText s) (Faulty s)) e (gives s)), text_reads)

-- and it is refused exactly if there is no such p
pub text_refused_iff : (s : List ℕ) → IsRefusal (read_text s) ↔ ((p : Policy) → IsText s p → ⊥)
text_refused_iff s = no_such (read_text s) (text_exact s)

-- a refusal's number, and its place in the text
pub text_faulty : (s : List ℕ) {n p : ℕ} → read_text s ≡ refused n p → Faulty s n p
text_faulty s e = subst (Gives (IsText s) (Faulty s)) e (gives s)

-- a line has one reading
pub line_one : {s : List ℕ} {p r : Policy} → IsText s p → IsText s r → p ≡ r
line_one {p = p} {r = r} t u = same (sym (text_reads t) ∙ text_reads u)
  where
    same : accepted p ≡ accepted r → p ≡ r
    same e = cc
