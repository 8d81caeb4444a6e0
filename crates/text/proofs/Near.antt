-- How long what is written is, and how far into a text a refusal can be: at most 18 bytes for each node.
use Prim.Native.Nat.{ℕ, zero, suc, ◌+◌, ◌*◌, ◌-◌, ◌≤◌, ◌<◌}
use mathlib.Core.Path.{◌≡◌, refl, ap, subst}
use mathlib.Core.List.{List, ◌++◌}
use native.Mathlib.Omega.{arith}
use native.Mathlib.Numerals.{sub-one}
use lib.Dec.{ltb}
use lib.ListN.{length, length-append}
use Rattle.ptacl.specs.Request.{Pair}
use Rattle.ptacl.specs.Term.{Sort, policy, Term, Policy, Node, Shape, numbers, leaf, one, two, shape, nodes}
use Rattle.ptacl.proofs.Bools.{either}
use Rattle.ptacl.proofs.Shapes.{Case, by_shape}
use Rattle.files.specs.Encoding.{bytes, framed, enc, Fits, policy_file}
use Rattle.files.specs.Refusal.{Read, accepted, refused}
use Rattle.files.specs.Prefix.{Form, spell, Head, node, stop, Scan, done, fault, and_then, Reader, Subterms, below, body, scan}
use Rattle.files.specs.ReadPolicy.{finish}
use Rattle.files.proofs.Prefix.{Told, ToldPair, Adds, adds, scan_at}
use Rattle.text.specs.Words.{word}
use Rattle.text.specs.Line.{decimal, End, space, line_feed, ended, behind, words, line}
use Rattle.text.specs.ReadText.{in_words, head_at, pair_at, read_text}
use Rattle.text.proofs.Runs.{Off}
use Rattle.text.proofs.WordLaws.{word_short, ended_length, number_short, next_near, head_near, pair_near, word_laws}
use Rattle.text.proofs.TextExact.{text_faulty}

-- ---- how long

-- a mark takes 6 bytes at most, an atom's numbers 12
module _ {E : Type 0} (f : Form E) (mark : (s : Sort) (n : Node s) (e : E) → length (f.mark s n e) ≤ 6)
    (pair : (n v : ℕ) (e : E) → length (f.pair n v e) ≤ 12) where
  abbrev Short : (s : Sort) → Term s → Type 0
  Short s t = (e : E) → length (spell f e t) ≤ 18 * nodes t

  short : {s : Sort} (k : Node s) (g : Shape s) → Adds f k g → Case Short g
  short {s} k (numbers g) laws = λ n v e.
      let l = laws n v e in
      omega (arith, ap length l.0, l.1, length-append (f.mark s k e) (f.pair n v e), mark s k e, pair n v e)
  short {s} k (leaf t) laws = λ e. let l = laws e in omega (arith, ap length l.0, l.1, mark s k e)
  short {s} k (one g) laws = λ t h e.
      let l = laws t e in
      omega (arith, ap length l.0, l.1, length-append (f.mark s k e) (spell f e t), mark s k e, h e)
  short {s} k (two q g) laws = λ t u h i e.
      let l = laws t u e in
      let x = spell f f.between t in
      let y = spell f e u in
      omega (arith, ap length l.0, l.1, length-append (f.mark s k e) (x ++ y), length-append x y, mark s k e, h f.between, i e)

  pub spell_short : {s : Sort} (t : Term s) (e : E) → length (spell f e t) ≤ 18 * nodes t
  spell_short t = by_shape Short (λ s k. short k (shape k) (adds f k)) t

-- a node's word takes 6 bytes at most with what follows it, two numbers 12
pub mark_short : (s : Sort) (n : Node s) (e : End) → length (ended (word n) (behind (shape n) e)) ≤ 6
mark_short s n e = omega (arith, ended_length (word n) (behind (shape n) e), word_short n)

pub pair_short : (n v : ℕ) (e : End) → length (ended (decimal n) space ++ ended (decimal v) e) ≤ 12
pair_short n v e =
    let x = ended (decimal n) space in
    let y = ended (decimal v) e in
    omega (arith, length-append x y, number_short n space, number_short v e)

pub words_short : {s : Sort} (t : Term s) (e : End) → length (spell words e t) ≤ 18 * nodes t
words_short = spell_short words mark_short pair_short

pub bytes_short : {s : Sort} (t : Term s) (e : Unit {0}) → length (spell bytes e t) ≤ 18 * nodes t
bytes_short = spell_short bytes (λ s n e. omega arith) (λ n v e. omega arith)

-- so a line and a file are short
pub line_short : {p : Policy} → Fits p → length (line p) ≤ 4590
unfolding line
line_short {p} f = omega (arith, words_short p line_feed, f.few)

pub file_short : {p : Policy} → Fits p → length (policy_file p) ≤ 4593
unfolding policy_file framed enc
file_short {p} f = omega (arith, bytes_short p tt, f.few)

-- ---- how far

abbrev NearRead : Read Policy → Type 0
NearRead (accepted p) = Unit {0}
NearRead (refused number place) = place ≤ 4608

module _ (b : List ℕ) where
  -- a place behind so many nodes: at most 18 bytes for each
  record Close (at k : ℕ) : Type 0 where
    near : at ≤ 18 * k
    few : k ≤ 255
    inside : at ≤ length b

  abbrev Near : {A : Type 0} → Scan A → Type 0
  Near (done a next count) = Close next count
  Near (fault number place) = place ≤ 4608

  near_then : {A B : Type 0} (x : Scan A) (f : A → ℕ → ℕ → Scan B) → Near x
      → ((a : A) (next count : ℕ) → Close next count → Near (f a next count)) → Near (and_then x f)
  near_then (done a next count) f h g = g a next count h
  near_then (fault number place) f h g = h

  abbrev r : Reader End
  r = in_words 255 b

  -- behind the word of a node with k nodes before it
  module _ (e : End) {at k : ℕ} (c : at ≤ 18 * k + 6) (f : k < 255) (i : at ≤ length b) where
    close : Close at (k + 1)
    close = record { near = omega arith; few = omega arith; inside = i }

    near_pair : (x : Scan Pair) → ToldPair words 255 b (Off b (at + 11)) e at (k + 1) x → Near x
    near_pair (done x next count) w = record {
      near = omega (arith, next_near b (words.pair x.0 x.1 e) at w.bytes w.inside, pair_short x.0 x.1 e, w.counted);
      few = omega (arith, w.counted);
      inside = w.inside;
    }
    near_pair (fault number place) w = omega (arith, w.near)

    near_below : (sub : Subterms End) → ((s : Sort) (e : End) (at k : ℕ) → Close at k → Near (sub s e at k)) → {s : Sort} (g : Shape s)
        → Near (below r sub e at (k + 1) g)
    unfolding below
    near_below sub ih (numbers g) =
        let x = pair_at b e at (k + 1) in
        near_then x _ (near_pair x (pair_near 255 b e at (k + 1) i)) (λ x a m w. w)
    near_below sub ih (leaf t) = close
    near_below sub ih {s} (one g) = near_then (sub s e at (k + 1)) _ (ih s e at (k + 1) close) (λ t a m w. w)
    near_below sub ih {s} (two q g) = near_then (sub q space at (k + 1)) _ (ih q space at (k + 1) close)
        (λ t a m w. near_then (sub s e a m) _ (ih s e a m w) (λ u l n v. v))

  module _ (deep : ℕ) (ih : 1 ≤ deep → (s : Sort) (e : End) (at k : ℕ) → Close at k → Near (scan r (deep - 1) s e at k)) where
    near_body : (s : Sort) (e : End) (at k : ℕ) → Close at k → (h : Head s) → Told words 255 b (Off b (at + 5)) deep e at k h
        → Near (body r (scan r (deep - 1)) e k h)
    unfolding body
    near_body s e at k c (node n next) w =
        let l = next_near b (words.mark s n e) at w.bytes w.inside in
        near_below e (omega (arith, l, mark_short s n e, c.near)) w.few w.inside (scan r (deep - 1)) (ih w.shallow) (shape n)
    near_body s e at k c (stop number place) w = omega (arith, w.near, c.near, c.few)

    near_step : (s : Sort) (e : End) (at k : ℕ) → Close at k → Near (scan r deep s e at k)
    near_step s e at k c =
        let h = head_at 255 b s deep e at k in
        rw (scan_at r 255 b (word_laws 255 b) deep e at k h refl) (near_body s e at k c h (head_near 255 b s deep e at k))

  near_scan : (deep : ℕ) (s : Sort) (e : End) (at k : ℕ) → Close at k → Near (scan r deep s e at k)
  near_scan zero = near_step 0 (λ l. absurd (omega arith))
  near_scan (suc deep) = near_step (suc deep) (λ l. rw (sub-one (suc deep)) (near_scan deep))

  near_finish : (x : Scan Policy) → Near x → NearRead (finish 54 (length b) x)
  near_finish (fault number place) w = w
  near_finish (done p next count) w = either (ltb next (length b)) (λ e. rw e (omega (arith, w.near, w.few))) (λ e. rw e tt)

  near_read : NearRead (read_text b)
  unfolding read_text
  near_read =
      let c : Close 0 0 = record { near = omega arith; few = omega arith; inside = omega arith } in
      near_finish (scan r 32 policy line_feed 0 0) (near_scan 32 policy line_feed 0 0 c)

-- a refusal's number is a byte, and its place is in the bytes of the first 256 nodes, however long the text is
pub text_refused : (s : List ℕ) {n p : ℕ} → read_text s ≡ refused n p → (0 < n) × (n < 256) × (p ≤ 4608)
text_refused s e = let f = text_faulty s e in (f.low, f.high, subst NearRead e (near_read s))
