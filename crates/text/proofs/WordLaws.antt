-- Words are read as they are written, and what is read was written: what reading in prefix order asks of a form.
use Prim.Native.Nat.{ℕ, ◌+◌, ◌≤◌, ◌<◌}
use mathlib.Core.Path.{◌≡◌, refl, sym, ap, subst, ◌∙◌}
use mathlib.Core.Bool.{true}
use mathlib.Core.List.{List, [], ◌∷◌, ◌++◌, append_assoc}
use native.Mathlib.Omega.{arith}
use lib.Dec.{ltb}
use lib.ListN.{length, drop, length-drop, length-append}
use borrow.Author.Tests.{ltb-true, ltb-false, lt-ltb}
use Rattle.ptacl.specs.Request.{Pair}
use Rattle.ptacl.specs.Term.{Sort, target, policy, Node, an_atom, a_deny, an_allow, a_targeted, a_not, a_default, an_and, an_or, shape}
use Rattle.ptacl.proofs.Bools.{either}
use Rattle.ptacl.proofs.Finite.{at_node}
use Rattle.files.specs.Encoding.{InRange}
use Rattle.files.specs.Refusal.{Read, accepted, refused}
use Rattle.files.specs.Places.{At}
use Rattle.files.specs.Prefix.{Head, node, stop, Scan, done, fault}
use Rattle.files.specs.ReadPolicy.{tag, nodes_of}
use Rattle.files.proofs.Places.{room, left, right}
use Rattle.files.proofs.Prefix.{Told, ToldPair, Lawful, PairsTold}
use Rattle.files.proofs.SingleByte.{found, OfNode}
use Rattle.files.proofs.PolicySteps.{limits_are, tagged_told}
use Rattle.text.specs.Words.{word}
use Rattle.text.specs.Line.{decimal, End, space, byte_of, ended, behind, words}
use Rattle.text.specs.ReadText.{run, run_at, same, word_at, past, opened, head_at}
use Rattle.text.specs.ReadText.{value, is_number, numbered, number_at, then_number, pair_at, in_words}
use Rattle.text.proofs.Runs.{plain, run_plain, run_at_splits, same_true, past_reads, Passed, Off, off, farther, ToldPast, past_told}
use Rattle.text.proofs.Decimal.{digits_plain, digits_short, value_decimal, decimal_number, number_told}
pub use Rattle.text.proofs.Runs.{Faulty}

-- ---- the twelve words

-- each is known, no byte of it ends a run, and it has at most five
pub word_known : {s : Sort} (n : Node s) → word_at s (word n) ≡ tag n
unfolding word_at
word_known an_atom = refl
word_known a_deny = refl
word_known an_allow = refl
word_known a_targeted = refl
word_known (a_not target) = refl
word_known (a_not policy) = refl
word_known (a_default target) = refl
word_known (a_default policy) = refl
word_known (an_and target) = refl
word_known (an_and policy) = refl
word_known (an_or target) = refl
word_known (an_or policy) = refl

pub word_plain : {s : Sort} (n : Node s) → plain (word n) ≡ true
word_plain n = at_node (λ s n. plain (word n)) refl n

pub word_short : {s : Sort} (n : Node s) → length (word n) ≤ 5
word_short n = omega (arith, ltb-true (length (word n)) 6 (at_node (λ s n. ltb (length (word n)) 6) refl n))

-- a run that is known is the node's word
pub word_found : {s : Sort} (w : List ℕ) (n : Node s) → word_at s w ≡ tag n → w ≡ word n
unfolding word_at
word_found {s} w n e = subst (OfNode (λ r n. w ≡ word n)) e
    (found (OfNode (λ r n. w ≡ word n)) (λ n. same w (word n)) (nodes_of s) (λ n. same_true w (word n)) tt)

-- ---- a run, with what follows it

pub ended_length : (w : List ℕ) (e : End) → length (ended w e) ≡ length w + 1
unfolding ended
ended_length w e = length-append w (byte_of e ∷ [])

module _ {b : List ℕ} {at : ℕ} (w : List ℕ) (e : End) (h : At b at (ended w e)) where
  last : At b (at + length w) (byte_of e ∷ [])
  unfolding ended
  last = right w (byte_of e ∷ []) h

  ended_run : plain w ≡ true → run_at b at ≡ w
  unfolding ended
  ended_run p = ap run (h.split ∙ append_assoc w (byte_of e ∷ []) h.rest) ∙ run_plain w e h.rest p

  ended_past : past b e (at + length w) ≡ accepted (at + length (ended w e))
  ended_past = past_reads e last ∙ ap (λ (m : ℕ). accepted m) (omega (arith, ended_length w e))

-- what stands there ends no farther than it is long
pub next_near : (b xs : List ℕ) (at : ℕ) {next : ℕ} → drop at b ≡ xs ++ drop next b → next ≤ length b → next ≤ at + length xs
next_near b xs at {next} e i = omega (arith, ap length e, length-append xs (drop next b), length-drop at b, length-drop next b)

-- a run that was read, and what follows it, as they stand
ended_at : {b : List ℕ} {e : End} (at : ℕ) {next : ℕ} {w : List ℕ} → run_at b at ≡ w → Passed b e (at + length w) next
    → drop at b ≡ ended w e ++ drop next b
unfolding ended
ended_at {b} {e} at {next} {w} r p =
    run_at_splits b at ∙ rw r (ap (λ (z : List ℕ). w ++ z) p.bytes) ∙ sym (append_assoc w (byte_of e ∷ []) (drop next b))

pub number_short : (n : ℕ) (e : End) → length (ended (decimal n) e) ≤ 6
number_short n e = omega (arith, ended_length (decimal n) e, digits_short 5 n)

-- ---- a number where one is due

module _ (b : List ℕ) where
  number_reads : (n : ℕ) (e : End) (at : ℕ) → n < 65536 → At b at (ended (decimal n) e)
      → number_at b e at ≡ accepted (n, at + length (ended (decimal n) e))
  unfolding number_at
  number_reads n e at l h =
      rw (ended_run (decimal n) e h (digits_plain 5 n), decimal_number n l, ended_past (decimal n) e h, value_decimal n l)

  pub record InsideNumber (e : End) (at n next : ℕ) : Type 0 where
    pub bytes : drop at b ≡ ended (decimal n) e ++ drop next b
    pub inside : next ≤ length b
    pub few : n < 65536

  abbrev pub ToldNumber : (e : End) (at : ℕ) → Read (ℕ × ℕ) → Type 0
  ToldNumber e at (accepted x) = InsideNumber e at x.0 x.1
  ToldNumber e at (refused number place) = Off b (at + 5) number place

  pub number_near : (e : End) (at : ℕ) → at ≤ length b → ToldNumber e at (number_at b e at)
  unfolding number_at
  number_near e at i = either (is_number (run_at b at))
      (λ t. rw t (pass t (past b e (at + length (run_at b at))) (past_told b e (at + length (run_at b at)))))
      (λ t. rw t (off (omega arith) (omega arith) i (omega arith)))
    where
      pass : is_number (run_at b at) ≡ true → (x : Read ℕ) → ToldPast b e (at + length (run_at b at)) x
          → ToldNumber e at (numbered (value 0 (run_at b at)) x)
      pass t (accepted next) w =
          let m = number_told (run_at b at) t in
          record {
            bytes = ended_at at refl w ∙ ap (λ (z : List ℕ). ended z e ++ drop next b) m.is;
            inside = w.inside;
            few = m.few;
          }
      pass t (refused number place) w =
          let m = number_told (run_at b at) t in
          farther (omega (arith, ap length m.is, digits_short 5 (value 0 (run_at b at)))) w

range_parts : (xs ys : List Pair) → InRange (xs ++ ys) → InRange xs × InRange ys
unfolding InRange
range_parts [] ys f = (tt, f)
range_parts (x ∷ xs) ys f = let g = range_parts xs ys f.2 in ((f.0, f.1, g.0), g.1)

module _ (most : ℕ) (b : List ℕ) where
  -- ---- a word where a node is due

  head_reads : (s : Sort) (n : Node s) (deep : ℕ) (e : End) (at k : ℕ) → At b at (ended (word n) (behind (shape n) e)) → 1 ≤ deep → k < most
      → head_at most b s deep e at k ≡ node n (at + length (ended (word n) (behind (shape n) e)))
  unfolding head_at
  head_reads s n deep e at k h l m =
      let f = behind (shape n) e in
      let i : at < length b = omega (arith, room (last (word n) f h)) in
      rw (lt-ltb at (length b) i, ended_run (word n) f h (word_plain n), word_known n, limits_are l m, ended_past (word n) f h)

  -- a node as it was written; or a refusal, no farther than the end of a word
  pub head_near : (s : Sort) (deep : ℕ) (e : End) (at k : ℕ) → Told words most b (Off b (at + 5)) deep e at k (head_at most b s deep e at k)
  unfolding head_at
  head_near s deep e at k = either (ltb at (length b))
      (λ t. let i = ltb-true at (length b) t in rw t
      (tagged_told (Told words most b (Off b (at + 5)) deep e at k) most deep k (word_at s (run_at b at))
      (λ n q. off (omega arith) (omega arith) (omega arith) (omega arith))
      (λ q. off (omega arith) (omega arith) (omega arith) (omega arith))
      (λ l f g. off (omega arith) (omega arith) (omega arith) (omega arith))
      (λ n q d f. pass n (word_found (run_at b at) n q) d f (past b (behind (shape n) e) (at + length (run_at b at)))
      (past_told b (behind (shape n) e) (at + length (run_at b at))))))
      (λ t. let i = ltb-false at (length b) t in
      rw t (off (omega arith) (omega arith) (omega arith) (omega arith)))
    where
      pass : (n : Node s) → run_at b at ≡ word n → 1 ≤ deep → k < most
          → (x : Read ℕ) → ToldPast b (behind (shape n) e) (at + length (run_at b at)) x → Told words most b (Off b (at + 5)) deep e at k (opened n x)
      pass n r d f (accepted next) w = record { bytes = ended_at at r (rw r at w); inside = w.inside; shallow = d; few = f }
      pass n r d f (refused number place) w = farther (omega (arith, ap length r, word_short n)) w

  told : (s : Sort) (deep : ℕ) (e : End) (at k : ℕ) (x : Head s) → Told words most b (Off b (at + 5)) deep e at k x
      → Told words most b (Faulty b) deep e at k x
  told s deep e at k (node n next) w = w
  told s deep e at k (stop number place) w = w.faulty

  head_told : (s : Sort) (deep : ℕ) (e : End) (at k : ℕ) → Told words most b (Faulty b) deep e at k (head_at most b s deep e at k)
  head_told s deep e at k = told s deep e at k (head_at most b s deep e at k) (head_near s deep e at k)

  -- ---- an atom's numbers

  pair_reads : (n v : ℕ) (e : End) (at k : ℕ) → InRange ((n, v) ∷ []) → At b at (ended (decimal n) space ++ ended (decimal v) e)
      → pair_at b e at k ≡ done (n, v) (at + length (ended (decimal n) space ++ ended (decimal v) e)) k
  unfolding pair_at InRange
  pair_reads n v e at k f h =
      let x = ended (decimal n) space in
      let y = ended (decimal v) e in
      rw (number_reads b n space at f.0 (left x y h), number_reads b v e (at + length x) f.1 (right x y h))
      (ap (λ (z : ℕ). done (n, v) z k) (omega (arith, length-append x y)))

  -- both as they were written; or a refusal, no farther than the end of the second
  pub pair_near : (e : End) (at k : ℕ) → at ≤ length b → ToldPair words most b (Off b (at + 11)) e at k (pair_at b e at k)
  unfolding pair_at InRange
  pair_near e at k i = first (number_at b space at) (number_near b space at i)
    where
      second : (n a : ℕ) → InsideNumber b space at n a → (y : Read (ℕ × ℕ)) → ToldNumber b e a y
          → ToldPair words most b (Off b (at + 11)) e at k (then_number y (λ v c. done (n, v) c k))
      second n a g (accepted y) h = record {
        bytes = g.bytes ∙ ap (λ (z : List ℕ). ended (decimal n) space ++ z) h.bytes
            ∙ sym (append_assoc (ended (decimal n) space) (ended (decimal y.0) e) (drop y.1 b));
        inside = h.inside;
        counted = refl;
        range = (g.few, h.few, tt);
      }
      second n a g (refused number place) h =
          let l = next_near b (ended (decimal n) space) at g.bytes g.inside in
          farther (omega (arith, l, number_short n space)) h

      first : (x : Read (ℕ × ℕ)) → ToldNumber b space at x
          → ToldPair words most b (Off b (at + 11)) e at k (then_number x (λ n a. then_number (number_at b e a) (λ v c. done (n, v) c k)))
      first (accepted x) g = second x.0 x.1 g (number_at b e x.1) (number_near b e x.1 g.inside)
      first (refused number place) g = farther (omega arith) g

  paired : (e : End) (at k : ℕ) (x : Scan Pair) → ToldPair words most b (Off b (at + 11)) e at k x → ToldPair words most b (Faulty b) e at k x
  paired e at k (done x next count) w = w
  paired e at k (fault number place) w = w.faulty

  -- ---- the laws

  pub word_laws : Lawful (in_words most b) most b InRange (Faulty b)
  word_laws = record { parts = range_parts; head_reads = head_reads; pair_reads = pair_reads; head_told = head_told }

  pub pairs_told : PairsTold (in_words most b) most b (Faulty b)
  pairs_told e at k i = paired e at k (pair_at b e at k) (pair_near e at k i)
