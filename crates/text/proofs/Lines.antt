-- A line as a whole: what is read of it, and its end; and what reading and writing it leave in memory.
use Prim.Native.Nat.{ℕ, ◌+◌, ◌-◌, ◌/◌, ◌%◌, ◌≤◌}
use mathlib.Core.Path.{◌≡◌, refl, sym, ap, subst, ◌∙◌}
use mathlib.Core.Bool.{Bool, true, false, cond}
use mathlib.Core.List.{List, [], ◌∷◌, ◌++◌}
use native.Mathlib.Omega.{arith}
use lib.Dec.{ltb}
use lib.ListN.{length, take, drop}
use lib.Seq.{take_at}
use lib.ListN.{take-append-drop}
use Rattle.std.proofs.Common.{length-take-le}
use Rattle.ptacl.specs.Term.{policy, Policy}
use Rattle.files.specs.Encoding.{Bytes, bytes, enc, framed, policy_file}
use Rattle.files.specs.Refusal.{Read, accepted, refused}
use Rattle.files.specs.Memory.{put}
use Rattle.files.specs.Prefix.{Scan, done, fault, scan}
use Rattle.files.specs.ReadPolicy.{finish, read_policy}
use Rattle.files.specs.Reading.{◌>>=◌, read_map, told, Place}
use Rattle.files.proofs.PolicyExact.{policy_exact}
use Rattle.text.specs.Line.{line_feed, words, line}
use Rattle.text.specs.ReadText.{in_words, read_text}
use Rattle.text.specs.Faults.{ended_at}
use Rattle.text.specs.Converting.{behind}
use Rattle.text.specs.Held.{Holds}
use Rattle.text.proofs.TextExact.{text_exact}
use Rattle.text.proofs.Near.{line_short, file_short}

map_refused : {A B : Type 0} (f : A → B) (x : Read A) {n p : ℕ} → read_map f x ≡ refused n p → x ≡ refused n p
map_refused f (accepted a) e = cc
map_refused f (refused m q) e = cc

map_accepted : {A : Type 0} (f : A → List ℕ) (x : Read A) {y : List ℕ} → read_map f x ≡ accepted y → (a : A) × (x ≡ accepted a) × (f a ≡ y)
map_accepted f (accepted a) e = (a, refl, cc)
map_accepted f (refused m q) e = cc

-- what is told of the policy of a line, from what is told of its term
module _ {A : Type 0} (f : Policy → A) (s : List ℕ) where
  finished : (x : Scan Policy) → read_map f (finish 54 (length s) x)
      ≡ (told f x >>= λ y. ended_at (record { bytes = s; at = y.1; nodes = y.2 }) >>= λ u. accepted y.0)
  finished (done p next nodes) = go (ltb next (length s))
    where
      go : (c : Bool) → read_map f (cond c (refused 54 next) (accepted p)) ≡ (cond {A = Read (Unit {0})} c (refused 54 next) (accepted tt) >>= λ u. accepted (f p))
      go true = refl
      go false = refl
  finished (fault n p) = refl

  line_told : read_map f (read_text s)
      ≡ (told f (scan (in_words 255 s) 32 policy line_feed 0 0) >>= λ y. ended_at (record { bytes = s; at = y.1; nodes = y.2 }) >>= λ u. accepted y.0)
  unfolding read_text
  line_told = finished (scan (in_words 255 s) 32 policy line_feed 0 0)

-- by words that stood at the beginning, and have read the term
module _ {A : Type 0} (f : Policy → A) {s : List ℕ} {start : Place} (opened : start ≡ record { bytes = s; at = 0; nodes = 0 }) where
  abbrev term : Read (A × ℕ × ℕ)
  term = told f (scan (in_words 255 start.bytes) 32 policy line_feed start.at start.nodes)

  here : term ≡ told f (scan (in_words 255 s) 32 policy line_feed 0 0)
  here = rw opened

  pub line_refused : {n p : ℕ} → term ≡ refused n p → read_text s ≡ refused n p
  line_refused e = map_refused f (read_text s) (line_told f s ∙ rw (← here, e))

  module _ {last : Place} {x : A} (e : term ≡ accepted (x, last.at, last.nodes)) (same : last.bytes ≡ start.bytes) where
    there : read_map f (read_text s) ≡ (ended_at last >>= λ u. accepted x)
    there =
        let b : last.bytes ≡ s = same ∙ ap (λ p. p.bytes) opened in
        line_told f s ∙ rw (← here, e, b)

    pub line_exceeded : {n p : ℕ} → ended_at last ≡ refused n p → read_text s ≡ refused n p
    line_exceeded h = map_refused f (read_text s) (rw h at there)

    pub line_read : {u : Unit {0}} → ended_at last ≡ accepted u → read_map f (read_text s) ≡ accepted x
    line_read h = rw h at there

-- so many bytes of the memory, from its front on, are what is written of the policy
module _ (s : List ℕ) (n : ℕ) (inside : n ≤ length s) where
  front_length : {xs : List ℕ} → take n s ≡ xs → n ≡ length xs
  front_length e = sym (length-take-le n s inside) ∙ ap length e

  pub line_held : (w : List ℕ) → w ≡ [] → (file : List ℕ) → Bytes file → {after : List ℕ} → after ≡ s
      → read_map (behind words line_feed w) (read_policy file) ≡ accepted (take n s) → Holds line after (read_policy file) n
  unfolding behind line
  line_held w none file b kept e =
      let a = map_accepted (behind words line_feed []) (read_policy file)
      (subst (λ v. read_map (behind words line_feed v) (read_policy file) ≡ accepted (take n s)) none e) in
      let n_is : n ≡ length (line a.0) = front_length (sym a.2) in
      record {
        its = a.0;
        is = a.1;
        bytes = n_is;
        front = rw kept (sym a.2);
        few = omega (arith, line_short ((policy_exact file b a.0).0 a.1).fits, n_is);
      }

  -- the body of a file, behind the version and two bytes for its length
  module _ (w : List ℕ) (frame : w ≡ 1 ∷ 0 ∷ 0 ∷ []) (text : List ℕ) (e : read_map (behind bytes tt w) (read_text text) ≡ accepted (take n s)) where
    its : (p : Policy) × (read_text text ≡ accepted p) × (1 ∷ 0 ∷ 0 ∷ enc p ≡ take n s)
    unfolding behind enc
    its = map_accepted (behind bytes tt (1 ∷ 0 ∷ 0 ∷ [])) (read_text text)
        (subst (λ v. read_map (behind bytes tt v) (read_text text) ≡ accepted (take n s)) frame e)

    n_is : n ≡ 3 + length (enc its.0)
    n_is = front_length (sym its.2) ∙ omega arith

    file_fits : (3 ≤ n) × (n ≤ 4593)
    unfolding policy_file framed
    file_fits = (omega (arith, n_is), omega (arith, file_short ((text_exact text its.0).0 its.1).fits, n_is))

    framed_so : (h l : ℕ) → take n (put 1 (h ∷ l ∷ []) s) ≡ 1 ∷ h ∷ l ∷ enc its.0
    unfolding put
    framed_so h l =
        let parts : s ≡ 1 ∷ 0 ∷ 0 ∷ (enc its.0 ++ drop n s) = sym (take-append-drop n s) ∙ ap (λ z. z ++ drop n s) (sym its.2) in
        ap (λ z. take n (put 1 (h ∷ l ∷ []) z)) parts ∙ take_at (1 ∷ h ∷ l ∷ enc its.0) (drop n s) n (omega (arith, n_is))

    pub file_held : {after before : List ℕ} (h l : ℕ) → after ≡ put 1 (h ∷ l ∷ []) before → before ≡ s → h ≡ (n - 3) / 256 % 256 → l ≡ (n - 3) % 256
        → Holds policy_file after (read_text text) n
    unfolding policy_file framed
    file_held h l kept is high low =
        let few = file_fits in
        let m : n - 3 ≡ length (enc its.0) = omega (arith, n_is) in
        let high_is : h ≡ length (enc its.0) / 256 = omega (arith, few) in
        let low_is : l ≡ length (enc its.0) % 256 = omega arith in
        let front_is : 1 ∷ h ∷ l ∷ enc its.0 ≡ policy_file its.0 = rw (high_is, low_is) refl in
        record {
          its = its.0;
          is = its.1;
          bytes = omega (arith, n_is);
          front = ap (take n) (kept ∙ ap (put 1 (h ∷ l ∷ [])) is) ∙ (framed_so h l ∙ front_is);
          few = few.1;
        }

-- so of words that have read the whole text, as the body is written
pub line_fits : {s : List ℕ} {start last : Place} (opened : start ≡ record { bytes = s; at = 0; nodes = 0 }) (w : List ℕ) → w ≡ 1 ∷ 0 ∷ 0 ∷ []
    → (n : ℕ) (m : List ℕ) → n ≤ length m → term (behind bytes tt w) opened ≡ accepted (take n m, last.at, last.nodes) → last.bytes ≡ start.bytes
    → {u : Unit {0}} → ended_at last ≡ accepted u → (3 ≤ n) × (n ≤ 4593)
line_fits {s = s} opened w frame n m inside e same h = file_fits m n inside w frame s (line_read (behind bytes tt w) opened e same h)
