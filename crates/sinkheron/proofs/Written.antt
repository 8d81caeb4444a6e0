-- What was answered and written, by what the code has: the set's code, the list of the pairs, the file of the normal form, the verdict.
use Prim.Native.Nat.{ℕ, ◌+◌, ◌*◌, ◌<◌, ◌≤◌}
use mathlib.Core.Path.{◌≡◌, sym, ap, ◌∙◌}
use mathlib.Core.Bool.{Bool}
use mathlib.Core.List.{List, map}
use native.Mathlib.Omega.{arith}
use lib.Dec.{eqb, ltb}
use lib.ListN.{length, get_or, length-map}
use mir.Syntax.{w8}
use mir.Val.{Fits}
use borrow.Author.Tests.{eq-eqb, ne_eqb, lt-ltb, le-ltb}
use Rattle.std.specs.Prelude.{Some, None}
use Rattle.ptacl.specs.Request.{Pair, Request}
use Rattle.ptacl.specs.Term.{Policy, atoms}
use Rattle.ptacl.specs.Pairs.{IsPairs, IsNormal, packed}
use Rattle.ptacl.specs.Rules.{certificate}
use Rattle.ptacl.specs.Values.{is_empty, code}
use Rattle.ptacl.specs.Meaning.{eval}
use Rattle.ptacl.proofs.Cert.{certificate_is}
use Rattle.ptacl.proofs.Codes.{empty_code}
use Rattle.ptacl.proofs.Exposed.{resistant_iff}
use Rattle.files.specs.Encoding.{request_file}
use Rattle.files.specs.Memory.{over}
use Rattle.files.specs.Refusal.{accepted}
use Rattle.files.specs.ReadPolicy.{read_policy}
use Rattle.files.specs.ReadRequest.{read_request}
use Rattle.files.specs.Reading.{read_map}
use Rattle.files.specs.Tags.{pair_of}
use Rattle.files.specs.declared.pair.Pair.{Pair as PairC}
use Rattle.files.proofs.Memory.{request_length, put_front}
use Rattle.search.specs.Found.{Found, none, first}
use Rattle.search.specs.declared.Exposed.{Exposed}
use Rattle.sinkheron.specs.Answer.{Answer, refusal, success}
use Rattle.sinkheron.specs.Ways.{RefusedIf, Gives, The, Writes, the, stops, passes, gives}
use Rattle.sinkheron.specs.Decide as D
use Rattle.sinkheron.specs.Certify as C
use Rattle.sinkheron.specs.Search as S
use Rattle.sinkheron.proofs.Taken.{request_taken, told_taken}

-- the answer for a code
pub empty_refused : {k : ℕ} → k ≡ 0 → D.OfSet k (refusal 14 0) tt
empty_refused e = stops (eq-eqb _ 0 e)

pub set_given : {k : ℕ} → (k ≡ 0 → ⊥) → D.OfSet k (success k) tt
set_given n = passes (ne_eqb _ 0 n) gives

of_set : {test : Bool} {k n : ℕ} {x : Answer ℕ} → test ≡ eqb k 0 → k ≡ n → D.OfSet k x (tt {0}) → RefusedIf test 14 0 (tt {0}) (Gives n tt) x tt
of_set t e h = rw (t, ← e) h

-- for the code of the policy's set at the request
pub set_answers : (p : Policy) (q : Request) {k : ℕ} {x : Answer ℕ} → k ≡ code (eval p q) → D.OfSet k x tt
    → RefusedIf (is_empty (eval p q)) 14 0 (tt {0}) (Gives (code (eval p q)) tt) x tt
set_answers p q e h = of_set (empty_code (eval p q) ∙ ap (λ n. eqb n 0) (sym e)) e h

pub evaluated : {s t : List ℕ} → ((i : ℕ) → Fits w8 (get_or s i 0)) → ((i : ℕ) → Fits w8 (get_or t i 0)) → (f : Policy → ℕ) {q : Request} {k : ℕ}
    {x : Answer ℕ} → read_map f (read_policy s) ≡ accepted k → ((p : Policy) → f p ≡ code (eval p q)) → read_request t ≡ accepted q → D.OfSet k x tt
    → D.Decides s t x tt
evaluated b d f e l r h = told_taken b f e (λ p i. request_taken d r (set_answers p _ (sym i ∙ l p) h))

-- the certificate of the policy that was read
pub rule_answers : {s : List ℕ} {k : ℕ} → ((i : ℕ) → Fits w8 (get_or s i 0)) → read_map certificate (read_policy s) ≡ accepted k
    → C.Certifies s (success k) tt
rule_answers b e = told_taken b certificate e (λ p i. rw (← i) (the (certificate_is p) gives))

-- what fits is written whole, or else 13
pub too_long : (xs before : List ℕ) → length before < length xs → Writes xs before (refusal 13 0) before
too_long xs before l = stops (lt-ltb _ _ l)

pub written : (xs before : List ℕ) {after : List ℕ} {n : ℕ} → length xs ≤ length before → n ≡ length xs → after ≡ over xs before → Writes xs before (success n) after
written xs before l i e = rw (i, e) (passes (le-ltb _ _ l) gives)

-- the list of the pairs
module _ {ats : List Pair} (ps : List PairC) (h : IsPairs ats (map pair_of ps)) (before : List ℕ) where
  listed : length (map packed (map pair_of ps)) ≡ length ps
  listed = length-map (map pair_of ps) packed ∙ length-map ps pair_of

  pub list_too_long : length before < length ps → The (IsPairs ats) (λ ps. Writes (map packed ps) before) (refusal 13 0) before
  list_too_long l = the h (too_long _ before (omega (arith, listed)))

  pub list_written : {after : List ℕ} → length ps ≤ length before → after ≡ over (map packed (map pair_of ps)) before
      → The (IsPairs ats) (λ ps. Writes (map packed ps) before) (success (length ps)) after
  list_written l e = the h (written _ before (omega (arith, listed)) (sym listed) e)

-- the file of the normal form
module _ {ats : List Pair} {q : Request} (ps : List PairC) (h : IsNormal ats q (map pair_of ps)) (before : List ℕ) where
  formed : length (request_file (map pair_of ps)) ≡ 3 + 4 * length ps
  formed = omega (arith, request_length (map pair_of ps), length-map ps pair_of)

  pub form_too_long : length before < 3 + 4 * length ps → The (IsNormal ats q) (λ r. Writes (request_file r) before) (refusal 13 0) before
  form_too_long l = the h (too_long _ before (omega (arith, formed)))

  pub form_written : {after : List ℕ} {n : ℕ} → 3 + 4 * length ps ≤ length before → n ≡ 3 + 4 * length ps
      → after ≡ over (request_file (map pair_of ps)) before → The (IsNormal ats q) (λ r. Writes (request_file r) before) (success n) after
  form_written l i e = the h (written _ before (omega (arith, formed)) (omega (arith, formed, i)) e)

-- the verdict
module _ (p : Policy) (ps : List PairC) (h : IsPairs (atoms p) (map pair_of ps)) (before : List ℕ) where
  abbrev Tested : Answer S.Values → List ℕ → Type 0
  Tested = The (IsPairs (atoms p)) (λ ps. RefusedIf (ltb 16 (length ps)) 12 0 before (RefusedIf (ltb (length before) 130) 13 0 before (S.Judges p ps before)))

  searched : length (map pair_of ps) ≡ length ps
  searched = length-map ps pair_of

  pub too_many : 16 < length ps → Tested (refusal 12 0) before
  too_many l = the h (stops (lt-ltb _ _ (omega (arith, searched))))

  module _ (few : length ps ≤ 16) where
    pub no_room : length before < 130 → Tested (refusal 13 0) before
    no_room l = the h (passes (le-ltb _ _ (omega (arith, searched))) (stops (lt-ltb _ _ l)))

    module _ (room : 130 ≤ length before) where
      judged : {x : Answer S.Values} {after : List ℕ} → S.Judges p (map pair_of ps) before x after → Tested x after
      judged j = the h (passes (le-ltb _ _ (omega (arith, searched))) (passes (le-ltb _ _ room) j))

      pub found_none : {after : List ℕ} → Found p (map pair_of ps) before None after → Tested (S.resistant (length ps)) after
      found_none (none n) = rw (← searched) (judged (S.is_resistant ((resistant_iff h).0 n)))

      pub found_first : {found : Exposed} {after : List ℕ} → Found p (map pair_of ps) before (Some found) after
          → Tested (S.exposed (length ps) found.m found.i found.bytes) after
      found_first (first y) = rw (← searched) (judged (S.is_exposed y))

pub ruleset memory_laws = (put_front, too_long, written)

pub ruleset code_laws = (empty_refused, set_given)

pub ruleset decide_laws = (set_answers, evaluated)

pub ruleset list_laws = (list_too_long, list_written)

pub ruleset form_laws = (form_too_long, form_written)

pub ruleset search_laws = (too_many, no_room, found_none, found_first)
