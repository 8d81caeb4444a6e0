-- How large the parts of a permitted answer are, way by way: each stands in its own bits of the word, and a refusal's number is above 0.
use Prim.Native.Nat.{ℕ, ◌^◌, ◌%◌, ◌-◌, ◌≤◌, ◌<◌}
use mathlib.Core.Path.{◌≡◌, refl, ap, ◌∙◌}
use mathlib.Core.Bool.{Bool, true, false, ◌&&◌}
use mathlib.Core.List.{List}
use native.Mathlib.Decide.{dec_lt}
use native.Mathlib.Omega.{arith}
use lib.Dec.{ltb}
use lib.Pow.{pow-lt}
use lib.ListN.{length, length-append, length-map}
use Rattle.ptacl.specs.Values.{Values, code}
use Rattle.ptacl.specs.Request.{Pair, Request}
use Rattle.ptacl.specs.Term.{Policy, nodes, atoms}
use Rattle.ptacl.specs.Meaning.{eval}
use Rattle.ptacl.specs.Pairs.{normal, IsNormal, packed}
use Rattle.ptacl.specs.Exposure.{subset, Exposure}
use Rattle.ptacl.specs.Rules.{Certified, Certificate, cert1, cert2, cert3, cert4, cert5, cert6, cert7, none, least}
use Rattle.ptacl.proofs.Bools.{and_left, and_right}
use Rattle.ptacl.proofs.Codes.{code_set, of_code}
use Rattle.ptacl.proofs.Pairs.{pairs_of, pairs_exist, pairs_254}
use Rattle.ptacl.proofs.Normal.{normal_unique}
use Rattle.ptacl.proofs.Subset.{mask, normal_subset}
use Rattle.ptacl.proofs.Exposed.{exposure_index}
use borrow.Author.Tests.{ltb-true, ltb-false}
use Rattle.files.specs.Encoding.{Bytes, request_file, IsPolicy, IsRequest}
use Rattle.files.proofs.Framing.{lent_bytes}
use Rattle.files.proofs.Memory.{request_length}
use Rattle.files.proofs.PolicyExact.{refused_place}
use Rattle.files.proofs.RequestExact.{request_refused_range}
use Rattle.text.specs.Line.{IsText}
use Rattle.text.proofs.Near.{line_short, file_short, text_refused}
use Rattle.search.specs.Found.{two_files, exposure_files}
use Rattle.search.proofs.Chosen.{subset_most, subset_less}
use Rattle.sinkheron.specs.Answer.{Answer, refusal, success, place, Promise}
use Rattle.sinkheron.specs.Ways.{OfPolicy, OfText, OfRequest, RefusedIf}
use Rattle.sinkheron.specs.Decide as D
use Rattle.sinkheron.specs.ListPairs as L
use Rattle.sinkheron.specs.Output.{Small}
use Rattle.sinkheron.specs.NormalForm as N
use Rattle.sinkheron.specs.ReadText as T
use Rattle.sinkheron.specs.WriteText as W
use Rattle.sinkheron.specs.Certify as C
use Rattle.sinkheron.specs.Search as S
use Rattle.sinkheron.proofs.Holds.{Holds, AllHold, reads_hold, the_holds, refused_if_holds, gives_holds}

-- a refusal's number and place; else values as they can be
abbrev pub Refused : ℕ → ℕ → Type 0
Refused n at = (0 < n) × (n < 256) × (at ≤ 65538)

abbrev pub Range : {A : Type 0} → (A → Type 0) → Answer A → Type 0
Range can x = Holds Refused can x

abbrev pub Ranged : {A M : Type 0} → (A → Type 0) → Promise A M → Type 0
Ranged can permits = AllHold Refused can permits

abbrev fair : ℕ → ℕ → Bool
fair n at = ltb 0 n && (ltb n 256 && ltb at 65539)

fair_refused : (n at : ℕ) → fair n at ≡ true → Refused n at
fair_refused n at h =
    let k = and_right (ltb 0 n) h in
    (ltb-true 0 n (and_left _ h), ltb-true n 256 (and_left _ k), omega (arith, ltb-true at 65539 (and_right (ltb n 256) k)))

module _ {A M : Type 0} {can : A → Type 0} where
  policy_ranged : {policy : List ℕ} {before : M} {follows : Policy → Promise A M}
      → Bytes policy → ((p : Policy) → IsPolicy policy p → Ranged can (follows p)) → Ranged can (OfPolicy policy before follows)
  policy_ranged b o = reads_hold (λ n at e. refused_place e b) o

  text_ranged : {text : List ℕ} {before : M} {follows : Policy → Promise A M}
      → ((p : Policy) → IsText text p → Ranged can (follows p)) → Ranged can (OfText text before follows)
  text_ranged {text} o = reads_hold (λ n at e. let r = text_refused text e in (r.0, r.1, omega (arith, r.2))) o

  request_ranged : {request : List ℕ} {before : M} {follows : Request → Promise A M}
      → ((q : Request) → IsRequest request q → Ranged can (follows q)) → Ranged can (OfRequest request before follows)
  request_ranged {request} o =
      reads_hold (λ n at e. let r = request_refused_range 21 request e in (omega (arith, r.0), omega (arith, r.1), omega (arith, r.2))) o

  refused_if_ranged : {test : Bool} {n at : ℕ} {before : M} {follows : Promise A M}
      → fair n at ≡ true → (test ≡ false → Ranged can follows) → Ranged can (RefusedIf test n at before follows)
  refused_if_ranged {n = n} {at = at} h o = refused_if_holds (fair_refused n at h) o

code_most : (s : Values) → code s ≤ 7
code_most s = let e : code s % 8 ≡ code s = of_code (λ k. k) (λ s. s) refl (code s) ∙ ap code (code_set s) in omega arith

pub decide_ranged : {s q : List ℕ} → Bytes s → Ranged (λ k. k ≤ 7) (D.Decides s q)
decide_ranged b = policy_ranged b (λ p f. request_ranged (λ q g. refused_if_ranged refl (λ e. gives_holds Refused (λ k. k ≤ 7) (code_most (eval p q)))))

pub list_pairs_ranged : {s before : List ℕ} → Bytes s → Ranged (λ k. k ≤ 254) (L.Lists s before)
list_pairs_ranged b = policy_ranged b (λ p f. the_holds (λ ps h. refused_if_ranged refl (λ e. gives_holds Refused (λ k. k ≤ 254) (omega (arith, length-map ps packed, pairs_254 p f.fits.few h)))))

rule_most : {k : ℕ} {p : Policy} → Certified k p → k ≤ 7
rule_most (cert1 h) = omega arith
rule_most (cert2 h) = omega arith
rule_most (cert3 h) = omega arith
rule_most (cert4 h) = omega arith
rule_most (cert5 h) = omega arith
rule_most (cert6 h k) = omega arith
rule_most (cert7 h k) = omega arith

number_most : {k : ℕ} {p : Policy} → Certificate p k → k ≤ 7
number_most (none n) = omega arith
number_most (least c l) = rule_most c

pub certify_ranged : {s : List ℕ} → Bytes s → Ranged (λ k. k ≤ 7) (C.Certifies s)
certify_ranged b = policy_ranged b (λ p f. the_holds (λ k c. gives_holds Refused (λ k. k ≤ 7) (number_most c)))

-- a normal form is within the policy's pairs
normal_254 : (p : Policy) → nodes p ≤ 255 → {q r : Request} → IsNormal (atoms p) q r → length r ≤ 254
normal_254 p few {q} h =
    let n = normal_subset (pairs_exist (atoms p)) q in
    let e = ap length (normal_unique h n) in
    omega (arith, e, subset_most (pairs_of (atoms p)) (mask (normal (atoms p) q) (pairs_of (atoms p))), pairs_254 p few (pairs_exist (atoms p)))

pub normal_form_ranged : {s q before : List ℕ} → Bytes s → Ranged (λ k. k ≤ 1019) (N.Normalises s q before)
normal_form_ranged b =
    policy_ranged b (λ p f. request_ranged (λ q g. the_holds (λ r h. refused_if_ranged refl (λ e.
    gives_holds Refused (λ k. k ≤ 1019) (omega (arith, request_length r, normal_254 p f.fits.few h))))))

-- a policy file, a line
pub read_text_ranged : {text before : List ℕ} → Ranged (λ k. k ≤ 4593) (T.ReadsText text before)
read_text_ranged = text_ranged (λ p f. refused_if_ranged refl (λ e. gives_holds Refused (λ k. k ≤ 4593) (file_short f.fits)))

pub write_text_ranged : {s before : List ℕ} → Bytes s → Ranged (λ k. k ≤ 4590) (W.WritesText s before)
write_text_ranged b = policy_ranged b (λ p f. refused_if_ranged refl (λ e. gives_holds Refused (λ k. k ≤ 4590) (line_short f.fits)))

-- a decision's place has room in its bits
pub place_small : (x : Answer ℕ) → Range (λ k. k ≤ 7) x → place x ≤ 65538
place_small (refusal n at) r = r.2
place_small (success k) r = omega arith

pub ruleset decision_laws = (lent_bytes, decide_ranged, place_small)

-- whatever was written, its length has room in its bits
pub output_small : (most : ℕ) → most ≤ 65535 → (x : Answer ℕ) → Range (λ k. k ≤ most) x → Small x
output_small most l (refusal n at) r = r.2
output_small most l (success k) r = omega arith

numbers_most : {m : ℕ} (k : ℕ) → m < 2 ^ k → k ≤ 16 → m < 65536
numbers_most k l h = elim (dec_lt k 16) [
  | yes s ↦ omega (arith, pow-lt s)
  | no n ↦ let e : k ≡ 16 = omega arith in omega (arith, ap (λ (j : ℕ). 2 ^ j) e)
]

-- two files of at most 16 pairs, of which the smaller lacks one
files_most : {p : Policy} {ps : List Pair} {m i : ℕ} → length ps ≤ 16 → Exposure p ps m i → length (exposure_files ps m i) ≤ 130
unfolding two_files
files_most {ps = ps} {m} {i} few e =
    let s = subset ps m in
    let r = subset ps (m - 2 ^ i) in
    let l = subset_less ps m i (exposure_index e) e.taken in
    let k = subset_most ps m in
    omega (arith, length-append (request_file r) (request_file s), request_length r, request_length s)

pub record Can (v : S.Values) : Type 0 where
  pub verdict : v.verdict < 2
  pub pairs : v.pairs ≤ 16
  pub bytes : v.bytes ≤ 130
  pub subset : v.subset < 65536
  pub hides : v.hides < 16

judges_ranged : {p : Policy} {ps : List Pair} {before : List ℕ} → length ps ≤ 16 → Ranged Can (S.Judges p ps before)
judges_ranged l _ _ (S.is_resistant r) = record { verdict = omega arith; pairs = l; bytes = omega arith; subset = omega arith; hides = omega arith }
judges_ranged {ps = ps} l _ _ (S.is_exposed {m} {i} h) =
    let j = exposure_index h.hit in
    let n : m < 65536 = numbers_most (length ps) h.hit.numbered l in
    record { verdict = omega arith; pairs = l; bytes = files_most l h.hit; subset = n; hides = omega arith }

pub search_ranged : {s before : List ℕ} → Bytes s → Ranged Can (S.Searches s before)
search_ranged b =
    policy_ranged b (λ p f. the_holds (λ ps h. refused_if_ranged refl (λ e. refused_if_ranged refl (λ d. judges_ranged (ltb-false 16 (length ps) e)))))
