-- Each operation that reads a policy file tells by 15, and by 5, what the byte at the place is: these are refusals of the file alone.
use Prim.Native.Nat.{ℕ}
use mathlib.Core.Path.{◌≡◌, refl, ap, ◌∙◌}
use mathlib.Core.Bool.{false, ◌||◌}
use mathlib.Core.List.{List, map}
use native.Mathlib.Omega.{arith}
use lib.Dec.{eqb}
use borrow.Author.Tests.{eq-eqb}
use Rattle.ptacl.specs.Request.{Pair, Request}
use Rattle.ptacl.specs.Pairs.{packed}
use Rattle.ptacl.specs.Term.{Policy}
use Rattle.ptacl.proofs.Bools.{clash, or_left, or_right}
use Rattle.files.specs.Encoding.{Bytes, request_file}
use Rattle.files.specs.Refusal.{refused}
use Rattle.files.specs.Due.{Slip, Rubbish}
use Rattle.files.proofs.RequestExact.{request_refused_range}
use Rattle.files.proofs.Slips.{slip, rubbish}
use Rattle.text.specs.Line.{line}
use Rattle.sinkheron.specs.Answer.{Promise}
use Rattle.sinkheron.specs.Ways.{OfPolicy, OfRequest, Gives, Writes}
use Rattle.sinkheron.specs.Decide.{Decides}
use Rattle.sinkheron.specs.ListPairs.{Lists}
use Rattle.sinkheron.specs.NormalForm.{Normalises}
use Rattle.sinkheron.specs.Certify.{Certifies}
use Rattle.sinkheron.specs.Search.{Judges, Searches, is_resistant, is_exposed}
use Rattle.sinkheron.specs.WriteText.{WritesText}
use Rattle.sinkheron.specs.Told.{TellsByte}
use Rattle.sinkheron.proofs.Holds.{AllHold, reads_hold, the_holds, refused_if_holds, gives_holds}

abbrev Told : List ℕ → ℕ → ℕ → Type 0
Told policy n at = (n ≡ 15 → Slip policy at) × (n ≡ 5 → Rubbish policy at)

abbrev Tells : {A M : Type 0} → List ℕ → Promise A M → Type 0
Tells policy permits = AllHold (Told policy) (λ v. Unit {0}) permits

-- another refusal tells nothing of the file
aside : (policy : List ℕ) (n at : ℕ) → (eqb n 15 || eqb n 5) ≡ false → Told policy n at
aside policy n at h = (λ z. clash (or_left (eqb n 5) (eq-eqb n 15 z)) h, λ z. clash (or_right (eqb n 15) (eq-eqb n 5 z)) h)

module _ {A M : Type 0} (policy : List ℕ) where
  policy_tells : {before : M} {follows : Policy → Promise A M} → Bytes policy → ((p : Policy) → Tells policy (follows p))
      → TellsByte policy (OfPolicy policy before follows)
  policy_tells {before} {follows} b o = record { slip = λ d. (all _ _ d).0 refl; rubbish = λ d. (all _ _ d).1 refl }
    where
      all : Tells policy (OfPolicy policy before follows)
      all = reads_hold (λ n at e. (λ z. slip b (e ∙ ap (λ k. refused k at) z), λ z. rubbish b (e ∙ ap (λ k. refused k at) z))) (λ p f. o p)

  request_tells : {request : List ℕ} {before : M} {follows : Request → Promise A M} → ((q : Request) → Tells policy (follows q))
      → Tells policy (OfRequest request before follows)
  request_tells {request} o =
      reads_hold (λ n at e. let r = request_refused_range 21 request e in (λ z. absurd (omega (arith, r.0)), λ z. absurd (omega (arith, r.0)))) (λ q f. o q)

  gives_tells : {v : A} {after : M} → Tells policy (Gives v after)
  gives_tells = gives_holds (Told policy) (λ v. Unit {0}) tt

writes_tells : (policy xs before : List ℕ) → Tells policy (Writes xs before)
writes_tells policy xs before = refused_if_holds (aside policy 13 0 refl) (λ e. gives_tells policy)

judges_tells : {p : Policy} {ps : List Pair} {before : List ℕ} (policy : List ℕ) → Tells policy (Judges p ps before)
judges_tells policy _ _ (is_resistant r) = tt
judges_tells policy _ _ (is_exposed h) = tt

-- the theorems
module _ (policy : List ℕ) (b : Bytes policy) where
  pub decide_tells : (request : List ℕ) → TellsByte policy (Decides policy request)
  decide_tells request = policy_tells policy b (λ p. request_tells policy (λ q. refused_if_holds (aside policy 14 0 refl) (λ e. gives_tells policy)))

  pub list_pairs_tells : (before : List ℕ) → TellsByte policy (Lists policy before)
  list_pairs_tells before = policy_tells policy b (λ p. the_holds (λ ps h. writes_tells policy (map packed ps) before))

  pub normal_form_tells : (request before : List ℕ) → TellsByte policy (Normalises policy request before)
  normal_form_tells request before =
      policy_tells policy b (λ p. request_tells policy (λ q. the_holds (λ r h. writes_tells policy (request_file r) before)))

  pub certify_tells : TellsByte policy (Certifies policy)
  certify_tells = policy_tells policy b (λ p. the_holds (λ k c. gives_tells policy))

  pub search_tells : (before : List ℕ) → TellsByte policy (Searches policy before)
  search_tells before =
      policy_tells policy b (λ p. the_holds (λ ps h.
      refused_if_holds (aside policy 12 0 refl) (λ d. refused_if_holds (aside policy 13 0 refl) (λ e. judges_tells policy))))

  pub write_text_tells : (before : List ℕ) → TellsByte policy (WritesText policy before)
  write_text_tells before = policy_tells policy b (λ p. writes_tells policy (line p) before)
