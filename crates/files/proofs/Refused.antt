-- A file is refused exactly if there is no policy, or no request, within the limits whose file it is.
use Prim.Native.Nat.{ℕ}
use mathlib.Core.Path.{◌≡◌, refl}
use mathlib.Core.Bool.{true≢false}
use mathlib.Core.Logic.{◌↔◌}
use mathlib.Core.List.{List}
use Rattle.ptacl.specs.Request.{Request}
use Rattle.ptacl.specs.Term.{Policy}
use Rattle.files.specs.Encoding.{Bytes, IsPolicy, IsRequest}
use Rattle.files.specs.Refusal.{Read, accepted, refused}
use Rattle.files.specs.ReadPolicy.{read_policy}
use Rattle.files.specs.ReadRequest.{read_request}
use Rattle.files.proofs.PolicyExact.{policy_exact}
use Rattle.files.proofs.RequestExact.{request_exact}

-- what is read is a refusal
abbrev pub IsRefusal : {A : Type 0} → Read A → Type 0
IsRefusal x = (n : ℕ) × (at : ℕ) × (x ≡ refused n at)

-- of any reading that is exact
pub no_such : {A : Type 0} {IsFile : A → Type 0} (x : Read A) → ((a : A) → (x ≡ accepted a) ↔ IsFile a) → IsRefusal x ↔ ((a : A) → IsFile a → ⊥)
no_such (accepted a) exact = (λ r. let e = r.2 in absurd (true≢false cc), λ none. absurd (none a ((exact a).0 refl)))
no_such (refused n at) exact = (λ r a f. let e = (exact a).1 f in absurd (true≢false cc), λ none. (n, at, refl))

pub policy_refused_iff : (s : List ℕ) → Bytes s → IsRefusal (read_policy s) ↔ ((p : Policy) → IsPolicy s p → ⊥)
policy_refused_iff s b = no_such (read_policy s) (policy_exact s b)

pub request_refused_iff : (s : List ℕ) → Bytes s → IsRefusal (read_request s) ↔ ((q : Request) → IsRequest s q → ⊥)
request_refused_iff s b = no_such (read_request s) (request_exact 21 s b)
