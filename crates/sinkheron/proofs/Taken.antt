-- From what a call of an operation gave, as its contract says it, to the operation's promise: a refusal handed on by `?`, or what a
-- file was read as.
use Prim.Native.Nat.{ℕ}
use mathlib.Core.Path.{◌≡◌, refl, sym, ap}
use mathlib.Core.Bool.{true≢false}
use mathlib.Core.List.{List}
use mir.Syntax.{w8}
use mir.Val.{Fits}
use lib.ListN.{get_or}
use Rattle.std.specs.Prelude.{Result, Ok, Err, IsErr, IsErrAnd}
use Rattle.ptacl.specs.Request.{Request}
use Rattle.ptacl.specs.Term.{Policy}
use Rattle.files.specs.Refusal.{Read, accepted, refused}
use Rattle.files.specs.ReadPolicy.{read_policy}
use Rattle.files.specs.ReadRequest.{read_request}
use Rattle.files.specs.Faults.{fault_number, request_fault_number}
use Rattle.files.specs.Reading.{read_map}
use Rattle.files.specs.declared.fault.PolicyError.{PolicyError}
use Rattle.files.specs.declared.fault.RequestError.{RequestError}
use Rattle.files.proofs.Framing.{lent_bytes}
use Rattle.files.proofs.PolicyExact.{policy_exact}
use Rattle.files.proofs.RequestExact.{request_exact}
use Rattle.text.specs.ReadText.{read_text}
use Rattle.text.specs.Faults.{text_number, text_place}
use Rattle.text.specs.declared.fault.TextError.{TextError}
use Rattle.sinkheron.specs.declared.refusal.Refusal.{Refusal}
use Rattle.sinkheron.specs.Answer.{Answer, refusal, Promise}
use Rattle.sinkheron.specs.Refusals.{refusal_number, refusal_place, answer_of}
use Rattle.sinkheron.specs.Refusals.{OfTextError}
use Rattle.sinkheron.specs.Ways.{OfPolicy, OfText, OfRequest, unread, holding}

-- what `?` hands on of a refusal
abbrev pub Hands : {A : Type 0} → Result A Refusal → Refusal → Type 0
Hands r x = IsErr r × IsErrAnd r (λ y. y ≡ x)

pub handed_on : {A V : Type 0} (values : A → V) (r : Result A Refusal) (x : Refusal) → Hands r x
    → answer_of values r ≡ refusal (refusal_number x) (refusal_place x)
handed_on values (Err y) x h = ap (λ z. refusal (refusal_number z) (refusal_place z)) h.1
handed_on values (Ok a) x h = absurd (true≢false (sym h.0))

text_on : {A V : Type 0} (values : A → V) (r : Result A Refusal) (e : TextError) → IsErr r × IsErrAnd r (OfTextError e)
    → answer_of values r ≡ refusal (text_number e) (text_place e)
text_on values (Err y) e h = rw (h.1.0, h.1.1)
text_on values (Ok a) e h = absurd (true≢false (sym h.0))

-- a refusal of what was told of a policy is the file's
map_refused : {A B : Type 0} (f : A → B) (x : Read A) {n p : ℕ} → read_map f x ≡ refused n p → x ≡ refused n p
map_refused f (accepted a) e = cc
map_refused f (refused m q) e = cc

map_accepted : {A B : Type 0} (f : A → B) (x : Read A) {y : B} → read_map f x ≡ accepted y → (a : A) × (x ≡ accepted a) × (f a ≡ y)
map_accepted f (accepted a) e = (a, refl, cc)
map_accepted f (refused m q) e = cc

module _ {A V M : Type 0} (values : A → V) (r : Result A Refusal) {s : List ℕ} {before : M} where
  pub policy_handed : {follows : Policy → Promise V M} (e : PolicyError)
      → read_policy s ≡ refused (fault_number e.fault) e.place → Hands r (Refusal.Policy e) → OfPolicy s before follows (answer_of values r) before
  policy_handed e h k = rw (handed_on values r _ k) (unread h)

  pub told_handed : {B : Type 0} {follows : Policy → Promise V M} (f : Policy → B) (e : PolicyError)
      → read_map f (read_policy s) ≡ refused (fault_number e.fault) e.place → Hands r (Refusal.Policy e) → OfPolicy s before follows (answer_of values r) before
  told_handed f e h k = policy_handed e (map_refused f _ h) k

  pub request_handed : {follows : Request → Promise V M} (e : RequestError)
      → read_request s ≡ refused (request_fault_number e.fault) e.place → Hands r (Refusal.Request e) → OfRequest s before follows (answer_of values r) before
  request_handed e h k = rw (handed_on values r _ k) (unread h)

  pub text_handed : {follows : Policy → Promise V M} (e : TextError)
      → read_text s ≡ refused (text_number e) (text_place e) → IsErr r × IsErrAnd r (OfTextError e) → OfText s before follows (answer_of values r) before
  text_handed e h k = rw (text_on values r e k) (unread h)

module _ {V M : Type 0} {s : List ℕ} {before after : M} {x : Answer V} (b : (i : ℕ) → Fits w8 (get_or s i 0)) where
  pub policy_taken : {p : Policy} {follows : Policy → Promise V M} → read_policy s ≡ accepted p → follows p x after → OfPolicy s before follows x after
  policy_taken e d = holding ((policy_exact s (lent_bytes b) _).0 e) d

  pub request_taken : {q : Request} {follows : Request → Promise V M} → read_request s ≡ accepted q → follows q x after → OfRequest s before follows x after
  request_taken e d = holding ((request_exact 21 s (lent_bytes b) _).0 e) d

  -- the policy of which something was told
  pub told_taken : {B : Type 0} {follows : Policy → Promise V M} (f : Policy → B) {y : B} → read_map f (read_policy s) ≡ accepted y
      → ((p : Policy) → f p ≡ y → follows p x after) → OfPolicy s before follows x after
  told_taken f e d = let a = map_accepted f (read_policy s) e in policy_taken a.1 (d a.0 a.2)

pub request_unread : {V M : Type 0} {s : List ℕ} {before : M} {follows : Request → Promise V M} {n at : ℕ} → read_request s ≡ refused n at
    → OfRequest s before follows (refusal n at) before
request_unread = unread

pub ruleset file_laws = (policy_handed, told_handed, request_handed, text_handed, policy_taken, request_taken, request_unread)
