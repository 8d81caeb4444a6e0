-- What a term comes to, as a code, from its node and from what is below it.
use Prim.Native.Nat.{ℕ, ◌+◌, ◌-◌}
use mathlib.Core.Path.{◌≡◌, refl, sym, ap, ◌∙◌}
use mathlib.Core.List.{List}
use Rattle.ptacl.specs.Value.{Value, v1, v0, v_u, not_v, default_v, and_v, or_v}
use Rattle.ptacl.specs.Values.{single, each, each2, under, code, set_of}
use Rattle.ptacl.specs.Request.{Request}
use Rattle.ptacl.specs.Term.{Sort, target, policy, Term, Node, an_atom, a_deny, an_allow, a_targeted, a_not, a_default, an_and, an_or, shape}
use Rattle.ptacl.specs.Meaning.{Meaning, lift, lift2, eval}
use Rattle.ptacl.specs.Cases.{Targeted}
use Rattle.ptacl.proofs.Codes.{code_set, code_each, code_each2, of_single, of_singles}
use Rattle.files.specs.Refusal.{Read, accepted, refused}
use Rattle.files.specs.Prefix.{Scan, done, fault, scan}
use Rattle.files.specs.ReadPolicy.{head_at, in_bytes}
use Rattle.files.specs.Reading.{◌>>=◌, read_map, node_in, told, told_below}
use Rattle.files.specs.Views.{accepted_or}
use Rattle.files.proofs.Terms.{Comes, told_more}
use Rattle.evaluate.specs.Worth.{code_of, worth, member, worth_steps}

-- an operation on codes is that on meanings, where it is so on the sets of one value
acts : (f : Value → Value) → ((v : Value) → code (each f (single v)) ≡ code (single (f v)))
    → (s : Sort) (x : Meaning s) → code (each f (set_of (code_of s x))) ≡ code_of s (lift f s x)
unfolding lift
acts f h target v = code_each f (single v) ∙ h v
acts f h policy x = code_each f x

acts2 : (f : Value → Value → Value) → ((v w : Value) → code (each2 f (single v) (single w)) ≡ code (single (f v w)))
    → (s : Sort) (x y : Meaning s) → code (each2 f (set_of (code_of s x)) (set_of (code_of s y))) ≡ code_of s (lift2 f s x y)
unfolding lift2
acts2 f h target v w = code_each2 f (single v) (single w) ∙ h v w
acts2 f h policy x y = code_each2 f x y

pub member_single : (v : Value) → member (code (single v)) ≡ v
member_single v1 = refl
member_single v0 = refl
member_single v_u = refl

pub owns : (q : Request) (s : Sort) (n : Node s) → Comes (λ s t. worth q t) (worth_steps q) n (shape n)
owns q target an_atom = λ n v. refl
owns q policy a_deny = refl
owns q policy an_allow = refl
owns q policy a_targeted = λ t p. rw (member_single (eval t q), code_set (eval p q))
owns q target (a_not target) = λ t. sym (acts not_v (of_single not_v refl) target (eval t q))
owns q policy (a_not policy) = λ t. sym (acts not_v (of_single not_v refl) policy (eval t q))
owns q target (a_default target) = λ t. sym (acts default_v (of_single default_v refl) target (eval t q))
owns q policy (a_default policy) = λ t. sym (acts default_v (of_single default_v refl) policy (eval t q))
owns q target (an_and target) = λ t u. sym (acts2 and_v (of_singles and_v refl) target (eval t q) (eval u q))
owns q policy (an_and policy) = λ t u. sym (acts2 and_v (of_singles and_v refl) policy (eval t q) (eval u q))
owns q target (an_or target) = λ t u. sym (acts2 or_v (of_singles or_v refl) target (eval t q) (eval u q))
owns q policy (an_or policy) = λ t u. sym (acts2 or_v (of_singles or_v refl) policy (eval t q) (eval u q))

pub worth_more : (q : Request) (b : List ℕ) (s : Sort) (left at k : ℕ) → told (worth q) (scan (in_bytes 255 b) left s tt at k)
    ≡ (node_in (head_at 255 b s left at k) >>= λ tag. told_below (worth_steps q) tag s b (λ r a m. told (worth q) (scan (in_bytes 255 b) (left - 1) r tt a m)) (at + 1) (k + 1))
worth_more q b s left at k = told_more (λ s t. worth q t) (worth_steps q) (owns q) b s left at k

-- a target's code is that of the set of a value alone
pub target_code : (q : Request) (x : Scan (Term target)) {c next k : ℕ} → told (worth q) x ≡ accepted (c, next, k) → c ≡ code (single (member c))
target_code q (done t a m) {c} e =
    let i : worth q t ≡ c = ap (λ (r : Read (ℕ × ℕ × ℕ)). (accepted_or {A = ℕ × ℕ × ℕ} (0, 0, 0) r).0) e in
    sym i ∙ ap (λ v. code (single v)) (sym (member_single (eval t q)) ∙ ap member i)
target_code q (fault n p) e = cc

-- so a targeted policy's is found by that
pub targeted_code : (q : Request) (x : Scan (Term target)) {c next k d own : ℕ} → told (worth q) x ≡ accepted (c, next, k) → Targeted c d own
    → own ≡ code (under (member c) (set_of d))
targeted_code q x e t = t.value _ (target_code q x e)

-- what is told of a file's policy is refused where its reading is
pub map_refused : {A B : Type 0} (f : A → B) {x : Read A} {n p : ℕ} → x ≡ refused n p → read_map f x ≡ refused n p
map_refused f e = ap (read_map f) e
