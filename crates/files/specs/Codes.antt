-- A term told by numbers, so that a struct's model can be a policy: its nodes from left to right, each by its kind and, of an atom, the pair.
use Rattle.std.specs.Prelude.{ℕ, ◌≡◌, ◌==◌, if◌then◌else◌, List, [], ◌∷◌, refl}
use Rattle.std.specs.Coded.{Coded, code_by, coded_ℕ, coded_list, coded×}
use Rattle.ptacl.specs.Term.{Sort, target, policy, Term, Policy, atom, deny, allow, targeted, not, default, and, or}

abbrev Token : Type 0
Token = ℕ × (ℕ × ℕ)

abbrev tokens : {s : Sort} → Term s → List Token → List Token
tokens (atom n v) rest = (0, (n, v)) ∷ rest
tokens deny rest = (1, (0, 0)) ∷ rest
tokens allow rest = (2, (0, 0)) ∷ rest
tokens (targeted t p) rest = (3, (0, 0)) ∷ tokens t (tokens p rest)
tokens (not {s = target} t) rest = (4, (0, 0)) ∷ tokens t rest
tokens (not {s = policy} t) rest = (5, (0, 0)) ∷ tokens t rest
tokens (default {s = target} t) rest = (6, (0, 0)) ∷ tokens t rest
tokens (default {s = policy} t) rest = (7, (0, 0)) ∷ tokens t rest
tokens (and {s = target} t u) rest = (8, (0, 0)) ∷ tokens t (tokens u rest)
tokens (and {s = policy} t u) rest = (9, (0, 0)) ∷ tokens t (tokens u rest)
tokens (or {s = target} t u) rest = (10, (0, 0)) ∷ tokens t (tokens u rest)
tokens (or {s = policy} t u) rest = (11, (0, 0)) ∷ tokens t (tokens u rest)

-- read from the last to the first, onto a stack of targets and one of policies
abbrev Stacks : Type 0
Stacks = List (Term target) × List (Term policy)

abbrev one : {A : Type 0} → (A → A) → List A → List A
one f [] = []
one f (x ∷ xs) = f x ∷ xs

abbrev two : {A : Type 0} → (A → A → A) → List A → List A
two f [] = []
two f (x ∷ []) = []
two f (x ∷ y ∷ xs) = f x y ∷ xs

abbrev aimed : List (Term target) → List (Term policy) → Stacks
aimed [] ps = ([], ps)
aimed (t ∷ ts) ps = (ts, one (targeted t) ps)

abbrev pushed : Token → Stacks → Stacks
pushed k s =
    if k.0 == 0 then (atom k.1.0 k.1.1 ∷ s.0, s.1)
    else if k.0 == 1 then (s.0, deny ∷ s.1)
    else if k.0 == 2 then (s.0, allow ∷ s.1)
    else if k.0 == 3 then aimed s.0 s.1
    else if k.0 == 4 then (one (λ t. not t) s.0, s.1)
    else if k.0 == 5 then (s.0, one (λ t. not t) s.1)
    else if k.0 == 6 then (one (λ t. default t) s.0, s.1)
    else if k.0 == 7 then (s.0, one (λ t. default t) s.1)
    else if k.0 == 8 then (two (λ t u. and t u) s.0, s.1)
    else if k.0 == 9 then (s.0, two (λ t u. and t u) s.1)
    else if k.0 == 10 then (two (λ t u. or t u) s.0, s.1)
    else (s.0, two (λ t u. or t u) s.1)

abbrev stacked : List Token → Stacks
stacked [] = ([], [])
stacked (k ∷ ks) = pushed k (stacked ks)

abbrev put_on : {s : Sort} → Term s → Stacks → Stacks
put_on {s = target} t s = (t ∷ s.0, s.1)
put_on {s = policy} t s = (s.0, t ∷ s.1)

stacked_tokens : {s : Sort} (t : Term s) (rest : List Token) → stacked (tokens t rest) ≡ put_on t (stacked rest)
stacked_tokens (atom n v) rest = refl
stacked_tokens deny rest = refl
stacked_tokens allow rest = refl
stacked_tokens (targeted t p) rest = rw (stacked_tokens t (tokens p rest), stacked_tokens p rest)
stacked_tokens (not {s = target} t) rest = rw (stacked_tokens t rest)
stacked_tokens (not {s = policy} t) rest = rw (stacked_tokens t rest)
stacked_tokens (default {s = target} t) rest = rw (stacked_tokens t rest)
stacked_tokens (default {s = policy} t) rest = rw (stacked_tokens t rest)
stacked_tokens (and {s = target} t u) rest = rw (stacked_tokens t (tokens u rest), stacked_tokens u rest)
stacked_tokens (and {s = policy} t u) rest = rw (stacked_tokens t (tokens u rest), stacked_tokens u rest)
stacked_tokens (or {s = target} t u) rest = rw (stacked_tokens t (tokens u rest), stacked_tokens u rest)
stacked_tokens (or {s = policy} t u) rest = rw (stacked_tokens t (tokens u rest), stacked_tokens u rest)

abbrev top : List Policy → Policy
top [] = deny
top (p ∷ ps) = p

pub same_policy : (p : Policy) → top (stacked (tokens p [])).1 ≡ p
same_policy p = rw (stacked_tokens p [])

abbrev pub policy_code : Coded Policy
policy_code = code_by (List (ℕ × (ℕ × ℕ))) (coded_list (coded× {A = ℕ} {B = ℕ × ℕ} coded_ℕ (coded× coded_ℕ coded_ℕ))) (λ p. tokens p []) (λ ks. top (stacked ks).1) same_policy
