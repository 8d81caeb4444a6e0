-- Reading a policy, by reading its node and the terms right below it: for what is told of a policy that comes of its node, of what is told
-- of the policies below (below a not something else) and of the target.
use Prim.Native.Nat.{ℕ, ◌+◌, ◌-◌}
use mathlib.Core.Path.{◌≡◌, refl, ap, ◌∙◌}
use mathlib.Core.List.{List}
use native.Mathlib.Omega.{arith}
use lib.ListN.{length, length-drop}
use Rattle.ptacl.specs.Term.{target, policy, Term, Policy, deny, allow, targeted, not, default, and, or, Node, a_deny, an_allow, a_targeted, a_not, a_default, an_and, an_or, shape}
use Rattle.files.specs.Encoding.{bytes}
use Rattle.files.specs.Refusal.{Read, accepted}
use Rattle.files.specs.Prefix.{Head, node, stop, Scan, done, fault, and_then, Subterms, below, body, scan}
use Rattle.files.specs.ReadPolicy.{head_at, in_bytes}
use Rattle.files.specs.Tags.{tag_named}
use Rattle.files.specs.Reading.{◌>>=◌, node_in, told}
use Rattle.files.specs.declared.tag.Tag.{Tag}
use Rattle.files.proofs.Prefix.{Told, scan_at}
use Rattle.files.proofs.PolicySteps.{Faulty, byte_laws}

-- what is told of a policy, by its node and by what is told of the terms below
pub record Makes (B D T : Type 0) : Type 0 where
  pub leaf : Tag → B
  pub aimed : T → B → B
  pub turned : D → B
  pub one : B → B
  pub two : Tag → B → B → B

module _ {B D T : Type 0} (makes : Makes B D T) where
  -- by readings of the policies below, of one below a not and of a target
  abbrev pub policy_below : Tag → (ℕ → ℕ → Read (B × ℕ × ℕ)) → (ℕ → ℕ → Read (D × ℕ × ℕ)) → (ℕ → ℕ → Read (T × ℕ × ℕ)) → ℕ → ℕ → Read (B × ℕ × ℕ)
  policy_below Tag.Targeted sub turn aim at k = aim at k >>= λ t. sub t.1 t.2 >>= λ x. accepted (makes.aimed t.0 x.0, x.1, x.2)
  policy_below Tag.PolicyNot sub turn aim at k = turn at k >>= λ x. accepted (makes.turned x.0, x.1, x.2)
  policy_below Tag.DenyByDefault sub turn aim at k = sub at k >>= λ x. accepted (makes.one x.0, x.1, x.2)
  policy_below Tag.PolicyAnd sub turn aim at k = sub at k >>= λ x. sub x.1 x.2 >>= λ y. accepted (makes.two Tag.PolicyAnd x.0 y.0, y.1, y.2)
  policy_below Tag.PolicyOr sub turn aim at k = sub at k >>= λ x. sub x.1 x.2 >>= λ y. accepted (makes.two Tag.PolicyOr x.0 y.0, y.1, y.2)
  policy_below tag sub turn aim at k = accepted (makes.leaf tag, at, k)

  module _ (f : Policy → B) (g : Policy → D) (h : Term target → T) where
    -- what f tells comes of the node
    pub record Made : Type 0 where
      pub denied : f deny ≡ makes.leaf Tag.Deny
      pub allowed : f allow ≡ makes.leaf Tag.Allow
      pub aimed : (t : Term target) (p : Policy) → f (targeted t p) ≡ makes.aimed (h t) (f p)
      pub turned : (p : Policy) → f (not p) ≡ makes.turned (g p)
      pub one : (p : Policy) → f (default p) ≡ makes.one (f p)
      pub both : (p r : Policy) → f (and p r) ≡ makes.two Tag.PolicyAnd (f p) (f r)
      pub either : (p r : Policy) → f (or p r) ≡ makes.two Tag.PolicyOr (f p) (f r)

    one_told : {C : Type 0} (c : Policy → C) (of : Policy → Policy) (make : C → B) (x : Scan Policy) → ((p : Policy) → f (of p) ≡ make (c p))
        → told f (and_then x (λ p a k. done (of p) a k)) ≡ (told c x >>= λ y. accepted (make y.0, y.1, y.2))
    one_told c of make (done p a k) e = rw (e p)
    one_told c of make (fault n p) e = refl

    two_told : (of : Policy → Policy → Policy) (make : B → B → B) (x : Scan Policy) (y : ℕ → ℕ → Scan Policy)
        → ((p r : Policy) → f (of p r) ≡ make (f p) (f r))
        → told f (and_then x (λ p a k. and_then (y a k) (λ r c m. done (of p r) c m)))
        ≡ (told f x >>= λ z. told f (y z.1 z.2) >>= λ w. accepted (make z.0 w.0, w.1, w.2))
    two_told of make (done p a k) y e = one_told f (of p) (make (f p)) (y a k) (e p)
    two_told of make (fault n p) y e = refl

    aimed_told : (x : Scan (Term target)) (y : ℕ → ℕ → Scan Policy) → Made
        → told f (and_then x (λ t a k. and_then (y a k) (λ p c m. done (targeted t p) c m)))
        ≡ (told h x >>= λ t. told f (y t.1 t.2) >>= λ w. accepted (makes.aimed t.0 w.0, w.1, w.2))
    aimed_told (done t a k) y e = one_told f (targeted t) (makes.aimed (h t)) (y a k) (e.aimed t)
    aimed_told (fault n p) y e = refl

    module _ (law : Made) (b : List ℕ) where
      made_node : (sub : Subterms (Unit {0})) (at k : ℕ) (n : Node policy) → told f (below (in_bytes 255 b) sub tt at k (shape n))
          ≡ policy_below (tag_named n) (λ a m. told f (sub policy tt a m)) (λ a m. told g (sub policy tt a m)) (λ a m. told h (sub target tt a m)) at k
      unfolding below
      made_node sub at k a_deny = rw law.denied
      made_node sub at k an_allow = rw law.allowed
      made_node sub at k a_targeted = aimed_told (sub target tt at k) (sub policy tt) law
      made_node sub at k (a_not policy) = one_told g not makes.turned (sub policy tt at k) law.turned
      made_node sub at k (a_default policy) = one_told f default makes.one (sub policy tt at k) law.one
      made_node sub at k (an_and policy) = two_told and (makes.two Tag.PolicyAnd) (sub policy tt at k) (sub policy tt) law.both
      made_node sub at k (an_or policy) = two_told or (makes.two Tag.PolicyOr) (sub policy tt at k) (sub policy tt) law.either

      abbrev by_node : ℕ → ℕ → ℕ → Tag → Read (B × ℕ × ℕ)
      by_node left at k tag = policy_below tag
          (λ a m. told f (scan (in_bytes 255 b) (left - 1) policy tt a m))
          (λ a m. told g (scan (in_bytes 255 b) (left - 1) policy tt a m))
          (λ a m. told h (scan (in_bytes 255 b) (left - 1) target tt a m)) (at + 1) (k + 1)

      pub policy_more : (left at k : ℕ) → told f (scan (in_bytes 255 b) left policy tt at k)
          ≡ (node_in (head_at 255 b policy left at k) >>= λ tag. policy_below tag
          (λ a m. told f (scan (in_bytes 255 b) (left - 1) policy tt a m))
          (λ a m. told g (scan (in_bytes 255 b) (left - 1) policy tt a m))
          (λ a m. told h (scan (in_bytes 255 b) (left - 1) target tt a m)) (at + 1) (k + 1))
      unfolding body
      policy_more left at k =
          ap (told f) (scan_at (in_bytes 255 b) 255 b (byte_laws 255 b) left tt at k (head_at 255 b policy left at k) refl)
          ∙ go (head_at 255 b policy left at k) ((byte_laws 255 b).head_told policy left tt at k)
        where
          go : (h : Head policy) → Told bytes 255 b (Faulty b) left tt at k h
              → told f (body (in_bytes 255 b) (scan (in_bytes 255 b) (left - 1)) tt k h) ≡ (node_in h >>= by_node left at k)
          go (node n next) w =
              let l = ap length w.bytes in
              let e : next ≡ at + 1 = omega (arith, w.inside, length-drop at b, length-drop next b) in
              rw e (made_node (scan (in_bytes 255 b) (left - 1)) (at + 1) (k + 1) n)
          go (stop n p) w = refl
