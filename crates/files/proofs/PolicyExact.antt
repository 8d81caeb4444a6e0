-- Reading a policy file accepts exactly the files of policies within the limits, and a refusal has a number and place in bounds.
use Prim.Native.Nat.{ℕ, ◌≤◌, ◌<◌}
use mathlib.Core.Path.{◌≡◌, sym, ap, subst, ◌∙◌}
use mathlib.Core.Logic.{◌↔◌}
use mathlib.Core.List.{List}
use native.Mathlib.Omega.{arith}
use lib.ListN.{length, drop}
use Rattle.ptacl.specs.Term.{policy, Policy}
use Rattle.files.specs.Encoding.{bytes, enc, framed, Fits, policy_file, IsPolicy, Bytes}
use Rattle.files.specs.Refusal.{Read, accepted, refused, unframed}
use Rattle.files.specs.Prefix.{spell, scan}
use Rattle.files.specs.ReadPolicy.{in_bytes, finish, read_policy}
use Rattle.files.specs.Faults.{WholeFile}
use Rattle.files.proofs.Framing.{Gives, unframed_whole, whole_short, framed_body, Framing, faulty, whole, framing}
use Rattle.files.proofs.Prefix.{good, finished as ended}
use Rattle.files.proofs.PolicySteps.{Faulty, byte_laws, pairs_told}
use Rattle.files.proofs.PolicyComplete.{read_file}

-- what reading may give
abbrev GivesPolicy : List ℕ → Read Policy → Type 0
GivesPolicy s = Gives (IsPolicy s) (λ n p. (0 < n) × (n < 256) × (p ≤ 65538))

module _ (s : List ℕ) (bs : Bytes s) where
  finished : WholeFile s → (x : Read Policy) → Gives (λ p. (drop 3 s ≡ spell bytes tt p) × Fits p) (Faulty s) x → GivesPolicy s x
  unfolding policy_file enc
  finished w (refused number place) g = (omega (arith, g.low), omega (arith, g.high), omega (arith, g.within, whole_short w bs))
  finished w (accepted p) g = record { file = sym (framed_body w bs) ∙ ap framed g.0; fits = g.1 }

  gives : GivesPolicy s (read_policy s)
  unfolding read_policy
  gives =
      let x = scan (in_bytes 255 s) 32 policy tt 3 0 in
      go (finish 8 (length s) x)
      (λ w. finished w (finish 8 (length s) x)
      (ended (in_bytes 255 s) 255 s (byte_laws 255 s) 8 (λ place i. record { low = omega arith; high = omega arith; within = i }) (omega arith) tt 3 x
      (good (in_bytes 255 s) 255 s (byte_laws 255 s) (pairs_told 255 s bs) 32 policy tt 3 0 w.long))) (framing 1 s)
    where
      go : (x : Read Policy) → (WholeFile s → GivesPolicy s x) → Framing 1 s → GivesPolicy s (unframed 1 s x)
      go x f (faulty n p r) = rw (r.given x) (omega (arith, r.low), omega (arith, r.high), omega (arith, r.place))
      go x f (whole w) = rw (unframed_whole 1 s x w) (f w)

-- whatever its bytes, the file of a policy within the limits is read as it
pub policy_reads : {s : List ℕ} {p : Policy} → IsPolicy s p → read_policy s ≡ accepted p
policy_reads {p = p} f = ap read_policy f.file ∙ read_file p f.fits

-- the theorem: a file is accepted with p exactly if it is the file of p, which is within the limits
pub policy_exact : (s : List ℕ) → Bytes s → (p : Policy) → (read_policy s ≡ accepted p) ↔ IsPolicy s p
policy_exact s bs p = ((λ e. subst (GivesPolicy s) e (gives s bs)), policy_reads)

pub refused_place : {s : List ℕ} {n p : ℕ} → read_policy s ≡ refused n p → Bytes s → (0 < n) × (n < 256) × (p ≤ 65538)
refused_place {s} e bs = subst (GivesPolicy s) e (gives s bs)
