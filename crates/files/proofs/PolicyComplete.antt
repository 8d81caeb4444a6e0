-- What is encoded within the limits is read; so an encoding is the beginning of no other, and a file is the file of one policy.
use Prim.Native.Nat.{ℕ, ◌+◌, ◌≤◌, max}
use mathlib.Core.Path.{◌≡◌, refl, sym, ap, ◌∙◌}
use mathlib.Core.List.{List, [], ◌++◌, append-nil}
use native.Mathlib.Omega.{arith}
use lib.ListN.{length, drop}
use lib.Seq.{drop-append_seam}
use borrow.Author.Tests.{le-ltb}
use Rattle.ptacl.specs.Term.{Sort, policy, Term, Policy, nodes}
use Rattle.files.specs.Encoding.{enc, depth, framed, Fits, policy_file, IsPolicy}
use Rattle.files.specs.Refusal.{accepted}
use Rattle.files.specs.Prefix.{done, scan}
use Rattle.files.specs.ReadPolicy.{in_bytes, finish, read_policy}
use Rattle.files.specs.Places.{At}
use Rattle.files.proofs.Framing.{unframed_whole, framed_whole}
use Rattle.files.proofs.Prefix as prefix
use Rattle.files.proofs.PolicySteps.{byte_laws}

-- where the term stands, within the limits, it is read
pub complete : (most : ℕ) (b : List ℕ) {s : Sort} (t : Term s) (deep at k next count : ℕ) → At b at (enc t) → depth t ≤ deep
    → k + nodes t ≤ most → next ≡ at + length (enc t) → count ≡ k + nodes t → scan (in_bytes most b) deep s tt at k ≡ done t next count
unfolding enc
complete most b t deep at k next count h = prefix.complete (in_bytes most b) most b (byte_laws most b) t deep tt at k next count h tt

-- what follows an encoding is determined, and so is the term
pub enc_prefix_free : {s : Sort} (t u : Term s) (r w : List ℕ) → enc t ++ r ≡ enc u ++ w → (t ≡ u) × (r ≡ w)
enc_prefix_free t u r w e =
    let b = enc t ++ r in
    let d = max (depth t) (depth u) in
    let m = max (nodes t) (nodes u) in
    let h : At b 0 (enc t) = record { rest = r; split = refl } in
    let k : At b 0 (enc u) = record { rest = w; split = e } in
    let f = complete m b t d 0 0 (length (enc t)) (nodes t) h (omega arith) (omega arith) (omega arith) (omega arith) in
    let g = complete m b u d 0 0 (length (enc u)) (nodes u) k (omega arith) (omega arith) (omega arith) (omega arith) in
    let l : length (enc t) ≡ length (enc u) = cc in
    (cc, sym (drop-append_seam (enc t) r) ∙ ap (λ (n : ℕ). drop n b) l ∙ ap (drop (length (enc u))) e ∙ drop-append_seam (enc u) w)

pub policy_file_injective : (p r : Policy) → policy_file p ≡ policy_file r → p ≡ r
unfolding policy_file framed
policy_file_injective p r e =
    let f : enc p ≡ enc r = cc in
    (enc_prefix_free p r [] [] (ap (λ (x : List ℕ). x ++ []) f)).0

-- bytes are the file of one policy at most
pub policy_read_one : {s : List ℕ} {p r : Policy} → IsPolicy s p → IsPolicy s r → p ≡ r
policy_read_one {p = p} {r = r} f g = policy_file_injective p r (sym f.file ∙ g.file)

-- a policy within the limits is read from its file, body and all
body_scanned : (p : Policy) → Fits p → scan (in_bytes 255 (policy_file p)) 32 policy tt 3 0 ≡ done p (length (policy_file p)) (nodes p)
unfolding policy_file framed
body_scanned p f =
    let s = policy_file p in
    let h : At s 3 (enc p) = record { rest = []; split = sym (append-nil (enc p)) } in
    complete 255 s p 32 3 0 (length s) (nodes p) h f.shallow (omega (arith, f.few)) (omega arith) (omega arith)

pub policy_scanned : {s : List ℕ} {p : Policy} → IsPolicy s p → scan (in_bytes 255 s) 32 policy tt 3 0 ≡ done p (length s) (nodes p)
policy_scanned {p = p} f = rw f.file (body_scanned p f.fits)

pub read_file : (p : Policy) → Fits p → read_policy (policy_file p) ≡ accepted p
unfolding read_policy policy_file framed
read_file p f =
    let s = policy_file p in
    unframed_whole 1 s _ (framed_whole (enc p))
    ∙ ap (finish 8 (length s)) (body_scanned p f)
    ∙ simp (le-ltb (length s) (length s) (omega arith))
