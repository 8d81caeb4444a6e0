-- The policy in a file, and the places of its nodes.
use mathlib.Core.Path.{◌≡◌, sym, ap, ◌∙◌}
use mathlib.Core.List.{List}
use Prim.Native.Nat.{ℕ}
use native.Mathlib.Omega.{arith}
use lib.ListN.{length}
use Rattle.ptacl.specs.Term.{policy, Policy, deny, nodes}
use Rattle.files.specs.Encoding.{framed, policy_file, IsPolicy}
use Rattle.files.specs.Refusal.{Read, accepted}
use Rattle.files.specs.Prefix.{scan}
use Rattle.files.specs.ReadPolicy.{in_bytes}
use Rattle.files.specs.Reading.{told, nothing, Place, Opened}
use Rattle.files.specs.Views.{policy_in, accepted_or}
use Rattle.files.proofs.PolicyComplete.{complete}
use Rattle.files.proofs.PolicyExact.{policy_reads}
use Rattle.files.proofs.View.{file_at}
use Rattle.flat.specs.Places.{PlacesTo, Places}

pub noted_policy : {b : List ℕ} {p : Policy} → IsPolicy b p → policy_in b ≡ p
unfolding policy_in
noted_policy i = ap (accepted_or deny) (policy_reads i)

-- a reader that went over the policy's term met all of its nodes
pub noted_places : {b : List ℕ} {p : Policy} {start : Place} {next count : ℕ} {places : List ℕ} → Opened b start → IsPolicy b p
    → told nothing (scan (in_bytes 255 start.bytes) 32 policy tt start.at start.nodes) ≡ accepted (tt {0}, next, count)
    → PlacesTo start.bytes count places → Places b p places
unfolding policy_file framed
noted_places {b} {p} {count = count} o i e w =
    let l = ap length i.file in
    let s = complete 255 b p 32 3 0 (length b) (nodes p) (file_at i) i.fits.shallow (omega (arith, i.fits.few)) (omega arith) (omega arith) in
    let h : accepted (tt {0}, length b, nodes p) ≡ accepted (tt, _, count) = sym (ap (told nothing) s) ∙ rw o.start at e in
    let n : nodes p ≡ count = ap (λ (r : Read (Unit {0} × ℕ × ℕ)). (accepted_or {A = Unit {0} × ℕ × ℕ} (tt, 0, 0) r).2) h in
    let v = rw o.start at w in
    record { counted = v.counted ∙ sym n; place = v.place }
