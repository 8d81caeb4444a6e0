-- A policy file as a whole: from its frame, what is read of its body, and its end.
use Prim.Native.Nat.{ℕ, ◌-◌, ◌≤◌}
use mathlib.Core.Path.{◌≡◌, refl, ap, ◌∙◌}
use mathlib.Core.Bool.{Bool, true, false, cond}
use mathlib.Core.List.{List}
use native.Mathlib.Omega.{arith}
use mir.Syntax.{w8}
use mir.Val.{Fits}
use lib.ListN.{length, get_or, take, drop, length-drop}
use lib.Seq.{take_all}
use lib.Dec.{ltb}
use Rattle.ptacl.specs.Term.{policy, Policy, nodes}
use Rattle.files.specs.Encoding.{IsPolicy, enc, policy_file, framed}
use Rattle.files.specs.Refusal.{Read, accepted, refused}
use Rattle.files.specs.Prefix.{Scan, done, fault, scan}
use Rattle.files.specs.ReadPolicy.{in_bytes, finish, read_policy}
use Rattle.files.specs.Faults.{WholeFile}
use Rattle.files.specs.Reading.{◌>>=◌, read_map, told, nothing, Place, Opened, ended}
use Rattle.files.specs.Views.{policy_in}
use Rattle.files.proofs.Framing.{unframed_whole, lent_bytes}
use Rattle.files.proofs.PolicyExact.{policy_exact}

-- what is told of the policy of a whole file, from what is told of the body's term
module _ {A : Type 0} (f : Policy → A) (s : List ℕ) (w : WholeFile s) where
  finished : (x : Scan Policy) → read_map f (finish 8 (length s) x)
      ≡ (told f x >>= λ y. ended (record { bytes = s; at = y.1; nodes = y.2 }) >>= λ u. accepted y.0)
  finished (done p next nodes) = go (ltb next (length s))
    where
      go : (c : Bool) → read_map f (cond c (refused 8 next) (accepted p)) ≡ (cond {A = Read (Unit {0})} c (refused 8 next) (accepted tt) >>= λ u. accepted (f p))
      go true = refl
      go false = refl
  finished (fault n p) = refl

  pub policy_told : read_map f (read_policy s)
      ≡ (told f (scan (in_bytes 255 s) 32 policy tt 3 0) >>= λ y. ended (record { bytes = s; at = y.1; nodes = y.2 }) >>= λ u. accepted y.0)
  unfolding read_policy
  policy_told = ap (read_map f) (unframed_whole 1 s _ w) ∙ finished (scan (in_bytes 255 s) 32 policy tt 3 0)

-- refused for what is told, it is refused
map_refused : {A B : Type 0} (f : A → B) (x : Read A) {n p : ℕ} → read_map f x ≡ refused n p → x ≡ refused n p
map_refused f (accepted a) e = cc
map_refused f (refused m q) e = cc

map_accepted : {A B : Type 0} (f : A → B) (x : Read A) {y : B} → read_map f x ≡ accepted y → (a : A) × (x ≡ accepted a)
map_accepted f (accepted a) e = (a, refl)
map_accepted f (refused m q) e = cc

-- by a reader that was opened there, and has read the term
module _ {A : Type 0} (f : Policy → A) {s : List ℕ} {old : Place} (o : Opened s old) where
  abbrev term : Read (A × ℕ × ℕ)
  term = told f (scan (in_bytes 255 old.bytes) 32 policy tt old.at old.nodes)

  here : term ≡ told f (scan (in_bytes 255 s) 32 policy tt 3 0)
  here = rw o.start

  pub whole_refused : {n p : ℕ} → term ≡ refused n p → read_policy s ≡ refused n p
  whole_refused e = map_refused f _ (policy_told f s o.whole ∙ rw (← here, e))

  module _ {new : Place} {x : A} (e : (term ≡ accepted (x, new.at, new.nodes)) × (new.bytes ≡ old.bytes)) where
    there : read_map f (read_policy s) ≡ (ended new >>= λ u. accepted x)
    there =
        let b : new.bytes ≡ s = e.1 ∙ ap (λ p. p.bytes) o.start in
        policy_told f s o.whole ∙ rw (← here, e.0, b)

    pub whole_exceeded : {n p : ℕ} → ended new ≡ refused n p → read_policy s ≡ refused n p
    whole_exceeded h = map_refused f _ (rw h at there)

    pub whole_read : {u : Unit {0}} → ended new ≡ accepted u → read_map f (read_policy s) ≡ accepted x
    whole_read h = rw h at there

-- what reading accepts is the policy in the file
pub accepted_is : {s : List ℕ} {u : Unit {0}} → ((i : ℕ) → Fits w8 (get_or s i 0)) → read_map nothing (read_policy s) ≡ accepted u
    → (read_policy s ≡ accepted (policy_in s)) × IsPolicy s (policy_in s)
unfolding policy_in
accepted_is {s} fits e =
    let a = map_accepted nothing (read_policy s) e in
    rw a.1 (refl, (policy_exact s (lent_bytes fits) a.0).0 a.1)

pub file_long : {s : List ℕ} {p : Policy} → IsPolicy s p → 3 ≤ length s
unfolding policy_file framed
file_long i = omega (arith, ap length i.file)

pub file_body : {s : List ℕ} {p : Policy} → IsPolicy s p → take (length s - 3) (drop 3 s) ≡ enc p
unfolding policy_file framed
file_body {s} i = take_all (length s - 3) (drop 3 s) (omega (arith, length-drop 3 s)) ∙ ap (drop 3) i.file

pub file_few : {s : List ℕ} {p : Policy} → IsPolicy s p → nodes p ≤ 255
file_few i = i.fits.few

pub ruleset body_laws = (file_long, file_body, file_few)
