-- Edges of a request file: too short, a body that is no multiple of 4, 256 and 257 pairs, the first pair at fault.
use Prim.Native.Nat.{ℕ, zero, suc, ◌+◌, ◌≤◌}
use mathlib.Core.Path.{◌≡◌, refl}
use mathlib.Core.List.{[], ◌∷◌}
use native.Mathlib.Omega.{arith}
use lib.ListN.{length}
use Rattle.ptacl.specs.Request.{Request}
use Rattle.files.specs.Encoding.{InRange, framed, pair_bytes, request_file}
use Rattle.files.specs.Refusal.{accepted, refused, unframed}
use Rattle.files.specs.ReadRequest.{read_request_from, read_request}
use Rattle.files.proofs.Framing.{framed_whole}
use Rattle.files.proofs.Memory.{request_length}
use Rattle.files.proofs.RequestCases.{request_many}
use Rattle.files.proofs.RequestExact.{reads}

pub no_byte : read_request [] ≡ refused 21 0
unfolding read_request_from unframed
no_byte = refl

pub one_byte : (a : ℕ) → read_request (a ∷ []) ≡ refused 21 1
unfolding read_request_from unframed
one_byte a = refl

pub two_bytes : (a b : ℕ) → read_request (a ∷ b ∷ []) ≡ refused 21 2
unfolding read_request_from unframed
two_bytes a b = refl

pub no_pairs : read_request (1 ∷ 0 ∷ 0 ∷ []) ≡ accepted []
unfolding read_request_from unframed
no_pairs = refl

pub five_bytes_of_body : (a b c d e : ℕ) → read_request (1 ∷ 0 ∷ 5 ∷ a ∷ b ∷ c ∷ d ∷ e ∷ []) ≡ refused 24 3
unfolding read_request_from unframed
five_bytes_of_body a b c d e = refl

pub equal_pair : read_request (request_file ((1, 2) ∷ (1, 2) ∷ [])) ≡ refused 26 7
unfolding read_request_from unframed request_file framed pair_bytes
equal_pair = refl

pub first_of_two_faults : read_request (request_file ((1, 2) ∷ (1, 3) ∷ (0, 9) ∷ (0, 9) ∷ [])) ≡ refused 26 11
unfolding read_request_from unframed request_file framed pair_bytes
first_of_two_faults = refl

-- so many values of the name 1, from v on
abbrev values : ℕ → ℕ → Request
values zero v = []
values (suc k) v = (1, v) ∷ values k (v + 1)

values_range : (k v : ℕ) → v + k ≤ 65536 → InRange (values k v)
unfolding InRange
values_range zero v h = tt
values_range (suc k) v h = (omega arith, omega arith, values_range k (v + 1) (omega arith))

pub pairs_256 : read_request (request_file (values 256 0)) ≡ accepted (values 256 0)
pairs_256 = reads 21 (values 256 0) (record { few = omega arith; ordered = refl; range = values_range 256 0 (omega arith) })

pub pairs_257 : (q : Request) → length q ≡ 257 → read_request (request_file q) ≡ refused 25 1027
unfolding request_file
pairs_257 q e =
    let l = request_length q in
    request_many 21 (framed_whole (pair_bytes q)) (omega arith) (omega arith)
