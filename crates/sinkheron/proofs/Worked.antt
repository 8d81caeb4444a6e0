-- The worked policies A to I, from their bodies: each is read to the term of ptacl's table, which holds of it, and the files of each
-- exposure are told. Beside it the edge of 16 pairs.
use Prim.Native.Nat.{ℕ, zero, suc}
use mathlib.Core.Path.{◌≡◌, refl}
use mathlib.Core.List.{List, [], ◌∷◌, map}
use lib.ListN.{length}
use Rattle.ptacl.specs.Term.{Policy, atom, allow, targeted, atoms}
use Rattle.ptacl.proofs.Pairs.{pairs_of}
use Rattle.ptacl.proofs.Worked.{Row, AllRight, resistant, exposed_at, table, worked}
use Rattle.files.specs.Encoding.{framed, pair_bytes, request_file}
use Rattle.files.specs.Refusal.{accepted, unframed}
use Rattle.files.specs.Prefix.{below, body, scan}
use Rattle.files.specs.ReadPolicy.{byte_at, head_at, pair_at, read_policy}
use Rattle.search.specs.Found.{two_files, exposure_files}

-- A to E as they are given; G, the same with its or spelled out, H and I; F and deny
abbrev pub bodies : List (List ℕ)
bodies =
    (0x23 ∷ 0x24 ∷ 0x23 ∷ 0x22 ∷ 0x10 ∷ 0 ∷ 1 ∷ 0 ∷ 1 ∷ 0x20 ∷ [])
    ∷ (0x24 ∷ 0x22 ∷ 0x10 ∷ 0 ∷ 1 ∷ 0 ∷ 2 ∷ 0x21 ∷ [])
    ∷ (0x22 ∷ 0x11 ∷ 0x10 ∷ 0 ∷ 1 ∷ 0 ∷ 1 ∷ 0x21 ∷ [])
    ∷ (0x22 ∷ 0x11 ∷ 0x12 ∷ 0x10 ∷ 0 ∷ 1 ∷ 0 ∷ 1 ∷ 0x21 ∷ [])
    ∷ (0x23 ∷ 0x23 ∷ 0x24 ∷ 0x22 ∷ 0x10 ∷ 0 ∷ 1 ∷ 0 ∷ 2 ∷ 0x21 ∷ [])
    ∷ (0x24 ∷ 0x22 ∷ 0x14 ∷ 0x10 ∷ 0 ∷ 1 ∷ 0 ∷ 2 ∷ 0x10 ∷ 0 ∷ 2 ∷ 0 ∷ 1 ∷ 0x21 ∷ [])
    ∷ (0x24 ∷ 0x22 ∷ 0x11 ∷ 0x13 ∷ 0x11 ∷ 0x10 ∷ 0 ∷ 1 ∷ 0 ∷ 2 ∷ 0x11 ∷ 0x10 ∷ 0 ∷ 2 ∷ 0 ∷ 1 ∷ 0x21 ∷ [])
    ∷ (0x26 ∷ 0x24 ∷ 0x22 ∷ 0x10 ∷ 0 ∷ 1 ∷ 0 ∷ 2 ∷ 0x21 ∷ 0x23 ∷ 0x22 ∷ 0x10 ∷ 0 ∷ 2 ∷ 0 ∷ 1 ∷ 0x20 ∷ [])
    ∷ (0x26 ∷ 0x23 ∷ 0x24 ∷ 0x23 ∷ 0x22 ∷ 0x10 ∷ 0 ∷ 1 ∷ 0 ∷ 1 ∷ 0x20 ∷ 0x24 ∷ 0x22 ∷ 0x10 ∷ 0 ∷ 1 ∷ 0 ∷ 2 ∷ 0x21 ∷ [])
    ∷ (0x21 ∷ [])
    ∷ (0x20 ∷ [])
    ∷ []

-- what a search leaves at the front of the space: for A its 18 bytes
abbrev pub fronts : List (List ℕ)
fronts =
    (1 ∷ 0 ∷ 4 ∷ 0 ∷ 1 ∷ 0 ∷ 0 ∷ 1 ∷ 0 ∷ 8 ∷ 0 ∷ 1 ∷ 0 ∷ 0 ∷ 0 ∷ 1 ∷ 0 ∷ 1 ∷ [])
    ∷ []
    ∷ (1 ∷ 0 ∷ 4 ∷ 0 ∷ 1 ∷ 0 ∷ 0 ∷ 1 ∷ 0 ∷ 8 ∷ 0 ∷ 1 ∷ 0 ∷ 0 ∷ 0 ∷ 1 ∷ 0 ∷ 1 ∷ [])
    ∷ (1 ∷ 0 ∷ 0 ∷ 1 ∷ 0 ∷ 4 ∷ 0 ∷ 1 ∷ 0 ∷ 1 ∷ [])
    ∷ []
    ∷ []
    ∷ []
    ∷ []
    ∷ (1 ∷ 0 ∷ 4 ∷ 0 ∷ 1 ∷ 0 ∷ 0 ∷ 1 ∷ 0 ∷ 8 ∷ 0 ∷ 1 ∷ 0 ∷ 0 ∷ 0 ∷ 1 ∷ 0 ∷ 1 ∷ [])
    ∷ []
    ∷ []
    ∷ []

abbrev front_of : Row → List ℕ
front_of r = elim r.verdict [ resistant ↦ [] | exposed_at m i ↦ exposure_files r.pairs m i ]

-- all of it: the bodies are read to the table's terms, the table is right, and these files are written
pub record FromBodies : Type 0 where
  pub read : map (λ b. read_policy (framed b)) bodies ≡ map (λ r. accepted r.policy) table
  pub right : AllRight table
  pub written : map front_of table ≡ fronts

pub from_bodies : FromBodies
unfolding read_policy unframed scan body below head_at byte_at pair_at two_files request_file framed pair_bytes
from_bodies = record { read = refl; right = worked; written = refl }

-- a policy with one atom for each of so many names
abbrev names : ℕ → Policy → Policy
names zero p = p
names (suc n) p = targeted (atom n 1) (names n p)

-- eight names with one value each are searched; one more value for one of them is refused 12
pub sixteen : length (pairs_of (atoms (names 8 allow))) ≡ 16
sixteen = refl

pub seventeen : length (pairs_of (atoms (targeted (atom 0 2) (names 8 allow)))) ≡ 17
seventeen = refl
