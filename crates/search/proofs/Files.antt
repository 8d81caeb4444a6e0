-- The files of two subsets, and of an exposure: at most 130 bytes for 16 pairs.
use Prim.Native.Nat.{ℕ, ◌+◌, ◌*◌, ◌-◌, ◌^◌, ◌≤◌, ◌<◌}
use mathlib.Core.Path.{◌≡◌, ◌∙◌}
use mathlib.Core.List.{List, ◌++◌, map}
use native.Mathlib.Omega.{arith}
use Rattle.std.specs.Prelude.{Some, None}
use lib.ListN.{length, length-append, length-map}
use Rattle.ptacl.specs.Request.{Pair}
use Rattle.ptacl.specs.Term.{Policy}
use Rattle.ptacl.specs.Exposure.{subset}
use Rattle.ptacl.proofs.Subset.{subset_map}
use Rattle.ptacl.proofs.Bits.{bit_below, bit_le}
use Rattle.files.specs.declared.pair.Pair.{Pair as PairC}
use Rattle.files.specs.Tags.{pair_of}
use Rattle.files.specs.Encoding.{request_file}
use Rattle.files.specs.Memory.{over}
use Rattle.files.proofs.Memory.{request_length}
use Rattle.search.specs.Hits.{Finds, FindsIn, nothing, at}
use Rattle.search.specs.Found.{two_files, exposure_files, Found, none, first}
use Rattle.search.proofs.Chosen.{subset_most, subset_less}

module _ (pairs : List PairC) (smaller larger : ℕ) where
  two_files_told : two_files (map pair_of pairs) smaller larger
      ≡ request_file (map pair_of (subset pairs smaller)) ++ request_file (map pair_of (subset pairs larger))
  unfolding two_files
  two_files_told = rw (subset_map pair_of pairs smaller, subset_map pair_of pairs larger)

  pub two_length : length (two_files (map pair_of pairs) smaller larger)
      ≡ 6 + 4 * length (subset pairs smaller) + 4 * length (subset pairs larger)
  two_length = rw two_files_told (simp (length-append, request_length, length-map) (omega arith))

  -- what was chosen and written
  module _ {xs ys : List PairC} (e : xs ≡ subset pairs smaller) (f : ys ≡ subset pairs larger) where
    pub two_fit : {n : ℕ} → length (two_files (map pair_of pairs) smaller larger) ≤ n → 6 + 4 * length xs + 4 * length ys ≤ n
    two_fit l = rw (e, f) (omega (arith, two_length))

    pub two_end : {n : ℕ} → n ≡ 6 + 4 * length xs + 4 * length ys → n ≡ length (two_files (map pair_of pairs) smaller larger)
    two_end w = w ∙ rw (two_length, e, f)

    pub two_written : (before : List ℕ) {after : List ℕ} → after ≡ over (request_file (map pair_of xs) ++ request_file (map pair_of ys)) before
        → after ≡ over (two_files (map pair_of pairs) smaller larger) before
    two_written before w = w ∙ rw (two_files_told, e, f)

-- an exposure's pair is one of these; its files fit
found_hit : {E : ℕ → ℕ → Type 0} {m i : ℕ} → Finds E (Some (record { m = m; i = i })) → E m i
found_hit (at f) = f.hit

module _ {p : Policy} (pairs : List PairC) {m i : ℕ} (x : FindsIn p (map pair_of pairs) (Some (record { m = m; i = i }))) where
  pub hit_index : i < length pairs
  hit_index = let h = found_hit x in bit_below m (length pairs) i (rw (length-map pairs pair_of) at h.numbered) h.taken

  pub hit_below : 2 ^ i ≤ m
  hit_below = bit_le m i (found_hit x).taken

  pub hit_length : length pairs ≤ 16 → length (exposure_files (map pair_of pairs) m i) ≤ 130
  hit_length l =
      let h = found_hit x in omega (arith, two_length pairs (m - 2 ^ i) m, subset_most pairs m, subset_less pairs m i hit_index h.taken)

-- from the first exposure to the search's answer
pub found_none : {p : Policy} {ps : List Pair} {before : List ℕ} → FindsIn p ps None → Found p ps before None before
found_none (nothing f) = none f

pub found_first : {p : Policy} {ps : List Pair} {before after : List ℕ} {m i bytes : ℕ} → FindsIn p ps (Some (record { m = m; i = i }))
    → bytes ≡ length (exposure_files ps m i) → after ≡ over (exposure_files ps m i) before
    → Found p ps before (Some (record { m = m; i = i; bytes = bytes })) after
found_first (at f) e g = rw (e, g) (first f)
