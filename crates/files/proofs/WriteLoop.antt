-- The loop that writes a request's pairs behind the frame: the first i are there.
use Prim.Native.Nat.{ℕ, ◌+◌, ◌*◌, ◌/◌, ◌%◌, ◌≤◌, ◌<◌}
use mathlib.Core.Path.{◌≡◌, refl, ap, ◌∙◌}
use mathlib.Core.List.{List, [], ◌∷◌, ◌++◌, map, map-append}
use native.Mathlib.Numerals.{add-one}
use native.Mathlib.Omega.{arith}
use lib.ListN.{length, take, get_or, length-map}
use lib.Seq.{take-suc, take_all, length-take-le}
use Rattle.ptacl.specs.Request.{Request}
use Rattle.files.specs.Encoding.{big, framed, pair_bytes, request_file}
use Rattle.files.specs.Tags.{pair_of}
use Rattle.files.specs.declared.pair.Pair.{Pair}
use Rattle.files.specs.Memory.{put, over}
use Rattle.files.proofs.Memory.{over_length, over_put, put_front, body_length}

body_append : (xs ys : Request) → pair_bytes (xs ++ ys) ≡ pair_bytes xs ++ pair_bytes ys
unfolding pair_bytes
body_append [] ys = refl
body_append (x ∷ xs) ys = ap (λ r. big x.0 (big x.1 r)) (body_append xs ys)

-- the frame of the whole file and the bytes of its first i pairs
abbrev begun : List Pair → ℕ → List ℕ
begun ps i = 1 ∷ big (4 * length ps) (pair_bytes (map pair_of (take i ps)))

pub record Writing (ps : List Pair) (before space : List ℕ) (i end : ℕ) : Type 0 where
  pub most : i ≤ length ps
  pub room : 3 + 4 * length ps ≤ length before
  pub here : end ≡ 3 + 4 * i
  pub part : space ≡ over (begun ps i) before

begun_length : (ps : List Pair) (i : ℕ) → i ≤ length ps → length (begun ps i) ≡ 3 + 4 * i
begun_length ps i h = simp (body_length, length-map, length-take-le) (omega arith)

begun_more : (ps : List Pair) (i : ℕ) (d : Pair) → i < length ps → begun ps i ++ pair_bytes (pair_of (get_or ps i d) ∷ []) ≡ begun ps (i + 1)
begun_more ps i d h = rw (add-one i, take-suc ps i d h, map-append, body_append)

pub writing_start : (ps : List Pair) (s space : List ℕ) → length ps ≤ 256 → 3 + 4 * length ps ≤ length s
    → space ≡ put 0 (1 ∷ 4 * length ps / 256 % 256 ∷ 4 * length ps % 256 ∷ []) s → Writing ps s space 0 3
unfolding pair_bytes
writing_start ps s space few room e =
    let h : 4 * length ps / 256 % 256 ≡ 4 * length ps / 256 = omega arith in
    record { most = omega arith; room = room; here = refl; part = rw h at (e ∙ put_front _ s) }

module _ {ps : List Pair} {before space : List ℕ} {i end : ℕ} (w : Writing ps before space i end) where
  pub writing_size : length space ≡ length before
  writing_size = ap length w.part ∙ over_length (begun ps i) before (omega (arith, begun_length ps i w.most, w.room, w.most))

  module _ {bytes : List ℕ} (d : Pair) (h : i < length ps) (e : bytes ≡ pair_bytes (pair_of (get_or ps i d) ∷ [])) where
    pub writing_room : end + length bytes ≤ length space
    unfolding pair_bytes
    writing_room = omega (arith, ap length e, w.here, w.room, writing_size)

    pub writing_more : {next : List ℕ} → next ≡ put end bytes space → Writing ps before next (i + 1) (end + 4)
    writing_more f = record {
      most = omega arith;
      room = w.room;
      here = omega (arith, w.here);
      part =
          f ∙ rw (e, w.part) (over_put (begun ps i) _ before end (omega (arith, w.here, begun_length ps i w.most)))
          ∙ ap (λ xs. over xs before) (begun_more ps i d h);
    }

  pub writing_end : length ps ≤ i → (end ≡ 3 + 4 * length ps) × (space ≡ over (request_file (map pair_of ps)) before)
  unfolding request_file framed
  writing_end h =
      let f : begun ps i ≡ request_file (map pair_of ps) = rw (take_all i ps h, body_length, length-map) in
      (omega (arith, w.most, w.here), w.part ∙ ap (λ xs. over xs before) f)

pub ruleset writing_laws = (writing_start, writing_size, writing_room, writing_more, writing_end)
