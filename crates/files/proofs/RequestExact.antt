-- A file is read as a request exactly if it is that request's file.
use Prim.Native.Nat.{ℕ, ◌+◌, ◌*◌, ◌-◌, ◌/◌, ◌%◌, ◌≤◌}
use mathlib.Core.Path.{◌≡◌, refl, sym, ap, subst, ◌∙◌}
use mathlib.Core.Logic.{◌↔◌}
use mathlib.Core.Bool.{true≢false}
use mathlib.Core.List.{List}
use native.Mathlib.Decide.{dec_lt, ℕ_discrete}
use native.Mathlib.Omega.{arith}
use lib.ListN.{length}
use Rattle.ptacl.specs.Request.{Request}
use Rattle.files.specs.Encoding.{framed, pair_bytes, request_file, FitsRequest, IsRequest, Bytes}
use Rattle.files.specs.Refusal.{Read, accepted, refused}
use Rattle.files.specs.ReadRequest.{pairs_at, in_order, read_request_from}
use Rattle.files.specs.Faults.{WholeFile}
use Rattle.files.proofs.Framing.{Gives, framed_whole, framed_body, Framing, faulty, whole, framing}
use Rattle.files.proofs.Memory.{request_length}
use Rattle.files.proofs.InOrder.{Ordering, ascends, falls, ordering}
use Rattle.files.proofs.RequestBody.{pairs_range, pairs_length, pairs_bytes, bytes_pairs}
use Rattle.files.proofs.RequestCases.{request_unframed, request_uneven, request_many, request_pairs}

file_pairs : (q : Request) → pairs_at (length q) (request_file q) 3 ≡ q
unfolding request_file framed
file_pairs q = bytes_pairs q (request_file q) 3 refl

pub request_file_injective : (q r : Request) → request_file q ≡ request_file r → q ≡ r
request_file_injective q r e =
    let f = ap length e in
    let l : length q ≡ length r = omega (arith, request_length q, request_length r) in
    sym (file_pairs q) ∙ (rw (l, e) (file_pairs r))

pub reads : (first : ℕ) (q : Request) → FitsRequest q → read_request_from first (request_file q) ≡ accepted q
unfolding request_file
reads first q f =
    let s : List ℕ = request_file q in
    let l = request_length q in
    let few = f.few in
    let n : (length s - 3) / 4 ≡ length q = omega arith in
    let e : pairs_at ((length s - 3) / 4) s 3 ≡ q = ap (λ k. pairs_at k s 3) n ∙ file_pairs q in
    request_pairs first (framed_whole (pair_bytes q)) (omega arith) (omega arith) ∙ ap (λ ps. in_order (first + 5) ps 3 ps) e ∙ up (ordering (first + 5) q 3 q)
  where
    up : Ordering (first + 5) q 3 q → in_order (first + 5) q 3 q ≡ accepted q
    up (ascends a i) = i
    up (falls k m l a i) = absurd (true≢false (sym f.ordered ∙ a))

pub request_reads : (first : ℕ) {s : List ℕ} {q : Request} → IsRequest s q → read_request_from first s ≡ accepted q
request_reads first {q = q} i = ap (read_request_from first) i.file ∙ reads first q i.fits

module _ (first : ℕ) (s : List ℕ) where
  -- what reading may give
  abbrev GivesRequest : Read Request → Type 0
  GivesRequest = Gives (λ q. Bytes s → IsRequest s q) (λ n p. (first ≤ n) × (n ≤ first + 5) × (p ≤ 1027))

  ordered : WholeFile s → (n : ℕ) → n ≤ 256 → 3 + 4 * n ≡ length s
      → Ordering (first + 5) (pairs_at n s 3) 3 (pairs_at n s 3) → GivesRequest (in_order (first + 5) (pairs_at n s 3) 3 (pairs_at n s 3))
  unfolding request_file
  ordered w n few l (falls k m h a i) = rw i (omega arith, omega arith, omega (arith, pairs_length n s 3))
  ordered w n few l (ascends a i) = rw i (λ b. record {
    file = sym (ap framed (pairs_bytes b n 3 l) ∙ framed_body w b);
    fits = record { few = omega (arith, pairs_length n s 3); ordered = a; range = pairs_range b n 3 };
  })

  gives : GivesRequest (read_request_from first s)
  gives = go (framing first s)
    where
      go : Framing first s → GivesRequest (read_request_from first s)
      go (faulty n p r) = rw (request_unframed first r) (r.low, omega (arith, r.high), omega (arith, r.place))
      go (whole w) = elim (ℕ_discrete ((length s - 3) % 4) 0) [
        | no u ↦ rw (request_uneven first w u) (omega arith, omega arith, omega arith)
        | yes m ↦ elim (dec_lt 256 ((length s - 3) / 4)) [
          | yes k ↦ rw (request_many first w m k) (omega arith, omega arith, omega arith)
          | no k ↦
              let h : (length s - 3) / 4 ≤ 256 = omega arith in
              let l = w.long in
              rw (request_pairs first w m h) (ordered w ((length s - 3) / 4) h (omega arith) (ordering _ _ 3 _))
        ]
      ]

pub request_exact : (first : ℕ) (s : List ℕ) → Bytes s → (q : Request) → (read_request_from first s ≡ accepted q) ↔ IsRequest s q
request_exact first s b q = ((λ e. subst (GivesRequest first s) e (gives first s) b), request_reads first)

pub request_refused_range : (first : ℕ) (s : List ℕ) {n p : ℕ} → read_request_from first s ≡ refused n p → (first ≤ n) × (n ≤ first + 5) × (p ≤ 1027)
request_refused_range first s e = subst (GivesRequest first s) e (gives first s)
