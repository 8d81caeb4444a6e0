-- The refusals that both kinds of file share: one law for each case, and what the code's answer tells of the bytes.
use Prim.Native.Nat.{ℕ, ◌+◌, ◌-◌, ◌<◌, ◌≤◌}
use mathlib.Core.Path.{◌≡◌, refl, ap, sym, ◌∙◌}
use mathlib.Core.Bool.{true≢false}
use mathlib.Core.List.{List, ◌∷◌}
use native.Mathlib.Decide.{dec_lt, ℕ_discrete}
use native.Mathlib.Omega.{arith}
use mir.Syntax.{w8}
use mir.Val.{Fits}
use lib.ListN.{length, drop, get_or, length-drop}
use lib.Seq.{drop-cons}
use borrow.Author.Tests.{eq-eqb, ne_eqb, lt-ltb, le-ltb}
use Rattle.ptacl.specs.Request.{Request}
use Rattle.files.specs.Encoding.{framed, Bytes}
use Rattle.files.specs.Refusal.{Read, accepted, refused, dec16, unframed}
use Rattle.std.specs.Prelude.{Result, Ok, Err, IfErr, IsErr, IsErrAnd}
use Rattle.files.specs.Faults.{WholeFile, fault_number, frame_offset, OfFrame, OfRequestFrame, RequestGives}
use Rattle.files.specs.ReadRequest.{read_request_from}
use Rattle.files.specs.declared.fault.PolicyError.{PolicyError}
use Rattle.files.specs.declared.fault.RequestError.{RequestError}
use Rattle.files.specs.declared.frame.FrameError.{FrameError}
use Rattle.files.specs.ReadPolicy.{read_policy}
use Rattle.files.proofs.BigEndian.{big_dec16}

-- what reading a file may give: what it is the file of, or a refusal within bounds
abbrev pub Gives : {A : Type 0} → (A → Type 0) → (ℕ → ℕ → Type 0) → Read A → Type 0
Gives IsFile Bounds (accepted a) = IsFile a
Gives IsFile Bounds (refused n p) = Bounds n p

module _ {A : Type 0} (first : ℕ) (s : List ℕ) (body : Read A) where
  pub unframed_short : length s < 3 → unframed first s body ≡ refused first (length s)
  unfolding unframed
  unframed_short h = rw (lt-ltb _ _ h)

  module _ (h : 3 ≤ length s) where
    pub unframed_version : (get_or s 0 0 ≡ 1 → ⊥) → unframed first s body ≡ refused (first + 1) 0
    unfolding unframed
    unframed_version v = rw (le-ltb _ _ h, ne_eqb _ _ v)

    pub unframed_length : get_or s 0 0 ≡ 1 → (dec16 s 1 ≡ length s - 3 → ⊥) → unframed first s body ≡ refused (first + 2) 1
    unfolding unframed
    unframed_length v d = rw (le-ltb _ _ h, eq-eqb _ _ v, ne_eqb _ _ d)

  pub unframed_whole : WholeFile s → unframed first s body ≡ body
  unfolding unframed
  unframed_whole w = rw (le-ltb _ _ w.long, eq-eqb _ _ w.version, eq-eqb _ _ w.stated)

-- a lent slice of bytes, as a function knows it
pub lent_bytes : {s : List ℕ} → ((i : ℕ) → Fits w8 (get_or s i 0)) → Bytes s
lent_bytes f = record { byte = λ i. omega (arith, f i) }

pub whole_short : {s : List ℕ} → WholeFile s → Bytes s → length s ≤ 65538
whole_short w b = omega (arith, w.stated, b.byte 1, b.byte 2)

-- the whole files are the frames of their bodies
pub framed_whole : (body : List ℕ) → WholeFile (framed body)
unfolding framed
framed_whole body = record { long = omega arith; version = refl; stated = omega arith }

pub framed_body : {s : List ℕ} → WholeFile s → Bytes s → framed (drop 3 s) ≡ s
unfolding framed
framed_body {s} w b =
    let l = w.long in
    let e : length (drop 3 s) ≡ dec16 s 1 = length-drop 3 s ∙ sym w.stated in
    let f : drop 0 s ≡ 1 ∷ drop 1 s = drop-cons s 0 0 (omega arith) ∙ ap (λ v. v ∷ drop 1 s) w.version in
    rw (e, big_dec16 b 1 (omega arith)) (sym f)

-- one of them, whatever the body is
pub record Refusal (first : ℕ) (s : List ℕ) (n p : ℕ) : Type 1 where
  pub low : first ≤ n
  pub high : n ≤ first + 2
  pub place : p < 3
  pub given : {A : Type 0} (body : Read A) → unframed first s body ≡ refused n p

pub data Framing (first : ℕ) (s : List ℕ) : Type 1 where
  faulty : (n p : ℕ) → Refusal first s n p → Framing first s
  whole : WholeFile s → Framing first s

module _ (first : ℕ) (s : List ℕ) where
  pub framing : Framing first s
  framing = elim (dec_lt (length s) 3) [
    | yes h ↦ faulty first (length s) (record {
      low = omega arith;
      high = omega arith;
      place = h;
      given = λ body. unframed_short first s body h;
    })
    | no m ↦ elim (ℕ_discrete (get_or s 0 0) 1) [
      | no n ↦ faulty (first + 1) 0 (record {
        low = omega arith;
        high = omega arith;
        place = omega arith;
        given = λ body. unframed_version first s body (omega arith) n;
      })
      | yes v ↦ elim (ℕ_discrete (dec16 s 1) (length s - 3)) [
        | no n ↦ faulty (first + 2) 1 (record {
          low = omega arith;
          high = omega arith;
          place = omega arith;
          given = λ body. unframed_length first s body (omega arith) v n;
        })
        | yes d ↦ whole (record { long = omega arith; version = v; stated = d })
      ]
    ]
  ]

  -- refused for one body, it is for all
  module _ {n p : ℕ} (e : unframed first s (accepted (tt {0})) ≡ refused n p) where
    pub refusal : Refusal first s n p
    refusal = at framing
      where
        at : Framing first s → Refusal first s n p
        at (faulty m q r) =
            let f : ◌≡◌ {A = Read (Unit {0})} (refused m q) (refused n p) = sym (r.given (accepted tt)) ∙ e in
            let a : m ≡ n = cc in
            let b : q ≡ p = cc in
            rw (← a, ← b) r
        at (whole w) = absurd (true≢false (cc (unframed_whole first s (accepted (tt {0})) w)))

    pub refused_frame : {A : Type 0} (body : Read A) → unframed first s body ≡ refused n p
    refused_frame body = refusal.given body

pub policy_unframed : (s : List ℕ) (n p : ℕ) → unframed 1 s (accepted (tt {0})) ≡ refused n p → read_policy s ≡ refused n p
unfolding read_policy
policy_unframed s n p e = refused_frame 1 s e _

-- so by the error that a frame's becomes
pub policy_framed : {X : Type 0} (s : List ℕ) (frame : FrameError) (r : Result X PolicyError) → IsErrAnd r (OfFrame frame)
    → unframed 1 s (accepted (tt {0})) ≡ refused (1 + frame_offset frame.fault) frame.place
    → IfErr r (λ e. read_policy s ≡ refused (fault_number e.fault) e.place)
policy_framed s frame (Err e) o h = rw (o.0, o.1) (policy_unframed s _ _ h)
policy_framed s frame (Ok x) o h = tt

pub request_framed : {X : Type 0} (view : X → Request) (s : List ℕ) (frame : FrameError) (r : Result X RequestError)
    → IsErr r × IsErrAnd r (OfRequestFrame frame) → unframed 21 s (accepted (tt {0})) ≡ refused (21 + frame_offset frame.fault) frame.place
    → RequestGives view r (read_request_from 21 s)
unfolding read_request_from
request_framed view s frame (Err e) o h = rw (o.1.0, o.1.1) (refused_frame 21 s h _)
request_framed view s frame (Ok x) o h = absurd (true≢false (sym o.0))
