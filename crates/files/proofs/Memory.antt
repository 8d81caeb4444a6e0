-- Laws of lent memory: one write behind another, a run of stores, a write into a part that is lent on; how long a request file is.
use Prim.Native.Nat.{ℕ, ◌+◌, ◌*◌, ◌-◌, ◌≤◌}
use mathlib.Core.Path.{◌≡◌, refl, sym, ap, ◌∙◌}
use mathlib.Core.List.{List, [], ◌∷◌, ◌++◌, append_assoc, append-nil}
use native.Mathlib.Omega.{arith}
use lib.ListN.{length, take, drop, length-append, length-drop}
use lib.Seq.{take-append_seam, take_at, take-length, drop_at, drop-length, drop-append-add, drop-drop}
use Rattle.ptacl.specs.Request.{Request}
use Rattle.files.specs.Encoding.{framed, pair_bytes, request_file}
use Rattle.files.specs.Memory.{put, over}

pub over_nil : (s : List ℕ) → over [] s ≡ s
unfolding over
over_nil s = refl

pub over_length : (xs s : List ℕ) → length xs ≤ length s → length (over xs s) ≡ length s
unfolding over
over_length xs s h = simp (length-append, length-drop) (omega arith)

-- two lists one behind the other: the second is over the part that starts after the first
pub over_front : (xs s : List ℕ) → take (length xs) (over xs s) ≡ xs
unfolding over
over_front xs s = take-append_seam xs (drop (length xs) s)

pub over_part : (xs ys s : List ℕ) → over (xs ++ ys) s ≡ xs ++ over ys (drop (length xs) s)
unfolding over
over_part xs ys s = rw (append_assoc, length-append, drop-drop)

-- a write behind another
pub over_put : (xs ys s : List ℕ) (n : ℕ) → n ≡ length xs → put n ys (over xs s) ≡ over (xs ++ ys) s
unfolding put over
over_put xs ys s n e = rw (e, take_at xs _ (length xs) refl, drop-append-add, drop-drop, length-append) (sym (append_assoc xs ys _))

-- a space whose part from n on was lent on, and written at the front of that part
pub over_lent : (xs ys s t u : List ℕ) (n : ℕ) → n ≡ length xs → t ≡ over xs s → u ≡ over ys (take (length t - n) (drop n t))
    → take n t ++ (u ++ drop (length t - n) (drop n t)) ≡ over (xs ++ ys) s
unfolding over
over_lent xs ys s t u n en et eu =
    let d : List ℕ = drop (length xs) s in
    let a : take n t ≡ xs = ap (take n) et ∙ take_at xs d n (sym en) in
    let b : drop n t ≡ d = ap (drop n) et ∙ drop_at xs d n (sym en) in
    let l : length t - n ≡ length d = sym (length-drop n t) ∙ ap length b in
    let v : u ≡ over ys d = rw (b, l, take-length) at eu in
    rw (a, b, l, drop-length, append-nil, v) (sym (over_part xs ys s))

pub put_front : (xs s : List ℕ) → put 0 xs s ≡ over xs s
unfolding put over
put_front xs s = let e : 0 + length xs ≡ length xs = omega arith in ap (λ (n : ℕ). xs ++ drop n s) e

pub body_length : (q : Request) → length (pair_bytes q) ≡ 4 * length q
unfolding pair_bytes
body_length [] = refl
body_length (x ∷ q) = omega (arith, body_length q)

pub request_length : (q : Request) → length (request_file q) ≡ 3 + 4 * length q
unfolding request_file framed
request_length q = omega (arith, body_length q)
