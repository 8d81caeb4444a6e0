-- What reading a file gives, and the refusals that both kinds of file share.
use Rattle.std.specs.Prelude.{ℕ, ◌+◌, ◌*◌, ◌-◌, cond, List, eqb, ltb, length, get_or}

-- what the file holds, or a refusal with its number and place
pub data Read (A : Type 0) : Type 0 where
  accepted : A → Read A
  refused : ℕ → ℕ → Read A

-- the number in the two bytes at a place
abbrev pub dec16 : List ℕ → ℕ → ℕ
dec16 s at = get_or s at 0 * 256 + get_or s (at + 1) 0

-- 1, 2, 3 for a policy, 21, 22, 23 for a request, before the body is read
unfoldable pub unframed : {A : Type 0} → ℕ → List ℕ → Read A → Read A
unframed first s body =
    cond (ltb (length s) 3) (refused first (length s))
    (cond (eqb (get_or s 0 0) 1) (cond (eqb (dec16 s 1) (length s - 3)) body (refused (first + 2) 1)) (refused (first + 1) 0))
