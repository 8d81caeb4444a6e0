-- Runs of bytes: a word is the run before a space or a line feed; a run is compared byte by byte; what is due behind it.
use Prim.Native.Nat.{ℕ, ◌+◌, ◌-◌, ◌≤◌, ◌<◌}
use mathlib.Core.Path.{◌≡◌, refl, sym, ap, subst, ◌∙◌}
use mathlib.Core.Bool.{Bool, true, false, cond, not, ◌&&◌}
use mathlib.Core.List.{List, [], ◌∷◌, ◌++◌}
use native.Mathlib.Omega.{arith}
use lib.Dec.{eqb, ltb}
use lib.ListN.{length, take, drop, get_or, length-drop}
use lib.Seq.{drop-drop, take_at, take_all}
use borrow.Author.Tests.{ltb-true, ltb-false, eqb-true, lt-ltb, eq-eqb}
use Rattle.std.specs.Prelude.{Some, None}
use Rattle.std.specs.List.{position, position_or_len}
use Rattle.std.proofs.lemmas.List.Recursion.{is_position_or_len}
use Rattle.ptacl.proofs.Bools.{clash, and_left, and_right}
use Rattle.files.specs.Refusal.{Read, accepted, refused}
use Rattle.files.specs.Places.{At}
use Rattle.files.proofs.Places.{room, head, more}
use Rattle.text.specs.Line.{End, space, line_feed, byte_of}
use Rattle.text.specs.ReadText.{ends, run, run_at, same, another, past}

-- ---- runs

-- no byte of it ends a run
abbrev pub plain : List ℕ → Bool
plain [] = true
plain (x ∷ xs) = not (ends x) && plain xs

pub plain_append : (xs ys : List ℕ) → plain xs ≡ true → plain ys ≡ true → plain (xs ++ ys) ≡ true
plain_append [] ys p q = q
plain_append (x ∷ xs) ys p q = go (ends x) p (λ h. plain_append xs ys h q)
  where
    go : (e : Bool) → (not e && plain xs) ≡ true → (plain xs ≡ true → plain (xs ++ ys) ≡ true) → (not e && plain (xs ++ ys)) ≡ true
    go false p f = f p
    go true p f = clash p refl

ends_run : (e : End) → ends (byte_of e) ≡ true
ends_run space = refl
ends_run line_feed = refl

-- what is written so is a run
pub run_plain : (w : List ℕ) (e : End) (rest : List ℕ) → plain w ≡ true → run (w ++ (byte_of e ∷ rest)) ≡ w
run_plain [] e rest p = rw (ends_run e)
run_plain (x ∷ w) e rest p = go (ends x) p (run_plain w e rest)
  where
    go : (c : Bool) → (not c && plain w) ≡ true → (plain w ≡ true → run (w ++ (byte_of e ∷ rest)) ≡ w)
        → cond c [] (x ∷ run (w ++ (byte_of e ∷ rest))) ≡ x ∷ w
    go false p f = ap (λ (z : List ℕ). x ∷ z) (f p)
    go true p f = clash p refl

-- a run is the beginning of what it is taken from
run_front : (xs : List ℕ) → xs ≡ run xs ++ drop (length (run xs)) xs
run_front [] = refl
run_front (x ∷ xs) = go (run_front xs) (ends x)
  where
    go : xs ≡ run xs ++ drop (length (run xs)) xs → (c : Bool)
        → x ∷ xs ≡ cond c [] (x ∷ run xs) ++ drop (length (cond c [] (x ∷ run xs))) (x ∷ xs)
    go f true = refl
    go f false = ap (λ (z : List ℕ). x ∷ z) f

pub run_at_splits : (b : List ℕ) (at : ℕ) → drop at b ≡ run_at b at ++ drop (at + length (run_at b at)) b
run_at_splits b at = run_front (drop at b) ∙ ap (λ (z : List ℕ). run_at b at ++ z) (drop-drop (length (run_at b at)) at b)

-- so it is cut off where a byte ends it, and else is the whole
run_length : (xs : List ℕ) → length (run xs) ≡ position_or_len ends xs
run_length = is_position_or_len (λ xs. length (run xs)) ends refl (λ x xs. go x xs (ends x))
  where
    go : (x : ℕ) (xs : List ℕ) (c : Bool) → length (cond c [] (x ∷ run xs)) ≡ cond c 0 (1 + length (run xs))
    go x xs true = refl
    go x xs false = omega arith

run_taken : (xs : List ℕ) → take (length (run xs)) xs ≡ run xs
run_taken xs = ap (take (length (run xs))) (run_front xs) ∙ take_at (run xs) _ (length (run xs)) refl

run_cut : (xs : List ℕ) {n : ℕ} → position ends xs ≡ Some n → take n xs ≡ run xs
run_cut xs {n} e = rw (sym (found (ltb (position_or_len ends xs) (length xs)) e), sym (run_length xs)) (run_taken xs)
  where
    found : (c : Bool) → cond c (Some (position_or_len ends xs)) None ≡ Some n → position_or_len ends xs ≡ n
    found true e = cc
    found false e = cc

run_whole : (xs : List ℕ) → position ends xs ≡ None → xs ≡ run xs
run_whole xs e = sym (take_all (length (run xs)) xs (omega (arith, none (ltb (position_or_len ends xs) (length xs)) refl e, run_length xs))) ∙ run_taken xs
  where
    none : (c : Bool) → ltb (position_or_len ends xs) (length xs) ≡ c → cond c (Some (position_or_len ends xs)) None ≡ None → length xs ≤ position_or_len ends xs
    none true t e = cc
    none false t e = ltb-false (position_or_len ends xs) (length xs) t

-- a part of the text, from a place on, as it is lent
module _ (b : List ℕ) (at : ℕ) where
  abbrev rest : List ℕ
  rest = take (length b - at) (drop at b)

  rest_is : rest ≡ drop at b
  rest_is = take_all (length b - at) (drop at b) (omega (arith, length-drop at b))

  pub run_at_cut : (n : ℕ) → position ends rest ≡ Some n → take n rest ≡ run_at b at
  run_at_cut n e = run_cut rest e ∙ ap run rest_is

  pub run_at_whole : position ends rest ≡ None → rest ≡ run_at b at
  run_at_whole e = run_whole rest e ∙ ap run rest_is

-- ---- runs that are the same byte by byte are the same

pub same_refl : (xs : List ℕ) → same xs xs ≡ true
same_refl [] = refl
same_refl (x ∷ xs) = rw (eq-eqb x x refl) (same_refl xs)

pub same_true : (xs ys : List ℕ) → same xs ys ≡ true → xs ≡ ys
same_true [] [] e = refl
same_true [] (y ∷ ys) e = clash e refl
same_true (x ∷ xs) [] e = clash e refl
same_true (x ∷ xs) (y ∷ ys) e = rw (eqb-true x y (and_left _ e), same_true xs ys (and_right (eqb x y) e))

-- ---- what is due behind a run

pub past_reads : {b : List ℕ} {at : ℕ} (e : End) → At b at (byte_of e ∷ []) → past b e at ≡ accepted (at + 1)
unfolding past
past_reads {b} {at} e h = simp (lt-ltb at (length b) (room h), eq-eqb (get_or b at 0) (byte_of e) (head h))

pub record Passed (b : List ℕ) (e : End) (at next : ℕ) : Type 0 where
  pub bytes : drop at b ≡ byte_of e ∷ drop next b
  pub inside : next ≤ length b

-- a refusal has a number, and a place in the text
pub record Faulty (b : List ℕ) (number place : ℕ) : Type 0 where
  pub low : 0 < number
  pub high : number < 256
  pub within : place ≤ length b

-- and the place is not beyond `far`
pub record Off (b : List ℕ) (far number place : ℕ) : Type 0 where
  pub faulty : Faulty b number place
  pub near : place ≤ far

pub off : {b : List ℕ} {far number place : ℕ} → 0 < number → number < 256 → place ≤ length b → place ≤ far → Off b far number place
off l h w n = record { faulty = record { low = l; high = h; within = w }; near = n }

pub farther : {b : List ℕ} {far more number place : ℕ} → far ≤ more → Off b far number place → Off b more number place
farther l w = record { faulty = w.faulty; near = omega (arith, w.near) }

abbrev pub ToldPast : (b : List ℕ) (e : End) (at : ℕ) → Read ℕ → Type 0
ToldPast b e at (accepted next) = Passed b e at next
ToldPast b e at (refused number place) = Off b at number place

pub past_told : (b : List ℕ) (e : End) (at : ℕ) → ToldPast b e at (past b e at)
unfolding past
past_told b e at = go (ltb at (length b)) (eqb (get_or b at 0) (byte_of e)) e refl refl
  where
    go : (i c : Bool) (f : End) → ltb at (length b) ≡ i → eqb (get_or b at 0) (byte_of e) ≡ c
        → ToldPast b e at (cond i (cond c (accepted (at + 1)) (refused (another f) at)) (refused 53 (length b)))
    go true true f p q =
        let i = ltb-true at (length b) p in
        record { bytes = more b at i ∙ ap (λ (x : ℕ). x ∷ drop (at + 1) b) (eqb-true _ _ q); inside = omega arith }
    go true false space p q =
        let i = ltb-true at (length b) p in
        off (omega arith) (omega arith) (omega arith) (omega arith)
    go true false line_feed p q =
        let i = ltb-true at (length b) p in
        off (omega arith) (omega arith) (omega arith) (omega arith)
    go false c f p q =
        let i = ltb-false at (length b) p in
        off (omega arith) (omega arith) (omega arith) (omega arith)

-- so the place behind lies in the text
pub past_inside : (b : List ℕ) (e : End) (at : ℕ) {next : ℕ} → past b e at ≡ accepted next → next ≤ length b
past_inside b e at h = (subst (ToldPast b e at) h (past_told b e at)).inside
