-- Decimal: a number's digits do not end a run, are few, and are read as the number; and a run that is read as a number is its digits.
use Prim.Native.Nat.{ℕ, zero, suc, ◌+◌, ◌*◌, ◌-◌, ◌/◌, ◌%◌, ◌^◌, ◌<◌, ◌≤◌}
use mathlib.Core.Path.{◌≡◌, refl, sym, ap, subst, ◌∙◌}
use mathlib.Core.Bool.{Bool, true, false, cond}
use mathlib.Core.List.{List, [], ◌∷◌, ◌++◌}
use native.Mathlib.Omega.{arith}
use lib.Dec.{ltb}
use lib.ListN.{length, take, drop, length-drop, length-append}
use lib.Seq.{take_all}
use borrow.Author.Tests.{ltb-true, lt-ltb, le-ltb, ne_eqb}
use Rattle.std.specs.Fmt.{decimal as printed}
use Rattle.std.specs.Str.{IsUtf8}
use Rattle.std.specs.Str.Parse.{ParsesUnsigned}
use Rattle.std.specs.Prelude.{Result, Ok, Err, Some, None, MatchResult}
use Rattle.std.specs.Result.{result_ok}
use Rattle.std.proofs.lemmas.Fmt.{decimal_by_steps, length-decimal-le, parse-decimal, IsAscii-decimal}
use Rattle.std.proofs.lemmas.List.{drop-append-le}
use Rattle.std.proofs.Math.ListN.{drop_of_length-le}
use Rattle.std.proofs.lemmas.Str.{IsUtf8-from_ascii}
use Rattle.ptacl.proofs.Bools.{either, and_left, and_right}
use Rattle.text.specs.Line.{digits, decimal}
use Rattle.text.specs.ReadText.{value, is_number}
use Rattle.text.proofs.Runs.{plain, plain_append, same_refl, same_true}

digit_plain : (n : ℕ) → plain ((48 + n) ∷ []) ≡ true
digit_plain n = simp (ne_eqb (48 + n) 32 (λ e. omega arith), ne_eqb (48 + n) 10 (λ e. omega arith))

-- what is proved of one digit, and of the digits before the last with the last, holds of all digits
by_digits : (P : List ℕ → Type 0) (k n : ℕ) → P ((48 + n) ∷ []) → P (digits k (n / 10) ++ ((48 + n % 10) ∷ [])) → P (digits (suc k) n)
unfolding digits
by_digits P k n f g = go (ltb n 10)
  where
    go : (c : Bool) → P (cond c ((48 + n) ∷ []) (digits k (n / 10) ++ ((48 + n % 10) ∷ [])))
    go true = f
    go false = g

pub digits_plain : (k n : ℕ) → plain (digits k n) ≡ true
unfolding digits
digits_plain zero n = refl
digits_plain (suc k) n =
    by_digits (λ w. plain w ≡ true) k n (digit_plain n) (plain_append (digits k (n / 10)) _ (digits_plain k (n / 10)) (digit_plain (n % 10)))

pub digits_short : (k n : ℕ) → length (digits k n) ≤ k
unfolding digits
digits_short zero n = omega arith
digits_short (suc k) n =
    by_digits (λ w. length w ≤ suc k) k n (omega arith)
    (omega (arith, digits_short k (n / 10), length-append (digits k (n / 10)) ((48 + n % 10) ∷ [])))

value_append : (v : ℕ) (xs : List ℕ) (d : ℕ) → value v (xs ++ (d ∷ [])) ≡ value v xs * 10 + (d - 48)
value_append v [] d = refl
value_append v (x ∷ xs) d = value_append (v * 10 + (x - 48)) xs d

-- the numbers of so many digits are below it
abbrev ten : ℕ → ℕ
ten zero = 1
ten (suc k) = 10 * ten k

value_digits : (k n : ℕ) → n < ten k → value 0 (digits k n) ≡ n
unfolding digits
value_digits zero n h = omega arith
value_digits (suc k) n h =
    by_digits (λ w. value 0 w ≡ n) k n (omega arith)
    (omega (arith, value_append 0 (digits k (n / 10)) (48 + n % 10), value_digits k (n / 10) (omega arith)))

pub value_decimal : (n : ℕ) → n < 65536 → value 0 (decimal n) ≡ n
value_decimal n h = value_digits 5 n (omega arith)

pub decimal_number : (n : ℕ) → n < 65536 → is_number (decimal n) ≡ true
unfolding is_number
decimal_number n h = rw (value_decimal n h, lt-ltb n 65536 h, same_refl (decimal n))

pub record Numeral (w : List ℕ) : Type 0 where
  pub few : value 0 w < 65536
  pub is : w ≡ decimal (value 0 w)

pub number_told : (w : List ℕ) → is_number w ≡ true → Numeral w
unfolding is_number
number_told w e = record {
  few = ltb-true (value 0 w) 65536 (and_left _ e);
  is = same_true w (decimal (value 0 w)) (and_right (ltb (value 0 w) 65536) e);
}

-- ---- as the library prints and parses it

-- the last digits are the last of what is printed
digits_printed : (k n : ℕ) → n < 2 ^ 64 → drop (length (printed n) - k) (printed n) ≡ digits k n
unfolding digits
digits_printed k n h = decimal_by_steps (λ m ds. (j : ℕ) → drop (length ds - j) ds ≡ digits j m) one more n h k
  where
    one : (m : ℕ) → m < 10 → (j : ℕ) → drop (1 - j) ((48 + m) ∷ []) ≡ digits j m
    one m l zero = refl
    one m l (suc j) = let z : 1 - suc j ≡ 0 = omega arith in rw (z, lt-ltb m 10 l)

    more : (m : ℕ) (ds : List ℕ) → 10 ≤ m → ((j : ℕ) → drop (length ds - j) ds ≡ digits j (m / 10))
        → (j : ℕ) → drop (length (ds ++ ((48 + m % 10) ∷ [])) - j) (ds ++ ((48 + m % 10) ∷ [])) ≡ digits j m
    more m ds l h zero = drop_of_length-le (ds ++ ((48 + m % 10) ∷ [])) (omega arith)
    more m ds l h (suc j) =
        let last = (48 + m % 10) ∷ [] in
        let z : length (ds ++ last) - suc j ≡ length ds - j = omega (arith, length-append ds last) in
        rw (z, le-ltb m 10 l) (drop-append-le (length ds - j) ds last (omega arith) ∙ ap (λ w. w ++ last) (h j))

-- so of a part of it, as it is lent
pub digits_cut : (k n d : ℕ) (s : List ℕ) → n < 2 ^ 64 → s ≡ printed n → d ≡ length s - k → take (length s - d) (drop d s) ≡ digits k n
digits_cut k n d s h e f = take_all (length s - d) (drop d s) (omega (arith, length-drop d s)) ∙ rw (f, e) (digits_printed k n h)

pub decimal_printed : (n : ℕ) → n < 65536 → printed n ≡ decimal n
decimal_printed n h =
    let z : length (printed n) - 5 ≡ 0 = omega (arith, length-decimal-le 5 n (omega arith) (omega arith) (omega arith)) in
    rw z at (digits_printed 5 n (omega arith))

-- what holds of a result's value, or of its error, by the Option that is made of it
module _ {A E : Type 0} (P : A → Type 0) (Q : E → Type 0) where
  pub value_told : (r : Result A E) (x : A) → result_ok r ≡ Some x → MatchResult r P Q → P x
  value_told (Ok y) x e m = let s : y ≡ x = cc e in subst P s m
  value_told (Err y) x e m = absurd cc

  pub error_told : {C : Type 0} (r : Result A E) → result_ok r ≡ None → MatchResult r P Q → ((e : E) → Q e → C) → C
  error_told (Ok y) e m f = absurd cc
  error_told (Err y) e m f = f y m

-- what is no number's text is none; and what is
module _ (w : List ℕ) where
  unless : ((n : ℕ) → n < 65536 → w ≡ printed n → ⊥) → is_number w ≡ false
  unless none = either (is_number w)
      (λ e. let m = number_told w e in absurd (none (value 0 w) m.few (m.is ∙ sym (decimal_printed (value 0 w) m.few))))
      (λ e. e)

  pub number_bytes : (IsUtf8 w → ⊥) → is_number w ≡ false
  number_bytes other = unless (λ n h e. other (subst IsUtf8 (sym e) (IsUtf8-from_ascii (printed n) (IsAscii-decimal n (omega arith)))))

  -- t: the run as text
  module _ {E : Type 0} (t : List ℕ) (is : t ≡ w) (r : Result ℕ E) (p : ParsesUnsigned 16 10 t r) where
    parsed : (n : ℕ) → n < 65536 → w ≡ printed n → r ≡ Ok n
    parsed n h e = parse-decimal 16 n t r (omega arith) (omega arith) (is ∙ e) p

    pub number_unparsed : result_ok r ≡ None → is_number w ≡ false
    number_unparsed failed = unless (λ n h e. different n (parsed n h e))
      where
        different : (n : ℕ) → r ≡ Ok n → ⊥
        different n e = let s : result_ok r ≡ Some n = ap result_ok e in cc

    pub number_otherwise : (n : ℕ) → result_ok r ≡ Some n → (decimal n ≡ w → ⊥) → is_number w ≡ false
    number_otherwise n o other = unless (λ m h e. other (again m h e (parsed m h e)))
      where
        again : (m : ℕ) → m < 65536 → w ≡ printed m → r ≡ Ok m → decimal n ≡ w
        again m h e f = let t : result_ok r ≡ Some m = ap result_ok f in let s : m ≡ n = cc (t, o) in sym (e ∙ decimal_printed m h ∙ ap decimal s)

  pub number_so : (n : ℕ) → n < 65536 → decimal n ≡ w → (is_number w ≡ true) × (value 0 w ≡ n)
  number_so n h e = rw (sym e) (decimal_number n h, value_decimal n h)
