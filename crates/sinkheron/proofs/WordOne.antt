-- An input has one word and one content of lent memory; and a word is that of one answer: two permitted answers with the same word are equal.
use Prim.Native.Nat.{ℕ, ◌+◌, ◌*◌, ◌/◌, ◌%◌, ◌^◌, ◌<◌}
use mathlib.Core.Path.{◌≡◌, sym, ap, ◌∙◌}
use mathlib.Core.List.{List}
use native.Mathlib.Nat.{mul_assoc}
use native.Mathlib.Omega.{arith}
use lib.Pow.{high, low, pow-add, shl-shr}
use Rattle.files.specs.Encoding.{Bytes}
use Rattle.sinkheron.specs.Answer.{Answer, refusal, success, Promise, OneOutcome, word, Says}
use Rattle.sinkheron.specs.Decide as D
use Rattle.sinkheron.specs.ListPairs as L
use Rattle.sinkheron.specs.Output as O
use Rattle.sinkheron.specs.NormalForm as N
use Rattle.sinkheron.specs.ReadText as T
use Rattle.sinkheron.specs.WriteText as W
use Rattle.sinkheron.specs.Certify as C
use Rattle.sinkheron.specs.Search as S
use Rattle.sinkheron.proofs.Ranges.{Range, Ranged, decide_ranged, list_pairs_ranged, normal_form_ranged, read_text_ranged, write_text_ranged, certify_ranged, Can, search_ranged}

-- where a promise leaves one outcome, so does the C face
pub says_one : {E A M : Type 0} {answer_of : E → Answer A} {permits : Promise A M} {bits : A → ℕ} {m m' : M} {w w' : ℕ}
    → OneOutcome answer_of permits → Says answer_of bits permits w m → Says answer_of bits permits w' m' → ◌≡◌ {A = ℕ × M} (w, m) (w', m')
says_one {answer_of = answer_of} {bits = bits} t s r =
    let h = t.outcomes s.permitted r.permitted in
    let e = s.is_word ∙ (ap (λ z. word bits (answer_of z.0)) h ∙ sym r.is_word) in
    λ i. (e i, (h i).1)

-- the last k bits of a number, and those above them
digit : (k : ℕ) {a b a' b' : ℕ} → a < 2 ^ k → a' < 2 ^ k → b * 2 ^ k + a ≡ b' * 2 ^ k + a' → (a ≡ a') × (b ≡ b')
digit k {b = b} {b' = b'} h h' e = (
  sym (low b k h) ∙ (ap (λ (z : ℕ). z % 2 ^ k) e ∙ low b' k h'),
  sym (high b k h) ∙ (ap (λ (z : ℕ). z / 2 ^ k) e ∙ high b' k h'),
)

-- bits that leave the lowest byte free, and tell apart the values that an answer can have
record Packs {A : Type 0} (can : A → Type 0) (bits : A → ℕ) : Type 0 where
  free : (v : A) → bits v % 2 ^ 8 ≡ 0
  apart : {v w : A} → can v → can w → bits v ≡ bits w → v ≡ w

-- one value, in the bits from 8 + k on
one_value : (k : ℕ) {can : ℕ → Type 0} → Packs can (λ v. v * 2 ^ (k + 8))
one_value k = record {
  free = λ v. omega (arith, ap (λ (z : ℕ). v * z) (pow-add 2 k 8) ∙ sym (mul_assoc v (2 ^ k) (2 ^ 8)));
  apart = λ {v} {w} f g e. sym (shl-shr v (k + 8)) ∙ (ap (λ (z : ℕ). z / 2 ^ (k + 8)) e ∙ shl-shr w (k + 8));
}

-- a word is that of one answer
module _ {A : Type 0} {can : A → Type 0} {bits : A → ℕ} (p : Packs can bits) where
  apart_words : (x y : Answer A) → Range can x → Range can y → word bits x ≡ word bits y → x ≡ y
  apart_words (refusal n at) (refusal m bt) f g e =
      let k : n ≡ m = omega (arith, f.1, g.1) in
      let l : at ≡ bt = omega (arith, k) in
      λ i. refusal (k i) (l i)
  apart_words (refusal n at) (success v) f g e = absurd (omega (arith, f.0, f.1, p.free v))
  apart_words (success v) (refusal n at) f g e = absurd (omega (arith, g.0, g.1, p.free v))
  apart_words (success v) (success w) f g e = let h : bits v ≡ bits w = omega arith in ap success (p.apart f g h)

  word_one : {M : Type 0} {P Q : Promise A M} → Ranged can P → Ranged can Q → {x y : Answer A} {m n : M} → P x m → Q y n → word bits x ≡ word bits y → x ≡ y
  word_one f g {x} {y} {m} {n} d e = apart_words x y (f x m d) (g y n e)

module _ {s s' : List ℕ} (b : Bytes s) (b' : Bytes s') where
  pub decide_word_one : {q q' : List ℕ} {x y : Answer ℕ} → D.Decides s q x tt → D.Decides s' q' y tt → word D.bits x ≡ word D.bits y → x ≡ y
  decide_word_one = word_one (one_value 0) (decide_ranged b) (decide_ranged b')

  pub certify_word_one : {x y : Answer ℕ} → C.Certifies s x tt → C.Certifies s' y tt → word C.bits x ≡ word C.bits y → x ≡ y
  certify_word_one = word_one (one_value 4) (certify_ranged b) (certify_ranged b')

  pub list_pairs_word_one : {m n m' n' : List ℕ} {x y : Answer ℕ} → L.Lists s m x n → L.Lists s' m' y n' → word L.bits x ≡ word L.bits y → x ≡ y
  list_pairs_word_one = word_one (one_value 8) (list_pairs_ranged b) (list_pairs_ranged b')

  pub normal_form_word_one : {q m n q' m' n' : List ℕ} {x y : Answer ℕ} → N.Normalises s q m x n → N.Normalises s' q' m' y n'
      → word O.bits x ≡ word O.bits y → x ≡ y
  normal_form_word_one = word_one (one_value 24) (normal_form_ranged b) (normal_form_ranged b')

  pub write_text_word_one : {m n m' n' : List ℕ} {x y : Answer ℕ} → W.WritesText s m x n → W.WritesText s' m' y n' → word O.bits x ≡ word O.bits y → x ≡ y
  write_text_word_one = word_one (one_value 24) (write_text_ranged b) (write_text_ranged b')

  pub search_word_one : {m n m' n' : List ℕ} {x y : Answer S.Values} → S.Searches s m x n → S.Searches s' m' y n' → word S.bits x ≡ word S.bits y → x ≡ y
  search_word_one = word_one (record { free = λ v. omega arith; apart = same }) (search_ranged b) (search_ranged b')
    where
      nested : (x y : S.Values) → S.bits x ≡ S.bits y
          → (((x.hides * 2 ^ 16 + x.subset) * 2 ^ 8 + x.bytes) * 2 ^ 8 + x.pairs) * 2 ^ 8 + x.verdict
          ≡ (((y.hides * 2 ^ 16 + y.subset) * 2 ^ 8 + y.bytes) * 2 ^ 8 + y.pairs) * 2 ^ 8 + y.verdict
      nested x y v = omega arith

      same : {x y : S.Values} → Can x → Can y → S.bits x ≡ S.bits y → x ≡ y
      same {x} {y} f g v =
          let a = digit 8 (omega (arith, f.verdict)) (omega (arith, g.verdict)) (nested x y v) in
          let c = digit 8 (omega (arith, f.pairs)) (omega (arith, g.pairs)) a.1 in
          let d = digit 8 (omega (arith, f.bytes)) (omega (arith, g.bytes)) c.1 in
          let m = digit 16 f.subset g.subset d.1 in
          λ i. record { verdict = a.0 i; pairs = c.0 i; subset = m.0 i; hides = m.1 i; bytes = d.0 i }

pub read_text_word_one : {s m n s' m' n' : List ℕ} {x y : Answer ℕ} → T.ReadsText s m x n → T.ReadsText s' m' y n' → word O.bits x ≡ word O.bits y → x ≡ y
read_text_word_one = word_one (one_value 24) read_text_ranged read_text_ranged
