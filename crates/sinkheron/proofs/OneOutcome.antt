-- How a promise is shown to leave one outcome: each way keeps it, and a definition back from answers tells the results apart.
use Prim.Native.Nat.{ℕ}
use mathlib.Core.Path.{◌≡◌, refl, sym, ap, subst, ◌∙◌}
use mathlib.Core.Bool.{Bool, true≢false}
use mathlib.Core.List.{List}
use Rattle.std.specs.Prelude.{Result, Ok, Err}
use Rattle.ptacl.specs.Request.{Request}
use Rattle.ptacl.specs.Term.{Policy}
use Rattle.ptacl.proofs.Bools.{clash}
use Rattle.files.specs.Refusal.{Read, accepted}
use Rattle.files.proofs.PolicyExact.{policy_reads}
use Rattle.files.proofs.RequestExact.{request_reads}
use Rattle.text.proofs.TextExact.{text_reads}
use Rattle.sinkheron.specs.Answer.{Answer, refusal, success, Promise, OneOutcome}
use Rattle.sinkheron.specs.Refusals.{answer_of}
use Rattle.sinkheron.specs.declared.refusal.Refusal.{Refusal}
use Rattle.sinkheron.proofs.Refusals.{refusal_of, refusal_back}
use Rattle.sinkheron.specs.Ways.{OfPolicy, OfText, OfRequest, Reads, unread, holding, The, the, RefusedIf, stops, passes, Gives, gives}
use Rattle.sinkheron.proofs.Ranges.{Ranged}

-- any two outcomes are equal
abbrev pub One : {A M : Type 0} → Promise A M → Type 0
One {A} {M} permits = (x y : Answer A) (m m' : M) → permits x m → permits y m' → ◌≡◌ {A = Answer A × M} (x, m) (y, m')

-- the result that an answer is told of, where the values tell what succeeded
module _ {E A : Type 0} (of_values : A → E) where
  abbrev result_of : Answer A → Result E Refusal
  result_of (refusal n at) = Err (refusal_of n at)
  result_of (success v) = Ok (of_values v)

  module _ (values : E → A) (its : (a : E) → of_values (values a) ≡ a) where
    result_back : (r : Result E Refusal) → result_of (answer_of values r) ≡ r
    result_back (Ok a) = ap Ok (its a)
    result_back (Err e) = ap Err (refusal_back e)

    pub results_same : (r r' : Result E Refusal) → answer_of values r ≡ answer_of values r' → r ≡ r'
    results_same r r' e = sym (result_back r) ∙ (ap result_of e ∙ result_back r')

    pub one_outcome : {M : Type 0} {permits : Promise A M} {can : A → Type 0} → One permits → Ranged can permits → OneOutcome (answer_of values) permits
    one_outcome one ranged = record {
      outcomes = λ {r} {r'} d e.
          let h = one _ _ _ _ d e in
          let s = results_same r r' (ap (λ z. z.0) h) in
          λ i. (s i, (h i).1);
      refusals = λ d. (ranged _ _ d).0;
    }

module _ {A M : Type 0} where
  reads_one : {F : Type 0} {read : Read F} {IsFile : F → Type 0} {before : M} {follows : F → Promise A M}
      → ((f : F) → IsFile f → read ≡ accepted f) → ((f : F) → One (follows f)) → One (Reads read IsFile before follows)
  reads_one {before = before} r o _ _ _ _ (unread {n} {at} d) (unread {n = n'} {at = at'} e) =
      let k : n ≡ n' = cc in
      let l : at ≡ at' = cc in
      λ i. (refusal (k i) (l i), before)
  reads_one r o _ _ _ _ (unread d) (holding {f} h e) = let g = r f h in absurd (true≢false cc)
  reads_one r o _ _ _ _ (holding {f} h d) (unread e) = let g = r f h in absurd (true≢false cc)
  reads_one {follows = follows} r o x y m m' (holding {f} h d) (holding {f = f'} k e) =
      let a = r f h in
      let b = r f' k in
      let c : f' ≡ f = cc in
      o f x y m m' d (subst (λ z. follows z y m') c e)

  pub policy_one : {policy : List ℕ} {before : M} {follows : Policy → Promise A M} → ((p : Policy) → One (follows p)) → One (OfPolicy policy before follows)
  policy_one o = reads_one (λ p f. policy_reads f) o

  pub text_one : {text : List ℕ} {before : M} {follows : Policy → Promise A M} → ((p : Policy) → One (follows p)) → One (OfText text before follows)
  text_one o = reads_one (λ p f. text_reads f) o

  pub request_one : {request : List ℕ} {before : M} {follows : Request → Promise A M} → ((q : Request) → One (follows q)) → One (OfRequest request before follows)
  request_one o = reads_one (λ q f. request_reads 21 f) o

  pub the_one : {T : Type 0} {Is : T → Type 0} {follows : T → Promise A M}
      → ((t u : T) → Is t → Is u → t ≡ u) → ((t : T) → One (follows t)) → One (The Is follows)
  the_one {follows = follows} s o x y m m' (the {t} h d) (the {t = u} k e) = o t x y m m' d (subst (λ z. follows z y m') (s u t k h) e)

  pub refused_if_one : {test : Bool} {n at : ℕ} {before : M} {follows : Promise A M} → One follows → One (RefusedIf test n at before follows)
  refused_if_one o _ _ _ _ (stops d) (stops e) = refl
  refused_if_one o _ _ _ _ (stops d) (passes k e) = clash d k
  refused_if_one o _ _ _ _ (passes h d) (stops e) = clash e h
  refused_if_one o x y m m' (passes h d) (passes k e) = o x y m m' d e

  pub gives_one : {v : A} {after : M} → One (Gives v after)
  gives_one _ _ _ _ gives gives = refl
