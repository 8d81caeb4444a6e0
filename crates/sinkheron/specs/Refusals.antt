-- The number and the place of each refusal; and what answers a function's result stands for.
use Rattle.std.specs.Prelude.{ℕ, ◌≡◌, List, ◌++◌, Result, Ok, Err, codes}
use Rattle.std.specs.Fmt.{decimal}
use Rattle.files.specs.Faults.{fault_number, request_fault_number}
use Rattle.text.specs.Faults.{text_fault_number, text_number, text_place}
use Rattle.text.specs.declared.fault.TextError.{TextError}
use Rattle.sinkheron.specs.Answer.{Answer, refusal, success}
use Rattle.sinkheron.specs.declared.refusal.Refusal.{Refusal}

abbrev pub refusal_number : Refusal → ℕ
refusal_number (Refusal.Policy e) = fault_number e.fault
refusal_number (Refusal.Request e) = request_fault_number e.fault
refusal_number (Refusal.Text f at) = text_fault_number f
refusal_number Refusal.TooManyPairs = 12
refusal_number Refusal.NoSpace = 13
refusal_number Refusal.EmptySet = 14

abbrev pub refusal_place : Refusal → ℕ
refusal_place (Refusal.Policy e) = e.place
refusal_place (Refusal.Request e) = e.place
refusal_place (Refusal.Text f at) = at
refusal_place Refusal.TooManyPairs = 0
refusal_place Refusal.NoSpace = 0
refusal_place Refusal.EmptySet = 0

-- as it is printed
abbrev pub shown : Refusal → List ℕ
shown r = codes "refused " ++ decimal (refusal_number r) ++ codes " at " ++ decimal (refusal_place r)

-- a text's refusal keeps its number and place
abbrev pub OfTextError : TextError → Refusal → Type 0
OfTextError e r = (refusal_number r ≡ text_number e) × (refusal_place r ≡ text_place e)

-- a refusal by its number and place; a success by its values
abbrev pub answer_of : {A V : Type 0} → (A → V) → Result A Refusal → Answer V
answer_of values (Ok a) = success (values a)
answer_of values (Err r) = refusal (refusal_number r) (refusal_place r)
