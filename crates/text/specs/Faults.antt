-- The numbers and places of the code's faults, and what a function's result says of reading.
use Rattle.std.specs.Prelude.{ℕ, cond, ltb, length}
use Rattle.files.specs.Refusal.{Read, accepted, refused}
use Rattle.files.specs.Faults.{fault_number}
use Rattle.files.specs.Reading.{Place}
use Rattle.text.specs.declared.fault.TextFault.{TextFault}
use Rattle.text.specs.declared.fault.TextError.{TextError}

abbrev pub text_fault_number : TextFault → ℕ
text_fault_number TextFault.Word = 51
text_fault_number TextFault.Number = 52
text_fault_number TextFault.Ends = 53
text_fault_number TextFault.LineFeed = 54

abbrev pub text_number : TextError → ℕ
text_number (TextError.Text fault place) = text_fault_number fault
text_number (TextError.Policy e) = fault_number e.fault

abbrev pub text_place : TextError → ℕ
text_place (TextError.Text fault place) = place
text_place (TextError.Policy e) = e.place

-- the line ends there
abbrev pub ended_at : Place → Read (Unit {0})
ended_at p = cond (ltb p.at (length p.bytes)) (refused 54 p.at) (accepted tt)
