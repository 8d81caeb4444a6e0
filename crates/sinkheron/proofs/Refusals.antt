-- A refusal's number and place tell which it is.
use Prim.Native.Nat.{ℕ}
use mathlib.Core.Path.{◌≡◌, refl, sym, ap₂, ◌∙◌}
use Rattle.std.specs.Prelude.{◌==◌, if◌then◌else◌}
use Rattle.files.specs.declared.fault.Fault.{Fault}
use Rattle.files.specs.declared.fault.RequestFault.{RequestFault}
use Rattle.text.specs.declared.fault.TextFault.{TextFault}
use Rattle.sinkheron.specs.declared.refusal.Refusal.{Refusal}
use Rattle.sinkheron.specs.Refusals.{refusal_number, refusal_place}

abbrev policy_refusal : Fault → ℕ → Refusal
policy_refusal fault at = Refusal.Policy (record { fault = fault; place = at })

abbrev request_refusal : RequestFault → ℕ → Refusal
request_refusal fault at = Refusal.Request (record { fault = fault; place = at })

-- the refusal of a number and a place
abbrev pub refusal_of : ℕ → ℕ → Refusal
refusal_of n at =
    if n == 1 then policy_refusal Fault.Short at
    else if n == 2 then policy_refusal Fault.Version at
    else if n == 3 then policy_refusal Fault.Length at
    else if n == 4 then policy_refusal Fault.Ends at
    else if n == 5 then policy_refusal Fault.NoTag at
    else if n == 6 then policy_refusal Fault.TooDeep at
    else if n == 7 then policy_refusal Fault.TooManyNodes at
    else if n == 8 then policy_refusal Fault.Excess at
    else if n == 12 then Refusal.TooManyPairs
    else if n == 13 then Refusal.NoSpace
    else if n == 14 then Refusal.EmptySet
    else if n == 15 then policy_refusal Fault.OtherSort at
    else if n == 21 then request_refusal RequestFault.Short at
    else if n == 22 then request_refusal RequestFault.Version at
    else if n == 23 then request_refusal RequestFault.Length at
    else if n == 24 then request_refusal RequestFault.Uneven at
    else if n == 25 then request_refusal RequestFault.TooManyPairs at
    else if n == 26 then request_refusal RequestFault.NotAscending at
    else if n == 51 then Refusal.Text TextFault.Word at
    else if n == 52 then Refusal.Text TextFault.Number at
    else if n == 53 then Refusal.Text TextFault.Ends at
    else Refusal.Text TextFault.LineFeed at

policy_back : (fault : Fault) (at : ℕ) → refusal_of (refusal_number (policy_refusal fault at)) at ≡ policy_refusal fault at
policy_back Fault.Short at = refl
policy_back Fault.Version at = refl
policy_back Fault.Length at = refl
policy_back Fault.Ends at = refl
policy_back Fault.NoTag at = refl
policy_back Fault.TooDeep at = refl
policy_back Fault.TooManyNodes at = refl
policy_back Fault.Excess at = refl
policy_back Fault.OtherSort at = refl

request_back : (fault : RequestFault) (at : ℕ) → refusal_of (refusal_number (request_refusal fault at)) at ≡ request_refusal fault at
request_back RequestFault.Short at = refl
request_back RequestFault.Version at = refl
request_back RequestFault.Length at = refl
request_back RequestFault.Uneven at = refl
request_back RequestFault.TooManyPairs at = refl
request_back RequestFault.NotAscending at = refl

text_back : (fault : TextFault) (at : ℕ) → refusal_of (refusal_number (Refusal.Text fault at)) at ≡ Refusal.Text fault at
text_back TextFault.Word at = refl
text_back TextFault.Number at = refl
text_back TextFault.Ends at = refl
text_back TextFault.LineFeed at = refl

pub refusal_back : (r : Refusal) → refusal_of (refusal_number r) (refusal_place r) ≡ r
refusal_back (Refusal.Policy e) = policy_back e.fault e.place
refusal_back (Refusal.Request e) = request_back e.fault e.place
refusal_back (Refusal.Text fault at) = text_back fault at
refusal_back Refusal.TooManyPairs = refl
refusal_back Refusal.NoSpace = refl
refusal_back Refusal.EmptySet = refl

-- the law: two refusals with one number and one place are the same
pub refusal_one : (r s : Refusal) → refusal_number r ≡ refusal_number s → refusal_place r ≡ refusal_place s → r ≡ s
refusal_one r s n p = sym (refusal_back r) ∙ (ap₂ refusal_of n p ∙ refusal_back s)
