-- The numbers of the code's faults, and what a function's result says of reading.
use Rattle.std.specs.Prelude.{ℕ, ◌+◌, ◌-◌, ◌≤◌, ◌≡◌, List, length, Result, Ok, Err, slice_index}
use Rattle.files.specs.Refusal.{Read, accepted, refused, dec16}
use Rattle.files.specs.declared.fault.Fault.{Fault}
use Rattle.files.specs.declared.fault.RequestFault.{RequestFault}
use Rattle.files.specs.declared.fault.PolicyError.{PolicyError}
use Rattle.files.specs.declared.fault.RequestError.{RequestError}
use Rattle.files.specs.declared.frame.FrameFault.{FrameFault}
use Rattle.files.specs.declared.frame.FrameError.{FrameError}

abbrev pub fault_number : Fault → ℕ
fault_number Fault.Short = 1
fault_number Fault.Version = 2
fault_number Fault.Length = 3
fault_number Fault.Ends = 4
fault_number Fault.NoTag = 5
fault_number Fault.TooDeep = 6
fault_number Fault.TooManyNodes = 7
fault_number Fault.Excess = 8
fault_number Fault.OtherSort = 15

abbrev pub request_fault_number : RequestFault → ℕ
request_fault_number RequestFault.Short = 21
request_fault_number RequestFault.Version = 22
request_fault_number RequestFault.Length = 23
request_fault_number RequestFault.Uneven = 24
request_fault_number RequestFault.TooManyPairs = 25
request_fault_number RequestFault.NotAscending = 26

-- the shared refusals, from the first of a kind of file on
abbrev pub frame_offset : FrameFault → ℕ
frame_offset FrameFault.Short = 0
frame_offset FrameFault.Version = 1
frame_offset FrameFault.Length = 2

abbrev pub OfFrame : FrameError → PolicyError → Type 0
OfFrame frame e = (fault_number e.fault ≡ 1 + frame_offset frame.fault) × (e.place ≡ frame.place)

abbrev pub OfRequestFrame : FrameError → RequestError → Type 0
OfRequestFrame frame e = (request_fault_number e.fault ≡ 21 + frame_offset frame.fault) × (e.place ≡ frame.place)

-- none of the three refusals
pub record WholeFile (s : List ℕ) : Type 0 where
  pub long : 3 ≤ length s
  pub version : slice_index s 0 ≡ 1
  pub stated : dec16 s 1 ≡ length s - 3

-- a function's result, seen by `view`, is what reading a policy file gives; a request file
abbrev pub PolicyGives : {X Y : Type 0} → (X → Y) → Result X PolicyError → Read Y → Type 0
PolicyGives view (Ok x) read = read ≡ accepted (view x)
PolicyGives view (Err e) read = read ≡ refused (fault_number e.fault) e.place

abbrev pub RequestGives : {X Y : Type 0} → (X → Y) → Result X RequestError → Read Y → Type 0
RequestGives view (Ok x) read = read ≡ accepted (view x)
RequestGives view (Err e) read = read ≡ refused (request_fault_number e.fault) e.place
