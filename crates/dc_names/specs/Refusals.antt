-- The refusals of the tree, with their numbers.
use Rattle.std.specs.Prelude.{ℕ, ◌≡◌, ◌==◌, ◌↔◌, List, Option, Some, Result, Ok, Err, MatchResult, codes, find}
use Rattle.dc_names.specs.declared.fault.TextFault.{TextFault}
use Rattle.dc_names.specs.declared.fault.TextFault.TheVariants.{Empty, Long, Zero}
use Rattle.dc_names.specs.declared.refusal.Refusal.{Refusal}
use Rattle.dc_names.specs.declared.refusal.TheConstants.{REFUSALS}
use Rattle.dc_names.specs.declared.refusal.Refusal.TheVariants.{NotPermitted, NotFound, Busy, Exists, NotDirectory, IsDirectory, Invalid, NoSpace, TooManyNames, NameTooLong, NotEmpty, TooManyLinks}

-- the numbers that Linux gives the errors of POSIX.1-2017
abbrev pub refusal_number : Refusal → ℕ
refusal_number NotPermitted = 1
refusal_number NotFound = 2
refusal_number Busy = 16
refusal_number Exists = 17
refusal_number NotDirectory = 20
refusal_number IsDirectory = 21
refusal_number Invalid = 22
refusal_number NoSpace = 28
refusal_number TooManyNames = 31
refusal_number NameTooLong = 36
refusal_number NotEmpty = 39
refusal_number TooManyLinks = 40

-- the names that POSIX.1-2017 gives the errors
abbrev pub refusal_name : Refusal → List ℕ
refusal_name NotPermitted = codes "EPERM"
refusal_name NotFound = codes "ENOENT"
refusal_name Busy = codes "EBUSY"
refusal_name Exists = codes "EEXIST"
refusal_name NotDirectory = codes "ENOTDIR"
refusal_name IsDirectory = codes "EISDIR"
refusal_name Invalid = codes "EINVAL"
refusal_name NoSpace = codes "ENOSPC"
refusal_name TooManyNames = codes "EMLINK"
refusal_name NameTooLong = codes "ENAMETOOLONG"
refusal_name NotEmpty = codes "ENOTEMPTY"
refusal_name TooManyLinks = codes "ELOOP"

-- the first refusal that has a number
abbrev pub refusal_with : ℕ → Option Refusal
refusal_with number = find (λ refusal. refusal_number refusal == number) REFUSALS

-- just the refusal that has the number was found, or none if none has it
abbrev pub IsRefusalOf : ℕ → Option Refusal → Type 0
IsRefusalOf number found = (refusal : Refusal) → (found ≡ Some refusal) ↔ (refusal_number refusal ≡ number)

-- the refusal of a text with this fault
abbrev pub refusal_of : TextFault → Refusal
refusal_of Empty = NotFound
refusal_of Long = NameTooLong
refusal_of Zero = Invalid

abbrev pub fault_number : TextFault → ℕ
fault_number fault = refusal_number (refusal_of fault)

-- what was found, as it is shown, or the refusal that came is what is wanted
abbrev pub Gives : {A B : Type 0} → Result A Refusal → (A → B) → Result B Refusal → Type 0
Gives found shown wanted = MatchResult found (λ a. wanted ≡ Ok (shown a)) (λ refusal. wanted ≡ Err refusal)
