-- What reading and writing leave, if a reader and a writer tell their bytes.
use Rattle.std.specs.Prelude.{◌≡◌, ℕ, ◌≤◌, List, ◌++◌, length, Option}
use Rattle.std.specs.Global.{Vec}
use Rattle.std.specs.Io.KnownBytes.{Consumes, IsAtEnd, Appends}
use Rattle.std.specs.List.{flat_map}
use Rattle.dc_serve.specs.declared.fault.ServeFault.{ServeFault}
use Rattle.dc_serve.specs.declared.fault.ServeFault.TheVariants.{Read, NoMemory, Spent, Write}
use Rattle.dc_names.specs.declared.limits.TheConstants.{MOST_COUNT, MOST_INPUT}

-- an input of at most MOST_INPUT was read up to its end
pub record ReadWhole (before after : Option (List ℕ)) (input : List ℕ) : Type 0 where
  pub consumed : Consumes before after input
  pub ended : IsAtEnd after
  pub fits : length input ≤ MOST_INPUT

-- reading ends with these faults alone
abbrev pub IsReadFault : ServeFault → Type 0
IsReadFault Read = Unit {0}
IsReadFault NoMemory = Unit {0}
IsReadFault _ = ⊥

-- answering ends with these faults alone, `Spent` only if the clock gets as far as this limit
abbrev pub IsServiceFault : ℕ → ServeFault → Type 0
IsServiceFault clock NoMemory = Unit {0}
IsServiceFault clock Spent = MOST_COUNT ≤ clock
IsServiceFault clock _ = ⊥

-- known bytes have grown by a front of the text
pub record AppendsFront (old new : Option (List ℕ)) (text : List ℕ) : Type 0 where
  pub front : List ℕ
  pub rest : List ℕ
  pub cut : text ≡ front ++ rest
  pub appends : Appends old new front

-- the bytes of some texts, one after another
abbrev pub bytes_of : List (Vec ℕ) → List ℕ
bytes_of texts = flat_map (λ text. text.items) texts

-- writing fails as `Write` alone, after a front of the text
abbrev pub WritesFront : Option (List ℕ) → Option (List ℕ) → List ℕ → ServeFault → Type 0
WritesFront old new text Write = AppendsFront old new text
WritesFront old new text _ = ⊥
