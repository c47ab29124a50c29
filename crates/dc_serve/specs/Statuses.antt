-- The statuses that a program ends with.
use Rattle.std.specs.Prelude.{ℕ}
use Rattle.clap.specs.Values.{kind_of}
use Rattle.clap.specs.declared.error.kind.ErrorKind.{ErrorKind}
use Rattle.clap.specs.declared.error.kind.ErrorKind.TheVariants.{DisplayHelp, OutOfMemory}
use Rattle.dc_serve.specs.declared.fault.ServeFault.{ServeFault}
use Rattle.dc_serve.specs.declared.fault.ServeFault.TheVariants.{BadSize, Read, BadLine, NoMemory, Spent, Write}
use Rattle.dc_serve.specs.declared.fault.OptionsFault.{OptionsFault}
use Rattle.dc_serve.specs.declared.fault.OptionsFault.TheVariants as options

-- 1 a bad line, 2 a bad size, 3 no memory or no clock left, 4 a fault of reading or writing
abbrev pub status_of : ServeFault → ℕ
status_of (BadLine n) = 1
status_of BadSize = 2
status_of NoMemory = 3
status_of Spent = 3
status_of Read = 4
status_of Write = 4

-- 0 if help is told, 3 if clap found no memory, 2 for all other words
abbrev pub kind_status : ErrorKind → ℕ
kind_status DisplayHelp = 0
kind_status OutOfMemory = 3
kind_status _ = 2

abbrev pub words_status : OptionsFault → ℕ
words_status options.BadSize = 2
words_status (options.Words error) = kind_status (kind_of error)
