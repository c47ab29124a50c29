-- What a fault of the cache or of the input is to the server.
use Rattle.dc_rows.specs.declared.fault.ChangeFault.{ChangeFault}
use Rattle.dc_rows.specs.declared.fault.ChangeFault.TheVariants as changes
use Rattle.dc_names.specs.declared.sizes.MakeFault.{MakeFault}
use Rattle.dc_names.specs.declared.sizes.MakeFault.TheVariants as makings
use Rattle.dc_lang.specs.declared.fault.InputFault.{InputFault}
use Rattle.dc_lang.specs.declared.fault.InputFault.TheVariants as inputs
use Rattle.dc_serve.specs.declared.fault.ServeFault.{ServeFault}
use Rattle.dc_serve.specs.declared.fault.ServeFault.TheVariants.{BadSize, BadLine, NoMemory, Spent}

abbrev pub from_change : ChangeFault → ServeFault
from_change changes.NoMemory = NoMemory
from_change changes.Spent = Spent

abbrev pub from_making : MakeFault → ServeFault
from_making makings.BadSize = BadSize
from_making makings.NoMemory = NoMemory

abbrev pub from_input : InputFault → ServeFault
from_input (inputs.BadLine n) = BadLine n
from_input inputs.NoMemory = NoMemory
