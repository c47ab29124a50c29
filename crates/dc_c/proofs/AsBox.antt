-- An open handle and its parts own what a box of a hold owns: that box under short names.
use mir.Syntax.{impl, tnil, dnil}
use mathlib.Core.List.{[]}
use denote.RattleType.{RattleType}
use denote.Signature.{Slot, plain}
use Rattle.std_alloc.proofs.BoxSteps.Form.{Bx}
use Rattle.std_heap.specs.contracts.Global as Heap
use Rattle.std_heap.specs.contracts.GlobalAllocator.TheImpl.{ghosts, dict}
use Rattle.std_heap.proofs.Global.TheLaws as heap
use Rattle.dc_hold.specs.contracts.hold.Hold as Inner
use Rattle.dc_hold.proofs.hold.Hold.TheLaws as inner
use Rattle.dc_c.specs.contracts.parts.Parts as Parts
use Rattle.dc_c.specs.contracts.held.Held as Held

abbrev pub E : Bx
E = record { row = Inner.the_row; laws = inner.the_row_laws; al = record { row = Heap.the_row; laws = heap.the_row_laws; g = ghosts; d = dict; drops = impl [] tnil dnil } }

abbrev pub PartsRow : RattleType
PartsRow = Parts.the_row Inner.the_row Heap.the_row ghosts

abbrev pub FromParts : Slot 0
FromParts = plain (λ _. PartsRow)

abbrev pub FromHeld : Slot 0
FromHeld = plain (λ _. Held.the_row)
