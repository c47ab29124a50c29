-- What a handle owns: nothing while its pointer is null, else a boxed hold there.
use mathlib.Core.List.{List, [], ◌∷◌}
use base.Fml.{Fml, feq, ffalse}
use base.Stored.{Coded, coded_list}
use denote.RawPtr.{Ptr, null_ptr}
use Rattle.std.specs.Box.Ownership.{box_owns}
use Rattle.std.specs.Global.{Global}
use Rattle.std_heap.specs.contracts.GlobalAllocator.TheImpl.{ghosts}
use Rattle.dc_hold.specs.contracts.hold.Hold.{the_row}

-- no handle has two holds
abbrev pub held_owns : Global → Ptr → List the_row.Denot → Fml
held_owns alloc p [] = feq Ptr p null_ptr
held_owns alloc p (x ∷ []) = box_owns (ghosts.dealloc_token alloc) the_row p x
held_owns alloc p (_ ∷ _ ∷ _) = ffalse

abbrev pub holds_coded : Coded (List the_row.Denot)
holds_coded = coded_list the_row.coded
