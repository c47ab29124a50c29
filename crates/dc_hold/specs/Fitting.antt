-- That a pass fits its cache is so in one way at most.
use base.Stored.{Coded, Coded-set}
use denote.RattleType.{RattleType}
use Rattle.std.specs.Coded.{codes}
use Rattle.atomic_table.specs.Seated.{table_id_coded}
use Rattle.std.specs.contracts.alloc.Global as heap
use Rattle.std_alloc.specs.contracts.boxed.Box as boxed
use Rattle.std_heap.specs.contracts.GlobalAllocator.TheImpl.{ghosts}
use Rattle.dc_table.specs.contracts.table.Guarded as guarded
use Rattle.dc_cache.specs.declared.cache.Cache.{Cache}
use Rattle.dc_cache.specs.declared.cache.Pass.{Pass}
use Rattle.dc_cache.specs.Passes.{Fits}

-- what lies in the slot of a table
abbrev boxed_row : RattleType
boxed_row = boxed.the_row guarded.the_row heap.the_row ghosts

boxed_coded : Coded boxed_row.Denot
boxed_coded = boxed_row.coded

pub fits_prop : {W : Type 0} (c : Cache W) (p : Pass) → IsProp (Fits c p)
fits_prop c p = hlevel (Coded-set, codes, table_id_coded, boxed_coded)
