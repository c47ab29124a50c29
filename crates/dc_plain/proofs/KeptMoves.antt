-- A rename keeps a tree well formed.
use Rattle.std.proofs.Common.{◌≡◌, ℕ, List, Option, Some, None, Ok, subst}
use Rattle.dc_names.specs.Laws.{PartsAreNamesOrDots}
use Rattle.dc_plain.specs.Facts.{Target}
use Rattle.dc_plain.specs.Trees.{Tree}
use Rattle.dc_plain.specs.Requests.{Answer}
use Rattle.dc_plain.specs.Effects.{without_there}
use Rattle.dc_plain.specs.Operations.{rename}
use Rattle.dc_plain.specs.IsWellFormed.{IsWellFormed, IsWithin}
use Rattle.dc_plain.proofs.Moved.{moved-IsWellFormed}
use Rattle.dc_plain.proofs.Kept.{IsKept}
use Rattle.dc_plain.proofs.KeptNames.{without_entry-IsWithin}
use Rattle.dc_plain.proofs.FoundMoves.{renames}
use Rattle.dc_plain.proofs.FoundMoves.Renames.{Moving, Swapping, Staying}
use Rattle.dc_plain.proofs.Swapped.{swap-keeps}
use Rattle.dc_plain.specs.Spots.{spot_at}
use Rattle.dc_plain.specs.declared.call.Flags.{Flags}

there-within : (limit : ℕ) (t : Tree) (d : ℕ) (name : List ℕ) (there : Option Target) → IsWithin limit t → IsWithin limit (without_there t d name there)
there-within limit t d name None within = within
there-within limit t d name (Some there) within = without_entry-IsWithin limit t d name there.0 within

pub rename-keeps : PartsAreNamesOrDots → (limit : ℕ) (t : Tree) (base : ℕ) (old new : List ℕ) (flags : Flags) (done : Answer × Tree) → IsWellFormed t → rename t base old new flags ≡ Ok done → IsKept limit t done.1
rename-keeps parts limit t base old new flags done well e = elim (renames parts t base old new flags done well e) [
  | Staying s ↦ subst (IsKept limit t) s.left (well, λ within. within)
  | Swapping s ↦ subst (IsKept limit t) s.left (swap-keeps t (spot_at s.from s.old_name) s.moved.0 (spot_at s.to s.new_name) s.there.0 well s.can, λ within. within)
  | Moving m ↦ subst (IsKept limit t) m.left
      (moved-IsWellFormed (without_there t m.to m.new_name m.there) m.from m.old_name m.to m.new_name m.moved.0 m.ready, there-within limit t m.to m.new_name m.there)
]
