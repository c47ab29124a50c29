-- How many bytes a walk asks for.
use Rattle.std.specs.Prelude.{ℕ, ◌+◌, ◌*◌, List, Option, Some, None, length}
use Rattle.std.specs.Borrow.{Bor}
use Rattle.std.specs.List.{sum_by}
use Rattle.dc_names.specs.Paths.{Part, bytes_of, parts_of}
use Rattle.dc_resolve.specs.Walks.{IfThrough}
use Rattle.dc_resolve.specs.declared.finder.Finder.{Ghosts}
use Rattle.dc_resolve.specs.declared.outcome.Reached.{Reached}
use Rattle.dc_resolve.specs.declared.outcome.Way.{Way}

-- how many bytes some parts have
abbrev pub names_bytes : List Part → ℕ
names_bytes parts = sum_by (λ part. length (bytes_of part)) parts

-- and those that are left after the first
abbrev pub met_bytes : Option (Reached × Bor (List ℕ)) → ℕ
met_bytes None = 0
met_bytes (Some met) = names_bytes (parts_of met.1.now)

module _ {F T S : Type 0} (g : Ghosts F T S) where
  -- the bytes of a text's parts, and of this many links
  abbrev pub way_bytes : List ℕ → ℕ → ℕ
  way_bytes text links = names_bytes (parts_of text) + links * g.link_bytes

  -- a finder may be asked for this many bytes
  abbrev pub MaySpend : F → ℕ → Type 0
  MaySpend finder bytes = (more : ℕ) × g.may_spend finder (bytes + more)

  -- of this many bytes this many are left, beside whatever else it may be asked for
  abbrev pub Spends : F → F → ℕ → ℕ → Type 0
  Spends old new bytes left = (more : ℕ) → g.may_spend old (bytes + more) → g.may_spend new (left + more)

  -- of this many bytes those of the links are left that may still be followed, if something is to follow
  abbrev pub LeavesLinks : F → F → ℕ → Way → Type 0
  LeavesLinks old new bytes way = IfThrough way (λ left. Spends old new bytes (left * g.link_bytes))
