-- The names in a directory, in the order of their bytes.
use Rattle.std.specs.Prelude.{ℕ, List, [], ◌∷◌, not}
use Rattle.std.specs.Cmp.Lexicographic.{slice_cmp}
use Rattle.std.specs.FinMap.Entries.{put, where_key}
use Rattle.std.specs.Ordering.{nat_cmp, eq_by_cmp}
use Rattle.std.specs.declared.cmp.Ordering.{Ordering}

-- names by their bytes
abbrev pub name_cmp : List ℕ → List ℕ → Ordering
name_cmp = slice_cmp nat_cmp

-- entries by the bytes of their names, in order
abbrev pub in_order : List (List ℕ × ℕ) → List (List ℕ × ℕ)
in_order [] = []
in_order (e ∷ es) = put name_cmp e.0 e.1 (in_order es)

abbrev pub without_name : List ℕ → List (List ℕ × ℕ) → List (List ℕ × ℕ)
without_name name = where_key name_cmp (λ other. not (eq_by_cmp name_cmp name other))
