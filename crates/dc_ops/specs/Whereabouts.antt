-- The path of a directory from the root: the names that lead there.
use Rattle.std.specs.Prelude.{◌≡◌, ℕ, ◌<◌, ◌≤◌, List, [], ◌∷◌, ◌++◌, Some, length, drop, true, false, IsTrue}
use Rattle.std.specs.List.{AllByRecursion}
use Rattle.dc_names.specs.Bytes.{is_name}
use Rattle.dc_names.specs.declared.kind.Kind.TheVariants.{Dir}
use Rattle.dc_names.specs.declared.limits.TheConstants.{PATH_MAX}
use Rattle.dc_names.specs.declared.refusal.Refusal.{Refusal}
use Rattle.dc_names.specs.declared.refusal.Refusal.TheVariants as refusals
use Rattle.dc_plain.specs.declared.call.Follow.{Follow}
use Rattle.dc_plain.specs.Facts.Label.{Entry}
use Rattle.dc_plain.specs.Requests.Request.{Look}
use Rattle.dc_plain.specs.Requests.Answer.{Found}
use Rattle.dc_plain.specs.Trees.{Tree, entry_of, is_live_directory}
use Rattle.dc_ops.specs.Plans.{Declines}

-- from directory d these names lead, each in the directory that the one before it led to, to directory n
abbrev pub LeadTo : Tree → ℕ → List (List ℕ) → ℕ → Type 0
LeadTo t d [] n = d ≡ n
LeadTo t d (name ∷ names) n = (e : ℕ) × (entry_of t d (Entry name) ≡ Some (e, Dir)) × LeadTo t e names n

-- a slash before each name
abbrev pub spelled : List (List ℕ) → List ℕ
spelled [] = []
spelled (name ∷ names) = 47 ∷ (name ++ spelled names)

-- and a slash alone for no name
abbrev pub path_by : List (List ℕ) → List ℕ
path_by [] = 47 ∷ []
path_by (name ∷ names) = spelled (name ∷ names)

-- the path of directory n: names, of which none is a dot, lead there from the root, and to no link on the way
pub record IsPathOf (t : Tree) (n : ℕ) (path : List ℕ) : Type 0 where
  pub names : List (List ℕ)
  pub named : AllByRecursion (λ name. IsTrue (is_name name)) names
  pub leads : LeadTo t 1 names n
  pub bytes : path ≡ path_by names

-- a look-up of this path finds directory n, whatever it follows
abbrev pub FindsBy : Tree → ℕ → List ℕ → Type 0
FindsBy t n path = (limit : ℕ) (how : Follow) → Declines limit t (Look 1 path how) (Found n Dir)

-- why a number has no path: no directory lives there, or each path of it is longer than a path may be
abbrev pub HasNoPath : Tree → ℕ → Refusal → Type 0
HasNoPath t n refusals.NotFound = is_live_directory t n ≡ false
HasNoPath t n refusals.NameTooLong = IsTrue (is_live_directory t n) × ((path : List ℕ) → IsPathOf t n path → PATH_MAX < length path)
HasNoPath t n _ = ⊥

-- names that lead from directory d to directory n are written in a buffer, from a place up to its end
pub record IsSoFar (t : Tree) (n d start : ℕ) (buffer : List ℕ) : Type 0 where
  pub names : List (List ℕ)
  pub named : AllByRecursion (λ name. IsTrue (is_name name)) names
  pub leads : LeadTo t d names n
  pub bytes : drop start buffer ≡ spelled names
  pub within : start ≤ PATH_MAX
  pub whole : length buffer ≡ PATH_MAX
