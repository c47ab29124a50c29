-- The path of a text, or its first fault.
use Rattle.std.specs.Prelude.{ℕ, List, [], ◌∷◌, Bool, false, not, ◌&&◌, ◌||◌, ◌==◌, ◌≡◌, ◌<◌, IsTrue, nat_lt, length, slice_get, ◌-◌, map, filter, if◌then◌else◌, Result, Ok, Err, Option, Some, None}
use Rattle.std.specs.List.{list_any, list_all}
use Rattle.dc_names.specs.Bytes.{pieces, is_empty, is_dot, is_dot_dot, has_parts, IsRest}
use Rattle.dc_names.specs.declared.limits.TheConstants.{NAME_MAX, PATH_MAX}
use Rattle.dc_names.specs.declared.fault.TextFault.{TextFault}
use Rattle.dc_names.specs.declared.fault.TextFault.TheVariants.{Empty, Long, Zero}

-- a part of a path
pub data Part : Type 0 where
  Name : List ℕ → Part
  Dot : Part
  DotDot : Part

-- the bytes of a part
abbrev pub bytes_of : Part → List ℕ
bytes_of (Name name) = name
bytes_of Dot = 46 ∷ []
bytes_of DotDot = 46 ∷ 46 ∷ []

-- a path: its parts, whether it begins with a slash, and whether one ends it after another byte
pub record Path : Type 0 where
  pub parts : List Part
  pub absolute : Bool
  pub slash : Bool

abbrev pub part_of : List ℕ → Part
part_of piece = if is_dot piece then Dot else if is_dot_dot piece then DotDot else Name piece

-- the pieces that aren't empty
abbrev pub words_of : List ℕ → List (List ℕ)
words_of text = filter (λ piece. not (is_empty piece)) (pieces text)

-- several slashes in a row count as one
abbrev pub parts_of : List ℕ → List Part
parts_of text = map part_of (words_of text)

-- the first part of a text, and the bytes after it, which have parts alone too and are fewer
pub record IsFirst (part : Part) (rest text : List ℕ) : Type 0 where
  pub parts : parts_of text ≡ part ∷ parts_of rest
  pub valid : IsTrue (has_parts rest)
  pub behind : IsRest rest text
  pub fewer : length rest < length text

abbrev pub begins_with_slash : List ℕ → Bool
begins_with_slash [] = false
begins_with_slash (b ∷ bs) = b == 47

-- the last byte is a slash, and some byte isn't
abbrev pub ends_in_slash : List ℕ → Bool
ends_in_slash text = elim (slice_get text (length text - 1)) [ None ↦ false | Some b ↦ b == 47 ]

abbrev pub has_end_slash : List ℕ → Bool
has_end_slash text = ends_in_slash text && not (list_all (λ b. b == 47) text)

-- what a text without a fault stands for
abbrev pub path_in : List ℕ → Path
path_in text = record { parts = parts_of text; absolute = begins_with_slash text; slash = has_end_slash text }

abbrev pub is_long : List ℕ → Bool
is_long text = nat_lt PATH_MAX (length text) || list_any (λ piece. nat_lt NAME_MAX (length piece)) (pieces text)

-- the first fault of a text
abbrev pub fault_of : List ℕ → Option TextFault
fault_of text =
    if is_empty text then Some Empty
    else if is_long text then Some Long
    else if list_any (λ b. b == 0) text then Some Zero
    else None

-- the path of a text, or the first fault
abbrev pub path_of : List ℕ → Result Path TextFault
path_of text = elim (fault_of text) [ None ↦ Ok (path_in text) | Some fault ↦ Err fault ]
