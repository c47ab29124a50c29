-- The pieces of a path's text, and which of them are a name (POSIX.1-2017 XBD 3.170, 4.13).
use Rattle.std.specs.Prelude.{ℕ, List, [], ◌∷◌, Bool, false, not, ◌&&◌, ◌||◌, ◌==◌, ◌≡◌, ◌≤◌, ◌-◌, nat_lt, length, drop}
use Rattle.std.specs.List.{list_any, list_all, slice_split}
use Rattle.dc_names.specs.declared.limits.TheConstants.{NAME_MAX}

-- the bytes between slashes, empty pieces too
abbrev pub pieces : List ℕ → List (List ℕ)
pieces text = slice_split (λ b. b == 47) text

abbrev pub is_empty : {A : Type 0} → List A → Bool
is_empty xs = length xs == 0

abbrev pub is_dot : List ℕ → Bool
is_dot [] = false
is_dot (a ∷ rest) = a == 46 && is_empty rest

abbrev pub is_dot_dot : List ℕ → Bool
is_dot_dot [] = false
is_dot_dot (a ∷ rest) = a == 46 && is_dot rest

-- 1 to NAME_MAX bytes, no slash and no zero byte among them, and neither dot nor dot-dot
abbrev pub is_name : List ℕ → Bool
is_name bytes = not (is_empty bytes) && not (nat_lt NAME_MAX (length bytes))
    && not (list_any (λ b. b == 47 || b == 0) bytes)
    && not (is_dot bytes) && not (is_dot_dot bytes)

-- a piece that a path may have
abbrev pub is_part : List ℕ → Bool
is_part piece = is_empty piece || is_dot piece || is_dot_dot piece || is_name piece

abbrev pub has_parts : List ℕ → Bool
has_parts text = list_all is_part (pieces text)

-- the last bytes of a text
pub record IsRest (rest text : List ℕ) : Type 0 where
  pub within : length rest ≤ length text
  pub bytes : rest ≡ drop (length text - length rest) text
