-- In which directories the resolution of a path asks, by the cases of the resolution: the trail of a look-up. A caller tests search permission in each of them.
use Rattle.std.specs.Prelude.{ℕ, zero, suc, List, [], ◌∷◌, ◌++◌, Bool, ◌==◌, ◌&&◌, ◌||◌, not, Option, Some, None, if◌then◌else◌}
use Rattle.std.specs.List.{list_any}
use Rattle.dc_names.specs.declared.limits.TheConstants.{MOST_LINKS}
use Rattle.dc_names.specs.Bytes.{is_empty}
use Rattle.dc_names.specs.Paths.{Part, Path, path_in}
use Rattle.dc_plain.specs.declared.call.Follow.{Follow}
use Rattle.dc_plain.specs.Facts.{Target, Teller}
use Rattle.dc_plain.specs.Places.{start}
use Rattle.dc_plain.specs.Resolution.{Met, at_part, keeps_link, root}
use Rattle.dc_plain.specs.Resolution.Met.{Goes, Stops, Meets}
use Rattle.dc_resolve.specs.Needs.{asks}

-- the directory in which a part is looked up from a place: a name, or a dot-dot but the root's. A dot asks nothing, nor does a part below a file
abbrev pub asked_at : Target → Part → List ℕ
asked_at place part = if asks place part then place.0 ∷ [] else []

-- and what is asked from where the part leads
abbrev pub asked_after : Option Met → (Target → List ℕ) → (Target → List ℕ) → List ℕ
asked_after None go at_link = []
asked_after (Some (Goes place)) go at_link = go place
asked_after (Some (Stops refusal)) go at_link = []
asked_after (Some (Meets link)) go at_link = at_link link

-- from a place over the parts that are left. `at_link place link rest slash` tells what is asked from a link that must be followed
abbrev pub asked_over : Teller → Follow → (Target → ℕ → List Part → Bool → List ℕ) → Target → List Part → Bool → List ℕ
asked_over teller how at_link place [] slash = []
asked_over teller how at_link place (part ∷ rest) slash =
    asked_at place part ++ asked_after (at_part teller place part)
    (λ next. asked_over teller how at_link next rest slash)
    (λ link. if is_empty rest && not slash && keeps_link how then [] else at_link place link.0 rest slash)

abbrev pub asked_in_text : Option (List ℕ) → (List ℕ → List ℕ) → List ℕ
asked_in_text None next = []
asked_in_text (Some text) next = next text

-- with this many links that may still be followed
unfoldable pub asked_by : Teller → Follow → ℕ → Target → List Part → Bool → List ℕ
asked_by teller how zero = asked_over teller how (λ place link rest slash. [])
asked_by teller how (suc left) = asked_over teller how (λ place link rest slash.
    asked_in_text (teller.text link) (λ text.
    let path = path_in text in
    asked_by teller how left (if path.absolute then root else place) (path.parts ++ rest) (slash || is_empty rest && path.slash)))

-- a relative path asks its starting directory first, whether it is there
abbrev pub asked_first : ℕ → Path → List ℕ
asked_first base path = if path.absolute || base == 1 then [] else base ∷ []

abbrev pub asked_from : Option (Option Target) → (Target → List ℕ) → List ℕ
asked_from None go = []
asked_from (Some None) go = []
asked_from (Some (Some place)) go = go place

-- each directory in which the resolution of a path asks, as often as it asks there, in its order, up to where it ends
abbrev pub asked_in : Teller → ℕ → Path → Follow → List ℕ
asked_in teller base path how = asked_first base path ++ asked_from (start teller base path) (λ place. asked_by teller how MOST_LINKS place path.parts path.slash)

abbrev pub is_among : List ℕ → ℕ → Bool
is_among numbers n = list_any (λ m. m == n) numbers

-- each number once, by its first place, but for those that were seen before
abbrev pub firsts : List ℕ → List ℕ → List ℕ
firsts seen [] = []
firsts seen (n ∷ numbers) = if is_among seen n then firsts seen numbers else n ∷ firsts (seen ++ n ∷ []) numbers

-- the trail of a path: each directory in which its resolution asks, once, by when it asks there first
abbrev pub trail_of : Teller → ℕ → Path → Follow → List ℕ
trail_of teller base path how = firsts [] (asked_in teller base path how)
