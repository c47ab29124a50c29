-- A path whose last part is a name leads where that name does in the path's directory, with a slash behind it or not.
use Rattle.std.proofs.Common.{◌≡◌, ℕ, zero, suc, ◌-◌, ◌&&◌, ◌||◌, not, List, [], ◌∷◌, ◌++◌, Bool, true, false, if◌then◌else◌, Option, Some, None, IfSome, Result, Ok, Err, slice_get, take, length, refl, ap, sym, ◌∙◌, append_assoc, ◌<◌, ◌+◌, get_or, arith, rules}
use Rattle.std.proofs.Math.Seq.{take-length}
use Rattle.std.proofs.lemmas.List.{take_more}
use Rattle.std.proofs.lemmas.Option.{slice_get-get_or, slice_get_within}
use Rattle.std.specs.Result.{result_ok}
use Rattle.dc_names.specs.Bytes.{is_empty}
use Rattle.dc_names.specs.Lasts.{Last}
use Rattle.dc_names.specs.Lasts.Last.{Name as Named, Root, Dot as LastDot, DotDot as LastDotDot}
use Rattle.dc_names.specs.Paths.{Part, Path, path_in}
use Rattle.dc_names.specs.Paths.Part.{Name, Dot, DotDot}
use Rattle.dc_names.specs.declared.limits.TheConstants.{MOST_LINKS}
use Rattle.dc_names.specs.declared.refusal.Refusal.{Refusal}
use Rattle.dc_names.specs.declared.kind.Kind.TheVariants.{Dir, File, Link}
use Rattle.dc_plain.specs.declared.call.Follow.TheVariants as follow
use Rattle.dc_plain.specs.Facts.{Target, Teller}
use Rattle.dc_plain.specs.Facts.Label.{Entry}
use Rattle.dc_plain.specs.IsWellFormed.{IsWellFormed}
use Rattle.dc_plain.specs.LivingLaws.{WalksLeadToTheLiving}
use Rattle.dc_plain.specs.Places.{Where, front_of, placed_by, start, walk, with_start}
use Rattle.dc_plain.specs.Refusals.{◌>>=◌, ended, path_or_fault, place_on, where_on, where_of}
use Rattle.dc_plain.specs.Resolution.{Met, Outcome, at_part, ending, met_by, over_parts, resolve, root, settled_walk, with_met, with_text}
use Rattle.dc_plain.specs.Resolution.Met.{Goes, Stops, Meets}
use Rattle.dc_plain.specs.Resolution.Outcome.{Found, Refused}
use Rattle.dc_plain.specs.Trees.{Tree, entry_of, target_at, told_of}
use Rattle.dc_ops.specs.Replaced.{may_end}
use Rattle.dc_ops.specs.Taken.{leads_to, replaced, taken_by}

-- some part stands last
not_empty : (ps : List Part) (p : Part) → is_empty (ps ++ p ∷ []) ≡ false
not_empty [] p = refl
not_empty (q ∷ ps) p = search rules

or_false : (z : Bool) → (z || false) ≡ z
or_false true = refl
or_false false = refl

never : (a s : Bool) (x u w : Option Outcome) → (if a && not s && false then x else u) ≡ w → u ≡ w
never false s x u w e = e
never true false x u w e = e
never true true x u w e = e

-- if no part is left, the path ends in the directory where it stands
ends_there : (at there : Target) (s : Bool) → Some (ending follow.Dir at s) ≡ Some (Found there) → at ≡ (there.0, Dir)
ends_there (n, Dir) there true e = let same : (n, Dir) ≡ there = cc in ap (λ (x : Target). (x.0, Dir)) same
ends_there (n, Dir) there false e = let same : (n, Dir) ≡ there = cc in ap (λ (x : Target). (x.0, Dir)) same
ends_there (n, File) there true e = absurd cc
ends_there (n, File) there false e = absurd cc
ends_there (n, Link) there true e = absurd cc
ends_there (n, Link) there false e = absurd cc

-- what stands at a name, with the end that the path has
abbrev MayEnd : Bool → Option (Option Target) → Type 0
MayEnd z None = Unit {0}
MayEnd z (Some found) = may_end z found ≡ true

-- a last name leads to what stands there
ends_met : (z : Bool) (o : Option (Option Target)) (on : Target → Option Outcome) → MayEnd z o
    → with_met (met_by o) (λ next. Some (ending follow.No next z)) (λ link. if not z && true then Some (Found link) else on link) ≡ with_met (met_by o) (λ next. Some (Found next)) (λ link. Some (Found link))
ends_met z None on may = refl
ends_met z (Some None) on may = refl
ends_met true (Some (Some (n, Dir))) on may = refl
ends_met true (Some (Some (n, File))) on may = absurd cc
ends_met true (Some (Some (n, Link))) on may = absurd cc
ends_met false (Some (Some (n, Dir))) on may = refl
ends_met false (Some (Some (n, File))) on may = refl
ends_met false (Some (Some (n, Link))) on may = refl

module _ (teller : Teller) (there : Target) (name : List ℕ) (z : Bool) (may : MayEnd z (teller.entry there.0 (Entry name))) where
  -- where the name leads; a link is kept
  abbrev at_name : Option Outcome
  at_name = with_met (met_by (teller.entry there.0 (Entry name))) (λ next. Some (Found next)) (λ link. Some (Found link))

  abbrev Following : Type 0
  Following = Target → ℕ → List Part → Bool → Option Outcome

  -- what goes on at a link does so to the name too
  abbrev Same : Following → Following → Type 0
  Same f g = (at : Target) (link : ℕ) (rest : List Part) (s : Bool) → f at link rest s ≡ Some (Found there) → g at link (rest ++ Name name ∷ []) z ≡ at_name

  over_met : (f g : Following) → Same f g → (at : Target) (rest : List Part) (s : Bool) (m : Option Met)
      → ((next : Target) → over_parts teller follow.Dir f next rest s ≡ Some (Found there) → over_parts teller follow.No g next (rest ++ Name name ∷ []) z ≡ at_name)
      → with_met m (λ next. over_parts teller follow.Dir f next rest s) (λ link. if is_empty rest && not s && false then Some (Found link) else f at link.0 rest s) ≡ Some (Found there)
      → with_met m (λ next. over_parts teller follow.No g next (rest ++ Name name ∷ []) z) (λ link. if is_empty (rest ++ Name name ∷ []) && not z && true then Some (Found link) else g at link.0 (rest ++ Name name ∷ []) z) ≡ at_name
  over_met f g same at rest s None on e = absurd cc
  over_met f g same at rest s (Some (Goes next)) on e = on next e
  over_met f g same at rest s (Some (Stops refusal)) on e = absurd cc
  over_met f g same at rest s (Some (Meets link)) on e =
      ap (λ (b : Bool). if b && not z && true then Some (Found link) else g at link.0 (rest ++ Name name ∷ []) z) (not_empty rest (Name name))
      ∙ same at link.0 rest s (never (is_empty rest) s (Some (Found link)) _ _ e)

  over_last : (f g : Following) → Same f g → (at : Target) (ps : List Part) (s : Bool) → over_parts teller follow.Dir f at ps s ≡ Some (Found there) → over_parts teller follow.No g at (ps ++ Name name ∷ []) z ≡ at_name
  over_last f g same at [] s e = ap (λ (x : Target). over_parts teller follow.No g x (Name name ∷ []) z) (ends_there at there s e) ∙ ends_met z (teller.entry there.0 (Entry name)) (λ link. g (there.0, Dir) link.0 [] z) may
  over_last f g same at (part ∷ rest) s e = over_met f g same at rest s (at_part teller at part) (λ next. over_last f g same next rest s) e

  over_text : (text : Option (List ℕ)) (go on : List ℕ → Option Outcome) → ((x : List ℕ) → go x ≡ Some (Found there) → on x ≡ at_name) → with_text text go ≡ Some (Found there) → with_text text on ≡ at_name
  over_text None go on same e = absurd cc
  over_text (Some text) go on same e = same text e

  resolve_last : (n : ℕ) (at : Target) (ps : List Part) (s : Bool) → resolve teller follow.Dir n at ps s ≡ Some (Found there) → resolve teller follow.No n at (ps ++ Name name ∷ []) z ≡ at_name
  unfolding resolve
  resolve_last zero = over_last _ _ (λ at link rest s e. absurd cc)
  resolve_last (suc n) = over_last _ _ (λ at link rest s e. over_text (teller.text link) _ _ (λ text.
      λ e'. let from : Target = if (path_in text).absolute then root else at in
      (λ i. resolve teller follow.No n from (sym (append_assoc (path_in text).parts rest (Name name ∷ [])) i) (z || not_empty rest (Name name) i && (path_in text).slash))
      ∙ ap (λ (b : Bool). resolve teller follow.No n from (((path_in text).parts ++ rest) ++ Name name ∷ []) b) (or_false z)
      ∙ resolve_last n from ((path_in text).parts ++ rest) (s || is_empty rest && (path_in text).slash) e') e)

  start_last : (at : Option (Option Target)) (ps : List Part) → with_start at (λ place. resolve teller follow.Dir MOST_LINKS place ps false) ≡ Some (Found there) → with_start at (λ place. resolve teller follow.No MOST_LINKS place (ps ++ Name name ∷ []) z) ≡ at_name
  start_last None ps e = absurd cc
  start_last (Some None) ps e = absurd cc
  start_last (Some (Some place)) ps e = resolve_last MOST_LINKS place ps false e

-- a list ends in its last item
ends_in : {A : Type 0} (xs : List A) (x : A) → slice_get xs (length xs - 1) ≡ Some x → xs ≡ take (length xs - 1) xs ++ x ∷ []
ends_in xs x e =
    let less : length xs - 1 < length xs = slice_get_within xs (length xs - 1) x e in
    let item : Some (get_or xs (length xs - 1) x) ≡ Some x = sym (slice_get-get_or xs (length xs - 1) x less) ∙ e in
    let all : length xs - 1 + 1 ≡ length xs = omega (arith, less) in
    let same : get_or xs (length xs - 1) x ≡ x = cc in
    sym (take-length xs) ∙ ap (λ (n : ℕ). take n xs) (sym all) ∙ take_more xs (length xs - 1) x less ∙ ap (λ (y : _). take (length xs - 1) xs ++ y ∷ []) same

abbrev last_in : Result Where Refusal → Last
last_in (Ok at) = at.last
last_in (Err refusal) = Root

-- the last part is the name, the path ends as its place says, and the parts before it lead to the directory
record IsPlaced (last : Option Part) (slash : Bool) (front : Option Outcome) (at : Where) (name : List ℕ) : Type 0 where
  part : last ≡ Some (Name name)
  ends : slash ≡ at.slash
  there : Target
  led : front ≡ Some (Found there)
  dir : there.0 ≡ at.dir

placed_so : (last : Option Part) (slash : Bool) (front : Option Outcome) (at : Where) (name : List ℕ) → where_of (placed_by last slash front) ≡ Ok at → at.last ≡ Named name → IsPlaced last slash front at name
placed_so None slash front at name e is = let no : Root ≡ Named name = ap last_in e ∙ is in absurd cc
placed_so (Some last) slash None at name e is = absurd cc
placed_so (Some last) slash (Some (Refused refusal)) at name e is = absurd cc
placed_so (Some (Name n)) slash (Some (Found there)) at name e is =
    let last : Named n ≡ Named name = ap last_in e ∙ is in let same : n ≡ name = cc in
    let at_is : record { dir = there.0; last = Named n; slash = slash } ≡ at = cc in
    record { part = ap (λ (m : List ℕ). Some (Name m)) same; ends = ap (λ (x : Where). x.slash) at_is; there = there; led = refl; dir = ap (λ (x : Where). x.dir) at_is }
placed_so (Some Dot) slash (Some (Found there)) at name e is = let no : LastDot ≡ Named name = ap last_in e ∙ is in absurd cc
placed_so (Some DotDot) slash (Some (Found there)) at name e is = let no : LastDotDot ≡ Named name = ap last_in e ∙ is in absurd cc

found_met : (o : Option Target) → result_ok (ended (settled_walk (with_met (met_by (Some o)) (λ next. Some (Found next)) (λ link. Some (Found link))))) ≡ o
found_met None = refl
found_met (Some (n, Dir)) = refl
found_met (Some (n, File)) = refl
found_met (Some (n, Link)) = refl

leads_to_name : (t : Tree) (base : ℕ) (path : Path) (name : List ℕ) {at : Where} → place_on t base path ≡ Ok at → at.last ≡ Named name → may_end at.slash (entry_of t at.dir (Entry name)) ≡ true
    → result_ok (ended (settled_walk (walk (told_of t) base path follow.No))) ≡ entry_of t at.dir (Entry name)
leads_to_name t base path name {at = at} is named may =
    let teller : Teller = told_of t in
    let so = placed_so (slice_get path.parts (length path.parts - 1)) path.slash (front_of teller base path) at name is named in
    let there : may_end at.slash (entry_of t so.there.0 (Entry name)) ≡ true = ap (λ (dir : ℕ). may_end at.slash (entry_of t dir (Entry name))) so.dir ∙ may in
    let leads : walk teller base path follow.No ≡ at_name teller so.there name at.slash there =
    (λ i. with_start (start teller base path) (λ place. resolve teller follow.No MOST_LINKS place (ends_in path.parts (Name name) so.part i) (so.ends i)))
    ∙ start_last teller so.there name at.slash there (start teller base path) (take (length path.parts - 1) path.parts) so.led in
    ap (λ (o : Option Outcome). result_ok (ended (settled_walk o))) leads ∙ found_met (entry_of t so.there.0 (Entry name)) ∙ ap (λ (dir : ℕ). entry_of t dir (Entry name)) so.dir

-- and so does a text, if it has no fault
led_by : (t : Tree) (base : ℕ) (path : Result Path Refusal) (name : List ℕ) {at : Where} → (path >>= place_on t base) ≡ Ok at → at.last ≡ Named name → may_end at.slash (entry_of t at.dir (Entry name)) ≡ true
    → result_ok (path >>= λ path. ended (settled_walk (walk (told_of t) base path follow.No))) ≡ entry_of t at.dir (Entry name)
led_by t base (Ok path) name is named may = leads_to_name t base path name is named may
led_by t base (Err refusal) name is named may = absurd cc

pub leads_by : (t : Tree) (base : ℕ) (text name : List ℕ) {at : Where} → where_on t base text ≡ Ok at → at.last ≡ Named name → may_end at.slash (entry_of t at.dir (Entry name)) ≡ true → leads_to t base text ≡ entry_of t at.dir (Entry name)
leads_by t base text name is named may = led_by t base (path_or_fault text) name is named may
