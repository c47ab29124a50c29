-- Where a resolution asks, by one who tells as another does of some directories.
use Rattle.std.proofs.Common.{◌≡◌, ℕ, zero, suc, List, [], ◌∷◌, ◌++◌, ◌&&◌, ◌||◌, ◌==◌, not, Bool, true, false, cond, Option, Some, None, option_map, refl, ap, sym, subst, ◌∙◌}
use Rattle.dc_names.specs.Bytes.{is_empty}
use Rattle.dc_names.specs.Paths.{Part, Path, path_in}
use Rattle.dc_names.specs.Paths.Part.{Name, Dot, DotDot}
use Rattle.dc_names.specs.declared.kind.Kind.TheVariants.{Dir}
use Rattle.dc_names.specs.declared.limits.TheConstants.{MOST_LINKS}
use Rattle.dc_names.specs.declared.refusal.Refusal.TheVariants.{NotFound, NotDirectory, TooManyLinks}
use Rattle.dc_plain.specs.declared.call.Follow.{Follow}
use Rattle.dc_plain.specs.Facts.{Label, Target, Teller}
use Rattle.dc_plain.specs.Facts.Label.{Entry, Parent}
use Rattle.dc_plain.specs.Places.{walk, with_start}
use Rattle.dc_plain.specs.Resolution.{Met, Outcome, at_part, is_directory, keeps_link, met_by, over_parts, resolve, root, with_met, with_text}
use Rattle.dc_plain.specs.Resolution.Met.{Goes, Stops, Meets}
use Rattle.dc_plain.specs.Resolution.Outcome.{Found, Refused}
use Rattle.dc_resolve.specs.Asked.{label_of}
use Rattle.dc_resolve.specs.Needs.{asks}
use Rattle.dc_trail.specs.Questions.{asked_after, asked_by, asked_from, asked_in, asked_in_text, asked_over, is_among}
use Rattle.dc_trail.proofs.Among.{first_new}

-- of these directories and of all links both tell the same
pub record Agrees (seen : List ℕ) (teller other : Teller) : Type 0 where
  pub entry : (d : ℕ) (label : Label) → is_among seen d ≡ true → other.entry d label ≡ teller.entry d label
  pub text : (n : ℕ) → other.text n ≡ teller.text n

-- the other outcome is the same if nothing new is asked; else it hangs on the first new directory: on whether anything is told there, and if a name is missing there it is refused
abbrev pub Hangs : List ℕ → Teller → Option ℕ → Option Outcome → Option Outcome → Type 0
Hangs seen other None a b = a ≡ b
Hangs seen other (Some d) a b = (label : Label) × (is_among seen d ≡ false) × (other.entry d label ≡ None → a ≡ None) × (other.entry d label ≡ Some None → a ≡ Some (Refused NotFound))

-- a part that asks nothing leads on whoever tells
unasked : (a b : Teller) (place : Target) (part : Part) → asks place part ≡ false → at_part a place part ≡ at_part b place part
unasked a b place Dot e = refl
unasked a b place (Name name) e =
    elim (is_directory place) as (λ t. (t && true) ≡ false → cond (not t) (Some (Stops NotDirectory)) (met_by (a.entry place.0 (Entry name))) ≡ cond (not t) (Some (Stops NotDirectory)) (met_by (b.entry place.0 (Entry name)))) [
      | true ↦ λ h. cc
      | false ↦ λ h. refl
    ] e
unasked a b place DotDot e =
    elim (is_directory place) as (λ t. (t && not (place.0 == 1)) ≡ false → cond (not t) (Some (Stops NotDirectory)) (cond (place.0 == 1) (Some (Goes place)) (met_by (a.entry place.0 Parent)))
    ≡ cond (not t) (Some (Stops NotDirectory)) (cond (place.0 == 1) (Some (Goes place)) (met_by (b.entry place.0 Parent)))) [
      | true ↦ elim (place.0 == 1) as (λ t. not t ≡ false → cond t (Some (Goes place)) (met_by (a.entry place.0 Parent)) ≡ cond t (Some (Goes place)) (met_by (b.entry place.0 Parent))) [
        | true ↦ λ h. refl
        | false ↦ λ h. cc
      ]
      | false ↦ λ h. refl
    ] e

-- one that asks leads on by the answer
by_answer : (a : Teller) (place : Target) (part : Part) → asks place part ≡ true → at_part a place part ≡ met_by (a.entry place.0 (label_of part))
by_answer a place (Name name) e =
    elim (is_directory place) as (λ t. (t && true) ≡ true → cond (not t) (Some (Stops NotDirectory)) (met_by (a.entry place.0 (Entry name))) ≡ met_by (a.entry place.0 (Entry name))) [
      | true ↦ λ h. refl
      | false ↦ λ h. cc
    ] e
by_answer a place Dot e =
    elim (is_directory place) as (λ t. (t && false) ≡ true → cond (not t) (Some (Stops NotDirectory)) (Some (Goes place)) ≡ met_by (a.entry place.0 (label_of Dot))) [
      | true ↦ λ h. cc
      | false ↦ λ h. cc
    ] e
by_answer a place DotDot e =
    elim (is_directory place) as (λ t. (t && not (place.0 == 1)) ≡ true → cond (not t) (Some (Stops NotDirectory)) (cond (place.0 == 1) (Some (Goes place)) (met_by (a.entry place.0 Parent))) ≡ met_by (a.entry place.0 Parent)) [
      | true ↦ elim (place.0 == 1) as (λ t. not t ≡ true → cond t (Some (Goes place)) (met_by (a.entry place.0 Parent)) ≡ met_by (a.entry place.0 Parent)) [
        | true ↦ λ h. cc
        | false ↦ λ h. refl
      ]
      | false ↦ λ h. cc
    ] e

module _ (seen : List ℕ) (teller other : Teller) (agrees : Agrees seen teller other) (how : Follow) where
  module _ (go_other go_teller : Target → ℕ → List Part → Bool → Option Outcome) (at_link : Target → ℕ → List Part → Bool → List ℕ) (linked : (place : Target) (link : ℕ) (rest : List Part) (slash : Bool) → Hangs seen other (first_new seen (at_link place link rest slash)) (go_other place link rest slash) (go_teller place link rest slash)) where
    -- from what a part leads to
    over_met : (place : Target) (rest : List Part) (slash : Bool)
        → ((next : Target) → Hangs seen other (first_new seen (asked_over teller how at_link next rest slash)) (over_parts other how go_other next rest slash) (over_parts teller how go_teller next rest slash))
        → (met : Option Met) → Hangs seen other
        (first_new seen (asked_after met (λ next. asked_over teller how at_link next rest slash) (λ link. cond (is_empty rest && not slash && keeps_link how) [] (at_link place link.0 rest slash))))
        (with_met met (λ next. over_parts other how go_other next rest slash) (λ link. cond (is_empty rest && not slash && keeps_link how) (Some (Found link)) (go_other place link.0 rest slash)))
        (with_met met (λ next. over_parts teller how go_teller next rest slash) (λ link. cond (is_empty rest && not slash && keeps_link how) (Some (Found link)) (go_teller place link.0 rest slash)))
    over_met place rest slash on None = refl
    over_met place rest slash on (Some (Goes next)) = on next
    over_met place rest slash on (Some (Stops refusal)) = refl
    over_met place rest slash on (Some (Meets link)) =
        elim (is_empty rest && not slash && keeps_link how) as (λ b. Hangs seen other (first_new seen (cond b [] (at_link place link.0 rest slash))) (cond b (Some (Found link)) (go_other place link.0 rest slash)) (cond b (Some (Found link)) (go_teller place link.0 rest slash))) [
          | true ↦ refl
          | false ↦ linked place link.0 rest slash
        ]

    over_hangs : (parts : List Part) (place : Target) (slash : Bool)
        → Hangs seen other (first_new seen (asked_over teller how at_link place parts slash)) (over_parts other how go_other place parts slash) (over_parts teller how go_teller place parts slash)
    over_hangs [] place slash = refl
    over_hangs (part ∷ rest) place slash =
        let kept = is_empty rest && not slash && keeps_link how in
        let asked = asked_after (at_part teller place part) (λ next. asked_over teller how at_link next rest slash) (λ link. cond kept [] (at_link place link.0 rest slash)) in
        let by : Option Met → Option Outcome = λ met. with_met met (λ next. over_parts other how go_other next rest slash) (λ link. cond kept (Some (Found link)) (go_other place link.0 rest slash)) in
        let to = with_met (at_part teller place part) (λ next. over_parts teller how go_teller next rest slash) (λ link. cond kept (Some (Found link)) (go_teller place link.0 rest slash)) in
        let same : at_part other place part ≡ at_part teller place part → Hangs seen other (first_new seen asked) (by (at_part other place part)) to =
        λ is. subst (λ met. Hangs seen other (first_new seen asked) (by met) to) (sym is) (over_met place rest slash (λ next. over_hangs rest next slash) (at_part teller place part)) in
        elim (asks place part) as (λ b. asks place part ≡ b → Hangs seen other (first_new seen (cond b (place.0 ∷ []) [] ++ asked)) (by (at_part other place part)) to) [
          | true ↦ λ is. elim (is_among seen place.0) as (λ b. is_among seen place.0 ≡ b → Hangs seen other (cond b (first_new seen asked) (Some place.0)) (by (at_part other place part)) to) [
            | true ↦ λ there. same (by_answer other place part is ∙ ap met_by (agrees.entry place.0 (label_of part) there) ∙ sym (by_answer teller place part is))
            | false ↦ λ new. (
              label_of part,
              new,
              λ none. ap by (by_answer other place part is ∙ ap met_by none),
              λ none. ap by (by_answer other place part is ∙ ap met_by none),
            )
          ] refl
          | false ↦ λ is. same (unasked other teller place part is)
        ] refl

  -- from a link by its text
  over_text : (asked : List ℕ → List ℕ) (go_other go_teller : List ℕ → Option Outcome) → ((text : List ℕ) → Hangs seen other (first_new seen (asked text)) (go_other text) (go_teller text))
      → (told : Option (List ℕ)) → Hangs seen other (first_new seen (asked_in_text told asked)) (with_text told go_other) (with_text told go_teller)
  over_text asked go_other go_teller on None = refl
  over_text asked go_other go_teller on (Some text) = on text

  pub resolve_hangs : (links : ℕ) (place : Target) (parts : List Part) (slash : Bool)
      → Hangs seen other (first_new seen (asked_by teller how links place parts slash)) (resolve other how links place parts slash) (resolve teller how links place parts slash)
  unfolding resolve asked_by
  resolve_hangs zero place parts slash =
      over_hangs (λ at link rest ends. Some (Refused TooManyLinks)) (λ at link rest ends. Some (Refused TooManyLinks)) (λ at link rest ends. []) (λ at link rest ends. refl) parts place slash
  resolve_hangs (suc left) place parts slash =
      over_hangs
      (λ at link rest ends. with_text (other.text link) (λ text. resolve other how left (cond (path_in text).absolute root at) ((path_in text).parts ++ rest) (ends || is_empty rest && (path_in text).slash)))
      (λ at link rest ends. with_text (teller.text link) (λ text. resolve teller how left (cond (path_in text).absolute root at) ((path_in text).parts ++ rest) (ends || is_empty rest && (path_in text).slash)))
      (λ at link rest ends. asked_in_text (teller.text link) (λ text. asked_by teller how left (cond (path_in text).absolute root at) ((path_in text).parts ++ rest) (ends || is_empty rest && (path_in text).slash)))
      (λ at link rest ends.
      let asked : List ℕ → List ℕ = λ text. asked_by teller how left (cond (path_in text).absolute root at) ((path_in text).parts ++ rest) (ends || is_empty rest && (path_in text).slash) in
      let by : List ℕ → Option Outcome = λ text. resolve other how left (cond (path_in text).absolute root at) ((path_in text).parts ++ rest) (ends || is_empty rest && (path_in text).slash) in
      let to : List ℕ → Option Outcome = λ text. resolve teller how left (cond (path_in text).absolute root at) ((path_in text).parts ++ rest) (ends || is_empty rest && (path_in text).slash) in
      subst (λ told. Hangs seen other (first_new seen (asked_in_text (teller.text link) asked)) (with_text told by) (with_text (teller.text link) to)) (sym (agrees.text link))
      (over_text asked by to (λ text. resolve_hangs left (cond (path_in text).absolute root at) ((path_in text).parts ++ rest) (ends || is_empty rest && (path_in text).slash)) (teller.text link)))
      parts place slash

  -- from where a path begins
  over_start : (path : Path) (begins : Option (Option Target)) → Hangs seen other (first_new seen (asked_from begins (λ place. asked_by teller how MOST_LINKS place path.parts path.slash)))
      (with_start begins (λ place. resolve other how MOST_LINKS place path.parts path.slash)) (with_start begins (λ place. resolve teller how MOST_LINKS place path.parts path.slash))
  over_start path None = refl
  over_start path (Some None) = refl
  over_start path (Some (Some place)) = resolve_hangs MOST_LINKS place path.parts path.slash

  pub walk_hangs : (base : ℕ) (path : Path) → Hangs seen other (first_new seen (asked_in teller base path how)) (walk other base path how) (walk teller base path how)
  walk_hangs base path =
      let begins : Option (Option Target) → Option (Option Target) = option_map (option_map (λ up. (base, Dir))) in
      let asked : Option (Option Target) → List ℕ = λ at. asked_from at (λ place. asked_by teller how MOST_LINKS place path.parts path.slash) in
      let by : Option (Option Target) → Option Outcome = λ at. with_start at (λ place. resolve other how MOST_LINKS place path.parts path.slash) in
      let to : Option (Option Target) → Option Outcome = λ at. with_start at (λ place. resolve teller how MOST_LINKS place path.parts path.slash) in
      elim (path.absolute || base == 1) as (λ b. Hangs seen other (first_new seen (cond b [] (base ∷ []) ++ asked (cond b (Some (Some root)) (begins (teller.entry base Parent))))) (by (cond b (Some (Some root)) (begins (other.entry base Parent)))) (to (cond b (Some (Some root)) (begins (teller.entry base Parent))))) [
        | true ↦ over_start path (Some (Some root))
        | false ↦ elim (is_among seen base) as (λ b. is_among seen base ≡ b → Hangs seen other (cond b (first_new seen (asked (begins (teller.entry base Parent)))) (Some base)) (by (begins (other.entry base Parent))) (to (begins (teller.entry base Parent)))) [
          | true ↦ λ there. subst (λ told. Hangs seen other (first_new seen (asked (begins (teller.entry base Parent)))) (by (begins told)) (to (begins (teller.entry base Parent)))) (sym (agrees.entry base Parent there)) (over_start path (begins (teller.entry base Parent)))
          | false ↦ λ new. (Parent, new, λ none. ap (λ told. by (begins told)) none, λ none. ap (λ told. by (begins told)) none)
        ] refl
      ]
