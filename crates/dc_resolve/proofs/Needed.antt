-- Questions that an outcome needs.
use Rattle.std.proofs.Common.{◌≡◌, ℕ, ◌<◌, List, [], ◌∷◌, ◌++◌, ◌&&◌, ◌||◌, ◌-◌, ◌==◌, not, if◌then◌else◌, Bool, true, false, Option, Some, None, option_map, IsTrue, Result, Ok, Err, IfOk, OnOk, refl, ap, sym, ◌∙◌}
use Rattle.std.proofs.lemmas.Bool.{and_parts}
use Rattle.std.proofs.lemmas.List.{append-nil}
use Rattle.dc_names.specs.Bytes.{is_empty}
use Rattle.dc_names.specs.Paths.{Part, Path, parts_of, path_in, begins_with_slash, has_end_slash}
use Rattle.dc_names.specs.Paths.Part.{Name, Dot, DotDot}
use Rattle.dc_names.specs.declared.kind.Kind.TheVariants.{Dir}
use Rattle.dc_names.specs.declared.limits.TheConstants.{MOST_LINKS}
use Rattle.dc_plain.specs.declared.call.Follow.{Follow}
use Rattle.dc_plain.specs.Facts.{Target, Teller}
use Rattle.dc_plain.specs.Facts.Label.{Parent, Text}
use Rattle.dc_plain.specs.Places.{start, with_start}
use Rattle.dc_plain.specs.Resolution.{Outcome, at_part, is_directory, keeps_link, met_by, over_parts, resolve, root}
use Rattle.dc_plain.specs.Tellers.{Extends}
use Rattle.dc_resolve.specs.Asked.{label_of}
use Rattle.dc_resolve.specs.Needs.{asks, IsUntold, MayAsk, MayAskFirst, MayAskOver, MayAskThrough}
use Rattle.dc_resolve.specs.Ends.{resolve_by}
use Rattle.dc_resolve.specs.Resolves.{resolve_at, ResolvesTo}
use Rattle.dc_resolve.specs.Walks.{following, LeadsTo}
use Rattle.dc_resolve.specs.declared.finder.Finder.{Ghosts}
use Rattle.dc_resolve.specs.declared.walked.Walked.{Walked}
use Rattle.dc_resolve.proofs.Following.{resolve_is, unfollowed, with_told}
use Rattle.dc_resolve.proofs.Going.{told_still}
use Rattle.dc_resolve.proofs.Passing.{last_of, not_kept, CameTo, CameToLink}

flipped : (b : Bool) → not b ≡ true → b ≡ false
flipped true e = absurd cc
flipped false e = refl

-- a part leads nowhere whose question isn't told of
unmet : (teller : Teller) (at : Target) (part : Part) → IsTrue (asks at part) → IsUntold teller at.0 (label_of part) → at_part teller at part ≡ None
unmet teller at (Name name) asked none = rw ((and_parts (is_directory at) true asked).0) (ap met_by none)
unmet teller at Dot asked none = let never = (and_parts (is_directory at) false asked).1 in absurd cc
unmet teller at DotDot asked none =
    let is = and_parts (is_directory at) (not (at.0 == 1)) asked in rw (is.0, flipped (at.0 == 1) is.1) (ap met_by none)

unmet_first : (teller : Teller) (how : Follow) (follow_link : Target → ℕ → List Part → Bool → Option Outcome) (at : Target) (part : Part) (rest : List Part) (slash : Bool) → at_part teller at part ≡ None → over_parts teller how follow_link at (part ∷ rest) slash ≡ None
unmet_first teller how follow_link at part rest slash none = rw none refl

start_by : (rooted : Bool) (base : ℕ) {before later : Option (Option Target)} {found : Option Target} → ((up : Option Target) → before ≡ Some up → later ≡ Some up)
    → (if rooted then Some (Some root) else option_map (option_map (λ up. (base, Dir))) before) ≡ Some found → (if rooted then Some (Some root) else option_map (option_map (λ up. (base, Dir))) later) ≡ Some found
start_by true base more is = is
start_by false base {before = None} more is = absurd cc
start_by false base {before = Some up} more is = ap (option_map (option_map (λ up. (base, Dir)))) (more up refl) ∙ is

-- a start that was told stays
start_still : (base : ℕ) (path : Path) {first teller : Teller} {found : Option Target} → Extends first teller → start first base path ≡ Some found → start teller base path ≡ Some found
start_still base path more is = start_by (path.absolute || base == 1) base (more.entry base Parent) is

-- where the parts of some bytes lead from there
pub ends_by : {S : Type 0} {first said : Teller} (on : Type 0) (how : Follow) (base : ℕ) (text bytes : List ℕ) (slash : Bool) {place : Target} (result : Result Walked S) → (on → Extends first said) → OnOk result on → start first base (path_in text) ≡ Some (Some place)
    → IfOk result (LeadsTo said how MOST_LINKS place (parts_of bytes) slash) → IfOk result (ResolvesTo said base text bytes slash how)
ends_by on how base text bytes slash (Err e) keeps went is leads = tt
ends_by on how base text bytes slash (Ok end) keeps went is leads = λ teller told.
    ap (λ o. with_start o (λ at. resolve teller how MOST_LINKS at (parts_of bytes) slash)) (start_still base (path_in text) (told_still (keeps went) told) is) ∙ leads.ends teller told

module _ {F T S : Type 0} (g : Ghosts F T S) where
  -- what has no outcome without another
  pub needed_by : {A B : Type 0} {finder : F} {outcome : Teller → Option A} {first : Teller → Option B}
      → ((teller : Teller) → first teller ≡ None → outcome teller ≡ None) → MayAsk g finder outcome → MayAsk g finder first
  needed_by follows ok f on n label need = ok f on n label λ teller told none. follows teller (need teller told none)

  -- nothing is below
  pub alone_over : {finder : F} (how : Follow) (links : ℕ) (slash : Bool) (place : Target) (bytes : List ℕ)
      → MayAsk g finder (λ teller. resolve teller how links place (parts_of bytes) slash) → MayAskOver g finder how links slash place bytes true
  alone_over how links slash place bytes ok = (
    [],
    refl,
    λ f on n label need. ok f on n label λ teller told none.
        ap (λ ps. resolve teller how links place ps slash) (sym (append-nil (parts_of bytes))) ∙ need teller told none,
  )

  -- a part of what is left, once a walk has come to it
  pub first_over : {finder f : F} {how : Follow} {links left : ℕ} {slash is_last : Bool} {start place : Target} {bytes rest : List ℕ}
      → MayAskOver g finder how links slash start bytes is_last → g.becomes finder f → CameTo how slash is_last links start bytes (g.said f) left place rest → MayAskFirst (g.may_ask f) place (parts_of rest)
  first_over {f = f} {how = how} {left = left} {slash = slash} {place = place} {rest = rest} may on came part more is asked =
      let below = may.0 in
      may.2 f on place.0 (label_of part) λ teller told none.
      came.above teller told below may.1
      ∙ resolve_is teller how left place (parts_of rest ++ below) slash
      ∙ ap (λ ps. over_parts teller how (following teller how left) place (ps ++ below) slash) is
      ∙ unmet_first teller how (following teller how left) place part (more ++ below) slash (unmet teller place part asked none)

  -- a link that a walk has come to
  pub link_over : {finder f : F} {how : Follow} {links left : ℕ} {slash is_last at_end : Bool} {start at : Target} {link : ℕ} {bytes rest : List ℕ}
      → ((a b c : F) → g.becomes a b → g.becomes b c → g.becomes a c) → ((a b : F) → g.becomes a b → Extends (g.said a) (g.said b))
      → MayAskOver g finder how links slash start bytes is_last → g.becomes finder f → CameToLink how slash is_last links start bytes (g.said f) left at link rest → at_end ≡ (is_last && is_empty (parts_of rest))
      → MayAskThrough g f how left slash at link at_end
  link_over {finder = finder} {f = f} {is_last = is_last} {rest = rest} goes_on keeps may on came last =
      let below = may.0 in (
        parts_of rest ++ below,
        last_of (parts_of rest) below is_last may.1 ∙ sym last,
        λ later next n label need. may.2 later (goes_on finder f later on next) n label λ teller told none.
            came.above teller (told_still (keeps f later next) told) below may.1 ∙ need teller told none,
      )

  -- the text of a link that must be followed
  pub text_of : {finder : F} (how : Follow) {links : ℕ} (slash : Bool) {is_last : Bool} (at : Target) {link : ℕ}
      → ((f : F) → g.becomes f f) → MayAskThrough g finder how links slash at link is_last → (is_last && not slash && keeps_link how) ≡ false → 0 < links → g.may_ask finder link Text
  text_of {finder = finder} how {links = links} slash at {link = link} stays may follows some =
      may.2 finder (stays finder) link Text λ teller told none. not_kept teller how links at link may.0 slash may.1 follows ∙ unfollowed teller how links at link may.0 slash some none

  -- and what the text asks
  pub text_over : {finder f : F} (how : Follow) {links : ℕ} (slash : Bool) {is_last ends : Bool} (at : Target) {base : Target} {link : ℕ} {text bytes : List ℕ}
      → ((a b c : F) → g.becomes a b → g.becomes b c → g.becomes a c) → ((a b : F) → g.becomes a b → Extends (g.said a) (g.said b))
      → MayAskThrough g finder how links slash at link is_last → g.becomes finder f → (is_last && not slash && keeps_link how) ≡ false → 0 < links → (g.said f).text link ≡ Some text → bytes ≡ text
      → base ≡ (if begins_with_slash text then root else at) → ends ≡ (slash || is_last && has_end_slash text) → MayAskOver g f how (links - 1) ends base bytes is_last
  text_over {finder = finder} {f = f} how {links = links} slash at {link = link} {text = text} goes_on keeps may on follows some told same begins slashed =
      let below = may.0 in (
        below,
        may.1,
        λ later next n label need. may.2 later (goes_on finder f later on next) n label λ teller more none.
            not_kept teller how links at link below slash may.1 follows
            ∙ with_told teller how links at link below slash text some ((told_still (keeps f later next) more).text link text told)
            ∙ (λ i. resolve teller how (links - 1) (sym begins i) (parts_of (sym same i) ++ below) ((ap (λ b. slash || b && has_end_slash text) may.1 ∙ sym slashed) i))
            ∙ need teller more none,
      )

  -- what is asked from where a path begins
  pub may_by : {finder started : F} (how : Follow) (base : ℕ) (text bytes : List ℕ) (slash : Bool) {place : Target}
      → ((a b c : F) → g.becomes a b → g.becomes b c → g.becomes a c) → ((a b : F) → g.becomes a b → Extends (g.said a) (g.said b))
      → MayAsk g finder (resolve_by base text bytes slash how) → g.becomes finder started → start (g.said started) base (path_in text) ≡ Some (Some place) → MayAsk g started (resolve_at how place bytes slash)
  may_by {finder = finder} {started = started} how base text bytes slash goes_on keeps may on is later next n label need =
      may later (goes_on finder started later on next) n label λ teller told none.
      ap (λ o. with_start o (λ at. resolve teller how MOST_LINKS at (parts_of bytes) slash)) (start_still base (path_in text) (told_still (keeps started later next) told) is)
      ∙ need teller told none
