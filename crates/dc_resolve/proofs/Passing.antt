-- Walks over bytes, whatever is left below them.
use Rattle.std.proofs.Common.{◌≡◌, ℕ, ◌<◌, ◌-◌, List, [], ◌∷◌, ◌++◌, ◌&&◌, ◌||◌, Bool, true, false, not, Option, Some, None, Result, Ok, Err, IfOk, OnOk, length, if◌then◌else◌, refl, ap, sym, subst, ◌∙◌, arith, rules}
use Rattle.std.proofs.lemmas.Bool.Decides.{nat_tests}
use Rattle.std.proofs.lemmas.List.{append-nil}
use Rattle.std.specs.Borrow.{Bor}
use Rattle.dc_names.specs.Bytes.{is_empty}
use Rattle.dc_names.specs.Paths.{Part, parts_of, begins_with_slash, has_end_slash}
use Rattle.dc_plain.specs.declared.call.Follow.{Follow}
use Rattle.dc_plain.specs.Facts.{Target, Teller}
use Rattle.dc_plain.specs.Resolution.{Met, Outcome, ending, keeps_link, over_parts, resolve, root, with_met}
use Rattle.dc_plain.specs.Resolution.Met.{Goes, Stops, Meets}
use Rattle.dc_plain.specs.Resolution.Outcome.{Found}
use Rattle.dc_plain.specs.Tellers.{Extends}
use Rattle.dc_resolve.specs.Ends.{outcome_shown}
use Rattle.dc_resolve.specs.Steps.{met_shown, IsTakenFrom, TakesFirst}
use Rattle.dc_resolve.specs.Walks.{at_link, following, outcome_after, IfThrough, LeadsOver, LeadsThrough, LeadsTo}
use Rattle.dc_resolve.specs.declared.outcome.Reached.{Reached}
use Rattle.dc_resolve.specs.declared.outcome.Way.{Way}
use Rattle.dc_resolve.specs.declared.outcome.Way.TheVariants.{Ended, Through}
use Rattle.dc_resolve.specs.declared.walked.Walked.{Walked}
use Rattle.dc_resolve.specs.declared.walked.Walked.TheVariants as ends
use Rattle.dc_names.specs.declared.kind.Kind.TheVariants.{Link}
use Rattle.dc_names.specs.declared.refusal.Refusal.{Refusal}
use Rattle.dc_names.specs.declared.refusal.Refusal.TheVariants.{TooManyLinks}
use Rattle.dc_resolve.proofs.Following.{resolve_is, too_many, with_told}
use Rattle.dc_resolve.proofs.Going.{told_still}

-- none is left if none is left of the bytes, nor below
pub last_of : (xs below : List Part) (is_last : Bool) → is_empty below ≡ is_last → is_empty (xs ++ below) ≡ (is_last && is_empty xs)
last_of [] below true e = e
last_of [] below false e = e
last_of (x ∷ xs) below true e = search rules
last_of (x ∷ xs) below false e = search rules

pub from_first : {said : Teller} {place : Target} {bytes : List ℕ} {met : Option (Reached × Bor (List ℕ))} {reached : Reached} {after : Bor (List ℕ)}
    → TakesFirst said place bytes met → met ≡ Some (reached, after) → IsTakenFrom said place bytes after.now reached
from_first {said = said} {place = place} {bytes = bytes} takes is = subst (TakesFirst said place bytes) is takes

-- the first part is taken
over_first : {said teller : Teller} (how : Follow) (slash : Bool) {place : Target} {bytes after : List ℕ} {reached : Reached} {to : Met} (links : ℕ)
    → IsTakenFrom said place bytes after reached → met_shown reached ≡ to → Extends said teller → (below : List Part)
    → resolve teller how links place (parts_of bytes ++ below) slash
    ≡ with_met (Some to) (λ next. resolve teller how links next (parts_of after ++ below) slash)
    (λ link. if is_empty (parts_of after ++ below) && not slash && keeps_link how then Some (Found link) else following teller how links place link.0 (parts_of after ++ below) slash)
over_first {teller = teller} how slash {place = place} {bytes = bytes} {after = after} links from is more below =
    let rest = parts_of after ++ below in
    resolve_is teller how links place (parts_of bytes ++ below) slash
    ∙ ap (λ parts. over_parts teller how (following teller how links) place (parts ++ below) slash) from.taken.first
    ∙ (λ i. with_met ((from.taken.leads teller more ∙ ap Some is) i) (λ next. sym (resolve_is teller how links next rest slash) i) (λ link. if is_empty rest && not slash && keeps_link how then Some (Found link) else following teller how links place link.0 rest slash))

module _ (how : Follow) (slash is_last : Bool) (links : ℕ) (start : Target) (bytes : List ℕ) where
  -- a walk came to a place, with this many links to follow and these bytes left
  pub record CameTo (said : Teller) (left : ℕ) (place : Target) (rest : List ℕ) : Type 0 where
    pub above : (teller : Teller) → Extends said teller → (below : List Part) → is_empty below ≡ is_last
        → resolve teller how links start (parts_of bytes ++ below) slash ≡ resolve teller how left place (parts_of rest ++ below) slash

  -- it came to a link there
  pub record CameToLink (said : Teller) (left : ℕ) (at : Target) (link : ℕ) (rest : List ℕ) : Type 0 where
    pub above : (teller : Teller) → Extends said teller → (below : List Part) → is_empty below ≡ is_last
        → resolve teller how links start (parts_of bytes ++ below) slash ≡ at_link teller how left at link (parts_of rest ++ below) slash

-- no part is left if none was taken
pub none_first : (said : Teller) (place : Target) (bytes : List ℕ) {met : Option (Reached × Bor (List ℕ))} → TakesFirst said place bytes met → met ≡ None → parts_of bytes ≡ []
none_first said place bytes takes is = subst (TakesFirst said place bytes) is takes

module _ {how : Follow} {slash is_last : Bool} {links : ℕ} {start : Target} {bytes : List ℕ} {said later : Teller} {left : ℕ} {rest : List ℕ} where
  module _ {place : Target} {more : List ℕ} {reached : Reached} where
    pub came_on : {next : Target} → CameTo how slash is_last links start bytes said left place rest → Extends said later
        → IsTakenFrom later place rest more reached → met_shown reached ≡ Goes next → CameTo how slash is_last links start bytes later left next more
    came_on came keeps from is = record {
      above = λ teller told below e. came.above teller (told_still keeps told) below e ∙ over_first how slash left from is told below;
    }

    pub came_to_end : {refusal : Refusal} → CameTo how slash is_last links start bytes said left place rest → Extends said later
        → IsTakenFrom later place rest more reached → met_shown reached ≡ Stops refusal → LeadsOver later how links slash start bytes is_last (Ended (ends.Refused refusal))
    came_to_end came keeps from is = record {
      above = λ teller told below e. came.above teller (told_still keeps told) below e ∙ over_first how slash left from is told below;
    }

    pub came_to_link : {link : ℕ} → CameTo how slash is_last links start bytes said left place rest → Extends said later
        → IsTakenFrom later place rest more reached → met_shown reached ≡ Meets (link, Link) → CameToLink how slash is_last links start bytes later left place link more
    came_to_link came keeps from is = record {
      above = λ teller told below e. came.above teller (told_still keeps told) below e ∙ over_first how slash left from is told below;
    }

  -- none of the bytes is left
  pub came_over : {place : Target} {way : Way} → CameTo how slash is_last links start bytes said left place rest → Extends said later → parts_of rest ≡ []
      → LeadsOver later how left slash place [] is_last way → LeadsOver later how links slash start bytes is_last way
  came_over {place = place} came keeps none end = record {
    above = λ teller told below e. came.above teller (told_still keeps told) below e
        ∙ ap (λ parts. resolve teller how left place (parts ++ below) slash) none ∙ end.above teller told below e;
  }

  -- and on from a link, by where it leads
  module _ {at : Target} {link : ℕ} {at_end : Bool} {way : Way} where
    pub ended_at_link : {end : Walked} → CameToLink how slash is_last links start bytes said left at link rest → Extends said later → at_end ≡ (is_last && is_empty (parts_of rest))
        → LeadsThrough later how left slash at link at_end way → way ≡ Ended end → LeadsOver later how links slash start bytes is_last (Ended end)
    ended_at_link came keeps last leads is = record {
      above = λ teller told below e. came.above teller (told_still keeps told) below e
          ∙ leads.above teller told (parts_of rest ++ below) (last_of (parts_of rest) below is_last e ∙ sym last)
          ∙ ap (λ w. outcome_after w (λ next more. resolve teller how more next (parts_of rest ++ below) slash)) is;
    }

    pub came_through : {next : Target} {fewer : ℕ} → CameToLink how slash is_last links start bytes said left at link rest → Extends said later → at_end ≡ (is_last && is_empty (parts_of rest))
        → LeadsThrough later how left slash at link at_end way → way ≡ Through next fewer → CameTo how slash is_last links start bytes later fewer next rest
    came_through came keeps last leads is = record {
      above = λ teller told below e. came.above teller (told_still keeps told) below e
          ∙ leads.above teller told (parts_of rest ++ below) (last_of (parts_of rest) below is_last e ∙ sym last)
          ∙ ap (λ w. outcome_after w (λ next more. resolve teller how more next (parts_of rest ++ below) slash)) is;
    }

-- a resolution ends at a link, or follows it
pub kept_at_link : {said : Teller} {how : Follow} {links : ℕ} {slash : Bool} {at : Target} {link : ℕ} {is_last : Bool}
    → (is_last && not slash && keeps_link how) ≡ true → LeadsThrough said how links slash at link is_last (Ended (ends.Found (link, Link)))
kept_at_link kept = record {
  above = λ teller told below e. rw (e, kept) refl;
}

pub not_kept : (teller : Teller) (how : Follow) (links : ℕ) (at : Target) (link : ℕ) (below : List Part) (slash : Bool) {is_last : Bool}
    → is_empty below ≡ is_last → (is_last && not slash && keeps_link how) ≡ false → at_link teller how links at link below slash ≡ following teller how links at link below slash
not_kept teller how links at link below slash e follows = rw (e, follows) refl

-- no link more may be followed
pub refused_at_link : {said : Teller} {how : Follow} {links : ℕ} {slash : Bool} {at : Target} {link : ℕ} {is_last : Bool}
    → (is_last && not slash && keeps_link how) ≡ false → links ≡ 0 → LeadsThrough said how links slash at link is_last (Ended (ends.Refused TooManyLinks))
refused_at_link {how = how} {links = links} {slash = slash} {at = at} {link = link} follows none = record {
  above = λ teller told below e. not_kept teller how links at link below slash e follows ∙ too_many teller how links at link below slash none;
}

-- a slash that ends a text ends the path if nothing is left below, and else the walk goes on as before
slash_below : (way : Way) (slash is_last ends_so : Bool) (go : Target → ℕ → Bool → Option Outcome) (P : ℕ → Type 0) → IfThrough way (λ left. (is_last ≡ false) × P left)
    → outcome_after way (λ next left. go next left (slash || is_last && ends_so)) ≡ outcome_after way (λ next left. go next left slash)
slash_below (Ended end) slash is_last ends_so go P middle = refl
slash_below (Through next left) slash is_last ends_so go P middle = ap (go next left) (ap (λ b. slash || b && ends_so) middle.0 ∙ or_not slash)
  where
    or_not : (b : Bool) → (b || false) ≡ b
    or_not true = refl
    or_not false = refl

-- all of a result
pub if_ok_all : {A E : Type 0} (result : Result A E) (on : Type 0) (P Q R : A → Type 0) → (on → (x : A) → P x → Q x → R x) → OnOk result on → IfOk result P → IfOk result Q → IfOk result R
if_ok_all (Ok x) on P Q R follows is p q = follows is x p q
if_ok_all (Err e) on P Q R follows is p q = tt

-- the text of a link leads where the link does
pub over_text : {said : Teller} {how : Follow} {links : ℕ} {slash : Bool} {at base : Target} {link : ℕ} {is_last : Bool} {text bytes : List ℕ} {ends : Bool} {way : Way} (P : ℕ → Type 0)
    → (is_last && not slash && keeps_link how) ≡ false → 0 < links → said.text link ≡ Some text → bytes ≡ text → base ≡ (if begins_with_slash text then root else at) → ends ≡ (slash || is_last && has_end_slash text)
    → LeadsOver said how (links - 1) ends base bytes is_last way → IfThrough way (λ left. (is_last ≡ false) × P left) → LeadsThrough said how links slash at link is_last way
over_text {how = how} {links = links} {slash = slash} {at = at} {link = link} {is_last = is_last} {text = text} {way = way} P follows some told same begins slashed leads middle = record {
  above = λ teller more below e.
      not_kept teller how links at link below slash e follows
      ∙ with_told teller how links at link below slash text some (more.text link text told)
      ∙ (λ i. resolve teller how (links - 1) (sym begins i) (parts_of (sym same i) ++ below) ((ap (λ b. slash || b && has_end_slash text) e ∙ sym slashed) i))
      ∙ leads.above teller more below e
      ∙ ap (λ s. outcome_after way (λ next left. resolve teller how left next below s)) slashed
      ∙ slash_below way slash is_last (has_end_slash text) (λ next left s. resolve teller how left next below s) P middle;
}

-- nothing is below
pub leads_alone : {said : Teller} {how : Follow} {links : ℕ} {slash : Bool} {place : Target} {bytes : List ℕ} {way : Way} {end : Walked}
    → LeadsOver said how links slash place bytes true way → way ≡ Ended end → LeadsTo said how links place (parts_of bytes) slash end
leads_alone {how = how} {links = links} {slash = slash} {place = place} {bytes = bytes} leads is = record {
  ends = λ teller told. ap (λ parts. resolve teller how links place parts slash) (sym (append-nil (parts_of bytes)))
      ∙ leads.above teller told [] refl ∙ ap (λ w. outcome_after w (λ next left. resolve teller how left next [] slash)) is;
}

none_in : (below : List Part) → is_empty below ≡ true → below ≡ []
none_in [] e = refl
none_in (part ∷ below) e = let none : length (part ∷ below) ≡ 0 = grind (arith, nat_tests) in absurd (omega (arith, none))

module _ (said : Teller) (how : Follow) (links : ℕ) (slash is_last : Bool) (place : Target) where
  -- nothing is left, nor below
  pub ends_here : (end : Walked) → is_last ≡ true → outcome_shown end ≡ ending how place slash → LeadsOver said how links slash place [] is_last (Ended end)
  ends_here end last is = record {
    above = λ teller told below e. resolve_is teller how links place below slash
        ∙ ap (λ parts. over_parts teller how (following teller how links) place parts slash) (none_in below (e ∙ last)) ∙ ap Some (sym is);
  }
