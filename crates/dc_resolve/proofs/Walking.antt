-- A walk over bytes with its finder, step by step.
use Rattle.std.proofs.Common.{◌≡◌, ◌<◌, ◌≤◌, ◌+◌, ◌-◌, ◌*◌, ◌&&◌, ◌||◌, not, if◌then◌else◌, ℕ, List, [], Bool, false, Option, Some, None, Result, Ok, IfOk, IsTrue, length, refl, ap, sym, subst, ◌∙◌, arith}
use Rattle.std.specs.Borrow.{Bor}
use Rattle.dc_names.specs.Bytes.{has_parts, is_empty}
use Rattle.dc_names.specs.declared.refusal.Refusal.{Refusal}
use Rattle.dc_names.specs.Paths.{parts_of, begins_with_slash, has_end_slash}
use Rattle.dc_plain.specs.declared.call.Follow.{Follow}
use Rattle.dc_plain.specs.Facts.{Target}
use Rattle.dc_plain.specs.Resolution.{keeps_link, root}
use Rattle.dc_plain.specs.Resolution.Met.{Goes}
use Rattle.dc_plain.specs.Tellers.{Extends}
use Rattle.dc_resolve.specs.Asked.{IsSaidLink}
use Rattle.dc_resolve.specs.Finders.{KeepsAnswering}
use Rattle.dc_resolve.specs.Needs.{MayAskOver, MayAskThrough}
use Rattle.dc_resolve.specs.Spends.{met_bytes, names_bytes, way_bytes, LeavesLinks, MaySpend, Spends}
use Rattle.dc_resolve.specs.Steps.{met_shown, IsSaidMet, IsTakenFrom, TakesFirst}
use Rattle.dc_resolve.specs.Walks.{IfThrough, LeadsOver, LeadsThrough}
use Rattle.dc_resolve.specs.declared.finder.Finder.{Ghosts}
use Rattle.dc_resolve.specs.declared.walked.Walked.{Walked}
use Rattle.dc_resolve.specs.declared.walked.Walked.TheVariants as ends
use Rattle.dc_resolve.specs.declared.outcome.Reached.{Reached}
use Rattle.dc_resolve.specs.declared.outcome.Reached.TheVariants as mets
use Rattle.dc_resolve.specs.declared.outcome.Way.{Way}
use Rattle.dc_resolve.specs.declared.outcome.Way.TheVariants.{Ended, Through}
use Rattle.dc_resolve.proofs.Needed.{link_over, text_over}
use Rattle.dc_resolve.proofs.Passing.{from_first, none_first, came_on, came_over, came_to_end, came_to_link, came_through, ended_at_link, if_ok_all, over_text, CameTo, CameToLink}
use Rattle.dc_resolve.proofs.Spending.{may_left, may_less, may_over, spends_beside, spends_on}

-- a walk came on to a finder, with this many links to follow and these bytes left
abbrev pub Walks : {F T S : Type 0} → Ghosts F T S → Follow → Bool → Bool → ℕ → Target → List ℕ → F → F → ℕ → Target → List ℕ → Type 0
Walks g how slash is_last links start bytes finder f left place rest = record {
  kept : g.becomes finder f;
  valid : IsTrue (has_parts rest);
  fewer : left ≤ links;
  came : CameTo how slash is_last links start bytes (g.said f) left place rest;
  spent : Spends g finder f (way_bytes g bytes links) (way_bytes g rest left);
}

module _ {F T S : Type 0} (g : Ghosts F T S) (f later : F) where
  -- what is known of the call that asks at the next part
  abbrev pub Asks : Target → List ℕ → Option (Reached × Bor (List ℕ)) → Type 0
  Asks place rest met = record {
    taken : TakesFirst (g.said later) place rest met;
    left : Spends g f later (names_bytes (parts_of rest)) (met_bytes met);
    kept : KeepsAnswering g f later (Ok met);
  }

  -- and of the one that goes through a link
  abbrev pub Passes : Follow → ℕ → Bool → Target → ℕ → Bool → Way → Type 0
  Passes how left slash at link at_end way = record {
    leads : LeadsThrough (g.said later) how left slash at link at_end way;
    through : IfThrough way (λ more. (at_end ≡ false) × (more ≤ left));
    left : LeavesLinks g f later (left * g.link_bytes) way;
    kept : KeepsAnswering g f later (Ok way);
  }

module _ {F T S : Type 0} (g : Ghosts F T S) {how : Follow} {slash is_last : Bool} {links left : ℕ} {start place : Target} {bytes rest : List ℕ} {finder f : F} (walks : Walks g how slash is_last links start bytes finder f left place rest) where
  -- the next part may be asked
  pub may_next : MaySpend g finder (way_bytes g bytes links) → MaySpend g f (names_bytes (parts_of rest))
  may_next may = may_less g (omega arith) (may_left g (way_bytes g bytes links) (way_bytes g rest left) walks.spent may)

  module _ {later : F} {met : Option (Reached × Bor (List ℕ))} (asks : Asks g f later place rest met) where
    -- none is left
    pub spent_all : met ≡ None → (way : Way) → IfThrough way (λ more. more ≡ left) → LeavesLinks g finder later (way_bytes g bytes links) way
    spent_all none (Ended end) all = tt
    spent_all none (Through next more) all =
        spends_on g (way_bytes g bytes links) (way_bytes g rest left) (more * g.link_bytes) walks.spent
        (spends_beside g (names_bytes (parts_of rest)) 0 (left * g.link_bytes) refl (let same : more * g.link_bytes ≡ left * g.link_bytes = ap (λ n. n * g.link_bytes) all in omega (arith, same)) (subst (λ m. Spends g f later (names_bytes (parts_of rest)) (met_bytes m)) none asks.left))

    pub walk_over : ((a b : F) → g.becomes a b → Extends (g.said a) (g.said b)) → met ≡ None → {way : Way} → LeadsOver (g.said later) how left slash place [] is_last way → LeadsOver (g.said later) how links slash start bytes is_last way
    walk_over keeps none end = came_over walks.came (keeps _ _ asks.kept.becomes) (none_first (g.said later) place rest asks.taken none) end

module _ {F T S : Type 0} (g : Ghosts F T S) (goes_on : (a b c : F) → g.becomes a b → g.becomes b c → g.becomes a c) (keeps : (a b : F) → g.becomes a b → Extends (g.said a) (g.said b)) where
  module _ {how : Follow} {slash is_last : Bool} {links left : ℕ} {start place : Target} {bytes rest : List ℕ} {finder f later : F} (walks : Walks g how slash is_last links start bytes finder f left place rest)
      {met : Option (Reached × Bor (List ℕ))} (asks : Asks g f later place rest met) {reached : Reached} {after : Bor (List ℕ)} (is : met ≡ Some (reached, after)) where
    on : g.becomes f later
    on = asks.kept.becomes

    from : IsTakenFrom (g.said later) place rest after.now reached
    from = from_first asks.taken is

    spent_on : Spends g finder later (way_bytes g bytes links) (way_bytes g after.now left)
    spent_on = spends_on g (way_bytes g bytes links) (way_bytes g rest left) (way_bytes g after.now left) walks.spent
        (spends_beside g (names_bytes (parts_of rest)) (names_bytes (parts_of after.now)) (left * g.link_bytes) refl refl (subst (λ m. Spends g f later (names_bytes (parts_of rest)) (met_bytes m)) is asks.left))

    -- a part leads on, or nowhere
    pub walked_on : {to : Reached} {next : Target} → reached ≡ to → met_shown to ≡ Goes next → Walks g how slash is_last links start bytes finder later left next after.now
    walked_on leads goes = record {
      kept = goes_on _ _ _ walks.kept on;
      valid = from.valid;
      fewer = walks.fewer;
      came = came_on walks.came (keeps _ _ on) from (ap met_shown leads ∙ goes);
      spent = spent_on;
    }

    pub walk_stops : {refusal : Refusal} → reached ≡ mets.Stops refusal → LeadsOver (g.said later) how links slash start bytes is_last (Ended (ends.Refused refusal))
    walk_stops stops = came_to_end walks.came (keeps _ _ on) from (ap met_shown stops)

    -- a part leads to a link
    module _ {link : ℕ} (meets : reached ≡ mets.Meets link) {at_end : Bool} (last : at_end ≡ (is_last && is_empty (parts_of after.now))) where
      met_link : CameToLink how slash is_last links start bytes (g.said later) left place link after.now
      met_link = came_to_link walks.came (keeps _ _ on) from (ap met_shown meets)

      -- and may be gone through
      pub may_pass : MayAskOver g finder how links slash start bytes is_last → MaySpend g finder (way_bytes g bytes links)
          → IsSaidLink (g.said later) link × (MayAskThrough g later how left slash place link at_end × MaySpend g later (left * g.link_bytes))
      may_pass may spend = let taken = from.taken in (
        subst (IsSaidMet (g.said later)) meets taken.link,
        (link_over g goes_on keeps may (goes_on _ _ _ walks.kept on) met_link last, may_less g (omega arith) (may_left g (way_bytes g bytes links) (way_bytes g after.now left) spent_on spend)),
      )

      module _ {over : F} {way : Way} (passes : Passes g later over how left slash place link at_end way) where
        pub walk_ended : {end : Walked} → way ≡ Ended end → LeadsOver (g.said over) how links slash start bytes is_last (Ended end)
        walk_ended ends = ended_at_link met_link (keeps _ _ passes.kept.becomes) last passes.leads ends

        pub walked_through : {next : Target} {fewer : ℕ} → way ≡ Through next fewer → Walks g how slash is_last links start bytes finder over fewer next after.now
        walked_through {fewer = fewer} through =
            let names = names_bytes (parts_of after.now) in
            let less = subst (λ w. IfThrough w (λ more. (at_end ≡ false) × (more ≤ left))) through passes.through in
            let less_over = less.1 in
            let was = walks.fewer in record {
              kept = goes_on _ _ _ (goes_on _ _ _ walks.kept on) passes.kept.becomes;
              valid = from.valid;
              fewer = omega arith;
              came = came_through met_link (keeps _ _ passes.kept.becomes) last passes.leads through;
              spent = spends_on g (way_bytes g bytes links) (way_bytes g after.now left) (way_bytes g after.now fewer) spent_on
                  (spends_beside g (left * g.link_bytes) (fewer * g.link_bytes) names (omega arith) (omega arith) (subst (LeavesLinks g later over (left * g.link_bytes)) through passes.left));
            }

  -- a link is followed, and these are the bytes of its text
  module _ (how : Follow) (slash is_last : Bool) (at : Target) {links : ℕ} {ends : Bool} {base : Target} {link : ℕ} {text known bytes : List ℕ} {f : F} (follows : (is_last && not slash && keeps_link how) ≡ false) (some : 0 < links)
      (told : (g.said f).text link ≡ Some text) (is : known ≡ text) (same : bytes ≡ known) (begins : base ≡ (if begins_with_slash known then root else at)) (slashed : ends ≡ (slash || is_last && has_end_slash known)) where
    pub may_go_over : ((f : F) (a b : ℕ) → g.may_spend f (a + b) → g.may_spend f b) → {finder : F} → MayAskThrough g finder how links slash at link is_last → MaySpend g finder (links * g.link_bytes)
        → g.becomes finder f → Spends g finder f g.link_bytes (length text) → MayAskOver g f how (links - 1) ends base bytes is_last × MaySpend g f (way_bytes g bytes (links - 1))
    may_go_over spends_less may spend on spends =
        (text_over g how slash at goes_on keeps may on follows some (told ∙ ap Some (sym is)) same begins slashed, may_over g spends_less links some (same ∙ is) spends spend)

    pub text_leads : {new : F} (result : Result Way S) → KeepsAnswering g f new result → IfOk result (LeadsOver (g.said new) how (links - 1) ends base bytes is_last) → IfOk result (λ way. IfThrough way (λ left. (is_last ≡ false) × (left ≤ links - 1)))
        → IfOk result (LeadsThrough (g.said new) how links slash at link is_last)
    text_leads result kept leads through = if_ok_all result _ _ _ _ (λ on way over middle.
        over_text (λ left. left ≤ links - 1) follows some ((keeps _ _ on).text _ _ told ∙ ap Some (sym is)) same begins slashed over middle) kept.becomes leads through
