-- What a walk that keeps its trail may ask, and what its trail is.
use Rattle.std.proofs.Common.{◌≡◌, ℕ, ◌<◌, ◌≤◌, List, [], ◌∷◌, Option, Some, None, IsSome, length, take, refl, ap, sym, subst, ◌∙◌, arith}
use Rattle.std.proofs.lemmas.List.{take_all}
use Rattle.dc_names.specs.Paths.{path_in}
use Rattle.dc_plain.specs.Facts.{Label, Teller}
use Rattle.dc_plain.specs.Resolution.{Outcome}
use Rattle.dc_resolve.specs.Ends.{walk_by, Stands}
use Rattle.dc_resolve.specs.Needs.{IsNeeded}
use Rattle.dc_resolve.specs.declared.finder.Finder.{Ghosts}
use Rattle.dc_trail.specs.Keeping.{outcome_in, Halts, IfNoPlace, said_in, trail_in, Goes, HasLongerTrail, IsFull, IsKept, IsTrailBy, MayAskAlong, SameWalk}
use Rattle.dc_trail.specs.Parts.{within, NeedsDir, NeedsInTurn}
use Rattle.dc_trail.specs.Questions.{trail_of}
use Rattle.dc_trail.specs.declared.halt.Halt.{Halt}
use Rattle.dc_trail.specs.declared.halt.Halt.TheVariants as halts
use Rattle.dc_trail.specs.declared.trailed.Question.{Question}
use Rattle.dc_trail.specs.declared.trailed.Trailed.{Trailed}
use Rattle.dc_trail.proofs.Telling.{told_after, turn_later, within_later, within_less}
use Rattle.dc_trail.proofs.Turns.{trail_is, trail_is_longer}

outcome_there : (o : Option Outcome) → IsSome o → (end : Outcome) × (o ≡ Some end)
outcome_there None is = cc
outcome_there (Some end) is = (end, refl)

module _ {F T S : Type 0} (g : Ghosts F T S) where
  -- what the finder may be asked, it may be asked by a walk that keeps its trail
  pub may_along : (first : Trailed F) → IsKept g first → ((a : F) → g.becomes first.finder.now a → (n : ℕ) (label : Label) → IsNeeded (outcome_in first) (g.said a) n label → g.may_ask a n label)
      → (f : Trailed F) → Goes g first f → (n : ℕ) (label : Label) → IsNeeded (outcome_in first) (said_in g f) n label → MayAskAlong g f n label
  may_along first kept may f on n label need = record {
    kept = on.kept kept;
    may = may f.finder.now on.becomes n label (λ teller told none. need teller (told_after (within_less (trail_in f) (g.said f.finder.now)) told) none);
    needed = subst (λ (q : Question). IsNeeded (walk_by q.base q.path.bytes.now q.follow) (said_in g f) n label) (sym on.same.question) need;
  }

  -- what came of it by what was said of the trail's directories comes of it by all that was said
  pub stands_along : (last : Trailed F) (outcome : Teller → Option Outcome) (end : Outcome) → Stands (said_in g last) outcome end → Stands (g.said last.finder.now) outcome end
  stands_along last outcome end answer = λ teller told. answer teller (told_after (within_less (trail_in last) (g.said last.finder.now)) told)

  module _ (first last : Trailed F) (same : SameWalk first last) where
    turn_first : IsKept g last → NeedsInTurn (outcome_in first) (g.said last.finder.now) [] (trail_in last)
    turn_first kept = subst (λ (q : Question). NeedsInTurn (walk_by q.base q.path.bytes.now q.follow) (g.said last.finder.now) [] (trail_in last)) same.question kept.turn

    pub trail_along : IsKept g last → (end : Outcome) → Stands (said_in g last) (outcome_in first) end → IsTrailBy (g.said last.finder.now) first.question.base first.question.path.bytes.now first.question.follow (trail_in last)
    trail_along kept end answer = λ teller told.
        trail_is first.question.base (path_in first.question.path.bytes.now) first.question.follow teller (trail_in last)
        (stands_along last (outcome_in first) end answer teller told) (answer (within (trail_in last) teller) (within_later (trail_in last) told)) (turn_later (outcome_in first) (g.said last.finder.now) teller told [] (trail_in last) (turn_first kept))

    pub longer_along : IsFull g last → HasLongerTrail (g.said last.finder.now) first.question.base first.question.path.bytes.now first.question.follow (length last.numbers.now)
    longer_along full = λ teller told some.
        let ends = outcome_there (outcome_in first teller) some in
        let needed : NeedsDir (outcome_in first) (said_in g last) full.next = subst (λ (q : Question). NeedsDir (walk_by q.base q.path.bytes.now q.follow) (said_in g last) full.next) same.question full.needed in
        let le : length last.numbers.now ≤ last.len = omega (arith, full.full) in
        let many : length (trail_in last) ≡ length last.numbers.now = ap length (take_all last.len last.numbers.now le) in
        subst (λ n. n < length (trail_of teller first.question.base (path_in first.question.path.bytes.now) first.question.follow)) many
        (trail_is_longer first.question.base (path_in first.question.path.bytes.now) first.question.follow teller (trail_in last) full.next
        ends.1 (turn_later (outcome_in first) (g.said last.finder.now) teller told [] (trail_in last) (turn_first full.kept)) full.new (λ other more silent. needed other (told_after (within_later (trail_in last) told) more) silent))

  nothing_taken : (xs : List ℕ) → take 0 xs ≡ []
  nothing_taken [] = refl
  nothing_taken (x ∷ xs) = refl

  -- a walk begins with no directory
  pub kept_first : (first : Trailed F) → first.len ≡ 0 → IsKept g first
  kept_first first none = record {
    few = omega (arith, none);
    turn = subst (λ dirs. NeedsInTurn (outcome_in first) (g.said first.finder.now) [] dirs) (sym ((λ i. take (none i) first.numbers.now) ∙ nothing_taken first.numbers.now)) tt;
  }

  -- a walk ended with these finder and places
  module _ (first last : Trailed F) (same : SameWalk first last) (final : F) (is_final : final ≡ last.finder.now) (places : List ℕ) (are : places ≡ last.numbers.now) where
    pub answer_so : (outcome : Teller → Option Outcome) (end : Outcome) → Stands (said_in g last) outcome end → Stands (g.said final) outcome end
    answer_so outcome end answer = subst (λ f. Stands (g.said f) outcome end) (sym is_final) (stands_along last outcome end answer)

    pub trail_so : IsKept g last → (end : Outcome) → Stands (said_in g last) (outcome_in first) end
        → (last.len ≤ length places) × IsTrailBy (g.said final) first.question.base first.question.path.bytes.now first.question.follow (take last.len places)
    trail_so kept end answer = (
      subst (λ xs. last.len ≤ length xs) (sym are) kept.few,
      subst (λ (z : F × List ℕ). IsTrailBy (g.said z.0) first.question.base first.question.path.bytes.now first.question.follow (take last.len z.1)) (λ i. (sym is_final i, sym are i)) (trail_along first last same kept end answer),
    )

    pub full_so : (halt : Halt S) → Halts g first last halt → IfNoPlace halt (HasLongerTrail (g.said final) first.question.base first.question.path.bytes.now first.question.follow (length places))
    full_so (halts.Finder why) h = tt
    full_so halts.Full h =
        subst (λ (z : F × List ℕ). HasLongerTrail (g.said z.0) first.question.base first.question.path.bytes.now first.question.follow (length z.1)) (λ i. (sym is_final i, sym are i)) (longer_along first last same h.stops.1)
