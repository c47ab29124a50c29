-- What is known of stamps once they were judged.
use Rattle.std.proofs.Common.{◌≡◌, ◌↔◌, ◌∙◌, ℕ, List, Option, Some, None, map, ap, sym, subst}
use Rattle.std.proofs.lemmas.Simd.{map-map}
use Rattle.dc_lang.specs.Spans.{InPhases}
use Rattle.dc_plain.specs.LivingLaws.{SameTreeDecides}
use Rattle.dc_plain.specs.Legal.{Stamp, IsLegal}
use Rattle.dc_check.specs.declared.stamp.Mark.{Mark}
use Rattle.dc_check.specs.declared.stamp.Numbered as rust_numbered
use Rattle.dc_check.specs.Judges.{AreByPoint, all_numbered, all_phased, all_spans, phased_of}
use Rattle.dc_check.specs.Judging.{Passes, RisesByActor, opening, spans_in}
use Rattle.dc_check.specs.Phases.{Phased, span_at, spans_of, with_phases}
use Rattle.dc_check.specs.Verdicts.{IsLegalAs}
use Rattle.dc_check.proofs.Ends.{ends_are}
use Rattle.dc_check.proofs.Exact.{legal_from_passing}
use Rattle.dc_check.proofs.InOrder.{phased_same}
use Rattle.dc_check.proofs.Points.{legal_rises}

-- stamps of which one falls are not legal
pub falling_illegal : (limit : ℕ) (stamps : List Stamp) (found : Option ℕ) (line : ℕ) → (found ≡ None ↔ RisesByActor stamps) → found ≡ Some line → IsLegal limit stamps → ⊥
falling_illegal limit stamps found line none_if is legal =
    let none = none_if.1 (legal_rises limit stamps legal) in
    let both : Some line ≡ None = sym is ∙ none in cc

-- stamps that pass are legal, and their marks are in the order of the phases exactly if they are
pub legal_as : SameTreeDecides → (limit : ℕ) (phases : List ℕ) (stamps : List Stamp) (sorted : List rust_numbered.Numbered) (marks : List Mark) → RisesByActor stamps → AreByPoint phases stamps sorted
    → Passes (all_numbered sorted) (opening limit) → all_spans marks ≡ spans_in (opening limit) (all_phased sorted) → IsLegalAs limit phases stamps (InPhases (all_spans marks))
legal_as decides limit phases stamps sorted marks up by passes is =
    let bare : map (λ (p : Phased). p.stamp) (all_phased sorted) ≡ all_numbered sorted = map-map (λ (p : Phased). p.stamp) phased_of sorted in
    let ends = ends_are limit (all_phased sorted) (subst (λ ss. Passes ss (opening limit)) (sym bare) passes) in
    let spans = is ∙ ends ∙ ap (λ ss. map (span_at limit ss) (all_phased sorted)) bare in
    record {
      is = legal_from_passing decides limit stamps (all_numbered sorted) up by.by_point passes;
      phased = phased_same limit (with_phases phases stamps) (all_phased sorted) stamps (all_numbered sorted) _ by.by_point by.phased spans;
    }

-- a call that is behind is of stamps that don't keep the order of the phases
pub behind_apart : (limit : ℕ) (phases : List ℕ) (stamps : List Stamp) (marks : List Mark) (found : Option ℕ) (line : ℕ) → IsLegalAs limit phases stamps (InPhases (all_spans marks))
    → (found ≡ None ↔ InPhases (all_spans marks)) → found ≡ Some line → InPhases (spans_of limit phases stamps) → ⊥
behind_apart limit phases stamps marks found line judged none_if is kept =
    let none = none_if.1 (judged.phased.1 kept) in
    let both : Some line ≡ None = sym is ∙ none in cc
