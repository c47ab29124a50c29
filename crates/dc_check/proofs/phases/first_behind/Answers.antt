use Rattle.std.proofs.Common.{◌≡◌, ◌↔◌, List, None, rules, subst, sym}
use Rattle.std.proofs.lemmas.List.Sorted.{IsNonDecreasingBy-from_sort_by_key}
use Rattle.dc_lang.specs.Spans.{InPhases}
use Rattle.dc_check.specs.declared.stamp.Mark.{Mark}
use Rattle.dc_check.specs.Judges.{all_spans}
use Rattle.dc_check.specs.Reaches.{IsByPhase}
use Rattle.dc_check.proofs.PhaseOrder.{shuffled_phases}
use Rattle.dc_check.proofs.phases.first_behind.Goals as goal

pub first_reached-requires : goal.first_reached-requires
first_reached-requires c =
    let now = c.sort_by_key.new.self.items in
    subst IsByPhase (sym c.deref.ensures.value) (IsNonDecreasingBy-from_sort_by_key (λ (m : Mark). m.phase) now c.in_ok-sort_by_key.ensures.sorted (λ a r q k. search rules))

pub returns : goal.returns
returns c =
    let now = c.sort_by_key.new.self.items in
    let found = subst (λ (ms : List Mark). (c.first_reached.result ≡ None) ↔ InPhases (all_spans ms)) c.deref.ensures.value c.first_reached.ensures in
    let same = shuffled_phases c.args.marks.items now c.sort_by_key.ensures.permutation in
    (λ none. same.0 (found.0 none), λ is. found.1 (same.1 is))
