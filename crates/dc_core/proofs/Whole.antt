-- A whole list of events that were all done, from a new core.
use Rattle.std.proofs.Common.{List, [], ◌∷◌, ◌++◌, sym, subst, append_assoc, append-nil}
use Rattle.dc_core.specs.Machine.{State, Event, after_all}
use Rattle.dc_core.specs.Listed.{AllDone}
use Rattle.dc_core.proofs.Trace.{after_snoc}
use Rattle.dc_core.proofs.Traces.{Traced, traced}

pub traced_all : (s : State) (front rest : List Event) → Traced s front (after_all s front) → AllDone (after_all s front) rest → Traced s (front ++ rest) (after_all s (front ++ rest))
traced_all s front [] T all = subst (λ es. Traced s es (after_all s es)) (sym (append-nil front)) T
traced_all s front (e ∷ rest) T all = let next = after_snoc s front e in
    subst (λ es. Traced s es (after_all s es)) (append_assoc front (e ∷ []) rest)
    (traced_all s (front ++ e ∷ []) rest (subst (Traced s (front ++ e ∷ [])) (sym next) (traced s front e.actor T e.act all.0)) (subst (λ t. AllDone t rest) (sym next) all.1))
