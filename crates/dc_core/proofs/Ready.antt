-- What the notes of an actor spell before an act, as the program has the actor.
use Rattle.std.proofs.Common.{◌≡◌, ℕ, true, None, get_or, sym, subst}
use Rattle.dc_events.specs.Walks.{walk_marked}
use Rattle.dc_core.specs.Lives.{Lives}
use Rattle.dc_core.specs.Machine.{Actor}
use Rattle.dc_core.specs.Machine.Act.{Pivot, Check}
use Rattle.dc_core.specs.Refusals.{Answers}
use Rattle.dc_core.specs.Shown.{actor_shown, state_of}
use Rattle.dc_core.specs.Told.{AreSpelled}
use Rattle.dc_core.specs.declared.actor.Actor as rust_actor
use Rattle.dc_core.specs.declared.state.State as rust_state
use Rattle.dc_core.proofs.Acted.{room, this_one}
use Rattle.dc_core.proofs.Spelled.{check_spelled, pivot_spelled}

module _ (s : rust_state.State) (j : ℕ) (one : rust_actor.Actor) (is : one ≡ get_or s.actors.items j one) (lives : Lives (state_of s)) where
  -- as it takes its pivot
  pub pivot_ready : Answers (state_of s) (record { actor = j; act = Pivot }) None → (actor_shown one).walk.busy ≡ true → AreSpelled (actor_shown one).walk.notes
  pivot_ready may = subst (λ (b : Actor). b.walk.busy ≡ true → AreSpelled b.walk.notes) (sym (this_one s.actors.items j one (room s j Pivot may) is)) (pivot_spelled (state_of s) j lives may)

  -- as it checks a note
  pub check_ready : (i : ℕ) → Answers (state_of s) (record { actor = j; act = Check i }) None → AreSpelled (walk_marked (actor_shown one).walk i).notes
  check_ready i may = subst (λ (b : Actor). AreSpelled (walk_marked b.walk i).notes) (sym (this_one s.actors.items j one (room s j (Check i) may) is)) (check_spelled (state_of s) j i may lives)
