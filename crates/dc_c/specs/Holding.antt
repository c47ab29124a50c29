-- Whether a handle has a hold, by the list of its holds.
use Rattle.std.specs.Prelude.{List, [], ◌∷◌, ⊤}
use Rattle.dc_hold.specs.declared.hold.Hold.{Hold}

-- the one of a blank handle, or the other of the hold of an open one
abbrev pub OnHold : List Hold → Type 0 → (Hold → Type 0) → Type 0
OnHold [] blank of_hold = blank
OnHold (hold ∷ _) blank of_hold = of_hold hold

abbrev pub IsOpen : List Hold → Type 0
IsOpen holds = OnHold holds ⊥ (λ _. ⊤)
