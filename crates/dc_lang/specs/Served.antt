-- Commands of the program as they are served.
use Rattle.std.specs.Prelude.{◌≡◌, ℕ, List, ◌++◌, map}
use Rattle.dc_lang.specs.Commands.{Order, order_of}
use Rattle.dc_lang.specs.declared.input.Served as rust_served

-- orders with the number of their phase
abbrev pub in_phase : ℕ → List Order → List (ℕ × Order)
in_phase phase orders = map (λ order. (phase, order)) orders

-- what a served command stands for
abbrev pub served_of : rust_served.Served → ℕ × Order
served_of served = (served.phase, order_of served.command.now)

abbrev pub all_served : List rust_served.Served → List (ℕ × Order)
all_served served = map served_of served

-- orders of a phase were added to what is served
abbrev pub AddsServed : ℕ → List Order → (old new : List rust_served.Served) → Type 0
AddsServed phase orders old new = all_served new ≡ all_served old ++ in_phase phase orders
