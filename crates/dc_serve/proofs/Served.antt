-- The plain server's answers as a run.
use Rattle.std.proofs.Common.{◌≡◌, List, [], ◌∷◌, refl, ap}
use Rattle.dc_plain.specs.Runs.{replies_of, tree_after_all}
use Rattle.dc_lang.specs.Commands.{Order}
use Rattle.dc_serve.specs.Serving.{State, after, after_all, answer_in, answers_in, requests_in}

pub answers-run : (state : State) (orders : List Order) → answers_in state orders ≡ replies_of state.limit state.tree (requests_in state orders)
answers-run state [] = refl
answers-run state (order ∷ orders) = ap (λ answers. answer_in state order ∷ answers) (answers-run (after state order) orders)

pub tree-run : (state : State) (orders : List Order) → (after_all state orders).tree ≡ tree_after_all state.limit state.tree (requests_in state orders)
tree-run state [] = refl
tree-run state (order ∷ orders) = tree-run (after state order) orders
