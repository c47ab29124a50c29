-- The plain server: it answers commands one after the other, with no cache and no threads.
use Rattle.std.specs.Prelude.{◌≡◌, ℕ, List, [], ◌∷◌, ◌++◌, slice_index}
use Rattle.dc_plain.specs.Trees.{Tree, empty_tree}
use Rattle.dc_plain.specs.Requests.{Request, Answer}
use Rattle.dc_plain.specs.Runs.{reply_of, replies_of, tree_after, tree_after_all, clock_after}
use Rattle.dc_lang.specs.Bases.{bases_after, first_bases}
use Rattle.dc_lang.specs.Commands.{Order, request_from}
use Rattle.dc_lang.specs.Replies.{reply_text}

-- how many inodes may live, the tree, how many calls have altered it, and where each session starts
pub record State : Type 0 where
  pub limit : ℕ
  pub tree : Tree
  pub clock : ℕ
  pub bases : List ℕ

-- an empty tree, and each session starts at the root
abbrev pub opening : ℕ → State
opening limit = record { limit = limit; tree = empty_tree; clock = 0; bases = first_bases }

-- the call of an order, from its session's starting directory
abbrev pub request_in : State → Order → Request
request_in state order = request_from (slice_index state.bases order.session) order

abbrev pub answer_in : State → Order → Answer
answer_in state order = reply_of state.limit state.tree (request_in state order)

-- the line that an order is answered
abbrev pub reply_in : State → Order → List ℕ
reply_in state order = reply_text order.session (answer_in state order) state.clock

-- what a call leaves
abbrev pub called : State → Request → State
called state request = record state {
  tree = tree_after state.limit state.tree request;
  clock = clock_after state.limit state.tree request state.clock;
}

-- what an order leaves
abbrev pub after : State → Order → State
after state order = record (called state (request_in state order)) {
  bases = bases_after order.verb order.session (answer_in state order) state.bases;
}

-- the replies to orders, one after the other
abbrev pub replies_in : State → List Order → List ℕ
replies_in state [] = []
replies_in state (order ∷ orders) = reply_in state order ++ replies_in (after state order) orders

-- the calls of orders, each as its state has it
abbrev pub requests_in : State → List Order → List Request
requests_in state [] = []
requests_in state (order ∷ orders) = request_in state order ∷ requests_in (after state order) orders

-- what the orders are answered, one after the other
abbrev pub answers_in : State → List Order → List Answer
answers_in state [] = []
answers_in state (order ∷ orders) = answer_in state order ∷ answers_in (after state order) orders

-- what orders leave
abbrev pub after_all : State → List Order → State
after_all state [] = state
after_all state (order ∷ orders) = after_all (after state order) orders

-- the answers are those of a run of the plain tree, and it leaves the same tree
abbrev pub AnswersAreOfARun : Type 0
AnswersAreOfARun = (state : State) (orders : List Order) → answers_in state orders ≡ replies_of state.limit state.tree (requests_in state orders)

abbrev pub TreeIsOfARun : Type 0
TreeIsOfARun = (state : State) (orders : List Order) → (after_all state orders).tree ≡ tree_after_all state.limit state.tree (requests_in state orders)
