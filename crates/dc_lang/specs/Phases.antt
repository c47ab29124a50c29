-- The order in which commands are served: phase by phase, and in a phase session by session.
use Rattle.std.specs.Prelude.{ℕ, zero, suc, ◌+◌, List, [], ◌∷◌, ◌++◌, Bool, true, false, ◌==◌, filter, map}
use Rattle.std.specs.Borrow.{Bor}
use Rattle.std.specs.List.{flat_map, slice_split}
use Rattle.dc_lang.specs.Commands.{Order, Meaning, said_by}
use Rattle.dc_lang.specs.Commands.Meaning.{Sync, Orders}
use Rattle.dc_names.specs.declared.limits.TheConstants.{SESSIONS}
use Rattle.dc_lang.specs.declared.line.Line.{Line}

abbrev pub is_sync : Meaning → Bool
is_sync Sync = true
is_sync (Orders order) = false

-- the orders among what is said
abbrev pub orders_in : List Meaning → List Order
orders_in [] = []
orders_in (Sync ∷ said) = orders_in said
orders_in (Orders order ∷ said) = order ∷ orders_in said

-- sync lines cut what is said into phases
abbrev pub phases : List Meaning → List (List Order)
phases said = map orders_in (slice_split is_sync said)

-- the orders of one session
abbrev pub of_session : ℕ → List Order → List Order
of_session session orders = filter (λ order. order.session == session) orders

-- the orders that lines have, and those of one session
abbrev pub ordered : List Line → List Order
ordered lines = orders_in (said_by lines)

abbrev pub ordered_by : ℕ → List Line → List Order
ordered_by session lines = of_session session (ordered lines)

-- the orders that each of some parts has
abbrev pub all_ordered : List (Bor (List Line)) → List (List Order)
all_ordered parts = map (λ part. ordered part.now) parts

-- the orders of the sessions below this one, by their sessions
unfoldable pub of_sessions : ℕ → List Order → List Order
of_sessions zero orders = []
of_sessions (suc session) orders = of_sessions session orders ++ of_session session orders

-- the orders of a phase by session, those of one session as they came
abbrev pub by_session : List Order → List Order
by_session orders = of_sessions SESSIONS orders

-- the orders in the order in which they are served
abbrev pub in_order : List (List Order) → List Order
in_order = flat_map by_session

-- the orders of each phase in that order, each with the number of its phase, which are counted from here
abbrev pub served_from : ℕ → List (List Order) → List (ℕ × Order)
served_from phase [] = []
served_from phase (orders ∷ phases) = map (λ order. (phase, order)) (by_session orders) ++ served_from (phase + 1) phases
