-- What commands were answered: orders with the records of their calls.
use Rattle.std.specs.Prelude.{◌≡◌, ℕ, zero, suc, ◌+◌, ◌<◌, List, [], ◌∷◌, ◌++◌, ◌==◌, filter, map, slice_index}
use Rattle.std.specs.List.{flat_map}
use Rattle.dc_events.specs.Legal.{Legal}
use Rattle.dc_events.specs.Standing.{after}
use Rattle.dc_events.specs.Views.{Record}
use Rattle.dc_lang.specs.Commands.{Order, request_from}
use Rattle.dc_lang.specs.Replies.{reply_text}
use Rattle.dc_lang.specs.Spans.{InPhases, Span}
use Rattle.dc_names.specs.declared.limits.TheConstants.{SESSIONS}
use Rattle.dc_lang.specs.Phases.{by_session}
use Rattle.dc_lang.specs.Bases.{bases_after, first_bases}

-- an order, and the record of its call
pub record Turn : Type 0 where
  pub order : Order
  pub made : Record

abbrev pub orders_of : List Turn → List Order
orders_of turns = map (λ t. t.order) turns

abbrev pub records_of : List Turn → List Record
records_of turns = map (λ t. t.made) turns

-- the line that an order is answered
abbrev pub turn_text : Turn → List ℕ
turn_text t = reply_text t.order.session t.made.reply t.made.at

abbrev pub text_of : List Turn → List ℕ
text_of = flat_map turn_text

-- where the sessions start after a turn
abbrev pub bases_behind : Turn → List ℕ → List ℕ
bases_behind t bases = bases_after t.order.verb t.order.session t.made.reply bases

-- and after all of some
abbrev pub bases_then : List ℕ → List Turn → List ℕ
bases_then bases [] = bases
bases_then bases (t ∷ turns) = bases_then (bases_behind t bases) turns

-- each call is what its order asks for, from where its session then starts
abbrev pub AsAsked : List ℕ → List Turn → Type 0
AsAsked bases [] = Unit {0}
AsAsked bases (t ∷ turns) = (t.made.call ≡ request_from (slice_index bases t.order.session) t.order) × AsAsked (bases_behind t bases) turns

-- the records of one session, in their order
abbrev pub strand : ℕ → List Turn → List Record
strand session turns = records_of (filter (λ t. t.order.session == session) turns)

-- those of each session below this one
unfoldable pub strands : ℕ → List Turn → List (List Record)
strands zero turns = []
strands (suc session) turns = strands session turns ++ strand session turns ∷ []

-- where the call of a turn took effect in this phase
abbrev pub span_in : ℕ → Turn → Span
span_in phase t = record { phase = phase; at = t.made.at; end = after t.made }

-- where those of each phase did, from this phase on
abbrev pub spans_from : ℕ → List (List Turn) → List Span
spans_from phase [] = []
spans_from phase (turns ∷ rest) = map (span_in phase) turns ++ spans_from (phase + 1) rest

abbrev pub all_of : List (List Turn) → List Turn
all_of = flat_map (λ turns. turns)

-- the commands of the phases were answered so
pub record IsRun (limit : ℕ) (phases : List (List Order)) (turns : List (List Turn)) : Type 0 where
  -- these commands and no others, by phase, session and line
  pub orders : map orders_of turns ≡ map by_session phases
  -- each by the call that it asks for, from where its session then starts
  pub asked : AsAsked first_bases (all_of turns)
  -- with a list for each session the records are those of one thread in some order
  pub legal : Legal limit (strands SESSIONS (all_of turns))
  -- and phase comes after phase
  pub phased : InPhases (spans_from 0 turns)

-- the orders are of one session
abbrev pub OrdersAre : ℕ → List Order → Type 0
OrdersAre session [] = Unit {0}
OrdersAre session (order ∷ orders) = (order.session ≡ session) × OrdersAre session orders

-- one session alone has orders
abbrev pub IsAlone : ℕ → List (List Order) → Type 0
IsAlone session [] = Unit {0}
IsAlone session (orders ∷ phases) = OrdersAre session orders × IsAlone session phases

-- in each phase one session alone has orders
abbrev pub IsTurnwise : List (List Order) → Type 0
IsTurnwise [] = Unit {0}
IsTurnwise (orders ∷ phases) = ((session : ℕ) × (session < SESSIONS) × OrdersAre session orders) × IsTurnwise phases

-- if one session alone has orders, each run of them tells what the plain server answers
abbrev pub OneSessionIsPlain : (List (List Order) → ℕ → List ℕ) → Type 0
OneSessionIsPlain plain_text = (limit session : ℕ) (phases : List (List Order)) (turns : List (List Turn))
    → session < SESSIONS → IsRun limit phases turns → IsAlone session phases → text_of (all_of turns) ≡ plain_text phases limit
