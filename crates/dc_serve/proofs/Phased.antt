-- The replies of a phase, as far as sessions have been taken in.
use Rattle.std.proofs.Common.{◌≡◌, ℕ, zero, suc, ◌+◌, ◌-◌, ◌≤◌, ◌<◌, List, [], length, sym, subst, arith, ap₂}
use Rattle.std.specs.Prelude.{Result, Ok, Err, IfOk, IsOkAnd, slice_index}
use Rattle.dc_events.specs.Views.{Book}
use Rattle.dc_lang.specs.Commands.{Order}
use Rattle.dc_table.specs.Shares.{Known}
use Rattle.dc_lang.specs.Phases.{of_session}
use Rattle.dc_serve.specs.Bytes.{bytes_of}
use Rattle.dc_serve.specs.Sessions.{Obeyed, ObeyedBelow, Outcome, outcome, progress}
use Rattle.dc_serve.specs.Threads.{Adds}
use Rattle.dc_serve.specs.declared.fault.ServeFault.{ServeFault}
use Rattle.dc_serve.specs.declared.phase.PhaseReplies.{PhaseReplies}
use Rattle.dc_serve.specs.declared.session.SessionReplies.{SessionReplies}
use Rattle.dc_serve.proofs.Forks.{obeyed_more, obeyed_skip}
use Rattle.dc_serve.proofs.Shared.{Fork}

pub obeyed_with : (v a u b c w : Known) (bases : List ℕ) (session count : ℕ) (orders : List Order) (others : Result PhaseReplies ServeFault) (told : Result SessionReplies ServeFault) (all : Result PhaseReplies ServeFault) → Fork v a u b c w
    → session < length bases → 0 < length (of_session session orders) → session + 1 ≡ count
    → IfOk others (λ r. ObeyedBelow a.view.book bases session orders (outcome (bytes_of r.texts.items) r.bases) b.view.book)
    → IfOk told (λ t. Obeyed u.view.book (progress [] (slice_index bases session)) (of_session session orders) (progress t.text.items t.base) c.view.book)
    → IfOk all (λ r. IsOkAnd others (λ front. IsOkAnd told (λ last. Adds front session last r)))
    → IfOk all (λ r. ObeyedBelow v.view.book bases count orders (outcome (bytes_of r.texts.items) r.bases) w.view.book)
obeyed_with v a u b c w bases session count orders others told (Err fault) fork within some' up f s adds = tt
obeyed_with v a u b c w bases session count orders (Err fault) told (Ok r) fork within some' up f s adds = absurd adds
obeyed_with v a u b c w bases session count orders (Ok front) (Err fault) (Ok r) fork within some' up f s adds = absurd adds
obeyed_with v a u b c w bases session count orders (Ok front) (Ok last) (Ok r) fork within some' up f s adds =
    let more = obeyed_more v a u b c w bases session orders (bytes_of front.texts.items) last.text.items front.bases last.base fork within some' f s in
    let here = ap₂ outcome (sym adds.text) (sym adds.bases) in
    subst (λ (n : ℕ). ObeyedBelow v.view.book bases n orders (outcome (bytes_of r.texts.items) r.bases) w.view.book) up
    (subst (λ z. ObeyedBelow v.view.book bases (session + 1) orders z w.view.book) here more)

-- the sessions from one up to another have no orders
abbrev pub NoOrders : (low count : ℕ) → List Order → Type 0
NoOrders low count orders = (session : ℕ) → low ≤ session → session < count → of_session session orders ≡ []

obeyed_over : (a b : Book) (bases : List ℕ) (low more : ℕ) (orders : List Order) (then : Outcome) → NoOrders low (low + more) orders → ObeyedBelow a bases low orders then b → ObeyedBelow a bases (low + more) orders then b
obeyed_over a b bases low zero orders then none f =
    let same : low ≡ low + zero = omega arith in
    subst (λ (n : ℕ). ObeyedBelow a bases n orders then b) same f
obeyed_over a b bases low (suc more) orders then none f =
    let up : (low + more) + 1 ≡ low + suc more = omega arith in
    let here : of_session (low + more) orders ≡ [] = none (low + more) (omega arith) (omega arith) in
    subst (λ (n : ℕ). ObeyedBelow a bases n orders then b) up
    (obeyed_skip a bases (low + more) orders then b here (obeyed_over a b bases low more orders then (λ s ge lt. none s ge (omega arith)) f))

-- what was answered to the sessions below one was answered to those below another, if those between have no orders
pub obeyed_up : (a b : Book) (bases : List ℕ) (low count : ℕ) (orders : List Order) (others : Result PhaseReplies ServeFault) → low ≤ count → NoOrders low count orders
    → IfOk others (λ r. ObeyedBelow a bases low orders (outcome (bytes_of r.texts.items) r.bases) b) → IfOk others (λ r. ObeyedBelow a bases count orders (outcome (bytes_of r.texts.items) r.bases) b)
obeyed_up a b bases low count orders (Err fault) le none f = tt
obeyed_up a b bases low count orders (Ok r) le none f =
    let up : low + (count - low) ≡ count = omega arith in
    subst (λ (n : ℕ). ObeyedBelow a bases n orders (outcome (bytes_of r.texts.items) r.bases) b) up
    (obeyed_over a b bases low (count - low) orders (outcome (bytes_of r.texts.items) r.bases) (subst (λ (n : ℕ). NoOrders low n orders) (sym up) none) f)
