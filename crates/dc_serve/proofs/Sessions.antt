-- Turns of one session, and of the sessions below a number.
use Rattle.std.proofs.Common.{◌≡◌, ◌≢◌, ℕ, zero, suc, ◌<◌, ◌≤◌, ◌==◌, Bool, true, false, cond, List, [], ◌∷◌, ◌++◌, filter, length, refl, ap, sym, ◌∙◌, subst, arith, ne_eqb, eq-eqb, length-set}
use Rattle.std.proofs.lemmas.Bool.{eqb-true}
use Rattle.std.proofs.lemmas.List.{append-nil, get_or-set_other, get_or-set_same}
use Rattle.std.proofs.lemmas.List.Elements.{filter-append}
use Rattle.std.specs.Prelude.{slice_index, slice_set}
use Rattle.dc_lang.specs.Commands.{Order, request_from}
use Rattle.dc_lang.specs.Phases.{of_session, of_sessions}
use Rattle.dc_lang.specs.Bases.{base_after}
use Rattle.dc_serve.specs.Sessions.{AskedBy, present, some_of}
use Rattle.dc_serve.specs.Turns.{AsAsked, OrdersAre, Turn, bases_behind, bases_then, orders_of, records_of, strand}
use Rattle.dc_serve.proofs.Strands.{records-append}

-- the orders are of sessions below a number
abbrev pub OrdersBelow : ℕ → List Order → Type 0
OrdersBelow n [] = Unit {0}
OrdersBelow n (o ∷ os) = (o.session < n) × OrdersBelow n os

below_append : (n : ℕ) (xs ys : List Order) → OrdersBelow n xs → OrdersBelow n ys → OrdersBelow n (xs ++ ys)
below_append n [] ys a b = b
below_append n (x ∷ xs) ys a b = (a.0, below_append n xs ys a.1 b)

below_more : (n m : ℕ) (xs : List Order) → n ≤ m → OrdersBelow n xs → OrdersBelow m xs
below_more n m [] le a = tt
below_more n m (x ∷ xs) le a = let low = a.0 in (omega arith, below_more n m xs le a.1)

below_these : (s : ℕ) (xs : List Order) → OrdersAre s xs → OrdersBelow (suc s) xs
below_these s [] a = tt
below_these s (x ∷ xs) a = let is = a.0 in (omega arith, below_these s xs a.1)

pub session_is : (s : ℕ) (orders : List Order) → OrdersAre s (of_session s orders)
session_is s [] = tt
session_is s (o ∷ os) = one (o.session == s) refl (session_is s os)
  where
    one : (b : Bool) → (o.session == s) ≡ b → OrdersAre s (of_session s os) → OrdersAre s (cond b (o ∷ of_session s os) (of_session s os))
    one true e rest = (eqb-true o.session s e, rest)
    one false e rest = rest

pub sessions_below : (n : ℕ) (orders : List Order) → OrdersBelow n (of_sessions n orders)
unfolding of_sessions
sessions_below zero orders = tt
sessions_below (suc n) orders =
    below_append (suc n) (of_sessions n orders) (of_session n orders) (below_more n (suc n) (of_sessions n orders) (omega arith) (sessions_below n orders)) (below_these n (of_session n orders) (session_is n orders))

pub strand-append : (s : ℕ) (xs ys : List Turn) → strand s (xs ++ ys) ≡ strand s xs ++ strand s ys
strand-append s xs ys =
    ap records_of (filter-append (λ t. t.order.session == s) xs ys) ∙ records-append (filter (λ t. t.order.session == s) xs) (filter (λ t. t.order.session == s) ys)

pub strand_none : (s n : ℕ) (turns : List Turn) → OrdersBelow n (orders_of turns) → n ≤ s → strand s turns ≡ []
strand_none s n [] below le = refl
strand_none s n (t ∷ turns) below le =
    let low = below.0 in
    let other : (t.order.session == s) ≡ false = ne_eqb t.order.session s (λ e. omega arith) in
    ap (λ (b : Bool). records_of (cond b (t ∷ filter (λ u. u.order.session == s) turns) (filter (λ u. u.order.session == s) turns))) other ∙ strand_none s n turns below.1 le

pub strand_other : (s session : ℕ) (turns : List Turn) → OrdersAre session (orders_of turns) → s ≢ session → strand s turns ≡ []
strand_other s session [] are ne = refl
strand_other s session (t ∷ turns) are ne =
    let other : (t.order.session == s) ≡ false = ne_eqb t.order.session s (λ e. ne (sym e ∙ are.0)) in
    ap (λ (b : Bool). records_of (cond b (t ∷ filter (λ u. u.order.session == s) turns) (filter (λ u. u.order.session == s) turns))) other ∙ strand_other s session turns are.1 ne

pub strand_all : (session : ℕ) (turns : List Turn) → OrdersAre session (orders_of turns) → strand session turns ≡ records_of turns
strand_all session [] are = refl
strand_all session (t ∷ turns) are =
    let same : (t.order.session == session) ≡ true = eq-eqb t.order.session session are.0 in
    ap (λ (b : Bool). records_of (cond b (t ∷ filter (λ u. u.order.session == session) turns) (filter (λ u. u.order.session == session) turns))) same ∙ ap (λ l. t.made ∷ l) (strand_all session turns are.1)

-- more turns of a session leave the lists of those below it
pub present_same : (n session : ℕ) (xs ys : List Turn) → OrdersAre session (orders_of ys) → n ≤ session → present n (xs ++ ys) ≡ present n xs
unfolding present
present_same zero session xs ys are le = refl
present_same (suc n) session xs ys are le =
    let front = present_same n session xs ys are (omega arith) in
    let these = strand-append n xs ys ∙ ap (λ l. strand n xs ++ l) (strand_other n session ys are (λ e. omega arith)) ∙ append-nil (strand n xs) in
    ap (λ l. l ++ some_of (strand n (xs ++ ys))) front ∙ ap (λ l. present n xs ++ some_of l) these

-- where the sessions start
pub bases_then-append : (bases : List ℕ) (xs ys : List Turn) → bases_then bases (xs ++ ys) ≡ bases_then (bases_then bases xs) ys
bases_then-append bases [] ys = refl
bases_then-append bases (t ∷ xs) ys = bases_then-append (bases_behind t bases) xs ys

pub asked-append : (bases : List ℕ) (xs ys : List Turn) → AsAsked bases xs → AsAsked (bases_then bases xs) ys → AsAsked bases (xs ++ ys)
asked-append bases [] ys a b = b
asked-append bases (t ∷ xs) ys a b = (a.0, asked-append (bases_behind t bases) xs ys a.1 b)

pub bases-length : (bases : List ℕ) (turns : List Turn) → length (bases_then bases turns) ≡ length bases
bases-length bases [] = refl
bases-length bases (t ∷ turns) =
    bases-length (bases_behind t bases) turns ∙ length-set bases t.order.session (base_after t.order.verb t.made.reply (slice_index bases t.order.session))

-- the turns of others leave where a session starts
pub other_base : (bases : List ℕ) (s n : ℕ) (turns : List Turn) → OrdersBelow n (orders_of turns) → n ≤ s → slice_index (bases_then bases turns) s ≡ slice_index bases s
other_base bases s n [] below le = refl
other_base bases s n (t ∷ turns) below le =
    let low = below.0 in
    other_base (bases_behind t bases) s n turns below.1 le
    ∙ get_or-set_other bases t.order.session s (base_after t.order.verb t.made.reply (slice_index bases t.order.session)) 0 (λ e. omega arith)

-- one session's turns, seen among all sessions
pub own_asked : (bases : List ℕ) (s last : ℕ) (turns : List Turn) → OrdersAre s (orders_of turns) → s < length bases → AskedBy (slice_index bases s) turns last
    → AsAsked bases turns × (bases_then bases turns ≡ slice_set bases s last)
own_asked bases s last [] are within asked = (tt, sym (ap (slice_set bases s) asked ∙ set_same bases s))
  where
    set_same : (l : List ℕ) (i : ℕ) → slice_set l i (slice_index l i) ≡ l
    set_same [] i = refl
    set_same (x ∷ xs) zero = refl
    set_same (x ∷ xs) (suc i) = ap (λ m. x ∷ m) (set_same xs i)
own_asked bases s last (t ∷ turns) are within asked =
    let is = are.0 in
    let base = base_after t.order.verb t.made.reply (slice_index bases s) in
    let bases' = bases_behind t bases in
    let same : bases' ≡ slice_set bases s base = ap (λ (k : ℕ). slice_set bases k (base_after t.order.verb t.made.reply (slice_index bases k))) is in
    let here : slice_index bases' s ≡ base = ap (λ (l : List ℕ). slice_index l s) same ∙ get_or-set_same bases s base 0 within in
    let long : length bases' ≡ length bases = length-set bases t.order.session (base_after t.order.verb t.made.reply (slice_index bases t.order.session)) in
    let rest = own_asked bases' s last turns are.1 (omega arith) (subst (λ (k : ℕ). AskedBy k turns last) (sym here) asked.1) in (
      (asked.0 ∙ ap (λ (k : ℕ). request_from (slice_index bases k) t.order) (sym is), rest.0),
      rest.1 ∙ ap (λ (l : List ℕ). slice_set l s last) same ∙ set_twice bases s base last,
    )
  where
    set_twice : (l : List ℕ) (i a b : ℕ) → slice_set (slice_set l i a) i b ≡ slice_set l i b
    set_twice [] i a b = refl
    set_twice (x ∷ xs) zero a b = refl
    set_twice (x ∷ xs) (suc i) a b = ap (λ m. x ∷ m) (set_twice xs i a b)
