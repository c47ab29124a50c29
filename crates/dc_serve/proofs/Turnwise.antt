-- If in each phase one session alone has orders, the run is the plain one.
use Rattle.std.proofs.Common.{◌≡◌, ◌≢◌, ℕ, zero, suc, ◌<◌, ◌≤◌, ◌==◌, Bool, true, false, cond, List, [], ◌∷◌, ◌++◌, filter, length, map, drop, refl, ap, sym, ◌∙◌, subst, arith, eq-eqb, ne_eqb}
use mathlib.Core.Logic.{dite}
use mathlib.Core.Option.{some, some-injective, some-ne-none}
use native.Mathlib.Decide.{ℕ_discrete}
use lib.ListN.{get_elem?}
use Rattle.std.specs.Prelude.{get_or}
use Rattle.dc_events.specs.Laws.{RecordsAreLegal}
use Rattle.dc_events.specs.Legal.{Runs}
use Rattle.dc_events.specs.Standing.{Rising, all_hits, ends, hits}
use Rattle.dc_events.specs.Views.{Record}
use Rattle.dc_lang.specs.Commands.{Order}
use Rattle.dc_names.specs.declared.limits.TheConstants.{SESSIONS}
use Rattle.dc_plain.specs.Requests.{Request}
use Rattle.dc_plain.specs.Trees.{empty_tree}
use Rattle.dc_lang.specs.Phases.{by_session, in_order}
use Rattle.dc_serve.specs.Rounds.{Rounds}
use Rattle.dc_serve.specs.Serving.{opening, replies_in}
use Rattle.dc_serve.specs.Turns.{IsRun, IsTurnwise, OrdersAre, Turn, all_of, orders_of, records_of, strand, strands, text_of}
use Rattle.dc_serve.proofs.Alone.{are_sessions, one_order, run_orders, run_text}
use Rattle.dc_serve.proofs.Hits.{hits-append, strands-append, strands_next, strands_none, strands_zero}
use Rattle.dc_serve.proofs.Legals.{Found}
use Rattle.dc_serve.proofs.Stood.{AllStand, stand_at}
use Rattle.dc_serve.proofs.Sessions.{strand_all}
use Rattle.dc_serve.proofs.Strands.{ends-append, ends_from, records-append, rising-append, rising_from}

-- each phase's turns are of one session
abbrev TurnsAre : List (List Turn) → Type 0
TurnsAre [] = Unit {0}
TurnsAre (t ∷ turns) = ((session : ℕ) × (session < SESSIONS) × OrdersAre session (orders_of t)) × TurnsAre turns

turns_are : (turns : List (List Turn)) (phases : List (List Order)) → map orders_of turns ≡ map by_session phases → IsTurnwise phases → TurnsAre turns
turns_are [] phases e a = tt
turns_are (t ∷ turns) [] e a = absurd (let l : suc (length (map orders_of turns)) ≡ 0 = ap length e in omega arith)
turns_are (t ∷ turns) (o ∷ phases) e a =
    let head : orders_of t ≡ by_session o = ap (λ l. get_or l 0 []) e in (
      (a.0.0, a.0.1, subst (OrdersAre a.0.0) (sym head) (are_sessions a.0.0 SESSIONS o a.0.2)),
      turns_are turns phases (ap (drop 1) e) a.1,
    )

-- all records of such phases rise
flat_rise : (p q : ℕ) (turns : List (List Turn)) → Rounds p turns q → TurnsAre turns → Rising p (records_of (all_of turns)) × (ends p (records_of (all_of turns)) ≤ q)
flat_rise p q [] le a = (tt, le)
flat_rise p q (t ∷ turns) r a =
    let mine = strand_all a.0.0 t a.0.2 in
    let one = subst (λ l. Rising p l × (ends p l ≤ r.0)) mine (r.1 a.0.0) in
    let rest = flat_rise r.0 q turns r.2 a.1 in
    let is = records-append t (all_of turns) in
    let far = ends_from (ends p (records_of t)) r.0 (records_of (all_of turns)) one.1 in
    let last = rest.1 in
    let both = ends-append p (records_of t) (records_of (all_of turns)) in (
      subst (Rising p) (sym is) (rising-append p (records_of t) (records_of (all_of turns)) one.0 (rising_from _ _ _ one.1 rest.0)),
      subst (λ l. ends p l ≤ q) (sym is) (omega arith),
    )

-- a session's list is empty if it has no orders
hits_other : (p s k : ℕ) (turns : List Turn) → OrdersAre s (orders_of turns) → k ≢ s → hits p (strand k turns) ≡ 0
hits_other p s k [] a ne = refl
hits_other p s k (t ∷ turns) a ne =
    let off : (t.order.session == k) ≡ false = ne_eqb t.order.session k (λ e. ne (sym e ∙ a.0)) in
    ap (λ (b : Bool). hits p (records_of (cond b (t ∷ filter (λ u. u.order.session == k) turns) (filter (λ u. u.order.session == k) turns)))) off ∙ hits_other p s k turns a.1 ne

hits_below : (p s k : ℕ) (turns : List Turn) → OrdersAre s (orders_of turns) → k ≤ s → all_hits p (strands k turns) ≡ 0
hits_below p s zero turns a le = strands_zero p turns
hits_below p s (suc k) turns a le = let rest = hits_below p s k turns a (omega arith) in let one = hits_other p s k turns a (λ e. omega arith) in let n = strands_next p k turns in omega arith

hits_here : (p s k : ℕ) (turns : List Turn) → OrdersAre s (orders_of turns) → s < k → all_hits p (strands k turns) ≡ hits p (records_of turns)
hits_here p s zero turns a less = absurd (omega arith)
hits_here p s (suc k) turns a less =
    let n = strands_next p k turns in
    dite (ℕ_discrete k s)
    (λ here.
    let none = hits_below p s k turns a (omega arith) in
    let mine = ap (hits p) (ap (λ (j : ℕ). strand j turns) here ∙ strand_all s turns a) in
    omega arith)
    (λ other. let rest = hits_here p s k turns a (omega arith) in let one = hits_other p s k turns a other in omega arith)

flat_hits : (p : ℕ) (turns : List (List Turn)) → TurnsAre turns → all_hits p (strands SESSIONS (all_of turns)) ≡ hits p (records_of (all_of turns))
flat_hits p [] a = strands_none p SESSIONS [] (λ s. refl)
flat_hits p (t ∷ turns) a =
    let split = strands-append p SESSIONS t (all_of turns) in
    let one = hits_here p a.0.0 SESSIONS t a.0.2 a.0.1 in
    let rest = flat_hits p turns a.1 in
    let both = ap (hits p) (records-append t (all_of turns)) ∙ hits-append p (records_of t) (records_of (all_of turns)) in
    omega arith

-- they stand where those of each session do
flat_stand : (n : ℕ) (h : List Request) (turns : List Turn) → ((s : ℕ) → s < SESSIONS → AllStand n h (strand s turns)) → ((j : ℕ) (r : Turn) → get_elem? turns j ≡ some r → r.order.session < SESSIONS) → AllStand n h (records_of turns)
flat_stand n h [] f small = tt
flat_stand n h (t ∷ turns) f small =
    let s = t.order.session in
    let here = ap (λ c. records_of (cond c (t ∷ filter (λ u. u.order.session == s) turns) (filter (λ u. u.order.session == s) turns))) (eq-eqb s s refl) in
    let mine = subst (AllStand n h) here (f s (small 0 t refl)) in
    (mine.0, flat_stand n h turns (λ k less. rest k (t.order.session == k) (f k less)) (λ j. small (suc j)))
  where
    rest : (k : ℕ) (c : Bool) → AllStand n h (records_of (cond c (t ∷ filter (λ u. u.order.session == k) turns) (filter (λ u. u.order.session == k) turns))) → AllStand n h (strand k turns)
    rest k true m = m.1
    rest k false m = m

small-append : (xs ys : List Turn) → ((j : ℕ) (r : Turn) → get_elem? xs j ≡ some r → r.order.session < SESSIONS) → ((j : ℕ) (r : Turn) → get_elem? ys j ≡ some r → r.order.session < SESSIONS)
    → (j : ℕ) (r : Turn) → get_elem? (xs ++ ys) j ≡ some r → r.order.session < SESSIONS
small-append [] ys f g j r e = g j r e
small-append (x ∷ xs) ys f g zero r e = f 0 r e
small-append (x ∷ xs) ys f g (suc j) r e = small-append xs ys (λ k. f (suc k)) g j r e

small_one : (s : ℕ) (xs : List Turn) → s < SESSIONS → OrdersAre s (orders_of xs) → (j : ℕ) (r : Turn) → get_elem? xs j ≡ some r → r.order.session < SESSIONS
small_one s [] less a j r e = absurd (some-ne-none r (sym e))
small_one s (x ∷ xs) less a zero r e = subst (λ (t : Turn). t.order.session < SESSIONS) (some-injective x r e) (let is = a.0 in omega arith)
small_one s (x ∷ xs) less a (suc j) r e = small_one s xs less a.1 j r e

small_all : (turns : List (List Turn)) → TurnsAre turns → (j : ℕ) (r : Turn) → get_elem? (all_of turns) j ≡ some r → r.order.session < SESSIONS
small_all [] a j r e = absurd (some-ne-none r (sym e))
small_all (t ∷ turns) a j r e = small-append t (all_of turns) (small_one a.0.0 t a.0.1 a.0.2) (small_all turns a.1) j r e

pub turnwise_text : RecordsAreLegal → (limit clock : ℕ) (phases : List (List Order)) (turns : List (List Turn)) → IsRun limit phases turns → Rounds 0 turns clock → Found limit (all_of turns) → IsTurnwise phases
    → text_of (all_of turns) ≡ replies_in (opening limit) (in_order phases)
turnwise_text legal limit clock phases turns run rounds found wise =
    let all = all_of turns in
    let are = turns_are turns phases run.orders wise in
    let up = flat_rise 0 clock turns rounds are in
    let stood = flat_stand limit found.history all found.stand (small_all turns are) in
    let one = legal limit found.history (records_of all ∷ []) (λ i s at j r there. stand_at limit found.history s (subst (AllStand limit found.history) (only i s at) stood) j r there) (λ i s at. subst (Rising 0) (only i s at) up.0)
    (λ p. let a = found.once p in let b = flat_hits p turns are in omega arith) in
    let order = one_order (records_of all ∷ []) 0 (records_of all) one.order refl (λ j u ne e. absurd (beyond j u ne e)) one.merges in
    run_text (opening limit) all (subst (Runs limit empty_tree 0) order one.runs) run.asked ∙ ap (replies_in (opening limit)) (run_orders limit phases turns run)
  where
    only : (i : ℕ) (s : List Record) → get_elem? (records_of (all_of turns) ∷ []) i ≡ some s → records_of (all_of turns) ≡ s
    only zero s e = some-injective (records_of (all_of turns)) s e
    only (suc i) s e = absurd (some-ne-none s (sym e))

    beyond : (j : ℕ) (u : List Record) → j ≢ 0 → get_elem? (records_of (all_of turns) ∷ []) j ≡ some u → ⊥
    beyond zero u ne e = ne refl
    beyond (suc j) u ne e = some-ne-none u (sym e)
