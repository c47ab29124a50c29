-- If one session alone has orders, its run is the plain one.
use Rattle.std.proofs.Common.{length-append, ◌≡◌, ◌≢◌, ℕ, zero, suc, ◌+◌, ◌<◌, ◌≤◌, ◌==◌, Bool, true, false, cond, List, [], ◌∷◌, ◌++◌, length, map, set, refl, ap, ap₂, sym, ◌∙◌, subst, arith, ⊎_elim}
use mathlib.Core.Logic.{dite}
use mathlib.Core.Option.{some, some-injective, some-ne-none}
use native.Mathlib.Decide.{ℕ_discrete, dec_lt}
use lib.ListN.{get_elem?}
use Rattle.std.proofs.lemmas.List.{map-append}
use Rattle.std.specs.List.{flat_map}
use Rattle.atomic_table.proofs.Lists.{at_last, at_longer, at_set, set_here}
use Rattle.dc_events.specs.Legal.{Merges, Runs}
use Rattle.dc_events.specs.Standing.{weight}
use Rattle.dc_events.specs.Views.{Record}
use Rattle.dc_lang.specs.Commands.{Order}
use Rattle.dc_names.specs.declared.limits.TheConstants.{SESSIONS}
use Rattle.dc_lang.specs.Replies.{reply_text}
use Rattle.dc_plain.specs.Runs.{alters, reply_of, tree_after}
use Rattle.dc_plain.specs.Trees.{Tree, empty_tree}
use Rattle.dc_lang.specs.Phases.{by_session, in_order, of_session, of_sessions}
use Rattle.dc_lang.specs.Bases.{bases_after}
use Rattle.dc_serve.specs.Serving.{State, after, opening, replies_in, reply_in, request_in}
use Rattle.dc_serve.specs.Turns.{AsAsked, IsAlone, IsRun, OrdersAre, Turn, all_of, orders_of, records_of, strand, strands, text_of, turn_text}
use Rattle.dc_serve.proofs.Sessions.{strand_all, strand_other}

-- the list of a session among all
strands_long : (k : ℕ) (turns : List Turn) → length (strands k turns) ≡ k
unfolding strands
strands_long zero turns = refl
strands_long (suc k) turns = let rest = strands_long k turns in let l = length-append (strands k turns) (strand k turns ∷ []) in omega arith

strands_here : (k : ℕ) (turns : List Turn) (s : ℕ) → s < k → get_elem? (strands k turns) s ≡ some (strand s turns)
unfolding strands
strands_here zero turns s less = absurd (omega arith)
strands_here (suc k) turns s less = dite (ℕ_discrete s k)
    (λ here. ap (λ (j : ℕ). get_elem? (strands k turns ++ strand k turns ∷ []) j) here ∙ at_last (strands k turns) (strand k turns) k (strands_long k turns) ∙ ap (λ (j : ℕ). some (strand j turns)) (sym here))
    (λ other. at_longer (strands k turns) (strand k turns ∷ []) s (strand s turns) (strands_here k turns s (omega arith)))

past_all : (l : List (List Record)) (j : ℕ) (u : List Record) → length l ≤ j → get_elem? l j ≡ some u → ⊥
past_all [] j u le e = some-ne-none u (sym e)
past_all (x ∷ xs) zero u le e = absurd (omega arith)
past_all (x ∷ xs) (suc j) u le e = past_all xs j u (omega arith) e

strands_at : (k : ℕ) (turns : List Turn) (j : ℕ) (u : List Record) → get_elem? (strands k turns) j ≡ some u → strand j turns ≡ u
strands_at k turns j u e = dite (dec_lt j k)
    (λ less. some-injective (strand j turns) u (sym (strands_here k turns j less) ∙ e))
    (λ more. let l = strands_long k turns in absurd (past_all (strands k turns) j u (omega arith) e))

-- if one list alone has records, they are in its order
pub one_order : (ss : List (List Record)) (i : ℕ) (s : List Record) (order : List Record) → get_elem? ss i ≡ some s → ((j : ℕ) (u : List Record) → j ≢ i → get_elem? ss j ≡ some u → u ≡ []) → Merges ss order → order ≡ s
one_order ss i s [] at others m = sym (m i s at)
one_order ss i s (x ∷ xs) at others m = dite (ℕ_discrete m.0 i)
    (λ here.
    let same : x ∷ m.1 ≡ s = some-injective (x ∷ m.1) s (sym m.2 ∙ ap (get_elem? ss) here ∙ at) in
    let rest = one_order (set ss m.0 m.1) i m.1 xs (ap (get_elem? (set ss m.0 m.1)) (sym here) ∙ set_here ss m.0 m.1 (inside ss m.0 (x ∷ m.1) m.2))
    (λ j u ne e. ⊎_elim (λ (k : (j ≡ m.0) × (m.1 ≡ u)). absurd (ne (k.0 ∙ here))) (λ (k : (j ≢ m.0) × (get_elem? ss j ≡ some u)). others j u ne k.1) (at_set ss m.0 j m.1 u e)) m.3 in
    ap (λ l. x ∷ l) rest ∙ same)
    (λ other. let none = others m.0 (x ∷ m.1) other m.2 in absurd (let l : suc (length m.1) ≡ 0 = ap length none in omega arith))
  where
    inside : (l : List (List Record)) (j : ℕ) (u : List Record) → get_elem? l j ≡ some u → j < length l
    inside [] j u e = absurd (some-ne-none u (sym e))
    inside (y ∷ ys) zero u e = omega arith
    inside (y ∷ ys) (suc j) u e = let r = inside ys j u e in omega arith

-- orders served by session are still of the one
are-append : (s : ℕ) (xs ys : List Order) → OrdersAre s xs → OrdersAre s ys → OrdersAre s (xs ++ ys)
are-append s [] ys a b = b
are-append s (x ∷ xs) ys a b = (a.0, are-append s xs ys a.1 b)

are_kept : (s k : ℕ) (orders : List Order) → OrdersAre s orders → OrdersAre s (of_session k orders)
are_kept s k [] a = tt
are_kept s k (o ∷ os) a = one (o.session == k) (are_kept s k os a.1)
  where
    one : (b : Bool) → OrdersAre s (of_session k os) → OrdersAre s (cond b (o ∷ of_session k os) (of_session k os))
    one true rest = (a.0, rest)
    one false rest = rest

pub are_sessions : (s n : ℕ) (orders : List Order) → OrdersAre s orders → OrdersAre s (of_sessions n orders)
unfolding of_sessions
are_sessions s zero orders a = tt
are_sessions s (suc n) orders a = are-append s (of_sessions n orders) (of_session n orders) (are_sessions s n orders a) (are_kept s n orders a)

alone_in_order : (s : ℕ) (phases : List (List Order)) → IsAlone s phases → OrdersAre s (in_order phases)
alone_in_order s [] a = tt
alone_in_order s (orders ∷ phases) a = are-append s (by_session orders) (in_order phases) (are_sessions s SESSIONS orders a.0) (alone_in_order s phases a.1)

-- the orders of all turns
flat_orders : (turns : List (List Turn)) → orders_of (all_of turns) ≡ flat_map (λ o. o) (map orders_of turns)
flat_orders [] = refl
flat_orders (t ∷ turns) = map-append (λ u. u.order) t (all_of turns) ∙ ap (λ l. orders_of t ++ l) (flat_orders turns)

flat_in_order : (phases : List (List Order)) → flat_map (λ o. o) (map by_session phases) ≡ in_order phases
flat_in_order [] = refl
flat_in_order (orders ∷ phases) = ap (λ l. by_session orders ++ l) (flat_in_order phases)

pub run_orders : (limit : ℕ) (phases : List (List Order)) (turns : List (List Turn)) → IsRun limit phases turns → orders_of (all_of turns) ≡ in_order phases
run_orders limit phases turns run = flat_orders turns ∙ ap (flat_map (λ o. o)) run.orders ∙ flat_in_order phases

-- a run in the order of the commands tells what the plain tree tells
pub run_text : (state : State) (turns : List Turn) → Runs state.limit state.tree state.clock (records_of turns) → AsAsked state.bases turns → text_of turns ≡ replies_in state (orders_of turns)
run_text state [] r a = refl
run_text state (t ∷ turns) r a =
    let request = a.0 in
    let answer = sym r.1 ∙ ap (λ q. reply_of state.limit state.tree q) request in
    let line : turn_text t ≡ reply_in state t.order = ap₂ (λ x k. reply_text t.order.session x k) answer r.0 in
    let next' = after state t.order in
    let tree : tree_after state.limit state.tree t.made.call ≡ next'.tree = ap (tree_after state.limit state.tree) request in
    let clock : state.clock + weight t.made.altered ≡ next'.clock = counts t.made.altered (sym r.2 ∙ ap (alters state.limit state.tree) request) in
    let bases : bases_after t.order.verb t.order.session t.made.reply state.bases ≡ next'.bases = ap (λ x. bases_after t.order.verb t.order.session x state.bases) answer in
    let rest = run_text next' turns (subst (λ (z : Tree × ℕ). Runs state.limit z.0 z.1 (records_of turns)) (λ i. (tree i, clock i)) r.3) (subst (λ b. AsAsked b turns) bases a.1) in
    ap₂ (λ l m. l ++ m) line rest
  where
    counts : (b : Bool) → b ≡ alters state.limit state.tree (request_in state t.order) → state.clock + weight b ≡ cond (alters state.limit state.tree (request_in state t.order)) (state.clock + 1) state.clock
    counts true e = ap (λ c. cond c (state.clock + 1) state.clock) e
    counts false e = (let same : state.clock + 0 ≡ state.clock = omega arith in same) ∙ ap (λ c. cond c (state.clock + 1) state.clock) e

pub alone_text : (limit session : ℕ) (phases : List (List Order)) (turns : List (List Turn)) → session < SESSIONS → IsRun limit phases turns → IsAlone session phases
    → text_of (all_of turns) ≡ replies_in (opening limit) (in_order phases)
alone_text limit session phases turns within run alone =
    let all = all_of turns in
    let orders = run_orders limit phases turns run in
    let are : OrdersAre session (orders_of all) = subst (OrdersAre session) (sym orders) (alone_in_order session phases alone) in
    let mine = strand_all session all are in
    let order = one_order (strands SESSIONS all) session (strand session all) run.legal.order (strands_here SESSIONS all session within)
    (λ j u ne e. sym (strands_at SESSIONS all j u e) ∙ strand_other j session all are ne) run.legal.merges ∙ mine in
    run_text (opening limit) all (subst (Runs limit empty_tree 0) order run.legal.runs) run.asked ∙ ap (replies_in (opening limit)) orders
