-- Giving the lock back, and a read, keep the rule of the core.
use Rattle.std.proofs.Common.{◌≡◌, ℕ, ◌%◌, ◌≢◌, true, false, List, [], ◌∷◌, ◌++◌, length, set, None, refl, sym, ap, ◌∙◌, subst, arith, true≢false, not}
use Rattle.std.proofs.lemmas.List.{map-append}
use mathlib.Core.Option.{some}
use lib.ListN.{get_elem?}
use Rattle.dc_plain.specs.Requests.{Request}
use Rattle.dc_plain.specs.LivingLaws.{SameTreeDecides}
use Rattle.dc_plain.specs.Runs.{reply_of, tree_after, alters, same_tree}
use Rattle.dc_plain.specs.Trees.{Tree}
use Rattle.dc_events.specs.Views.{View}
use Rattle.dc_events.specs.Standing.{tree_of}
use Rattle.dc_events.specs.Rows.{count}
use Rattle.dc_events.specs.Rule.{Rule}
use Rattle.dc_events.specs.Walks.{no_walk}
use Rattle.dc_events.specs.Effects.{answered, record_of, empty_hold}
use Rattle.dc_core.specs.Machine.{State, Actor, actor_at, clock_of, event_by}
use Rattle.dc_core.specs.Machine.Act.{Give}
use Rattle.dc_core.specs.Lives.{Done, finished_of, strand, hold_of, view_of, views_from, LivesWith}
use Rattle.dc_core.specs.AsTable.{IsStep}
use Rattle.dc_core.proofs.Stepping.{agreed, stepped}
use Rattle.dc_core.specs.Refusals.{Answers, Unless, Passes, IsOdd}
use Rattle.dc_core.specs.Refusals.Refusal.{OddRow, NoCall, Alters}
use Rattle.dc_core.proofs.Seats.{one_known, still_known, passed, held_not, held_so, set_all, unheld, here, other_holds_not}
use Rattle.dc_core.proofs.Below.{EventsBelow}
use Rattle.dc_core.proofs.Kept.{there}
use Rattle.dc_core.proofs.Commits.{passed_row, strand_mine, strand_other}

pub even_if : (n : ℕ) → (n % 2 ≡ 1 → ⊥) → n % 2 ≡ 0
even_if n other = omega arith

pub give_kept : EventsBelow → (s : State) (j : ℕ) (hist : List Request) (ds : List Done) → LivesWith s hist ds → Answers s (event_by j (Give false)) None → IsStep s hist ds (event_by j (Give false))
give_kept laws s j hist ds L ok = let p = passed ok in let q = passed p.1 in let x = passed_row s.rows (IsOdd s) OddRow Passes q.1 in let a : Actor = actor_at s j in let at = there s j p.0 in let has = held_so a.holds q.0 in
    let v : View = view_of s.words hist ds j a in let words : List ℕ = set s.words 1 0 in let a' : Actor = record a { holds = false } in
    let kept = laws.holders.give _ _ _ _ _ j v L.rule (here s hist ds L j a at) (ap (λ b. (hold_of b s.words hist).holds) has) (λ row less. even_if (count s.words row) (x.0 row less)) in
    let others : (i : ℕ) (u : Actor) → i ≢ j → get_elem? s.actors i ≡ some u → view_of s.words hist ds i u ≡ view_of words hist ds i u = λ i u ne e. unheld s.words words hist hist ds ds i u (other_holds_not s hist ds L j a at has i u ne e) refl in
    let views = set_all s.words words hist hist ds ds j s.actors a' others in
    stepped s j hist ds p.0 (Give false) a' ds refl (agreed _ _ refl) others record { rule = subst (λ vs. Rule s.limit s.rows words vs hist) views kept; tree = L.tree; finished = L.finished; known = still_known ds s.actors j a' L.known }

pub answer_kept : EventsBelow → (s : State) (j : ℕ) (hist : List Request) (ds : List Done) → LivesWith s hist ds → Answers s (event_by j (Give true)) None → IsStep s hist ds (event_by j (Give true))
answer_kept laws s j hist ds L ok = let p = passed ok in let q = passed p.1 in let a : Actor = actor_at s j in let call : Request = a.walk.call in
    let x = passed_row s.rows (IsOdd s) OddRow (Unless (a.walk.busy ≡ false) NoCall (Unless (alters s.limit s.tree call ≡ true) Alters Passes)) q.1 in let y = passed x.1 in let z = passed y.1 in
    let at = there s j p.0 in let has = held_so a.holds q.0 in
    let v : View = view_of s.words hist ds j a in let words : List ℕ = set s.words 1 0 in let a' : Actor = record a { walk = no_walk; seen = clock_of s; holds = false } in
    let clock : clock_of s ≡ length hist = L.rule.clock in
    let held : v.hold ≡ record { holds = true; history = hist; words = s.words } = ap (λ b. hold_of b s.words hist) has in
    let flat : alters s.limit (tree_of s.limit hist) call ≡ false = subst (λ t. alters s.limit t call ≡ false) L.tree (held_not (alters s.limit s.tree call) z.0) in
    let kept = laws.holders.answer _ _ _ _ _ j v L.rule (here s hist ds L j a at) (ap (λ h. h.holds) held) (λ row less. even_if (count s.words row) (x.0 row less)) call flat in
    let d : Done = record { actor = j; record_made = record_of s.limit hist call } in
    let same : answered s.limit v call ≡ view_of words hist (ds ++ d ∷ []) j a' = λ i. record {
      walk = no_walk;
      book = record { seen = (ap (λ h. length h.history) held ∙ sym clock) i; own = (ap (λ h. strand j ds ++ record_of s.limit h.history call ∷ []) held ∙ sym (strand_mine j ds d refl)) i; joined = [] };
      hold = empty_hold;
      loads = a.loads;
      first_load = 0;
      faults = [];
    } in
    let others : (i : ℕ) (u : Actor) → i ≢ j → get_elem? s.actors i ≡ some u → view_of s.words hist ds i u ≡ view_of words hist (ds ++ d ∷ []) i u =
    λ i u ne e. unheld s.words words hist hist ds (ds ++ d ∷ []) i u (other_holds_not s hist ds L j a at has i u ne e) (sym (strand_other i j ds d refl ne)) in
    let views = ap (λ w. set (views_from s.words hist ds 0 s.actors) j w) same ∙ set_all s.words words hist hist ds (ds ++ d ∷ []) j s.actors a' others in
    stepped s j hist ds p.0 (Give true) a' (ds ++ d ∷ []) refl (agreed _ _ (sym same)) others record {
      rule = subst (λ vs. Rule s.limit s.rows words vs hist) views kept;
      tree = L.tree;
      finished = (λ i. L.finished i ++ record { actor = j; call = call; reply = reply_of s.limit (L.tree i) call; at = clock i } ∷ []) ∙ sym (map-append finished_of ds (d ∷ []));
      known = one_known ds s.actors j a a' d at refl L.known;
    }

-- a call that may be answered alters nothing
answer_flat : (s : State) (j : ℕ) → Answers s (record { actor = j; act = Give true }) None → alters s.limit s.tree (actor_at s j).walk.call ≡ false
answer_flat s j ok = let call : Request = (actor_at s j).walk.call in
    let x = passed_row s.rows (IsOdd s) OddRow (Unless ((actor_at s j).walk.busy ≡ false) NoCall (Unless (alters s.limit s.tree call ≡ true) Alters Passes)) (passed (passed ok).1).1 in
    held_not (alters s.limit s.tree call) (passed (passed x.1).1).0

-- and leaves the tree
unaltered : SameTreeDecides → (limit : ℕ) (t : Tree) (call : Request) → alters limit t call ≡ false → tree_after limit t call ≡ t
unaltered same limit t call flat = (same (tree_after limit t call) t).0 (held_so (same_tree (tree_after limit t call) t) (λ other. true≢false (sym (ap not other) ∙ flat)))

pub answer_leaves : SameTreeDecides → (s : State) (j : ℕ) → Answers s (event_by j (Give true)) None → tree_after s.limit s.tree (actor_at s j).walk.call ≡ s.tree
answer_leaves same s j ok = unaltered same s.limit s.tree (actor_at s j).walk.call (answer_flat s j ok)
