-- A pivot and a check keep the rule of the core, whether or not they make a record.
use Rattle.std.proofs.Common.{◌≡◌, ℕ, ◌+◌, ◌-◌, ◌<◌, ◌≤◌, ◌≢◌, false, List, [], ◌∷◌, ◌++◌, length, set, Option, Some, None, refl, sym, ap, ◌∙◌, subst, arith, inl, inr}
use Rattle.std.proofs.lemmas.List.{map-append}
use mathlib.Core.Option.{some}
use mathlib.Core.Logic.{dite}
use native.Mathlib.Decide.{ℕ_discrete}
use lib.ListN.{get_elem?}
use Rattle.dc_plain.specs.Requests.{Request, Answer}
use Rattle.dc_names.specs.declared.limits.TheConstants.{ROW_WORDS}
use Rattle.dc_events.specs.Views.{Record, View}
use Rattle.dc_events.specs.Rows.{count, IsWhole}
use Rattle.dc_events.specs.Rule.{Rule}
use Rattle.dc_events.specs.Walks.{no_walk, walk_turned, walk_marked, walk_read, note_of, last_of, no_note}
use Rattle.dc_events.specs.Noted.{answer_in}
use Rattle.dc_events.specs.Effects.{concluded}
use Rattle.dc_core.specs.Machine.{State, Actor, actor_at, clock_of, concluding, ended, event_by, walking, next_word}
use Rattle.dc_core.specs.Machine.Act.{Pivot, Check, Read}
use Rattle.dc_core.specs.Lives.{Done, finished_of, view_of, views_from, LivesWith}
use Rattle.dc_core.specs.AsTable.{IsStep}
use Rattle.dc_core.specs.Refusals.{Answers}
use Rattle.dc_core.proofs.Seats.{one_known, still_known, passed, at_or, held_not, held_so, set_all, here}
use Rattle.dc_core.proofs.Below.{EventsBelow}
use Rattle.dc_core.proofs.Stepping.{agreed, stepped}
use Rattle.dc_core.proofs.Kept.{there, walk_kept}
use Rattle.dc_core.proofs.Commits.{strand_mine, strand_other}

module _ (s : State) (j : ℕ) (hist : List Request) (ds : List Done) (L : LivesWith s hist ds) (a : Actor) (at : get_elem? s.actors j ≡ some a) (a' : Actor) where
  -- what is concluded, if anything, is the effect of that name
  record Concluded (o : Option Answer) : Type 0 where
    next : List Done
    acts : (concluding s j a' o).actors ≡ set s.actors j (ended a' o)
    mine : view_of (concluding s j a' o).words hist next j (ended a' o) ≡ concluded (view_of s.words hist ds j a') o
    others : (i : ℕ) (u : Actor) → i ≢ j → get_elem? s.actors i ≡ some u → view_of s.words hist ds i u ≡ view_of (concluding s j a' o).words hist next i u
    lives : LivesWith (concluding s j a' o) hist next

  concluding_kept : (o : Option Answer) → Rule s.limit s.rows s.words (set (views_from s.words hist ds 0 s.actors) j (concluded (view_of s.words hist ds j a') o)) hist → Concluded o
  concluding_kept None kept = record {
    next = ds;
    acts = refl;
    mine = refl;
    others = λ i u ne e. refl;
    lives = record { rule = subst (λ vs. Rule s.limit s.rows s.words vs hist) (set_all s.words s.words hist hist ds ds j s.actors a' (λ i u ne e. refl)) kept; tree = L.tree; finished = L.finished; known = still_known ds s.actors j a' L.known };
  }
  concluding_kept (Some reply) kept = let V : View = view_of s.words hist ds j a' in let r : Record = record { call = a'.walk.call; reply = reply; at = a'.walk.pivot; altered = false } in
      let d : Done = record { actor = j; record_made = r } in let b : Actor = record a' { walk = no_walk } in
      let same : concluded V (Some reply) ≡ view_of s.words hist (ds ++ d ∷ []) j b = λ i. record (view_of s.words hist (ds ++ d ∷ []) j b) { book = record { seen = a'.seen; own = sym (strand_mine j ds d refl) i; joined = [] } } in
      let others : (i : ℕ) (u : Actor) → i ≢ j → get_elem? s.actors i ≡ some u → view_of s.words hist ds i u ≡ view_of s.words hist (ds ++ d ∷ []) i u =
      λ i u ne _. λ k. record (view_of s.words hist ds i u) { book = record { seen = u.seen; own = sym (strand_other i j ds d refl ne) k; joined = [] } } in
      let views = ap (λ w. set (views_from s.words hist ds 0 s.actors) j w) same ∙ set_all s.words s.words hist hist ds (ds ++ d ∷ []) j s.actors b others in record {
        next = ds ++ d ∷ [];
        acts = refl;
        mine = sym same;
        others = others;
        lives = record {
          rule = subst (λ vs. Rule s.limit s.rows s.words vs hist) views kept;
          tree = L.tree;
          finished = ap (λ l. l ++ record { actor = j; call = a'.walk.call; reply = reply; at = a'.walk.pivot } ∷ []) L.finished ∙ sym (map-append finished_of ds (d ∷ []));
          known = one_known ds s.actors j a b d at refl L.known;
        };
      }

pub pivot_kept : EventsBelow → (s : State) (j : ℕ) (hist : List Request) (ds : List Done) → LivesWith s hist ds → Answers s (event_by j Pivot) None → IsStep s hist ds (event_by j Pivot)
pivot_kept laws s j hist ds L ok = let p = passed ok in let q = passed p.1 in let a : Actor = actor_at s j in let at = there s j p.0 in let w' = walk_turned a.walk (clock_of s) in let a' : Actor = record (walking a w') { seen = clock_of s } in
    let c = concluding_kept s j hist ds L a at a' (answer_in w')
    (laws.walkers.pivot _ _ _ _ _ j (view_of s.words hist ds j a) L.rule (here s hist ds L j a at) (λ b. held_not a.walk.pivoted (λ t. q.0 (b, t)))) in
    stepped s j hist ds p.0 Pivot (ended a' (answer_in w')) c.next c.acts (agreed _ _ c.mine) c.others c.lives

pub same_number : (m n : ℕ) → ((m ≡ n → ⊥) → ⊥) → m ≡ n
same_number m n h = dite (ℕ_discrete m n) (λ e. e) (λ ne. absurd (h ne))

pub check_kept : EventsBelow → (s : State) (j i : ℕ) (hist : List Request) (ds : List Done) → LivesWith s hist ds → Answers s (event_by j (Check i)) None → IsStep s hist ds (event_by j (Check i))
check_kept laws s j i hist ds L ok = let p = passed ok in let q = passed p.1 in let r = passed q.1 in let t = passed r.1 in let u = passed t.1 in let a : Actor = actor_at s j in let at = there s j p.0 in let w' = walk_marked a.walk i in
    let turned = held_so a.walk.pivoted r.0 in let less : i < length a.walk.notes = below i (length a.walk.notes) (λ h. t.0 (inl h)) in
    let whole : IsWhole (note_of a.walk i) = same_number _ _ (λ h. t.0 (inr (inl h))) in
    let same : (note_of a.walk i).count ≡ count s.words (note_of a.walk i).row = sym (same_number _ _ u.0) in
    let c = concluding_kept s j hist ds L a at (walking a w') (answer_in w')
    (laws.walkers.check _ _ _ _ _ j (view_of s.words hist ds j a) L.rule (here s hist ds L j a at) i turned (at_or a.walk.notes i no_note less) whole same) in
    stepped s j hist ds p.0 (Check i) (ended (walking a w') (answer_in w')) c.next c.acts (agreed _ _ c.mine) c.others c.lives
  where
    below : (m n : ℕ) → (n ≤ m → ⊥) → m < n
    below m n h = omega arith

pub read_kept : EventsBelow → (s : State) (j : ℕ) (hist : List Request) (ds : List Done) → LivesWith s hist ds → Answers s (event_by j Read) None → IsStep s hist ds (event_by j Read)
read_kept laws s j hist ds L ok = let p = passed ok in let q = passed p.1 in let r = passed q.1 in let t = passed r.1 in let a : Actor = actor_at s j in let at = there s j p.0 in let v : View = view_of s.words hist ds j a in
    let busy = held_so a.walk.busy q.0 in let fresh = held_not a.walk.pivoted r.0 in let k : ℕ = last_of a.walk in
    let here_it = at_or a.walk.notes k no_note (last_there a.walk.notes (λ h. t.0 (inl h))) in let F = L.rule.fits j v (here s hist ds L j a at) in
    let few = (F.walk.noted k (note_of a.walk k) here_it).few in let short : length (note_of a.walk k).words + 1 < ROW_WORDS = not_last (length (note_of a.walk k).words) few (λ h. t.0 (inr h)) in
    walk_kept s j hist ds L p.0 Read (walking a (walk_read a.walk (next_word s a.walk))) refl refl (agreed _ _ refl) (laws.walkers.read_so _ _ _ _ _ j v L.rule (here s hist ds L j a at) here_it short busy fresh)
  where
    last_there : {A : Type 0} (l : List A) → (l ≡ [] → ⊥) → length l - 1 < length l
    last_there [] h = absurd (h refl)
    last_there (x ∷ xs) h = omega arith

    not_last : (n : ℕ) → n < ROW_WORDS → (n + 1 ≡ ROW_WORDS → ⊥) → n + 1 < ROW_WORDS
    not_last n few h = omega arith
