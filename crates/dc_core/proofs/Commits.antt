-- A commit keeps the rule of the core: its record is the actor's, and no other's.
use Rattle.std.proofs.Common.{◌≡◌, ℕ, zero, suc, ◌+◌, ◌<◌, ◌≢◌, ◌==◌, Bool, true, false, List, [], ◌∷◌, ◌++◌, length, set, Option, Some, None, refl, sym, ap, ◌∙◌, subst, arith, append-nil}
use Rattle.std.proofs.lemmas.Bool.Decides.{nat_tests}
use Rattle.std.proofs.lemmas.List.{map-append}
use mathlib.Core.Option.{some}
use lib.ListN.{get_elem?}
use Rattle.dc_plain.specs.Requests.{Request}
use Rattle.dc_plain.specs.Runs.{reply_of, tree_after, tree_after_all, alters}
use Rattle.dc_plain.specs.Trees.{Tree, empty_tree}
use Rattle.dc_events.specs.Views.{View}
use Rattle.dc_events.specs.Standing.{tree_of}
use Rattle.dc_events.specs.Rows.{most, IsUntouched}
use Rattle.dc_events.specs.Rule.{Rule}
use Rattle.dc_events.specs.Laws.{HoldersKeepTheRule}
use Rattle.dc_events.specs.Walks.{no_walk}
use Rattle.dc_events.specs.Effects.{committed, record_of}
use Rattle.dc_core.specs.Machine.{State, Actor, actor_at, clock_of, event_by}
use Rattle.dc_core.specs.Machine.Act.{Commit}
use Rattle.dc_core.specs.Lives.{Done, finished_of, strand, hold_of, view_of, views_from, LivesWith}
use Rattle.dc_core.specs.AsTable.{IsStep}
use Rattle.dc_core.proofs.Stepping.{agreed, stepped}
use Rattle.dc_core.specs.Refusals.{Refusal, Answers, UnlessRow, Passes, IsTouched}
use Rattle.dc_core.specs.Refusals.Refusal.{Touched}
use Rattle.dc_core.proofs.Seats.{one_known, passed, at_or, held_so, set_all, unheld, here, other_holds_not, strand_snoc}

tree_snoc : (limit : ℕ) (t : Tree) (h : List Request) (c : Request) → tree_after_all limit t (h ++ c ∷ []) ≡ tree_after limit (tree_after_all limit t h) c
tree_snoc limit t [] c = refl
tree_snoc limit t (x ∷ xs) c = tree_snoc limit (tree_after limit t x) xs c

own_one : (j : ℕ) → (j == j) ≡ true
own_one j = grind (arith, nat_tests)

other_one : (j i : ℕ) → i ≢ j → (j == i) ≡ false
other_one j i ne = grind (arith, nat_tests)

pub strand_mine : (j : ℕ) (ds : List Done) (d : Done) → d.actor ≡ j → strand j (ds ++ d ∷ []) ≡ strand j ds ++ d.record_made ∷ []
strand_mine j ds d is = strand_snoc j ds d true (ap (λ k. k == j) is ∙ own_one j)

pub strand_other : (i j : ℕ) (ds : List Done) (d : Done) → d.actor ≡ j → i ≢ j → strand i (ds ++ d ∷ []) ≡ strand i ds
strand_other i j ds d is ne = strand_snoc i ds d false (ap (λ k. k == i) is ∙ other_one j i ne) ∙ append-nil (strand i ds)

module _ (s : State) (j : ℕ) (hist : List Request) (ds : List Done) (L : LivesWith s hist ds) (a : Actor) (at : get_elem? s.actors j ≡ some a) where
  module _ (has : a.holds ≡ true) (words' : List ℕ) (is : words' ≡ set s.words 0 (length hist + 1)) (a' : Actor) (so : a' ≡ record a { walk = no_walk; seen = length hist + 1 }) where
    abbrev call : Request
    call = a.walk.call

    abbrev more : List Request
    more = hist ++ a.walk.call ∷ []

    abbrev made : Done
    made = record { actor = j; record_made = record_of s.limit hist a.walk.call }

    held : (view_of s.words hist ds j a).hold ≡ record { holds = true; history = hist; words = s.words }
    held = ap (λ b. hold_of b s.words hist) has

    pub commit_same : committed s.limit (view_of s.words hist ds j a) call ≡ view_of words' more (ds ++ made ∷ []) j a'
    commit_same = let len : length (view_of s.words hist ds j a).hold.history ≡ length hist = ap (λ h. length h.history) held in
        (λ i. record {
          walk = no_walk;
          book = record { seen = len i + 1; own = (ap (λ h. strand j ds ++ record_of s.limit h.history call ∷ []) held ∙ sym (strand_mine j ds made refl)) i; joined = [] };
          hold = (ap (λ h. record { holds = true; history = h.history ++ call ∷ []; words = set h.words 0 (length h.history + 1) }) held ∙ (ap (λ ws. record { holds = true; history = more; words = ws }) (sym is) ∙ ap (λ b. hold_of b words' more) (sym has))) i;
          loads = a.loads;
          first_load = 0;
          faults = [];
        }) ∙ ap (view_of words' more (ds ++ made ∷ []) j) (sym so)

    pub commit_others : (i : ℕ) (u : Actor) → i ≢ j → get_elem? s.actors i ≡ some u → view_of s.words hist ds i u ≡ view_of words' more (ds ++ made ∷ []) i u
    commit_others i u ne e = unheld s.words words' hist more ds (ds ++ made ∷ []) i u (other_holds_not s hist ds L j a at has i u ne e) (sym (strand_other i j ds made refl ne))

    pub commit_lives : HoldersKeepTheRule → alters s.limit (tree_of s.limit hist) call ≡ true → length hist < most → ((i : ℕ) → i < s.rows → IsUntouched s.limit (tree_of s.limit hist) s.words i call)
        → Rule s.limit s.rows words' (views_from words' more (ds ++ made ∷ []) 0 (set s.actors j a')) more
    commit_lives laws new early apart = let v : View = view_of s.words hist ds j a in
        let kept = laws.commit s.limit s.rows s.words (views_from s.words hist ds 0 s.actors) hist j v L.rule (here s hist ds L j a at) (ap (λ h. h.holds) held) call new early apart in
        let len : length v.hold.history ≡ length hist = ap (λ h. length h.history) held in
        let w' : set s.words 0 (length v.hold.history + 1) ≡ words' = ap (λ n. set s.words 0 (n + 1)) len ∙ sym is in
        let views = ap (λ w. set (views_from s.words hist ds 0 s.actors) j w) commit_same ∙ set_all s.words words' hist more ds (ds ++ made ∷ []) j s.actors a' commit_others in
        subst (λ (z : List ℕ × List View). Rule s.limit s.rows z.0 z.1 more) (λ i. (w' i, views i)) kept

pub passed_row : (rows : ℕ) (Test : ℕ → Type 0) (reason : ℕ → Refusal) (next : Option Refusal → Type 0) → UnlessRow rows Test reason next None → ((row : ℕ) → row < rows → Test row → ⊥) × next None
passed_row rows Test reason next (Rattle.std.proofs.Common.inl is) = absurd (none_some is.4)
  where
    none_some : {r : Refusal} → None ≡ Some r → ⊥
    none_some e = cc
passed_row rows Test reason next (Rattle.std.proofs.Common.inr rest) = rest

pub commit_kept : HoldersKeepTheRule → (s : State) (j : ℕ) (hist : List Request) (ds : List Done) → LivesWith s hist ds → Answers s (event_by j Commit) None → IsStep s hist ds (event_by j Commit)
commit_kept laws s j hist ds L ok = let p = passed ok in let q = passed p.1 in let r = passed q.1 in let t = passed r.1 in let u = passed t.1 in let a : Actor = actor_at s j in let call : Request = a.walk.call in
    let x = passed_row s.rows (IsTouched s a.walk.call) Touched Passes u.1 in
    let at = at_or s.actors j Rattle.dc_core.specs.Machine.idle (let less = p.0 in omega arith) in let has = held_so a.holds q.0 in
    let new : alters s.limit (tree_of s.limit hist) call ≡ true = subst (λ z. alters s.limit z call ≡ true) L.tree (held_so (alters s.limit s.tree call) t.0) in
    let clock : clock_of s ≡ length hist = L.rule.clock in
    let early : length hist < most = let e = L.rule.early in let full : length hist ≢ most = λ h. u.0 (clock ∙ h) in omega arith in
    let apart : (i : ℕ) → i < s.rows → IsUntouched s.limit (tree_of s.limit hist) s.words i call = λ i less. subst (λ z. IsUntouched s.limit z s.words i call) L.tree (λ even fact spells touched. x.0 i less (even, fact, spells, touched)) in
    let d : Done = record { actor = j; record_made = record_of s.limit hist call } in
    let words : List ℕ = set s.words 0 (clock_of s + 1) in let a' : Actor = record a { walk = no_walk; seen = clock_of s + 1 } in
    let is : words ≡ set s.words 0 (length hist + 1) = ap (λ n. set s.words 0 (n + 1)) clock in let so : a' ≡ record a { walk = no_walk; seen = length hist + 1 } = ap (λ n. record a { walk = no_walk; seen = n + 1 }) clock in
    stepped s j hist ds p.0 Commit a' (ds ++ d ∷ []) refl (agreed _ _ (sym (commit_same s j hist ds L a at has words is a' so))) (commit_others s j hist ds L a at has words is a' so) record {
      rule = commit_lives s j hist ds L a at has words is a' so laws new early apart;
      tree = ap (λ z. tree_after s.limit z call) L.tree ∙ sym (tree_snoc s.limit empty_tree hist call);
      finished = (λ i. L.finished i ++ record { actor = j; call = call; reply = reply_of s.limit (L.tree i) call; at = clock i } ∷ []) ∙ sym (map-append finished_of ds (d ∷ []));
      known = one_known ds s.actors j a a' d at refl L.known;
    }
