-- Each event that is not refused keeps the rule of the core.
use Rattle.std.proofs.Common.{◌≡◌, ℕ, zero, suc, ◌+◌, ◌%◌, ◌<◌, ◌≤◌, ◌≢◌, true, List, [], length, get_or, set, None, refl, sym, ap, ap₂, ◌∙◌, subst, arith, inl, inr}
use mathlib.Core.Option.{some, some-ne-none}
use lib.ListN.{get_elem?}
use Rattle.std.proofs.lemmas.Grind.{get_or_default_zero}
use Rattle.dc_plain.specs.Requests.{Request}
use Rattle.dc_events.specs.Views.{View}
use Rattle.dc_events.specs.Rows.{most, base_of, count, row_words, Tells}
use Rattle.dc_events.specs.Rule.{Rule}
use Rattle.dc_events.specs.Walks.{walk_noted, walk_begun, walk_again, no_walk}
use Rattle.dc_events.specs.Effects.{taken, wrote, begun, again}
use Rattle.dc_names.specs.declared.limits.TheConstants.{ROW_WORDS}
use Rattle.dc_core.specs.Machine.{State, Actor, Act, actor_at, clock_of, done, event_by, walking}
use Rattle.dc_core.specs.Machine.Act.{Take, Shut, Write, Open, Note, Begin, Again, Quit}
use Rattle.dc_core.specs.Lives.{Done, strand, hold_of, view_of, views_from, LivesWith}
use Rattle.dc_core.specs.AsTable.{effect, history_after, Agrees, IsStep}
use Rattle.dc_core.specs.Refusals.{Answers}
use Rattle.dc_core.proofs.Below.{EventsBelow}
use Rattle.dc_core.proofs.Stepping.{agreed, stepped}
use Rattle.dc_core.proofs.Seats.{still_known, passed, met, at_or, held_so, set_all, unheld, here, other_holds_not, nobody_holds}
use Rattle.atomic_table.proofs.Lists.{set_again}

pub there : (s : State) (j : ℕ) → (length s.actors ≤ j → ⊥) → get_elem? s.actors j ≡ some (actor_at s j)
there s j inside = at_or s.actors j Rattle.dc_core.specs.Machine.idle (omega arith)

odd_or_even : (n : ℕ) → (n % 2 ≡ 1 → ⊥) → n % 2 ≡ 0
odd_or_even n other = omega arith

zero_unless : (n : ℕ) → (n ≢ 0 → ⊥) → n ≡ 0
zero_unless zero other = refl
zero_unless (suc n) other = absurd (other (λ e. omega arith))

pub take_kept : EventsBelow → (s : State) (j : ℕ) (hist : List Request) (ds : List Done) → LivesWith s hist ds → Answers s (event_by j Take) None → IsStep s hist ds (event_by j Take)
take_kept laws s j hist ds L ok = let p = passed ok in let q = passed p.1 in let a : Actor = actor_at s j in let at = there s j p.0 in
    let is_free : get_or s.words 1 0 ≡ 0 = zero_unless (get_or s.words 1 0) q.0 in let words : List ℕ = set s.words 1 1 in let a' : Actor = record a { holds = true; seen = clock_of s } in
    let kept = laws.holders.take _ _ _ _ _ j (view_of s.words hist ds j a) L.rule (here s hist ds L j a at) is_free in
    let same : taken (view_of s.words hist ds j a) words hist ≡ view_of words hist ds j a' = λ i. record (view_of words hist ds j a') { book = record { seen = sym L.rule.clock i; own = strand j ds; joined = [] } } in
    let others : (i : ℕ) (u : Actor) → i ≢ j → get_elem? s.actors i ≡ some u → view_of s.words hist ds i u ≡ view_of words hist ds i u = λ i u ne e. unheld s.words words hist hist ds ds i u (nobody_holds s hist ds L j a at is_free i u e) refl in
    let views = ap (λ w. set (views_from s.words hist ds 0 s.actors) j w) same ∙ set_all s.words words hist hist ds ds j s.actors a' others in
    stepped s j hist ds p.0 Take a' ds refl (agreed _ _ (sym same)) others record { rule = subst (λ vs. Rule s.limit s.rows words vs hist) views kept; tree = L.tree; finished = L.finished; known = still_known ds s.actors j a' L.known }

-- a word of a row was written by the holder
module _ (s : State) (j : ℕ) (hist : List Request) (ds : List Done) (L : LivesWith s hist ds) (a : Actor) (at : get_elem? s.actors j ≡ some a) (k x : ℕ) (has : a.holds ≡ true) where
  word_same : wrote (view_of s.words hist ds j a) k x ≡ view_of (set s.words k x) hist ds j a
  word_same = let words : List ℕ = set s.words k x in
      λ i. record (view_of words hist ds j a) { hold = (ap (λ b. record (hold_of b s.words hist) { words = set (hold_of b s.words hist).words k x }) has ∙ sym (ap (λ b. hold_of b words hist) has)) i }

  word_others : (i : ℕ) (u : Actor) → i ≢ j → get_elem? s.actors i ≡ some u → view_of s.words hist ds i u ≡ view_of (set s.words k x) hist ds i u
  word_others i u ne e = unheld s.words (set s.words k x) hist hist ds ds i u (other_holds_not s hist ds L j a at has i u ne e) refl

  word_kept : Rule s.limit s.rows (set s.words k x) (set (views_from s.words hist ds 0 s.actors) j (wrote (view_of s.words hist ds j a) k x)) hist → LivesWith (record s { words = set s.words k x }) hist ds
  word_kept kept = let words : List ℕ = set s.words k x in
      let views = ap (λ w. set (views_from s.words hist ds 0 s.actors) j w) word_same ∙ (set_all s.words words hist hist ds ds j s.actors a word_others ∙ ap (views_from words hist ds 0) (set_again s.actors j a at)) in
      record { rule = subst (λ vs. Rule s.limit s.rows words vs hist) views kept; tree = L.tree; finished = L.finished; known = L.known }

-- so does an act that writes one, and nothing else
word_step : (s : State) (j : ℕ) (hist : List Request) (ds : List Done) (L : LivesWith s hist ds) (inside : length s.actors ≤ j → ⊥) (act : Act) (k x : ℕ) (has : (actor_at s j).holds ≡ true) → done s j act ≡ record s { words = set s.words k x } → history_after hist (actor_at s j) act ≡ hist
    → effect s hist (view_of s.words hist ds j (actor_at s j)) act ≡ wrote (view_of s.words hist ds j (actor_at s j)) k x
    → Rule s.limit s.rows (set s.words k x) (set (views_from s.words hist ds 0 s.actors) j (wrote (view_of s.words hist ds j (actor_at s j)) k x)) hist → IsStep s hist ds (event_by j act)
word_step s j hist ds L inside act k x has is same_history same kept = let a : Actor = actor_at s j in let at = there s j inside in
    let now : view_of (done s j act).words (history_after hist a act) ds j a ≡ effect s hist (view_of s.words hist ds j a) act = ap₂ (λ ws h. view_of ws h ds j a) (ap (λ (z : State). z.words) is) same_history ∙ sym (word_same s j hist ds L a at k x has) ∙ sym same in
    stepped s j hist ds inside act a ds (ap (λ (z : State). z.actors) is ∙ sym (set_again s.actors j a at)) (agreed _ _ now)
    (λ i u ne e. word_others s j hist ds L a at k x has i u ne e ∙ sym (ap₂ (λ ws h. view_of ws h ds i u) (ap (λ (z : State). z.words) is) same_history))
    (subst (λ (z : State × List Request). LivesWith z.0 z.1 ds) (λ i. (sym is i, sym same_history i)) (word_kept s j hist ds L a at k x has kept))

pub shut_kept : EventsBelow → (s : State) (j row : ℕ) (hist : List Request) (ds : List Done) → LivesWith s hist ds → Answers s (event_by j (Shut row)) None → IsStep s hist ds (event_by j (Shut row))
shut_kept laws s j row hist ds L ok = let p = passed ok in let q = passed p.1 in let r = passed q.1 in let t = passed r.1 in let u = passed t.1 in let a : Actor = actor_at s j in let at = there s j p.0 in
    let has = held_so a.holds q.0 in let inside : row < s.rows = omega (arith, r.0) in let even = odd_or_even (count s.words row) t.0 in
    let low : count s.words row < most = let b = (L.rule.row row inside).below in omega (arith, u.0) in
    word_step s j hist ds L p.0 (Shut row) (base_of row) (count s.words row + 1) has refl refl refl
    (laws.holders.shut _ _ _ _ _ j (view_of s.words hist ds j a) L.rule (here s hist ds L j a at) (ap (λ b. (hold_of b s.words hist).holds) has) row inside even low)

-- an act that changes the actor's walk alone
pub walk_kept : (s : State) (j : ℕ) (hist : List Request) (ds : List Done) (L : LivesWith s hist ds) (inside : length s.actors ≤ j → ⊥) (act : Act) (a' : Actor) → done s j act ≡ record s { actors = set s.actors j a' } → history_after hist (actor_at s j) act ≡ hist
    → Agrees (view_of s.words hist ds j a') (effect s hist (view_of s.words hist ds j (actor_at s j)) act) → Rule s.limit s.rows s.words (set (views_from s.words hist ds 0 s.actors) j (view_of s.words hist ds j a')) hist → IsStep s hist ds (event_by j act)
walk_kept s j hist ds L inside act a' is same_history agrees kept = let now : (i : ℕ) (u : Actor) → view_of s.words hist ds i u ≡ view_of (done s j act).words (history_after hist (actor_at s j) act) ds i u = λ i u. sym (ap₂ (λ ws h. view_of ws h ds i u) (ap (λ (z : State). z.words) is) same_history) in
    stepped s j hist ds inside act a' ds (ap (λ (z : State). z.actors) is) (subst (λ v. Agrees v (effect s hist (view_of s.words hist ds j (actor_at s j)) act)) (now j a') agrees) (λ i u ne e. now i u)
    (subst (λ (z : State × List Request). LivesWith z.0 z.1 ds) (λ i. (sym is i, sym same_history i))
    record { rule = subst (λ vs. Rule s.limit s.rows s.words vs hist) (set_all s.words s.words hist hist ds ds j s.actors a' (λ i u ne e. refl)) kept; tree = L.tree; finished = L.finished; known = still_known ds s.actors j a' L.known })

pub note_kept : EventsBelow → (s : State) (j row : ℕ) (hist : List Request) (ds : List Done) → LivesWith s hist ds → Answers s (event_by j (Note row)) None → IsStep s hist ds (event_by j (Note row))
note_kept laws s j row hist ds L ok = let p = passed ok in let q = passed p.1 in let r = passed q.1 in let t = passed r.1 in let u = passed t.1 in let a : Actor = actor_at s j in let at = there s j p.0 in
    let fresh = Rattle.dc_core.proofs.Seats.held_not a.walk.pivoted r.0 in let inside : row < s.rows = omega (arith, t.0) in let even = odd_or_even (count s.words row) u.0 in
    walk_kept s j hist ds L p.0 (Note row) (walking a (walk_noted a.walk row (count s.words row))) refl refl (agreed _ _ refl) (laws.walkers.note _ _ _ _ _ j (view_of s.words hist ds j a) L.rule (here s hist ds L j a at) row inside even fresh)

-- what was read of a list is what it has there
pub number : (words : List ℕ) (i n : ℕ) → i < length words → n ≡ get_or words i n → n ≡ get_or words i 0
number words i n inside e = e ∙ get_or_default_zero words i n inside

-- the core stores neither what was loaded as a walk began nor its faults
unloaded_kept : EventsBelow → (s : State) (j : ℕ) (hist : List Request) (ds : List Done) (L : LivesWith s hist ds) (inside : length s.actors ≤ j → ⊥) (a' : Actor) (v : View) → Agrees (view_of s.words hist ds j a') v
    → Rule s.limit s.rows s.words (set (views_from s.words hist ds 0 s.actors) j v) hist → Rule s.limit s.rows s.words (set (views_from s.words hist ds 0 s.actors) j (view_of s.words hist ds j a')) hist
unloaded_kept laws s j hist ds L inside a' v same kept =
    laws.loads _ _ _ _ _ j (view_of s.words hist ds j (actor_at s j)) v (view_of s.words hist ds j a') (here s hist ds L j (actor_at s j) (there s j inside)) kept same.walk same.book same.hold (λ i why none. absurd (some-ne-none why (sym none)))

pub begin_kept : EventsBelow → (s : State) (j : ℕ) (call : Request) (hist : List Request) (ds : List Done) → LivesWith s hist ds → Answers s (event_by j (Begin call)) None → IsStep s hist ds (event_by j (Begin call))
begin_kept laws s j call hist ds L ok = let p = passed ok in let a : Actor = actor_at s j in let a' : Actor = record a { walk = walk_begun call } in let v : View = view_of s.words hist ds j a in
    let same : Agrees (view_of s.words hist ds j a') (begun v call) = record { walk = refl; book = refl; hold = refl; loads = refl } in
    walk_kept s j hist ds L p.0 (Begin call) a' refl refl same (unloaded_kept laws s j hist ds L p.0 a' (begun v call) same (laws.walkers.begin _ _ _ _ _ j v L.rule (here s hist ds L j a (there s j p.0)) call))

pub again_kept : EventsBelow → (s : State) (j : ℕ) (hist : List Request) (ds : List Done) → LivesWith s hist ds → Answers s (event_by j Again) None → IsStep s hist ds (event_by j Again)
again_kept laws s j hist ds L ok = let p = passed ok in let a : Actor = actor_at s j in let a' : Actor = record a { walk = walk_again a.walk } in let v : View = view_of s.words hist ds j a in
    let same : Agrees (view_of s.words hist ds j a') (again v) = record { walk = refl; book = refl; hold = refl; loads = refl } in
    walk_kept s j hist ds L p.0 Again a' refl refl same (unloaded_kept laws s j hist ds L p.0 a' (again v) same (laws.walkers.again_so _ _ _ _ _ j v L.rule (here s hist ds L j a (there s j p.0))))

pub quit_kept : EventsBelow → (s : State) (j : ℕ) (hist : List Request) (ds : List Done) → LivesWith s hist ds → Answers s (event_by j Quit) None → IsStep s hist ds (event_by j Quit)
quit_kept laws s j hist ds L ok = let p = passed ok in let a : Actor = actor_at s j in
    walk_kept s j hist ds L p.0 Quit (record a { walk = no_walk }) refl refl (agreed _ _ refl) (laws.walkers.quit_so _ _ _ _ _ j (view_of s.words hist ds j a) L.rule (here s hist ds L j a (there s j p.0)))

even_or_odd : (n : ℕ) → (n % 2 ≡ 0 → ⊥) → n % 2 ≡ 1
even_or_odd n other = omega arith

pub open_kept : EventsBelow → (s : State) (j row : ℕ) (hist : List Request) (ds : List Done) → LivesWith s hist ds → Answers s (event_by j (Open row)) None → IsStep s hist ds (event_by j (Open row))
open_kept laws s j row hist ds L ok = let p = passed ok in let q = passed p.1 in let r = passed q.1 in let t = passed r.1 in let u = met t.1 in let x = met u.1 in let a : Actor = actor_at s j in let at = there s j p.0 in
    let has = held_so a.holds q.0 in let inside : row < s.rows = omega (arith, r.0) in let odd = even_or_odd (count s.words row) t.0 in
    let low : count s.words row + 1 ≤ most = let b = (L.rule.row row inside).below in let e : count s.words row ≢ most = λ h. full_even (count s.words row) h odd in omega arith in
    word_step s j hist ds L p.0 (Open row) (base_of row) (count s.words row + 1) has refl refl refl
    (laws.holders.open_row _ _ _ _ _ j (view_of s.words hist ds j a) L.rule (here s hist ds L j a at) (ap (λ b. (hold_of b s.words hist).holds) has) row inside odd (subst (λ z. Tells z (row_words s.words row)) L.tree u.0) x.0 low)
  where
    full_even : (n : ℕ) → n ≡ most → n % 2 ≡ 1 → ⊥
    full_even n full odd = let e : most % 2 ≡ 0 = refl in let f : n % 2 ≡ 0 = ap (λ z. z % 2) full ∙ e in omega arith

pub write_kept : EventsBelow → (s : State) (j row i x : ℕ) (hist : List Request) (ds : List Done) → LivesWith s hist ds → Answers s (event_by j (Write row i x)) None → IsStep s hist ds (event_by j (Write row i x))
write_kept laws s j row i x hist ds L ok = let p = passed ok in let q = passed p.1 in let r = passed q.1 in let t = passed r.1 in let u = passed t.1 in let a : Actor = actor_at s j in let at = there s j p.0 in
    let has = held_so a.holds q.0 in let inside : row < s.rows = omega (arith, r.0) in let odd = even_or_odd (count s.words row) u.0 in
    let low : 0 < i = pos i (λ z. t.0 (inl z)) in let high : i < ROW_WORDS = lower i (λ z. t.0 (inr z)) in
    word_step s j hist ds L p.0 (Write row i x) (base_of row + i) x has refl refl refl
    (laws.holders.write _ _ _ _ _ j (view_of s.words hist ds j a) L.rule (here s hist ds L j a at) (ap (λ b. (hold_of b s.words hist).holds) has) row inside i x low high odd)
  where
    pos : (n : ℕ) → (n ≡ 0 → ⊥) → 0 < n
    pos n other = omega arith

    lower : (n : ℕ) → (ROW_WORDS ≤ n → ⊥) → n < ROW_WORDS
    lower n other = omega arith
