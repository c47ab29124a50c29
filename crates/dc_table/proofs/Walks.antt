-- Each step of a pass that walks keeps the table's rule.
use Rattle.std.proofs.Common.{◌≡◌, ℕ, zero, suc, ◌+◌, ◌%◌, ◌<◌, ◌≤◌, Bool, true, false, List, [], ◌∷◌, ◌++◌, length, take, inr, get_or, set, sym, refl, ap, ◌∙◌, subst, subst₂, arith, le_refl}
use Rattle.std.proofs.lemmas.List.{set-set}
use mathlib.Core.Logic.{dite}
use mathlib.Core.Option.{none, some, some-ne-none}
use native.Mathlib.Decide.{ℕ_discrete}
use lib.ListN.{get_elem?}
use Rattle.atomic_table.specs.Table.{step, keeps, stepped, Allows}
use Rattle.atomic_table.proofs.Lists.{set_again, set_here}
use Rattle.dc_plain.specs.Requests.{Request}
use Rattle.dc_events.specs.Views.{View, Note}
use Rattle.dc_events.specs.Views.Fault.{Busy, Changed}
use Rattle.dc_names.specs.declared.limits.TheConstants.{ROW_WORDS}
use Rattle.dc_events.specs.Rows.{Tells, base_of, count, note_words, row_words, words_from}
use Rattle.dc_events.specs.Standing.{tree_of}
use Rattle.dc_events.specs.Rule.{Rule}
use Rattle.dc_events.specs.Walks.{last_of}
use Rattle.dc_events.specs.Effects.{begins, quit, noted, note_at, read, pivoted, checked, faulted}
use Rattle.dc_events.specs.Laws.{WalkersKeepTheRule}
use Rattle.dc_table.specs.Shares.{Begins, AreBeginnings, with_pivot, with_view}
use Rattle.dc_table.specs.Kept.{KeptAt, Kept, knowns, views_of, sheet_of}
use Rattle.dc_table.specs.Plays.{Place, known_at}
use Rattle.dc_table.specs.Walking.{IsFresh, CanRead, CanCheck, HasNoted, noted_as, read_as, pivoted_as, learnt_as, checked_as, compared_as}
use Rattle.dc_table.specs.declared.table.Limits.{Limits}
use Rattle.dc_table.proofs.Sharing.{same_shares}
use Rattle.dc_table.proofs.Kept.{Seen, known_there, view_there, after_load, pivot_fits}

-- what a history begins with
take_begun : (early rest : List Request) → take (length early) (early ++ rest) ≡ early
take_begun [] rest = refl
take_begun (x ∷ xs) rest = ap (λ l. x ∷ l) (take_begun xs rest)

taken_of : (early h : List Request) → Begins early h → take (length early) h ≡ early
taken_of early h b = ap (take (length early)) b.1 ∙ take_begun early b.0

within_list : {A : Type 0} (l : List A) (i : ℕ) (a : A) → get_elem? l i ≡ some a → i < length l
within_list [] i a e = absurd (some-ne-none a (sym e))
within_list (x ∷ xs) zero a e = omega arith
within_list (x ∷ xs) (suc i) a e = let r = within_list xs i a e in omega arith

module _ (k : Limits) (law : WalkersKeepTheRule) where
  -- a load that gives the pass another view
  still : (s : Seen) (h : List Request) (K : KeptAt k s h) (i id : ℕ) (me : Place) → get_elem? s.views id ≡ some me.0 → 0 < (known_at me).share.parts → (v : View)
      → Rule k.max_inodes k.rows s.words (set (views_of (knowns s.views)) id v) h → Kept k (stepped s i (get_or s.words i 0) id me.1 (sheet_of (with_view (known_at me) v)) keeps)
  still s h K i id me at part v rule = after_load k s h K i id me.1 (with_view (known_at me) v) rule (same_shares K.shares id (known_at me) (known_there s.views id me.0 at) part (with_view (known_at me) v) refl) (K.holds id (known_at me) (known_there s.views id me.0 at))

  -- so is the load of the clock, after which the pass knows the history that it counts
  pivots : (s : Seen) (h : List Request) (K : KeptAt k s h) (id : ℕ) (me : Place) → get_elem? s.views id ≡ some me.0 → 0 < (known_at me).share.parts → (v : View)
      → Rule k.max_inodes k.rows s.words (set (views_of (knowns s.views)) id v) h → Kept k (stepped s 0 (get_or s.words 0 0) id me.1 (sheet_of (with_pivot (known_at me) v h)) keeps)
  pivots s h K id me at part v rule = after_load k s h K 0 id me.1 (with_pivot (known_at me) v h) rule (same_shares K.shares id (known_at me) (known_there s.views id me.0 at) part (with_pivot (known_at me) v h) refl)
      (pivot_fits h (known_at me) v (K.holds id (known_at me) (known_there s.views id me.0 at)))

  -- the first step of a walk begins it
  begins_rule : (words : List ℕ) (views : List View) (h : List Request) (id : ℕ) (v : View) (first : Bool) (call : Request) → Rule k.max_inodes k.rows words views h → get_elem? views id ≡ some v → Rule k.max_inodes k.rows words (set views id (begins first v call)) h
  begins_rule words views h id v true call R at = law.begin k.max_inodes k.rows words views h id v R at call
  begins_rule words views h id v false call R at = subst (λ vs. Rule k.max_inodes k.rows words vs h) (sym (set_again views id v at)) R

  -- and then goes on
  then_rule : (words : List ℕ) (views : List View) (h : List Request) (id : ℕ) (v w u : View) → get_elem? views id ≡ some v → Rule k.max_inodes k.rows words (set views id w) h
      → (Rule k.max_inodes k.rows words (set views id w) h → get_elem? (set views id w) id ≡ some w → Rule k.max_inodes k.rows words (set (set views id w) id u) h) → Rule k.max_inodes k.rows words (set views id u) h
  then_rule words views h id v w u at R more = subst (λ vs. Rule k.max_inodes k.rows words vs h) (set-set views id w u) (more R (set_here views id w (within_list views id v at)))

  pub notes_row : (slots id : ℕ) (me : Place) (call : Request) (row : ℕ) (first : Bool) → row < (known_at me).share.rows → 0 < (known_at me).share.parts → (begins first (known_at me).view call).walk.pivoted ≡ false
      → Allows (Kept k) slots id me (base_of row) (λ x. x) (noted_as call row first (step slots (base_of row) 0 0 none) me)
  notes_row slots id me call row first inside part fresh s kept len at small = let h = kept.0 in let K = kept.1 in let now = known_at me in let views = views_of (knowns s.views) in let seat = view_there s.views id me.0 at in
      let n = K.shares.named id now (known_there s.views id me.0 at) part in let v : View = begins first now.view call in let x : ℕ = count s.words row in let B = begins_rule s.words views h id now.view first call K.rule seat in
      dite (ℕ_discrete (x % 2) 0)
      (λ even. (
        sheet_of (with_view now (noted v row x)),
        keeps,
        tt,
        still s h K (base_of row) id me at part (noted v row x) (then_rule s.words views h id now.view v (noted v row x) seat B (λ R a. law.note k.max_inodes k.rows s.words (set views id v) h id v R a row (subst (λ z. row < z) n.1 inside) even fresh)),
        ((λ _. refl), λ odd. absurd (odd even)),
      ))
      (λ odd. (
        sheet_of (with_view now (faulted v (Busy row))),
        keeps,
        tt,
        still s h K (base_of row) id me at part (faulted v (Busy row)) (then_rule s.words views h id now.view v (faulted v (Busy row)) seat B (λ R a. law.fault k.max_inodes k.rows s.words (set views id v) h id v R a (Busy row) (subst (λ z. row < z) n.1 inside))),
        ((λ even. absurd (odd even)), λ _. refl),
      ))

  pub reads_word : (slots id : ℕ) (me : Place) (row word : ℕ) → 0 < (known_at me).share.parts → CanRead (known_at me).view row word → Allows (Kept k) slots id me (base_of row + word) (λ x. x) (read_as (step slots (base_of row + word) 0 0 none) me)
  reads_word slots id me row word part can s kept len at small = let h = kept.0 in let K = kept.1 in let now = known_at me in let views = views_of (knowns s.views) in let seat = view_there s.views id me.0 at in
      let x : Note = note_at now.view (last_of now.view.walk) in let place : base_of x.row + (length x.words + 1) ≡ base_of row + word = let r = can.of_row in let m = can.next in omega arith in let w : ℕ = get_or s.words (base_of row + word) 0 in (
        sheet_of (with_view now (read now.view w)),
        keeps,
        tt,
        still s h K (base_of row + word) id me at part (read now.view w) (subst (λ z. Rule k.max_inodes k.rows s.words (set views id (read now.view (get_or s.words z 0))) h) place
            (law.read_so k.max_inodes k.rows s.words views h id now.view K.rule seat can.there (let m = can.next in let i = can.inside in omega arith) can.busy can.fresh)),
        refl,
      )

  pub pivots_clock : (slots id : ℕ) (me : Place) (call : Request) (first : Bool) → 0 < (known_at me).share.parts → IsFresh first (known_at me).view call → Allows (Kept k) slots id me 0 (λ x. x) (pivoted_as call first (step slots 0 0 0 none) me)
  pivots_clock slots id me call first part fresh s kept len at small = let h = kept.0 in let K = kept.1 in let now = known_at me in let views = views_of (knowns s.views) in let seat = view_there s.views id me.0 at in
      let v : View = begins first now.view call in let x : ℕ = get_or s.words 0 0 in let clock = K.rule.clock in let seen = (K.rule.fits id now.view seat).book.seen in (
        sheet_of (with_pivot now (pivoted v x) h),
        keeps,
        tt,
        pivots s h K id me at part (pivoted v x) (then_rule s.words views h id now.view v (pivoted v x) seat (begins_rule s.words views h id now.view first call K.rule seat) (λ R a. law.pivot k.max_inodes k.rows s.words (set views id v) h id v R a fresh)),
        ((h, sym clock, refl), omega arith),
      )

  pub learns_clock : (slots id : ℕ) (me : Place) → 0 < (known_at me).share.parts → Allows (Kept k) slots id me 0 (λ x. x) (learnt_as (step slots 0 0 0 none) me)
  learns_clock slots id me part s kept len at small = let h = kept.0 in let K = kept.1 in let now = known_at me in let views = views_of (knowns s.views) in let seat = view_there s.views id me.0 at in
      let v : View = quit now.view in let x : ℕ = get_or s.words 0 0 in let clock = K.rule.clock in let seen = (K.rule.fits id now.view seat).book.seen in (
        sheet_of (with_view now (pivoted v x)),
        keeps,
        tt,
        still s h K 0 id me at part (pivoted v x) (then_rule s.words views h id now.view v (pivoted v x) seat (law.quit_so k.max_inodes k.rows s.words views h id now.view K.rule seat)
            (λ R a. law.pivot k.max_inodes k.rows s.words (set views id v) h id v R a (λ _. refl))),
        (refl, omega arith),
      )

  pub checks_note : (slots id : ℕ) (me : Place) (i row n : ℕ) → 0 < (known_at me).share.parts → CanCheck (known_at me).view i row n → Allows (Kept k) slots id me (base_of row) (λ x. x) (checked_as i (step slots (base_of row) 0 0 none) me)
  checks_note slots id me i row n part can s kept len at small = let h = kept.0 in let K = kept.1 in let now = known_at me in let views = views_of (knowns s.views) in let seat = view_there s.views id me.0 at in
      let x : Note = note_at now.view i in let r : ℕ = count s.words row in let fits = (K.rule.fits id now.view seat).walk.noted i x can.there in let below = fits.below in
      let low : x.count ≤ r = subst (λ z. x.count ≤ count s.words z) can.of_row below in
      dite (ℕ_discrete x.count r)
      (λ same. (
        sheet_of (with_view now (checked now.view i)),
        keeps,
        tt,
        still s h K (base_of row) id me at part (checked now.view i) (law.check k.max_inodes k.rows s.words views h id now.view K.rule seat i can.turned can.there can.whole (same ∙ ap (count s.words) (sym can.of_row))),
        (
          (λ _. (
            refl,
            λ history earlier is many.
                let named = K.shares.named id now (known_there s.views id me.0 at) part in let counted = K.holds id now (known_there s.views id me.0 at) in
                let begins : Begins history h = (subst (AreBeginnings h) is counted.counted).0 in let told = (K.rule.fits id now.view seat).walk.told can.busy can.turned i x can.there (can.whole, inr (same ∙ ap (count s.words) (sym can.of_row))) in
                subst₂ (λ limit hist. Tells (tree_of limit hist) (note_words x)) (sym named.0) (ap (λ n. take n h) (sym many) ∙ taken_of history h begins) told,
          )),
          λ other. absurd (other same),
        ),
      ))
      (λ other. (
        sheet_of (with_view now (faulted now.view (Changed x.row x.count r))),
        keeps,
        tt,
        still s h K (base_of row) id me at part (faulted now.view (Changed x.row x.count r)) (law.fault k.max_inodes k.rows s.words views h id now.view K.rule seat (Changed x.row x.count r) (fits.inside, omega arith, subst (λ z. r ≤ count s.words z) (sym can.of_row) (le_refl r))),
        ((λ same. absurd (other same)), λ ne. (omega arith, refl)),
      ))

-- this many words from a place on, of which one is the first
from_so : (words : List ℕ) (k n m : ℕ) → n + 1 ≡ m → words_from words k m ≡ get_or words k 0 ∷ words_from words (suc k) n
from_so words k n m is = let next : suc n ≡ m = omega arith in ap (words_from words k) (sym next)

-- a load of the holder, by which a note may be true now
pub compares_note : (k : Limits) (slots id : ℕ) (me : Place) (i row n : ℕ) → (known_at me).view.hold.holds ≡ true → 0 < (known_at me).share.parts → HasNoted (known_at me).view i row n → Allows (Kept k) slots id me (base_of row) (λ x. x) (compared_as i (step slots (base_of row) 0 0 none) me)
compares_note k slots id me i row n has part can s kept len at small = let h = kept.0 in let K = kept.1 in let now = known_at me in let views = views_of (knowns s.views) in let seat = view_there s.views id me.0 at in
    let x : Note = note_at now.view i in let fits = (K.rule.fits id now.view seat).walk.noted i x can.there in let H = K.rule.held id now.view seat has in let named = K.shares.named id now (known_there s.views id me.0 at) part in (
      sheet_of now,
      keeps,
      tt,
      after_load k s h K (base_of row) id me.1 now (subst (λ vs. Rule k.max_inodes k.rows s.words vs h) (sym (set_again views id now.view seat)) K.rule) (same_shares K.shares id now (known_there s.views id me.0 at) part now refl) (K.holds id now (known_there s.views id me.0 at)),
      (
        refl,
        λ same.
            let count_is : x.count ≡ count s.words x.row = same ∙ ap (count s.words) (sym can.of_row) in
            let words_are : row_words s.words x.row ≡ note_words x = from_so s.words (base_of x.row) (length x.words) ROW_WORDS can.whole ∙ (λ j. sym count_is j ∷ sym (fits.same count_is) j) in
            let even : count s.words x.row % 2 ≡ 0 = subst (λ c. c % 2 ≡ 0) count_is fits.even in
            subst₂ (λ limit hist. Tells (tree_of limit hist) (note_words x)) (sym named.0) (sym H.knows_history) (subst (Tells (tree_of k.max_inodes h)) words_are ((K.rule.row x.row fits.inside).told even)),
      ),
    )

-- the place of a word, as the code computes it
load_place : (k : Limits) (slots id : ℕ) (me : Place) (j i : ℕ) (then : ℕ → Place → Type 0) → i ≡ j → Allows (Kept k) slots id me j (λ x. x) then → Allows (Kept k) slots id me i (λ x. x) then
load_place k slots id me j i then is allows = subst (λ z. Allows (Kept k) slots id me z (λ x. x) then) (sym is) allows

pub note_place : (k : Limits) (slots id : ℕ) (me : Place) (call : Request) (row : ℕ) (first : Bool) (j i : ℕ) → i ≡ j → Allows (Kept k) slots id me j (λ x. x) (noted_as call row first (step slots j 0 0 none) me)
    → Allows (Kept k) slots id me i (λ x. x) (noted_as call row first (step slots i 0 0 none) me)
note_place k slots id me call row first j i is allows = load_place k slots id me j i (noted_as call row first (step slots j 0 0 none) me) is allows

pub read_place : (k : Limits) (slots id : ℕ) (me : Place) (j i : ℕ) → i ≡ j → Allows (Kept k) slots id me j (λ x. x) (read_as (step slots j 0 0 none) me) → Allows (Kept k) slots id me i (λ x. x) (read_as (step slots i 0 0 none) me)
read_place k slots id me j i is allows = load_place k slots id me j i (read_as (step slots j 0 0 none) me) is allows

pub check_place : (k : Limits) (slots id : ℕ) (me : Place) (n j i : ℕ) → i ≡ j → Allows (Kept k) slots id me j (λ x. x) (checked_as n (step slots j 0 0 none) me) → Allows (Kept k) slots id me i (λ x. x) (checked_as n (step slots i 0 0 none) me)
check_place k slots id me n j i is allows = load_place k slots id me j i (checked_as n (step slots j 0 0 none) me) is allows

pub compare_place : (k : Limits) (slots id : ℕ) (me : Place) (n j i : ℕ) → i ≡ j → Allows (Kept k) slots id me j (λ x. x) (compared_as n (step slots j 0 0 none) me) → Allows (Kept k) slots id me i (λ x. x) (compared_as n (step slots i 0 0 none) me)
compare_place k slots id me n j i is allows = load_place k slots id me j i (compared_as n (step slots j 0 0 none) me) is allows
