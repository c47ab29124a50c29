-- Each event of an actor that walks keeps the rule.
use Rattle.std.proofs.Common.{◌≡◌, ℕ, ◌+◌, ◌-◌, ◌%◌, ◌<◌, true, false, List, length, get_or, set, refl, sym, ap, subst, ⊎_elim}
use Rattle.std.proofs.lemmas.List.{set-set}
use mathlib.Core.Option.{some}
use lib.ListN.{get_elem?}
use Rattle.dc_plain.specs.Requests.{Request}
use Rattle.dc_names.specs.declared.limits.TheConstants.{ROW_WORDS}
use Rattle.dc_events.specs.Views.{Walk, Book, View}
use Rattle.dc_events.specs.Rows.{base_of, count, IsWhole}
use Rattle.dc_events.specs.Rule.{WalkFits, BookFits, Follows, FaultFits, book_hits, Rule}
use Rattle.dc_events.specs.Laws.{LoadsTellNothing}
use Rattle.dc_events.specs.Noted.{answer_in}
use Rattle.dc_events.specs.Effects.{begun, again, quit, noted, note_at, read, turned, pivoted, marked, checked}
use Rattle.dc_events.proofs.Below.{FactsBelow}
use Rattle.dc_events.proofs.Steps.{quiet, set_mine}
use Rattle.dc_events.proofs.Walker as walker
use Rattle.atomic_table.proofs.Lists.{at_snoc}
use Rattle.dc_events.specs.Views.{Fault}
use Rattle.dc_events.specs.Effects.{faulted}

module _ {limit rows : ℕ} {words : List ℕ} {views : List View} {hist : List Request} (R : Rule limit rows words views hist) (id : ℕ) (v : View) (at : get_elem? views id ≡ some v) where
  pub begins : (call : Request) → Rule limit rows words (set views id (begun v call)) hist
  begins call = quiet R id v (begun v call) at refl (λ p. refl) (walker.begins v call (R.fits id v at))

  pub agains : Rule limit rows words (set views id (again v)) hist
  agains = quiet R id v (again v) at refl (λ p. refl) (walker.agains v (R.fits id v at))

  pub quits : Rule limit rows words (set views id (quit v)) hist
  quits = quiet R id v (quit v) at refl (λ p. refl) (walker.quits v (R.fits id v at))

  pub notes : (row : ℕ) → row < rows → count words row % 2 ≡ 0 → v.walk.pivoted ≡ false → Rule limit rows words (set views id (noted v row (count words row))) hist
  notes row inside even fresh = quiet R id v (noted v row (count words row)) at refl (λ p. refl) (walker.notes v row (count words row) inside refl even fresh (R.fits id v at))

  pub reads : let x = note_at v (length v.walk.notes - 1) in get_elem? v.walk.notes (length v.walk.notes - 1) ≡ some x → length x.words + 1 < ROW_WORDS → v.walk.busy ≡ true → v.walk.pivoted ≡ false
      → Rule limit rows words (set views id (read v (get_or words (base_of x.row + (length x.words + 1)) 0))) hist
  reads there short busy fresh = let x = note_at v (length v.walk.notes - 1) in let word : ℕ = get_or words (base_of x.row + (length x.words + 1)) 0 in
      quiet R id v (read v word) at refl (λ p. refl) (walker.reads v word there short refl busy fresh (R.fits id v at))

  pub pivots : FactsBelow → (v.walk.busy ≡ true → v.walk.pivoted ≡ false) → Rule limit rows words (set views id (pivoted v (get_or words 0 0))) hist
  pivots laws fresh = let w : View = turned v (get_or words 0 0) in
      quiet R id v (pivoted v (get_or words 0 0)) at (walker.concluded_hold w (answer_in w.walk)) (λ p. walker.concluded_hits p w (answer_in w.walk))
      (walker.concludes laws w (answer_in w.walk) (λ b. b) refl (walker.turns v (get_or words 0 0) R.clock R.row fresh (R.fits id v at)))

  pub checks : FactsBelow → (i : ℕ) → v.walk.pivoted ≡ true → get_elem? v.walk.notes i ≡ some (note_at v i) → IsWhole (note_at v i) → (note_at v i).count ≡ count words (note_at v i).row → Rule limit rows words (set views id (checked v i)) hist
  checks laws i turned there whole same = let w : View = marked v i in
      quiet R id v (checked v i) at (walker.concluded_hold w (answer_in w.walk)) (λ p. walker.concluded_hits p w (answer_in w.walk))
      (walker.concludes laws w (answer_in w.walk) (λ _. turned) refl (walker.marks v i turned there whole same (R.fits id v at)))

  pub faults_keep : (why : Fault) → FaultFits rows words why → Rule limit rows words (set views id (faulted v why)) hist
  faults_keep why met = let f = R.fits id v at in quiet R id v (faulted v why) at refl (λ p. refl) record {
    walk = f.walk;
    book = f.book;
    follows = f.follows;
    faults = λ i x there. ⊎_elim (λ (h : get_elem? v.faults i ≡ some x). f.faults i x h) (λ (h : why ≡ x). subst (FaultFits rows words) h met) (at_snoc v.faults why x i there);
  }

pub unloaded : LoadsTellNothing
unloaded limit rows words views hist id u v w at R walk book hold faults = let here = set_mine views id u v at in let f = R.fits id v here in
    subst (λ vs. Rule limit rows words vs hist) (set-set views id v w) (quiet R id v w here hold (λ p. ap (book_hits p) book) record {
      walk = subst (WalkFits limit rows words hist) (sym walk) f.walk;
      book = subst (BookFits limit hist) (sym book) f.book;
      follows = subst (λ (z : Walk × Book). Follows z.0 z.1) (λ i. (sym walk i, sym book i)) f.follows;
      faults = faults;
    })
