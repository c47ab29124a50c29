-- Each event keeps the rule, a new table has it, and records under it are legal.
use Rattle.std.specs.Prelude.{◌≡◌, ◌≢◌, ℕ, ◌+◌, ◌-◌, ◌%◌, ◌<◌, ◌≤◌, true, false, List, [], ◌∷◌, ◌++◌, length, get_or, set, replicate, None}
use mathlib.Core.Option.{some}
use lib.ListN.{get_elem?}
use Rattle.dc_plain.specs.FactLaws.{UntouchedStay}
use Rattle.dc_plain.specs.IsWellFormed.{IsWellFormed}
use Rattle.dc_plain.specs.Laws.{KeepsRunsWellFormed}
use Rattle.dc_plain.specs.Requests.{Request}
use Rattle.dc_plain.specs.Trees.{empty_tree}
use Rattle.dc_plain.specs.Runs.{alters}
use Rattle.dc_row.specs.Spelling.{Spells}
use Rattle.dc_names.specs.declared.limits.TheConstants.{ROW_WORDS}
use Rattle.dc_events.specs.Views.{Record, Fault, View}
use Rattle.dc_events.specs.Standing.{tree_of, Stands, Rising, all_hits}
use Rattle.dc_events.specs.Rows.{most, base_of, count, row_words, Tells, IsWhole, opening_words, IsUntouched}
use Rattle.dc_events.specs.Rule.{Rule, AllEven, FaultFits, FaultsFit, once_below}
use Rattle.dc_events.specs.Effects.{begun, again, quit, taken, wrote, committed, gave, answered, noted, note_at, read, pivoted, checked, faulted, nobody}
use Rattle.dc_events.specs.Passes.{newcomer, joined_with}
use Rattle.dc_events.specs.Legal.{Legal}

-- what is so of each actor's view under the rule
abbrev pub Seated : ((limit rows : ℕ) (words : List ℕ) (views : List View) (hist : List Request) (id : ℕ) (v : View) → Type 0) → Type 0
Seated So = (limit rows : ℕ) (words : List ℕ) (views : List View) (hist : List Request) (id : ℕ) (v : View) → Rule limit rows words views hist → get_elem? views id ≡ some v → So limit rows words views hist id v

abbrev pub Counted : List ℕ → ℕ → List ℕ
Counted words row = set words (base_of row) (count words row + 1)

-- the events of the lock and of its holder
pub record HoldersKeepTheRule : Type 0 where
  pub take : Seated (λ limit rows words views hist id v. get_or words 1 0 ≡ 0 → Rule limit rows (set words 1 1) (set views id (taken v (set words 1 1) hist)) hist)
  pub shut : Seated (λ limit rows words views hist id v. v.hold.holds ≡ true → (row : ℕ) → row < rows → count words row % 2 ≡ 0 → count words row < most
      → Rule limit rows (Counted words row) (set views id (wrote v (base_of row) (count words row + 1))) hist)
  pub write : Seated (λ limit rows words views hist id v. v.hold.holds ≡ true → (row : ℕ) → row < rows → (i x : ℕ) → 0 < i → i < ROW_WORDS → count words row % 2 ≡ 1
      → Rule limit rows (set words (base_of row + i) x) (set views id (wrote v (base_of row + i) x)) hist)
  pub open_row : Seated (λ limit rows words views hist id v. v.hold.holds ≡ true → (row : ℕ) → row < rows → count words row % 2 ≡ 1 → Tells (tree_of limit hist) (row_words words row)
      → (count words row + 1 ≡ most → Spells (row_words words row) None) → count words row + 1 ≤ most → Rule limit rows (Counted words row) (set views id (wrote v (base_of row) (count words row + 1))) hist)
  pub commit : Seated (λ limit rows words views hist id v. v.hold.holds ≡ true → (call : Request) → alters limit (tree_of limit hist) call ≡ true → length hist < most
      → ((i : ℕ) → i < rows → IsUntouched limit (tree_of limit hist) words i call) → Rule limit rows (set words 0 (length v.hold.history + 1)) (set views id (committed limit v call)) (hist ++ call ∷ []))
  pub give : Seated (λ limit rows words views hist id v. v.hold.holds ≡ true → AllEven rows words → Rule limit rows (set words 1 0) (set views id (gave v)) hist)
  pub answer : Seated (λ limit rows words views hist id v. v.hold.holds ≡ true → AllEven rows words → (call : Request) → alters limit (tree_of limit hist) call ≡ false
      → Rule limit rows (set words 1 0) (set views id (answered limit v call)) hist)

-- the events of a walk, which write no word
pub record WalkersKeepTheRule : Type 0 where
  pub begin : Seated (λ limit rows words views hist id v. (call : Request) → Rule limit rows words (set views id (begun v call)) hist)
  pub again_so : Seated (λ limit rows words views hist id v. Rule limit rows words (set views id (again v)) hist)
  pub quit_so : Seated (λ limit rows words views hist id v. Rule limit rows words (set views id (quit v)) hist)
  pub note : Seated (λ limit rows words views hist id v. (row : ℕ) → row < rows → count words row % 2 ≡ 0 → v.walk.pivoted ≡ false → Rule limit rows words (set views id (noted v row (count words row))) hist)
  pub read_so : Seated (λ limit rows words views hist id v. let x = note_at v (length v.walk.notes - 1) in get_elem? v.walk.notes (length v.walk.notes - 1) ≡ some x → length x.words + 1 < ROW_WORDS
      → v.walk.busy ≡ true → v.walk.pivoted ≡ false → Rule limit rows words (set views id (read v (get_or words (base_of x.row + (length x.words + 1)) 0))) hist)
  pub pivot : Seated (λ limit rows words views hist id v. (v.walk.busy ≡ true → v.walk.pivoted ≡ false) → Rule limit rows words (set views id (pivoted v (get_or words 0 0))) hist)
  pub check : Seated (λ limit rows words views hist id v. (i : ℕ) → v.walk.pivoted ≡ true → get_elem? v.walk.notes i ≡ some (note_at v i) → IsWhole (note_at v i) → (note_at v i).count ≡ count words (note_at v i).row
      → Rule limit rows words (set views id (checked v i)) hist)
  pub fault : Seated (λ limit rows words views hist id v. (why : Fault) → FaultFits rows words why → Rule limit rows words (set views id (faulted v why)) hist)

-- the rule says nothing of loads, and of faults only that they fit
abbrev pub LoadsTellNothing : Type 0
LoadsTellNothing = (limit rows : ℕ) (words : List ℕ) (views : List View) (hist : List Request) (id : ℕ) (u v w : View) → get_elem? views id ≡ some u
    → Rule limit rows words (set views id v) hist → w.walk ≡ v.walk → w.book ≡ v.book → w.hold ≡ v.hold → FaultsFit rows words w.faults → Rule limit rows words (set views id w) hist

-- the steps of passes, which change views alone
pub record PassesKeepTheRule : Type 0 where
  pub split : Seated (λ limit rows words views hist id v. Rule limit rows words (views ++ newcomer v ∷ []) hist)
  pub join : Seated (λ limit rows words views hist id v. (other : ℕ) (w : View) → other ≢ id → get_elem? views other ≡ some w → w.hold.holds ≡ false
      → Rule limit rows words (set (set views id (joined_with v w)) other nobody) hist)

-- what is known of every plain tree
pub record TreeLaws : Type 0 where
  pub opening : IsWellFormed empty_tree
  pub runs : KeepsRunsWellFormed
  pub stay : UntouchedStay

-- empty rows, a free lock, the clock 0, and no actor that did anything
abbrev pub NewTablesHaveTheRule : Type 0
NewTablesHaveTheRule = (limit rows actors : ℕ) → Rule limit rows (opening_words rows) (replicate actors nobody) []

-- records that stand in one history, in strands that rise, and of which each call of the history has just one
abbrev pub RecordsAreLegal : Type 0
RecordsAreLegal = (limit : ℕ) (hist : List Request) (strands : List (List Record)) → ((i : ℕ) (s : List Record) → get_elem? strands i ≡ some s → (j : ℕ) (r : Record) → get_elem? s j ≡ some r → Stands limit hist r)
    → ((i : ℕ) (s : List Record) → get_elem? strands i ≡ some s → Rising 0 s) → ((p : ℕ) → all_hits p strands ≡ once_below p (length hist)) → Legal limit strands
