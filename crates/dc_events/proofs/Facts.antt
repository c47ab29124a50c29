-- What true facts give, and which of them stay true.
use Rattle.std.proofs.Common.{◌≡◌, ℕ, suc, ◌+◌, ◌%◌, ◌≤◌, ◌<◌, Bool, true, false, not, List, [], ◌∷◌, get_or, Option, Some, None, refl, sym, ap, ◌∙◌, subst, arith}
use Rattle.std.specs.List.{AllByRecursion}
use mathlib.Core.Option.{some}
use lib.ListN.{get_elem?}
use Rattle.dc_plain.specs.Facts.{Fact, told_by}
use Rattle.dc_plain.specs.Requests.{Request, Answer}
use Rattle.dc_plain.specs.Trees.{Tree, Holds as IsTrueIn}
use Rattle.dc_plain.specs.IsWellFormed.{IsWellFormed}
use Rattle.dc_plain.specs.Runs.{reply_of, tree_after, alters, Touches}
use Rattle.dc_row.specs.Spelling.{Spells}
use Rattle.dc_names.specs.declared.limits.TheConstants.{ROW_WORDS}
use Rattle.dc_plain.specs.FactLaws.{answer_told}
use Rattle.dc_plain.specs.Facts.{key_of}
use Rattle.dc_events.specs.Laws.{TreeLaws}
use Rattle.dc_events.specs.Views.{Note}
use Rattle.dc_events.specs.Rows.{base_of, count, row_words, IfFact, Tells, note_words, IsUntouched}
use Rattle.dc_events.specs.Rule.{RowFits}
use Rattle.dc_events.specs.Noted.{with_fact, facts_if, facts_in}
use Rattle.dc_events.proofs.Below.{FactsBelow}
use Rattle.dc_events.proofs.Words.{row_words_same}

added : (t : Tree) (fact : Option Fact) (facts : List Fact) → IfFact t fact → AllByRecursion (IsTrueIn t) facts → AllByRecursion (IsTrueIn t) (with_fact (Some fact) facts)
added t None facts h all = all
added t (Some fact) facts h all = (h, all)

added_if : FactsBelow → (t : Tree) (words : List ℕ) (facts : List Fact) (b : Bool) → (b ≡ true → Tells t words) → AllByRecursion (IsTrueIn t) facts → AllByRecursion (IsTrueIn t) (facts_if b words facts)
added_if laws t words facts true told all = let s = told refl in subst (λ r. AllByRecursion (IsTrueIn t) (with_fact r facts)) (sym (laws.read words s.fact s.spells)) (added t s.fact facts s.holds all)
added_if laws t words facts false told all = all

-- the facts of the checked notes are true if each of these notes tells the tree
pub facts_true : FactsBelow → (t : Tree) (xs : List Note) → ((i : ℕ) (x : Note) → get_elem? xs i ≡ some x → x.checked ≡ true → Tells t (note_words x)) → AllByRecursion (IsTrueIn t) (facts_in xs)
facts_true laws t [] trust = tt
facts_true laws t (x ∷ xs) trust = added_if laws t (note_words x) (facts_in xs) x.checked (trust 0 x refl) (facts_true laws t xs (λ i. trust (suc i)))

-- an answer from true facts is the call's, which alters nothing
pub answer_true : FactsBelow → (limit : ℕ) (t : Tree) (facts : List Fact) (call : Request) (reply : Answer) → AllByRecursion (IsTrueIn t) facts → answer_told (told_by facts) call ≡ Some reply → (reply_of limit t call ≡ reply) × (alters limit t call ≡ false)
answer_true laws limit t facts call reply all e = let o = laws.replies limit t facts call reply all e in (ap (λ (d : Answer × Tree). d.0) o, ap not ((laws.same (tree_after limit t call) t).1 (ap (λ (d : Answer × Tree). d.1) o)))

still_so : TreeLaws → (limit : ℕ) (t : Tree) (call : Request) (words : List ℕ) (fact : Option Fact) → IsWellFormed t → Spells words fact → IfFact t fact
    → ((f : Fact) → Spells words (Some f) → Touches limit t call (key_of f) → ⊥) → IfFact (tree_after limit t call) fact
still_so laws limit t call words None well spells h apart = tt
still_so laws limit t call words (Some fact) well spells h apart = laws.stay limit t call fact well h (apart fact spells)

-- a row that no touched key is in still tells the tree
pub tells_still : TreeLaws → (limit : ℕ) (t : Tree) (words : List ℕ) (row : ℕ) (call : Request) → IsWellFormed t → count words row % 2 ≡ 0 → IsUntouched limit t words row call → Tells t (row_words words row) → Tells (tree_after limit t call) (row_words words row)
tells_still laws limit t words row call well even apart s = record { fact = s.fact; spells = s.spells; holds = still_so laws limit t call (row_words words row) s.fact well s.spells s.holds (apart even) }

-- a row whose words are the same fits as before
pub row_fits_same : (t t' : Tree) (words words' : List ℕ) (row : ℕ) → ((j : ℕ) → base_of row ≤ j → j < base_of row + ROW_WORDS → get_or words' j 0 ≡ get_or words j 0)
    → (count words row % 2 ≡ 0 → Tells t (row_words words row) → Tells t' (row_words words row)) → RowFits t words row → RowFits t' words' row
row_fits_same t t' words words' row same still f = let c : count words' row ≡ count words row = same (base_of row) (omega arith) (omega arith) in let r = row_words_same words words' row same in record {
  below = let b = f.below in omega arith;
  told = λ even. let even' : count words row % 2 ≡ 0 = subst (λ z. z % 2 ≡ 0) c even in subst (Tells t') (sym r) (still even' (f.told even'));
  spent = λ full. subst (λ ws. Spells ws None) (sym r) (f.spent (sym c ∙ full));
}
