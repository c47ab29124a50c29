-- The rows and the facts of checked notes, one note after the other.
use Rattle.std.proofs.Common.{◌≡◌, ℕ, zero, suc, ◌+◌, ◌<◌, ◌≤◌, Bool, true, false, List, [], ◌∷◌, ◌++◌, length, get_or, set, map, drop, Option, Some, None, IsTrue, refl, sym, ap, ◌∙◌, append_assoc, arith}
use Rattle.std.proofs.lemmas.List.{drop_more}
use Rattle.dc_plain.specs.Facts.{Fact}
use Rattle.dc_row.specs.Rows.{row_shown}
use Rattle.dc_row.specs.Spelling.{Spells, has_spelling}
use Rattle.dc_row.specs.declared.row.Row.{Row}
use Rattle.dc_row.specs.Decoding.{SpelledIsRead, fact_in}
use Rattle.dc_events.specs.Views.{Note}
use Rattle.dc_events.specs.Rows.{note_words}
use Rattle.dc_events.specs.Noted.{with_fact, facts_if, facts_in}
use Rattle.dc_events.specs.Walks.{no_note}
use Rattle.dc_core.specs.Shown.{note_shown}
use Rattle.dc_core.specs.Told.{AreSpelled, AreRows, facts_told}
use Rattle.dc_core.specs.declared.actor.Note as rust_note

front : (o : Option Fact) (l m n : List Fact) → l ≡ m ++ n → with_fact (Some o) l ≡ with_fact (Some o) m ++ n
front None l m n e = e
front (Some fact) l m n e = ap (λ z. fact ∷ z) e

pub facts_told-snoc : (rs : List Row) (r : Row) → facts_told (rs ++ r ∷ []) ≡ facts_told rs ++ with_fact (Some (row_shown r)) []
facts_told-snoc [] r = refl
facts_told-snoc (x ∷ xs) r = front (row_shown x) (facts_told (xs ++ r ∷ [])) (facts_told xs) (with_fact (Some (row_shown r)) []) (facts_told-snoc xs r)

pub are_rows-snoc : (rs : List Row) (r : Row) → AreRows rs → IsTrue (has_spelling (row_shown r)) → AreRows (rs ++ r ∷ [])
are_rows-snoc [] r all is = (is, tt)
are_rows-snoc (x ∷ xs) r all is = (all.0, are_rows-snoc xs r all.1 is)

fact_front : (o : Option (Option Fact)) (rest : List Fact) → with_fact o rest ≡ with_fact o [] ++ rest
fact_front None rest = refl
fact_front (Some None) rest = refl
fact_front (Some (Some fact)) rest = refl

if_front : (b : Bool) (ws : List ℕ) (rest : List Fact) → facts_if b ws rest ≡ facts_if b ws [] ++ rest
if_front true ws rest = fact_front (fact_in ws) rest
if_front false ws rest = refl

-- the words of a note that has its count
pub counted_words : (ws : List ℕ) → 1 ≤ length ws → get_or ws 0 0 ∷ drop 1 ws ≡ ws
counted_words [] some = absurd (omega arith)
counted_words (w ∷ ws) some = refl

-- the words spell the row that was decoded
pub row_told : SpelledIsRead → (x : rust_note.Note) (row : Row) → 1 ≤ length x.words.items → Spells x.words.items (row_shown row) → facts_if true (note_words (note_shown x)) [] ≡ with_fact (Some (row_shown row)) []
row_told read x row some s = ap (λ ws. with_fact (fact_in ws) []) (counted_words x.words.items some) ∙ ap (λ o. with_fact o []) (read x.words.items (row_shown row) s)

-- one note more
pub told_on : (rows rows' : List Row) (notes : List rust_note.Note) (i : ℕ) (x : rust_note.Note) → i < length notes → x ≡ get_or notes i x
    → facts_told rows ++ facts_in (map note_shown (drop i notes)) ≡ facts_in (map note_shown notes) → facts_told rows' ≡ facts_told rows ++ facts_if (note_shown x).checked (note_words (note_shown x)) []
    → facts_told rows' ++ facts_in (map note_shown (drop (i + 1) notes)) ≡ facts_in (map note_shown notes)
told_on rows rows' notes i x less is inv more =
    let rest = facts_in (map note_shown (drop (i + 1) notes)) in
    ap (λ l. l ++ rest) more ∙ append_assoc (facts_told rows) (facts_if x.checked (note_words (note_shown x)) []) rest
    ∙ ap (λ l. facts_told rows ++ l) (sym (if_front x.checked (note_words (note_shown x)) rest))
    ∙ ap (λ l. facts_told rows ++ facts_in (map note_shown l)) (sym (drop_more notes i x less ∙ ap (λ z. z ∷ drop (i + 1) notes) (sym is))) ∙ inv

pub spelled_here : (notes : List rust_note.Note) (i : ℕ) (x : rust_note.Note) → i < length notes → x ≡ get_or notes i x → AreSpelled (map note_shown (drop i notes))
    → (x.checked ≡ true → (fact : Option Fact) × Spells (note_words (note_shown x)) fact) × AreSpelled (map note_shown (drop (i + 1) notes))
spelled_here notes i x less is all = Rattle.std.proofs.Common.subst (λ l. AreSpelled (map note_shown l)) (drop_more notes i x less ∙ ap (λ z. z ∷ drop (i + 1) notes) (sym is)) all

-- a mark that is taken back
pub unmarked : (l : List Note) (i : ℕ) → i < length l → (get_or l i no_note).checked ≡ false
    → set (set l i (record (get_or l i no_note) { checked = true })) i (record (get_or (set l i (record (get_or l i no_note) { checked = true })) i no_note) { checked = false }) ≡ l
unmarked [] i less e = absurd (omega arith)
unmarked (x ∷ xs) zero less e = λ k. record x { checked = sym e k } ∷ xs
unmarked (x ∷ xs) (suc i) less e = ap (λ l. x ∷ l) (unmarked xs i (omega arith) e)

-- one row more
pub one_told : SpelledIsRead → (old new : List Row) (row : Row) (x : rust_note.Note) → new ≡ old ++ row ∷ [] → x.checked ≡ true → 1 ≤ length x.words.items → Spells x.words.items (row_shown row)
    → facts_told new ≡ facts_told old ++ facts_if (note_shown x).checked (note_words (note_shown x)) []
one_told read old new row x items on some spells =
    ap facts_told items ∙ facts_told-snoc old row ∙ ap (λ l. facts_told old ++ l) (sym (ap (λ b. facts_if b (note_words (note_shown x)) []) on ∙ row_told read x row some spells))
