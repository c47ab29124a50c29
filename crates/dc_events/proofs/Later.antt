-- What one actor knows stays so whatever the others do.
use Rattle.std.proofs.Common.{◌≡◌, ℕ, suc, ◌+◌, ◌%◌, ◌<◌, ◌≤◌, List, ◌++◌, length, get_or, take, sym, ap, ◌∙◌, subst, ⊎_elim, inl, inr, arith, length-append}
use Rattle.std.proofs.lemmas.List.{take-append-le}
use mathlib.Core.Option.{some}
use lib.ListN.{get_elem?}
use Rattle.dc_plain.specs.Requests.{Request}
use Rattle.dc_plain.specs.Runs.{reply_of, alters}
use Rattle.dc_names.specs.declared.limits.TheConstants.{ROW_WORDS}
use Rattle.dc_events.specs.Views.{Note, Record, Walk, Book, Fault, View}
use Rattle.dc_events.specs.Views.Fault.{Busy, Changed}
use Rattle.dc_events.specs.Standing.{tree_of, Stands}
use Rattle.dc_events.specs.Rows.{base_of, count, note_words, Tells}
use Rattle.dc_events.specs.Rule.{NoteFits, Counts, WalkFits, StrandFits, BookFits, FaultFits, ViewFits}
use Rattle.dc_events.proofs.Words.{words_from_same}
use Rattle.atomic_table.proofs.Lists.{at_longer}

-- the history and the counts grow, and a row whose even count is the same has the same words
pub record Later (rows : ℕ) (words : List ℕ) (hist : List Request) (words' : List ℕ) (hist' : List Request) : Type 0 where
  pub ext : List Request
  pub is : hist' ≡ hist ++ ext
  pub counts : (r : ℕ) → r < rows → count words r ≤ count words' r
  pub cells : (r : ℕ) → r < rows → count words r % 2 ≡ 0 → count words r ≡ count words' r → (j : ℕ) → base_of r < j → j < base_of r + ROW_WORDS → get_or words' j 0 ≡ get_or words j 0

pub take_later : (hist hist' ext : List Request) (k : ℕ) → hist' ≡ hist ++ ext → k ≤ length hist → take k hist' ≡ take k hist
take_later hist hist' ext k is le = ap (take k) is ∙ take-append-le k hist ext le

pub longer : (hist hist' ext : List Request) → hist' ≡ hist ++ ext → length hist ≤ length hist'
longer hist hist' ext is = let e : length hist' ≡ length hist + length ext = ap length is ∙ length-append hist ext in omega arith

module _ (limit : ℕ) (hist hist' ext : List Request) (is : hist' ≡ hist ++ ext) where
  pub stands_later : (r : Record) → Stands limit hist r → Stands limit hist' r
  stands_later r s = let same = take_later hist hist' ext r.at is s.within in let l = longer hist hist' ext is in let w = s.within in record {
    within = omega arith;
    replied = ap (λ h. reply_of limit (tree_of limit h) r.call) same ∙ s.replied;
    altering = ap (λ h. alters limit (tree_of limit h) r.call) same ∙ s.altering;
    placed = λ a. subst (λ h. get_elem? h r.at ≡ some r.call) (sym is) (at_longer hist ext r.at r.call (s.placed a));
  }

  pub strand_later : (seen : ℕ) (s : List Record) → StrandFits limit hist seen s → StrandFits limit hist' seen s
  strand_later seen s f = record { stand = λ i r at. stands_later r (f.stand i r at); rising = f.rising; within = f.within }

  pub book_later : (b : Book) → BookFits limit hist b → BookFits limit hist' b
  book_later b f = record {
    own = strand_later b.seen b.own f.own;
    joined = λ i s at. strand_later b.seen s (f.joined i s at);
    seen = let l = longer hist hist' ext is in let s = f.seen in omega arith;
  }

module _ {rows : ℕ} {words : List ℕ} {hist : List Request} {words' : List ℕ} {hist' : List Request} (L : Later rows words hist words' hist') where
  pub still : (x : Note) → NoteFits rows words x → x.count ≡ count words' x.row → x.count ≡ count words x.row
  still x f e = let a = f.below in let b = L.counts x.row f.inside in omega arith

  pub note_later : (x : Note) → NoteFits rows words x → NoteFits rows words' x
  note_later x f = record {
    inside = f.inside;
    few = f.few;
    even = f.even;
    below = let a = f.below in let b = L.counts x.row f.inside in omega arith;
    same = λ e. let now = still x f e in let few = f.few in let even : count words x.row % 2 ≡ 0 = subst (λ z. z % 2 ≡ 0) now f.even in
        f.same now ∙ sym (words_from_same words words' (suc (base_of x.row)) (length x.words) (λ j low high. L.cells x.row f.inside even (sym now ∙ e) j (omega arith) (omega arith)));
    whole = f.whole;
  }

  pub counts_before : (x : Note) → NoteFits rows words x → Counts words' x → Counts words x
  counts_before x f c = (c.0, ⊎_elim inl (λ e. inr (still x f e)) c.1)

  pub walk_later : (limit : ℕ) (w : Walk) → WalkFits limit rows words hist w → WalkFits limit rows words' hist' w
  walk_later limit w f = record {
    noted = λ i x at. note_later x (f.noted i x at);
    bound = λ busy pivoted. let b = f.bound busy pivoted in let l = longer hist hist' L.ext L.is in omega arith;
    told = λ busy pivoted i x at c. subst (λ h. Tells (tree_of limit h) (note_words x)) (sym (take_later hist hist' L.ext w.pivot L.is (f.bound busy pivoted)))
        (f.told busy pivoted i x at (counts_before x (f.noted i x at) c));
    unchecked = f.unchecked;
  }

  -- a count that was reached stays reached
  pub fault_later : (why : Fault) → FaultFits rows words why → FaultFits rows words' why
  fault_later (Busy row) f = f
  fault_later (Changed row noted found) f = let l = L.counts row f.0 in let reached = f.2 in (f.0, f.1, omega arith)

  pub view_later : (limit : ℕ) (v : View) → ViewFits limit rows words hist v → ViewFits limit rows words' hist' v
  view_later limit v f = record { walk = walk_later limit v.walk f.walk; book = book_later limit hist hist' L.ext L.is v.book f.book; follows = f.follows; faults = λ i why at. fault_later why (f.faults i why at) }
