-- A commit while the rows of the touched keys are odd.
use Rattle.std.proofs.Common.{◌≡◌, ℕ, ◌<◌, List, length, get_or, Option, Some, None, refl, sym, ap, ◌∙◌, subst, arith}
use Rattle.std.specs.List.{Contains}
use Rattle.std.proofs.Math.Logic.{∥∥₁_elim, ∥∥₁_map}
use mathlib.Core.HLevel.{⊥_prop}
use Rattle.std.proofs.lemmas.Option.{none-some, same_Some, slice_get-get_or}
use Rattle.dc_plain.specs.Facts.{Fact, Key, key_of}
use Rattle.dc_plain.specs.FactLaws.{UntouchedStay}
use Rattle.dc_plain.specs.Laws.{TouchesTheListed}
use Rattle.dc_plain.specs.Trees.{Tree, Holds}
use Rattle.dc_plain.specs.IsWellFormed.{IsWellFormed}
use Rattle.dc_plain.specs.Requests.{Request}
use Rattle.dc_plain.specs.Runs.{tree_after}
use Rattle.dc_plain.specs.TouchedKeys.{keys_touched}
use Rattle.dc_index.specs.Slots.{Slot, slot_of}
use Rattle.dc_index.specs.Slots.Slot.{Free, Retired, Holds as Held}
use Rattle.dc_shrink.specs.Listings.{Listing}
use Rattle.dc_row.specs.Spelling.{Spells}
use Rattle.dc_row.specs.Decoding.{SpelledIsRead}
use Rattle.dc_events.specs.Rows.{row_words, IsUntouched}
use Rattle.dc_table.specs.Rows.{At, Rest, IsOdd, IsEven, FitsSlot}
use Rattle.dc_rows.specs.Narrow.{ZeroFrom, most_words}
use Rattle.dc_rows.specs.Rows.{Between, Stage}
use Rattle.dc_rows.proofs.Narrow.{rest_narrow}
use Rattle.dc_rows.proofs.Shuts.{odd_even}

-- words spell one fact
pub one_fact : SpelledIsRead → (words : List ℕ) (a b : Option Fact) → Spells words a → Spells words b → a ≡ b
one_fact read words a b s t = same_Some a b (sym (read words a s) ∙ read words b t)

pub among : (keys : List Key) (n : ℕ) → n ≡ length keys → (key : Key) → Contains keys key → Between 0 n keys key
among keys n len key c = let l = c.1 in (c.0, omega arith, omega arith, slice_get-get_or keys c.0 key c.1 ∙ ap Some c.2)

-- an even row tells of none of the keys
by_slot : SpelledIsRead → (t : Tree) (shut : Key → Type 0) (row : List ℕ) (slot : Slot) → ((key : Key) → slot ≡ Held key → shut key → IsOdd row) → IsEven row → FitsSlot t row slot → (fact : Fact) → Spells row (Some fact) → shut (key_of fact) → ⊥
by_slot read t shut row Free odd even fits fact s among = none-some fact (one_fact read row None (Some fact) fits s)
by_slot read t shut row Retired odd even fits fact s among = none-some fact (one_fact read row None (Some fact) fits s)
by_slot read t shut row (Held key) odd even fits fact s among =
    let same : fits.fact ≡ fact = same_Some fits.fact fact (one_fact read row (Some fits.fact) (Some fact) fits.spelled s) in
    odd_even (get_or row 0 0) (odd key refl (subst shut (ap key_of (sym same) ∙ fits.about) among)).0 even

-- what an even row tells stays true
after_slot : (t u : Tree) (row : List ℕ) (slot : Slot) → ((fact : Fact) → Spells row (Some fact) → Holds t fact → Holds u fact) → FitsSlot t row slot → FitsSlot u row slot
after_slot t u row Free stays fits = fits
after_slot t u row Retired stays fits = fits
after_slot t u row (Held key) stays fits = record { fact = fits.fact; about = fits.about; now = stays fits.fact fits.spelled fits.now; spelled = fits.spelled }

module _ (read : SpelledIsRead) (touches : TouchesTheListed) (limit : ℕ) (t : Tree) (well : IsWellFormed t) (rows : ℕ) (words : List ℕ) (slots : List Slot) (used : Listing) (keys : List Key) (n : ℕ) (len : n ≡ length keys)
    (request : Request) (touched : keys ≡ keys_touched limit t request) (s : Stage t rows words slots used 0 n keys) where
  pub apart : (row : ℕ) → row < rows → IsUntouched limit t words row request
  apart row l even fact sp touch = let a = s.rest row l in
      ∥∥₁_elim (a.fits even) ⊥_prop (λ fits. by_slot read t (Between 0 n keys) (row_words words row) (slot_of slots row) a.odd even fits fact sp
      (among keys n len (key_of fact) (subst (λ ks. Contains ks (key_of fact)) (sym touched) ((touches limit t request well (key_of fact)).0 touch))))

  pub committed_stage : UntouchedStay → (u : Tree) (ws : List ℕ) → u ≡ tree_after limit t request → ((row : ℕ) → row_words ws row ≡ row_words words row) → length ws ≡ length words → Stage u rows ws slots used 0 n keys
  committed_stage stay u ws eu same size = subst (λ z. Stage z rows ws slots used 0 n keys) (sym eu) record {
    fit = record { indexed = s.fit.indexed; listed = s.fit.listed; agree = s.fit.agree; size = size ∙ s.fit.size };
    rest = λ row l. subst (λ (r : List ℕ). At (tree_after limit t request) (Between 0 n keys) r (slot_of slots row)) (sym (same row)) (let a = s.rest row l in record {
      odd = a.odd;
      even = a.even;
      fits = λ even. ∥∥₁_map (a.fits even) (after_slot t (tree_after limit t request) (row_words words row) (slot_of slots row)
          (λ fact sp now. stay limit t request fact well now (apart row l even fact sp)));
      ended = a.ended;
    });
    narrow = λ row l. subst (ZeroFrom (most_words (slot_of slots row))) (sym (same row)) (s.narrow row l);
  }

pub to_rest : (t : Tree) (rows : ℕ) (words : List ℕ) (slots : List Slot) (used : Listing) (n : ℕ) (keys : List Key) → Stage t rows words slots used n n keys → Rest t rows words slots used
to_rest t rows words slots used n keys s = record {
  fit = s.fit;
  rest = λ row l. let a = s.rest row l in record { odd = λ key e never. absurd never; even = λ none. a.even (λ key e b. let below = b.2 in let above = b.1 in omega arith); fits = a.fits; ended = a.ended };
}

-- before the first key is shut
pub from_rest : (t : Tree) (rows : ℕ) (words : List ℕ) (slots : List Slot) (used : Listing) (keys : List Key) → Rest t rows words slots used → Stage t rows words slots used 0 0 keys
from_rest t rows words slots used keys r = record {
  fit = r.fit;
  rest = λ row l. let a = r.rest row l in record { odd = λ key e b. let below = b.2 in absurd (omega arith); even = λ none. a.even (λ key e never. absurd never); fits = a.fits; ended = a.ended };
  narrow = rest_narrow t rows words slots used r;
}
