-- What an actor that walks without the lock does to its own view.
use Rattle.std.proofs.Common.{◌≡◌, ℕ, suc, ◌+◌, ◌-◌, ◌%◌, ◌<◌, ◌≢◌, Bool, true, false, List, [], ◌∷◌, ◌++◌, length, get_or, set, take, Option, Some, None, sym, refl, ap, ap₂, ◌∙◌, subst, ⊎_elim, inl, inr, arith, length-append, append-nil, true≢false, cond}
use mathlib.Core.Option.{some, some-ne-none}
use lib.ListN.{get_elem?}
use Rattle.dc_plain.specs.Facts.{told_by}
use Rattle.dc_plain.specs.Trees.{Tree}
use Rattle.dc_plain.specs.Requests.{Request, Answer}
use Rattle.dc_names.specs.declared.limits.TheConstants.{ROW_WORDS}
use Rattle.dc_plain.specs.FactLaws.{answer_told}
use Rattle.dc_events.specs.Views.{Note, Record, Walk, View}
use Rattle.dc_events.specs.Standing.{tree_of}
use Rattle.dc_events.specs.Rows.{base_of, count, words_from, row_words, note_words, IsWhole, Tells}
use Rattle.dc_events.specs.Rule.{NoteFits, BookFits, ViewFits, RowFits, view_hits}
use Rattle.dc_events.specs.Walks.{extended, walk_turned}
use Rattle.dc_events.specs.Noted.{facts_in, answer_in}
use Rattle.dc_events.specs.Effects.{begun, again, quit, noted, note_at, read, turned, pivoted, concluded, marked, with_seen}
use Rattle.dc_events.proofs.Records.{hits_snoc, no_hit, strand_snoc, take_whole}
use Rattle.dc_events.proofs.Below.{FactsBelow}
use Rattle.dc_events.proofs.Facts.{facts_true, answer_true}
use Rattle.dc_events.proofs.Words.{words_from-snoc}
use Rattle.dc_events.proofs.Holder.{walk_done, no_faults, book_sees}
use Rattle.atomic_table.proofs.Lists.{at_set, at_snoc}

-- a whole note whose count is its row's is the row
whole_note : {rows : ℕ} {words : List ℕ} (x : Note) → NoteFits rows words x → IsWhole x → x.count ≡ count words x.row → note_words x ≡ row_words words x.row
whole_note {rows} {words} x f whole e = let len : length x.words ≡ ROW_WORDS - 1 = omega arith in ap₂ (λ a b. a ∷ b) e (f.same e ∙ ap (words_from words (suc (base_of x.row))) len)

at_extended : {rows : ℕ} {words : List ℕ} (x : Note) (word : ℕ) → length x.words + 1 < ROW_WORDS → word ≡ get_or words (base_of x.row + (length x.words + 1)) 0 → x.checked ≡ false → NoteFits rows words x → NoteFits rows words (extended x word)
at_extended {rows} {words} x word short is plain f = let len : length (x.words ++ word ∷ []) ≡ suc (length x.words) = let l = length-append x.words (word ∷ []) in omega arith in record {
  inside = f.inside;
  few = omega arith;
  even = f.even;
  below = f.below;
  same = λ e. let k : ℕ = suc (base_of x.row) in let here : base_of x.row + (length x.words + 1) ≡ k + length x.words = omega arith in
      ap₂ (λ xs w. xs ++ w ∷ []) (f.same e) (is ∙ ap (λ j. get_or words j 0) here) ∙ sym (words_from-snoc words k (length x.words)) ∙ ap (words_from words k) (sym len);
  whole = λ ch. absurd (true≢false (sym ch ∙ plain));
}

-- an answer is of an unanswered call
if_busy : (w : Walk) (o : Option Answer) (b : Bool) → w.busy ≡ b → (cond b (answer_told (told_by (facts_in w.notes)) w.call) None) ≡ o → (reply : Answer) → o ≡ Some reply → (b ≡ true) × (answer_told (told_by (facts_in w.notes)) w.call ≡ Some reply)
if_busy w o true busy e reply is = (refl, e ∙ is)
if_busy w o false busy e reply is = absurd cc

module _ {limit rows : ℕ} {words : List ℕ} {hist : List Request} where
  -- no answer is due at a pivot
  unpivoted : {v : View} {w : Walk} {loads : ℕ} → ViewFits limit rows words hist v → w.pivoted ≡ false → ((i : ℕ) (x : Note) → get_elem? w.notes i ≡ some x → NoteFits rows words x)
      → ((i : ℕ) (x : Note) → get_elem? w.notes i ≡ some x → w.busy ≡ true → x.checked ≡ false) → ViewFits limit rows words hist (record v { walk = w; loads = loads })
  unpivoted f fresh notes plain = record {
    walk = record { noted = notes; bound = λ _ p. absurd (true≢false (sym p ∙ fresh)); told = λ _ p. absurd (true≢false (sym p ∙ fresh)); unchecked = λ b _ i x at. plain i x at b };
    book = f.book;
    follows = λ _ p. absurd (true≢false (sym p ∙ fresh));
    faults = f.faults;
  }

  pub begins : (v : View) (call : Request) → ViewFits limit rows words hist v → ViewFits limit rows words hist (begun v call)
  begins v call f = let g = unpivoted {v = v} {w = record { busy = true; call = call; notes = []; pivoted = false; pivot = 0 }} {loads = v.loads} f refl (λ i x e. absurd (some-ne-none x (sym e))) (λ i x e. absurd (some-ne-none x (sym e))) in
      record { walk = g.walk; book = g.book; follows = g.follows; faults = no_faults rows words }

  pub agains : (v : View) → ViewFits limit rows words hist v → ViewFits limit rows words hist (again v)
  agains v f = let g = unpivoted {v = v} {w = record v.walk { notes = []; pivoted = false; pivot = 0 }} {loads = v.loads} f refl (λ i x e. absurd (some-ne-none x (sym e))) (λ i x e. absurd (some-ne-none x (sym e))) in
      record { walk = g.walk; book = g.book; follows = g.follows; faults = no_faults rows words }

  pub quits : (v : View) → ViewFits limit rows words hist v → ViewFits limit rows words hist (quit v)
  quits v f = record { walk = walk_done limit rows words hist; book = f.book; follows = λ a _. absurd (true≢false (sym a)); faults = f.faults }

  pub notes : (v : View) (row found : ℕ) → row < rows → found ≡ count words row → found % 2 ≡ 0 → v.walk.pivoted ≡ false → ViewFits limit rows words hist v → ViewFits limit rows words hist (noted v row found)
  notes v row found inside is even fresh f = let one : Note = record { row = row; count = found; words = []; checked = false } in
      unpivoted {v = v} {w = record v.walk { notes = v.walk.notes ++ one ∷ [] }} {loads = v.loads + 1} f fresh
      (λ i x e. ⊎_elim (λ (h : get_elem? v.walk.notes i ≡ some x). f.walk.noted i x h) (λ (h : one ≡ x). subst (NoteFits rows words) h record { inside = inside; few = omega arith; even = even; below = omega arith; same = λ _. refl; whole = λ ch. absurd (true≢false (sym ch)) })
      (at_snoc v.walk.notes one x i e))
      (λ i x e b. ⊎_elim (λ (h : get_elem? v.walk.notes i ≡ some x). f.walk.unchecked b fresh i x h) (λ (h : one ≡ x). ap (λ (y : Note). y.checked) (sym h)) (at_snoc v.walk.notes one x i e))

  pub reads : (v : View) (word : ℕ) → let i = length v.walk.notes - 1 in let x = note_at v i in get_elem? v.walk.notes i ≡ some x → length x.words + 1 < ROW_WORDS → word ≡ get_or words (base_of x.row + (length x.words + 1)) 0
      → v.walk.busy ≡ true → v.walk.pivoted ≡ false → ViewFits limit rows words hist v → ViewFits limit rows words hist (read v word)
  reads v word there short is busy fresh f = let k : ℕ = length v.walk.notes - 1 in let x : Note = note_at v k in let plain = f.walk.unchecked busy fresh k x there in
      unpivoted {v = v} {w = record v.walk { notes = set v.walk.notes k (extended x word) }} {loads = v.loads + 1} f fresh
      (λ i y e. ⊎_elim (λ (h : (i ≡ k) × (extended x word ≡ y)). subst (NoteFits rows words) h.1 (at_extended x word short is plain (f.walk.noted k x there))) (λ (h : (i ≢ k) × (get_elem? v.walk.notes i ≡ some y)). f.walk.noted i y h.1) (at_set v.walk.notes k i (extended x word) y e))
      (λ i y e b. ⊎_elim (λ (h : (i ≡ k) × (extended x word ≡ y)). ap (λ (z : Note). z.checked) (sym h.1) ∙ plain) (λ (h : (i ≢ k) × (get_elem? v.walk.notes i ≡ some y)). f.walk.unchecked b fresh i y h.1) (at_set v.walk.notes k i (extended x word) y e))

  pub turns : (v : View) (clock : ℕ) → clock ≡ length hist → ((i : ℕ) → i < rows → RowFits (tree_of limit hist) words i) → (v.walk.busy ≡ true → v.walk.pivoted ≡ false) → ViewFits limit rows words hist v → ViewFits limit rows words hist (turned v clock)
  turns v clock is row fresh f = let s = f.book.seen in let point : (b : v.walk.busy ≡ true) → (walk_turned v.walk clock).pivot ≡ clock = λ b. ap (λ z. cond z clock 0) b in record {
    walk = record {
      noted = f.walk.noted;
      bound = λ b _. let p = point b in omega arith;
      told = λ b _ i x there c. let g = f.walk.noted i x there in let e : x.count ≡ count words x.row = ⊎_elim (λ (ch : x.checked ≡ true). absurd (true≢false (sym ch ∙ f.walk.unchecked b (fresh b) i x there))) (λ h. h) c.1 in
          subst (λ (z : List Request × List ℕ). Tells (tree_of limit z.0) z.1) (λ j. (sym (ap (λ z. take z hist) (point b ∙ is) ∙ take_whole hist) j, sym (whole_note x g c.0 e) j))
          ((row x.row g.inside).told (subst (λ z. z % 2 ≡ 0) e g.even));
      unchecked = λ b p. absurd (true≢false (sym b ∙ p));
    };
    book = subst (λ n. BookFits limit hist (with_seen v.book n)) (sym is) (book_sees limit hist v.book f.book);
    follows = λ b _. let w = f.book.own.within in let p = point b in (omega arith, omega arith);
    faults = f.faults;
  }

  pub marks : (v : View) (i : ℕ) → v.walk.pivoted ≡ true → get_elem? v.walk.notes i ≡ some (note_at v i) → IsWhole (note_at v i) → (note_at v i).count ≡ count words (note_at v i).row → ViewFits limit rows words hist v → ViewFits limit rows words hist (marked v i)
  marks v i turned there whole same f = let x : Note = note_at v i in let m : Note = record x { checked = true } in record {
    walk = record {
      noted = λ j y e. ⊎_elim (λ (h : (j ≡ i) × (m ≡ y)). let g = f.walk.noted i x there in subst (NoteFits rows words) h.1 record { inside = g.inside; few = g.few; even = g.even; below = g.below; same = g.same; whole = λ _. whole })
          (λ (h : (j ≢ i) × (get_elem? v.walk.notes j ≡ some y)). f.walk.noted j y h.1) (at_set v.walk.notes i j m y e);
      bound = f.walk.bound;
      told = λ b p j y e c. ⊎_elim (λ (h : (j ≡ i) × (m ≡ y)). subst (λ (z : Note). Tells (tree_of limit (take v.walk.pivot hist)) (note_words z)) h.1 (f.walk.told b p i x there (whole, inr same)))
          (λ (h : (j ≢ i) × (get_elem? v.walk.notes j ≡ some y)). f.walk.told b p j y h.1 c) (at_set v.walk.notes i j m y e);
      unchecked = λ _ p. absurd (true≢false (sym turned ∙ p));
    };
    book = f.book;
    follows = f.follows;
    faults = f.faults;
  }

  pub concludes : FactsBelow → (v : View) (o : Option Answer) → (v.walk.busy ≡ true → v.walk.pivoted ≡ true) → answer_in v.walk ≡ o → ViewFits limit rows words hist v → ViewFits limit rows words hist (concluded v o)
  concludes laws v None pivoted e f = f
  concludes laws v (Some reply) pivoted e f = let t : Tree = tree_of limit (take v.walk.pivot hist) in
      let so = if_busy v.walk (Some reply) v.walk.busy refl e reply refl in
      let h = answer_true laws limit t (facts_in v.walk.notes) v.walk.call reply (facts_true laws t v.walk.notes (λ i x there ch. f.walk.told so.0 (pivoted so.0) i x there ((f.walk.noted i x there).whole ch, inl ch))) so.1 in
      let p = f.follows so.0 (pivoted so.0) in let low = p.0 in let s = f.book.seen in let r : Record = record { call = v.walk.call; reply = reply; at = v.walk.pivot; altered = false } in record {
        walk = walk_done limit rows words hist;
        book = record {
          own = strand_snoc limit hist hist [] v.book.seen v.book.seen v.book.own r (sym (append-nil hist)) f.book.own record { within = omega arith; replied = h.0; altering = h.1; placed = λ a. absurd (true≢false (sym a)) } p.1 (omega arith);
          joined = f.book.joined;
          seen = f.book.seen;
        };
        follows = λ a _. absurd (true≢false (sym a));
        faults = f.faults;
      }

pub concluded_hits : (p : ℕ) (v : View) (o : Option Answer) → view_hits p (concluded v o) ≡ view_hits p v
concluded_hits p v None = refl
concluded_hits p v (Some reply) = let r : Record = record { call = v.walk.call; reply = reply; at = v.walk.pivot; altered = false } in let a = hits_snoc p v.book.own r in let z = no_hit p r refl in omega arith

pub concluded_hold : (v : View) (o : Option Answer) → (concluded v o).hold ≡ v.hold
concluded_hold v None = refl
concluded_hold v (Some reply) = refl
