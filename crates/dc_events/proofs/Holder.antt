-- The steps of the actor that has the lock, gets it or gives it.
use Rattle.std.proofs.Common.{◌≡◌, ℕ, ◌+◌, ◌%◌, ◌<◌, ◌≤◌, ◌≢◌, ◌⊎◌, true, false, List, [], ◌∷◌, ◌++◌, length, get_or, set, sym, refl, ap, ◌∙◌, subst, ⊎_elim, inl, inr, arith, length-append, append-nil, length-set, get_or-set_same, get_or-set_other, true≢false, le_refl}
use mathlib.Core.Logic.{dite}
use mathlib.Core.Option.{some, some-ne-none}
use native.Mathlib.Decide.{ℕ_discrete}
use lib.ListN.{get_elem?}
use Rattle.dc_plain.specs.Requests.{Request}
use Rattle.dc_plain.specs.Runs.{alters}
use Rattle.dc_names.specs.declared.limits.TheConstants.{ROW_WORDS}
use Rattle.dc_events.specs.Views.{Record, Book, View}
use Rattle.dc_events.specs.Standing.{tree_of, Stands, weight, after}
use Rattle.dc_events.specs.Rows.{most, base_of, count, row_words, Tells, IsUntouched}
use Rattle.dc_events.specs.Rule.{WalkFits, BookFits, FaultsFit, RowFits, once_below, AllEven, Rule}
use Rattle.dc_events.specs.Walks.{no_walk}
use Rattle.dc_events.specs.Effects.{taken, wrote, record_of, committed, gave, answered, with_seen, with_record}
use Rattle.dc_events.specs.Laws.{TreeLaws}
use Rattle.dc_events.proofs.Later.{Later, view_later, walk_later, book_later, fault_later}
use Rattle.dc_events.proofs.Records.{tree_of-snoc, well_formed, stands_now, stands_committed, hits_snoc, strand_snoc, strand_more, no_hit, hit_here}
use Rattle.dc_events.proofs.Facts.{tells_still, row_fits_same}
use Rattle.dc_events.proofs.Steps.{alone}

nothing_new : (rows : ℕ) (words words' : List ℕ) (hist : List Request) → ((k : ℕ) → 2 ≤ k → get_or words' k 0 ≡ get_or words k 0) → Later rows words hist words' hist
nothing_new rows words words' hist same = record {
  ext = [];
  is = sym (append-nil hist);
  counts = λ r l. let e = same (base_of r) (omega arith) in omega arith;
  cells = λ r l even e j low high. same j (omega arith);
}

pub book_sees : (limit : ℕ) (hist : List Request) (b : Book) → BookFits limit hist b → BookFits limit hist (with_seen b (length hist))
book_sees limit hist b f = let s = f.seen in record {
  own = strand_more limit hist b.seen (length hist) b.own s f.own;
  joined = λ i x at. strand_more limit hist b.seen (length hist) x s (f.joined i x at);
  seen = le_refl (length hist);
}

-- no call, no notes
pub walk_done : (limit rows : ℕ) (words : List ℕ) (hist : List Request) → WalkFits limit rows words hist no_walk
walk_done limit rows words hist = record { noted = λ i x e. absurd (some-ne-none x (sym e)); bound = λ a _. absurd (true≢false (sym a)); told = λ a _. absurd (true≢false (sym a)); unchecked = λ a _. absurd (true≢false (sym a)) }

pub no_faults : (rows : ℕ) (words : List ℕ) → FaultsFit rows words []
no_faults rows words i why e = absurd (some-ne-none why (sym e))

module _ {limit rows : ℕ} {words : List ℕ} {views : List View} {hist : List Request} (R : Rule limit rows words views hist) (id : ℕ) (v : View) (at : get_elem? views id ≡ some v) where
  pub others_free : v.hold.holds ≡ true → (j : ℕ) (u : View) → j ≢ id → get_elem? views j ≡ some u → u.hold.holds ≡ true → ⊥
  others_free has j u other there has' = other ((R.held j u there has').here ∙ sym (R.held id v at has).here)

  -- a word of a row is written: its count, to a greater number, or another word while the count is odd
  pub writes : v.hold.holds ≡ true → (row i k x : ℕ) → row < rows → i < ROW_WORDS → k ≡ base_of row + i → ((i ≡ 0) × (count words row < x)) ⊎ ((0 < i) × (count words row % 2 ≡ 1))
      → RowFits (tree_of limit hist) (set words k x) row → Rule limit rows (set words k x) (set views id (wrote v k x)) hist
  writes has row i k x inside less is how fits = let H = R.held id v at has in let wide = R.wide in
      let len : k < length words = omega arith in
      let other_words : (z : ℕ) → z ≢ k → get_or (set words k x) z 0 ≡ get_or words z 0 = λ z ne. get_or-set_other words k z x 0 ne in
      let L : Later rows words hist (set words k x) hist = record {
        ext = [];
        is = sym (append-nil hist);
        counts = λ r l. dite (ℕ_discrete (base_of r) k)
            (λ e. ⊎_elim (λ (h : (i ≡ 0) × (count words row < x)). let now : get_or (set words k x) (base_of r) 0 ≡ x = ap (λ z. get_or (set words k x) z 0) e ∙ get_or-set_same words k x 0 len in
            let same : r ≡ row = omega arith in let less : count words r < x = subst (λ z. count words z < x) (sym same) h.1 in omega arith) (λ (h : (0 < i) × (count words row % 2 ≡ 1)). absurd (omega arith)) how)
            (λ ne. let s = other_words (base_of r) ne in omega arith);
        cells = λ r l even e j low high. other_words j (λ hit. let same : r ≡ row = omega arith in ⊎_elim (λ (h : (i ≡ 0) × (count words row < x)). omega arith)
            (λ (h : (0 < i) × (count words row % 2 ≡ 1)). let odd : count words r % 2 ≡ 1 = subst (λ z. count words z % 2 ≡ 1) (sym same) h.1 in omega arith) how);
      } in
      alone R id v (wrote v k x) at (set words k x) hist (others_free has) L (other_words 0 (λ e. omega arith) ∙ R.clock) R.early (length-set words k x)
      (λ r l. dite (ℕ_discrete r row) (λ same. subst (λ z. RowFits (tree_of limit hist) (set words k x) z) (sym same) fits)
      (λ ne. row_fits_same (tree_of limit hist) (tree_of limit hist) words (set words k x) r (λ j low high. other_words j (λ e. ne (omega arith))) (λ _ told. told) (R.row r l)))
      (inr (other_words 1 (λ e. omega arith) ∙ H.locked, has, H.knows_history, ap (λ l. set l k x) H.knows_words))
      (λ p. refl) (let f = view_later L limit v (R.fits id v at) in record { walk = f.walk; book = f.book; follows = f.follows; faults = f.faults })

  set_high : (k x : ℕ) → k < 2 → (z : ℕ) → 2 ≤ z → get_or (set words k x) z 0 ≡ get_or words z 0
  set_high k x l z m = get_or-set_other words k z x 0 (λ e. omega arith)

  -- a word of no row is written, the clock or the lock
  same_rows : (k x : ℕ) (hist' : List Request) → k < 2 → ((i : ℕ) → i < rows → count words i % 2 ≡ 0 → Tells (tree_of limit hist) (row_words words i) → Tells (tree_of limit hist') (row_words words i))
      → (i : ℕ) → i < rows → RowFits (tree_of limit hist') (set words k x) i
  same_rows k x hist' low still i l = row_fits_same (tree_of limit hist) (tree_of limit hist') words (set words k x) i (λ j from _. set_high k x low j (omega arith)) (still i l) (R.row i l)

  even_still : (k x : ℕ) → k < 2 → AllEven rows words → AllEven rows (set words k x)
  even_still k x l even r inside = let e = set_high k x l (base_of r) (omega arith) in subst (λ z. z % 2 ≡ 0) (sym e) (even r inside)

  pub takes : get_or words 1 0 ≡ 0 → Rule limit rows (set words 1 1) (set views id (taken v (set words 1 1) hist)) hist
  takes is_free = let wide = R.wide in let now : get_or (set words 1 1) 1 0 ≡ 1 = get_or-set_same words 1 1 0 (omega arith) in
      let L = nothing_new rows words (set words 1 1) hist (set_high 1 1 (omega arith)) in let f = R.fits id v at in
      alone R id v (taken v (set words 1 1) hist) at (set words 1 1) hist (λ j u _ there has. let l = (R.held j u there has).locked in omega arith) L (get_or-set_other words 1 0 1 0 (λ e. omega arith) ∙ R.clock) R.early (length-set words 1 1)
      (same_rows 1 1 hist (omega arith) (λ i _ _ h. h)) (inr (now, refl, refl, refl)) (λ p. refl)
      record { walk = walk_later L limit v.walk f.walk; book = book_sees limit hist v.book f.book; follows = λ a b. let p = f.follows a b in let s = f.book.seen in ((let q = p.0 in omega arith), p.1); faults = λ i why there. fault_later L why (f.faults i why there) }

  pub gives : v.hold.holds ≡ true → AllEven rows words → Rule limit rows (set words 1 0) (set views id (gave v)) hist
  gives has even = let wide = R.wide in let now : get_or (set words 1 0) 1 0 ≡ 0 = get_or-set_same words 1 0 0 (omega arith) in
      let L = nothing_new rows words (set words 1 0) hist (set_high 1 0 (omega arith)) in let f = view_later L limit v (R.fits id v at) in
      alone R id v (gave v) at (set words 1 0) hist (others_free has) L (get_or-set_other words 1 0 0 0 (λ e. omega arith) ∙ R.clock) R.early (length-set words 1 0)
      (same_rows 1 0 hist (omega arith) (λ i _ _ h. h)) (inl (now, even_still 1 0 (omega arith) even, refl)) (λ p. refl)
      record { walk = f.walk; book = f.book; follows = f.follows; faults = f.faults }

  -- a call is answered and recorded; the history may have grown by it
  adds : {words' : List ℕ} {hist' : List Request} (L : Later rows words hist words' hist') (r : Record) (seen' : ℕ) → v.book.seen ≤ seen' → seen' ≤ length hist' → v.book.seen ≤ r.at
      → Stands limit hist' r → after r ≤ seen' → BookFits limit hist' (with_seen (with_record v.book r) seen')
  adds {words'} {hist'} L r seen' low high at_least stands within = let f = (R.fits id v at).book in let g = book_later limit hist hist' L.ext L.is v.book f in record {
    own = strand_snoc limit hist hist' L.ext v.book.seen seen' v.book.own r L.is f.own stands (let w = f.own.within in omega arith) within;
    joined = λ i s there. strand_more limit hist' v.book.seen seen' s low (g.joined i s there);
    seen = high;
  }

  same_record : v.hold.holds ≡ true → (call : Request) → record_of limit v.hold.history call ≡ record_of limit hist call
  same_record has call = ap (λ h. record_of limit h call) (R.held id v at has).knows_history

  pub answers : v.hold.holds ≡ true → AllEven rows words → (call : Request) → alters limit (tree_of limit hist) call ≡ false → Rule limit rows (set words 1 0) (set views id (answered limit v call)) hist
  answers has even call same_tree = let wide = R.wide in let now : get_or (set words 1 0) 1 0 ≡ 0 = get_or-set_same words 1 0 0 (omega arith) in
      let L = nothing_new rows words (set words 1 0) hist (set_high 1 0 (omega arith)) in let H = R.held id v at has in let f = R.fits id v at in let s = f.book.seen in
      let r : Record = record_of limit v.hold.history call in
      let same : r ≡ record_of limit hist call = same_record has call in
      let flat : r.altered ≡ false = ap (λ (x : Record). x.altered) same ∙ same_tree in
      let here : r.at ≡ length hist = ap length H.knows_history in
      let len : length v.hold.history ≡ length hist = ap length H.knows_history in
      alone R id v (answered limit v call) at (set words 1 0) hist (others_free has) L (get_or-set_other words 1 0 0 0 (λ e. omega arith) ∙ R.clock) R.early (length-set words 1 0)
      (same_rows 1 0 hist (omega arith) (λ i _ _ h. h)) (inl (now, even_still 1 0 (omega arith) even, refl))
      (λ p. let h = hits_snoc p v.book.own r in let z = no_hit p r flat in omega arith)
      record {
        walk = walk_done limit rows (set words 1 0) hist;
        book = adds L r (length v.hold.history) (omega arith) (omega arith) (omega arith) (subst (Stands limit hist) (sym same) (stands_now limit hist call same_tree)) (let w : weight r.altered ≡ 0 = ap weight flat in omega arith);
        follows = λ a _. absurd (true≢false (sym a));
        faults = λ i why there. fault_later L why (f.faults i why there);
      }

  pub commits : TreeLaws → v.hold.holds ≡ true → (call : Request) → alters limit (tree_of limit hist) call ≡ true → length hist < most → ((i : ℕ) → i < rows → IsUntouched limit (tree_of limit hist) words i call)
      → Rule limit rows (set words 0 (length v.hold.history + 1)) (set views id (committed limit v call)) (hist ++ call ∷ [])
  commits laws has call new early apart = let wide = R.wide in let x : ℕ = length v.hold.history + 1 in let H = R.held id v at has in let len : length v.hold.history ≡ length hist = ap length H.knows_history in
      let f = R.fits id v at in let s = f.book.seen in
      let more : length (hist ++ call ∷ []) ≡ length hist + 1 = length-append hist (call ∷ []) in
      let now : get_or (set words 0 x) 0 0 ≡ x = get_or-set_same words 0 x 0 (omega arith) in
      let L : Later rows words hist (set words 0 x) (hist ++ call ∷ []) = record {
        ext = call ∷ [];
        is = refl;
        counts = λ r l. let e = set_high 0 x (omega arith) (base_of r) (omega arith) in omega arith;
        cells = λ r l even e j low high. set_high 0 x (omega arith) j (omega arith);
      } in
      let r : Record = record_of limit v.hold.history call in
      let same : r ≡ record_of limit hist call = same_record has call in
      let altered : r.altered ≡ true = ap (λ (x : Record). x.altered) same ∙ new in
      alone R id v (committed limit v call) at (set words 0 x) (hist ++ call ∷ []) (others_free has) L (now ∙ omega arith) (omega arith) (length-set words 0 x)
      (same_rows 0 x (hist ++ call ∷ []) (omega arith) (λ i l even told. subst (λ t. Tells t (row_words words i)) (sym (tree_of-snoc limit hist call)) (tells_still laws limit (tree_of limit hist) words i call (well_formed laws limit hist) even (apart i l) told)))
      (inr (get_or-set_other words 0 1 x 0 (λ e. omega arith) ∙ H.locked, refl, ap (λ l. l ++ call ∷ []) H.knows_history, ap (λ l. set l 0 x) H.knows_words))
      (λ p. let h = hits_snoc p v.book.own r in let o = hit_here p (length hist) r altered len in
      let m : once_below p (length (hist ++ call ∷ [])) ≡ once_below p (length hist + 1) = ap (once_below p) more in omega arith)
      record {
        walk = walk_done limit rows (set words 0 x) (hist ++ call ∷ []);
        book = adds L r x (omega arith) (omega arith) (omega arith) (subst (Stands limit (hist ++ call ∷ [])) (sym same) (stands_committed limit hist call)) (let w : weight r.altered ≡ 1 = ap weight altered in omega arith);
        follows = λ a _. absurd (true≢false (sym a));
        faults = λ i why there. fault_later L why (f.faults i why there);
      }
