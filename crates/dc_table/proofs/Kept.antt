-- The rule of the table after a step of one pass.
use Rattle.std.proofs.Common.{◌≡◌, ℕ, ◌<◌, List, [], ◌∷◌, ◌++◌, map, append-nil, append_assoc, get_or, set, sym, refl, ap, ◌∙◌, subst, zero, suc, arith, Option as Maybe, get_or-set_other, length-set}
use Rattle.std.proofs.lemmas.List.{map-set}
use lib.Seq.{set-get_or}
use mathlib.Core.Option.{some, some-injective, some-ne-none}
use lib.ListN.{get_elem?}
use Rattle.atomic_table.specs.Table.{State, Act, keeps, stepped, homes_after}
use Rattle.atomic_table.proofs.Lists.{at_map}
use Rattle.dc_plain.specs.Requests.{Request}
use Rattle.dc_plain.specs.Trees.{Tree}
use Rattle.dc_index.specs.Slots.{Slot, slot_of}
use Rattle.dc_events.specs.Views.{View}
use Rattle.dc_events.specs.Rows.{row_words}
use Rattle.dc_events.specs.Rule.{Rule, AllEven}
use Rattle.dc_table.specs.Shares.{Known, LockHold, Shares, Everyone, Begins, AreBeginnings, AreHoldsOf, with_pivot}
use Rattle.dc_table.specs.Rows.{At, OfNone, Rest}
use Rattle.dc_table.specs.RowStates.{RowState}
use Rattle.dc_table.specs.Plays.{handed}
use Rattle.dc_table.specs.Kept.{HomeFits, Home, HasHeld, HoldsFit, KeptAt, Kept, known_of, knowns, views_of, sheet_of}
use Rattle.dc_table.specs.Boxes.{Boxed}
use Rattle.dc_table.specs.declared.table.Guarded.{Guarded}
use Rattle.dc_table.specs.declared.table.Limits.{Limits}
use Rattle.dc_table.specs.declared.sheet.Sheet.{Sheet}
use Rattle.dc_table.proofs.Cells.{row_low}
use Rattle.dc_table.proofs.Sharing.{everyone_set}

abbrev pub Seen : Type 0
Seen = State (Maybe Boxed) Sheet

pub known_there : (sheets : List Sheet) (id : ℕ) (x : Sheet) → get_elem? sheets id ≡ some x → get_elem? (knowns sheets) id ≡ some (known_of x)
known_there sheets id x at = at_map known_of sheets id x at

pub view_there : (sheets : List Sheet) (id : ℕ) (x : Sheet) → get_elem? sheets id ≡ some x → get_elem? (views_of (knowns sheets)) id ≡ some (known_of x).view
view_there sheets id x at = at_map (λ (k : Known). k.view) (knowns sheets) id (known_of x) (known_there sheets id x at)

pub mapped_at : {A B : Type 0} (f : A → B) (l : List A) (i : ℕ) (b : B) → get_elem? (map f l) i ≡ some b → (a : A) × (get_elem? l i ≡ some a) × (f a ≡ b)
mapped_at f [] i b e = absurd (some-ne-none b (sym e))
mapped_at f (x ∷ xs) zero b e = (x, refl, some-injective (f x) b e)
mapped_at f (x ∷ xs) (suc i) b e = mapped_at f xs i b e

pub knowns_set : (sheets : List Sheet) (id : ℕ) (l : Known) → knowns (set sheets id (sheet_of l)) ≡ set (knowns sheets) id l
knowns_set sheets id l = map-set known_of sheets id (sheet_of l)

pub views_set : (passes : List Known) (id : ℕ) (l : Known) → views_of (set passes id l) ≡ set (views_of passes) id l.view
views_set passes id l = map-set (λ (k : Known). k.view) passes id l

-- the value's rows lie beyond clock and lock
at_low : (t : Tree) (slots : List Slot) (words : List ℕ) (i x row : ℕ) → i < 2 → At t OfNone (row_words words row) (slot_of slots row) → At t OfNone (row_words (set words i x) row) (slot_of slots row)
at_low t slots words i x row low a = subst (λ (ws : List ℕ). At t OfNone ws (slot_of slots row)) (sym (row_low words i x row low)) a

pub rest_low : (t : Tree) (rows : ℕ) (words : List ℕ) (v : Guarded) (i x : ℕ) → i < 2 → Rest t rows words v.index v.shrinker → Rest t rows (set words i x) v.index v.shrinker
rest_low t rows words v i x low r = record {
  fit = record { indexed = r.fit.indexed; listed = r.fit.listed; agree = r.fit.agree; size = length-set words i x ∙ r.fit.size };
  rest = λ row inside. at_low t v.index words i x row low (r.rest row inside);
}

pub home_low : (limit rows : ℕ) (words : List ℕ) (hist : List Request) (v : Guarded) (i x : ℕ) → i < 2 → HomeFits limit rows words hist v → HomeFits limit rows (set words i x) hist v
home_low limit rows words hist v i x low h = record { tree = h.tree; clock = h.clock; same_limit = h.same_limit; rest = rest_low v.store rows words v i x low h.rest }

-- at home all rows are even
pub home_even : (limit rows : ℕ) (words : List ℕ) (hist : List Request) (v : Guarded) → HomeFits limit rows words hist v → AllEven rows words
home_even limit rows words hist v h row inside = (h.rest.rest row inside).even (λ key e never. never)

-- holds of a history are holds of one that goes on from there
pub begins_itself : (h : List Request) → Begins h h
begins_itself h = ([], sym (append-nil h))

more : (early h : List Request) (call : Request) → Begins early h → Begins early (h ++ call ∷ [])
more early h call b = (b.0 ++ call ∷ [], ap (λ l. l ++ call ∷ []) b.1 ∙ append_assoc early b.0 (call ∷ []))

more_over : (h : List Request) (call : Request) (past : List LockHold) → AreHoldsOf h past → AreHoldsOf (h ++ call ∷ []) past
more_over h call [] all = tt
more_over h call (x ∷ xs) all = (record { got = all.0.got; left = more x.left.history h call all.0.left }, more_over h call xs all.1)

more_counted : (h : List Request) (call : Request) (pivots : List (List Request)) → AreBeginnings h pivots → AreBeginnings (h ++ call ∷ []) pivots
more_counted h call [] all = tt
more_counted h call (x ∷ xs) all = (more x h call all.0, more_counted h call xs all.1)

pub holds_later : (h : List Request) (call : Request) (k : Known) → HoldsFit h k → HoldsFit (h ++ call ∷ []) k
holds_later h call k f = record { last = more k.got.history h call f.last; over = more_over h call k.past f.over; counted = more_counted h call k.pivots f.counted }

-- a pass that has loaded the clock knows the history that it counts
pub pivot_fits : (h : List Request) (k : Known) (v : View) → HoldsFit h k → HoldsFit h (with_pivot k v h)
pivot_fits h k v f = record { last = f.last; over = f.over; counted = (begins_itself h, f.counted) }

-- and so are those of a pass that was joined, of one that never had the lock, and of one that has just given it back
pub over_joined : (h : List Request) (a b : List LockHold) → AreHoldsOf h a → AreHoldsOf h b → AreHoldsOf h (a ++ b)
over_joined h [] b f g = g
over_joined h (x ∷ xs) b f g = (f.0, over_joined h xs b f.1 g)

pub counted_joined : (h : List Request) (a b : List (List Request)) → AreBeginnings h a → AreBeginnings h b → AreBeginnings h (a ++ b)
counted_joined h [] b f g = g
counted_joined h (x ∷ xs) b f g = (f.0, counted_joined h xs b f.1 g)

pub never_held : (h : List Request) (got : RowState) → got.history ≡ [] → HasHeld h got [] []
never_held h got none = record { last = (h, sym (ap (λ l. l ++ h) none)); over = tt; counted = tt }

pub handed_fits : (h : List Request) (k : Known) (v : View) (x : Guarded) → k.view.hold.history ≡ h → HoldsFit h k → HoldsFit h (handed k v x)
handed_fits h k v x is f = record {
  last = f.last;
  over = (record { got = subst (Begins k.got.history) (sym is) f.last; left = subst (λ l. Begins l h) (sym is) (begins_itself h) }, f.over);
  counted = f.counted;
}

module _ (k : Limits) where
  -- a step of one pass, with the word, the view and the act that it has
  pub after_step : (s : Seen) (h : List Request) (i x id : ℕ) (cs : List (ℕ × Maybe Boxed)) (l : Known) (a : Act (Maybe Boxed))
      → Rule k.max_inodes k.rows (set s.words i x) (set (views_of (knowns s.views)) id l.view) h → Shares k.max_inodes k.rows (set (knowns s.views) id l) → HoldsFit h l → Everyone (knowns s.views) (HoldsFit h)
      → Home k.max_inodes k.rows (set s.words i x) (homes_after s.homes cs a) h → Kept k (stepped s i x id cs (sheet_of l) a)
  after_step s h i x id cs l a rule shares mine others home = (
    h,
    record {
      rule = subst (λ vs. Rule k.max_inodes k.rows (set s.words i x) vs h) (sym (ap views_of (knowns_set s.views id l) ∙ views_set (knowns s.views) id l)) rule;
      shares = subst (Shares k.max_inodes k.rows) (sym (knowns_set s.views id l)) shares;
      holds = subst (λ passes. Everyone passes (HoldsFit h)) (sym (knowns_set s.views id l)) (everyone_set (knowns s.views) id l (HoldsFit h) mine others);
      home = home;
    },
  )

  -- one that changes no word
  pub after_load : (s : Seen) (h : List Request) → KeptAt k s h → (i id : ℕ) (cs : List (ℕ × Maybe Boxed)) (l : Known) → Rule k.max_inodes k.rows s.words (set (views_of (knowns s.views)) id l.view) h
      → Shares k.max_inodes k.rows (set (knowns s.views) id l) → HoldsFit h l → Kept k (stepped s i (get_or s.words i 0) id cs (sheet_of l) keeps)
  after_load s h K i id cs l rule shares mine = let same = sym (set-get_or s.words i 0) in
      after_step s h i (get_or s.words i 0) id cs l keeps (subst (λ (ws : List ℕ). Rule k.max_inodes k.rows ws (set (views_of (knowns s.views)) id l.view) h) same rule) shares mine K.holds
      (subst (λ (ws : List ℕ). Home k.max_inodes k.rows ws s.homes h) same K.home)

  -- one of the holder of the lock, which goes on having it
  pub after_held : (s : Seen) (h h' : List Request) → KeptAt k s h → (i x id : ℕ) (cs : List (ℕ × Maybe Boxed)) (l : Known) → get_or s.words 1 0 ≡ 1 → ¬ (1 ≡ i)
      → Rule k.max_inodes k.rows (set s.words i x) (set (views_of (knowns s.views)) id l.view) h' → Shares k.max_inodes k.rows (set (knowns s.views) id l)
      → HoldsFit h' l → Everyone (knowns s.views) (HoldsFit h') → Kept k (stepped s i x id cs (sheet_of l) keeps)
  after_held s h h' K i x id cs l locked apart rule shares mine others = let same = get_or-set_other s.words i 1 x 0 apart in
      after_step s h' i x id cs l keeps rule shares mine others ((λ free. absurd (omega arith)), λ _. K.home.1 locked)
