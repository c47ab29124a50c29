-- A table opens and ends, and passes are cut and put together.
use Rattle.std.proofs.Common.{◌≡◌, ℕ, zero, suc, ◌+◌, ◌*◌, ◌<◌, ◌≤◌, false, List, [], ◌∷◌, ◌++◌, map, length, get_or, set, replicate, sym, refl, ap, ap₂, ◌∙◌, subst, ⊎_elim, arith, Option as Maybe, Some, None, IfSome, IsSome, true≢false}
use Rattle.std.proofs.lemmas.List.{map-append}
use mathlib.Core.Logic.{dite}
use mathlib.Core.Option.{some, some-injective, some-ne-none}
use native.Mathlib.Decide.{ℕ_discrete}
use lib.ListN.{get_elem?}
use Rattle.atomic_table.specs.Table.{Splits, Joins, Final, Seen, opening}
use Rattle.atomic_table.proofs.Lists.{set_again, set_else}
use Rattle.dc_plain.specs.Trees.{empty_tree}
use Rattle.dc_row.specs.Spelling.{Spells}
use Rattle.dc_names.specs.declared.limits.TheConstants.{ROW_WORDS}
use Rattle.dc_row.specs.declared.TheConstants.{EMPTY_ROW}
use Rattle.dc_index.specs.Slots.{Slot, slot_of, has_key}
use Rattle.dc_index.specs.Slots.Slot.{Free}
use Rattle.dc_shrink.specs.Listings.{is_used}
use Rattle.dc_events.specs.Views.{Record, View}
use Rattle.dc_events.specs.Standing.{Stands, Rising, hits, all_hits}
use Rattle.dc_events.specs.Rows.{base_of, count, row_words, opening_words}
use Rattle.dc_events.specs.Rule.{view_hits, once_below, Locked, AllEven, Rule}
use Rattle.dc_events.specs.Effects.{nobody}
use Rattle.dc_events.specs.Passes.{newcomer, joined_with}
use Rattle.dc_events.specs.Laws.{PassesKeepTheRule, NewTablesHaveTheRule, RecordsAreLegal}
use Rattle.dc_plain.specs.Requests.{Request}
use Rattle.dc_table.specs.Shares.{Known, Shares, Everyone, IsSpent, IsWhole, first_known, kept_half, new_half, both, spent}
use Rattle.dc_table.specs.Rows.{OfNone, At, FitsSlot, is_retired}
use Rattle.dc_table.specs.Kept.{HomeFits, HoldsFit, IsNew, Kept, known_of, knowns, views_of, sheet_of, first_sheet}
use Rattle.dc_table.specs.Ends.{Ends}
use Rattle.dc_table.specs.Boxes.{Boxed}
use Rattle.dc_table.specs.declared.table.Guarded.{Guarded}
use Rattle.dc_table.specs.declared.table.Limits.{Limits}
use Rattle.dc_table.specs.declared.sheet.Sheet.{Sheet}
use Rattle.dc_table.proofs.Totals.{total_map, total_only}
use Rattle.dc_table.proofs.Sharing.{everyone_set, everyone_snoc, splits_shares, joins_shares, no_other}
use Rattle.dc_table.proofs.Cells.{spells_too}
use Rattle.dc_table.proofs.Kept.{known_there, view_there, mapped_at, knowns_set, views_set, never_held, over_joined, counted_joined}

module _ (k : Limits) (law : PassesKeepTheRule) where
  pub splits_seat : (id : ℕ) (v : Sheet) → Splits (Kept k) id v (sheet_of (kept_half (known_of v))) (sheet_of (new_half (known_of v)))
  splits_seat id v s kept at = let K = kept.1 in let passes = knowns s.views in let mine = known_of v in let pass = known_there s.views id v at in let seat = view_there s.views id v at in
      let after : List Sheet = set s.views id (sheet_of (kept_half mine)) ++ sheet_of (new_half mine) ∷ [] in
      let is : knowns after ≡ set passes id (kept_half mine) ++ new_half mine ∷ [] = map-append known_of (set s.views id (sheet_of (kept_half mine))) (sheet_of (new_half mine) ∷ []) ∙ ap (λ l. l ++ new_half mine ∷ []) (knowns_set s.views id (kept_half mine)) in
      let views : views_of (knowns after) ≡ views_of passes ++ newcomer mine.view ∷ [] = ap views_of is ∙ (map-append (λ (x : Known). x.view) (set passes id (kept_half mine)) (new_half mine ∷ [])
      ∙ ap (λ l. l ++ newcomer mine.view ∷ []) (views_set passes id (kept_half mine) ∙ set_again (views_of passes) id mine.view seat)) in (
        kept.0,
        record {
          rule = subst (λ vs. Rule k.max_inodes k.rows s.words vs kept.0) (sym views) (law.split k.max_inodes k.rows s.words (views_of passes) kept.0 id mine.view K.rule seat);
          shares = subst (Shares k.max_inodes k.rows) (sym is) (splits_shares K.shares id mine pass);
          holds = subst (λ l. Everyone l (HoldsFit kept.0)) (sym is) (everyone_snoc (set passes id (kept_half mine)) (new_half mine) (HoldsFit kept.0) (never_held kept.0 (new_half mine).got refl)
              (everyone_set passes id (kept_half mine) (HoldsFit kept.0) (K.holds id mine pass) K.holds));
          home = K.home;
        },
      )

  pub joins_seat : (id : ℕ) (v : Sheet) (other : ℕ) (w : Sheet) → 0 < (known_of v).share.parts → (known_of w).view.hold.holds ≡ false → Joins (Kept k) id v other w (sheet_of (both (known_of v) (known_of w))) (sheet_of spent)
  joins_seat id v other w part free s kept at apart there = let K = kept.1 in let passes = knowns s.views in let mine = known_of v in let hers = known_of w in
      let there' : get_elem? s.views other ≡ some w = sym (set_else s.views id other (sheet_of (both mine hers)) apart) ∙ there in
      let one : List Sheet = set s.views id (sheet_of (both mine hers)) in
      let is : knowns (set one other (sheet_of spent)) ≡ set (set passes id (both mine hers)) other spent = knowns_set one other spent ∙ ap (λ l. set l other spent) (knowns_set s.views id (both mine hers)) in
      let views : views_of (knowns (set one other (sheet_of spent))) ≡ set (set (views_of passes) id (joined_with mine.view hers.view)) other nobody =
      ap views_of is ∙ (views_set (set passes id (both mine hers)) other spent ∙ ap (λ l. set l other nobody) (views_set passes id (both mine hers))) in (
        kept.0,
        record {
          rule = subst (λ vs. Rule k.max_inodes k.rows s.words vs kept.0) (sym views)
              (law.join k.max_inodes k.rows s.words (views_of passes) kept.0 id mine.view K.rule (view_there s.views id v at) other hers.view apart (view_there s.views other w there') free);
          shares = subst (Shares k.max_inodes k.rows) (sym is) (joins_shares K.shares id mine (known_there s.views id v at) other hers apart (known_there s.views other w there') part);
          holds = let f = K.holds id mine (known_there s.views id v at) in let g = K.holds other hers (known_there s.views other w there') in
              subst (λ l. Everyone l (HoldsFit kept.0)) (sym is) (everyone_set (set passes id (both mine hers)) other spent (HoldsFit kept.0) (never_held kept.0 spent.got refl)
              (everyone_set passes id (both mine hers) (HoldsFit kept.0) record { last = f.last; over = over_joined kept.0 mine.past hers.past f.over g.over; counted = counted_joined kept.0 mine.pivots hers.pivots f.counted g.counted } K.holds));
          home = K.home;
        },
      )

-- a pass that has the whole share has all records of the history, and no other has the lock
module _ {limit rows : ℕ} {words : List ℕ} {passes : List Known} {hist : List Request} (R : Rule limit rows words (views_of passes) hist) (S : Shares limit rows passes) (id : ℕ) (k : Known) (at : get_elem? passes id ≡ some k) (whole : IsWhole k.share) where
  whole_once : (p : ℕ) → view_hits p k.view ≡ once_below p (length hist)
  whole_once p = sym (total_map (view_hits p) (λ (x : Known). x.view) passes ∙ total_only (λ (x : Known). view_hits p x.view) passes id k at
      (λ j u other there. let s = S.spent j u there (no_other S id k at whole j u other there) in ap₂ (λ a b. hits p a + all_hits p b) s.own s.joined)) ∙ R.once p

  whole_free : k.view.hold.holds ≡ false → get_or words 1 0 ≡ 0
  whole_free free = ⊎_elim (λ (h : (get_or words 1 0 ≡ 0) × AllEven rows words). h.0) (λ (l : Locked words (views_of passes) R.holder). let m = mapped_at (λ (x : Known). x.view) passes R.holder l.1.0 l.1.1 in dite (ℕ_discrete R.holder id)
      (λ same. let e = ap (λ (u : Known). u.view.hold.holds) (some-injective m.0 k (sym m.1 ∙ (ap (get_elem? passes) same ∙ at))) in absurd (true≢false (sym l.1.2 ∙ (ap (λ (v : View). v.hold.holds) (sym m.2) ∙ (e ∙ free)))))
      (λ other. let s = S.spent R.holder m.0 m.1 (no_other S id k at whole R.holder m.0 other m.1) in absurd (true≢false (sym l.1.2 ∙ (ap (λ (v : View). v.hold.holds) (sym m.2) ∙ s.free))))) R.lock

got : (l : List ℕ) (i x : ℕ) → get_elem? l i ≡ some x → get_or l i 0 ≡ x
got [] i x e = absurd (some-ne-none x (sym e))
got (y ∷ ys) zero x e = some-injective y x e
got (y ∷ ys) (suc i) x e = got ys i x e

in_cons : {A : Type 0} (K : A → Type 0) (y : A) (ys : List A) → K y → ((i : ℕ) (x : A) → get_elem? ys i ≡ some x → K x) → (i : ℕ) (x : A) → get_elem? (y ∷ ys) i ≡ some x → K x
in_cons K y ys first rest zero x e = subst K (some-injective y x e) first
in_cons K y ys first rest (suc i) x e = rest i x e

-- the last state of a table that was closed with this pass
pub ends : RecordsAreLegal → (k : Limits) (id : ℕ) (v : Sheet) (ws : List ℕ) (xs : List (Maybe Boxed)) → Final (Seen (Kept k) id v) ws xs → (lock : ℕ) (x : Maybe Boxed) → get_elem? ws 1 ≡ some lock → get_elem? xs 0 ≡ some x
    → (lock ≡ 0 → IfSome x (λ y. Ends k.max_inodes (known_of v) y.value.store y.value.clock) × IsSome x) × (IsWhole (known_of v).share → (known_of v).view.hold.holds ≡ false → lock ≡ 0)
ends legal k id v ws xs f lock x at_lock at_x = let s = f.0 in let h = f.1.0.0 in let K = f.1.0.1 in let R = K.rule in let mine = known_of v in let at = known_there s.views id v f.1.1 in let F = R.fits id mine.view (view_there s.views id v f.1.1) in
    let B = F.book in let word : get_or s.words 1 0 ≡ lock = ap (λ (l : List ℕ). get_or l 1 0) f.2 ∙ got ws 1 lock at_lock in (
      (λ free. let home = K.home.0 (word ∙ free) in let e : Some home.0 ≡ x = some-injective (Some home.0) x (sym (f.4 0 (Some home.0) (ap (λ hs. get_elem? hs 0) home.1)) ∙ at_x) in
          subst (λ (y : Maybe Boxed). IfSome y (λ z. Ends k.max_inodes mine z.value.store z.value.clock) × IsSome y) e (
            record {
              history = h;
              tree_is = home.2.tree;
              clock_is = home.2.clock;
              book = B;
              holds = (K.holds id mine at).over;
              pivots = (K.holds id mine at).counted;
              once = λ w p. whole_once R K.shares id mine at w p;
              legal = λ w. legal k.max_inodes h (mine.view.book.own ∷ mine.view.book.joined)
                  (in_cons (λ z. (j : ℕ) (r : Record) → get_elem? z j ≡ some r → Stands k.max_inodes h r) mine.view.book.own mine.view.book.joined B.own.stand (λ i z t. (B.joined i z t).stand))
                  (in_cons (λ z. Rising 0 z) mine.view.book.own mine.view.book.joined B.own.rising (λ i z t. (B.joined i z t).rising)) (whole_once R K.shares id mine at w);
            },
            refl,
          )),
      λ w free. sym word ∙ whole_free R K.shares id mine at w free,
    )

-- what a box of the slot gives
pub boxed_ends : (o : Maybe Boxed) (x : Boxed) (y : Guarded) (m n : ℕ) (k : Known) → IfSome o (λ z. Ends m k z.value.store z.value.clock) → o ≡ Some x → y ≡ x.value → m ≡ n → Ends n k y.store y.clock
boxed_ends o x y m n k all is same limit = subst (λ (z : Guarded). Ends n k z.store z.clock) (sym same) (subst (λ a. Ends a k x.value.store x.value.clock) limit (subst (λ (z : Maybe Boxed). IfSome z (λ w. Ends m k w.value.store w.value.clock)) is all))

pub new_in_box : (x : Boxed) (y : Guarded) (rows limit : ℕ) → IsNew y rows limit → x.value ≡ y → IsNew x.value rows limit
new_in_box x y rows limit new same = subst (λ (z : Guarded). IsNew z rows limit) (sym same) new

only_first : (limit rows : ℕ) (So : Known → Type 0) → So (first_known limit rows) → (id : ℕ) (k : Known) → get_elem? (first_known limit rows ∷ []) id ≡ some k → So k
only_first limit rows So first zero k e = subst So (some-injective _ k e) first
only_first limit rows So first (suc id) k e = absurd (some-ne-none k (sym e))

opening_shares : (limit rows : ℕ) → Shares limit rows (first_known limit rows ∷ [])
opening_shares limit rows = record {
  top = 0;
  named = only_first limit rows (λ k. 0 < k.share.parts → (k.share.limit ≡ limit) × (k.share.rows ≡ rows)) (λ _. (refl, refl));
  spent = only_first limit rows (λ k. k.share.parts ≡ 0 → IsSpent k.view) (λ e. absurd (omega arith));
  few = only_first limit rows (λ k. k.share.halvings ≤ 0) (omega arith);
  whole = refl;
}

zeros : (n i : ℕ) → get_or {A = ℕ} (replicate n 0) i 0 ≡ 0
zeros zero i = refl
zeros (suc n) zero = refl
zeros (suc n) (suc i) = zeros n i

zero_word : (rows j : ℕ) → get_or (opening_words rows) j 0 ≡ 0
zero_word rows zero = refl
zero_word rows (suc zero) = refl
zero_word rows (suc (suc j)) = zeros (rows * ROW_WORDS) j

opening_row : Spells EMPTY_ROW None → (rows row : ℕ) (slots : List Slot) → slot_of slots row ≡ Free → At empty_tree OfNone (row_words (opening_words rows) row) (slot_of slots row)
opening_row empty rows row slots free = let z : count (opening_words rows) row ≡ 0 = zero_word rows (base_of row) in record {
  odd = λ key e never. absurd never;
  even = λ none. omega arith;
  fits = λ even. ∣ subst (FitsSlot empty_tree (row_words (opening_words rows) row)) (sym free)
      (spells_too (opening_words rows) EMPTY_ROW row None empty (λ i some few. zero_word rows (base_of row + i) ∙ sym (zeros ROW_WORDS i))) ∣₁;
  ended = (λ gone. absurd (true≢false (sym gone ∙ ap is_retired free)), λ full. absurd (omega arith));
}

-- a table of empty rows with the root directory alone
pub opening_kept : NewTablesHaveTheRule → Spells EMPTY_ROW None → (k : Limits) (ws : List ℕ) (x : Boxed) (xs : List (Maybe Boxed)) → ws ≡ opening_words k.rows → xs ≡ Some x ∷ [] → x.value.store ≡ empty_tree → x.value.clock ≡ 0 → x.value.max_inodes ≡ k.max_inodes
    → length x.value.index ≡ k.rows → ((row : ℕ) → slot_of x.value.index row ≡ Free) → x.value.shrinker.rows ≡ k.rows → ((row : ℕ) → is_used x.value.shrinker row ≡ false) → Kept k (opening ws xs (first_sheet k))
opening_kept law empty k ws x xs is one store clock limit slots free rows unused = let words : List ℕ = opening_words k.rows in let R = law k.max_inodes k.rows 1 in (
  [],
  record {
    rule = subst (λ w. Rule k.max_inodes k.rows w (nobody ∷ []) []) (sym is) R;
    shares = opening_shares k.max_inodes k.rows;
    holds = only_first k.max_inodes k.rows (HoldsFit []) (never_held [] (first_known k.max_inodes k.rows).got refl);
    home = (
      (λ _. (
        x,
        ap (map some) one,
        subst (λ w. HomeFits k.max_inodes k.rows w [] x.value) (sym is) record {
          tree = store;
          clock = clock;
          same_limit = limit;
          rest = record {
            fit = record { indexed = slots; listed = rows; agree = λ row. ap has_key (free row) ∙ sym (unused row); size = R.wide };
            rest = λ row inside. subst (λ t. At t OfNone (row_words words row) (slot_of x.value.index row)) (sym store) (opening_row empty k.rows row x.value.index (free row));
          };
        },
      )),
      λ e. let z : get_or ws 1 0 ≡ 0 = ap (λ (l : List ℕ). get_or l 1 0) is in absurd (omega arith),
    );
  },
)

pub zeros_open : (rows n : ℕ) → n ≡ base_of rows → replicate n 0 ≡ opening_words rows
zeros_open rows n e = let f : n ≡ suc (suc (rows * ROW_WORDS)) = omega arith in ap (λ (z : ℕ). replicate z 0) f
