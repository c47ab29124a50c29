-- Each step of the one that gets, has or gives the lock keeps the table's rule.
use Rattle.std.proofs.Common.{◌≡◌, ℕ, ◌+◌, ◌%◌, ◌<◌, ◌≤◌, eqb, true, false, List, [], ◌∷◌, ◌++◌, length, get_or, set, sym, refl, ap, ◌∙◌, subst, subst₂, arith, Option as Maybe, Some, None, get_or-set_same, mod-eq_of_lt}
use mathlib.Core.Option.{none, some}
use lib.ListN.{get_elem?}
use prog.Atomic.{either}
use Rattle.atomic_table.specs.Table.{Act, step, rest, keeps, takes, gives, stepped, homes_after, carried_after, Valid, Allows}
use Rattle.atomic_table.proofs.Lists.{exchanged, set_again}
use Rattle.dc_plain.specs.Requests.{Request}
use Rattle.dc_plain.specs.Runs.{alters}
use Rattle.dc_row.specs.Spelling.{Spells}
use Rattle.dc_names.specs.declared.limits.TheConstants.{ROW_WORDS}
use Rattle.dc_events.specs.Views.{View}
use Rattle.dc_events.specs.Standing.{tree_of}
use Rattle.dc_events.specs.Rows.{most, base_of, count, row_words, IsUntouched}
use Rattle.dc_events.specs.Rule.{Rule}
use Rattle.dc_events.specs.Effects.{taken, wrote, committed, gave, answered}
use Rattle.dc_events.specs.Laws.{HoldersKeepTheRule}
use Rattle.dc_table.specs.Shares.{Known, Shares, with_view, tried}
use Rattle.dc_table.specs.Rows.{MayStand}
use Rattle.dc_table.specs.Kept.{HomeFits, HoldsFit, KeptAt, Kept, knowns, views_of, sheet_of}
use Rattle.dc_table.specs.Plays.{Place, Home, Took, known_at, rows_as, handed, took, raised, put, committed_as, gave_as, answered_as}
use Rattle.dc_table.specs.Passes.{CanShut, CanOpen, CanCommit}
use Rattle.dc_table.specs.Boxes.{Boxed}
use Rattle.dc_table.specs.declared.table.Guarded.{Guarded}
use Rattle.dc_table.specs.declared.table.Limits.{Limits}
use Rattle.dc_table.proofs.Sharing.{same_shares}
use Rattle.dc_table.proofs.Kept.{Seen, known_there, view_there, home_low, home_even, begins_itself, holds_later, handed_fits, after_step, after_load, after_held}

-- a step is for each state: what is known of the pass there
record There (k : Limits) (s : Seen) (h : List Request) (id : ℕ) (me : Place) : Type 0 where
  kept : KeptAt k s h
  pass : get_elem? (knowns s.views) id ≡ some (known_at me)
  seat : get_elem? (views_of (knowns s.views)) id ≡ some (known_at me).view
  part : 0 < (known_at me).share.parts

-- what lies in the hands of a pass, if it has one thing
abbrev box_in : Boxed → List (ℕ × Maybe Boxed) → Boxed
box_in x [] = x
box_in x ((i, None) ∷ cs) = x
box_in x ((i, Some y) ∷ cs) = y

pub same_box : (cs : List (ℕ × Maybe Boxed)) (x y : Boxed) → cs ≡ (0, Some x) ∷ [] → cs ≡ (0, Some y) ∷ [] → x ≡ y
same_box cs x y e f = sym (ap (box_in x) e) ∙ ap (box_in x) f

-- a pass that got the lock after it had tried some times, got it since before
pub took_since : (k m l : Known) (x : Guarded) → m ≡ record k { tries = m.tries } → k.tries ≤ m.tries → Took m l x → Took k l x
took_since k m l x same more t = let first = t.tried in let later = t.later in let seen = ap (λ (z : Known). z.view.book.seen) same in record {
  words = t.words;
  history = t.history;
  tries = t.tries;
  now = t.now ∙ ap (λ (z : Known). record z { view = taken z.view t.words t.history; tries = t.tries; got = rows_as t.history t.words x }) same;
  tried = omega arith;
  early = t.early;
  later = omega arith;
  home = t.home;
}

module _ (k : Limits) (law : HoldersKeepTheRule) where
  there : (s : Seen) (h : List Request) (id : ℕ) (me : Place) → KeptAt k s h → get_elem? s.views id ≡ some me.0 → 0 < (known_at me).share.parts → There k s h id me
  there s h id me K at part = record { kept = K; pass = known_there s.views id me.0 at; seat = view_there s.views id me.0 at; part = part }

  names : (s : Seen) (h : List Request) (id : ℕ) (me : Place) → There k s h id me → ((known_at me).share.limit ≡ k.max_inodes) × ((known_at me).share.rows ≡ k.rows)
  names s h id me T = T.kept.shares.named id (known_at me) T.pass T.part

  shares_stay : (s : Seen) (h : List Request) (id : ℕ) (me : Place) → There k s h id me → (v : View) → Shares k.max_inodes k.rows (set (knowns s.views) id (with_view (known_at me) v))
  shares_stay s h id me T v = same_shares T.kept.shares id (known_at me) T.pass T.part (with_view (known_at me) v) refl

  shares_with : (s : Seen) (h : List Request) (id : ℕ) (me : Place) → There k s h id me → (l : Known) → l.share ≡ (known_at me).share → Shares k.max_inodes k.rows (set (knowns s.views) id l)
  shares_with s h id me T l same = same_shares T.kept.shares id (known_at me) T.pass T.part l same

  holds_fit : (s : Seen) (h : List Request) (id : ℕ) (me : Place) → There k s h id me → HoldsFit h (known_at me)
  holds_fit s h id me T = T.kept.holds id (known_at me) T.pass

  -- a lock that was tried and was not free
  missed : (s : Seen) (h : List Request) (id : ℕ) (me : Place) → There k s h id me → Kept k (stepped s 1 (get_or s.words 1 0) id me.1 (sheet_of (tried (known_at me))) keeps)
  missed s h id me T = after_load k s h T.kept 1 id me.1 (tried (known_at me)) (subst (λ vs. Rule k.max_inodes k.rows s.words vs h) (sym (set_again (views_of (knowns s.views)) id (known_at me).view T.seat)) T.kept.rule)
      (shares_with s h id me T (tried (known_at me)) refl) (holds_fit s h id me T)

  pub takes_lock : (slots id : ℕ) (me : Place) → me.1 ≡ [] → 0 < (known_at me).share.parts → Allows (Kept k) slots id me 1 (λ x. either (eqb x 0) 1 x) (took (step slots 1 0 1 none) me)
  takes_lock slots id me empty part s kept len at small = let h = kept.0 in let K = kept.1 in let R = K.rule in let T = there s h id me K at part in let x : ℕ = get_or s.words 1 0 in let now = known_at me in let n = names s h id me T in
      exchanged x 0 1 (λ z. (w : _) × (a : Act (Maybe Boxed)) × Valid s.homes me.1 a × Kept k (stepped s 1 z id me.1 w a) × took (step slots 1 0 1 none) me x (w, carried_after me.1 a))
      (λ free. let home = K.home.0 free in let v = home.0 in let words : List ℕ = set s.words 1 1 in let wide = R.wide in let l : Known = record now { view = taken now.view words h; tries = now.tries + 1; got = rows_as h words v.value } in
      let locked : get_or words 1 0 ≡ 1 = get_or-set_same s.words 1 1 0 (omega arith) in (
        sheet_of l,
        takes 0 (Some v),
        ap (λ hs. get_elem? hs 0) home.1,
        after_step k s h 1 1 id me.1 l (takes 0 (Some v)) (law.take k.max_inodes k.rows s.words (views_of (knowns s.views)) h id now.view R T.seat free) (shares_with s h id me T l refl)
            record { last = begins_itself h; over = (holds_fit s h id me T).over; counted = (holds_fit s h id me T).counted } K.holds ((λ z. absurd (omega arith)), λ _. ap (λ hs. set hs 0 none) home.1),
        (
          (λ _. (
            v,
            ap (λ cs. (0, Some v) ∷ cs) empty,
            record {
              words = words;
              history = h;
              tries = now.tries + 1;
              now = refl;
              tried = omega arith;
              early = R.early;
              later = (R.fits id now.view T.seat).book.seen;
              home = subst₂ (λ a b. HomeFits a b words h v.value) (sym n.0) (sym n.1) (home_low k.max_inodes k.rows s.words h v.value 1 1 (omega arith) home.2);
            },
            refl,
          )),
          λ not. absurd (not free),
        ),
      ))
      (λ busy. (sheet_of (tried now), keeps, tt, missed s h id me T, ((λ e. absurd (busy e)), λ _. refl)))

  -- the value that is given back fits the table
  home_again : (s : Seen) (h : List Request) (id : ℕ) (me : Place) (T : There k s h id me) (x : Guarded) → (known_at me).view.hold.holds ≡ true → Home (known_at me) x → HomeFits k.max_inodes k.rows s.words h x
  home_again s h id me T x has fits = let H = T.kept.rule.held id (known_at me).view T.seat has in let n = names s h id me T in
      subst₂ (λ a b. HomeFits a b s.words h x) n.0 n.1 (subst₂ (λ ws hist. HomeFits (known_at me).share.limit (known_at me).share.rows ws hist x) H.knows_words H.knows_history fits)

  back_home : (s : Seen) (h : List Request) (K : KeptAt k s h) (me : Place) (x : Boxed) → me.1 ≡ (0, Some x) ∷ [] → get_or s.words 1 0 ≡ 1 → homes_after s.homes me.1 gives ≡ some (Some x) ∷ []
  back_home s h K me x out locked = ap (λ cs. homes_after s.homes cs gives) out ∙ ap (λ hs. set hs 0 (some (Some x))) (K.home.1 locked)

  pub gives_lock : (slots id : ℕ) (me : Place) (x : Boxed) → me.1 ≡ (0, Some x) ∷ [] → (known_at me).view.hold.holds ≡ true → 0 < (known_at me).share.parts → Home (known_at me) x.value
      → Allows (Kept k) slots id me 1 (λ _. 0) (λ _. gave_as (step slots 1 0 0 none) me 0)
  gives_lock slots id me x out has part fits s kept len at small = let h = kept.0 in let K = kept.1 in let R = K.rule in let T = there s h id me K at part in let now = known_at me in
      let H = R.held id now.view T.seat has in let wide = R.wide in let home = home_again s h id me T x.value has fits in let free : get_or (set s.words 1 0) 1 0 ≡ 0 = get_or-set_same s.words 1 0 0 (omega arith) in
      let l : Known = handed now (gave now.view) x.value in (
        sheet_of l,
        gives,
        tt,
        after_step k s h 1 0 id me.1 l gives (law.give k.max_inodes k.rows s.words (views_of (knowns s.views)) h id now.view R T.seat has (home_even k.max_inodes k.rows s.words h x.value home)) (shares_with s h id me T l refl)
            (handed_fits h now (gave now.view) x.value H.knows_history (holds_fit s h id me T)) K.holds ((λ _. (x, back_home s h K me x out H.locked, home_low k.max_inodes k.rows s.words h x.value 1 0 (omega arith) home)), λ z. absurd (omega arith)),
        λ y e. ap (λ cs. (sheet_of l, carried_after cs gives)) out ∙ ap (λ (z : Boxed). (sheet_of (handed now (gave now.view) z.value), [])) (same_box me.1 x y out e),
      )

  pub answers_lock : (slots id : ℕ) (me : Place) (x : Boxed) (call : Request) → me.1 ≡ (0, Some x) ∷ [] → (known_at me).view.hold.holds ≡ true → 0 < (known_at me).share.parts → Home (known_at me) x.value
      → alters (known_at me).share.limit (tree_of (known_at me).share.limit (known_at me).view.hold.history) call ≡ false → Allows (Kept k) slots id me 1 (λ _. 0) (λ _. answered_as call (step slots 1 0 0 none) me 0)
  answers_lock slots id me x call out has part fits unaltered s kept len at small = let h = kept.0 in let K = kept.1 in let R = K.rule in let T = there s h id me K at part in let now = known_at me in let n = names s h id me T in
      let H = R.held id now.view T.seat has in let wide = R.wide in let home = home_again s h id me T x.value has fits in let free : get_or (set s.words 1 0) 1 0 ≡ 0 = get_or-set_same s.words 1 0 0 (omega arith) in
      let still : alters k.max_inodes (tree_of k.max_inodes h) call ≡ false = subst₂ (λ a hist. alters a (tree_of a hist) call ≡ false) n.0 H.knows_history unaltered in
      let l : Known = handed now (answered now.share.limit now.view call) x.value in (
        sheet_of l,
        gives,
        tt,
        after_step k s h 1 0 id me.1 l gives (subst (λ a. Rule k.max_inodes k.rows (set s.words 1 0) (set (views_of (knowns s.views)) id (answered a now.view call)) h) (sym n.0)
            (law.answer k.max_inodes k.rows s.words (views_of (knowns s.views)) h id now.view R T.seat has (home_even k.max_inodes k.rows s.words h x.value home) call still)) (shares_with s h id me T l refl)
            (handed_fits h now (answered now.share.limit now.view call) x.value H.knows_history (holds_fit s h id me T)) K.holds ((λ _. (x, back_home s h K me x out H.locked, home_low k.max_inodes k.rows s.words h x.value 1 0 (omega arith) home)), λ z. absurd (omega arith)),
        λ y e. ap (λ cs. (sheet_of l, carried_after cs gives)) out ∙ ap (λ (z : Boxed). (sheet_of (handed now (answered now.share.limit now.view call) z.value), [])) (same_box me.1 x y out e),
      )

  -- the count of a row grows by one
  counted : (s : Seen) (h : List Request) (id : ℕ) (me : Place) (T : There k s h id me) (row : ℕ) → (known_at me).view.hold.holds ≡ true → count s.words row < most
      → Rule k.max_inodes k.rows (set s.words (base_of row) (count s.words row + 1)) (set (views_of (knowns s.views)) id (wrote (known_at me).view (base_of row) (count s.words row + 1))) h
      → (f : ℕ) → f ≡ (count s.words row + 1) % 18446744073709551616 → Kept k (stepped s (base_of row) f id me.1 (sheet_of (with_view (known_at me) (wrote (known_at me).view (base_of row) (count s.words row + 1)))) keeps)
  counted s h id me T row has low rule f is = let H = T.kept.rule.held id (known_at me).view T.seat has in let v : View = wrote (known_at me).view (base_of row) (count s.words row + 1) in
      subst (λ z. Kept k (stepped s (base_of row) z id me.1 (sheet_of (with_view (known_at me) v)) keeps)) (sym (is ∙ mod-eq_of_lt (omega arith)))
      (after_held k s h h T.kept (base_of row) (count s.words row + 1) id me.1 (with_view (known_at me) v) H.locked (λ e. omega arith) rule (shares_stay s h id me T v) (holds_fit s h id me T) T.kept.holds)

  pub shuts : (slots id : ℕ) (me : Place) (row : ℕ) → row < (known_at me).share.rows → (known_at me).view.hold.holds ≡ true → 0 < (known_at me).share.parts → CanShut (known_at me).view row
      → Allows (Kept k) slots id me (base_of row) (λ n. (n + 1) % 18446744073709551616) (raised (step slots (base_of row) 1 0 none) me)
  shuts slots id me row inside has part can s kept len at small = let h = kept.0 in let K = kept.1 in let R = K.rule in let T = there s h id me K at part in let now = known_at me in let n = names s h id me T in let H = R.held id now.view T.seat has in
      let low : count s.words row < most = subst (λ ws. count ws row < most) H.knows_words can.low in let same : count now.view.hold.words row ≡ count s.words row = ap (λ ws. count ws row) H.knows_words in (
        sheet_of (with_view now (wrote now.view (base_of row) (count s.words row + 1))),
        keeps,
        tt,
        counted s h id me T row has low (law.shut k.max_inodes k.rows s.words (views_of (knowns s.views)) h id now.view R T.seat has row (subst (λ z. row < z) n.1 inside) (subst (λ ws. count ws row % 2 ≡ 0) H.knows_words can.even) low) _ refl,
        (sym same, refl),
      )

  pub opens_row : (slots id : ℕ) (me : Place) (row : ℕ) → row < (known_at me).share.rows → (known_at me).view.hold.holds ≡ true → 0 < (known_at me).share.parts → CanOpen (known_at me).share.limit (known_at me).view row
      → Allows (Kept k) slots id me (base_of row) (λ n. (n + 1) % 18446744073709551616) (raised (step slots (base_of row) 1 0 none) me)
  opens_row slots id me row inside has part can s kept len at small = let h = kept.0 in let K = kept.1 in let R = K.rule in let T = there s h id me K at part in let now = known_at me in let n = names s h id me T in let H = R.held id now.view T.seat has in
      let low : count s.words row < most = subst (λ ws. count ws row < most) H.knows_words can.low in let same : count now.view.hold.words row ≡ count s.words row = ap (λ ws. count ws row) H.knows_words in
      let m : MayStand (tree_of k.max_inodes h) s.words row (row_words s.words row) = subst₂ (λ a hist. MayStand (tree_of a hist) s.words row (row_words s.words row)) n.0 H.knows_history
      (subst (λ ws. MayStand (tree_of now.share.limit now.view.hold.history) ws row (row_words ws row)) H.knows_words can.stands) in (
        sheet_of (with_view now (wrote now.view (base_of row) (count s.words row + 1))),
        keeps,
        tt,
        counted s h id me T row has low (law.open_row k.max_inodes k.rows s.words (views_of (knowns s.views)) h id now.view R T.seat has row (subst (λ z. row < z) n.1 inside) (subst (λ ws. count ws row % 2 ≡ 1) H.knows_words can.odd)
            record { fact = m.fact; spells = m.spelled; holds = m.now } (λ full. subst (λ f. Spells (row_words s.words row) f) (m.last full) m.spelled) (omega arith)) _ refl,
        (sym same, refl),
      )

  pub writes_word : (slots id : ℕ) (me : Place) (row word x : ℕ) → row < (known_at me).share.rows → 0 < word → word < ROW_WORDS → (known_at me).view.hold.holds ≡ true → 0 < (known_at me).share.parts → count (known_at me).view.hold.words row % 2 ≡ 1
      → Allows (Kept k) slots id me (base_of row + word) (λ _. x) (λ _. put (step slots (base_of row + word) x 0 none) me x)
  writes_word slots id me row word x inside more few has part odd s kept len at small = let h = kept.0 in let K = kept.1 in let R = K.rule in let T = there s h id me K at part in let now = known_at me in let n = names s h id me T in let H = R.held id now.view T.seat has in
      let v : View = wrote now.view (base_of row + word) x in (
        sheet_of (with_view now v),
        keeps,
        tt,
        after_held k s h h K (base_of row + word) x id me.1 (with_view now v) H.locked (λ e. omega arith)
            (law.write k.max_inodes k.rows s.words (views_of (knowns s.views)) h id now.view R T.seat has row (subst (λ z. row < z) n.1 inside) word x more few (subst (λ ws. count ws row % 2 ≡ 1) H.knows_words odd)) (shares_stay s h id me T v) (holds_fit s h id me T) K.holds,
        refl,
      )

  pub commits_call : (slots id : ℕ) (me : Place) (call : Request) → (known_at me).view.hold.holds ≡ true → 0 < (known_at me).share.parts → CanCommit (known_at me).share.limit (known_at me).share.rows (known_at me).view call
      → Allows (Kept k) slots id me 0 (λ n. (n + 1) % 18446744073709551616) (λ r. committed_as call (step slots 0 1 0 none) me r)
  commits_call slots id me call has part can s kept len at small = let h = kept.0 in let K = kept.1 in let R = K.rule in let T = there s h id me K at part in let now = known_at me in let n = names s h id me T in let H = R.held id now.view T.seat has in
      let clock = R.clock in let early : length h < most = subst (λ hist. length hist < most) H.knows_history can.early in let known : length now.view.hold.history ≡ length h = ap length H.knows_history in
      let new : alters k.max_inodes (tree_of k.max_inodes h) call ≡ true = subst₂ (λ a hist. alters a (tree_of a hist) call ≡ true) n.0 H.knows_history can.altering in
      let apart : (row : ℕ) → row < k.rows → IsUntouched k.max_inodes (tree_of k.max_inodes h) s.words row call =
      subst₂ (λ a b. (row : ℕ) → row < b → IsUntouched a (tree_of a h) s.words row call) n.0 n.1
      (subst₂ (λ hist ws. (row : ℕ) → row < now.share.rows → IsUntouched now.share.limit (tree_of now.share.limit hist) ws row call) H.knows_history H.knows_words can.untouched) in
      let l : Known = with_view now (committed now.share.limit now.view call) in let next : ℕ = length now.view.hold.history + 1 in
      let is : next ≡ (get_or s.words 0 0 + 1) % 18446744073709551616 = let e : next ≡ get_or s.words 0 0 + 1 = omega arith in e ∙ sym (mod-eq_of_lt (omega arith)) in (
        sheet_of l,
        keeps,
        tt,
        subst (λ z. Kept k (stepped s 0 z id me.1 (sheet_of l) keeps)) is (after_held k s h (h ++ call ∷ []) K 0 next id me.1 l H.locked (λ e. omega arith)
            (subst (λ a. Rule k.max_inodes k.rows (set s.words 0 next) (set (views_of (knowns s.views)) id (committed a now.view call)) (h ++ call ∷ [])) (sym n.0)
            (law.commit k.max_inodes k.rows s.words (views_of (knowns s.views)) h id now.view R T.seat has call new early apart)) (shares_stay s h id me T (committed now.share.limit now.view call))
            (holds_later h call now (holds_fit s h id me T)) (λ j u there. holds_later h call u (K.holds j u there))),
        refl,
      )

pub with_rest : {S : Type 0} (cs : List (ℕ × S)) (y : ℕ × S) → cs ≡ y ∷ [] → cs ≡ y ∷ rest cs
with_rest cs y e = e ∙ ap (λ l. y ∷ l) (ap rest (sym e))

-- the place of a row's count, as the code computes it
pub at_place : (k : Limits) (slots id : ℕ) (me : Place) (row i : ℕ) → i ≡ base_of row + 0 → Allows (Kept k) slots id me (base_of row) (λ n. (n + 1) % 18446744073709551616) (raised (step slots (base_of row) 1 0 none) me)
    → Allows (Kept k) slots id me i (λ n. (n + 1) % 18446744073709551616) (raised (step slots i 1 0 none) me)
at_place k slots id me row i is allows = let e : base_of row ≡ i = omega arith in subst (λ z. Allows (Kept k) slots id me z (λ n. (n + 1) % 18446744073709551616) (raised (step slots z 1 0 none) me)) e allows

pub put_place : (k : Limits) (slots id : ℕ) (me : Place) (j i x : ℕ) → i ≡ j → Allows (Kept k) slots id me j (λ _. x) (λ _. put (step slots j x 0 none) me x) → Allows (Kept k) slots id me i (λ _. x) (λ _. put (step slots i x 0 none) me x)
put_place k slots id me j i x is allows = subst (λ z. Allows (Kept k) slots id me z (λ _. x) (λ _. put (step slots z x 0 none) me x)) (sym is) allows

pub count_place : (row i : ℕ) → i ≡ base_of row + 0 → i ≡ base_of row
count_place row i e = omega arith
