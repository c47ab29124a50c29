-- Which rows got a pin under the holds of a walk.
use Rattle.std.proofs.Common.{◌≡◌, ℕ, ◌+◌, List, [], ◌∷◌, ◌++◌, Option, Bool, true, Some, None, Ok, map, inl, inr, refl, sym, ap, ap₂, ◌∙◌, subst, arith}
use Rattle.std.proofs.lemmas.List.{map-append}
use Rattle.dc_plain.specs.Facts.{Key}
use Rattle.dc_rows.specs.RowChanges.{PinsOnly, SamePins}
use Rattle.dc_table.specs.Passes.{Pass, known}
use Rattle.dc_table.specs.Shares.{LockHold, HadOnce, HasNotTried}
use Rattle.dc_walk.specs.Uses.{Use}
use Rattle.dc_walk.specs.Finds.{use_shown}
use Rattle.dc_walk.specs.Findings.{SameRows, uses_in}
use Rattle.dc_walk.specs.Sights.{Answers, AnswersIn}
use Rattle.dc_walk.specs.Sources.{HasLane, IsHead}
use Rattle.dc_walk.specs.Unpins.{PinsInTurn, rows_used, with_spare}
use Rattle.dc_walk.specs.Becomings.{HasPinned, KeepsPinned}
use Rattle.dc_walk.specs.declared.rows.Rows.{Rows}
use Rattle.dc_walk.specs.declared.source.Lane.{Lane}
use Rattle.dc_walk.specs.Rooms.{Used}

pub none_in_turn : (past : List LockHold) → PinsInTurn past past []
none_in_turn past = record { holds = []; more = refl; each = refl }

-- one hold more, under which no pin came or went
same_turn : {before now later : List LockHold} {rows : List ℕ} (h : LockHold) → later ≡ h ∷ now → SamePins h.got h.left → PinsInTurn before now rows → PinsInTurn before later rows
same_turn h is same p = record { holds = h ∷ p.holds; more = is ∙ ap (λ (hs : List LockHold). h ∷ hs) p.more; each = inl (same, p.each) }

-- one hold more, under which a row got a pin
one_turn : {before now later : List LockHold} {rows : List ℕ} (row : ℕ) (h : LockHold) → later ≡ h ∷ now → PinsOnly row h.got h.left → PinsInTurn before now rows → PinsInTurn before later (rows ++ row ∷ [])
one_turn {rows = rows} row h is one p = record { holds = h ∷ p.holds; more = is ∙ ap (λ (hs : List LockHold). h ∷ hs) p.more; each = inr (rows, row, refl, one, p.each) }

rows_of_uses : (used : List Used) → map (λ (u : Use). u.row) (map use_shown used) ≡ rows_used used
rows_of_uses [] = refl
rows_of_uses (u ∷ used) = ap (λ (rows : List ℕ). u.row ∷ rows) (rows_of_uses used)

-- a row that answers is the last of the used ones
answered_rows : (f g : Rows) (key : Key) (row earlier at : ℕ) → Answers f key g row earlier at → rows_used g.used.now.items ≡ rows_used f.used.now.items ++ row ∷ []
answered_rows f g key row earlier at a = sym (rows_of_uses g.used.now.items) ∙ (ap (map (λ (u : Use). u.row)) a.uses ∙ (map-append (λ (u : Use). u.row) (uses_in f) (a.use_of ∷ [])
    ∙ ap₂ (λ (rows : List ℕ) (r : ℕ). rows ++ r ∷ []) (rows_of_uses f.used.now.items) a.of_row))

-- it begins with no pin
begun_pinned : (f : Rows) → f.used.now.items ≡ [] → HasPinned (known f.pass.now).past f None
begun_pinned f empty = let past = (known f.pass.now).past in subst (λ us. PinsInTurn past past (rows_used us)) (sym empty) (none_in_turn past)

-- a row was asked for, or none could be had
module _ (before : List LockHold) (f h : Rows) (used : h.used.now.items ≡ f.used.now.items) (once : HadOnce (known f.pass.now) (known h.pass.now)) (is : HasPinned before f None) where
  -- as when memory was refused
  pub had_none : SamePins (known h.pass.now).got (known h.pass.now).left → HasPinned before h None
  had_none same = subst (λ us. PinsInTurn before (known h.pass.now).past (rows_used us)) (sym used) (same_turn (record { got = (known h.pass.now).got; left = (known h.pass.now).left }) once same is)

  had_row : (row : ℕ) → PinsOnly row (known h.pass.now).got (known h.pass.now).left → HasPinned before h (Some row)
  had_row row one = subst (λ us. PinsInTurn before (known h.pass.now).past (rows_used us ++ row ∷ [])) (sym used) (one_turn row (record { got = (known h.pass.now).got; left = (known h.pass.now).left }) once one is)

module _ (before : List LockHold) (f h g : Rows) (lane : Lane) (used : h.used.now.items ≡ f.used.now.items) (had : HasLane (known f.pass.now) (known h.pass.now) (Ok lane)) (untried : HasNotTried (known h.pass.now) (known g.pass.now)) (is : HasPinned before f None) where
  -- the row that was had answers
  pub answered_pinned : (key : Key) (earlier at : ℕ) → AnswersIn h key g lane earlier at → HasPinned before g None
  answered_pinned key earlier at a = elim had.pins [
    | inl one ↦ let within = a.within in let many = one.0 in let there : lane.first + a.place ≡ lane.first = omega arith in
        let rows = answered_rows h g key (lane.first + a.place) earlier at a.answers ∙ ap (λ (r : ℕ). rows_used h.used.now.items ++ r ∷ []) there in
        subst (λ (z : List LockHold × List ℕ). PinsInTurn before z.0 z.1) (λ i. (sym untried.past i, sym rows i)) (had_row before f h used had.once is lane.first one.1)
    | inr nothing ↦ let within = a.within in let many = nothing.0 in absurd (omega arith)
  ]

  lane_turn : (spare : Option ℕ) → IsHead lane spare → HasPinned before h spare
  lane_turn (Some row) head = elim had.pins [
    | inl one ↦ subst (λ (r : ℕ). HasPinned before h (Some r)) (sym head.0) (had_row before f h used had.once is lane.first one.1)
    | inr nothing ↦ let many = nothing.0 in let some = head.1 in absurd (omega arith)
  ]
  lane_turn None head = elim had.pins [
    | inl one ↦ let many = one.0 in let none : lane.len ≡ 0 = head in absurd (omega arith)
    | inr nothing ↦ had_none before f h used had.once is nothing.1
  ]

  -- it doesn't
  pub stopped_pinned : g.used.now.items ≡ h.used.now.items → (spare : Option ℕ) → IsHead lane spare → HasPinned before g spare
  stopped_pinned same spare head = subst (λ (z : List LockHold × List ℕ). PinsInTurn before z.0 (with_spare z.1 spare)) (λ i. (sym untried.past i, rows_used (sym same i))) (lane_turn spare head)

-- and so it was when the walk ended
pub ended_pinned : (locks : Bool) {f g : Rows} (s : SameRows f g) (spare : Option ℕ) → KeepsPinned locks f g spare → f.used.now.items ≡ [] → (p : Pass) → p ≡ g.pass.now → (us : List Used) → us ≡ g.used.now.items
    → locks ≡ true → PinsInTurn (known f.pass.now).past (known p).past (with_spare (rows_used us) spare)
ended_pinned locks {f = f} s spare keeps empty p same us used is =
    subst (λ (z : List LockHold × List Used). PinsInTurn (known f.pass.now).past z.0 (with_spare (rows_used z.1) spare)) (λ i. ((known (sym same i)).past, sym used i)) (keeps is (known f.pass.now).past (begun_pinned f empty))
