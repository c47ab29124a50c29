-- A row that has a key is emptied under the guard, after it went out of use; or it loses a pin.
use Rattle.std.proofs.Common.{◌≡◌, ℕ, ◌<◌, ◌∙◌, true, false, None, refl, sym, ap, subst}
use Rattle.dc_row.specs.Spelling.{Spells}
use Rattle.dc_row.specs.declared.TheConstants.{EMPTY_ROW}
use Rattle.dc_index.specs.Slots.{slot_of, has_key}
use Rattle.dc_shrink.specs.Listings.{Listing, dropped, pins_of, unpinned_once}
use Rattle.dc_shrink.specs.Uses.{KeepsUse, SetsUse}
use Rattle.dc_table.specs.Changes.{words_of}
use Rattle.dc_table.specs.Passes.{Pass, known}
use Rattle.dc_table.specs.Plays.{Home}
use Rattle.dc_table.specs.declared.table.Guarded.{Guarded}
use Rattle.dc_rows.specs.Changes.{KeepsTree, OnlyWrites}
use Rattle.dc_rows.specs.Filling.{Emptied}
use Rattle.dc_rows.specs.Guards.{rows_at}
use Rattle.dc_rows.specs.Narrow.{HasFrom, most_words}
use Rattle.dc_rows.specs.RowChanges.{EmptiesRow, UnpinsRow}
use Rattle.dc_rows.proofs.Held.{home_is, home_on, rest_of}
use Rattle.dc_rows.proofs.Placed.{has_emptied, keyed_within, pinned_keyed, placed_empty}
use Rattle.dc_rows.proofs.Pinning.{unpins_one, unpins_last}
use Rattle.dc_rows.proofs.SameRows.{empties_row}

-- what the lock guards is what the guard has, and a row has a key
module _ (p : Pass) {k g : Guarded} (same : k ≡ g) (home : Home (known p) g) (row : ℕ) where
  pub keyed : has_key (slot_of g.index row) ≡ true → has_key (slot_of k.index row) ≡ true
  keyed key = subst (λ (x : Guarded). has_key (slot_of x.index row) ≡ true) (sym same) key

  pub keyed_pinned : 0 < pins_of k.shrinker row → has_key (slot_of k.index row) ≡ true
  keyed_pinned some = pinned_keyed k.index k.shrinker row (home_is p same home).rest.fit.agree some

  pub zeros_past : has_key (slot_of k.index row) ≡ true → (end : ℕ) → end ≡ most_words (slot_of k.index row) → HasFrom end (words_of p) row EMPTY_ROW
  zeros_past key end is = has_emptied _ _ _ _ _ (rest_of p k (home_is p same home)) row key end is

  pub pin_taken : (used : Listing) → used ≡ unpinned_once k.shrinker row → KeepsUse k.shrinker used → UnpinsRow row (rows_at p g) (rows_at p (record k { shrinker = used }))
  pin_taken used one inuse = subst (λ (x : Guarded). UnpinsRow row (rows_at p x) (rows_at p (record k { shrinker = used }))) same (unpins_one _ _ row refl refl one inuse)

  module _ (q : Pass) (w : OnlyWrites p q) (key : has_key (slot_of k.index row) ≡ true) (nothing : Spells EMPTY_ROW None) (used : Listing) (gone : used ≡ dropped k.shrinker row) (unused : SetsUse row false k.shrinker used)
      (y : Guarded) (t : KeepsTree (record k { shrinker = used }) y) (stay : y.shrinker ≡ used) (e : Emptied (words_of p) (words_of q) k.index y.index row) where
    sets : SetsUse row false k.shrinker y.shrinker
    sets = subst (λ (u : Listing). SetsUse row false k.shrinker u) (sym stay) unused

    pub home_emptied : Home (known q) y
    home_emptied = home_on p q k y y.shrinker (home_is p same home) w (record { tree = t.tree; clock = t.clock; same_limit = t.same_limit })
        (placed_empty _ _ _ k.index k.shrinker (rest_of p k (home_is p same home)) row (keyed_within k.index row key) nothing _ _ _ e sets (ap (λ (u : Listing). u.rows) (stay ∙ gone)))

    pub row_emptied : EmptiesRow row (rows_at p g) (rows_at q y)
    row_emptied = subst (λ (x : Guarded). EmptiesRow row (rows_at p x) (rows_at q y)) same (empties_row _ _ row (keyed_within k.index row key) nothing e (stay ∙ gone) sets)

    pub pin_emptied : pins_of k.shrinker row ≡ 1 → UnpinsRow row (rows_at p g) (rows_at q y)
    pin_emptied one = subst (λ (x : Guarded). UnpinsRow row (rows_at p x) (rows_at q y)) same (unpins_last _ _ row (keyed_within k.index row key) nothing e (stay ∙ gone) sets one)
