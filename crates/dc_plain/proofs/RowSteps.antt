-- What steps on the slow machine's rows come to, one after the other.
use Rattle.std.proofs.Common.{◌≡◌, ℕ, ◌<◌, List, map, length, Option, Some, None, IsSome, IsTrue, get_or, set, ap, ◌∙◌, arith}
use Rattle.std.proofs.lemmas.List.{length-map}
use Rattle.std.specs.FinMap.Entries.{put, is_sorted}
use Rattle.std.specs.FinMap.Entries.{find as lookup}
use Rattle.dc_plain.specs.Facts.{Target}
use Rattle.dc_plain.specs.Plain.{entry_shown, position_by}
use Rattle.dc_plain.specs.Plans.{with_moved, without_moved, LeadsTo}
use Rattle.dc_plain.specs.Spots.{spot_at}
use Rattle.dc_plain.specs.Trees.{Tree, Spot, spot_cmp}
use Rattle.dc_plain.specs.declared.rows.Entry as rust_entry
use Rattle.dc_plain.proofs.Altered.{free_over}
use Rattle.dc_plain.proofs.Made.{spots_total, to_test}
use Rattle.dc_plain.proofs.Overs.{some_there}
use Rattle.dc_plain.proofs.Positions.{place_within, set_row}

module _ (from to : Spot) (there : Option Target) (t room made : Tree) (rows : made ≡ without_moved room from to there) (same : room ≡ t) (name : List ℕ) (is : name ≡ to.name) where
  way : made ≡ without_moved t from to there
  way = rows ∙ ap (λ u. without_moved u from to there) same

  -- once way was made the new name is free
  pub way_is_free : LeadsTo t to.dir to.name there → lookup spot_cmp (spot_at to.dir name) made.entries ≡ None
  way_is_free leads = (λ i. lookup spot_cmp (spot_at to.dir (is i)) (way i).entries) ∙ free_over t from to there leads

  -- with an entry under it the move is done
  pub moved_over : (moved : Target) (entries : List (Spot × ℕ)) → entries ≡ put spot_cmp (spot_at to.dir name) moved.0 made.entries → record made { entries = entries } ≡ with_moved t moved from to there
  moved_over moved entries e =
      let put_there = e ∙ (λ i. put spot_cmp (spot_at to.dir (is i)) moved.0 (way i).entries) in
      λ i. record { entries = put_there i; inodes = (way i).inodes; next = (way i).next }

-- two entries are written, one after the other
pub both_put : {es one two : List (Spot × ℕ)} {a b : List ℕ} (t : Tree) (from to : Spot) (m n : ℕ)
    → two ≡ put spot_cmp (spot_at to.dir b) m one → one ≡ put spot_cmp (spot_at from.dir a) n es → a ≡ from.name → b ≡ to.name → es ≡ t.entries
    → two ≡ put spot_cmp to m (put spot_cmp from n t.entries)
both_put t from to m n second first is_from is_to same =
    second ∙ (λ i. put spot_cmp (spot_at to.dir (is_to i)) m (first i)) ∙ (λ i. put spot_cmp to m (put spot_cmp (spot_at from.dir (is_from i)) n (same i)))

module _ (spot : Spot) (rows : List rust_entry.Entry) (sorted : IsTrue (is_sorted spot_cmp (map entry_shown rows))) (there : IsSome (lookup spot_cmp spot (map entry_shown rows)))
    (at : ℕ) (es : List rust_entry.Entry) (place : at ≡ position_by (spot_cmp spot) (map entry_shown es)) (same : es ≡ rows) where
  stood : (old : ℕ) × (lookup spot_cmp spot (map entry_shown rows) ≡ Some old)
  stood = some_there spot (map entry_shown rows) there

  here : at ≡ position_by (spot_cmp spot) (map entry_shown rows)
  here = place ∙ ap (λ (es : List rust_entry.Entry). position_by (spot_cmp spot) (map entry_shown es)) same

  -- an entry that is there stands within the rows
  pub entry_within : at < length rows
  entry_within =
      let within = place_within spot_cmp spots_total spot stood.0 (map entry_shown rows) (to_test _ sorted) stood.1 in
      let is = here in
      omega (arith, length-map rows entry_shown)

  -- with another target there it leads elsewhere
  pub entry_set : (target : ℕ) (new other : rust_entry.Entry) → entry_shown new ≡ ((entry_shown (get_or rows at other)).0, target)
      → map entry_shown (set rows at new) ≡ put spot_cmp spot target (map entry_shown rows)
  entry_set target new other is = set_row spot_cmp spots_total spot stood.0 entry_shown target new other rows at (to_test _ sorted) stood.1 here is
