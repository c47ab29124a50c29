-- Where the names of a change lead after it, and that the tree is another one.
use Rattle.std.proofs.Common.{◌≡◌, ◌≢◌, ℕ, ◌+◌, true, false, Option, Some, None, Ok, not, cond, refl, ap, sym, ◌∙◌, arith, subst}
use Rattle.std.specs.Ordering.{eq_by_cmp}
use Rattle.std.specs.FinMap.Entries.{find-put}
use Rattle.dc_plain.specs.declared.plan.Change as rust_change
use Rattle.dc_plain.specs.declared.plan.Change.TheVariants as changes
use Rattle.dc_plain.specs.declared.plan.Plan as rust_plan
use Rattle.dc_plain.specs.declared.plan.Plan.TheVariants as plans
use Rattle.dc_plain.specs.Facts.{Target}
use Rattle.dc_plain.specs.Trees.{Tree, Spot, spot_cmp, entry_number}
use Rattle.dc_plain.specs.Effects.{with_entry_for, without_entry, without_entry_alone}
use Rattle.dc_plain.specs.Operations.{change_of, settled, same_inode}
use Rattle.dc_plain.specs.Requests.{Request}
use Rattle.dc_plain.specs.Runs.{Alters}
use Rattle.dc_plain.specs.Spots.{spot_shown}
use Rattle.dc_plain.specs.Plans.{changed, planned, without_moved, LeadsTo, HasSpots, HasSpotsIfChange}
use Rattle.dc_plain.proofs.Holders.{decided_not}
use Rattle.dc_plain.proofs.Made.{spots_total}
use Rattle.dc_plain.proofs.Removed.{either_left}
use Rattle.dc_plain.proofs.SameFacts.{tied}
use Rattle.dc_plain.proofs.Takes.{lookup-take}

-- an entry that was put in leads where it was to lead
put_target : (t : Tree) (spot : Spot) (n : ℕ) → entry_number (with_entry_for t spot.dir spot.name n) spot ≡ Some n
put_target t spot n = find-put spot_cmp spots_total spot spot n t.entries ∙ rw (tied spot.dir spot.name) refl

-- one that was taken leads nowhere
taken_target : (t : Tree) (spot : Spot) (n : ℕ) → entry_number (without_entry t spot.dir spot.name n) spot ≡ None
taken_target t spot n =
    let gone = lookup-take spot_cmp spots_total spot spot t.entries ∙ rw (tied spot.dir spot.name) refl in
    either_left (λ u. entry_number u spot ≡ None) t spot.dir spot.name n gone gone

-- one that leads nowhere still does if another is taken
still_free : (t : Tree) (spot other : Spot) → entry_number t spot ≡ None → entry_number (without_entry_alone t other.dir other.name) spot ≡ None
still_free t spot other free =
    lookup-take spot_cmp spots_total other spot t.entries ∙ ap (λ o. cond (not (eq_by_cmp spot_cmp other spot)) o None) free
    ∙ elim (eq_by_cmp spot_cmp other spot) as (λ b. cond {A = Option ℕ} (not b) None None ≡ None) [ true ↦ refl | false ↦ refl ]

-- the new name is free once what stood there went
pub free_over : (t : Tree) (from to : Spot) (there : Option Target) → LeadsTo t to.dir to.name there
    → entry_number (without_moved t from to there) to ≡ None
free_over t from to None leads = still_free t to from leads
free_over t from to (Some place) leads = still_free (without_entry t to.dir to.name place.0) to from (taken_target t to place.0)

-- two trees differ if an entry leads elsewhere
apart_by : (t u : Tree) (spot : Spot) → entry_number u spot ≢ entry_number t spot → u ≢ t
apart_by t u spot other same = other (ap (λ v. entry_number v spot) same)

-- the moved inode is another than what stood at the new name
new_there : (t : Tree) (to : Spot) (moved : Target) (there : Option Target) → LeadsTo t to.dir to.name there → same_inode moved there ≡ false → Some moved.0 ≢ entry_number t to
new_there t to moved None leads apart same = cc
new_there t to moved (Some place) leads apart same = let one : moved.0 ≡ place.0 = cc in decided_not moved.0 place.0 apart one

altered : (t : Tree) (change : rust_change.Change) → HasSpots t change → (changed t change).1 ≢ t
altered t (changes.Make spot new) spots = λ same. let next : t.next + 1 ≡ t.next = ap (λ (v : Tree). v.next) same in absurd (omega arith)
altered t (changes.Link spot number) spots = apart_by t _ (spot_shown spot) (λ same. let there = put_target t (spot_shown spot) number in cc)
altered t (changes.Drop spot number) spots = apart_by t _ (spot_shown spot) (λ same. let gone = taken_target t (spot_shown spot) number in cc)
altered t (changes.Move moved from to there) spots =
    let rest = without_moved t (spot_shown from) (spot_shown to) there in
    apart_by t _ (spot_shown to) (λ same. new_there t (spot_shown to) moved there spots.0 spots.1 (sym (put_target rest (spot_shown to) moved.0) ∙ same))
altered t (changes.Swap moved from to there) spots =
    let half = with_entry_for t (spot_shown from).dir (spot_shown from).name there.0 in
    apart_by t _ (spot_shown to) (λ same. let both : Some moved.0 ≡ Some there.0 = sym (put_target half (spot_shown to) moved.0) ∙ same ∙ spots.1 in let one : moved.0 ≡ there.0 = cc in spots.2 one)

pub found_alters : (limit : ℕ) (t : Tree) (request : Request) (plan : rust_plan.Plan) (change : rust_change.Change) → plan ≡ plans.Change change
    → change_of limit t request ≡ Ok (planned t plan) → HasSpotsIfChange t plan → Alters limit t request
found_alters limit t request plan change is found spots same =
    altered t change (subst (HasSpotsIfChange t) is spots) (sym (ap (λ r. (settled t r).1) (found ∙ ap (λ p. Ok (planned t p)) is)) ∙ same)
