use Rattle.std.proofs.Common.{◌≡◌, ◌+◌, ◌-◌, List, ℕ, ap, sym, subst, take, length, slice_range, ◌∙◌, arith}
use borrow.Rule.Slice.PartMut.{put_mid, take_put}
use Rattle.dc_names.specs.declared.limits.TheConstants.{ROW_WORDS}
use Rattle.dc_walk.specs.Rooms.{Kept}
use Rattle.dc_walk.proofs.Rooms.{next_begins, rows_kept}
use Rattle.dc_walk.proofs.used.Room.put.Goals as goal

pub returns-clause-same : goal.returns-clause-same
returns-clause-same c = let r = c.self.inside in let is = c.self.invariant in let size = is.size in let fits = is.fits in let few = c.requires.few in let k = length c.args.first.now in (
  rows_kept is (put_mid r.end (r.end + k - r.end) r.words c.copy_from_slice.new.self) (take_put r.end (r.end + k - r.end) r.words c.copy_from_slice.new.self (omega arith)) ∙ ap (λ (x : Kept). x.items) c.self.view_is,
  ap (λ (x : Kept). x.spent) c.self.view_is,
)

pub returns-clause-first : goal.returns-clause-first
returns-clause-first c = let r = c.self.inside in let is = c.self.invariant in let size = is.size in let fits = is.fits in let k = length c.args.first.now in
    subst (λ (ws : List ℕ). take k (slice_range (put_mid r.end (r.end + k - r.end) r.words ws) r.end (r.end + ROW_WORDS)) ≡ c.args.first.now) (sym c.copy_from_slice.ensures.after)
    (next_begins r.words c.args.first.now r.end (r.end + k - r.end) (omega arith) c.requires.few)
