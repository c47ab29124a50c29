use Rattle.std.proofs.Common.{◌≡◌, false, length, refl, sym, ap}
use Rattle.dc_resolve.specs.Ends.{outcome_shown}
use Rattle.dc_table.specs.Passes.{view}
use Rattle.dc_trail.specs.declared.halt.Halt.TheVariants as halts
use Rattle.dc_walk.proofs.along.walk_rows_along.Tie.{ghosts-1-0-0-0}
use Rattle.dc_walk.proofs.Ended.{started, may_so, same_so, inside_so, went_so, stopped_so, lacked_so, by_finder, by_places, no_place}
use Rattle.dc_walk.proofs.Rooms.{begins_with_words, path_fits}
use Rattle.dc_walk.proofs.Trues.{trail_in}
use Rattle.dc_walk.proofs.along.walk_rows_along.Goals as goal

pub walk_along-walked-requires : goal.walk_along-walked-requires
walk_along-walked-requires c = record { spend = begins_with_words c.args.used.now (length c.args.look.path.bytes.now) c.requires.empty.0 c.requires.empty.1 (path_fits c.args.look.path.bytes.now c.args.look.path.valid); may = λ f b n label need. (tt, may_so false _ f.rows (started _ (view c.args.pass.now) c.requires.can refl refl c.requires.empty.0) b.1 n label need) }

pub returns-in-Ok-clause-went : goal.returns-in-Ok-clause-went
returns-in-Ok-clause-went c = let e = c.in-Ok.ensures in let b = e.kept.1 in let v = view c.args.pass.now in let good = b.good (started _ v c.requires.can refl refl c.requires.empty.0) in
    let items = ap (λ used. used.items) (c.used-1.given.1 (sym b.same.used)) in record {
      went = went_so _ _ _ v refl b.same b.walk 0 good.finding _ (c.pass-1.given.1 (sym b.same.pass)) _ items refl good.room (outcome_shown c.in-Ok.end) _ e.answer c.reply_of.ensures;
      few = e.trail.0;
      trail = trail_in items c.args.look.base c.args.look.path.bytes.now c.args.look.follow _ e.trail.1;
    }

pub returns-in-Err-Finder-clause-halted : goal.returns-in-Err-Finder-clause-halted
returns-in-Err-Finder-clause-halted c = let x = c.in-Err-Finder in let same : x.field-0 ≡ halts.Finder x.stop = cc in
    let b = by_finder (ghosts-1-0-0-0 c.walk_along-walked.lifetimes) _ c.walk_along-walked.new.finder x.field-0 x.stop same x.ensures-1.kept in
    stopped_so _ _ _ (view c.args.pass.now) refl _ b.0 _ (c.pass-1.given.1 (sym b.0.same.pass)) _ (ap (λ used. used.items) (c.used-1.given.1 (sym b.0.same.used)))

pub returns-in-Err-Full-clause-halted : goal.returns-in-Err-Full-clause-halted
returns-in-Err-Full-clause-halted c = let x = c.in-Err-Full in let same : x.field-0 ≡ halts.Full = cc in let v = view c.args.pass.now in
    let b = by_places (ghosts-1-0-0-0 c.walk_along-walked.lifetimes) _ c.walk_along-walked.new.finder x.field-0 same x.ensures-1.kept in
    lacked_so _ _ v refl b.1 (b.1.good (started _ v c.requires.can refl refl c.requires.empty.0)) _ (c.pass-1.given.1 (sym b.1.same.pass)) _ (ap (λ used. used.items) (c.used-1.given.1 (sym b.1.same.used))) _ (no_place x.field-0 _ same x.ensures-1.full)
