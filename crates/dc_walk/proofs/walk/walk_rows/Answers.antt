use Rattle.std.proofs.Common.{None, length, refl, sym, ap}
use Rattle.dc_resolve.specs.Ends.{outcome_shown}
use Rattle.dc_table.specs.Holders.{table_of}
use Rattle.dc_table.specs.Passes.{view}
use Rattle.dc_walk.proofs.Ended.{started, serves_so, may_so, same_so, inside_so, went_so, stopped_so}
use Rattle.dc_walk.proofs.Rooms.{begins_with_words, path_fits}
use Rattle.dc_walk.proofs.Turns.{ended_pinned}
use Rattle.dc_walk.proofs.walk.walk_rows.Goals as goal

pub walk-walked-requires : goal.walk-walked-requires
walk-walked-requires g c = record { spend = begins_with_words c.args.used.now (length c.args.look.path.bytes.now) c.requires.empty.0 c.requires.empty.1 (path_fits c.args.look.path.bytes.now c.args.look.path.valid); may = λ f b n label need. (serves_so b.0 b.1.same.reader (λ s r. g.S.Source.serves s.now (table_of r)) c.requires.serves, may_so g.S.Source.locks _ f.rows (started _ (view c.args.pass.now) c.requires.can refl refl c.requires.empty.0) b.1 n label need) }

pub returns-in-Ok-clause-went : goal.returns-in-Ok-clause-went
returns-in-Ok-clause-went g c = let e = c.in-Ok.ensures in let b = e.kept.becomes.1 in let v = view c.args.pass.now in let good = b.good (started _ v c.requires.can refl refl c.requires.empty.0) in
    went_so _ _ _ v refl b.same b.walk 0 good.finding _ (c.pass-1.given.1 (sym b.same.pass)) _ (ap (λ used. used.items) (c.used-1.given.1 (sym b.same.used))) refl good.room
    (outcome_shown c.in-Ok.end) _ e.answer c.reply_of.ensures

pub returns-in-Ok-clause-pins : goal.returns-in-Ok-clause-pins
returns-in-Ok-clause-pins g c = let b = c.in-Ok.ensures.kept.becomes in
    ended_pinned g.S.Source.locks b.1.same None b.2 c.requires.empty.0 _ (c.pass-1.given.1 (sym b.1.same.pass)) _ (ap (λ used. used.items) (c.used-1.given.1 (sym b.1.same.used)))

pub returns-in-Ok-clause-same : goal.returns-in-Ok-clause-same
returns-in-Ok-clause-same g c = let b = c.in-Ok.ensures.kept.becomes.1 in let good = b.good (started _ (view c.args.pass.now) c.requires.can refl refl c.requires.empty.0) in
    same_so b.same 0 good.finding _ (c.pass-1.given.1 (sym b.same.pass))

pub returns-in-Ok-clause-rows : goal.returns-in-Ok-clause-rows
returns-in-Ok-clause-rows g c = let b = c.in-Ok.ensures.kept.becomes.1 in let good = b.good (started _ (view c.args.pass.now) c.requires.can refl refl c.requires.empty.0) in
    inside_so b.same 0 good.finding _ (ap (λ used. used.items) (c.used-1.given.1 (sym b.same.used)))

pub returns-in-Err-clause-stopped : goal.returns-in-Err-clause-stopped
returns-in-Err-clause-stopped g c = let b = c.in-Err.ensures.kept.stops.0 in
    stopped_so _ _ _ (view c.args.pass.now) refl _ b _ (c.pass-1.given.1 (sym b.same.pass)) _ (ap (λ used. used.items) (c.used-1.given.1 (sym b.same.used)))

pub returns-in-Err-clause-pins : goal.returns-in-Err-clause-pins
returns-in-Err-clause-pins g c = let b = c.in-Err.ensures.kept.stops in
    ended_pinned g.S.Source.locks b.0.same _ b.1 c.requires.empty.0 _ (c.pass-1.given.1 (sym b.0.same.pass)) _ (ap (λ used. used.items) (c.used-1.given.1 (sym b.0.same.used)))

pub returns-in-Err-clause-same : goal.returns-in-Err-clause-same
returns-in-Err-clause-same g c = let b = c.in-Err.ensures.kept.stops.0 in same_so b.same b.looks b.finding _ (c.pass-1.given.1 (sym b.same.pass))

pub returns-in-Err-clause-rows : goal.returns-in-Err-clause-rows
returns-in-Err-clause-rows g c = let b = c.in-Err.ensures.kept.stops.0 in inside_so b.same b.looks b.finding _ (ap (λ used. used.items) (c.used-1.given.1 (sym b.same.used)))
