use Rattle.std.proofs.Common.{false, length, map, refl, sym, subst}
use Rattle.std.proofs.lemmas.List.{length-map}
use Rattle.dc_plain.specs.Requests.{answer_of}
use Rattle.dc_plain.specs.Trees.{Tree, told_of}
use Rattle.dc_events.specs.Standing.{tree_of}
use Rattle.dc_table.specs.Passes.{share, view}
use Rattle.dc_table.specs.Shares.{Share}
use Rattle.dc_walk.specs.Findings.{buckets_of, view_in}
use Rattle.dc_walk.specs.Finds.{use_shown}
use Rattle.dc_walk.specs.Placing.{AreTrue}
use Rattle.dc_walk.specs.declared.answer.Fast.TheVariants.{Done}
use Rattle.dc_walk.proofs.Answered.{walked}
use Rattle.dc_walk.proofs.Trues.{tree_tells}
use Rattle.dc_walk.proofs.along.walk_fast_along.Goals as goal

pub returns-in-Done-clause-told : goal.returns-in-Done-clause-told
returns-in-Done-clause-told c = let a = c.args in let room = c.walk_rows_along.new.used in let went = c.in-Ok.ensures.went in let were = c.in-Done.ensures.were in
    let t : Tree = tree_of (share a.pass.now).limit were.counts.history in
    let all : AreTrue t room = subst (λ (s : Share). AreTrue (tree_of s.limit were.counts.history) room) c.walk_rows_along.ensures.same.0.same_share were.all in
    let walks = walked false a.look (buckets_of a.pass.now) (view a.pass.now) (view c.settle.new.pass) (view_in c.in-Ok.along.begun c.walk_rows_along.new.pass a.look) (map use_shown room.items) (answer_of c.in-Ok.along.reply)
    (length room.items) (sym (length-map room.items use_shown)) went.went (Done c.in-Done.stamped) c.in-Done.ensures.settles in record {
      recorded = (walks.free refl).keeps;
      counts = were.counts;
      has = record { few = went.few; trail = sym (went.trail (told_of t) (tree_tells t room all)) };
    }
