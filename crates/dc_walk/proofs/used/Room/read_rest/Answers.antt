use Rattle.std.proofs.Common.{List, ℕ, ap, sym, subst, take, ◌∙◌}
use Rattle.dc_table.specs.Passes.{view}
use Rattle.dc_walk.specs.Probes.{HasRead, ReadsFirst}
use Rattle.dc_walk.specs.Rooms.{Kept}
use Rattle.dc_walk.proofs.Rooms.{put_is, put_size, rows_put}
use Rattle.dc_walk.proofs.used.Room.read_rest.Goals as goal

pub returns-clause-items : goal.returns-clause-items
returns-clause-items c =
    (rows_put c.self.invariant c.read_words.new.words _ ∙ ap (λ (k : Kept). k.items) c.self.view_is, ap (λ (k : Kept). k.spent) c.self.view_is)

pub returns-clause-size : goal.returns-clause-size
returns-clause-size c = put_size c.self.invariant c.read_words.new.words _ c.read_words.ensures.reading.has.size

pub returns-clause-top : goal.returns-clause-top
returns-clause-top c =
    ap (take 3) (put_is c.self.invariant c.read_words.new.words _ c.read_words.ensures.reading.has.size) ∙ (c.read_words.ensures.before ∙ ap (λ (k : Kept). take 3 k.next) c.self.view_is)

pub returns-clause-read : goal.returns-clause-read
returns-clause-read c v h =
    let first = c.read_words.ensures.read v (subst (λ (k : Kept). HasRead v (view c.args.pass.now) c.args.row k.next 3) (sym c.self.view_is) h) in
    subst (λ (words : List ℕ). ReadsFirst v (view c.are_past.new.pass) c.args.row (take c.args.told words) c.are_past.result)
    (sym (put_is c.self.invariant c.read_words.new.words _ first.size)) (c.are_past.ensures.read v first)
