use Rattle.dc_core.specs.Shown.{state_of}
use Rattle.dc_core.proofs.Tests.{by_act}
use Rattle.dc_core.proofs.state.State.step.Goals as goal

-- the other eight are found by the search, which is given `by_act` too

pub returns-in-Shut : goal.returns-in-Shut
returns-in-Shut c = by_act (state_of c.args.self.now) (state_of c.shut.new.self) c.args.event.actor _ _ c.shut.result c.in-Shut.is c.shut.ensures

pub returns-in-Write : goal.returns-in-Write
returns-in-Write c = by_act (state_of c.args.self.now) (state_of c.write.new.self) c.args.event.actor _ _ c.write.result c.in-Write.is c.write.ensures

pub returns-in-Open : goal.returns-in-Open
returns-in-Open c = by_act (state_of c.args.self.now) (state_of c.open.new.self) c.args.event.actor _ _ c.open.result c.in-Open.is c.open.ensures

pub returns-in-Commit : goal.returns-in-Commit
returns-in-Commit c = by_act (state_of c.args.self.now) (state_of c.commit.new.self) c.args.event.actor _ _ c.commit.result c.in-Commit.is c.commit.ensures

pub returns-in-Note : goal.returns-in-Note
returns-in-Note c = by_act (state_of c.args.self.now) (state_of c.note.new.self) c.args.event.actor _ _ c.note.result c.in-Note.is c.note.ensures
