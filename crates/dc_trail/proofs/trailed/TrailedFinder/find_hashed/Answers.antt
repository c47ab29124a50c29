use Rattle.std.proofs.Common.{refl}
use Rattle.dc_names.specs.Names.{part_shown}
use Rattle.dc_trail.proofs.Asking.{goes_asked}
use Rattle.dc_trail.proofs.trailed.TrailedFinder.find_hashed.Goals as goal

pub returns-in-Ok-clause-becomes : goal.returns-in-Ok-clause-becomes
returns-in-Ok-clause-becomes g c = let in_time = c.in-Some.ensures.entered in
    goes_asked g.F.Finder g.met.F.Finder.keeps c.args.self.now _ c.args.dir (part_shown c.args.part) (record { finder = refl; numbers = refl; question = refl; places = c.enter.ensures.places }) c.requires.asked c.requires.may in_time.0 in_time.1 c.in-Ok.ensures.becomes
