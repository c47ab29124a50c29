use Rattle.std.proofs.Common.{refl}
use Rattle.dc_trail.proofs.Asking.{goes_text}
use Rattle.dc_trail.proofs.trailed.TrailedFinder.link_text.Goals as goal

pub returns-in-Ok-clause-becomes : goal.returns-in-Ok-clause-becomes
returns-in-Ok-clause-becomes g c = goes_text g.F.Finder g.met.F.Finder.keeps c.args.self.now _ (record { finder = refl; numbers = refl; question = refl; places = refl }) refl refl c.in-Ok.ensures.becomes
