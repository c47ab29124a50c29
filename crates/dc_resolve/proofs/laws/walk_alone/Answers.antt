use Rattle.dc_names.specs.Paths.{path_in}
use Rattle.dc_plain.specs.Facts.{told_by}
use Rattle.dc_plain.specs.Places.{walk}
use Rattle.std.proofs.Common.{[], false, sym}
use Rattle.dc_resolve.specs.Unasked.{nothing_stays}
use Rattle.dc_resolve.proofs.Alone.{never, untold}
use Rattle.dc_resolve.proofs.laws.walk_alone.Goals as goal

pub walk-requires : goal.walk-requires
walk-requires c = record { may = λ f on n label need. absurd (never (walk (told_by []) c.args.base (path_in c.args.path.bytes.now) c.args.follow) c.requires (need (told_by []) (nothing_stays f.stopped false (sym on)) (untold n label))); spend = tt }

pub returns : goal.returns
returns c = sym (c.in-Ok.ensures.answer (told_by []) (nothing_stays _ false (sym c.in-Ok.ensures.kept.becomes)))
