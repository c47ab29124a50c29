use Rattle.std.proofs.Common.{◌≡◌, [], take}
use Rattle.dc_cache.specs.Passes.{share, Fits}
use Rattle.dc_lang.specs.Phases.{ordered_by}
use Rattle.dc_serve.specs.Sessions.{Obeyed, progress}
use Rattle.dc_serve.specs.Threads.{book}
use Rattle.dc_serve.proofs.session.Phase.serve_lines.Given as goal

-- the lines so far were answered
abbrev pub invariant-loop-at : goal.invariant-loop-at
invariant-loop-at g l = record {
  fits : Fits l.self.cache.now l.pass;
  same_share : share l.pass ≡ share l.fn.pass;
  obeyed : Obeyed (book l.fn.pass) (progress [] l.base) (ordered_by l.session (take l.at l.self.lines.now)) (progress l.replies.text.items l.replies.base) (book l.pass);
}
