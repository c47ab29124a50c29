use Rattle.std.proofs.Common.{map, take}
use Rattle.dc_cache.specs.Passes.{known, share, Fits}
use Rattle.dc_lang.specs.Phases.{ordered}
use Rattle.dc_serve.specs.Rounds.{Goes}
use Rattle.dc_serve.proofs.serve.serve_phases.Given as goal

-- the phases so far were served, and the replies to them written
abbrev pub invariant-loop-lines : goal.invariant-loop-lines
invariant-loop-lines g l = record {
  fits : Fits l.cache l.pass;
  goes : Goes (share l.fn.pass).limit l.bases (take l.lines-index (map (λ phase. ordered phase.now) l.phases)) (g.W.Write.contents l.fn.writer) (g.W.Write.contents l.writer) (known l.pass);
}
