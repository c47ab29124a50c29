use Rattle.std.proofs.Common.{take}
use Rattle.std.specs.Io.KnownBytes.{Appends}
use Rattle.dc_serve.specs.Bytes.{bytes_of}
use Rattle.dc_serve.proofs.bytes.write_texts.Given as goal

-- the texts so far were written
abbrev pub invariant-loop-text : goal.invariant-loop-text
invariant-loop-text g l = Appends (g.W.Write.contents l.fn.writer) (g.W.Write.contents l.writer) (bytes_of (take l.text-index l.texts))
