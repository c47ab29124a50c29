use Rattle.std.proofs.Common.{◌≡◌, ◌++◌, map, take}
use Rattle.dc_lang.specs.Words.{spelled}
use Rattle.dc_lang.specs.Writing.{behind_spaces}
use Rattle.dc_lang.proofs.write.push_words.Given as goal

abbrev pub invariant-loop-word : goal.invariant-loop-word
invariant-loop-word l = l.out.items ≡ l.initial.out.items ++ behind_spaces (map spelled (map (λ word. word.items) (take l.word-index l.words)))
